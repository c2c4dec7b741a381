use Rattle.std.proofs.Common.{◌≡◌, ℕ, ◌+◌, Vec, Global, [], refl, sym, ap, ◌∙◌, subst}
use Rattle.std.specs.Prelude.{slice_index_or as get_or}
use Rattle.std.specs.List.{Contains}
use Rattle.std.proofs.lemmas.Option.{slice_get-get_or}
use Rattle.method_ties.specs.Sides.{IsLower}
use Rattle.method_ties.proofs.Firsts.{Gathers, gathers_push, gathers_skip, gathers_alone}
use Rattle.method_ties.proofs.meet.lower_of.Goals as goal
use Rattle.method_ties.proofs.meet.lower_of.Goals.{then-is_lower+in_ok-push, else-is_lower}

pub loop-m-preserved : goal.loop-m-preserved
loop-m-preserved c =
    let items = c.args.methods.now in
    let i = c.loop-m.m-index in
    let x = get_or items i 0 in
    let at = slice_get-get_or items i 0 c.loop-m-test.true in
    let out = c.loop-m.lower.items in
    let P = λ (x m : ℕ). (m ≡ x) × IsLower c.args.w.now c.args.c x in
    elim c.if-is_lower.branch [
      | then-is_lower+in_ok-push v ↦
          gathers_push P [] items out c.if-is_lower.lower.items i x x c.loop-m.invariant at (ap (λ (v : Vec ℕ Global). v.items) v.lower-is ∙ v.in_ok-push.ensures.items)
          (refl, c.is_lower.ensures.0 v.if-is_lower.true) (λ y h. h.0)
      | else-is_lower v ↦ subst (λ (u : Vec ℕ Global). Gathers P [] items u.items (i + 1)) (sym v.lower-is)
          (gathers_skip P [] items out i x c.loop-m.invariant at (λ y h. let yes = c.is_lower.ensures.1 h.1 in absurd (cc (yes, v.if-is_lower.false))))
    ]

pub returns-clause-has : goal.returns-clause-has
returns-clause-has c m =
    let items = c.args.methods.now in
    let P = λ (x m : ℕ). (m ≡ x) × IsLower c.args.w.now c.args.c x in
    let has = gathers_alone P items c.loop-m.lower.items c.loop-m.m-index c.loop-m-test.false c.loop-m.invariant m in
    let moved = c.ascending.ensures.has m in (
      λ h. let t = has.0 (moved.0 h) in (subst (Contains items) (sym t.2.0) t.1, subst (IsLower c.args.w.now c.args.c) (sym t.2.0) t.2.1),
      λ h. moved.1 (has.1 (m, h.0, (refl, h.1))),
    )
