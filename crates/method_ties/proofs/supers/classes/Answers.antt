use Rattle.std.proofs.Common.{◌≡◌, ℕ, ◌+◌, Vec, Global, [], refl, sym, ap, ◌∙◌, subst}
use Rattle.std.specs.Prelude.{slice_index_or as get_or}
use Rattle.std.proofs.lemmas.Option.{slice_get-get_or}
use Rattle.class_world.specs.Overriding.{IsClass}
use Rattle.method_ties.proofs.Firsts.{Gathers, gathers_push, gathers_skip, gathers_kept}
use Rattle.method_ties.proofs.supers.classes.Goals as goal
use Rattle.method_ties.proofs.supers.classes.Goals.{then-is_class+in_ok-push, else-is_class}

pub loop-s-preserved : goal.loop-s-preserved
loop-s-preserved c =
    let items = c.args.types.now in
    let i = c.loop-s.s-index in
    let x = get_or items i 0 in
    let at = slice_get-get_or items i 0 c.loop-s-test.true in
    let out = c.loop-s.classes.items in
    let P = λ (x s : ℕ). (s ≡ x) × IsClass c.args.w.now x in
    elim c.if-is_class.branch [
      | then-is_class+in_ok-push v ↦
          gathers_push P [] items out c.if-is_class.classes.items i x x c.loop-s.invariant at (ap (λ (v : Vec ℕ Global). v.items) v.classes-is ∙ v.in_ok-push.ensures.items)
          (refl, c.is_class.ensures.0 v.if-is_class.true) (λ y h. h.0)
      | else-is_class v ↦ subst (λ (u : Vec ℕ Global). Gathers P [] items u.items (i + 1)) (sym v.classes-is)
          (gathers_skip P [] items out i x c.loop-s.invariant at (λ y h. let yes = c.is_class.ensures.1 h.1 in absurd (cc (yes, v.if-is_class.false))))
    ]

pub returns : goal.returns
returns c = gathers_kept (IsClass c.args.w.now) c.args.types.now c.loop-s.classes.items c.loop-s.s-index c.loop-s-test.false c.loop-s.invariant
