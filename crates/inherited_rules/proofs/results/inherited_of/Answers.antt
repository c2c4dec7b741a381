use Rattle.std.proofs.Common.{ℕ, ◌+◌, Vec, Global, get_or, sym, ap, ◌∙◌, subst}
use Rattle.std.proofs.lemmas.Option.{slice_get-get_or}
use Rattle.class_world.specs.Inheritance.{DeclaresMethod}
use Rattle.member_methods.proofs.Firsts.{Keeps, all_kept, push_kept, skip_kept}
use Rattle.inherited_rules.proofs.results.inherited_of.Goals as goal
use Rattle.inherited_rules.proofs.results.inherited_of.Goals.{then-not-declares+in_ok-push, else-not-declares}

pub loop-k-preserved : goal.loop-k-preserved
loop-k-preserved c =
    let ms = c.args.members.now in
    let i = c.loop-k.k-index in
    let k = get_or ms i 0 in
    let at = slice_get-get_or ms i 0 c.loop-k-test.true in
    let P = λ (k : ℕ). DeclaresMethod c.args.w.now c.args.c k → ⊥ in
    elim c.if-not-declares.branch [
      | then-not-declares+in_ok-push v ↦
          push_kept P ms c.loop-k.found.items c.if-not-declares.found.items i k c.loop-k.invariant at (λ own. let yes = c.declares.ensures.1 own in cc (yes, v.if-not-declares.true))
          (ap (λ (v : Vec ℕ Global). v.items) v.found-is ∙ v.in_ok-push.ensures.items)
      | else-not-declares v ↦ subst (λ (u : Vec ℕ Global). Keeps P ms u.items (i + 1)) (sym v.found-is)
          (skip_kept P ms c.loop-k.found.items i k c.loop-k.invariant at (λ other. other (c.declares.ensures.0 v.if-not-declares.false)))
    ]

pub returns-clause-has : goal.returns-clause-has
returns-clause-has c k =
    let kept = all_kept (λ k. DeclaresMethod c.args.w.now c.args.c k → ⊥) c.args.members.now c.loop-k.found.items c.loop-k.k-index c.loop-k-test.false c.loop-k.invariant k in
    let moved = c.ascending.ensures.has k in (
      λ h. let t = kept.0 (moved.0 h) in ((c.requires k).0 t.0, t.1),
      λ h. moved.1 (kept.1 ((c.requires k).1 h.0, h.1)),
    )
