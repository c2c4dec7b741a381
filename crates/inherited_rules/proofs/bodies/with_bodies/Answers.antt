use Rattle.std.proofs.Common.{ℕ, ◌+◌, Vec, Global, get_or, sym, ap, ◌∙◌, subst}
use Rattle.std.proofs.lemmas.Option.{slice_get-get_or}
use Rattle.member_methods.proofs.Firsts.{Keeps, all_kept, push_kept, skip_kept}
use Rattle.inherited_rules.specs.Rules.{IsAbstractMethod}
use Rattle.inherited_rules.proofs.bodies.with_bodies.Goals as goal
use Rattle.inherited_rules.proofs.bodies.with_bodies.Goals.{then-not-is_abstract+in_ok-push, else-not-is_abstract}

pub loop-k-preserved : goal.loop-k-preserved
loop-k-preserved c =
    let ms = c.args.methods.now in
    let i = c.loop-k.k-index in
    let k = get_or ms i 0 in
    let at = slice_get-get_or ms i 0 c.loop-k-test.true in
    let P = λ (k : ℕ). IsAbstractMethod c.args.w.now k → ⊥ in
    elim c.if-not-is_abstract.branch [
      | then-not-is_abstract+in_ok-push v ↦
          push_kept P ms c.loop-k.found.items c.if-not-is_abstract.found.items i k c.loop-k.invariant at (λ bare. let yes = c.is_abstract.ensures.1 bare in cc (yes, v.if-not-is_abstract.true))
          (ap (λ (v : Vec ℕ Global). v.items) v.found-is ∙ v.in_ok-push.ensures.items)
      | else-not-is_abstract v ↦ subst (λ (u : Vec ℕ Global). Keeps P ms u.items (i + 1)) (sym v.found-is)
          (skip_kept P ms c.loop-k.found.items i k c.loop-k.invariant at (λ body. body (c.is_abstract.ensures.0 v.if-not-is_abstract.false)))
    ]

pub returns-clause-has : goal.returns-clause-has
returns-clause-has c k =
    let kept = all_kept (λ k. IsAbstractMethod c.args.w.now k → ⊥) c.args.methods.now c.loop-k.found.items c.loop-k.k-index c.loop-k-test.false c.loop-k.invariant k in
    let moved = c.ascending.ensures.has k in
    (λ h. kept.0 (moved.0 h), λ h. moved.1 (kept.1 h))
