use Rattle.std.proofs.Common.{slice_index_or, refl}
use Rattle.class_world.specs.Overriding.{Overriding}
use Rattle.inherited_rules.specs.Rules.{IsAbstractMethod}
use Rattle.inherited_rules.proofs.Named.{next_clear, all_clear, has_item}
use Rattle.inherited_rules.proofs.bodies.is_one_body.Goals as goal
use Rattle.inherited_rules.proofs.bodies.is_one_body.Goals.{else-not-is_abstract-via-then-not-is_abstract+else-overrides, else-not-is_abstract-via-else-not-is_abstract}

pub returns-then-overrides : goal.returns-then-overrides
returns-then-overrides c =
    let w = c.args.w.now in
    let ms = c.args.methods.now in
    let k = slice_index_or ms c.loop-k.k-index 0 in
    (λ h. (k, has_item ms c.loop-k.k-index c.loop-k-test.true, λ bare. let never = c.if-not-is_abstract.ensures.1 bare in cc never, (c.if-overrides.ensures w c.requires).0 refl), λ h. refl)

pub loop-k-preserved : goal.loop-k-preserved
loop-k-preserved c =
    let w = c.args.w.now in
    next_clear (λ k. (IsAbstractMethod w k → ⊥) × Overriding w k c.args.m) c.args.methods.now c.loop-k.k-index c.loop-k.invariant c.loop-k-test.true (λ body. elim c.else-not-is_abstract.branch [
      | else-not-is_abstract-via-then-not-is_abstract+else-overrides v ↦
          let yes = (v.overrides.ensures w c.requires).1 body.1 in cc (yes, v.if-overrides.false)
      | else-not-is_abstract-via-else-not-is_abstract v ↦ body.0 (c.is_abstract.ensures.0 v.if-not-is_abstract.false)
    ])

pub returns : goal.returns
returns c =
    let w = c.args.w.now in (
      λ h. absurd (cc h),
      λ h. absurd (all_clear (λ k. (IsAbstractMethod w k → ⊥) × Overriding w k c.args.m) c.args.methods.now c.loop-k.k-index c.loop-k.invariant c.loop-k-test.false h.0 h.1 (h.2, h.3)),
    )
