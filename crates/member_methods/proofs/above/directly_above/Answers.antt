use Rattle.std.proofs.Common.{◌≡◌, ℕ, Some, inl, inr, refl, sym, ap, ◌∙◌}
use Rattle.std.specs.Prelude.{slice_get}
use Rattle.std.specs.Option.{option_copied}
use Rattle.std.proofs.lemmas.Bool.{true≢false}
use Rattle.class_world.specs.Access.{IsInterface}
use Rattle.class_world.proofs.Collected.{item_at}
use Rattle.member_methods.proofs.Direct.{above_none, above_push, above_skip, other_class, superinterfaces, above_object, above_plain}
use Rattle.member_methods.proofs.above.directly_above.Goals as goal
use Rattle.member_methods.proofs.above.directly_above.Goals.{in-Class+then-is_interface+in_ok-push, in-Class+else-is_interface+in_ok-push-2, in_default-d}
use Rattle.member_methods.proofs.above.directly_above.Goals.{then-info+then-is_empty+in_ok-push-3, else-info, else-info-via-then-info+else-is_empty, else-info-via-else-info}

pub loop-d-init : goal.loop-d-init
loop-d-init c =
    let w = c.args.w.now in
    let items = c.as_slice-d-items.result.now in
    record {
      interfaces = above_none (IsInterface w) items c.new-interfaces.result.items c.new-interfaces.ensures.items;
      others = above_none (λ s. IsInterface w s → ⊥) items c.new-others.result.items c.new-others.ensures.items;
    }

pub loop-d-preserved : goal.loop-d-preserved
loop-d-preserved c =
    let w = c.args.w.now in
    let Is : ℕ → Type 0 = IsInterface w in
    let Not : ℕ → Type 0 = λ s. IsInterface w s → ⊥ in
    let items = c.as_slice-d-items.result.now in
    let d = c.d-item.result in
    let i = c.loop-d.d-index in
    let before = c.loop-d.invariant in
    let at = item_at items items i d refl c.loop-d-test.true c.d-item.is in
    elim c.match-d.branch [
      | in-Class+then-is_interface+in_ok-push v ↦
          let holds = v.is_interface.ensures.0 v.if-is_interface.true in
          let skipped = above_skip Not items c.loop-d.others.items i d before.others at (other_class Not d v.in-Class.g _ v.in-Class.is (λ not. not holds)) in
          record {
            interfaces = above_push Is items c.loop-d.interfaces.items c.match-d.interfaces.items i v.in-Class.g d _ before.interfaces at v.in-Class.is holds (ap (λ x. x.items) v.interfaces-is ∙ v.in_ok-push.ensures.items);
            others = rw v.others-is skipped;
          }
      | in-Class+else-is_interface+in_ok-push-2 v ↦
          let not : Not v.in-Class.g = λ h. true≢false (sym (v.is_interface.ensures.1 h) ∙ v.if-is_interface.false) in
          let skipped = above_skip Is items c.loop-d.interfaces.items i d before.interfaces at (other_class Is d v.in-Class.g _ v.in-Class.is not) in
          record {
            interfaces = rw v.interfaces-is skipped;
            others = above_push Not items c.loop-d.others.items c.match-d.others.items i v.in-Class.g d _ before.others at v.in-Class.is not (ap (λ x. x.items) v.others-is ∙ v.in_ok-push-2.ensures.items);
          }
      | in_default-d v ↦
          let interfaces = above_skip Is items c.loop-d.interfaces.items i d before.interfaces at (λ g xs is h. v.in_default-d.not-Class g xs is) in
          let others = above_skip Not items c.loop-d.others.items i d before.others at (λ g xs is h. v.in_default-d.not-Class g xs is) in
          record { interfaces = rw v.interfaces-is interfaces; others = rw v.others-is others }
    ]

pub returns-clause-interfaces : goal.returns-clause-interfaces
returns-clause-interfaces c =
    let w = c.args.w.now in
    let info = c.in-Some.info.now in
    let known : slice_get w.types c.args.c ≡ Some info = sym c.get.ensures.value ∙ ap option_copied c.in-Some.is in
    superinterfaces w c.args.c info c.as_slice-d-items.result.now c.loop-d.d-index known c.as_slice-d-items.ensures c.loop-d-test.false c.loop-d.interfaces.items c.loop-d.invariant.interfaces

pub returns-clause-all : goal.returns-clause-all
returns-clause-all c =
    let w = c.args.w.now in
    let info = c.in-Some.info.now in
    let items = c.as_slice-d-items.result.now in
    let above = c.loop-d.interfaces.items in
    let others = c.loop-d.others.items in
    let i = c.loop-d.d-index in
    let known : slice_get w.types c.args.c ≡ Some info = sym c.get.ensures.value ∙ ap option_copied c.in-Some.is in
    let supers = c.as_slice-d-items.ensures in
    let full = c.loop-d-test.false in
    let are = c.loop-d.invariant in
    elim c.if-info.branch [
      | then-info+then-is_empty+in_ok-push-3 v ↦
          above_object w c.args.c info items i known supers full above others are.interfaces are.others c.if-info.others.items v.if-info.true (v.is_empty.ensures.0 v.if-is_empty.true) (ap (λ x. x.items) v.others-is ∙ v.in_ok-push-3.ensures.items)
      | else-info v ↦ rw v.others-is (above_plain w c.args.c info items i known supers full above others are.interfaces are.others (elim v.else-info.branch [
        | else-info-via-then-info+else-is_empty u ↦ inr (λ none. true≢false (sym (u.is_empty.ensures.1 none) ∙ u.if-is_empty.false))
        | else-info-via-else-info u ↦ inl u.if-info.false
      ]))
    ]
