use Rattle.std.proofs.Common.{List, ◌⊎◌, inl, inr, map, refl, ap, subst, ◌∙◌}
use Rattle.std.specs.Prelude.{Contains}
use Rattle.std.proofs.lemmas.List.{take_all, map-id}
use Rattle.class_world.specs.declared.world.JavaType.{JavaType}
use Rattle.class_world.specs.declared.world.JavaType.TheVariants as ty
use Rattle.super_rules.specs.Looks.{IsRow}
use Rattle.super_rules.proofs.Edged.{OneOf, IsClassOf, class_of, row_adds, row_keeps, row_alike}
use Rattle.super_rules.proofs.rows.built_in_row.Goals as goal
use Rattle.super_rules.proofs.rows.built_in_row.Goals.{in-Class+in_ok-push, in_default}

abbrev itself : JavaType → JavaType
itself x = x

pub loop-ty-preserved : goal.loop-ty-preserved
loop-ty-preserved c =
    let xs = c.as_slice-ty-items.result.now in
    let i = c.loop-ty.ty-index in
    let x = c.ty-item.result in
    elim c.match-ty.branch [
      | in-Class+in_ok-push w ↦
          rw (w.row-is, w.in_ok-push.ensures.ok) (row_adds itself IsClassOf (λ g. ⊥) xs i x c.loop-ty.row w.in-Class.number c.loop-ty-test.true c.ty-item.is
          (class_of x w.in-Class.number w.in-Class.field-1 w.in-Class.is) c.loop-ty.invariant)
      | in_default w ↦
          rw w.row-is (row_keeps itself IsClassOf (λ g. ⊥) xs i x c.loop-ty.row c.loop-ty-test.true c.ty-item.is (λ g h. w.in_default.not-Class g h.0 h.1) c.loop-ty.invariant)
    ]

pub returns : goal.returns
returns c =
    let all = ap (map itself) (take_all c.loop-ty.ty-index c.as_slice-ty-items.result.now c.loop-ty-test.false ∙ c.as_slice-ty-items.ensures) ∙ map-id c.args.info.now.supers in
    row_alike c.loop-ty.row (λ g. ⊥ ⊎ OneOf IsClassOf c.args.info.now.supers g) (λ g. (args : List JavaType) × Contains c.args.info.now.supers (ty.Class g args)) (λ g. (
      λ h. elim h [ inl none ↦ absurd none | inr one ↦ (one.2.0, subst (Contains c.args.info.now.supers) one.2.1 one.1) ],
      λ h. inr (ty.Class g h.0, h.1, (h.0, refl)),
    )) (subst (λ xs. IsRow c.loop-ty.row (λ g. ⊥ ⊎ OneOf IsClassOf xs g)) all c.loop-ty.invariant)
