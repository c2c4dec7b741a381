use Rattle.std.proofs.Common.{◌↔◌, IsTrue, [], ap, ◌∙◌, refl, sym, subst}
use Rattle.class_world.specs.declared.world.JavaType.TheVariants as ty
use Rattle.class_world.specs.Types.{IsReference, of_variable, of_array, IsTypeOver}
use Rattle.class_world.specs.Subtypes.{Subtype}
use Rattle.class_world.specs.Climbs.{HasBase}
use Rattle.class_world.proofs.Orders.{class_parts}
use Rattle.class_world.proofs.Decides as by
use Rattle.class_world.proofs.subtypes.super_as.Goals as goal

pub returns-in-Prim : goal.returns-in-Prim
returns-in-Prim c = λ args h. absurd (by.primitive_under c.args.w.now c.requires.sound c.args.t.now c.in-Prim.field-0 c.args.g args c.in-Prim.is h)

pub returns-in-Var : goal.returns-in-Var
returns-in-Var c =
    let under = by.variable_under c.args.w.now c.requires.sound c.args.t.now c.in-Var.field-0 c.in-Var.is in
    by.super_bare c.args.w.now c.requires.sound c.args.t.now c.args.g _ _ c.bare_type-in-Var.ensures.some c.bare_type-in-Var.ensures.none
    (by.object_number c.args.w.now c.requires.sound c.args.t.now c.args.g under (subst IsReference (sym c.in-Var.is) (of_variable _)))
    (by.none_parameterized c.args.w.now c.requires.sound c.args.t.now c.args.g under)

pub returns-in-Array : goal.returns-in-Array
returns-in-Array c =
    let under = by.array_under c.args.w.now c.requires.sound c.args.t.now c.in-Array.field-0 c.in-Array.is in
    by.super_bare c.args.w.now c.requires.sound c.args.t.now c.args.g _ _ c.bare_type-in-Array.ensures.some c.bare_type-in-Array.ensures.none
    (by.object_number c.args.w.now c.requires.sound c.args.t.now c.args.g under (subst IsReference (sym c.in-Array.is) (of_array _)))
    (by.none_parameterized c.args.w.now c.requires.sound c.args.t.now c.args.g under)

pub base_above-requires-clause-above : goal.base_above-requires-clause-above
base_above-requires-clause-above c =
    let s = c.as_slice.result.now in
    let shape = c.in-Class.is ∙ ap (λ xs. ty.Class c.in-Class.c xs) (sym c.as_slice.ensures) in
    let over = c.requires.types in
    subst (λ t. HasBase c.args.w.now t c.args.g) (sym shape) ((c.if-has_base.ensures s ((over.0, subst (IsTypeOver c.args.w.now over.0) shape over.1), c.is_raw.ensures)).0 refl)

pub is_class_above-requires-clause-known : goal.is_class_above-requires-clause-known
is_class_above-requires-clause-known c =
    let parts = class_parts c.args.w.now c.requires.types.0 c.args.t.now c.in-Class.c c.in-Class.args c.requires.types.1 c.in-Class.is in
    (parts.0, parts.1)

pub returns-in_ok-base_above-in-Class : goal.returns-in_ok-base_above-in-Class
returns-in_ok-base_above-in-Class c =
    let found = c.in_ok-base_above-in-Class.ensures in
    by.super_parameterized c.args.w.now c.requires.sound c.args.g c.args.t.now c.in_ok-base_above-in-Class.field-0 (c.requires.types, (c.in-Class.c, c.in-Class.args, c.in-Class.is)) found.0 found.1

pub returns-else-has_base : goal.returns-else-has_base
returns-else-has_base c =
    let w = c.args.w.now in
    let s = c.as_slice.result.now in
    let shape = c.in-Class.is ∙ ap (λ xs. ty.Class c.in-Class.c xs) (sym c.as_slice.ensures) in
    let over = c.requires.types in
    by.super_bare w c.requires.sound c.args.t.now c.args.g c.bare_type.result c.is_class_above.result c.bare_type.ensures.some c.bare_type.ensures.none
    (subst (λ t. IsTrue c.is_class_above.result ↔ Subtype w t (ty.Class c.args.g [])) (sym shape) (c.is_class_above.ensures s))
    (λ v p up.
    let never = (c.if-has_base.ensures s ((over.0, subst (IsTypeOver w over.0) shape over.1), c.is_raw.ensures)).1 (v, p, subst (λ t. Subtype w t v) shape up) in
    cc never)
