use Rattle.std.proofs.Common.{◌≡◌, ◌↔◌, IsTrue, refl, subst}
use Rattle.class_world.specs.Types.{IsReference, erased}
use Rattle.class_world.specs.Subtypes.{Subtype}
use Rattle.type_kinds.proofs.Erasures as by
use Rattle.type_kinds.proofs.Worlds.{array_parts}
use Rattle.type_kinds.proofs.casts.+is_erased_sub.Goals as goal

pub is_sub-requires-in-Class-clause-types : goal.is_sub-requires-in-Class-clause-types
is_sub-requires-in-Class-clause-types t c =
    (c.requires.types.0, by.bare_of_world c.args.w.now c.args.t.now c.in-Class.g c.in-Class.field-1 c.new.result c.in-Class.is c.new.ensures c.requires.types.1)

pub returns-in-Prim : goal.returns-in-Prim
returns-in-Prim t c = by.below_primitive c.args.w.now c.requires.sound c.is_sub.result c.args.s.now c.args.t.now c.in-Prim.field-0 c.requires.types.0 c.in-Prim.is c.is_sub.ensures

pub returns-in-Null : goal.returns-in-Null
returns-in-Null t c = by.below_null c.args.w.now c.requires.sound c.is_sub-in-Null.result c.args.s.now c.args.t.now c.requires.types.0 c.in-Null.is c.is_sub-in-Null.ensures

pub returns-in-Class : goal.returns-in-Class
returns-in-Class t c =
    by.below_class c.args.w.now c.requires.sound c.is_sub-in-Class.result c.args.s.now c.args.t.now c.in-Class.g c.in-Class.field-1 c.new.result c.requires.types.0 c.in-Class.is c.new.ensures
    c.is_sub-in-Class.ensures

pub returns-in-Prim-s : goal.returns-in-Prim-s
returns-in-Prim-s t c =
    (λ h. absurd (cc h), λ h. absurd (by.primitive_below_not c.args.w.now c.requires.sound c.args.s.now c.args.t.now c.in-Prim-s.field-0 c.in-Var.field-0 c.in-Prim-s.is c.in-Var.is h))

pub returns-in_default : goal.returns-in_default
returns-in_default t c =
    (λ h. by.below_variable c.args.w.now c.requires.sound c.args.s.now c.args.t.now c.in-Var.field-0 c.requires.types.0 c.in_default.not-Prim c.in-Var.is, λ h. refl)

pub returns-in-Null-s : goal.returns-in-Null-s
returns-in-Null-s t c = (λ h. by.null_below_array c.args.w.now c.requires.sound c.args.s.now c.args.t.now c.in-Array.y c.in-Null-s.is c.in-Array.is, λ h. refl)

pub returns-then-are_references : goal.returns-then-are_references
returns-then-are_references t c =
    let w = c.args.w.now in
    let over = c.requires.types in
    let refs = c.are_references.ensures.0 c.if-are_references.true in
    let x = c.in-Array-s.x in
    let y = c.in-Array.y in
    by.both_arrays w c.requires.sound c.is_erased_sub.result c.args.s.now c.args.t.now x y c.in-Array-s.is c.in-Array.is
    (over.0.0, (array_parts w over.0.0 c.args.s.now x over.0.1 c.in-Array-s.is).1) (over.1.0, (array_parts w over.1.0 c.args.t.now y over.1.1 c.in-Array.is).1)
    (subst IsReference c.get.ensures refs.0) (subst IsReference c.get-in-Array-s.ensures refs.1)
    (subst (λ x. IsTrue c.is_erased_sub.result ↔ Subtype w (erased x) (erased y)) c.get-then-are_references.ensures
    (subst (λ y. IsTrue c.is_erased_sub.result ↔ Subtype w (erased c.get-then-are_references.result.now) (erased y)) c.get-then-are_references-2.ensures c.is_erased_sub.ensures))

pub returns-else-are_references : goal.returns-else-are_references
returns-else-are_references t c =
    let w = c.args.w.now in
    let over = c.requires.types in
    let x = c.in-Array-s.x in
    let y = c.in-Array.y in
    by.other_arrays w c.requires.sound c.is_same.result c.args.s.now c.args.t.now x y c.in-Array-s.is c.in-Array.is
    (over.0.0, (array_parts w over.0.0 c.args.s.now x over.0.1 c.in-Array-s.is).1) (over.1.0, (array_parts w over.1.0 c.args.t.now y over.1.1 c.in-Array.is).1)
    (λ refs. let never = c.are_references.ensures.1 (by.referred c.get.result.now x c.get.ensures refs.0, by.referred c.get-in-Array-s.result.now y c.get-in-Array-s.ensures refs.1) in cc (never, c.if-are_references.false))
    (subst (λ x. IsTrue c.is_same.result ↔ (x ≡ y)) c.get-else-are_references.ensures
    (subst (λ y. IsTrue c.is_same.result ↔ (c.get-else-are_references.result.now ≡ y)) c.get-else-are_references-2.ensures c.is_same.ensures))

pub returns-in_default-s : goal.returns-in_default-s
returns-in_default-s t c =
    (λ h. absurd (cc h), λ h. absurd (by.below_array_not c.args.w.now c.requires.sound c.args.s.now c.args.t.now c.in-Array.y c.requires.types.0 c.in_default-s.not-Null c.in_default-s.not-Array c.in-Array.is h))
