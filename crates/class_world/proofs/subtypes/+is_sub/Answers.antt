use Rattle.std.proofs.Common.{◌≡◌, ◌↔◌, IsTrue, refl, sym, subst}
use Rattle.class_world.specs.Types.{IsReference}
use Rattle.class_world.specs.Subtypes.{Subtype, same}
use Rattle.class_world.proofs.Decides as by
use Rattle.class_world.proofs.subtypes.+is_sub.Goals as goal

pub returns-in_default : goal.returns-in_default
returns-in_default t c =
    (λ h. absurd (cc h), λ h. absurd (by.above_primitive_not c.args.w.now c.requires.sound c.args.s.now c.args.t.now c.in-Prim.p c.in-Prim.is c.in_default.not-Prim h))

pub returns-in-Prim-t-2 : goal.returns-in-Prim-t-2
returns-in-Prim-t-2 t c =
    (λ h. absurd (cc h), λ h. absurd (by.above_null_not c.args.w.now c.requires.sound c.args.s.now c.args.t.now c.in-Prim-t-2.field-0 c.in-Null.is c.in-Prim-t-2.is h))

pub returns-in_default-t : goal.returns-in_default-t
returns-in_default-t t c =
    (λ h. by.above_null c.args.w.now c.requires.sound c.requires.types.1.0 c.args.s.now c.args.t.now c.requires.types.1.1 c.in-Null.is c.in_default-t.not-Prim, λ h. refl)

pub returns-then-is_same : goal.returns-then-is_same
returns-then-is_same t c = (λ h. subst (Subtype c.args.w.now c.args.s.now) (c.if-is_same.ensures.0 refl) same, λ h. c.if-is_same.true)

pub returns-else-is_same : goal.returns-else-is_same
returns-else-is_same t c =
    by.above_variable c.args.w.now c.requires.sound _ c.args.s.now c.args.t.now c.in-Var.field-0 c.in-Var.is (λ e. let never = c.if-is_same.ensures.1 e in absurd (cc never)) c.is_object.ensures

pub returns-then-are_references : goal.returns-then-are_references
returns-then-are_references t c =
    let refs = c.if-are_references.ensures.0 refl in
    by.between_arrays c.args.w.now c.requires.sound _ c.args.s.now c.args.t.now c.in-Array.x c.in-Array-t.y c.in-Array.is c.in-Array-t.is
    (subst IsReference c.get.ensures refs.0) (subst IsReference c.get-in-Array-t.ensures refs.1)
    (subst (λ x. IsTrue c.is_sub.result ↔ Subtype c.args.w.now x c.in-Array-t.y) c.get-then-are_references.ensures
    (subst (λ y. IsTrue c.is_sub.result ↔ Subtype c.args.w.now c.get-then-are_references.result.now y) c.get-then-are_references-2.ensures c.is_sub.ensures))

pub returns-else-are_references : goal.returns-else-are_references
returns-else-are_references t c =
    by.between_other_arrays c.args.w.now c.requires.sound _ c.args.s.now c.args.t.now c.in-Array.x c.in-Array-t.y c.in-Array.is c.in-Array-t.is
    (λ refs. let never = c.if-are_references.ensures.1 (subst IsReference (sym c.get.ensures) refs.0, subst IsReference (sym c.get-in-Array-t.ensures) refs.1) in absurd (cc never))
    (subst (λ x. IsTrue c.is_same-else-are_references.result ↔ (x ≡ c.in-Array-t.y)) c.get-else-are_references.ensures
    (subst (λ y. IsTrue c.is_same-else-are_references.result ↔ (c.get-else-are_references.result.now ≡ y)) c.get-else-are_references-2.ensures c.is_same-else-are_references.ensures))

pub returns-in_default-t-2 : goal.returns-in_default-t-2
returns-in_default-t-2 t c =
    by.above_array c.args.w.now c.requires.sound _ c.args.s.now c.args.t.now c.in-Array.x c.in-Array.is c.in_default-t-2.not-Array c.is_object-in_default-t-2.ensures
