use Rattle.std.proofs.Common.{◌↔◌, IsTrue, refl, subst}
use Rattle.class_world.specs.Types.{IsReference}
use Rattle.type_kinds.specs.Casts.{Castable, down, up}
use Rattle.type_kinds.proofs.Erasures as by
use Rattle.type_kinds.proofs.casts.+is_castable.Goals as goal

pub returns-then-is_erased_sub : goal.returns-then-is_erased_sub
returns-then-is_erased_sub t c = (λ h. down (c.is_erased_sub.ensures.0 c.if-is_erased_sub.true), λ h. refl)

pub returns-then-is_erased_sub-2 : goal.returns-then-is_erased_sub-2
returns-then-is_erased_sub-2 t c = (λ h. up (c.is_erased_sub-2.ensures.0 c.if-is_erased_sub-2.true), λ h. refl)

pub returns-in-Class-t : goal.returns-in-Class-t
returns-in-Class-t t c =
    by.classes_told c.args.w.now c.are_castable_classes.result c.args.s.now c.args.t.now c.in-Class.c c.in-Class-t.d c.in-Class.field-1 c.in-Class-t.field-1 c.in-Class.is c.in-Class-t.is
    (λ h. let never = c.is_erased_sub.ensures.1 h in cc (never, c.if-is_erased_sub.false)) (λ h. let never = c.is_erased_sub-2.ensures.1 h in cc (never, c.if-is_erased_sub-2.false))
    c.are_castable_classes.ensures

pub returns-then-are_references : goal.returns-then-are_references
returns-then-are_references t c =
    let w = c.args.w.now in
    let refs = c.are_references.ensures.0 c.if-are_references.true in
    let x = c.in-Array.x in
    let y = c.in-Array-t.y in
    by.arrays_told w c.is_castable.result c.args.s.now c.args.t.now x y c.in-Array.is c.in-Array-t.is
    (λ h. let never = c.is_erased_sub.ensures.1 h in cc (never, c.if-is_erased_sub.false)) (λ h. let never = c.is_erased_sub-2.ensures.1 h in cc (never, c.if-is_erased_sub-2.false))
    (subst IsReference c.get.ensures refs.0) (subst IsReference c.get-in-Array-t.ensures refs.1)
    (subst (λ x. IsTrue c.is_castable.result ↔ Castable w x y) c.get-then-are_references.ensures
    (subst (λ y. IsTrue c.is_castable.result ↔ Castable w c.get-then-are_references.result.now y) c.get-then-are_references-2.ensures c.is_castable.ensures))
