use Rattle.std.proofs.Common.{refl}
use Rattle.type_kinds.proofs.Worlds as by
use Rattle.type_kinds.proofs.of_world.+of_world.Goals as goal

pub is_of_world-returns-in-Prim : goal.is_of_world-returns-in-Prim
is_of_world-returns-in-Prim t c = (λ h. by.primitive_of_world c.args.w.now c.args.t.now c.in-Prim.field-0 c.in-Prim.is, λ h. refl)

pub is_of_world-returns-in-Null : goal.is_of_world-returns-in-Null
is_of_world-returns-in-Null t c = (λ h. by.null_of_world c.args.w.now c.args.t.now c.in-Null.is, λ h. refl)

pub is_of_world-returns-in-Var : goal.is_of_world-returns-in-Var
is_of_world-returns-in-Var t c = (λ h. by.variable_of_world c.args.w.now c.args.t.now c.in-Var.field-0 c.in-Var.is, λ h. refl)

pub is_of_world-returns-then-takes : goal.is_of_world-returns-then-takes
is_of_world-returns-then-takes t c =
    by.class_told c.args.w.now c.args.t.now c.in-Class.c c.in-Class.args c.as_slice.result.now c.as_slice-then-takes.result.now c.are_args.result c.in-Class.is c.as_slice.ensures c.as_slice-then-takes.ensures
    (c.takes.ensures.0 c.if-takes.true) c.are_args.ensures

pub is_of_world-returns-then-not-is_null : goal.is_of_world-returns-then-not-is_null
is_of_world-returns-then-not-is_null t c =
    by.array_told c.args.w.now c.args.t.now c.in-Array.x c.get.result.now c.get-then-not-is_null.result.now c.is_of_world.result c.in-Array.is c.get.ensures c.get-then-not-is_null.ensures
    (λ null. let never = c.is_null.ensures.1 null in cc (never, c.if-not-is_null.true)) c.is_of_world.ensures
