use Rattle.std.proofs.Common.{[], sym, subst, ap, ◌∙◌}
use Rattle.class_world.specs.Types.{IsReference, of_variable, of_array}
use Rattle.class_world.specs.declared.world.JavaType.TheVariants as ty
use Rattle.class_world.proofs.Decides as by
use Rattle.class_world.proofs.subtypes.is_raw_alone.Goals as goal

pub returns-in-Prim : goal.returns-in-Prim
returns-in-Prim c = (λ h. absurd (cc h), λ h. absurd (by.primitive_under c.args.w.now c.requires.sound c.args.s.now c.in-Prim.field-0 c.args.g [] c.in-Prim.is h.0))

pub returns-in-Null : goal.returns-in-Null
returns-in-Null c = (λ h. absurd (cc h), λ h. absurd (by.null_parameterized c.args.w.now c.requires.sound c.args.s.now c.args.g c.in-Null.is h.1))

pub returns-in-Var : goal.returns-in-Var
returns-in-Var c =
    by.object_alone c.args.w.now c.requires.sound c.args.s.now c.args.g (by.variable_under c.args.w.now c.requires.sound c.args.s.now c.in-Var.field-0 c.in-Var.is)
    (subst IsReference (sym c.in-Var.is) (of_variable _))

pub returns-in-Array : goal.returns-in-Array
returns-in-Array c =
    by.object_alone c.args.w.now c.requires.sound c.args.s.now c.args.g (by.array_under c.args.w.now c.requires.sound c.args.s.now c.in-Array.field-0 c.in-Array.is)
    (subst IsReference (sym c.in-Array.is) (of_array _))

pub returns-then-is_class_above : goal.returns-then-is_class_above
returns-then-is_class_above c =
    by.alone_told c.args.w.now c.requires.sound c.has_base.result c.is_raw.result c.args.s.now c.in-Class.c c.args.g c.as_slice.result.now
    (c.in-Class.is ∙ ap (λ xs. ty.Class c.in-Class.c xs) (sym c.as_slice.ensures)) c.requires.types c.is_raw.ensures c.has_base.ensures ((c.is_class_above.ensures c.as_slice.result.now).0 c.if-is_class_above.true)
