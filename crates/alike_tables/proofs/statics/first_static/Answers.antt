use Rattle.std.proofs.Common.{sym}
use Rattle.alike_tables.proofs.Firsts.{told_none, told_instance, told_static}
use Rattle.alike_tables.proofs.statics.first_static.Goals as goal

pub returns-in-None : goal.returns-in-None
returns-in-None c = told_none c.args.g.now c.args.field (sym c.in-None.ensures.value)

pub returns-then-is_instance_field : goal.returns-then-is_instance_field
returns-then-is_instance_field c =
    told_instance c.args.g.now c.args.field c.in-Some.info.now c.is_instance_field.result (sym c.in-Some.ensures.value) c.if-is_instance_field.true c.is_instance_field.ensures

pub returns-else-is_instance_field : goal.returns-else-is_instance_field
returns-else-is_instance_field c =
    told_static c.args.g.now c.args.field c.in-Some.info.now c.is_instance_field.result c.first_value.result (sym c.in-Some.ensures.value) c.if-is_instance_field.false c.is_instance_field.ensures
    c.first_value.ensures
