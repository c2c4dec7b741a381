use Rattle.alike_trees.specs.Compared.{pair}
use Rattle.alike_programs.specs.Alike.{ClassFieldsTold}
use Rattle.alike_programs.proofs.Below.{below_more}
use Rattle.alike_programs.proofs.members.class_fields_alike.Goals as goal

pub loop-class-preserved : goal.loop-class-preserved
loop-class-preserved c = below_more (ClassFieldsTold (pair c.args.sides.now) c.args.old.now c.args.new.now) c.loop-class.class c.loop-class.invariant c.in_ok-fields_at.ensures
