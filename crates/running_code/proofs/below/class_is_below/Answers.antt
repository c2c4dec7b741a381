use Rattle.running_code.proofs.Arrays.{class_under_array}
use Rattle.running_code.proofs.below.class_is_below.Goals as goal

pub returns-in-Array : goal.returns-in-Array
returns-in-Array c = λ code told. class_under_array c.args.g.now code c.args.class c.args.t.now c.in-Array._element c.requires told c.in-Array.is
