use Rattle.std.proofs.Common.{arith}
use Rattle.source_files.proofs.Parsing.{tokens_few}
use Rattle.source_files.proofs.trees.tokens_of.Goals as goal

pub overflow_cast-len : goal.overflow_cast-len
overflow_cast-len c =
    let few = tokens_few c.args.text.now c.in-Ok.tokens c.in-Ok.ensures.right c.requires.small in
    omega arith

pub overflow_add-count : goal.overflow_add-count
overflow_add-count c =
    let few = tokens_few c.args.text.now c.in-Ok.tokens c.in-Ok.ensures.right c.requires.small in
    omega arith
