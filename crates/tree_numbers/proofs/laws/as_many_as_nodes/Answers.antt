use Rattle.tree_numbers.proofs.Counts.{type_count, expr_count, stmt_count}
use Rattle.tree_numbers.proofs.laws.as_many_as_nodes.Goals as goal

pub returns : goal.returns
returns c = record { types = type_count; expressions = expr_count; statements = stmt_count }
