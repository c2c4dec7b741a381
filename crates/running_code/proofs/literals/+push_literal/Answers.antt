use Rattle.running_code.proofs.Joins.{binary_pushed}
use Rattle.running_code.proofs.literals.+push_literal.Goals as goal

pub returns-in_ok-push_literal-in-Binary-2 : goal.returns-in_ok-push_literal-in-Binary-2
returns-in_ok-push_literal-in-Binary-2 t c =
    λ h.
    let i = c.in-Binary in
    binary_pushed c.args.e.now i.op i.kind i.left i.right c.get-in-Binary.result.now c.get-in-Binary-2.result.now c.args.out.now c.push_literal-in-Binary.new.out c.push_literal-in-Binary-2.new.out
    i.is h c.get-in-Binary.ensures c.get-in-Binary-2.ensures c.in_ok-push_literal-in-Binary.ensures c.in_ok-push_literal-in-Binary-2.ensures
