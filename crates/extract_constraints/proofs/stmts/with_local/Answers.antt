use Rattle.std.proofs.Common.{arith, ◌∙◌}
use Rattle.extract_constraints.proofs.Locals.{local_behind, local_in}
use Rattle.extract_constraints.proofs.stmts.with_local.Goals as goal

pub returns-then-at-len : goal.returns-then-at-len
returns-then-at-len c =
    local_in c.in_ok-locals.locals c.args.slot c.args.t (omega (arith, c.if-at-len.true, c.len.ensures)) ∙ c.in_ok-locals.ensures.same c.args.t

pub returns : goal.returns
returns c =
    c.in_ok-push.ensures.ok ∙ local_behind c.in_ok-locals.locals c.args.slot c.args.t (omega (arith, c.in_ok-locals.ensures.room)) ∙ c.in_ok-locals.ensures.same c.args.t
