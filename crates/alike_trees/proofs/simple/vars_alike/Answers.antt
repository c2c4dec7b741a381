use Rattle.std.proofs.lemmas.Result.{err_from_is_err_and}
use Rattle.alike_trees.specs.Compared.{pair}
use Rattle.alike_trees.proofs.Lists.{vars_walk}
use Rattle.alike_trees.proofs.Walks.{ended, next, short, stopped}
use Rattle.alike_trees.proofs.simple.vars_alike.Goals as goal

pub returns-in_default : goal.returns-in_default
returns-in_default c =
    let a = c.args in
    short (vars_walk (pair a.sides.now)) c.loop-at.at a.old.now c.as_slice-x-items.result.now a.new.now c.as_slice-x-items.ensures _ c.loop-at-test.true c.in_default.ensures.value

pub returns-in_err-var_alike : goal.returns-in_err-var_alike
returns-in_err-var_alike c =
    let a = c.args in
    let exit = err_from_is_err_and c.from_residual.result c.from_residual.ensures.1 in
    stopped (vars_walk (pair a.sides.now)) c.loop-at.at a.old.now c.as_slice-x-items.result.now a.new.now c.as_slice-x-items.ensures
    c.x-item.result c.in-Some.y.now c.loop-at-test.true c.x-item.is c.in-Some.ensures.value
    c.from_residual.result _ exit c.in_err-var_alike.ensures c.loop-at.invariant

pub loop-at-preserved : goal.loop-at-preserved
loop-at-preserved c =
    let a = c.args in
    next (vars_walk (pair a.sides.now)) c.loop-at.at a.old.now c.as_slice-x-items.result.now a.new.now c.as_slice-x-items.ensures
    c.x-item.result c.in-Some.y.now c.loop-at-test.true c.x-item.is c.in-Some.ensures.value
    c.in_ok-var_alike.was c.var_alike.ensures c.loop-at.invariant

pub returns : goal.returns
returns c =
    let a = c.args in
    ended (vars_walk (pair a.sides.now)) c.loop-at.at a.old.now c.as_slice-x-items.result.now a.new.now c.as_slice-x-items.ensures
    c.len.result c.len-2.result c.loop-at-test.false c.len.ensures c.len-2.ensures c.check.ensures c.loop-at.invariant
