use Rattle.interface_text.proofs.Order.{put_before, put_same, put_behind, put_last}
use Rattle.interface_text.proofs.lists.place_of.Goals as goal

pub returns-in-Less-clause-some : goal.returns-in-Less-clause-some
returns-in-Less-clause-some c =
    put_before c.args.name.now c.index-found-at.result c.args.found.now c.loop-at.at c.loop-at-test.true c.index-found-at.is c.loop-at.invariant c.in-Less.ensures

pub returns-in-Equal-clause-none : goal.returns-in-Equal-clause-none
returns-in-Equal-clause-none c =
    put_same c.args.name.now c.index-found-at.result c.args.found.now c.loop-at.at c.loop-at-test.true c.index-found-at.is c.loop-at.invariant c.in-Equal.ensures

pub loop-at-preserved : goal.loop-at-preserved
loop-at-preserved c =
    put_behind c.args.name.now c.index-found-at.result c.args.found.now c.loop-at.at c.loop-at-test.true c.index-found-at.is c.loop-at.invariant c.in-Greater.ensures

pub returns-clause-some : goal.returns-clause-some
returns-clause-some c = put_last c.args.name.now c.args.found.now c.loop-at.at c.loop-at-test.false c.loop-at.invariant
