use Rattle.std.proofs.Common.{◌∙◌, sym, ap}
use Rattle.std.specs.Int.{w32, int_wrap}
use Rattle.java_strings.proofs.Comparing.{second_ends}
use Rattle.java_strings.proofs.compared.difference.Goals as goal

pub returns-in-None : goal.returns-in-None
returns-in-None c =
    second_ends c.loop-at.at c.args.a.now c.args.b.now _ c.loop-at-test.true c.in-None.ensures.lookup.3 c.length_of.ensures
    ∙ ap (int_wrap w32) (sym c.loop-at.invariant.1)
