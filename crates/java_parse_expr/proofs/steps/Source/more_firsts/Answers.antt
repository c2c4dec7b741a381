use Rattle.std.proofs.Common.{length}
use Rattle.java_tree.specs.View.{stmt_plain}
use Rattle.java_parse_expr.specs.Parse.{first}
use Rattle.java_parse_expr.proofs.Turns.{more_turn}
use Rattle.java_parse_expr.proofs.steps.Source.more_firsts.Goals as goal

pub loop-turn-preserved : goal.loop-turn-preserved
loop-turn-preserved c =
    more_turn c.args.self.now.text.now c.args.self.now.toks.now stmt_plain (first c.args.self.now.text.now c.args.self.now.toks.now c.args.limit) (length c.args.self.now.toks.now) c.loop-turn._turn c.loop-turn-test.true _
    c.loop-turn.done c.add.new.self c.in_ok-one-in-Some.one c.in_ok-add-in-Some.ensures c.in-Some.next c.loop-turn.invariant c.in-Some.ensures.value c.in_ok-one-in-Some.ensures
