use Rattle.std.proofs.Common.{length}
use Rattle.java_tree.specs.View.{catch_plain}
use Rattle.java_parse_expr.specs.Parse.{at_depth, caught, is_no_catch}
use Rattle.java_parse_expr.proofs.Turns.{many_turn, caught_there}
use Rattle.java_parse_expr.proofs.stmt.Stmts.catches.Goals as goal

pub loop-turn-preserved : goal.loop-turn-preserved
loop-turn-preserved g c =
    many_turn c.args.self.now.source.text.now c.args.self.now.source.toks.now catch_plain (at_depth caught c.args.self.now.source.text.now c.args.self.now.source.toks.now c.args.self.now.limit) (length c.args.self.now.source.toks.now) c.loop-turn._turn c.loop-turn-test.true _
    c.loop-turn.done c.add.new.self c.in_ok-one.one c.in_ok-add.ensures (is_no_catch c.args.self.now.source.text.now c.args.self.now.source.toks.now) c.loop-turn.invariant (caught_there c.args.self.now.source.text.now c.args.self.now.source.toks.now c.loop-turn.done.next c.is_keyword.result c.is_keyword.ensures.value c.if-not-is_keyword.false) c.in_ok-one.ensures
