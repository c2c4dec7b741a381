use Rattle.std.proofs.Common.{length, true, sym, ◌∙◌}
use Rattle.java_tree.specs.View.{stmt_plain}
use Rattle.java_parse_expr.specs.Parse.{under, is_stop}
use Rattle.java_parse_expr.proofs.Turns.{many_turn}
use Rattle.java_parse_expr.proofs.stmt.Stmts.stmts.Goals as goal

pub loop-turn-preserved : goal.loop-turn-preserved
loop-turn-preserved g c =
    many_turn c.args.self.now.source.text.now c.args.self.now.source.toks.now stmt_plain (under c.args.self.now.source.text.now c.args.self.now.source.toks.now c.args.self.now.limit c.args.inner true) (length c.args.self.now.source.toks.now) c.loop-turn._turn c.loop-turn-test.true _
    c.loop-turn.done c.add.new.self c.in_ok-one.one c.in_ok-add.ensures (is_stop c.args.self.now.source.text.now c.args.self.now.source.toks.now) c.loop-turn.invariant (sym c.is_stop.ensures ∙ c.if-is_stop.false) c.in_ok-one.ensures
