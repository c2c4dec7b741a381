use Rattle.std.proofs.Common.{length}
use Rattle.std.specs.Option.{option_map}
use Rattle.java_tree.specs.View.{plain}
use Rattle.java_parse_expr.specs.Parse.{at_depth, label, is_no_label}
use Rattle.java_parse_expr.proofs.Turns.{many_turn, labelled}
use Rattle.java_parse_expr.proofs.stmt.Stmts.more_labels.Goals as goal

pub loop-turn-preserved : goal.loop-turn-preserved
loop-turn-preserved g c =
    many_turn c.args.self.now.source.text.now c.args.self.now.source.toks.now (option_map plain) (at_depth label c.args.self.now.source.text.now c.args.self.now.source.toks.now c.args.self.now.limit) (length c.args.self.now.source.toks.now) c.loop-turn._turn c.loop-turn-test.true _
    c.loop-turn.done c.add.new.self c.in_ok-one.one c.in_ok-add.ensures (is_no_label c.args.self.now.source.text.now c.args.self.now.source.toks.now) c.loop-turn.invariant (labelled c.args.self.now.source.text.now c.args.self.now.source.toks.now c.loop-turn.done.next c.is_label.result c.is_label.ensures c.if-not-is_label.false) c.in_ok-one.ensures
