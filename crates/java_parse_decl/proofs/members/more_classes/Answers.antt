use Rattle.std.proofs.Common.{length}
use Rattle.java_tree.specs.View.{type_plain}
use Rattle.java_parse_decl.specs.Parse.{class_under}
use Rattle.java_parse_expr.proofs.Turns.{more_turn}
use Rattle.java_parse_decl.proofs.members.more_classes.Goals as goal

pub loop-turn-preserved : goal.loop-turn-preserved
loop-turn-preserved c =
    more_turn c.args.source.now.text.now c.args.source.now.toks.now type_plain (class_under c.args.source.now.text.now c.args.source.now.toks.now c.args.limit) (length c.args.source.now.toks.now) c.loop-turn._turn c.loop-turn-test.true _
    c.loop-turn.done c.add.new.self c.in_ok-one-in-Some.one c.in_ok-add-in-Some.ensures c.in-Some.next c.loop-turn.invariant c.in-Some.ensures.value c.in_ok-one-in-Some.ensures
