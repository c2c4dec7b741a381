use Rattle.std.proofs.Common.{◌+◌, length, sym, ◌∙◌}
use Rattle.java_tree.specs.View.{member_plain}
use Rattle.java_parse_decl.specs.Parse.{next_member, members_end}
use Rattle.java_parse_expr.proofs.Turns.{many_turn}
use Rattle.java_parse_decl.proofs.decls.members.Goals as goal

pub loop-turn-preserved : goal.loop-turn-preserved
loop-turn-preserved c =
    many_turn c.args.source.now.text.now c.args.source.now.toks.now member_plain (next_member c.args.source.now.text.now c.args.source.now.toks.now c.args.limit) (length c.args.source.now.toks.now + 1) c.loop-turn._turn c.loop-turn-test.true _
    c.loop-turn.done c.add.new.self c.in_ok-one.one c.in_ok-add.ensures (members_end c.args.source.now.text.now c.args.source.now.toks.now) c.loop-turn.invariant (sym c.members_end.ensures ∙ c.if-members_end.false) c.in_ok-one.ensures
