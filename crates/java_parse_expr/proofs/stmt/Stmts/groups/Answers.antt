use Rattle.std.proofs.Common.{length, sym, ◌∙◌}
use Rattle.java_tree.specs.View.{group_plain}
use Rattle.java_grammar.specs.declared.token.Mark.TheVariants as m
use Rattle.java_parse_term.specs.Marks.{is_mark}
use Rattle.java_parse_expr.specs.Parse.{at_depth, group}
use Rattle.java_parse_expr.proofs.Turns.{many_turn}
use Rattle.java_parse_expr.proofs.stmt.Stmts.groups.Goals as goal

pub loop-turn-preserved : goal.loop-turn-preserved
loop-turn-preserved g c =
    many_turn c.args.self.now.source.text.now c.args.self.now.source.toks.now group_plain (at_depth group c.args.self.now.source.text.now c.args.self.now.source.toks.now c.args.self.now.limit) (length c.args.self.now.source.toks.now) c.loop-turn._turn c.loop-turn-test.true _
    c.loop-turn.done c.add.new.self c.in_ok-one.one c.in_ok-add.ensures (is_mark c.args.self.now.source.toks.now m.RightBrace) c.loop-turn.invariant (sym c.is_mark.ensures.value ∙ c.if-is_mark.false) c.in_ok-one.ensures
