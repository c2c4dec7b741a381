use Rattle.std.proofs.Common.{◌≡◌, ◌-◌, length, [], map}
use Rattle.java_tree.specs.View.{group_plain}
use Rattle.java_grammar.specs.declared.token.Mark.TheVariants as m
use Rattle.java_parse_term.specs.Marks.{is_mark}
use Rattle.java_parse_expr.specs.Parse.{many, at_depth, group}
use Rattle.java_parse_expr.proofs.stmt.Stmts.groups.Given as goal

-- what is left to read from here is what was to be read
abbrev pub invariant-loop-turn : goal.invariant-loop-turn
invariant-loop-turn g l =
    let read = many l.self.source.text.now l.self.source.toks.now (is_mark l.self.source.toks.now m.RightBrace) (at_depth group l.self.source.text.now l.self.source.toks.now l.self.limit) in
    read (length l.self.source.toks.now) [] l.at ≡ read (length l.self.source.toks.now - l._turn) (map group_plain l.done.tree) l.done.next
