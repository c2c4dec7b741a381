use Rattle.std.proofs.Common.{◌≡◌, ◌-◌, length, [], map, true}
use Rattle.java_tree.specs.View.{stmt_plain}
use Rattle.java_parse_expr.specs.Parse.{many, is_stop, under}
use Rattle.java_parse_expr.proofs.stmt.Stmts.stmts.Given as goal

-- what is left to read from here is what was to be read
abbrev pub invariant-loop-turn : goal.invariant-loop-turn
invariant-loop-turn g l =
    let read = many l.self.source.text.now l.self.source.toks.now (is_stop l.self.source.text.now l.self.source.toks.now) (under l.self.source.text.now l.self.source.toks.now l.self.limit l.inner true) in
    read (length l.self.source.toks.now) [] l.at ≡ read (length l.self.source.toks.now - l._turn) (map stmt_plain l.done.tree) l.done.next
