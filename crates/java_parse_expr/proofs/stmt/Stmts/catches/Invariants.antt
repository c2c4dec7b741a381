use Rattle.std.proofs.Common.{◌≡◌, ◌-◌, length, [], map}
use Rattle.java_tree.specs.View.{catch_plain}
use Rattle.java_parse_expr.specs.Parse.{many, at_depth, caught, is_no_catch}
use Rattle.java_parse_expr.proofs.stmt.Stmts.catches.Given as goal

-- what is left to read from here is what was to be read
abbrev pub invariant-loop-turn : goal.invariant-loop-turn
invariant-loop-turn g l =
    let read = many l.self.source.text.now l.self.source.toks.now (is_no_catch l.self.source.text.now l.self.source.toks.now) (at_depth caught l.self.source.text.now l.self.source.toks.now l.self.limit) in
    read (length l.self.source.toks.now) [] l.at ≡ read (length l.self.source.toks.now - l._turn) (map catch_plain l.done.tree) l.done.next
