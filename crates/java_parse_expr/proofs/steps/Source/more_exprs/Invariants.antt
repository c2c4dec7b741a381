use Rattle.std.proofs.Common.{◌≡◌, ◌-◌, length, ◌∷◌, [], map}
use Rattle.java_tree.specs.View.{plain}
use Rattle.java_parse_expr.specs.Parse.{more, expr_under}
use Rattle.java_parse_expr.proofs.steps.Source.more_exprs.Given as goal

-- what is left to read from here is what was to be read
abbrev pub invariant-loop-turn : goal.invariant-loop-turn
invariant-loop-turn l =
    let read = more l.self.text.now l.self.toks.now (expr_under l.self.text.now l.self.toks.now l.limit 14) in
    read (length l.self.toks.now) (plain l.fn.first.tree ∷ []) l.fn.first.next ≡ read (length l.self.toks.now - l._turn) (map plain l.done.tree) l.done.next
