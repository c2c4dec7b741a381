use Rattle.std.proofs.Common.{◌≡◌, ◌-◌, length, ◌∷◌, [], map}
use Rattle.java_tree.specs.View.{var_plain}
use Rattle.java_parse_expr.specs.Parse.{more, var}
use Rattle.java_parse_expr.proofs.steps.Source.more_vars.Given as goal

-- what is left to read from here is what was to be read
abbrev pub invariant-loop-turn : goal.invariant-loop-turn
invariant-loop-turn l =
    let read = more l.self.text.now l.self.toks.now (var l.self.text.now l.self.toks.now l.limit) in
    read (length l.self.toks.now) (var_plain l.fn.first.tree ∷ []) l.fn.first.next ≡ read (length l.self.toks.now - l._turn) (map var_plain l.done.tree) l.done.next
