use Rattle.std.proofs.Common.{◌≡◌, ◌-◌, length, ◌∷◌, [], map}
use Rattle.std.specs.Option.{option_map}
use Rattle.java_tree.specs.View.{plain}
use Rattle.java_parse_expr.specs.Parse.{many, at_depth, label, is_no_label}
use Rattle.java_parse_expr.proofs.stmt.Stmts.more_labels.Given as goal

-- what is left to read from here is what was to be read
abbrev pub invariant-loop-turn : goal.invariant-loop-turn
invariant-loop-turn g l =
    let read = many l.self.source.text.now l.self.source.toks.now (is_no_label l.self.source.text.now l.self.source.toks.now) (at_depth label l.self.source.text.now l.self.source.toks.now l.self.limit) in
    read (length l.self.source.toks.now) (option_map plain l.fn.first.tree ∷ []) l.fn.first.next ≡ read (length l.self.source.toks.now - l._turn) (map (option_map plain) l.done.tree) l.done.next
