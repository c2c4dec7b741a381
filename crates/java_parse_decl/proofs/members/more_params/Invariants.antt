use Rattle.std.proofs.Common.{◌≡◌, ◌-◌, length, ◌∷◌, [], map}
use Rattle.java_tree.specs.View.{param_plain}
use Rattle.java_parse_expr.specs.Parse.{more}
use Rattle.java_parse_expr.specs.Parse.{param}
use Rattle.java_parse_decl.proofs.members.more_params.Given as goal

-- what is left to read from here is what was to be read
abbrev pub invariant-loop-turn : goal.invariant-loop-turn
invariant-loop-turn l =
    let read = more l.source.text.now l.source.toks.now (param l.source.text.now l.source.toks.now l.limit) in
    read (length l.source.toks.now) (param_plain l.fn.first.tree ∷ []) l.fn.first.next ≡ read (length l.source.toks.now - l._turn) (map param_plain l.done.tree) l.done.next
