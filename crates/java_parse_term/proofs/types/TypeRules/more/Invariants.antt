use Rattle.std.proofs.Common.{◌≡◌, ◌-◌, ◌∷◌, [], length, map}
use Rattle.java_tree.specs.View.{type_plain}
use Rattle.java_parse_term.specs.Types.{more_types, read_type}
use Rattle.java_parse_term.proofs.types.TypeRules.more.Given as goal

abbrev pub invariant-loop-turn : goal.invariant-loop-turn
invariant-loop-turn g l =
    let read = more_types l.self.toks.now l.self.limit (read_type l.self.toks.now l.self.limit) in
    read (length l.self.toks.now) (type_plain l.fn.first.tree ∷ []) l.fn.first.depth l.fn.first.next ≡ read (length l.self.toks.now - l._turn) (map type_plain l.tree) l.depth l.at
