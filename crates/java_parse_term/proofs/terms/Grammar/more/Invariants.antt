use Rattle.std.proofs.Common.{◌≡◌, ◌-◌, ◌∷◌, [], length, map}
use Rattle.java_tree.specs.View.{plain}
use Rattle.java_parse_term.specs.Parse.{more, parse}
use Rattle.java_parse_term.proofs.terms.Grammar.more.Given as goal

-- what is left to read from here is what was to be read
abbrev pub invariant-loop-turn : goal.invariant-loop-turn
invariant-loop-turn g l =
    let read = more l.self.text.now l.self.toks.now l.self.limit (parse l.self.text.now l.self.toks.now l.self.limit) in
    read l.row (length l.self.toks.now) (plain l.fn.first.tree ∷ []) l.fn.first.depth l.fn.first.next ≡ read l.row (length l.self.toks.now - l._turn) (map plain l.tree) l.depth l.at
