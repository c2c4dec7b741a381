use Rattle.std.proofs.Common.{◌≡◌, ◌+◌, ◌-◌}
use Rattle.java_tree.specs.View.{plain}
use Rattle.java_parse_term.specs.Parse.{chain, parse}
use Rattle.java_parse_term.specs.Seen.{seen}
use Rattle.java_parse_term.proofs.terms.Grammar.chain.Given as goal

-- what is left to read from here is what was to be read
abbrev pub invariant-loop-turn : goal.invariant-loop-turn
invariant-loop-turn g l =
    let read = chain l.self.text.now l.self.toks.now l.self.limit (parse l.self.text.now l.self.toks.now l.self.limit) in
    read (l.self.limit + 1) l.at (seen plain l.fn.left) ≡ read (l.self.limit + 1 - l._turn) l.at (seen plain l.left)
