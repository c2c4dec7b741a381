use Rattle.std.proofs.Common.{◌≡◌, ◌-◌, [], length}
use Rattle.java_parse_decl.specs.Parse.{ids}
use Rattle.java_parse_decl.proofs.words.ids.Given as goal

abbrev pub invariant-loop-turn : goal.invariant-loop-turn
invariant-loop-turn l =
    let read = ids l.source.text.now l.source.toks.now l.mark in
    read (length l.source.toks.now) [] l.fn.at ≡ read (length l.source.toks.now - l._turn) l.tree l.here
