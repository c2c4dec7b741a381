use Rattle.std.proofs.Common.{◌≡◌, ◌-◌, length}
use Rattle.java_parse_decl.specs.Parse.{past}
use Rattle.java_parse_decl.proofs.words.past_semicolons.Given as goal

abbrev pub invariant-loop-turn : goal.invariant-loop-turn
invariant-loop-turn l =
    let read = past l.source.text.now l.source.toks.now in
    read (length l.source.toks.now) l.fn.at ≡ read (length l.source.toks.now - l._turn) l.next
