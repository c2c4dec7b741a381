use Rattle.std.proofs.Common.{◌≡◌, ◌-◌, [], length}
use Rattle.java_parse_decl.specs.Parse.{mods_at}
use Rattle.java_parse_decl.proofs.words.mods.Given as goal

-- what is left to read from here is what was to be read
abbrev pub invariant-loop-turn : goal.invariant-loop-turn
invariant-loop-turn l =
    let read = mods_at l.source.text.now l.source.toks.now in
    read (length l.source.toks.now) [] l.fn.at ≡ read (length l.source.toks.now - l._turn) l.done.tree l.done.next
