use Rattle.std.proofs.Common.{◌≡◌, ◌+◌, ◌-◌, length, []}
use Rattle.java_parse_expr.specs.Parse.{many}
use Rattle.java_parse_decl.specs.Parse.{one_import, imports_end}
use Rattle.java_parse_decl.proofs.units.imports.Given as goal

-- what is left to read from here is what was to be read
abbrev pub invariant-loop-turn : goal.invariant-loop-turn
invariant-loop-turn l =
    let read = many l.source.text.now l.source.toks.now (imports_end l.source.text.now l.source.toks.now) (one_import l.source.text.now l.source.toks.now) in
    read (length l.source.toks.now + 1) [] l.fn.at ≡ read (length l.source.toks.now + 1 - l._turn) l.done.tree l.done.next
