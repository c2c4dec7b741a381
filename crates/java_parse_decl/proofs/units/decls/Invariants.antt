use Rattle.std.proofs.Common.{◌≡◌, ◌+◌, ◌-◌, length, [], map}
use Rattle.java_tree.specs.View.{decl_plain}
use Rattle.java_parse_expr.specs.Parse.{many}
use Rattle.java_parse_decl.specs.Parse.{next_decl, decls_end}
use Rattle.java_parse_decl.proofs.units.decls.Given as goal

-- what is left to read from here is what was to be read
abbrev pub invariant-loop-turn : goal.invariant-loop-turn
invariant-loop-turn l =
    let read = many l.source.text.now l.source.toks.now (decls_end l.source.text.now l.source.toks.now) (next_decl l.source.text.now l.source.toks.now l.limit) in
    read (length l.source.toks.now + 1) [] l.fn.at ≡ read (length l.source.toks.now + 1 - l._turn) (map decl_plain l.done.tree) l.done.next
