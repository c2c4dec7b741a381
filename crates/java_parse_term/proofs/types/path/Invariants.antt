use Rattle.std.proofs.Common.{◌≡◌, ◌-◌, [], length}
use Rattle.java_parse_term.specs.Types.{path}
use Rattle.java_parse_term.proofs.types.path.Given as goal

abbrev pub invariant-loop-turn : goal.invariant-loop-turn
invariant-loop-turn l = path l.toks (length l.toks) [] l.fn.at ≡ path l.toks (length l.toks - l._turn) l.tree l.here
