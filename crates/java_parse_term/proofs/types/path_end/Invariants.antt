use Rattle.std.proofs.Common.{◌≡◌, ◌-◌, length}
use Rattle.java_parse_term.specs.Types.{path_end}
use Rattle.java_parse_term.proofs.types.path_end.Given as goal

abbrev pub invariant-loop-turn : goal.invariant-loop-turn
invariant-loop-turn l = path_end l.toks (length l.toks) l.fn.at ≡ path_end l.toks (length l.toks - l._turn) l.here
