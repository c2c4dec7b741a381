use Rattle.std.proofs.Common.{◌≡◌, ◌-◌, ◌≤◌, length}
use Rattle.java_parse_term.specs.Types.{brackets}
use Rattle.java_parse_term.proofs.types.brackets.Given as goal

abbrev pub invariant-loop-turn : goal.invariant-loop-turn
invariant-loop-turn l = record {
  same : brackets l.toks (length l.toks) 0 l.fn.at ≡ brackets l.toks (length l.toks - l._turn) l.dims l.here;
  few : l.dims ≤ l._turn;
}
