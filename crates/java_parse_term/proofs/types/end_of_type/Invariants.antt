use Rattle.std.proofs.Common.{◌≡◌, ◌+◌, ◌-◌, ◌≤◌, length}
use Rattle.java_parse_term.specs.Types.{type_end, scan}
use Rattle.java_parse_term.proofs.types.end_of_type.Given as goal

abbrev pub invariant-loop-turn : goal.invariant-loop-turn
invariant-loop-turn l = record {
  same : type_end l.toks l.fn.at ≡ scan l.toks (length l.toks + 2 - l._turn) l.scan;
  few : l.scan.nesting ≤ l._turn;
}
