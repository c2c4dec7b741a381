use Rattle.std.proofs.Common.{◌≡◌, ◌++◌, ◌≤◌, drop}
use Rattle.core_meaning.specs.Texts as spec
use Rattle.java_strings.proofs.Reading.{units_after}
use Rattle.java_strings.proofs.encoded.units_of_bytes.Given as goal

-- the fewer bytes of a character are to come, the larger it may be
abbrev pub invariant-loop-byte : goal.invariant-loop-byte
invariant-loop-byte l = (spec.units_of_bytes l.bytes ≡ l.units ++ units_after l.left l.code (drop l.byte-index l.rest))
    × (l.code ≤ 4460607) × (1 ≤ l.left → l.code ≤ 69695) × (2 ≤ l.left → l.code ≤ 1087) × (3 ≤ l.left → l.code ≤ 15) × (l.left ≤ 3)
