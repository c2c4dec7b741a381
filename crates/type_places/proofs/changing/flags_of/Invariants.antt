use Rattle.std.proofs.Common.{◌≡◌, [], drop}
use Rattle.type_places.specs.Changing.{with_flags}
use Rattle.type_places.proofs.changing.flags_of.Given as goal

abbrev pub invariant-loop-number : goal.invariant-loop-number
invariant-loop-number l = with_flags (drop l.number-index l.numbers) l.flags ≡ with_flags l.numbers []
