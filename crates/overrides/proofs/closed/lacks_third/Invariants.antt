use Rattle.std.proofs.Common.{◌≡◌, ℕ, ◌<◌, Some, false}
use Rattle.std.specs.Prelude.{slice_get}
use Rattle.overrides.specs.declared.links.Link.{Link}
use Rattle.overrides.specs.Tables.{HasRow}
use Rattle.overrides.proofs.closed.lacks_third.Given as goal

abbrev pub invariant-loop-link : goal.invariant-loop-link
invariant-loop-link l = (j : ℕ) (x : Link) → j < l.link-index → slice_get l.links j ≡ Some x → x.free ≡ false → HasRow l.table x.lower x.upper
