use Rattle.std.proofs.Common.{◌≡◌, ℕ, ◌<◌, Some}
use Rattle.std.specs.Prelude.{slice_get}
use Rattle.alike_lookups.specs.Lookups.{AllFindAlike, FindsAlike, sides}
use Rattle.alike_lookups.proofs.calls.others_find_alike.Given as goal

abbrev pub invariant-loop-method : goal.invariant-loop-method
invariant-loop-method l = (m n : ℕ) → m < l.method → slice_get l.others m ≡ Some (Some n) → AllFindAlike (sides l.old l.new l.map l.strict) → FindsAlike (sides l.old l.new l.map l.strict) m n
