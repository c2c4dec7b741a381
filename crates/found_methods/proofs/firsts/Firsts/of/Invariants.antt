use Rattle.std.proofs.Common.{◌≡◌, ℕ, ◌<◌, List, Some, length}
use Rattle.std.specs.Prelude.{slice_get}
use Rattle.found_methods.specs.Own.{HoldsOwn}
use Rattle.found_methods.specs.Firsts.{AreSized, HoldsFirsts}
use Rattle.found_methods.proofs.firsts.Firsts.of.Given as goal

abbrev pub invariant-loop-c : goal.invariant-loop-c
invariant-loop-c l = record {
  sized : AreSized l.firsts (length l.w.types) (length l.w.methods);
  done : (labels : List ℕ) → HoldsOwn l.w labels (length l.w.methods) l.own → (j d : ℕ) → j < l.c-index → slice_get l.order j ≡ Some d → HoldsFirsts l.w labels l.firsts d;
}
