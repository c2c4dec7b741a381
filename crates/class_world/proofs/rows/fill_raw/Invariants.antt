use Rattle.std.proofs.Common.{◌≡◌, ℕ, ◌↔◌, ◌⊎◌, length}
use Rattle.class_world.specs.Types.{erased}
use Rattle.class_world.specs.Sound.{IsSet}
use Rattle.class_world.specs.Climbs.{HasBase}
use Rattle.class_world.specs.Merged.{AmongFirst}
use Rattle.class_world.proofs.rows.fill_raw.Given as goal

abbrev pub invariant-loop-d : goal.invariant-loop-d
invariant-loop-d l = record {
  len : length l.words ≡ length l.fn.words;
  sets : (g : ℕ) → IsSet l.words g ↔ (⊥ ⊎ AmongFirst (λ d. HasBase l.w (erased d) g) l.info.supers l.d-index);
}
