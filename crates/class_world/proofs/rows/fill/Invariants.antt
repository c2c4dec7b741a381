use Rattle.std.proofs.Common.{◌≡◌, ℕ, ◌↔◌, ◌⊎◌, [], length}
use Rattle.class_world.specs.declared.world.JavaType.TheVariants as ty
use Rattle.class_world.specs.Subtypes.{Subtype}
use Rattle.class_world.specs.Sound.{IsSet}
use Rattle.class_world.specs.Merged.{AmongFirst}
use Rattle.class_world.proofs.rows.fill.Given as goal

abbrev pub invariant-loop-d : goal.invariant-loop-d
invariant-loop-d l = record {
  len : length l.words ≡ length l.fn.words;
  sets : (h : ℕ) → IsSet l.words h ↔ (((h ≡ 0) ⊎ (h ≡ l.c)) ⊎ AmongFirst (λ d. Subtype l.w d (ty.Class h [])) l.info.supers l.d-index);
}
