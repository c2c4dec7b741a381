use Rattle.std.proofs.Common.{◌≡◌, ◌++◌, ℕ, Bool, drop, length, map}
use Rattle.class_world.specs.declared.world.JavaType.{JavaType}
use Rattle.java_core.specs.View.{file_plain}
use Rattle.type_facts.specs.Facts.{Facts}
use Rattle.unchecked_ops.specs.Casting.{AreCasts}
use Rattle.unchecked_ops.specs.Programs as spec
use Rattle.unchecked_ops.proofs.program.files_ops.Given as goal

abbrev pub invariant-loop-i : goal.invariant-loop-i
invariant-loop-i l = (fs : ℕ → Facts) → spec.AreFileFacts l.q (length l.files) fs → (u : JavaType → JavaType → Bool) → AreCasts l.q.world.now u
    → l.out ++ spec.files_ops fs u l.i (map file_plain (drop l.i l.files)) ≡ l.fn.out ++ spec.files_ops fs u 0 (map file_plain l.files)
