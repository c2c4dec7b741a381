use Rattle.std.proofs.Common.{◌≡◌, ◌++◌, Bool, drop, map}
use Rattle.class_world.specs.declared.world.JavaType.{JavaType}
use Rattle.java_core.specs.View.{catch_plain, catch_row}
use Rattle.thrown_exceptions.specs.Thrown as spec
use Rattle.thrown_exceptions.specs.Thrown.{IsOrder}
use Rattle.thrown_exceptions.proofs.catches.all_judged.Given as goal

abbrev pub invariant-loop-catch : goal.invariant-loop-catch
invariant-loop-catch l = record {
  judged : (below : JavaType → JavaType → Bool) → IsOrder l.w below
      → spec.all_judged below l.before l.raised (catch_row (map catch_plain (drop l.catch-index l.catches))) l.first
      ≡ spec.all_judged below l.fn.before l.raised (catch_row (map catch_plain l.catches)) l.initial.first;
  caught : l.before ++ spec.caught (catch_row (map catch_plain (drop l.catch-index l.catches))) ≡ l.fn.before ++ spec.caught (catch_row (map catch_plain l.catches));
}
