use Rattle.std.proofs.Common.{ℕ, List}
use Rattle.counted_methods.specs.Made.{IsAbove, IsOrderly}
use Rattle.counted_methods.proofs.Making.{IsAdding}
use Rattle.counted_methods.proofs.CountedMethods.add_type.Given as goal

abbrev pub invariant-loop-m : goal.invariant-loop-m
invariant-loop-m l = record {
  orderly : IsOrderly l.self;
  added : (counted : List ℕ) → IsAbove l.w l.initial.self l.above counted → IsAdding l.w l.c counted l.m-items l.m-index l.initial.self l.self;
}
