use Rattle.method_ties.specs.Sides.{AreAll}
use Rattle.method_ties.specs.Tables.{HoldTables, IsKeyedAbove}
use Rattle.method_ties.specs.Ties.{AreReplaced}
use Rattle.method_ties.proofs.replace.all_replaced.Given as goal

abbrev pub invariant-loop-m : goal.invariant-loop-m
invariant-loop-m l = AreAll (AreReplaced l.w) l.all.items l.m × HoldTables l.w (IsKeyedAbove l.w) l.tables
