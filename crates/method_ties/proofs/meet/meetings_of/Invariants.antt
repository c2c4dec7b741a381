use Rattle.std.proofs.Common.{◌≡◌, []}
use Rattle.method_ties.specs.Sides.{IsInherited, IsOnce, Meets}
use Rattle.method_ties.specs.Tables.{HoldTables, IsKeyedLower}
use Rattle.method_ties.specs.declared.Meeting.{Meeting}
use Rattle.method_ties.proofs.Firsts.{Gathers}
use Rattle.method_ties.proofs.meet.meetings_of.Given as goal

abbrev pub invariant-loop-k : goal.invariant-loop-k
invariant-loop-k l =
    (Gathers (λ k (p : Meeting). IsInherited l.w l.c k × (p.upper ≡ k) × Meets l.w l.c p.lower k) [] l.k-items l.found.items l.k-index × IsOnce l.found.items)
    × HoldTables l.w (IsKeyedLower l.w) l.tables × (l.tables.class ≡ l.c)
