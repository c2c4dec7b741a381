use Rattle.std.proofs.Common.{◌≡◌, ℕ, ◌<◌, ◌≤◌, ◌↔◌, [], length}
use Rattle.std.specs.Prelude.{replicate}
use Rattle.member_fields.specs.Own.{HasOwn, Owns}
use Rattle.member_fields.proofs.own.own_fields.Given as goal

abbrev pub invariant-loop : goal.invariant-loop
invariant-loop l = l.own.items ≡ replicate l.counter []

abbrev pub invariant-loop-f : goal.invariant-loop-f
invariant-loop-f l = record {
  size : length l.w.types ≤ length l.own.items;
  lists : (c g : ℕ) → HasOwn l.own.items c g ↔ ((g < l.f) × Owns l.w c g);
}
