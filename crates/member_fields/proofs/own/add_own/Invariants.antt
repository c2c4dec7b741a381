use Rattle.std.proofs.Common.{◌≡◌, ℕ, ◌≤◌, ◌↔◌, length}
use Rattle.member_fields.specs.Own.{HasOwn}
use Rattle.member_fields.proofs.own.add_own.Given as goal

abbrev pub invariant-loop : goal.invariant-loop
invariant-loop l = record {
  size : length l.own.items ≡ l.counter;
  grows : length l.fn.own.items ≤ l.counter;
  same : (c g : ℕ) → HasOwn l.own.items c g ↔ HasOwn l.fn.own.items c g;
}
