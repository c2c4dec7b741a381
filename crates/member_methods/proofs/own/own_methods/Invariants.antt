use Rattle.std.proofs.Common.{◌≡◌, ℕ, List, [], Some, length}
use Rattle.std.specs.Prelude.{slice_get}
use Rattle.member_methods.proofs.Groups.{AreOwnFirst}
use Rattle.member_methods.proofs.own.own_methods.Given as goal

abbrev pub invariant-loop : goal.invariant-loop
invariant-loop l = record {
  size : length l.own.items ≡ l.counter;
  empty : (c : ℕ) (ms : List ℕ) → slice_get l.own.items c ≡ Some ms → ms ≡ [];
}

abbrev pub invariant-loop-m : goal.invariant-loop-m
invariant-loop-m l = record {
  size : length l.own.items ≡ l.limit;
  each : AreOwnFirst l.w l.own.items l.m;
}
