use Rattle.std.proofs.Common.{ℕ}
use Rattle.std.specs.List.{Contains}
use Rattle.member_methods.specs.Signed.{AreOwnNamed, IsOwnType, IsReplaced}
use Rattle.member_methods.proofs.Firsts.{Keeps}
use Rattle.member_methods.proofs.signatures.kept_by.Given as goal

abbrev pub invariant-loop-m : goal.invariant-loop-m
invariant-loop-m l =
    (c : ℕ) → IsOwnType l.w c l.own → ((m : ℕ) → Contains l.above m → AreOwnNamed l.w c l.methods m) → Keeps (λ m. IsReplaced l.w c l.methods m → ⊥) l.above l.kept.items l.m-index
