use Rattle.std.proofs.Common.{ℕ, ◌<◌}
use Rattle.seen_methods.specs.Scopes.{IsScoped}
use Rattle.overrides.proofs.scopes.are_scoped.Given as goal

abbrev pub invariant-loop-m : goal.invariant-loop-m
invariant-loop-m l = (m : ℕ) → m < l.m → IsScoped l.w m
