use Rattle.std.proofs.Common.{◌≡◌, ℕ, ◌<◌, false}
use Rattle.class_world.specs.declared.world.MethodInfo.{MethodInfo}
use Rattle.class_world.specs.Signatures.{IsMethod}
use Rattle.seen_methods.specs.Closed.{AreClosed}
use Rattle.overrides.specs.Scopes.{is_open}
use Rattle.overrides.proofs.open_names.OpenNames.of.Given as goal

abbrev pub invariant-loop-m : goal.invariant-loop-m
invariant-loop-m l = (m : ℕ) → m < l.m → (info : MethodInfo) → IsMethod l.w m info → is_open l.made info.name ≡ false → AreClosed info.params
