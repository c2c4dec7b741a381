use Rattle.std.proofs.Common.{◌≡◌, ℕ, nat_eq, take}
use Rattle.std.specs.HashMap.{get}
use Rattle.type_names.specs.Tables.{list_at, homes_in}
use Rattle.type_names.proofs.name_homes.NameHomes.of.Given as goal

abbrev pub invariant-loop-known : goal.invariant-loop-known
invariant-loop-known l = (x : ℕ) → list_at (get nat_eq l.homes) x ≡ homes_in x (take l.known-index l.types)
