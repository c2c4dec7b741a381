-- Which type variables the parameter types of methods have.
use Rattle.std.specs.Prelude.{◌≡◌, ℕ, Bool, false, nat_eq}
use Rattle.std.specs.HashSet.{contains}
use Rattle.java_tree.specs.declared.tree.Name.{Name}
use Rattle.class_world.specs.declared.world.World.{World}
use Rattle.class_world.specs.declared.world.MethodInfo.{MethodInfo}
use Rattle.class_world.specs.Signatures.{IsMethod}
use Rattle.seen_methods.specs.Closed.{AreClosed}
use Rattle.seen_methods.specs.Scopes.{IsScoped}
use Rattle.overrides.specs.declared.open_names.OpenNames.{OpenNames}

-- those of all methods have none but the variables of the types that declare them
abbrev pub AreScoped : World → Type 0
AreScoped w = (m : ℕ) → IsScoped w m

-- those of all methods of the name of m have none
abbrev pub IsPlain : World → ℕ → Type 0
IsPlain w m = (k : ℕ) (i j : MethodInfo) → IsMethod w m i → IsMethod w k j → i.name ≡ j.name → AreClosed j.params

abbrev pub is_open : OpenNames → Name → Bool
is_open t n = contains nat_eq t.names n.0

-- each method with a variable has one of the names
abbrev pub AreOpen : World → OpenNames → Type 0
AreOpen w t = (m : ℕ) (info : MethodInfo) → IsMethod w m info → is_open t info.name ≡ false → AreClosed info.params
