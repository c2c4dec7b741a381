-- Methods beside each other: members of one type, with one name and one number of parameters.
use Rattle.std.specs.Prelude.{◌≡◌, ℕ, Some, slice_get, length}
use Rattle.java_tree.specs.declared.tree.Name.{Name}
use Rattle.class_world.specs.declared.world.World.{World}
use Rattle.class_world.specs.declared.world.MethodInfo.{MethodInfo}
use Rattle.class_world.specs.Inheritance.{IsMethodNamed}

-- m and k are member methods of the type c with one name and one number of parameters
abbrev pub AreBeside : World → ℕ → ℕ → ℕ → Type 0
AreBeside w c m k = (n : Name) × (arity : ℕ) × IsMethodNamed w c n arity m × IsMethodNamed w c n arity k

-- m and k have one name and one number of parameters
abbrev pub AreAlike : World → ℕ → ℕ → Type 0
AreAlike w m k =
    (i : MethodInfo) × (j : MethodInfo) × (slice_get w.methods m ≡ Some i) × (slice_get w.methods k ≡ Some j) × (i.name ≡ j.name) × (length i.params ≡ length j.params)
