-- Which names mean generic types in a file, by what is answered of each.
use Rattle.std.specs.Prelude.{◌≡◌, Bool}
use Rattle.java_tree.specs.declared.tree.Name.{Name}

-- each answer about a name is what this says of it
pub record Told (answers : Name → Bool → Type 0) (generic : Name → Bool) : Type 0 where
  pub tells : (n : Name) (is : Bool) → answers n is → is ≡ generic n
