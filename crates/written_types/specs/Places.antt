-- Where a written type stands: what names mean there.
use Rattle.std.specs.Prelude.{◌≡◌, ℕ, List, Option, Some, slice_get}
use Rattle.std.specs.Option.{option_map}
use Rattle.java_tree.specs.declared.tree.Name.{Name}
use Rattle.class_world.specs.declared.world.TypeInfo.{TypeInfo}
use Rattle.type_names.specs.declared.known.JavaNames.{JavaNames}
use Rattle.type_names.specs.Known.{File}
use Rattle.type_names.specs.Sees.{meant}
use Rattle.type_names.specs.Tables.{StandsFor}
use Rattle.written_types.specs.declared.scope.Scope.{Scope}

-- The type that a simple name means in the file, by number; how many type parameters the type of a number has, if there is one; and the type
-- parameters of the class around, in order.
pub record Place : Type 0 where
  pub mean : Name → Option ℕ
  pub params : ℕ → Option ℕ
  pub vars : List Name

-- what names mean in a file of a program of these types
abbrev pub place_in : JavaNames → List File → File → List TypeInfo → List Name → Place
place_in j fs f types vars = record {
  mean = meant j fs f;
  params = λ c. option_map (λ info. info.params) (slice_get types c);
  vars = vars;
}

-- the place that a scope speaks of
pub record IsPlace (s : Scope) (p : Place) : Type 0 where
  pub java : JavaNames
  pub files : List File
  pub file : File
  pub stands : StandsFor s.names.now java files
  pub at : slice_get files s.file ≡ Some file
  pub same : p ≡ place_in java files file s.types.now s.vars.now
