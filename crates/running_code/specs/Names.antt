-- Names of classes, by the names and the world alone.
use Rattle.std.specs.Prelude.{ℕ, List, [], ◌∷◌, ◌++◌, flat_map, Option, Some, None, slice_get, unwrap_or}
use Rattle.java_tree.specs.declared.tree.Name.{Name}
use Rattle.class_world.specs.declared.world.World.{World}
use Rattle.class_world.specs.declared.world.TypeInfo.{TypeInfo}
use Rattle.class_world.specs.declared.world.JavaType.{JavaType}
use Rattle.class_world.specs.declared.world.JavaType.TheFolds.{fold-JavaType}
use Rattle.core_meaning.specs.Code.{Code}
use Rattle.core_meaning.specs.Classes.{element_name}

-- how an array's class names the type of its elements
abbrev pub element_name_of : Code → JavaType → List ℕ
element_name_of c t = fold-JavaType (List ℕ) (element_name c) t

module _ (names : List (List ℕ)) where
  abbrev pub text_in : Name → List ℕ
  text_in n = unwrap_or (slice_get names n.0) []

  abbrev pub package_in : List Name → List ℕ
  package_in ns = flat_map (λ n. text_in n ++ 46 ∷ []) ns

  abbrev pub info_name : Option TypeInfo → List ℕ
  info_name None = []
  info_name (Some i) = package_in i.«package» ++ text_in i.name

  abbrev pub name_in : World → ℕ → List ℕ
  name_in w k = info_name (slice_get w.types k)
