-- The objects before a run.
use Rattle.std.specs.Prelude.{ℕ, List, [], ◌∷◌}
use Rattle.class_world.specs.declared.world.JavaType.TheVariants as ty
use Rattle.core_meaning.specs.declared.values.Thing.{Thing}
use Rattle.core_meaning.specs.declared.values.Thing.TheVariants.{Array, Object}
use Rattle.core_meaning.specs.declared.values.Value.TheVariants as v
use Rattle.core_meaning.specs.BuiltIns.{print_stream, string_class}
use Rattle.core_meaning.specs.Runs.{arguments}

-- System.out, and an array of so many arguments
abbrev pub first_heap : (count : ℕ) → List Thing
first_heap count = Object print_stream [] v.Null ∷ Array (ty.Class string_class []) (arguments 0 count) ∷ []
