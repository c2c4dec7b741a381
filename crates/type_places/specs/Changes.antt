-- What a change of declared types says of each declaration.
use Rattle.std.specs.Prelude.{ℕ, Bool, true, false, ◌&&◌, ◌||◌, ◌==◌, nat_lt, nat_le, List, [], Option, Some, None, slice_get, unwrap_or}
use Rattle.class_world.specs.declared.world.JavaType.{JavaType}
use Rattle.class_world.specs.declared.world.JavaType.TheVariants as ty
use Rattle.class_world.specs.declared.world.JavaType.TheOpen as form
use Rattle.class_world.specs.declared.world.JavaType.TheOpen.{JavaType-F}
use Rattle.class_world.specs.declared.world.JavaType.TheFolds.{fold-JavaType}
use Rattle.type_places.specs.declared.changes.Changes.{Changes}

abbrev pub is_flagged : List Bool → ℕ → Bool
is_flagged flags k = unwrap_or (slice_get flags k) false

abbrev pub is_field : Changes → ℕ → Bool
is_field c f = is_flagged c.fields f

abbrev pub is_result : Changes → ℕ → Bool
is_result c m = is_flagged c.results m

abbrev pub is_param : Changes → (method index : ℕ) → Bool
is_param c m i = (i == c.index) && is_flagged c.params m

abbrev pub is_body : Option ℕ → ℕ → Bool
is_body None m = false
is_body (Some b) m = b == m

-- a byte of the body of the method is in the scope of the locals that change
abbrev pub is_in_scope : Changes → (method at : ℕ) → Bool
is_in_scope c m at = is_body c.body m && (nat_le c.scope.from at && nat_lt at c.scope.to)

-- what has this slot at this byte of the body of the method
abbrev pub is_slot : Changes → (method slot at : ℕ) → Bool
is_slot c m k at = is_param c m k || (is_in_scope c m at && is_flagged c.slots k)

-- a type with the new head below its array levels
abbrev pub raised_form : Changes → JavaType-F JavaType → JavaType
raised_form c (form.Prim p) = ty.Prim p
raised_form c form.Null = ty.Null
raised_form c (form.Class k xs) = ty.Class c.new []
raised_form c (form.Var k) = ty.Var k
raised_form c (form.Array x) = ty.Array x

abbrev pub raised : Changes → JavaType → JavaType
raised c = fold-JavaType JavaType (raised_form c)
