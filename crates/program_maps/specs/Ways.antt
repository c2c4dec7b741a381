-- Where the types, methods and fields of a program stand in another one.
use Rattle.std.specs.Prelude.{◌≡◌, ℕ, ◌+◌, ◌<◌, List, [], Option, Some, None, slice_get, length}
use Rattle.class_world.specs.declared.world.JavaType.{JavaType}
use Rattle.class_world.specs.declared.world.JavaType.TheVariants as ty
use Rattle.class_world.specs.declared.world.JavaType.TheOpen as form
use Rattle.class_world.specs.declared.world.JavaType.TheOpen.{JavaType-F}
use Rattle.class_world.specs.declared.world.JavaType.TheFolds.{fold-JavaType}
use Rattle.program_maps.specs.declared.numbers.Numbers.{Numbers}
use Rattle.program_maps.specs.declared.numbers.Map.{Map}

-- by number, for all numbers
pub record Ways : Type 0 where
  pub types : ℕ → ℕ
  pub methods : ℕ → ℕ
  pub fields : ℕ → ℕ

abbrev pub IsOneToOne : (ℕ → ℕ) → Type 0
IsOneToOne f = (i j : ℕ) → f i ≡ f j → i ≡ j

-- a type with the numbers of its classes in the other program
abbrev pub moved_form : (ℕ → ℕ) → JavaType-F JavaType → JavaType
moved_form f (form.Prim p) = ty.Prim p
moved_form f form.Null = ty.Null
moved_form f (form.Class c xs) = ty.Class (f c) xs
moved_form f (form.Var k) = ty.Var k
moved_form f (form.Array x) = ty.Array x

abbrev pub moved : (ℕ → ℕ) → JavaType → JavaType
moved f = fold-JavaType JavaType (moved_form f)

-- ---- the map that the code has

-- numbers that the list does not have go behind all that are there
abbrev pub or_behind : ℕ → Option ℕ → ℕ
or_behind n None = n
or_behind n (Some k) = k

abbrev pub goes_to : Numbers → ℕ → ℕ
goes_to x i = or_behind (length x.back + i) (slice_get x.to i)

-- each number of the list is led back
abbrev pub LeadsBack : Numbers → Type 0
LeadsBack x = (i k : ℕ) → slice_get x.to i ≡ Some k → slice_get x.back k ≡ Some (Some i)

abbrev pub ways : Map → Ways
ways m = record { types = goes_to m.types; methods = goes_to m.methods; fields = goes_to m.fields }
