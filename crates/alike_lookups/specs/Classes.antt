-- Superclasses of two programs.
use Rattle.std.specs.Prelude.{◌≡◌, ℕ, List}
use Rattle.std.specs.List.{Contains}
use Rattle.class_world.specs.declared.world.World.{World}
use Rattle.class_world.specs.declared.world.JavaType.{JavaType}
use Rattle.class_world.specs.declared.world.JavaType.TheVariants as ty
use Rattle.class_world.specs.Overriding.{IsClass, IsSuperclass}
use Rattle.running_code.specs.Running.{HaveOneSuperclass}

-- the type is that of the class s
abbrev pub IsClassIn : World → JavaType → ℕ → Type 0
IsClassIn w d s = ((args : List JavaType) × (d ≡ ty.Class s args)) × IsClass w s

-- s is a class of one of the types
abbrev pub IsClassAmong : World → List JavaType → ℕ → Type 0
IsClassAmong w ds s = (d : JavaType) × Contains ds d × IsClassIn w d s

-- the superclass of the class k goes to that of the class to which k goes
abbrev pub IsUpKept : (old new : World) → (ℕ → ℕ) → ℕ → Type 0
IsUpKept w v f k =
    HaveOneSuperclass w → HaveOneSuperclass v
    → ((s : ℕ) → IsSuperclass w k s → IsSuperclass v (f k) (f s)) × ((t : ℕ) → IsSuperclass v (f k) t → (s : ℕ) × (t ≡ f s) × IsSuperclass w k s)
