-- When the order of types is the same in two worlds.
use Rattle.std.specs.Prelude.{◌≡◌, ◌↔◌, ℕ, ◌<◌, ◌^◌, [], length}
use Rattle.class_world.specs.declared.world.World.{World}
use Rattle.class_world.specs.declared.world.JavaType.{JavaType}
use Rattle.class_world.specs.declared.world.JavaType.TheVariants as ty
use Rattle.class_world.specs.Types.{erased}
use Rattle.class_world.specs.Subtypes.{Subtype}
use Rattle.type_kinds.specs.OfWorld.{AreBoth}
use Rattle.core_meaning.specs.Code.{Code, IsTold}
use Rattle.program_maps.specs.declared.numbers.Numbers.{Numbers}
use Rattle.program_maps.specs.Ways.{goes_to, moved}
use Rattle.program_maps.specs.Pairs.{Pair}
use Rattle.program_maps.specs.Correspond.{OrderKept}

-- types of the world, the first a subtype of the second
abbrev pub IsBelow : World → JavaType → JavaType → Type 0
IsBelow w s t = AreBoth w s t × Subtype w s t

-- the class k is below g, both without arguments, in both worlds or in none
abbrev pub IsPairKept : (old new : World) → (ℕ → ℕ) → (k g : ℕ) → Type 0
IsPairKept w v f k g = IsBelow v (ty.Class (f k) []) (ty.Class (f g) []) ↔ IsBelow w (ty.Class k []) (ty.Class g [])

-- The map has a place for each type of both worlds, Object stays, and erased types stand to each other as before.
pub record KeepsOrder (x : Numbers) (old new : World) : Type 0 where
  pub few : length old.types < 2 ^ 32
  pub to : length x.to ≡ length old.types
  pub back : length x.back ≡ length new.types
  pub top : 0 ≡ goes_to x 0
  pub order : (s t : JavaType) → erased s ≡ s → erased t ≡ t → IsBelow new (moved (goes_to x) s) (moved (goes_to x) t) ↔ IsBelow old s t

-- so for what is told of the worlds
abbrev pub KeepsOrderTold : Numbers → (old new : World) → Type 0
KeepsOrderTold x old new =
    (p : Pair) (c d : Code) → p.ways.types ≡ goes_to x → c.world ≡ old → d.world ≡ new → IsTold c → IsTold d → OrderKept p c d
