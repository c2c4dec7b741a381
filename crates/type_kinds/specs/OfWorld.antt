-- Relations between types of the world; types that are not of it are in none.
use Rattle.std.specs.Prelude.{◌≡◌, ◌⊎◌, ℕ, List, [], ◌∷◌, length, Option, Some, None, slice_get}
use Rattle.class_world.specs.declared.world.World.{World}
use Rattle.class_world.specs.declared.world.TypeInfo.{TypeInfo}
use Rattle.class_world.specs.declared.world.JavaType.{JavaType}
use Rattle.class_world.specs.declared.world.JavaType.TheVariants as ty
use Rattle.class_world.specs.Types.{IsReference}
use Rattle.class_world.specs.Sound.{IsOfWorld}
use Rattle.class_world.specs.Subtypes.{IsSuperAs}

-- a class of the world that takes these arguments, or has none (4.5, 4.8)
abbrev pub Takes : World → ℕ → List JavaType → Type 0
Takes w c xs = (info : TypeInfo) × (slice_get w.types c ≡ Some info) × ((xs ≡ []) ⊎ (length xs ≡ info.params))

-- reference types of the world
abbrev pub AreArgs : World → List JavaType → Type 0
AreArgs w [] = Unit {0}
AreArgs w (x ∷ xs) = IsReference x × IsOfWorld w x × AreArgs w xs

abbrev pub AreBoth : World → JavaType → JavaType → Type 0
AreBoth w s t = IsOfWorld w s × IsOfWorld w t

-- a type of the world that is not that of null
abbrev pub HasSupers : World → JavaType → Type 0
HasSupers w t = IsOfWorld w t × (t ≡ ty.Null → ⊥)

-- the supertype of t with the class g, none where t is null or not of the world
abbrev pub SuperIs : World → JavaType → ℕ → Option JavaType → Type 0
SuperIs w t g r = (HasSupers w t → IsSuperAs w t g r) × ((HasSupers w t → ⊥) → r ≡ None)

-- the same, with which of the two it is
abbrev pub SuperTold : World → JavaType → ℕ → Option JavaType → Type 0
SuperTold w t g r = (HasSupers w t × IsSuperAs w t g r) ⊎ ((HasSupers w t → ⊥) × (r ≡ None))
