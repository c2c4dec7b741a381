-- The list of the pairs of methods of which the first overrides the second at once.
use Rattle.std.specs.Prelude.{◌≡◌, ℕ, IsTrue, List}
use Rattle.std.specs.List.{Contains}
use Rattle.class_world.specs.declared.world.World.{World}
use Rattle.class_world.specs.Overriding.{OverridesAtOnce}
use Rattle.overrides.specs.AtOnce.{IsFree}
use Rattle.overrides.specs.declared.links.Link.{Link}

-- what a link says is so
pub record IsLink (w : World) (x : Link) : Type 0 where
  pub at_once : OverridesAtOnce w x.lower x.upper
  pub free : IsTrue x.free → IsFree w x.lower x.upper

abbrev pub AreLinks : World → List Link → Type 0
AreLinks w links = (x : Link) → Contains links x → IsLink w x

abbrev pub HasLink : List Link → ℕ → ℕ → Type 0
HasLink links m t = (x : Link) × Contains links x × (x.lower ≡ m) × (x.upper ≡ t)

-- what the links say is so, and all pairs are there
pub record AreAllLinks (w : World) (links : List Link) : Type 0 where
  pub each : AreLinks w links
  pub all : (m t : ℕ) → OverridesAtOnce w m t → HasLink links m t
