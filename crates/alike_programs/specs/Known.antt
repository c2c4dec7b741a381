-- The numbers of the classes of a core.
use Rattle.std.specs.Prelude.{ℕ, ◌<◌, List, [], ◌∷◌}
use Rattle.java_core.specs.Plain as e

-- they are below a count
abbrev pub AreKnown : ℕ → List e.Class → Type 0
AreKnown n [] = Unit {0}
AreKnown n (x ∷ xs) = (x.number < n) × AreKnown n xs

abbrev pub AreKnownIn : ℕ → List e.File → Type 0
AreKnownIn n [] = Unit {0}
AreKnownIn n (f ∷ fs) = AreKnown n f.classes × AreKnownIn n fs
