-- The methods that have one signature with another in a type.
use Rattle.std.specs.Prelude.{◌≡◌, ◌↔◌, ℕ, List}
use Rattle.std.specs.List.{Contains}
use Rattle.class_world.specs.declared.world.World.{World}
use Rattle.class_world.specs.Signatures.{HaveOneSignatureIn}
use Rattle.numbered_methods.specs.declared.NumberedMethods.{NumberedMethods}
use Rattle.numbered_methods.specs.Added.{AreListed, IsOnce}

-- the table has these methods as the type c sees them
abbrev pub IsNumbered : World → ℕ → List ℕ → NumberedMethods → Type 0
IsNumbered w c ms t = (t.class ≡ c) × AreListed w (Contains ms) t

-- of the methods those that have one signature with m in c, each once
abbrev pub AreAlike : World → ℕ → ℕ → List ℕ → List ℕ → Type 0
AreAlike w c m ms xs = ((k : ℕ) → Contains xs k ↔ (Contains ms k × HaveOneSignatureIn w c m k)) × IsOnce xs
