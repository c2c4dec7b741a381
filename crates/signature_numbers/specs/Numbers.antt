-- The numbers of signatures.
use Rattle.std.specs.Prelude.{◌≡◌, ℕ, List, Option, Some}
use Rattle.java_tree.specs.declared.tree.Name.{Name}
use Rattle.class_world.specs.declared.world.JavaType.{JavaType}
use Rattle.signature_numbers.specs.Codes.{code}
use Rattle.signature_numbers.specs.Steps.{Steps, next_in, reached}

-- the number of a name with parameter types
unfoldable pub number_in : Steps → Name → List JavaType → Option ℕ
number_in t a ps = reached (next_in t) (Some 0) (code a ps)

-- two with one number are the same
abbrev pub AreApart : Steps → Type 0
AreApart t = (a b : Name) (ps qs : List JavaType) (n : ℕ) → number_in t a ps ≡ Some n → number_in t b qs ≡ Some n → (a ≡ b) × (ps ≡ qs)
