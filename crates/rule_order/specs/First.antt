-- The first of a set of broken rules.
use Rattle.std.specs.Prelude.{◌≡◌, ℕ, ◌<◌, ◌≤◌, ◌⊎◌, Option, Some, None}
use Rattle.java_tree.specs.declared.fault.Broken.{Broken}
use Rattle.java_tree.specs.declared.fault.Family.{Family}
use Rattle.rule_order.specs.declared.Breach.{Breach}

-- a set of broken rules
abbrev pub Breaches : Type 1
Breaches = Breach → Type 0

abbrev pub Either : Breaches → Breaches → Breaches
Either A B = λ b. A b ⊎ B b

-- at an earlier node, or at the same with no higher number
abbrev pub IsBefore : Breach → Breach → Type 0
IsBefore a b = (a.node < b.node) ⊎ ((a.node ≡ b.node) × (a.rule ≤ b.rule))

-- the first of the set, or the set is empty
abbrev pub IsFirst : Breaches → Option Breach → Type 0
IsFirst A None = (b : Breach) → A b → ⊥
IsFirst A (Some a) = A a × ((b : Breach) → A b → IsBefore a b)

abbrev pub IsNone : Breaches → Type 0
IsNone A = (b : Breach) → A b → ⊥

-- the first of a set, as the rule of a family
abbrev pub IsFirstOf : Family → Breaches → Broken → Type 0
IsFirstOf f A b = (b.family ≡ f) × ((n : ℕ) × (b.node ≡ Some n) × IsFirst A (Some (record { node = n; rule = b.number })))

-- the third is the one of two that is named, if there is one
abbrev pub IsEarlier : Option Breach → Option Breach → Option Breach → Type 0
IsEarlier None b r = r ≡ b
IsEarlier (Some a) None r = r ≡ Some a
IsEarlier (Some a) (Some b) r = ((r ≡ Some a) × IsBefore a b) ⊎ ((r ≡ Some b) × IsBefore b a)
