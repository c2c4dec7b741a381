-- Where rules are broken: at a node, at one of a list; and the first broken rule so far, which a walk takes along.
use Rattle.std.specs.Prelude.{◌≡◌, ℕ, Bool, true, false, ◌&&◌, ◌||◌, List, Option, Some, None, Contains, nat_lt, nat_eq, nat_le}
use Rattle.java_tree.specs.declared.tree.Node.{Node}
use Rattle.rule_order.specs.declared.Breach.{Breach}
use Rattle.rule_order.specs.First.{Breaches, Either, IsFirst}

-- the rule is broken at this node if P holds
abbrev pub At : (rule : ℕ) → Node → Type 0 → Breaches
At rule node P b = (b.rule ≡ rule) × (b.node ≡ node.id) × P

abbrev pub Nowhere : Breaches
Nowhere b = ⊥

-- what one of a list breaks
abbrev pub SomeOf : {A : Type 0} → List A → (A → Breaches) → Breaches
SomeOf {A} xs F b = (x : A) × Contains xs x × F x b

abbrev pub Only : Option Breach → Breaches
Only None b = ⊥
Only (Some a) b = b ≡ a

-- r is the first of the set and of the one before, if there was one
abbrev pub Adds : Breaches → Option Breach → Option Breach → Type 0
Adds S a r = IsFirst (Either (Only a) S) r

abbrev pub is_before : Breach → Breach → Bool
is_before a b = nat_lt a.node b.node || (nat_eq a.node b.node && nat_le a.rule b.rule)

abbrev pub choose : Bool → Breach → Breach → Option Breach
choose true a b = Some a
choose false a b = Some b

abbrev pub earlier_of : Option Breach → Option Breach → Option Breach
earlier_of None b = b
earlier_of (Some a) None = Some a
earlier_of (Some a) (Some b) = choose (is_before a b) a b

abbrev pub noted : Option Breach → (rule : ℕ) → Node → Bool → Option Breach
noted a rule node true = earlier_of a (Some (record { node = node.id; rule = rule }))
noted a rule node false = a
