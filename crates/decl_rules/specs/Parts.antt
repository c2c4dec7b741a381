-- Where a rule is broken: at a node, at one of a list, at a node within another.
use Rattle.std.specs.Prelude.{◌≡◌, ◌<◌, ℕ, List, Some, Contains, slice_get}
use Rattle.java_tree.specs.declared.tree.Node.{Node}
use Rattle.java_tree.specs.declared.tree.Head.{Head}
use Rattle.java_tree.specs.declared.tree.Mod.{Mod}
use Rattle.java_tree.specs.Plain.{TypeExpr, TypeExprs, Member}
use Rattle.java_tree.specs.Plain as t
use Rattle.decl_rules.specs.Children.{Item, children}
use Rattle.rule_order.specs.First.{Breaches}

-- the second node stands in the first, or is it
pub data IsWithin : Item → Item → Type 0 where
  Itself : (x : Item) → IsWithin x x
  Below : (x y z : Item) → Contains (children x) y → IsWithin y z → IsWithin x z

abbrev pub SomeWithin : Item → (Item → Breaches) → Breaches
SomeWithin x F b = (y : Item) × IsWithin x y × F y b

-- what stands at the place j stands at an earlier one too
abbrev pub IsRepeat : {A : Type 0} → List A → ℕ → Type 0
IsRepeat {A} xs j = (i : ℕ) × (x : A) × (i < j) × (slice_get xs i ≡ Some x) × (slice_get xs j ≡ Some x)

abbrev pub node_of : TypeExpr → Node
node_of (t.Written n h s args dims) = n

abbrev pub head_of : TypeExpr → Head
head_of (t.Written n h s args dims) = h

abbrev pub args_of : TypeExpr → TypeExprs
args_of (t.Written n h s args dims) = args

abbrev pub dims_of : TypeExpr → ℕ
dims_of (t.Written n h s args dims) = dims

abbrev pub mods_of : Member → List Mod
mods_of (t.AField f) = f.mods
mods_of (t.AMethod m) = m.mods

abbrev pub member_node : Member → Node
member_node (t.AField f) = f.node
member_node (t.AMethod m) = m.node
