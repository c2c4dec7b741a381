-- DR6 and DR7: a type has two methods, or two constructors, of one erased signature (JLS 8.4.2, 8.8.2, 8.4.8.3 and 4.6). Two of one signature have one erased signature.
use Rattle.std.specs.Prelude.{◌≡◌, ℕ, ◌<◌, List, Some, slice_get, map, if◌then◌else◌}
use Rattle.java_tree.specs.declared.tree.Primitive.{Primitive}
use Rattle.class_world.specs.declared.world.JavaType.{JavaType}
use Rattle.class_world.specs.declared.world.JavaType.TheVariants as ty
use Rattle.class_world.specs.declared.world.MethodInfo.{MethodInfo}
use Rattle.class_world.specs.Types.{erased}
use Rattle.rule_order.specs.First.{Breaches}

-- A type that was read: the null type, which stands in a world for a written type that says none, stands nowhere in it.
pub data IsRead : JavaType → Type 0 where
  a_primitive : (p : Primitive) → IsRead (ty.Prim p)
  a_class : (c : ℕ) (args : List JavaType) → ((k : ℕ) (a : JavaType) → slice_get args k ≡ Some a → IsRead a) → IsRead (ty.Class c args)
  a_variable : (k : ℕ) → IsRead (ty.Var k)
  an_array : (element : JavaType) → IsRead element → IsRead (ty.Array element)

abbrev pub AreRead : List JavaType → Type 0
AreRead ts = (k : ℕ) (t : JavaType) → slice_get ts k ≡ Some t → IsRead t

-- of one type, both methods or both constructors, with one name and the same parameter types after erasure
abbrev pub AreAlike : MethodInfo → MethodInfo → Type 0
AreAlike m n = (m.owner ≡ n.owner) × (m.name ≡ n.name) × (m.constructor ≡ n.constructor) × (map erased m.params ≡ map erased n.params)

abbrev pub rule_of : MethodInfo → ℕ
rule_of n = if n.constructor then 7 else 6

-- the rule is broken at this one if it is the later one of two that are alike
abbrev pub BreaksAt : MethodInfo → Breaches
BreaksAt n b = AreRead n.params × (node : ℕ) × (n.node ≡ Some node) × (b.node ≡ node) × (b.rule ≡ rule_of n)

-- DR6, and DR7 for constructors; at the later one in the list.
abbrev pub RepeatsMethod : List MethodInfo → Breaches
RepeatsMethod ms b =
    (i : ℕ) × (k : ℕ) × (m : MethodInfo) × (n : MethodInfo) × (i < k) × (slice_get ms i ≡ Some m) × (slice_get ms k ≡ Some n) × AreAlike m n × BreaksAt n b
