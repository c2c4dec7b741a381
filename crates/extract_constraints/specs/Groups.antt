-- The signatures of a method's group (JLS 8.4.2).
use Rattle.std.specs.Prelude.{ℕ, Bool, false, ◌&&◌, ◌||◌, not, ◌==◌, List, [], Option, Some, None}
use Rattle.std.specs.List.{list_any}
use Rattle.class_world.specs.declared.world.MethodInfo.{MethodInfo}
use Rattle.class_world.specs.declared.world.JavaType.{JavaType}
use Rattle.class_world.specs.declared.world.JavaType.TheVariants as ty
use Rattle.class_world.specs.Types.{erased}
use Rattle.type_kinds.specs.Members.{method_at}
use Rattle.method_choice.specs.Choice.{pairwise}
use Rattle.member_uses.specs.Targets.{superclass}
use Rattle.extract_constraints.specs.Told.{Told, Where}
use Rattle.extract_constraints.specs.Flows.{world}

-- the type of `this` in code of a user, whose classes have no type parameters, and the one that `super` stands for
abbrev pub own_type : Where → JavaType
own_type a = ty.Class a.owner []

abbrev pub type_or_null : Option JavaType → JavaType
type_or_null None = ty.Null
type_or_null (Some t) = t

abbrev pub super_type : Where → JavaType
super_type a = type_or_null (superclass (world a) a.owner)

abbrev pub is_alike : Told → (s t : JavaType) → Bool
is_alike k s t = k.facts.sub s t && k.facts.sub t s

abbrev pub erase_alike : Told → (s t : JavaType) → Bool
erase_alike k s t = is_alike k (erased s) (erased t)

-- the parameter types have the same erasures
abbrev pub have_one_erasure : Told → (i j : MethodInfo) → Bool
have_one_erasure k i j = pairwise (erase_alike k) i.params j.params

-- the method m is j, overrides it or is overridden by it
abbrev pub are_tied : Told → (m j : ℕ) → Bool
are_tied k m j = (j == m) || k.ties.overrides m j || k.ties.overrides j m

abbrev pub differ : Told → MethodInfo → Option MethodInfo → Bool
differ k i None = false
differ k i (Some j) = not (have_one_erasure k i j)

-- the group of the method has two signatures, as overriding or equal erasures tell
abbrev pub is_several : Told → Where → (m : ℕ) → MethodInfo → Bool
is_several k a m i = list_any (λ j. not (are_tied k m j) && differ k i (method_at (world a) j)) (k.ties.group m)

abbrev pub is_among : List ℕ → ℕ → Bool
is_among js m = list_any (λ j. j == m) js

abbrev pub have_one_erasure_with : Told → MethodInfo → Option MethodInfo → Bool
have_one_erasure_with k i None = false
have_one_erasure_with k i (Some j) = have_one_erasure k i j

-- another one of the group has its signature, and is not of its family
abbrev pub has_double : Told → Where → (m : ℕ) → MethodInfo → Bool
has_double k a m i = list_any (λ j. not (are_tied k m j) && (not (is_among (k.ties.family m) j) && have_one_erasure_with k i (method_at (world a) j))) (k.ties.group m)
