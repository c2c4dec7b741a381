-- Members of a value whose type changes: the new type has them, and no other answers in their place.
use Rattle.std.specs.Prelude.{ℕ, Bool, true, false, ◌&&◌, ◌||◌, not, List, length, Option, Some, None, is_some, ◌==◌}
use Rattle.std.specs.List.{find, list_all, list_any}
use Rattle.std.specs.Option.{option_map}
use Rattle.java_tree.specs.declared.tree.Node.{Node}
use Rattle.class_world.specs.declared.access.Declared.TheVariants as declared
use Rattle.class_world.specs.declared.world.FieldInfo.{FieldInfo}
use Rattle.class_world.specs.declared.world.MethodInfo.{MethodInfo}
use Rattle.class_world.specs.declared.world.JavaType.{JavaType}
use Rattle.class_world.specs.Types.{erased}
use Rattle.java_core.specs.Plain as p
use Rattle.type_kinds.specs.Kinds.{class_number, element, ty_of}
use Rattle.type_kinds.specs.Members.{field_at, method_at}
use Rattle.type_facts.specs.Facts.{Facts}
use Rattle.type_facts.specs.Members.{as_seen, seen_by}
use Rattle.type_facts.specs.declared.seen.Seen.{Seen}
use Rattle.type_places.specs.declared.changes.Changes.{Changes}
use Rattle.type_places.specs.Changes.{is_result, raised}
use Rattle.member_uses.specs.Targets.{is_static_method, named_in}
use Rattle.thrown_exceptions.specs.Thrown.{checked_in}
use Rattle.type_constraints.specs.declared.unmet.Constraint.TheVariants as kind
use Rattle.type_constraints.specs.declared.unmet.Unmet.{Unmet}
use Rattle.type_constraints.specs.Asked.{Asked, Ties}
use Rattle.type_constraints.specs.Changed.{are_alike, changed}
use Rattle.type_constraints.specs.Unmets.{noted, unless}

-- a value whose type is of a class, and changes
abbrev pub is_changed_object : Asked → p.Expr → Bool
is_changed_object a x = changed a x && not (is_some (element (ty_of x)))

-- ---- methods

-- the method k is m, or overrides it
abbrev pub is_one : Ties → (k m : ℕ) → Bool
is_one t k m = (k == m) || t.overrides k m

abbrev pub sees : Asked → (method : ℕ) → Bool
sees a k = a.facts.sees a.class (declared.Method k)

-- k may be called, and is m or one that m overrides
abbrev pub may_answer : Asked → (m k : ℕ) → Bool
may_answer a m k = sees a k && is_one a.ties m k

abbrev pub found_among : Asked → (m : ℕ) → List ℕ → Option ℕ
found_among a m ks = find (may_answer a m) ks

-- j may be called, and is k or overrides it
abbrev pub stands_for : Asked → (k j : ℕ) → Bool
stands_for a k j = sees a j && is_one a.ties j k

-- one of the old methods stands for k
abbrev pub is_known : Asked → (old : List ℕ) → (k : ℕ) → Bool
is_known a old k = list_any (stands_for a k) old

-- each new method that may be called is known of old
abbrev pub are_known : Asked → (old new : List ℕ) → Bool
are_known a old new = list_all (λ k. not (sees a k) || is_known a old k) new

-- ---- results and exceptions

abbrev pub raised_if : Changes → Bool → Option JavaType → Option JavaType
raised_if c true t = option_map (raised c) t
raised_if c false t = t

-- what a method declares that it gives, after the change
abbrev pub result_after : Asked → (m : ℕ) → MethodInfo → Option JavaType
result_after a m i = raised_if a.change (is_result a.change m) i.result

-- how a type sees what a method or constructor declares
abbrev pub seen_method : Facts → JavaType → MethodInfo → Seen
seen_method f t i = seen_by f t i.owner (is_static_method i)

abbrev pub result_on : Asked → JavaType → (m : ℕ) → MethodInfo → Option JavaType
result_on a t m i = option_map (as_seen (seen_method a.facts t i)) (result_after a m i)

abbrev pub erased_after : Asked → (m : ℕ) → MethodInfo → Option JavaType
erased_after a m i = option_map erased (result_after a m i)

-- the method k as n sees it gives what m gives as r sees it, and as both are erased
abbrev pub give_alike : Asked → (n r : JavaType) → (k : ℕ) → MethodInfo → (m : ℕ) → MethodInfo → Bool
give_alike a n r k j m i =
    are_alike a.facts (result_on a n k j) (result_on a r m i) && are_alike a.facts (erased_after a k j) (erased_after a m i)

abbrev pub are_among : (xs ys : List ℕ) → Bool
are_among xs ys = list_all (λ x. list_any (λ y. x == y) ys) xs

abbrev pub are_same : (xs ys : List ℕ) → Bool
are_same xs ys = are_among xs ys && are_among ys xs

-- both name the same checked exceptions
abbrev pub throw_alike : Facts → (j i : MethodInfo) → Bool
throw_alike f j i = are_same (checked_in f.sub j.throws) (checked_in f.sub i.throws)

-- ---- calls, at their nodes; r is the old type, and n the new one

abbrev pub answered : Asked → Node → (n r : JavaType) → (k : ℕ) → Option MethodInfo → (m : ℕ) → MethodInfo → Option Unmet → Option Unmet
answered a at n r k None m i first = noted at.id kind.Member first
answered a at n r k (Some j) m i first = unless (throw_alike a.facts j i) at.id kind.Throws (unless (give_alike a n r k j m i) at.id kind.Result first)

abbrev pub found : Asked → Node → (n r : JavaType) → Option ℕ → (m : ℕ) → MethodInfo → Option Unmet → Option Unmet
found a at n r None m i first = noted at.id kind.Member first
found a at n r (Some k) m i first = answered a at n r k (method_at a.world k) m i first

abbrev pub among : Asked → Node → (n r : JavaType) → (new old : List ℕ) → (m : ℕ) → MethodInfo → Option Unmet → Option Unmet
among a at n r new old m i first = found a at n r (found_among a m new) m i (unless (are_known a old new) at.id kind.Overload first)

-- the methods with the name and number of parameters of this one
abbrev pub like_it : Facts → JavaType → MethodInfo → List ℕ
like_it f t i = named_in f (class_number t) i.name (length i.params)

-- a static method is called by its class
abbrev pub used : Asked → Node → (n r : JavaType) → (m : ℕ) → MethodInfo → (is_static : Bool) → Option Unmet → Option Unmet
used a at n r m i true first = noted at.id kind.Member first
used a at n r m i false first = among a at n r (like_it a.facts n i) (like_it a.facts r i) m i first

abbrev pub used_known : Asked → Node → (r : JavaType) → (m : ℕ) → Option MethodInfo → Option Unmet → Option Unmet
used_known a at r m None first = first
used_known a at r m (Some i) first = used a at (raised a.change r) r m i (is_static_method i) first

abbrev pub used_if : Bool → Asked → Node → (r : JavaType) → (m : ℕ) → Option Unmet → Option Unmet
used_if true a at r m first = used_known a at r m (method_at a.world m) first
used_if false a at r m first = first

-- the method m of the value x
abbrev pub method_use : Asked → Node → p.Expr → (m : ℕ) → Option Unmet → Option Unmet
method_use a at x m first = used_if (is_changed_object a x) a at (ty_of x) m first

abbrev pub maybe_method_use : Asked → Node → p.MaybeExpr → (m : ℕ) → Option Unmet → Option Unmet
maybe_method_use a at p.NoExpr m first = first
maybe_method_use a at (p.AnExpr x) m first = method_use a at x m first

-- ---- fields

abbrev pub is_number : (k : ℕ) → Option ℕ → Bool
is_number k None = false
is_number k (Some j) = j == k

abbrev pub has_field : Asked → (r : JavaType) → (k : ℕ) → Option FieldInfo → Bool
has_field a r k None = false
has_field a r k (Some i) = is_number k (a.facts.field (raised a.change r) i.name)

-- the field k of the value x
abbrev pub field_use : Asked → Node → p.Expr → (k : ℕ) → Option Unmet → Option Unmet
field_use a at x k first = unless (not (is_changed_object a x) || has_field a (ty_of x) k (field_at a.world k)) at.id kind.Field first

abbrev pub maybe_field_use : Asked → Node → p.MaybeExpr → (k : ℕ) → Option Unmet → Option Unmet
maybe_field_use a at p.NoExpr k first = first
maybe_field_use a at (p.AnExpr x) k first = field_use a at x k first
