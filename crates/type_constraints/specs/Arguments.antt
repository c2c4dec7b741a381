-- Arguments whose types change: the same method or constructor is chosen, and takes them.
use Rattle.std.specs.Prelude.{ℕ, ◌+◌, Bool, true, false, ◌&&◌, ◌||◌, not, List, [], length, Option, Some, None, slice_get, ◌==◌}
use Rattle.std.specs.List.{list_all, list_any}
use Rattle.std.specs.Option.{option_map}
use Rattle.class_world.specs.declared.world.TypeInfo.{TypeInfo}
use Rattle.class_world.specs.declared.world.MethodInfo.{MethodInfo}
use Rattle.class_world.specs.declared.world.JavaType.{JavaType}
use Rattle.class_world.specs.declared.world.JavaType.TheVariants as ty
use Rattle.class_world.specs.Inheritance.{holder}
use Rattle.class_world.specs.Types.{erased, with_own}
use Rattle.java_core.specs.declared.expr.Before.{Before}
use Rattle.java_core.specs.declared.expr.Before.TheVariants as before
use Rattle.java_core.specs.Plain as p
use Rattle.type_kinds.specs.Kinds.{class_number, node_of, ty_of}
use Rattle.type_kinds.specs.Members.{method_at}
use Rattle.type_facts.specs.Facts.{Facts}
use Rattle.type_facts.specs.Members.{as_seen, params_at}
use Rattle.type_facts.specs.declared.seen.Seen.{Seen}
use Rattle.type_places.specs.Changes.{is_param}
use Rattle.method_choice.specs.Choice.{pairwise}
use Rattle.member_uses.specs.Targets.{is_constructor, named_in, superclass}
use Rattle.type_constraints.specs.declared.unmet.Constraint.TheVariants as kind
use Rattle.type_constraints.specs.declared.unmet.Unmet.{Unmet}
use Rattle.type_constraints.specs.Asked.{Asked}
use Rattle.type_constraints.specs.Changed.{changed, fits_after, flow_to, is_alike}
use Rattle.type_constraints.specs.Uses.{seen_method, sees}
use Rattle.type_constraints.specs.Unmets.{unless}

-- ---- whose method it is

-- the type of `this` (8.1.2), and the one that `super` stands for (8.1.4); where there is none, nothing is called on it
abbrev pub own_type : Asked → JavaType
own_type a = with_own a.class (params_at a.world a.class)

abbrev pub type_or_null : Option JavaType → JavaType
type_or_null None = ty.Null
type_or_null (Some t) = t

abbrev pub super_type : Asked → JavaType
super_type a = type_or_null (superclass a.world a.class)

abbrev pub named_type : Asked → Before → JavaType
named_type a before.Nothing = own_type a
named_type a before.Super = super_type a
named_type a (before.Type n c) = ty.Class c []

-- of a static call
abbrev pub static_type : Asked → Before → p.MaybeExpr → JavaType
static_type a b p.NoExpr = named_type a b
static_type a b (p.AnExpr x) = ty_of x

abbrev pub is_nothing : Before → Bool
is_nothing before.Nothing = true
is_nothing before.Super = false
is_nothing (before.Type n c) = false

-- a simple name may name any method of its class
abbrev pub is_simple : Before → p.MaybeExpr → Bool
is_simple b p.NoExpr = is_nothing b
is_simple b (p.AnExpr x) = false

-- ---- the signatures of a group

abbrev pub have_one_erasure : Facts → (i j : MethodInfo) → Bool
have_one_erasure f i j = pairwise (λ s t. is_alike f (erased s) (erased t)) i.params j.params

-- the method m is k, overrides it or is overridden by it
abbrev pub are_tied : Asked → (m k : ℕ) → Bool
are_tied a m k = (k == m) || a.ties.overrides m k || a.ties.overrides k m

abbrev pub differ : Facts → MethodInfo → Option MethodInfo → Bool
differ f i None = false
differ f i (Some j) = not (have_one_erasure f i j)

-- The group of the method has two signatures, as overriding or equal erasures tell.
abbrev pub is_several : Asked → (m : ℕ) → MethodInfo → Bool
is_several a m i = list_any (λ k. not (are_tied a m k) && differ a.facts i (method_at a.world k)) (a.ties.group m)

-- ---- a group of one signature: each argument goes to its parameter

-- the i-th parameter, of these declared types
abbrev pub param_seen : Seen → List JavaType → (i : ℕ) → Option JavaType
param_seen s ts i = option_map (as_seen s) (slice_get ts i)

abbrev pub to_params : Asked → Seen → List JavaType → (m i : ℕ) → p.Exprs → Option Unmet → Option Unmet
to_params a s ts m i p.End first = first
to_params a s ts m i (p.Also x xs) first = to_params a s ts m (i + 1) xs (flow_to a (is_param a.change m i) (param_seen s ts i) x first)

-- ---- a group of several: each candidate takes the argument as before

abbrev pub is_same : Bool → Bool → Bool
is_same true b = b
is_same false b = not b

abbrev pub takes_alike : Asked → p.Expr → Option JavaType → Bool
takes_alike a x None = true
takes_alike a x (Some t) = is_same (a.facts.fits (ty_of x) t) (fits_after a x t)

abbrev pub known_takes_alike : Asked → JavaType → (i : ℕ) → p.Expr → Option MethodInfo → Bool
known_takes_alike a t i x None = true
known_takes_alike a t i x (Some j) = takes_alike a x (param_seen (seen_method a.facts t j) j.params i)

-- `free` says that every method of the class may be named
abbrev pub is_open : Asked → (free : Bool) → (k : ℕ) → Bool
is_open a free k = free || sees a k

abbrev pub each_takes_alike : Asked → (free : Bool) → JavaType → (i : ℕ) → p.Expr → List ℕ → Bool
each_takes_alike a free t i x ks = list_all (λ k. not (is_open a free k) || known_takes_alike a t i x (method_at a.world k)) ks

-- if k is a constructor of n parameters that may be named
abbrev pub constructs_alike : Asked → JavaType → (n i : ℕ) → p.Expr → (k : ℕ) → Bool
constructs_alike a t n i x k = not (is_constructor n (method_at a.world k) && sees a k) || known_takes_alike a t i x (method_at a.world k)

abbrev pub each_constructs_alike : Asked → JavaType → (n i : ℕ) → p.Expr → List ℕ → Bool
each_constructs_alike a t n i x ks = list_all (constructs_alike a t n i x) ks

abbrev pub methods_of : Option TypeInfo → List ℕ
methods_of None = []
methods_of (Some info) = info.methods

abbrev pub declared_in : Asked → Option ℕ → List ℕ
declared_in a None = []
declared_in a (Some c) = methods_of (slice_get a.world.types c)

abbrev pub is_chosen_still : Asked → (free : Bool) → JavaType → MethodInfo → (constructs : Bool) → (i : ℕ) → p.Expr → Bool
is_chosen_still a free t j true i x = each_constructs_alike a t (length j.params) i x (declared_in a (class_number t))
is_chosen_still a free t j false i x = each_takes_alike a free t i x (named_in a.facts (holder t) j.name (length j.params))

abbrev pub to_candidates : Asked → (free : Bool) → JavaType → MethodInfo → (i : ℕ) → p.Expr → Option Unmet → Option Unmet
to_candidates a free t j i x first = unless (not (changed a x) || is_chosen_still a free t j j.constructor i x) (node_of x) kind.Overload first

abbrev pub to_several : Asked → (free : Bool) → JavaType → MethodInfo → (i : ℕ) → p.Exprs → Option Unmet → Option Unmet
to_several a free t j i p.End first = first
to_several a free t j i (p.Also x xs) first = to_several a free t j (i + 1) xs (to_candidates a free t j i x first)

-- ---- the arguments of a method or constructor, as the type t has it

abbrev pub to_group : (several : Bool) → Asked → (free : Bool) → JavaType → (m : ℕ) → MethodInfo → p.Exprs → Option Unmet → Option Unmet
to_group true a free t m j xs first = to_several a free t j 0 xs first
to_group false a free t m j xs first = to_params a (seen_method a.facts t j) j.params m 0 xs first

abbrev pub to_method : Asked → (free : Bool) → JavaType → (m : ℕ) → Option MethodInfo → p.Exprs → Option Unmet → Option Unmet
to_method a free t m None xs first = first
to_method a free t m (Some j) xs first = to_group (is_several a m j) a free t m j xs first

abbrev pub some_changed : Asked → p.Exprs → Bool
some_changed a p.End = false
some_changed a (p.Also x xs) = changed a x || some_changed a xs

abbrev pub arguments_if : Bool → Asked → (free : Bool) → JavaType → (m : ℕ) → p.Exprs → Option Unmet → Option Unmet
arguments_if true a free t m xs first = to_method a free t m (method_at a.world m) xs first
arguments_if false a free t m xs first = first

abbrev pub arguments : Asked → (free : Bool) → JavaType → (m : ℕ) → p.Exprs → Option Unmet → Option Unmet
arguments a free t m xs first = arguments_if (some_changed a xs) a free t m xs first

-- the method is static, and called with a type, a value or nothing before it
abbrev pub to_static : Asked → Before → p.MaybeExpr → (m : ℕ) → p.Exprs → Option Unmet → Option Unmet
to_static a b x m xs first = to_method a (is_simple b x) (static_type a b x) m (method_at a.world m) xs first

abbrev pub static_arguments : Asked → Before → p.MaybeExpr → (m : ℕ) → p.Exprs → Option Unmet → Option Unmet
static_arguments a b x m xs first = arguments a (is_simple b x) (static_type a b x) m xs first
