-- Arguments: they go to the parameters of a group of one signature, or each candidate of several takes them as before (JLS 15.12.2).
use Rattle.std.specs.Prelude.{ℕ, ◌+◌, Bool, true, false, ◌&&◌, ◌||◌, not, ◌==◌, List, [], ◌∷◌, length, Option, Some, None, slice_get}
use Rattle.std.specs.List.{list_all, list_any}
use Rattle.std.specs.Option.{option_map}
use Rattle.class_world.specs.declared.world.MethodInfo.{MethodInfo}
use Rattle.class_world.specs.declared.world.JavaType.{JavaType}
use Rattle.class_world.specs.declared.world.JavaType.TheVariants as ty
use Rattle.class_world.specs.declared.access.Declared.TheVariants as declared
use Rattle.class_world.specs.Inheritance.{holder}
use Rattle.java_core.specs.declared.expr.Before.{Before}
use Rattle.java_core.specs.declared.expr.Before.TheVariants as before
use Rattle.java_core.specs.Plain as p
use Rattle.type_kinds.specs.Kinds.{args_of, class_number, node_of, ty_of}
use Rattle.type_kinds.specs.Members.{method_at}
use Rattle.type_facts.specs.Members.{as_seen, seen_by}
use Rattle.type_facts.specs.declared.seen.Seen.{Seen}
use Rattle.kept_places.specs.declared.links.Kind.TheVariants as kind
use Rattle.kept_places.specs.declared.links.Link.{Link}
use Rattle.marked_types.specs.Marked.{head_mark, is_number, mentions, own_mark, places_of, raised}
use Rattle.marked_types.specs.Table.{param_mark}
use Rattle.member_uses.specs.Targets.{is_static_method}
use Rattle.extract_constraints.specs.declared.arguments.Called.{Called}
use Rattle.extract_constraints.specs.Told.{Told, Where, need_all, need_unless}
use Rattle.extract_constraints.specs.Flows.{class_of, value_to_maybe, value_type, world}
use Rattle.extract_constraints.specs.Groups.{is_several, own_type, super_type}
use Rattle.extract_constraints.specs.Receivers.{method_use, methods_of}

-- a call of a method or constructor: its node, the type that has it, with marks and without, and whether a simple name may name any method of that type
pub record Call : Type 0 where
  pub node : ℕ
  pub marked : JavaType
  pub ty : JavaType
  pub free : Bool
  pub method : ℕ
  pub info : MethodInfo

abbrev pub call_of : Called → Call
call_of c = record { node = c.node; marked = c.marked.now; ty = c.ty.now; free = c.free; method = c.method; info = c.info.now }

-- how a type sees what a method or constructor declares
abbrev pub seen_method : Told → JavaType → MethodInfo → Seen
seen_method k t i = seen_by k.facts t i.owner (is_static_method i)

-- the type of its parameter at a place from 0
abbrev pub param_seen : Seen → List JavaType → (i : ℕ) → Option JavaType
param_seen s ts i = option_map (as_seen s) (slice_get ts i)

-- ---- a group of one signature

abbrev pub or_seen : Option JavaType → (seen : Option JavaType) → Option JavaType
or_seen None t = t
or_seen (Some m) t = Some m

-- the marked type of a parameter: as a user declares it, or as the type sees it that has the method
abbrev pub param_type : Told → Where → Call → (i : ℕ) → Option JavaType
param_type k a c i = or_seen (param_mark a.reading.marks c.method i) (param_seen (seen_method k c.marked c.info) c.info.params i)

abbrev pub to_params : Told → Where → List JavaType → Call → (i : ℕ) → p.Exprs → List Link → List Link
to_params k a locals c i p.End ls = ls
to_params k a locals c i (p.Also x xs) ls = to_params k a locals c (i + 1) xs (value_to_maybe k a locals x (param_type k a c i) ls)

-- ---- candidates

abbrev pub named_by : Told → Where → Call → (constructs : Bool) → Option ℕ → List ℕ
named_by k a c constructs None = []
named_by k a c true (Some t) = methods_of (slice_get (world a).types t)
named_by k a c false (Some t) = k.facts.methods t c.info.name (length c.info.params)

-- the methods or constructors among which the call chooses, whether or not they may be named
abbrev pub named : Told → Where → Call → List ℕ
named k a c = named_by k a c c.info.constructor (holder c.ty)

abbrev pub same : Bool → Bool → Bool
same true b = b
same false b = not b

abbrev pub is_like : Call → MethodInfo → Bool
is_like c i = same c.info.constructor i.constructor && (length i.params == length c.info.params)

abbrev pub sees : Told → Where → (m : ℕ) → Bool
sees k a m = k.facts.sees a.owner (declared.Method m)

abbrev pub if_candidate : Bool → MethodInfo → Option MethodInfo
if_candidate true i = Some i
if_candidate false i = None

abbrev pub candidate_info : Told → Where → Call → (m : ℕ) → Option MethodInfo → Option MethodInfo
candidate_info k a c m None = None
candidate_info k a c m (Some i) = if_candidate (is_like c i && (c.free || sees k a m)) i

-- the method, where it may be named and takes so many arguments
abbrev pub candidate : Told → Where → Call → (m : ℕ) → Option MethodInfo
candidate k a c m = candidate_info k a c m (method_at (world a) m)

-- ---- a group of several: each candidate takes the argument as before where a place in its type changes

abbrev pub has_place : (place : ℕ) → Option JavaType → Bool
has_place p None = false
has_place p (Some t) = list_any (λ x. is_number (own_mark x) p) (args_of t)

-- a place among the arguments: the argument fits no more where the parameter's type has arguments, and this place is one at its class
abbrev pub as_argument : Told → (fits : Bool) → JavaType → (place : ℕ) → Option ℕ → (args : List JavaType) → Bool
as_argument k b s p None xs = true
as_argument k b s p (Some c) [] = true
as_argument k b s p (Some c) (x ∷ xs) = not b || not (has_place p (k.facts.super_as s c))

abbrev pub takes_with : (is_head : Bool) → Told → (old s : JavaType) → (place : ℕ) → (t : JavaType) → Bool
takes_with true k old s p t = same (k.facts.fits old t) (k.facts.fits (raised s) t)
takes_with false k old s p t = as_argument k (k.facts.fits old t) s p (class_number t) (args_of t)

-- a parameter of type t takes an argument of the type `old`, that is s with marks
abbrev pub takes_alike : Told → (old s : JavaType) → (place : ℕ) → Option JavaType → Bool
takes_alike k old s p None = true
takes_alike k old s p (Some t) = takes_with (is_number (head_mark s) p) k old s p t

abbrev pub candidate_alike : Told → Call → (old s : JavaType) → (place i : ℕ) → Option MethodInfo → Bool
candidate_alike k c old s p i None = true
candidate_alike k c old s p i (Some j) = takes_alike k old s p (param_seen (seen_method k c.ty j) j.params i)

abbrev pub is_chosen_still : Told → Where → Call → (old s : JavaType) → (place i : ℕ) → List ℕ → Bool
is_chosen_still k a c old s p i ms = list_all (λ m. candidate_alike k c old s p i (candidate k a c m)) ms

abbrev pub need_each : Told → Where → Call → (old s : JavaType) → (i node : ℕ) → (places : List ℕ) → List Link → List Link
need_each k a c old s i n [] ls = ls
need_each k a c old s i n (p ∷ ps) ls = need_each k a c old s i n ps (need_unless (is_chosen_still k a c old s p i (named k a c)) p n kind.Overload ls)

abbrev pub chosen_if : (mentioned : Bool) → Told → Where → List JavaType → Call → (i : ℕ) → p.Expr → List Link → List Link
chosen_if true k a locals c i x ls = need_each k a c (ty_of x) (value_type k a locals x) i (node_of x) (places_of (value_type k a locals x)) ls
chosen_if false k a locals c i x ls = ls

abbrev pub to_candidates : Told → Where → List JavaType → Call → (i : ℕ) → p.Expr → List Link → List Link
to_candidates k a locals c i x ls = chosen_if (mentions (class_of a) (ty_of x)) k a locals c i x ls

abbrev pub all_to_candidates : Told → Where → List JavaType → Call → (i : ℕ) → p.Exprs → List Link → List Link
all_to_candidates k a locals c i p.End ls = ls
all_to_candidates k a locals c i (p.Also x xs) ls = all_to_candidates k a locals c (i + 1) xs (to_candidates k a locals c i x ls)

-- what the type that has the method puts into the parameter types of a candidate stays
abbrev pub put_in_params : Seen → (node : ℕ) → List JavaType → List Link → List Link
put_in_params s n [] ls = ls
put_in_params s n (t ∷ ts) ls = put_in_params s n ts (need_all (places_of (as_seen s t)) n kind.Overload ls)

abbrev pub put_in_candidate : Told → Call → Option MethodInfo → List Link → List Link
put_in_candidate k c None ls = ls
put_in_candidate k c (Some i) ls = put_in_params (seen_method k c.marked i) c.node i.params ls

abbrev pub put_in_each : Told → Where → Call → List ℕ → List Link → List Link
put_in_each k a c [] ls = ls
put_in_each k a c (m ∷ ms) ls = put_in_each k a c ms (put_in_candidate k c (candidate k a c m) ls)

abbrev pub put_with : (args : List JavaType) → Told → Where → Call → List Link → List Link
put_with [] k a c ls = ls
put_with (x ∷ xs) k a c ls = put_in_each k a c (named k a c) ls

abbrev pub to_several : Told → Where → List JavaType → Call → p.Exprs → List Link → List Link
to_several k a locals c xs ls = put_with (args_of c.marked) k a c (all_to_candidates k a locals c 0 xs ls)

-- ---- calls

abbrev pub some_mention : (class : ℕ) → p.Exprs → Bool
some_mention c p.End = false
some_mention c (p.Also x xs) = mentions c (ty_of x) || some_mention c xs

abbrev pub to_group : (several : Bool) → Told → Where → List JavaType → Call → p.Exprs → List Link → List Link
to_group true k a locals c xs ls = to_several k a locals c xs ls
to_group false k a locals c xs ls = to_params k a locals c 0 xs ls

-- some argument has places, or the type that has the method
abbrev pub is_concerned : Where → (ty : JavaType) → p.Exprs → Bool
is_concerned a t xs = some_mention (class_of a) xs || mentions (class_of a) t

abbrev pub arguments_if : (concerned : Bool) → Told → Where → List JavaType → Call → p.Exprs → List Link → List Link
arguments_if true k a locals c xs ls = to_group (is_several k a c.method c.info) k a locals c xs ls
arguments_if false k a locals c xs ls = ls

-- the arguments of a call
abbrev pub arguments : Told → Where → List JavaType → Call → p.Exprs → List Link → List Link
arguments k a locals c xs ls = arguments_if (is_concerned a c.ty xs) k a locals c xs ls

abbrev pub call_with : Told → Where → List JavaType → (node : ℕ) → (marked t : JavaType) → (free : Bool) → (m : ℕ) → Option MethodInfo → p.Exprs → List Link → List Link
call_with k a locals n s t free m None xs ls = ls
call_with k a locals n s t free m (Some i) xs ls = arguments k a locals (record { node = n; marked = s; ty = t; free = free; method = m; info = i }) xs ls

-- of a method or constructor m that the type t has, which is s with marks
abbrev pub call : Told → Where → List JavaType → (node : ℕ) → (marked t : JavaType) → (free : Bool) → (m : ℕ) → p.Exprs → List Link → List Link
call k a locals n s t free m xs ls = call_with k a locals n s t free m (method_at (world a) m) xs ls

abbrev pub own_call : Told → Where → List JavaType → (node : ℕ) → (free : Bool) → (m : ℕ) → p.Exprs → List Link → List Link
own_call k a locals n free m xs ls = call k a locals n (own_type a) (own_type a) free m xs ls

abbrev pub super_call : Told → Where → List JavaType → (node m : ℕ) → p.Exprs → List Link → List Link
super_call k a locals n m xs ls = call k a locals n (super_type a) (super_type a) false m xs ls

-- a static call with nothing, `super` or a type before it
abbrev pub named_call : Told → Where → List JavaType → (node : ℕ) → Before → (m : ℕ) → p.Exprs → List Link → List Link
named_call k a locals n before.Nothing m xs ls = own_call k a locals n true m xs ls
named_call k a locals n before.Super m xs ls = super_call k a locals n m xs ls
named_call k a locals n (before.Type o c) m xs ls = call k a locals n (ty.Class c []) (ty.Class c []) false m xs ls

-- the type of a receiver: one that does not have the class has no places
abbrev pub receiver_if : (mentioned : Bool) → Told → Where → List JavaType → p.Expr → JavaType
receiver_if true k a locals x = value_type k a locals x
receiver_if false k a locals x = ty_of x

abbrev pub receiver : Told → Where → List JavaType → p.Expr → JavaType
receiver k a locals x = receiver_if (mentions (class_of a) (ty_of x)) k a locals x

-- the method m of the value x is called
abbrev pub value_call : Told → Where → List JavaType → (node : ℕ) → p.Expr → (free : Bool) → (m : ℕ) → p.Exprs → List Link → List Link
value_call k a locals n x free m xs ls =
    call k a locals n (receiver k a locals x) (ty_of x) free m xs (method_use k a (receiver k a locals x) m n ls)

abbrev pub static_call : Told → Where → List JavaType → (node : ℕ) → Before → p.MaybeExpr → (m : ℕ) → p.Exprs → List Link → List Link
static_call k a locals n b p.NoExpr m xs ls = named_call k a locals n b m xs ls
static_call k a locals n b (p.AnExpr x) m xs ls = value_call k a locals n x false m xs ls
