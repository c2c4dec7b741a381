-- Methods beside those that they override, are overloaded with or hide.
use Rattle.std.specs.Prelude.{ℕ, ◌+◌, Bool, true, false, ◌&&◌, not, ◌==◌, List, [], ◌∷◌, filter, length, Option, Some, None, slice_get, option_and_then}
use Rattle.std.specs.List.{list_any}
use Rattle.class_world.specs.declared.world.MethodInfo.{MethodInfo}
use Rattle.class_world.specs.declared.world.JavaType.{JavaType}
use Rattle.java_core.specs.Plain as p
use Rattle.type_kinds.specs.Kinds.{args_of, class_number}
use Rattle.type_kinds.specs.Members.{method_at}
use Rattle.kept_places.specs.declared.links.Kind.TheVariants as kind
use Rattle.kept_places.specs.declared.links.Link.{Link}
use Rattle.marked_types.specs.Marked.{head_mark, places_of, raised}
use Rattle.marked_types.specs.Table.{param_mark, result_mark, result_of}
use Rattle.member_uses.specs.Targets.{is_static_method, named_in, superclass}
use Rattle.extract_constraints.specs.Told.{Told, Where, need_all, need_maybe, need_unless, step}
use Rattle.extract_constraints.specs.Flows.{all_equal, equal, equal_arguments, world}
use Rattle.extract_constraints.specs.Groups.{has_double, have_one_erasure, is_several}
use Rattle.extract_constraints.specs.Arguments.{or_seen}

abbrev pub param_in : Option MethodInfo → (i : ℕ) → Option JavaType
param_in None i = None
param_in (Some m) i = slice_get m.params i

-- declared types, marked where a user declares them
abbrev pub param_declared : Where → (m i : ℕ) → Option JavaType
param_declared a m i = or_seen (param_mark a.reading.marks m i) (param_in (method_at (world a) m) i)

abbrev pub result_declared : Where → (m : ℕ) → Option JavaType
result_declared a m = or_seen (result_mark a.reading.marks m) (result_of (method_at (world a) m))

-- ---- static methods that it hides (8.4.8.2): of the class above

abbrev pub hides_info : Told → MethodInfo → Option MethodInfo → Bool
hides_info k i None = false
hides_info k i (Some j) = is_static_method j && have_one_erasure k i j

abbrev pub hides : Told → Where → MethodInfo → (m : ℕ) → Bool
hides k a i m = hides_info k i (method_at (world a) m)

abbrev pub hidden_if : (is_static : Bool) → Told → Where → MethodInfo → List ℕ
hidden_if true k a i = filter (hides k a i) (named_in k.facts (option_and_then class_number (superclass (world a) a.owner)) i.name (length i.params))
hidden_if false k a i = []

abbrev pub hidden_by : Told → Where → MethodInfo → List ℕ
hidden_by k a i = hidden_if (is_static_method i) k a i

-- ---- parameters, at the parameter

abbrev pub hidden_param : (t : JavaType) → Option JavaType → (node : ℕ) → List Link → List Link
hidden_param t None n ls = ls
hidden_param t (Some u) n ls = all_equal (args_of t) (args_of u) n (need_maybe (head_mark u) n kind.Overload (need_maybe (head_mark t) n kind.Overload ls))

abbrev pub hidden_params : Where → (t : JavaType) → (i node : ℕ) → (hidden : List ℕ) → List Link → List Link
hidden_params a t i n [] ls = ls
hidden_params a t i n (m ∷ ms) ls = hidden_params a t i n ms (hidden_param t (param_declared a m i) n ls)

-- equal to the same parameter of the first method of the family
abbrev pub same_param : (t : JavaType) → Option JavaType → (node : ℕ) → List Link → List Link
same_param t None n ls = ls
same_param t (Some u) n ls = all_equal (args_of t) (args_of u) n (equal (head_mark t) (head_mark u) n kind.Override ls)

abbrev pub unless_first : (is_first : Bool) → Where → (first : ℕ) → (t : JavaType) → (i node : ℕ) → List Link → List Link
unless_first true a j t i n ls = ls
unless_first false a j t i n ls = same_param t (param_declared a j i) n ls

abbrev pub family_param : Where → (m : ℕ) → (t : JavaType) → (i node : ℕ) → (family : List ℕ) → List Link → List Link
family_param a m t i n [] ls = ls
family_param a m t i n (j ∷ js) ls = unless_first (j == m) a j t i n ls

-- beside other signatures of the group
abbrev pub need_all_if : Bool → (places : List ℕ) → (node : ℕ) → List Link → List Link
need_all_if true ps n ls = need_all ps n kind.Overload ls
need_all_if false ps n ls = ls

abbrev pub need_maybe_if : Bool → Option ℕ → (node : ℕ) → List Link → List Link
need_maybe_if true p n ls = need_maybe p n kind.Overload ls
need_maybe_if false p n ls = ls

abbrev pub param_in_group : Told → Where → (m : ℕ) → MethodInfo → (t : JavaType) → (node : ℕ) → List Link → List Link
param_in_group k a m i t n ls = need_maybe_if (has_double k a m i) (head_mark t) n (need_all_if (is_several k a m i) (places_of t) n ls)

-- a parameter without places is tied to nothing
abbrev pub param_with : (places : List ℕ) → Told → Where → (m : ℕ) → MethodInfo → (hidden : List ℕ) → (t : JavaType) → (i node : ℕ) → List Link → List Link
param_with [] k a m info hs t i n ls = ls
param_with (q ∷ qs) k a m info hs t i n ls = hidden_params a t i n hs (family_param a m t i n (k.ties.family m) (param_in_group k a m info t n ls))

abbrev pub param_of : Option JavaType → Told → Where → (m : ℕ) → MethodInfo → (hidden : List ℕ) → (i node : ℕ) → List Link → List Link
param_of None k a m info hs i n ls = ls
param_of (Some t) k a m info hs i n ls = param_with (places_of t) k a m info hs t i n ls

abbrev pub params : Told → Where → (m : ℕ) → MethodInfo → (hidden : List ℕ) → (i : ℕ) → List p.Param → List Link → List Link
params k a m info hs i [] ls = ls
params k a m info hs i (x ∷ xs) ls = params k a m info hs (i + 1) xs (param_of (param_mark a.reading.marks m i) k a m info hs i x.node.id ls)

-- ---- results, at the method

abbrev pub overridden_by : Told → (m : ℕ) → List ℕ
overridden_by k m = filter (k.ties.overrides m) (k.ties.family m)

-- one of these methods stands between a method and the one of them that it overrides; of two that override each other none stands before the other
abbrev pub is_behind : Told → (overridden : List ℕ) → (j : ℕ) → Bool
is_behind k ms j = list_any (λ m. not (m == j) && (k.ties.overrides m j && not (k.ties.overrides j m))) ms

abbrev pub result_head : Told → (t u : JavaType) → Option ℕ → Option ℕ → (node : ℕ) → List Link → List Link
result_head k t u None q n ls = equal_arguments k t u n ls
result_head k t u (Some p) (Some q) n ls = step p q n kind.Result ls
result_head k t u (Some p) None n ls = need_unless (k.facts.fits (raised t) u) p n kind.Result ls

-- the new result goes to that of a method which is overridden or hidden
abbrev pub result_for : Told → (t : JavaType) → Option JavaType → (node : ℕ) → List Link → List Link
result_for k t None n ls = ls
result_for k t (Some u) n ls = result_head k t u (head_mark t) (head_mark u) n ls

abbrev pub result_unless : (behind : Bool) → Told → Where → (t : JavaType) → (j node : ℕ) → List Link → List Link
result_unless true k a t j n ls = ls
result_unless false k a t j n ls = result_for k t (result_declared a j) n ls

abbrev pub for_overridden : Told → Where → (t : JavaType) → (node : ℕ) → (all ms : List ℕ) → List Link → List Link
for_overridden k a t n all [] ls = ls
for_overridden k a t n all (j ∷ js) ls = for_overridden k a t n all js (result_unless (is_behind k all j) k a t j n ls)

abbrev pub for_hidden : Told → Where → (t : JavaType) → (node : ℕ) → (hidden : List ℕ) → List Link → List Link
for_hidden k a t n [] ls = ls
for_hidden k a t n (j ∷ js) ls = for_hidden k a t n js (result_for k t (result_declared a j) n ls)

abbrev pub result_with : (places : List ℕ) → Told → Where → (m : ℕ) → (hidden : List ℕ) → (t : JavaType) → (node : ℕ) → List Link → List Link
result_with [] k a m hs t n ls = ls
result_with (q ∷ qs) k a m hs t n ls = for_hidden k a t n hs (for_overridden k a t n (overridden_by k m) (overridden_by k m) ls)

abbrev pub result : Option JavaType → Told → Where → (m : ℕ) → (hidden : List ℕ) → (node : ℕ) → List Link → List Link
result None k a m hs n ls = ls
result (Some t) k a m hs n ls = result_with (places_of t) k a m hs t n ls

-- ---- a method or constructor

abbrev pub declared : Told → Where → p.Method → MethodInfo → (hidden : List ℕ) → List Link → List Link
declared k a x info hs ls = params k a x.method info hs 0 x.params (result (result_mark a.reading.marks x.method) k a x.method hs x.node.id ls)

abbrev pub declaration_of : Told → Where → p.Method → Option MethodInfo → List Link → List Link
declaration_of k a x None ls = ls
declaration_of k a x (Some info) ls = declared k a x info (hidden_by k a info) ls

abbrev pub declaration : Told → Where → p.Method → List Link → List Link
declaration k a x ls = declaration_of k a x (method_at (world a) x.method) ls
