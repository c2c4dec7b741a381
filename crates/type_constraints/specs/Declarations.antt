-- Methods whose own declared types change.
use Rattle.std.specs.Prelude.{ℕ, Bool, true, false, ◌&&◌, ◌||◌, not, List, [], ◌∷◌, length, Option, Some, None, is_some, slice_get, option_and_then, ◌==◌}
use Rattle.std.specs.List.{list_all, list_any}
use Rattle.java_tree.specs.declared.tree.Name.{Name}
use Rattle.java_tree.specs.declared.tree.Node.{Node}
use Rattle.java_tree.specs.declared.tree.Mod.TheVariants as mods
use Rattle.class_world.specs.declared.world.World.{World}
use Rattle.class_world.specs.declared.world.TypeInfo.{TypeInfo}
use Rattle.class_world.specs.declared.world.MethodInfo.{MethodInfo}
use Rattle.class_world.specs.declared.world.JavaType.{JavaType}
use Rattle.java_core.specs.Plain as p
use Rattle.type_kinds.specs.Kinds.{class_number, element, has, is_string}
use Rattle.type_kinds.specs.Members.{method_at}
use Rattle.type_places.specs.Changes.{is_param, is_result}
use Rattle.member_uses.specs.Targets.{is_static_method, named_in, superclass}
use Rattle.type_constraints.specs.declared.unmet.Constraint.TheVariants as kind
use Rattle.type_constraints.specs.declared.unmet.Unmet.{Unmet}
use Rattle.type_constraints.specs.Asked.{Asked}
use Rattle.type_constraints.specs.Arguments.{are_tied, have_one_erasure, is_several, own_type}
use Rattle.type_constraints.specs.Uses.{result_after, result_on}
use Rattle.type_constraints.specs.Unmets.{unless}

-- ---- methods that stay as they are

abbrev pub is_user_type : Option TypeInfo → Bool
is_user_type None = false
is_user_type (Some info) = info.user

abbrev pub is_foreign_method : World → Option MethodInfo → Bool
is_foreign_method w None = false
is_foreign_method w (Some i) = not (is_user_type (slice_get w.types i.owner))

-- a library or built-in type declares one of the family
abbrev pub is_foreign : Asked → (m : ℕ) → Bool
is_foreign a m = list_any (λ k. is_foreign_method a.world (method_at a.world k)) (a.ties.family m)

abbrev pub is_string_array : Option JavaType → Bool
is_string_array None = false
is_string_array (Some t) = is_string t

abbrev pub is_one_array : List JavaType → Bool
is_one_array (t ∷ []) = is_string_array (element t)
is_one_array _ = false

abbrev pub is_name : Name → Option Name → Bool
is_name x None = false
is_name x (Some y) = x.0 == y.0

-- public static void main(String[] x)
abbrev pub is_main : Asked → MethodInfo → Bool
is_main a i = not i.constructor && is_name i.name a.main && has mods.Public i.mods && has mods.Static i.mods && not (is_some i.result) && is_one_array i.params

-- ---- signatures beside it

abbrev pub have_one_erasure_with : Asked → MethodInfo → Option MethodInfo → Bool
have_one_erasure_with a i None = false
have_one_erasure_with a i (Some j) = have_one_erasure a.facts i j

abbrev pub is_of_family : Asked → (m k : ℕ) → Bool
is_of_family a m k = list_any (λ j. j == k) (a.ties.family m)

-- another one of the group has its signature, and is not of its family
abbrev pub has_double : Asked → (m : ℕ) → MethodInfo → Bool
has_double a m i = list_any (λ k. not (are_tied a m k) && have_one_erasure_with a i (method_at a.world k) && not (is_of_family a m k)) (a.ties.group m)

-- ---- static methods that it hides (8.4.8.2): of the class above

abbrev pub is_hidden_method : Asked → MethodInfo → Option MethodInfo → Bool
is_hidden_method a i None = false
is_hidden_method a i (Some j) = is_static_method j && have_one_erasure a.facts i j

abbrev pub is_hidden : Asked → MethodInfo → (k : ℕ) → Bool
is_hidden a i k = is_hidden_method a i (method_at a.world k)

-- the methods with its name and number of parameters that the class above has; a static one may hide them
abbrev pub above_it : Asked → MethodInfo → (is_static : Bool) → List ℕ
above_it a i true = named_in a.facts (option_and_then class_number (superclass a.world a.class)) i.name (length i.params)
above_it a i false = []

abbrev pub methods_above : Asked → MethodInfo → List ℕ
methods_above a i = above_it a i (is_static_method i)

-- ---- parameters: at the parameter

abbrev pub either_changes : Asked → (m k : ℕ) → Bool
either_changes a m k = is_param a.change m a.change.index || is_param a.change k a.change.index

abbrev pub is_hidden_by_change : Asked → (m : ℕ) → MethodInfo → (k : ℕ) → Bool
is_hidden_by_change a m i k = either_changes a m k && is_hidden a i k

-- the parameter of the method or of one that it hides changes
abbrev pub changes_hiding : Asked → (m : ℕ) → MethodInfo → Bool
changes_hiding a m i = list_any (is_hidden_by_change a m i) (methods_above a i)

abbrev pub changed_param : Bool → Asked → (m : ℕ) → MethodInfo → Node → Option Unmet → Option Unmet
changed_param true a m i n first =
    unless (not (is_several a m i || has_double a m i)) n.id kind.Overload (unless (not (is_main a i || is_foreign a m)) n.id kind.Override first)
changed_param false a m i n first = first

abbrev pub param : Asked → (m : ℕ) → MethodInfo → Option p.Param → Option Unmet → Option Unmet
param a m i None first = first
param a m i (Some x) first =
    unless (not (changes_hiding a m i)) x.node.id kind.Overload (changed_param (is_param a.change m a.change.index) a m i x.node first)

-- ---- results: at the method

abbrev pub fits_result : Asked → (s t : Option JavaType) → Bool
fits_result a (Some s) (Some t) = a.facts.fits s t
fits_result a _ _ = true

-- what the method gives after the change fits what k gives, as the type t sees it
abbrev pub gives_for : Asked → (t : JavaType) → (m : ℕ) → MethodInfo → (k : ℕ) → Option MethodInfo → Bool
gives_for a t m i k None = true
gives_for a t m i k (Some j) = fits_result a (result_after a m i) (result_on a t k j)

-- for those of these methods that it overrides
abbrev pub gives_for_overridden : Asked → (t : JavaType) → (m : ℕ) → MethodInfo → List ℕ → Bool
gives_for_overridden a t m i ks = list_all (λ k. not (a.ties.overrides m k) || gives_for a t m i k (method_at a.world k)) ks

-- and that it hides
abbrev pub gives_for_hidden : Asked → (t : JavaType) → (m : ℕ) → MethodInfo → List ℕ → Bool
gives_for_hidden a t m i ks = list_all (λ k. not (is_hidden a i k) || gives_for a t m i k (method_at a.world k)) ks

abbrev pub gives_for_all : Asked → (t : JavaType) → (m : ℕ) → MethodInfo → Bool
gives_for_all a t m i = gives_for_overridden a t m i (a.ties.family m) && gives_for_hidden a t m i (methods_above a i)

abbrev pub result : Bool → Asked → (m : ℕ) → MethodInfo → Node → Option Unmet → Option Unmet
result true a m i n first = unless (gives_for_all a (own_type a) m i) n.id kind.Result first
result false a m i n first = first

abbrev pub declaration : Asked → p.Method → Option MethodInfo → Option Unmet → Option Unmet
declaration a x None first = first
declaration a x (Some i) first = param a x.method i (slice_get x.params a.change.index) (result (is_result a.change x.method) a x.method i x.node first)
