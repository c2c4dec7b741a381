-- Loops over lists.
use Rattle.std.proofs.Common.{◌≡◌, ℕ, zero, suc, ◌+◌, ◌<◌, ◌≤◌, Bool, cond, List, [], ◌∷◌, ◌++◌, length, map, drop, get_or, Option, Some, None, refl, sym, ap, ◌∙◌, arith, append_assoc}
use Rattle.std.specs.Prelude.{not, option_and_then}
use Rattle.std.specs.List.{position_from}
use Rattle.std.specs.Option.{option_map}
use Rattle.std.proofs.lemmas.List.{drop_more}
use Rattle.java_tree.specs.declared.tree.Head.{Head}
use Rattle.java_tree.specs.declared.tree.TypeExpr.{TypeExpr, out-TypeExpr}
use Rattle.java_tree.specs.View as view
use Rattle.java_tree.specs.View.{type_plain}
use Rattle.class_world.specs.declared.world.JavaType.{JavaType}
use Rattle.rule_order.specs.declared.Breach.{Breach}
use Rattle.java_tree.proofs.Views.{type_out}
use Rattle.written_types.specs.Places.{Place}
use Rattle.written_types.specs.Types.{arrays, head_type, type_of, types_of, joined}
use Rattle.written_types.specs.Breaks.{length_of}
use Rattle.written_types.specs.Walk as walk
use Rattle.rule_order.specs.Noted as order

next_item : {A : Type 0} (xs : List A) (i : ℕ) (x : A) → i < length xs → x ≡ get_or xs i x → drop i xs ≡ x ∷ drop (i + 1) xs
next_item xs i x h e = drop_more xs i x h ∙ ap (λ y. y ∷ drop (i + 1) xs) (sym e)

none_left : {A : Type 0} (xs : List A) (i : ℕ) → length xs ≤ i → drop i xs ≡ []
none_left [] zero past = refl
none_left [] (suc i) past = refl
none_left (x ∷ xs) zero past = absurd (omega arith)
none_left (x ∷ xs) (suc i) past = none_left xs i (omega arith)

-- the first place from i on
pub place_drop : {A : Type 0} (p : A → Bool) (xs : List A) (i : ℕ) (x : A) → i < length xs → x ≡ get_or xs i x
    → position_from p i (drop i xs) ≡ cond (p x) (Some i) (position_from p (i + 1) (drop (i + 1) xs))
place_drop p xs i x lt is = ap (position_from p i) (next_item xs i x lt is)

-- ---- the walk

abbrev pub walked : Place → List TypeExpr → Option Breach → Option Breach
walked p xs a = walk.types p (view.types (map type_plain xs)) a

pub walk_step : (p : Place) (xs : List TypeExpr) (i : ℕ) (x : TypeExpr) (a r all : Option Breach) → i < length xs → x ≡ get_or xs i x
    → r ≡ walk.type p (type_plain x) a → walked p (drop i xs) a ≡ all → walked p (drop (i + 1) xs) r ≡ all
walk_step p xs i x a r all lt is here so_far = ap (walked p (drop (i + 1) xs)) here ∙ ap (λ l. walked p l a) (sym (next_item xs i x lt is)) ∙ so_far

pub walk_end : (p : Place) (xs : List TypeExpr) (i : ℕ) (a all : Option Breach) → length xs ≤ i → walked p (drop i xs) a ≡ all → a ≡ all
walk_end p xs i a all past so_far = ap (λ l. walked p l a) (sym (none_left xs i past)) ∙ so_far

-- ---- the types of a list, with those before

abbrev pub read : Place → List TypeExpr → Option (List JavaType)
read p xs = types_of p (view.types (map type_plain xs))

abbrev pub behind : List JavaType → Option (List JavaType) → Option (List JavaType)
behind before rest = option_map (λ rest. before ++ rest) rest

behind_joined : (before : List JavaType) (y : JavaType) (rest : Option (List JavaType)) → behind before (joined (Some y) rest) ≡ behind (before ++ y ∷ []) rest
behind_joined before y None = refl
behind_joined before y (Some rest) = ap Some (sym (append_assoc before (y ∷ []) rest))

pub read_step : (p : Place) (xs : List TypeExpr) (i : ℕ) (x : TypeExpr) (y : JavaType) (before after : List JavaType) (all : Option (List JavaType))
    → i < length xs → x ≡ get_or xs i x → Some y ≡ type_of p (type_plain x) → after ≡ before ++ y ∷ [] → behind before (read p (drop i xs)) ≡ all
    → behind after (read p (drop (i + 1) xs)) ≡ all
read_step p xs i x y before after all lt is here push so_far =
    ap (λ l. behind l (read p (drop (i + 1) xs))) push ∙ sym (behind_joined before y (read p (drop (i + 1) xs)))
    ∙ ap (λ o. behind before (joined o (read p (drop (i + 1) xs)))) here ∙ ap (λ l. behind before (read p l)) (sym (next_item xs i x lt is)) ∙ so_far

pub read_none : (p : Place) (xs : List TypeExpr) (i : ℕ) (x : TypeExpr) (before : List JavaType) (all : Option (List JavaType))
    → i < length xs → x ≡ get_or xs i x → None ≡ type_of p (type_plain x) → behind before (read p (drop i xs)) ≡ all → None ≡ all
read_none p xs i x before all lt is here so_far =
    ap (λ o. behind before (joined o (read p (drop (i + 1) xs)))) here ∙ ap (λ l. behind before (read p l)) (sym (next_item xs i x lt is)) ∙ so_far

append_none : {A : Type 0} (xs : List A) → xs ++ [] ≡ xs
append_none [] = refl
append_none (x ∷ xs) = ap (λ ys. x ∷ ys) (append_none xs)

pub read_end : (p : Place) (xs : List TypeExpr) (i : ℕ) (before : List JavaType) (all : Option (List JavaType))
    → length xs ≤ i → behind before (read p (drop i xs)) ≡ all → Some before ≡ all
read_end p xs i before all past so_far = ap Some (sym (append_none before)) ∙ ap (λ l. behind before (read p l)) (sym (none_left xs i past)) ∙ so_far

-- ---- trees of the code

counted : (xs : List TypeExpr) → length_of (view.types (map type_plain xs)) ≡ length xs
counted [] = refl
counted (x ∷ xs) = ap suc (counted xs)

abbrev head_at : TypeExpr → Head
head_at x = (out-TypeExpr x).head

abbrev args_at : TypeExpr → List TypeExpr
args_at x = (out-TypeExpr x).args

pub ill_out : (p : Place) (x : TypeExpr) → walk.is_ill_named p (type_plain x) ≡ not (walk.well_by p (walk.head_named p (head_at x)) (length (args_at x)))
ill_out p x = ap (walk.is_ill_named p) (type_out x) ∙ ap (λ k. not (walk.well_by p (walk.head_named p (head_at x)) k)) (counted (args_at x))

pub type_said : (p : Place) (x : TypeExpr)
    → type_of p (type_plain x) ≡ option_map (arrays (out-TypeExpr x).dims) (option_and_then (head_type p (head_at x)) (read p (args_at x)))
type_said p x = ap (type_of p) (type_out x)

pub type_walked : (p : Place) (x : TypeExpr) (a : Option Breach)
    → walk.type p (type_plain x) a ≡ walked p (args_at x) (order.noted a 1 (out-TypeExpr x).node (walk.is_ill_named p (type_plain x)))
type_walked p x a =
    ap (λ y. walk.type p y a) (type_out x) ∙ ap (λ y. walked p (args_at x) (order.noted a 1 (out-TypeExpr x).node (walk.is_ill_named p y))) (sym (type_out x))
