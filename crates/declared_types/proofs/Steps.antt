-- Trees of the code.
use Rattle.std.proofs.Common.{◌≡◌, ℕ, suc, ◌+◌, ◌<◌, Bool, true, false, ◌↔◌, List, [], ◌∷◌, ◌++◌, map, drop, length, get_or, refl, sym, ap, ◌∙◌, append_assoc}
use Rattle.std.specs.Prelude.{slice_get}
use Rattle.std.proofs.lemmas.List.{drop_more}
use Rattle.java_tree.specs.declared.tree.TypeExpr.{TypeExpr, out-TypeExpr}
use Rattle.java_tree.specs.View as view
use Rattle.java_tree.specs.View.{type_plain}
use Rattle.java_tree.proofs.Views.{type_out}
use Rattle.class_world.specs.declared.world.TypeInfo.{TypeInfo}
use Rattle.written_types.specs.Places.{Place}
use Rattle.written_types.specs.Breaks.{length_of}
use Rattle.written_types.specs.declared.scope.Named.{Named}
use Rattle.written_types.specs.declared.scope.Named.TheVariants as named
use Rattle.written_types.specs.Walk.{head_named}
use Rattle.declared_types.specs.declared.spelling.Sign.{Sign}
use Rattle.declared_types.specs.declared.spelling.Sign.TheVariants as sign
use Rattle.declared_types.specs.Spelling.{head_sign, spelled, all_spelled}
use Rattle.declared_types.specs.Looks as spec
use Rattle.declared_types.specs.Looks.{is_bare}

pub unfit_out : (types : List TypeInfo) (p : Place) (wants : Bool) (x : TypeExpr)
    → spec.is_unfit types p wants (type_plain x) ≡ spec.unfit_by types wants (is_bare (view.types (map type_plain (out-TypeExpr x).args))) (head_named p (out-TypeExpr x).head)
unfit_out types p wants x = ap (spec.is_unfit types p wants) (type_out x)

bare_is : (xs : List TypeExpr) (r : Bool) → (r ≡ true) ↔ (xs ≡ []) → r ≡ is_bare (view.types (map type_plain xs))
bare_is [] true same = refl
bare_is [] false same = same.1 refl
bare_is (x ∷ xs) true same = absurd (let none = same.0 refl in cc none)
bare_is (x ∷ xs) false same = refl

pub unfit_type : (types : List TypeInfo) (p : Place) (wants : Bool) (x : TypeExpr) (m : Named) (c : ℕ) (bare r : Bool) → m ≡ head_named p (out-TypeExpr x).head → m ≡ named.Type c
    → (bare ≡ true) ↔ ((out-TypeExpr x).args ≡ []) → r ≡ spec.unfit_info wants bare (slice_get types c) → r ≡ spec.is_unfit types p wants (type_plain x)
unfit_type types p wants x m c bare r head is none test =
    test ∙ ap (λ b. spec.unfit_by types wants b (named.Type c)) (bare_is (out-TypeExpr x).args bare none)
    ∙ ap (spec.unfit_by types wants (is_bare (view.types (map type_plain (out-TypeExpr x).args)))) (sym is ∙ head) ∙ sym (unfit_out types p wants x)

-- ---- spelled types

pub next_item : {A : Type 0} (xs : List A) (i : ℕ) (x : A) → i < length xs → x ≡ get_or xs i x → drop i xs ≡ x ∷ drop (i + 1) xs
next_item xs i x lt is = drop_more xs i x lt ∙ ap (λ y. y ∷ drop (i + 1) xs) (sym is)

counted : (xs : List TypeExpr) → length_of (view.types (map type_plain xs)) ≡ length xs
counted [] = refl
counted (x ∷ xs) = ap suc (counted xs)

abbrev pub args_spelled : Place → List TypeExpr → List Sign
args_spelled p xs = all_spelled p (view.types (map type_plain xs))

-- a type whose arguments are spelled
pub spelled_behind : (p : Place) (x : TypeExpr) (n : Sign) (old mid new : List Sign) → n ≡ head_sign (head_named p (out-TypeExpr x).head)
    → mid ≡ old ++ (sign.Levels (out-TypeExpr x).dims ∷ n ∷ sign.Arguments (length (out-TypeExpr x).args) ∷ []) → new ≡ mid ++ args_spelled p (out-TypeExpr x).args
    → new ≡ old ++ spelled p (type_plain x)
spelled_behind p x n old mid new head first rest =
    let o = out-TypeExpr x in
    let all : Sign → ℕ → List Sign = λ m k. old ++ ((sign.Levels o.dims ∷ m ∷ sign.Arguments k ∷ []) ++ args_spelled p o.args) in
    rest ∙ ap (λ m. m ++ args_spelled p o.args) first ∙ append_assoc old (sign.Levels o.dims ∷ n ∷ sign.Arguments (length o.args) ∷ []) (args_spelled p o.args)
    ∙ ap (λ m. all m (length o.args)) head ∙ ap (all (head_sign (head_named p o.head))) (sym (counted o.args)) ∙ ap (λ y. old ++ spelled p y) (sym (type_out x))

pub spelled_next : (p : Place) (xs : List TypeExpr) (i : ℕ) (x : TypeExpr) (mid new all : List Sign) → i < length xs → x ≡ get_or xs i x → new ≡ mid ++ spelled p (type_plain x)
    → mid ++ args_spelled p (drop i xs) ≡ all → new ++ args_spelled p (drop (i + 1) xs) ≡ all
spelled_next p xs i x mid new all lt is one so_far =
    ap (λ m. m ++ args_spelled p (drop (i + 1) xs)) one ∙ append_assoc mid (spelled p (type_plain x)) (args_spelled p (drop (i + 1) xs))
    ∙ ap (λ l. mid ++ args_spelled p l) (sym (next_item xs i x lt is)) ∙ so_far
