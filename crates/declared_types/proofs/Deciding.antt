-- The tests decide what DR2 says of a supertype.
use Rattle.std.proofs.Common.{◌≡◌, ◌<◌, ℕ, Bool, true, false, not, cond, ◌&&◌, ◌||◌, ◌⊎◌, inl, inr, List, [], ◌∷◌, ◌++◌, Option, Some, None, refl, sym, ap, subst, ◌∙◌}
use Rattle.std.specs.HashSet.{HashSet}
use Rattle.std.specs.declared.alloc.Global.{Global}
use Rattle.std.specs.Prelude.{Vec, Decides, Contains, slice_get, nat_lt, nat_eq, is_some}
use Rattle.std.specs.Bool.{beq}
use Rattle.std.specs.List.{list_any}
use Rattle.std.specs.Cmp.Lexicographic.{pointwise}
use Rattle.std.proofs.lemmas.Bool.{cases_Bool}
use Rattle.std.proofs.lemmas.Bool.Decides.{Decides-eqb, Decides-ltb, Decides-and, Decides-or, Decides-like}
use Rattle.std.proofs.lemmas.List.Folds.{list_any-append}
use Rattle.std.proofs.lemmas.Option.{slice_get_within, slice_get-get_or, get_or_from_slice_get}
use Rattle.std.proofs.lemmas.Slice.Eq.{slice_eq-Decides}
use Rattle.java_tree.specs.declared.tree.Mod.{Mod}
use Rattle.java_tree.specs.declared.tree.Mod.TheVariants as mods
use Rattle.java_tree.specs.Plain as t
use Rattle.java_tree.specs.Plain.{TypeExpr, TypeExprs}
use Rattle.class_world.specs.declared.world.TypeInfo.{TypeInfo}
use Rattle.class_world.specs.declared.world.JavaType.{JavaType}
use Rattle.rule_order.specs.declared.Breach.{Breach}
use Rattle.rule_order.specs.First.{IsFirst}
use Rattle.type_names.proofs.Named.{any_at, any_from}
use Rattle.written_types.specs.Places.{Place}
use Rattle.written_types.specs.Types.{type_of}
use Rattle.written_types.specs.Breaks.{head_of, args_of, NamesVariable, NamesType, IllNamed}
use Rattle.written_types.specs.declared.scope.Named.{Named}
use Rattle.written_types.specs.declared.scope.Named.TheVariants as named
use Rattle.written_types.specs.Walk.{head_named}
use Rattle.written_types.proofs.Heads.{named_variable, named_type, variable_named, type_named}
use Rattle.written_types.proofs.Typing.{typed_where_named}
use Rattle.declared_types.specs.Rules.{IsUnfit}
use Rattle.declared_types.specs.declared.spelling.Sign.{Sign}
use Rattle.declared_types.specs.declared.spelling.Sign.TheVariants as sign
use Rattle.declared_types.specs.Spelling.{same_sign, spelled, is_spelled, HoldsSpelled}
use Rattle.declared_types.specs.Looks.{is_bare, is_final_mod, unfit_info, unfit_by, is_unfit, SaysAgain, IsWrong}
use Rattle.declared_types.proofs.Spelled.{same_type, one_spelling}

-- ---- lists

pub contains_at : {A : Type 0} (xs : List A) (k : ℕ) (x : A) → slice_get xs k ≡ Some x → Contains xs x
contains_at xs k x at = (k, slice_get_within xs k x at, get_or_from_slice_get xs k x x at)

pub at_contains : {A : Type 0} (xs : List A) (x : A) → Contains xs x → (k : ℕ) × (slice_get xs k ≡ Some x)
at_contains xs x h = (h.0, slice_get-get_or xs h.0 x h.1 ∙ ap Some h.2)

-- ---- an unfit type

final_is : (m : Mod) → is_final_mod m ≡ true → m ≡ mods.Final
final_is mods.Final e = refl
final_is mods.Public e = absurd (cc e)
final_is mods.Protected e = absurd (cc e)
final_is mods.Private e = absurd (cc e)
final_is mods.Static e = absurd (cc e)
final_is mods.Abstract e = absurd (cc e)

final_decides : (ms : List Mod) → Decides (list_any is_final_mod ms) (Contains ms mods.Final)
final_decides ms = (
  λ e. let found = any_from is_final_mod ms e in subst (Contains ms) (final_is found.1 found.3) (contains_at ms found.0 found.1 found.2),
  λ h. let there = at_contains ms mods.Final h in any_at is_final_mod ms there.0 mods.Final there.1 refl,
)

same_decides : (a b : Bool) → Decides (beq a b) (a ≡ b)
same_decides true true = (λ e. refl, λ e. refl)
same_decides false false = (λ e. refl, λ e. refl)
same_decides true false = (λ e. absurd (cc e), λ e. absurd (cc e))
same_decides false true = (λ e. absurd (cc e), λ e. absurd (cc e))

bare_decides : (xs : TypeExprs) → Decides (is_bare xs) (xs ≡ t.NoTypes)
bare_decides t.NoTypes = (λ e. refl, λ e. refl)
bare_decides (t.AndType x xs) = (λ e. absurd (cc e), λ e. absurd (cc e))

swapped : {P Q : Type 0} (b c : Bool) → Decides b P → Decides c Q → Decides (b && c) (Q × P)
swapped b c d e = Decides-like (b && c) (λ h. (h.1, h.0)) (λ h. (h.1, h.0)) (Decides-and b c d e)

info_decides : (wants : Bool) (xs : TypeExprs) (o : Option TypeInfo)
    → Decides (unfit_info wants (is_bare xs) o) ((info : TypeInfo) × (o ≡ Some info) × ((info.interface ≡ wants) ⊎ Contains info.mods mods.Final ⊎ ((0 < info.params) × (xs ≡ t.NoTypes))))
info_decides wants xs None = (λ e. absurd (cc e), λ h. absurd (let none = h.1 in cc none))
info_decides wants xs (Some info) =
    let own =
    Decides-or (beq info.interface wants) (list_any is_final_mod info.mods || (is_bare xs && nat_lt 0 info.params)) (same_decides info.interface wants)
    (Decides-or (list_any is_final_mod info.mods) (is_bare xs && nat_lt 0 info.params) (final_decides info.mods) (swapped (is_bare xs) (nat_lt 0 info.params) (bare_decides xs) (Decides-ltb 0 info.params))) in
    (λ e. (info, refl, own.0 e), λ h. own.1 (subst IsOne (same h.0 h.1) h.2))
  where
    IsOne : TypeInfo → Type 0
    IsOne i = (i.interface ≡ wants) ⊎ Contains i.mods mods.Final ⊎ ((0 < i.params) × (xs ≡ t.NoTypes))

    same : (i : TypeInfo) → Some info ≡ Some i → i ≡ info
    same i e = cc e

abbrev NamesUnfit : List TypeInfo → Place → (wants : Bool) → TypeExpr → Type 0
NamesUnfit types p wants x = NamesVariable p (head_of x) ⊎ ((c : ℕ) × NamesType p (head_of x) c × IsUnfit types wants (args_of x) c)

unfit_decides : (types : List TypeInfo) (p : Place) (wants : Bool) (x : TypeExpr) → Decides (is_unfit types p wants x) (NamesUnfit types p wants x)
unfit_decides types p wants (t.Written n h s xs d) = split (head_named p h) refl
  where
    split : (m : Named) → head_named p h ≡ m → Decides (unfit_by types wants (is_bare xs) m) (NamesUnfit types p wants (t.Written n h s xs d))
    split (named.Primitive q) is = (
      λ e. absurd (cc e),
      λ u. absurd (elim u [ inl v ↦ let var = (named_variable p h v).1 in cc (var, is) | inr v ↦ let type = named_type p h v.0 v.1 in cc (type, is) ]),
    )
    split (named.Variable k) is = (λ e. inl (variable_named p h k is), λ u. refl)
    split (named.Type c) is =
        let own = info_decides wants xs (slice_get types c) in (
          λ e. inr (c, type_named p h c is, own.0 e),
          λ u. elim u [
            | inl v ↦ absurd (let var = (named_variable p h v).1 in cc (var, is))
            | inr v ↦ let same : v.0 ≡ c = let type = named_type p h v.0 v.1 in cc (type, is) in own.1 (subst (IsUnfit types wants xs) same v.2)
          ],
        )
    split named.Nothing is = (
      λ e. absurd (cc e),
      λ u. absurd (elim u [ inl v ↦ let var = (named_variable p h v).1 in cc (var, is) | inr v ↦ let type = named_type p h v.0 v.1 in cc (type, is) ]),
    )

-- ---- a type that is said again

sign_decides : (a b : Sign) → Decides (same_sign a b) (a ≡ b)
sign_decides (sign.Levels d) (sign.Levels e) = Decides-like (nat_eq d e) (λ h. ap sign.Levels h) (λ h. cc h) (Decides-eqb d e)
sign_decides sign.Int sign.Int = (λ e. refl, λ e. refl)
sign_decides sign.Long sign.Long = (λ e. refl, λ e. refl)
sign_decides sign.Char sign.Char = (λ e. refl, λ e. refl)
sign_decides sign.Boolean sign.Boolean = (λ e. refl, λ e. refl)
sign_decides (sign.Variable j) (sign.Variable k) = Decides-like (nat_eq j k) (λ h. ap sign.Variable h) (λ h. cc h) (Decides-eqb j k)
sign_decides (sign.Type c) (sign.Type d) = Decides-like (nat_eq c d) (λ h. ap sign.Type h) (λ h. cc h) (Decides-eqb c d)
sign_decides sign.Nothing sign.Nothing = (λ e. refl, λ e. refl)
sign_decides (sign.Arguments n) (sign.Arguments m) = Decides-like (nat_eq n m) (λ h. ap sign.Arguments h) (λ h. cc h) (Decides-eqb n m)
sign_decides _ _ = (λ e. absurd (cc e), λ e. absurd (cc e))

row_decides : (us vs : List Sign) → Decides (pointwise same_sign us vs) (us ≡ vs)
row_decides us vs = slice_eq-Decides sign_decides us vs (pointwise same_sign us vs) refl

pub typed_test : (p : Place) (x : TypeExpr) (o : Option Breach) (r : Bool) → IsFirst (IllNamed p x) o → is_some o ≡ not r → r ≡ is_some (type_of p x)
typed_test p x None true none e = let typed = (typed_where_named p x).1 none in sym (ap is_some typed.1)
typed_test p x None false none e = absurd (cc e)
typed_test p x (Some b) true first e = absurd (cc e)
typed_test p x (Some b) false first e = split (type_of p x) refl
  where
    split : (o : Option JavaType) → type_of p x ≡ o → false ≡ is_some o
    split None is = refl
    split (Some y) is = absurd ((typed_where_named p x).0 (y, is) b first.0)

some_is : {A : Type 0} (o : Option A) → is_some o ≡ true → (x : A) × (o ≡ Some x)
some_is None e = absurd (cc e)
some_is (Some x) e = (x, refl)

again_decides : (p : Place) (before : List TypeExpr) (x : TypeExpr) → Decides (is_spelled p before x && is_some (type_of p x)) (SaysAgain p before x)
again_decides p before x = (λ e. says (cases_Bool (is_spelled p before x)) e, λ h. test h)
  where
    append_none : (us : List Sign) → us ++ [] ≡ us
    append_none [] = refl
    append_none (u ∷ us) = ap (λ l. u ∷ l) (append_none us)

    says : (is_spelled p before x ≡ true) ⊎ (is_spelled p before x ≡ false) → (is_spelled p before x && is_some (type_of p x)) ≡ true → SaysAgain p before x
    says (inr missing) e = absurd (cc (ap (λ b. b && is_some (type_of p x)) missing, e))
    says (inl there) e =
        let typed = some_is (type_of p x) (sym (ap (λ b. b && is_some (type_of p x)) there) ∙ e) in
        let found = any_from (λ y. pointwise same_sign (spelled p x) (spelled p y)) before there in
        let same = (row_decides (spelled p x) (spelled p found.1)).0 found.3 in
        let one = (same_type p x found.1 [] [] (append_none (spelled p x) ∙ same ∙ sym (append_none (spelled p found.1)))).0 in
        (found.1, contains_at before found.0 found.1 found.2, typed.0, sym one ∙ typed.1, typed.1)

    test : SaysAgain p before x → (is_spelled p before x && is_some (type_of p x)) ≡ true
    test (y, among, z, said, is) =
        let there = at_contains before y among in
        let same = (row_decides (spelled p x) (spelled p y)).1 (one_spelling p x y z is said) in
        ap (λ b. b && is_some (type_of p x)) (any_at (λ y. pointwise same_sign (spelled p x) (spelled p y)) before there.0 y there.1 same) ∙ ap is_some is

pub wrong_decides : (types : List TypeInfo) (p : Place) (wants : Bool) (before : List TypeExpr) (x : TypeExpr)
    → Decides (is_unfit types p wants x || (is_spelled p before x && is_some (type_of p x))) (IsWrong types p wants before x)
wrong_decides types p wants before x =
    Decides-or (is_unfit types p wants x) (is_spelled p before x && is_some (type_of p x)) (unfit_decides types p wants x) (again_decides p before x)

-- ---- the set of what is spelled

not_not : (b : Bool) → not (not b) ≡ b
not_not true = refl
not_not false = refl

pub spelled_before : (p : Place) (before : List TypeExpr) (x : TypeExpr) (key : List Sign) (is_new has : Bool) → key ≡ spelled p x → is_new ≡ not has
    → has ≡ list_any (λ y. pointwise same_sign key (spelled p y)) before → not is_new ≡ is_spelled p before x
spelled_before p before x key is_new has is new there = ap not new ∙ not_not has ∙ there ∙ ap (λ k. list_any (λ y. pointwise same_sign k (spelled p y)) before) is

turned : (us vs : List Sign) → pointwise same_sign us vs ≡ pointwise same_sign vs us
turned us vs = split (pointwise same_sign us vs) (pointwise same_sign vs us) refl refl
  where
    split : (a b : Bool) → pointwise same_sign us vs ≡ a → pointwise same_sign vs us ≡ b → a ≡ b
    split true true e f = refl
    split false false e f = refl
    split true false e f = absurd (cc (f, (row_decides vs us).1 (sym ((row_decides us vs).0 e))))
    split false true e f = absurd (cc (e, (row_decides us vs).1 (sym ((row_decides vs us).0 f))))

either_way : (b o : Bool) → cond b true o ≡ (o || (b || false))
either_way true true = refl
either_way true false = refl
either_way false true = refl
either_way false false = refl

pub spelled_more : (p : Place) (before : List TypeExpr) (x : TypeExpr) (key q : List Sign) (old new : Bool) → key ≡ spelled p x → new ≡ cond (pointwise same_sign key q) true old
    → old ≡ list_any (λ y. pointwise same_sign q (spelled p y)) before → new ≡ list_any (λ y. pointwise same_sign q (spelled p y)) (before ++ x ∷ [])
spelled_more p before x key q old new is put there =
    put ∙ ap (λ b. cond b true old) (turned key q ∙ ap (pointwise same_sign q) is) ∙ either_way (pointwise same_sign q (spelled p x)) old
    ∙ ap (λ b. b || (pointwise same_sign q (spelled p x) || false)) there ∙ sym (list_any-append (λ y. pointwise same_sign q (spelled p y)) before (x ∷ []))

pub spelled_none : {S : Type 0} (p : Place) (seen : HashSet (Vec Sign Global) S) → seen.keys ≡ [] → HoldsSpelled p seen []
spelled_none p seen none q = ap (list_any (λ (y : Vec Sign Global). pointwise same_sign q.items y.items)) none
