-- Searches for the first broken rule.
use Rattle.std.proofs.Common.{◌≡◌, ℕ, ◌+◌, ◌<◌, Bool, true, ◌↔◌, inl, inr, List, [], ◌∷◌, ◌++◌, map, take, Option, Some, None, refl, sym, ap, ◌∙◌, subst, length, get_or}
use Rattle.std.specs.Prelude.{slice_get}
use Rattle.std.proofs.lemmas.List.{take_more, map-append}
use Rattle.rule_order.specs.declared.Breach.{Breach}
use Rattle.rule_order.specs.First.{Breaches, Either, IsFirst, IsEarlier}
use Rattle.rule_order.proofs.Firsts.{first_alike, first_of_both}
use Rattle.type_names.specs.Rules.{Among, IsAt}
use Rattle.type_names.specs.Searches.{IfBroken}
use Rattle.java_tree.specs.declared.tree.SourceUnit as declared
use Rattle.java_tree.specs.View.{unit_plain}
use Rattle.type_names.specs.Known.{File}
use Rattle.type_names.specs.Tables.{files_in}
use Rattle.type_names.proofs.Lists.{get_push}
use Rattle.type_names.proofs.Held.{get_left, get_right, get_split, files_more}

pub get_last : {A : Type 0} (xs : List A) (x : A) → slice_get (xs ++ x ∷ []) (length xs) ≡ Some x
get_last [] x = refl
get_last (y ∷ xs) x = get_last xs x

-- ---- among the elements of a list

pub among_push : {X : Type 0} (B : X → Breaches) (xs : List X) (x : X) (b : Breach) → Among B (xs ++ x ∷ []) b ↔ Either (Among B xs) (B x) b
among_push B xs x b = (
  λ h. elim (get_push xs x h.0 h.1 h.2) [
    | inl old ↦ inl (h.0, h.1, old, h.3)
    | inr new ↦ inr (subst (λ y. B y b) (sym new.1) h.3)
  ],
  λ h. elim h [
    | inl k ↦ (k.0, k.1, get_left xs (x ∷ []) k.0 k.1 k.2, k.3)
    | inr k ↦ (length xs, x, get_last xs x, k)
  ],
)

pub among_none : {X : Type 0} (B : X → Breaches) → IsFirst (Among B []) None
among_none B = λ b h. absurd (let e = h.2 in cc e)

back : {A B : Type 0} → A ↔ B → B ↔ A
back h = (h.1, h.0)

-- one element more, of a list that is seen through a function
pub among_more : {X Y : Type 0} (v : X → Y) (B : Y → Breaches) (xs : List X) (i : ℕ) (x : X) (old here new : Option Breach) → i < length xs → x ≡ get_or xs i x
    → IsFirst (Among B (map v (take i xs))) old → IsFirst (B (v x)) here → IsEarlier old here new → IsFirst (Among B (map v (take (i + 1) xs))) new
among_more v B xs i x old here new lt at first one is =
    let more : map v (take (i + 1) xs) ≡ map v (take i xs) ++ v x ∷ [] = ap (map v) (take_more xs i x lt ∙ ap (λ y. take i xs ++ y ∷ []) (sym at)) ∙ map-append v (take i xs) (x ∷ []) in
    subst (λ l. IsFirst (Among B l) new) (sym more)
    (first_alike (Either (Among B (map v (take i xs))) (B (v x))) (Among B (map v (take i xs) ++ v x ∷ [])) (λ b. back (among_push B (map v (take i xs)) (v x) b)) new
    (first_of_both (Among B (map v (take i xs))) (B (v x)) old here new is first one))

pub among_next : {X : Type 0} (B : X → Breaches) (xs : List X) (i : ℕ) (x : X) (old here new : Option Breach) → i < length xs → x ≡ get_or xs i x
    → IsFirst (Among B (take i xs)) old → IsFirst (B x) here → IsEarlier old here new → IsFirst (Among B (take (i + 1) xs)) new
among_next B xs i x old here new lt at first one is =
    subst (λ l. IsFirst (Among B l) new) (sym (take_more xs i x lt ∙ ap (λ y. take i xs ++ y ∷ []) (sym at)))
    (first_alike (Either (Among B (take i xs)) (B x)) (Among B (take i xs ++ x ∷ [])) (λ b. back (among_push B (take i xs) x b)) new (first_of_both (Among B (take i xs)) (B x) old here new is first one))

-- one file more
pub among_file : (B : File → Breaches) (user : Bool) (us : List declared.SourceUnit) (i : ℕ) (u : declared.SourceUnit) (f : File) (old here new : Option Breach) → i < length us → u ≡ get_or us i u
    → f ≡ record { unit = unit_plain u; user = user } → IsFirst (Among B (files_in user (map unit_plain (take i us)))) old → IsFirst (B f) here → IsEarlier old here new
    → IsFirst (Among B (files_in user (map unit_plain (take (i + 1) us)))) new
among_file B user us i u f old here new lt at is_file first one is =
    let before = files_in user (map unit_plain (take i us)) in
    subst (λ l. IsFirst (Among B l) new) (ap (λ f. before ++ f ∷ []) is_file ∙ sym (files_more user [] us i u lt at))
    (first_alike (Either (Among B before) (B f)) (Among B (before ++ f ∷ [])) (λ b. back (among_push B before f b)) new (first_of_both (Among B before) (B f) old here new is first one))

-- two lists, one behind the other
pub among_both : {X : Type 0} (B : X → Breaches) (xs ys : List X) (b : Breach) → Either (Among B xs) (Among B ys) b ↔ Among B (xs ++ ys) b
among_both B xs ys b = (
  λ h. elim h [
    | inl k ↦ (k.0, k.1, get_left xs ys k.0 k.1 k.2, k.3)
    | inr k ↦ let there = get_right xs ys k.0 k.1 k.2 in (there.0, k.1, there.1, k.3)
  ],
  λ h. elim (get_split xs ys h.0 h.1 h.2) [ inl left ↦ inl (h.0, h.1, left, h.3) | inr right ↦ inr (right.0, h.1, right.1, h.3) ],
)

-- ---- one rule at one node

pub broken_by : (node rule : ℕ) (test : Bool) (P : Type 0) (B : Breaches) → ((b : Breach) → B b ↔ (IsAt node rule b × P)) → ((test ≡ true) ↔ P) → (r : Option Breach)
    → IsFirst (IfBroken node rule test) r → IsFirst B r
broken_by node rule test P B is tells r first =
    first_alike (IfBroken node rule test) B (λ b. (λ h. (is b).1 (h.0, tells.0 h.1), λ h. let k = (is b).0 h in (k.0, tells.1 k.1))) r first
