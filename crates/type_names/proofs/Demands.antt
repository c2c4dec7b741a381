-- The packages that a file imports on demand.
use Rattle.std.proofs.Common.{◌≡◌, ℕ, ◌+◌, ◌<◌, true, false, ◌&&◌, ◌||◌, List, [], Some, None, sym, ap, ◌∙◌, length, get_or, take}
use Rattle.std.specs.Prelude.{slice_get, nat_eq}
use Rattle.std.specs.List.{list_any}
use Rattle.java_tree.specs.declared.tree.Name.{Name}
use Rattle.java_tree.specs.declared.tree.Import.{Import}
use Rattle.type_names.specs.declared.known.JavaNames.{JavaNames}
use Rattle.type_names.specs.Known.{lang_package}
use Rattle.type_names.specs.Sees.{same_path}
use Rattle.type_names.specs.Paths.{number_in}
use Rattle.type_names.specs.Tables.{has_on_demand, HoldsDemands}
use Rattle.type_names.proofs.Lists.{any_more}
use Rattle.type_names.proofs.Truths.{or_no, or_more, or_same}

-- each is the number of a package
abbrev pub AreReal : List (List Name) → List ℕ → Type 0
AreReal ps d = (k p : ℕ) → slice_get d k ≡ Some p → (path : List Name) × (number_in ps path ≡ Some p)

-- a path's number was put to the list
abbrev pub HasPut : List (List Name) → List Name → List ℕ → List ℕ → Type 0
HasPut ps path d e = (q : List Name) (p : ℕ) → number_in ps q ≡ Some p → list_any (λ y. nat_eq y p) e ≡ (list_any (λ y. nat_eq y p) d || same_path q path)

pub demands_none : (ps : List (List Name)) (j : JavaNames) (d e : List ℕ) → d ≡ [] → HasPut ps (lang_package j) d e → (AreReal ps d → AreReal ps e) → HoldsDemands ps j [] e
demands_none ps j d e empty put real = record {
  real = real (λ k p at. absurd (let none : slice_get d k ≡ None = ap (λ l. slice_get l k) empty in cc (at, none)));
  all = λ q p at. put q p at ∙ ap (λ l. list_any (λ y. nat_eq y p) l || same_path q (lang_package j)) empty ∙ sym (or_no (same_path q (lang_package j)));
}

has_more : (j : JavaNames) (is : List Import) (k : ℕ) (i : Import) (q : List Name) → k < length is → i ≡ get_or is k i
    → has_on_demand j (take (k + 1) is) q ≡ (same_path q (lang_package j) || (list_any (λ (i : Import). i.all && same_path q i.path) (take k is) || ((i.all && same_path q i.path) || false)))
has_more j is k i q lt at = ap (λ b. same_path q (lang_package j) || b) (any_more (λ (i : Import). i.all && same_path q i.path) is k i lt at)

pub demands_more : (ps : List (List Name)) (j : JavaNames) (is : List Import) (k : ℕ) (i : Import) (d e : List ℕ) → k < length is → i ≡ get_or is k i → i.all ≡ true
    → HasPut ps i.path d e → (AreReal ps d → AreReal ps e) → HoldsDemands ps j (take k is) d → HoldsDemands ps j (take (k + 1) is) e
demands_more ps j is k i d e lt at all put real held = record {
  real = real held.real;
  all = λ q p number.
      put q p number ∙ ap (λ b. b || same_path q i.path) (held.all q p number)
      ∙ or_more (same_path q (lang_package j)) (list_any (λ (i : Import). i.all && same_path q i.path) (take k is)) (same_path q i.path)
      ∙ ap (λ b. same_path q (lang_package j) || (list_any (λ (i : Import). i.all && same_path q i.path) (take k is) || ((b && same_path q i.path) || false))) (sym all)
      ∙ sym (has_more j is k i q lt at);
}

pub demands_same : (ps : List (List Name)) (j : JavaNames) (is : List Import) (k : ℕ) (i : Import) (d : List ℕ) → k < length is → i ≡ get_or is k i → i.all ≡ false
    → HoldsDemands ps j (take k is) d → HoldsDemands ps j (take (k + 1) is) d
demands_same ps j is k i d lt at single held = record {
  real = held.real;
  all = λ q p number.
      held.all q p number ∙ or_same (same_path q (lang_package j)) (list_any (λ (i : Import). i.all && same_path q i.path) (take k is))
      ∙ ap (λ b. same_path q (lang_package j) || (list_any (λ (i : Import). i.all && same_path q i.path) (take k is) || ((b && same_path q i.path) || false))) (sym single)
      ∙ sym (has_more j is k i q lt at);
}
