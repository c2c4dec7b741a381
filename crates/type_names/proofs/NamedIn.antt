-- The packages that have a type of a name.
use Rattle.std.proofs.Common.{◌≡◌, inl, inr, ℕ, zero, suc, ◌+◌, ◌<◌, Bool, true, false, cond, ◌&&◌, ◌||◌, nat_eq, List, [], ◌∷◌, ◌++◌, map, Some, None, refl, sym, ap, ◌∙◌, length, get_or, take}
use Rattle.std.specs.Prelude.{slice_get}
use Rattle.std.specs.List.{list_any, position_from}
use Rattle.std.specs.Option.{option_map}
use Rattle.std.proofs.lemmas.Bool.{cases_Bool, eq-eqb, eqb-true}
use Rattle.std.proofs.lemmas.List.{take_more}
use Rattle.std.proofs.lemmas.Option.{slice_get-map}
use Rattle.std.proofs.lemmas.List.Folds.{list_any-append}
use Rattle.std.proofs.lemmas.Grind.{flat_map-append}
use Rattle.java_tree.specs.declared.tree.Name.{Name}
use Rattle.type_names.specs.declared.known.Known as code
use Rattle.type_names.specs.declared.firsts.FirstTypes.{FirstTypes}
use Rattle.type_names.specs.Known.{KnownType, File}
use Rattle.type_names.specs.Sees.{same_path, is_open}
use Rattle.type_names.specs.Paths.{number_in, place_in}
use Rattle.type_names.specs.Tables.{brief, homes_in, is_open_in, is_open_among, is_open_both, least, AreSame, HoldsTypes}
use Rattle.type_names.proofs.Lists.{place_same}
use Rattle.type_names.proofs.Truths.{and_no, or_no}
use Rattle.type_names.proofs.Opens.{number_same, path_back, place_or, place_none, least_none}
use Rattle.type_names.proofs.Held.{get_right, get_mapped, get_flat, append_none}
use Rattle.type_names.proofs.Named.{any_at}

-- ---- the packages of the types of a name

abbrev home_if : ℕ → code.Known → List ℕ
home_if x k = cond (nat_eq k.name.0 x) (k.«package» ∷ []) []

-- one type more
pub homes_more : (x : ℕ) (ts : List code.Known) (i : ℕ) (d : code.Known) → i < length ts
    → homes_in x (take (i + 1) ts) ≡ homes_in x (take i ts) ++ cond (nat_eq (get_or ts i d).name.0 x) ((get_or ts i d).«package» ∷ []) []
homes_more x ts i d lt =
    ap (homes_in x) (take_more ts i d lt) ∙ flat_map-append (home_if x) (take i ts) (get_or ts i d ∷ []) ∙ ap (λ l. homes_in x (take i ts) ++ l) (append_none (home_if x (get_or ts i d)))

pub home_there : (ts : List code.Known) (i : ℕ) (k : code.Known) → slice_get ts i ≡ Some k → (m : ℕ) × (slice_get (homes_in k.name.0 ts) m ≡ Some k.«package»)
home_there [] i k e = absurd (cc e)
home_there (z ∷ ts) zero k e =
    let same : z ≡ k = cc e in (
      0,
      ap (λ w. slice_get (home_if k.name.0 w ++ homes_in k.name.0 ts) 0) same
          ∙ ap (λ b. slice_get (cond b (k.«package» ∷ []) [] ++ homes_in k.name.0 ts) 0) (eq-eqb k.name.0 k.name.0 refl),
    )
home_there (z ∷ ts) (suc i) k e =
    let later = home_there ts i k e in
    get_right (home_if k.name.0 z) (homes_in k.name.0 ts) later.0 k.«package» later.1

one_of : (b : Bool) (q n p : ℕ) → slice_get (cond b (q ∷ []) []) n ≡ Some p → q ≡ p
one_of true q zero p e = cc e
one_of true q (suc n) p e = absurd (cc e)
one_of false q n p e = absurd (cc e)

-- each is that of a type, so it has a path
pub home_real : (ps : List (List Name)) (t : FirstTypes) (ts : List KnownType) (x k p : ℕ) → HoldsTypes ps t ts → slice_get (homes_in x (map (brief ps) ts)) k ≡ Some p
    → (path : List Name) × (number_in ps path ≡ Some p)
home_real ps t ts x k p holds e =
    let found = get_flat (home_if x) (map (brief ps) ts) k p e in
    let type = get_mapped (brief ps) ts found.0 found.1 found.3 in
    let home : found.1.«package» ≡ p = one_of (nat_eq found.1.name.0 x) found.1.«package» found.2 p found.4 in
    (type.0.«package», holds.homes found.0 type.0 type.1 ∙ ap Some (ap (λ (k : code.Known). k.«package») type.2 ∙ home))

-- ---- one package more

both_yes : (n o h a s : Bool) → (s ≡ true → h ≡ true) → (n && (o && (h && (a || s)))) ≡ ((n && (o && (h && a))) || (n && (o && s)))
both_yes false o h a s f = refl
both_yes true false h a s f = refl
both_yes true true true true s f = refl
both_yes true true true false s f = refl
both_yes true true false a false f = refl
both_yes true true false a true f = absurd (let bad = f refl in cc bad)

both_no : (n o h a s : Bool) → (s ≡ true → h ≡ false) → (n && (o && (h && (a || s)))) ≡ (n && (o && (h && a)))
both_no false o h a s f = refl
both_no true false h a s f = refl
both_no true true false a s f = refl
both_no true true true a false f = or_no a
both_no true true true a true f = absurd (let bad = f refl in cc bad)

pub both_none : (ts : List KnownType) (f : File) (ps : List (List Name)) (has : ℕ → Bool) (x : ℕ) → position_from (is_open_both f ps has [] x) 0 ts ≡ None
both_none ts f ps has x = place_none (is_open_both f ps has [] x) 0 ts (λ k t e.
    ap (λ b. nat_eq t.name.0 x && (is_open f t && b)) (and_no (has (place_in ps t.«package»)))
    ∙ ap (λ b. nat_eq t.name.0 x && b) (and_no (is_open f t)) ∙ and_no (nat_eq t.name.0 x))

pub both_more : (ps : List (List Name)) (t : FirstTypes) (ts : List KnownType) (f : File) (has : ℕ → Bool) (d : List ℕ) (k p x : ℕ) (path : List Name) → HoldsTypes ps t ts → k < length d → p ≡ get_or d k 0
    → number_in ps path ≡ Some p
    → position_from (is_open_both f ps has (take (k + 1) d) x) 0 ts ≡ least (position_from (is_open_both f ps has (take k d) x) 0 ts) (cond (has p) (position_from (is_open_in f path x) 0 ts) None)
both_more ps t ts f has d k p x path holds lt at number = elim (cases_Bool (has p)) [
  | inl hit ↦
      place_same (is_open_both f ps has (take (k + 1) d) x) (λ t. is_open_both f ps has (take k d) x t || is_open_in f path x t) 0 ts (λ m t e.
      longer m t e
      ∙ both_yes (nat_eq t.name.0 x) (is_open f t) (has (place_in ps t.«package»)) (list_any (λ y. nat_eq y (place_in ps t.«package»)) (take k d)) (same_path t.«package» path)
      (λ same. ap has (sym (number_is m t e same)) ∙ hit))
      ∙ place_or (is_open_both f ps has (take k d) x) (is_open_in f path x) 0 ts
      ∙ ap (λ b. least (position_from (is_open_both f ps has (take k d) x) 0 ts) (cond b (position_from (is_open_in f path x) 0 ts) None)) (sym hit)
  | inr miss ↦
      place_same (is_open_both f ps has (take (k + 1) d) x) (is_open_both f ps has (take k d) x) 0 ts (λ m t e.
      longer m t e
      ∙ both_no (nat_eq t.name.0 x) (is_open f t) (has (place_in ps t.«package»)) (list_any (λ y. nat_eq y (place_in ps t.«package»)) (take k d)) (same_path t.«package» path)
      (λ same. ap has (sym (number_is m t e same)) ∙ miss))
      ∙ sym (least_none (position_from (is_open_both f ps has (take k d) x) 0 ts))
      ∙ ap (λ b. least (position_from (is_open_both f ps has (take k d) x) 0 ts) (cond b (position_from (is_open_in f path x) 0 ts) None)) (sym miss)
]
  where
    same_number : (m : ℕ) (t : KnownType) → slice_get ts m ≡ Some t → nat_eq p (place_in ps t.«package») ≡ same_path t.«package» path
    same_number m t e = number_same ps path t.«package» p (place_in ps t.«package») number (holds.homes m t e) ∙ path_back path t.«package»

    number_is : (m : ℕ) (t : KnownType) → slice_get ts m ≡ Some t → same_path t.«package» path ≡ true → p ≡ place_in ps t.«package»
    number_is m t e same = eqb-true p (place_in ps t.«package») (same_number m t e ∙ same)

    longer : (m : ℕ) (t : KnownType) → slice_get ts m ≡ Some t → is_open_both f ps has (take (k + 1) d) x t
        ≡ (nat_eq t.name.0 x && (is_open f t && (has (place_in ps t.«package») && (list_any (λ y. nat_eq y (place_in ps t.«package»)) (take k d) || same_path t.«package» path))))
    longer m t e =
        ap (λ l. is_open_both f ps has l x t) (take_more d k 0 lt ∙ ap (λ y. take k d ++ y ∷ []) (sym at))
        ∙ ap (λ b. nat_eq t.name.0 x && (is_open f t && (has (place_in ps t.«package») && b))) (list_any-append (λ y. nat_eq y (place_in ps t.«package»)) (take k d) (p ∷ []))
        ∙ ap (λ b. nat_eq t.name.0 x && (is_open f t && (has (place_in ps t.«package») && (list_any (λ y. nat_eq y (place_in ps t.«package»)) (take k d) || b))))
        (or_no (nat_eq p (place_in ps t.«package»)) ∙ same_number m t e)

-- ---- packages that are imported on demand

-- all of them
pub both_demanded : (ts : List KnownType) (f : File) (ps : List (List Name)) (has : ℕ → Bool) (d l : List ℕ) (x : ℕ) → AreSame has d → l ≡ d
    → position_from (is_open_both f ps has l x) 0 ts ≡ position_from (is_open_among f ps d x) 0 ts
both_demanded ts f ps has d l x same is = ap (λ l. position_from (is_open_both f ps has l x) 0 ts) is ∙ place_same (is_open_both f ps has d x) (is_open_among f ps d x) 0 ts (λ k t e.
    ap (λ b. nat_eq t.name.0 x && (is_open f t && (b && list_any (λ y. nat_eq y (place_in ps t.«package»)) d))) (same (place_in ps t.«package»))
    ∙ ap (λ b. nat_eq t.name.0 x && (is_open f t && b)) (twice (list_any (λ y. nat_eq y (place_in ps t.«package»)) d)))
  where
    twice : (b : Bool) → (b && b) ≡ b
    twice true = refl
    twice false = refl

-- those that have a type of the name
pub both_named : (ts : List KnownType) (f : File) (ps : List (List Name)) (has : ℕ → Bool) (d l : List ℕ) (x : ℕ) → AreSame has d → l ≡ homes_in x (map (brief ps) ts)
    → position_from (is_open_both f ps has l x) 0 ts ≡ position_from (is_open_among f ps d x) 0 ts
both_named ts f ps has d l x same is =
    place_same (is_open_both f ps has l x) (is_open_among f ps d x) 0 ts (λ k t e. by k t e (nat_eq t.name.0 x) refl)
  where
    here : (k : ℕ) (t : KnownType) → slice_get ts k ≡ Some t → nat_eq t.name.0 x ≡ true → list_any (λ y. nat_eq y (place_in ps t.«package»)) l ≡ true
    here k t e named =
        let there = home_there (map (brief ps) ts) k (brief ps t) (slice_get-map (brief ps) ts k ∙ ap (option_map (brief ps)) e) in
        any_at (λ y. nat_eq y (place_in ps t.«package»)) l there.0 (place_in ps t.«package»)
        (ap (λ l. slice_get l there.0) is ∙ ap (λ y. slice_get (homes_in y (map (brief ps) ts)) there.0) (sym (eqb-true t.name.0 x named)) ∙ there.1)
        (eq-eqb (place_in ps t.«package») (place_in ps t.«package») refl)

    and_yes : (b : Bool) → (b && true) ≡ b
    and_yes true = refl
    and_yes false = refl

    by : (k : ℕ) (t : KnownType) → slice_get ts k ≡ Some t → (n : Bool) → nat_eq t.name.0 x ≡ n → is_open_both f ps has l x t ≡ is_open_among f ps d x t
    by k t e true named =
        ap (λ b. nat_eq t.name.0 x && (is_open f t && (has (place_in ps t.«package») && b))) (here k t e named)
        ∙ ap (λ b. nat_eq t.name.0 x && (is_open f t && b)) (and_yes (has (place_in ps t.«package»)) ∙ same (place_in ps t.«package»))
    by k t e false named =
        ap (λ n. n && (is_open f t && (has (place_in ps t.«package») && list_any (λ y. nat_eq y (place_in ps t.«package»)) l))) named
        ∙ sym (ap (λ n. n && (is_open f t && list_any (λ y. nat_eq y (place_in ps t.«package»)) d)) named)
