-- The tables of a program's types and files.
use Rattle.std.proofs.Common.{◌≡◌, ℕ, zero, suc, ◌+◌, ◌<◌, Bool, true, false, cond, ◌&&◌, List, [], ◌∷◌, ◌++◌, map, flat_map, Option, Some, None, ◌⊎◌, inl, inr, refl, sym, ap, ◌∙◌, subst, arith, length, get_or, take, append_assoc}
use Rattle.std.specs.Prelude.{slice_get, nat_eq, ◌==◌}
use Rattle.std.specs.List.{position_from}
use Rattle.std.specs.Option.{option_or, option_map, unwrap_or}
use Rattle.std.proofs.lemmas.List.{take_more, map-append, length-append}
use Rattle.std.proofs.lemmas.Option.{slice_get-map, slice_get_within, slice_get_read}
use Rattle.std.proofs.lemmas.Bool.{true≢false}
use Rattle.java_tree.specs.declared.tree.Name.{Name}
use Rattle.java_tree.specs.declared.tree.SourceUnit as declared
use Rattle.java_tree.specs.Plain.{SourceUnit}
use Rattle.java_tree.specs.View.{unit_plain}
use Rattle.type_names.specs.declared.known.JavaNames.{JavaNames}
use Rattle.type_names.specs.declared.firsts.FirstTypes.{FirstTypes}
use Rattle.type_names.specs.declared.firsts.TypeKey.{TypeKey}
use Rattle.type_names.specs.declared.files.FileNames.{FileNames}
use Rattle.type_names.specs.Known.{KnownType, File, files_of, types_in, types_of, lang_package, io_package, numbers_below, built_in_type, declared_type}
use Rattle.type_names.specs.Sees.{same_path, is_open, is_on_demand, is_beside, is_imported, first_seen, meant}
use Rattle.type_names.specs.Paths.{number_in, place_in, HasPath}
use Rattle.type_names.specs.Tables.{packages, brief, files_in, fits, first_at, is_open_among, is_named_by, is_open_in, HoldsTypes, HoldsDemands, HoldsFile, HoldsFiles, HaveHomes, AreLibrary}
use Rattle.type_names.proofs.Lists.{get_push, place_same}
use Rattle.type_names.proofs.Opens.{place_there, path_same}

-- ---- elements of lists

pub get_left : {A : Type 0} (xs ys : List A) (k : ℕ) (x : A) → slice_get xs k ≡ Some x → slice_get (xs ++ ys) k ≡ Some x
get_left [] ys k x e = absurd (cc e)
get_left (y ∷ xs) ys zero x e = e
get_left (y ∷ xs) ys (suc k) x e = get_left xs ys k x e

pub get_right : {A : Type 0} (xs ys : List A) (k : ℕ) (x : A) → slice_get ys k ≡ Some x → (m : ℕ) × (slice_get (xs ++ ys) m ≡ Some x)
get_right [] ys k x e = (k, e)
get_right (y ∷ xs) ys k x e = let later = get_right xs ys k x e in (suc later.0, later.1)

pub get_split : {A : Type 0} (xs ys : List A) (k : ℕ) (x : A) → slice_get (xs ++ ys) k ≡ Some x → (slice_get xs k ≡ Some x) ⊎ ((m : ℕ) × (slice_get ys m ≡ Some x))
get_split [] ys k x e = inr (k, e)
get_split (y ∷ xs) ys zero x e = inl e
get_split (y ∷ xs) ys (suc k) x e = get_split xs ys k x e

pub get_mapped : {A B : Type 0} (f : A → B) (xs : List A) (k : ℕ) (y : B) → slice_get (map f xs) k ≡ Some y → (x : A) × (slice_get xs k ≡ Some x) × (f x ≡ y)
get_mapped f [] k y e = absurd (cc e)
get_mapped f (x ∷ xs) zero y e = (x, refl, cc e)
get_mapped f (x ∷ xs) (suc k) y e = get_mapped f xs k y e

pub get_flat : {A B : Type 0} (f : A → List B) (xs : List A) (k : ℕ) (y : B) → slice_get (flat_map f xs) k ≡ Some y
    → (i : ℕ) × (x : A) × (m : ℕ) × (slice_get xs i ≡ Some x) × (slice_get (f x) m ≡ Some y)
get_flat f [] k y e = absurd (cc e)
get_flat f (x ∷ xs) k y e = elim (get_split (f x) (flat_map f xs) k y e) [
  | inl here ↦ (0, x, k, refl, here)
  | inr later ↦ let found = get_flat f xs later.0 y later.1 in (suc found.0, found.1, found.2, found.3, found.4)
]

pub append_none : {A : Type 0} (xs : List A) → xs ++ [] ≡ xs
append_none [] = refl
append_none (x ∷ xs) = ap (λ ys. x ∷ ys) (append_none xs)

-- ---- packages

-- a package of the list has a number
pub has_home : (ps : List (List Name)) (k : ℕ) (p : List Name) → slice_get ps k ≡ Some p → number_in ps p ≡ Some (place_in ps p)
has_home ps k p at = let there = place_there (λ r. same_path r p) 0 k ps p at (path_same p p refl) in there.1 ∙ ap Some (sym (ap (λ o. unwrap_or o 0) there.1))

pub file_home : (j : JavaNames) (fs : List File) (k : ℕ) (f : File) → slice_get fs k ≡ Some f → slice_get (packages j fs) (suc (suc k)) ≡ Some f.unit.«package»
file_home j fs k f at = slice_get-map (λ (f : File). f.unit.«package») fs k ∙ ap (option_map (λ (f : File). f.unit.«package»)) at

type_home : (j : JavaNames) (fs : List File) (k : ℕ) (t : KnownType) → slice_get (types_of j fs) k ≡ Some t → (i : ℕ) × (slice_get (packages j fs) i ≡ Some t.«package»)
type_home j fs k t at = elim (get_split (map (built_in_type j) (numbers_below 19)) (flat_map types_in fs) k t at) [
  | inl built ↦ let n = get_mapped (built_in_type j) (numbers_below 19) k t built in by n.0 (n.0 == 3) refl n.2
  | inr later ↦
      let in_file = get_flat types_in fs later.0 t later.1 in
      let d = get_mapped (declared_type in_file.1) in_file.1.unit.types in_file.2 t in_file.4 in
      (suc (suc in_file.0), file_home j fs in_file.0 in_file.1 in_file.3 ∙ ap (λ (t : KnownType). Some t.«package») d.2)
]
  where
    by : (n : ℕ) (b : Bool) → n == 3 ≡ b → built_in_type j n ≡ t → (i : ℕ) × (slice_get (packages j fs) i ≡ Some t.«package»)
    by n true e is = (1, ap Some (sym (ap (λ b. cond b (io_package j) (lang_package j)) e) ∙ ap (λ (t : KnownType). t.«package») is))
    by n false e is = (0, ap Some (sym (ap (λ b. cond b (io_package j) (lang_package j)) e) ∙ ap (λ (t : KnownType). t.«package») is))

pub types_held : (j : JavaNames) (fs : List File) (ps : List (List Name)) (t : FirstTypes) → ps ≡ packages j fs
    → ((q : TypeKey) → first_at t q ≡ position_from (fits q) 0 (map (brief ps) (types_of j fs))) → HoldsTypes ps t (types_of j fs)
types_held j fs ps t is firsts = record {
  homes = λ k x at. let home = type_home j fs k x at in has_home ps home.0 x.«package» (ap (λ l. slice_get l home.0) is ∙ home.1);
  firsts = firsts;
}

pub user_homes : (j : JavaNames) (us ls : List SourceUnit) (ps : List (List Name)) → ps ≡ packages j (files_of us ls) → HaveHomes ps (files_in true us)
user_homes j us ls ps is k f at =
    has_home ps (suc (suc k)) f.unit.«package» (ap (λ l. slice_get l (suc (suc k))) is ∙ file_home j (files_of us ls) k f (get_left (files_in true us) (files_in false ls) k f at))

pub lib_homes : (j : JavaNames) (us ls : List SourceUnit) (ps : List (List Name)) → ps ≡ packages j (files_of us ls) → HaveHomes ps (files_in false ls)
lib_homes j us ls ps is k f at =
    let there = get_right (files_in true us) (files_in false ls) k f at in
    has_home ps (suc (suc there.0)) f.unit.«package» (ap (λ l. slice_get l (suc (suc there.0))) is ∙ file_home j (files_of us ls) there.0 f there.1)

-- the packages of the library files
pub library_held : (us ls : List SourceUnit) (ps : List (List Name)) → ps ≡ map (λ (u : SourceUnit). u.«package») ls → AreLibrary ps (files_of us ls)
library_held us ls ps is path = (to, from)
  where
    to : HasPath ps path → (i : ℕ) × (f : File) × (slice_get (files_of us ls) i ≡ Some f) × (f.user ≡ false) × (path ≡ f.unit.«package»)
    to h =
        let u = get_mapped (λ (u : SourceUnit). u.«package») ls h.0 path (sym (ap (λ l. slice_get l h.0) is) ∙ h.1) in
        let f : File = record { unit = u.0; user = false } in
        let at = slice_get-map (λ (u : SourceUnit). (λ (f : File). f) (record { unit = u; user = false })) ls h.0 ∙ ap (option_map (λ (u : SourceUnit). (λ (f : File). f) (record { unit = u; user = false }))) u.1 in
        let there = get_right (files_in true us) (files_in false ls) h.0 f at in
        (there.0, f, there.1, refl, sym u.2)

    from : (i : ℕ) × (f : File) × (slice_get (files_of us ls) i ≡ Some f) × (f.user ≡ false) × (path ≡ f.unit.«package») → HasPath ps path
    from h = elim (get_split (files_in true us) (files_in false ls) h.0 h.1 h.2) [
      | inl left ↦
          let u = get_mapped (λ (u : SourceUnit). (λ (f : File). f) (record { unit = u; user = true })) us h.0 h.1 left in
          absurd (true≢false (ap (λ (f : File). f.user) u.2 ∙ h.3))
      | inr right ↦
          let u = get_mapped (λ (u : SourceUnit). (λ (f : File). f) (record { unit = u; user = false })) ls right.0 h.1 right.1 in
          let at = slice_get-map (λ (u : SourceUnit). u.«package») ls right.0 ∙ ap (option_map (λ (u : SourceUnit). u.«package»)) u.1 in
          (right.0, ap (λ l. slice_get l right.0) is ∙ at ∙ ap (λ (f : File). Some f.unit.«package») u.2 ∙ ap Some (sym h.4))
    ]

-- ---- files

pub no_files : (ps : List (List Name)) (j : JavaNames) (ts : List KnownType) (ns : List FileNames) → ns ≡ [] → HoldsFiles ps j ts [] ns
no_files ps j ts ns is = record { count = ap length is; files = λ i n f a b. absurd (cc b) }

pub file_more : (ps : List (List Name)) (j : JavaNames) (ts : List KnownType) (fs : List File) (ns : List FileNames) (f : File) (n : FileNames)
    → HoldsFiles ps j ts fs ns → HoldsFile ps j ts f n → HoldsFiles ps j ts (fs ++ f ∷ []) (ns ++ n ∷ [])
file_more ps j ts fs ns f n held one = record {
  count = length-append ns (n ∷ []) ∙ ap (λ k. k + 1) held.count ∙ sym (length-append fs (f ∷ []));
  files = λ i m g a b. elim (get_push ns n i m a) [
    | inl old ↦ elim (get_push fs f i g b) [
      | inl before ↦ held.files i m g old before
      | inr new ↦ let low = slice_get_within ns i m old in absurd (omega (arith, low, new.0, held.count))
    ]
    | inr new ↦ elim (get_push fs f i g b) [
      | inl before ↦ let low = slice_get_within fs i g before in absurd (omega (arith, low, new.0, held.count))
      | inr last ↦ subst (λ x. HoldsFile ps j ts g x) new.1 (subst (λ x. HoldsFile ps j ts x n) last.1 one)
    ]
  ];
}

pub files_more : (user : Bool) (fs : List File) (us : List declared.SourceUnit) (i : ℕ) (u : declared.SourceUnit) → i < length us → u ≡ get_or us i u
    → fs ++ files_in user (map unit_plain (take (i + 1) us)) ≡ (fs ++ files_in user (map unit_plain (take i us))) ++ (record { unit = unit_plain u; user = user }) ∷ []
files_more user fs us i u lt at =
    ap (λ l. fs ++ files_in user (map unit_plain l)) (take_more us i u lt ∙ ap (λ y. take i us ++ y ∷ []) (sym at))
    ∙ ap (λ l. fs ++ files_in user l) (map-append unit_plain (take i us) (u ∷ []))
    ∙ ap (λ l. fs ++ l) (map-append (λ (u : SourceUnit). (λ (f : File). f) (record { unit = u; user = user })) (map unit_plain (take i us)) (unit_plain u ∷ []))
    ∙ sym (append_assoc fs (files_in user (map unit_plain (take i us))) ((record { unit = unit_plain u; user = user }) ∷ []))

pub file_at : (user : Bool) (us : List declared.SourceUnit) (i : ℕ) (u : declared.SourceUnit) → i < length us → u ≡ get_or us i u
    → slice_get (files_in user (map unit_plain us)) i ≡ Some (record { unit = unit_plain u; user = user })
file_at user us i u lt at =
    slice_get-map (λ (u : SourceUnit). (λ (f : File). f) (record { unit = u; user = user })) (map unit_plain us) i
    ∙ ap (option_map (λ (u : SourceUnit). (λ (f : File). f) (record { unit = u; user = user }))) (slice_get-map unit_plain us i ∙ ap (option_map unit_plain) (slice_get_read us (length us) i u refl lt at))

-- ---- what a name means

pub or_first : (o p r : Option ℕ) (k : ℕ) → o ≡ p → o ≡ Some k → Some k ≡ option_or p r
or_first o p r k is some = ap (λ x. option_or x r) (sym some ∙ is)

pub or_later : (o p q r : Option ℕ) → o ≡ p → o ≡ None → q ≡ r → q ≡ option_or p r
or_later o p q r is none same = same ∙ ap (λ x. option_or x r) (sym none ∙ is)

-- by a single-type import
pub meant_single : (j : JavaNames) (fs : List File) (f : File) (x : Name) (o : Option ℕ) (k : ℕ) → o ≡ position_from (is_named_by f f.unit.imports x.0) 0 (types_of j fs) → o ≡ Some k
    → Some k ≡ meant j fs f x
meant_single j fs f x o k is some =
    or_first o (first_seen x (is_imported f) (types_of j fs)) (option_or (first_seen x (is_beside f) (types_of j fs)) (first_seen x (is_on_demand j f) (types_of j fs))) k is some

-- by the file's own package
pub meant_beside : (j : JavaNames) (fs : List File) (f : File) (x : Name) (o q : Option ℕ) (k : ℕ) → o ≡ position_from (is_named_by f f.unit.imports x.0) 0 (types_of j fs) → o ≡ None
    → q ≡ position_from (is_open_in f f.unit.«package» x.0) 0 (types_of j fs) → q ≡ Some k → Some k ≡ meant j fs f x
meant_beside j fs f x o q k is none beside some =
    or_later o (first_seen x (is_imported f) (types_of j fs)) (Some k) (option_or (first_seen x (is_beside f) (types_of j fs)) (first_seen x (is_on_demand j f) (types_of j fs))) is none
    (or_first q (first_seen x (is_beside f) (types_of j fs)) (first_seen x (is_on_demand j f) (types_of j fs)) k beside some)

-- by an import on demand
pub meant_on_demand : (j : JavaNames) (fs : List File) (f : File) (x : Name) (o q r : Option ℕ) → o ≡ position_from (is_named_by f f.unit.imports x.0) 0 (types_of j fs) → o ≡ None
    → q ≡ position_from (is_open_in f f.unit.«package» x.0) 0 (types_of j fs) → q ≡ None → r ≡ first_seen x (is_on_demand j f) (types_of j fs) → r ≡ meant j fs f x
meant_on_demand j fs f x o q r is none beside absent last =
    or_later o (first_seen x (is_imported f) (types_of j fs)) r (option_or (first_seen x (is_beside f) (types_of j fs)) (first_seen x (is_on_demand j f) (types_of j fs))) is none
    (or_later q (first_seen x (is_beside f) (types_of j fs)) r (first_seen x (is_on_demand j f) (types_of j fs)) beside absent last)

pub among_all : (ps : List (List Name)) (t : FirstTypes) (ts : List KnownType) (j : JavaNames) (f : File) (d : List ℕ) (x : Name) → HoldsTypes ps t ts → HoldsDemands ps j f.unit.imports d
    → position_from (is_open_among f ps d x.0) 0 ts ≡ first_seen x (is_on_demand j f) ts
among_all ps t ts j f d x types demands =
    place_same (is_open_among f ps d x.0) (λ t. nat_eq t.name.0 x.0 && is_on_demand j f t) 0 ts (λ k t at.
    ap (λ b. nat_eq t.name.0 x.0 && (is_open f t && b)) (demands.all t.«package» (place_in ps t.«package») (types.homes k t at)))
