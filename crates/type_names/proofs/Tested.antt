-- Tests on packages and on imports.
use Rattle.std.proofs.Common.{◌≡◌, ℕ, zero, suc, Bool, true, false, not, ◌&&◌, ◌||◌, ◌⊎◌, ◌↔◌, inl, inr, List, [], ◌∷◌, ◌++◌, map, Option, Some, None, refl, sym, ap, ◌∙◌, subst}
use Rattle.std.specs.Prelude.{slice_get, nat_eq, is_none}
use Rattle.std.specs.List.{position_from}
use Rattle.std.specs.Option.{option_map}
use Rattle.std.proofs.lemmas.Option.{slice_get-map}
use Rattle.std.proofs.lemmas.Bool.{and_parts, and_from, true≢false}
use Rattle.java_tree.specs.declared.tree.Name.{Name}
use Rattle.java_tree.specs.declared.tree.SourceUnit as declared
use Rattle.java_tree.specs.Plain.{SourceUnit}
use Rattle.java_tree.specs.View.{unit_plain}
use Rattle.type_names.specs.declared.known.JavaNames.{JavaNames}
use Rattle.type_names.specs.Known.{KnownType, File, types_of, lang_package, io_package}
use Rattle.type_names.specs.Sees.{same_path, full_name, is_open}
use Rattle.type_names.specs.Rules.{IsAt, NamesNoType, NamesNoPackage, NamesNothing, BreaksOnePackage, BreaksOwnPackage, BreaksNamedPackage, BreaksPackageName, BreaksImport}
use Rattle.type_names.specs.Paths.{HasPath}
use Rattle.type_names.specs.Tables.{packages, is_open_in, AreLibrary}
use Rattle.type_names.specs.Searches.{IfBroken, HasPackage, IsBuiltInPackage, IsApart, BeginsBuiltIn}
use Rattle.java_tree.specs.declared.tree.Import.{Import}
use Rattle.rule_order.specs.declared.Breach.{Breach}
use Rattle.rule_order.specs.First.{IsFirst}
use Rattle.type_names.proofs.Breaches.{broken_by}
use Rattle.type_names.proofs.Opens.{path_is, path_same, last_same, place_found, none_passes}
use Rattle.type_names.proofs.Held.{get_mapped, file_home}

-- ---- files of a package

-- whether a file is in the package, by the packages of the files
pub has_unit : (us : List SourceUnit) (ps : List (List Name)) (path : List Name) (r : Bool) → ps ≡ map (λ (u : SourceUnit). u.«package») us → ((r ≡ true) ↔ HasPath ps path)
    → (r ≡ true) ↔ HasPackage us path
has_unit us ps path r is tells = (
  λ e.
      let there = tells.0 e in
      let u = get_mapped (λ (u : SourceUnit). u.«package») us there.0 path (sym (ap (λ l. slice_get l there.0) is) ∙ there.1) in
      (there.0, u.0, u.1, sym u.2),
  λ h.
      tells.1 (
        h.0,
        ap (λ l. slice_get l h.0) is ∙ slice_get-map (λ (u : SourceUnit). u.«package») us h.0 ∙ ap (option_map (λ (u : SourceUnit). u.«package»)) h.2 ∙ ap Some (sym h.3),
      ),
)

pub built_in_left : (j : JavaNames) (path : List Name) (r : Bool) → r ≡ same_path path (lang_package j) → r ≡ true → (r ≡ true) ↔ IsBuiltInPackage j path
built_in_left j path r is e = (λ h. inl (path_is path (lang_package j) (sym is ∙ e)), λ h. e)

pub built_in_right : (j : JavaNames) (path : List Name) (l r : Bool) → l ≡ same_path path (lang_package j) → l ≡ false → r ≡ same_path path (io_package j) → (r ≡ true) ↔ IsBuiltInPackage j path
built_in_right j path l r is e same = (
  λ h. inr (path_is path (io_package j) (sym same ∙ h)),
  λ h. elim h [
    | inl lang ↦ absurd (true≢false (sym (path_same path (lang_package j) lang) ∙ sym is ∙ e))
    | inr io ↦ same ∙ path_same path (io_package j) io
  ],
)

pub apart_is : (us : List declared.SourceUnit) (first : declared.SourceUnit) (path : List Name) (r : Bool) → Some first ≡ slice_get us 0 → r ≡ not (same_path path first.«package»)
    → (r ≡ true) ↔ IsApart (map unit_plain us) path
apart_is us first path r at is = (
  λ e. (unit_plain first, there, λ same. true≢false (sym e ∙ is ∙ ap not (path_same path first.«package» same))),
  λ h. is ∙ ap not (apart h (same_path path first.«package») refl),
)
  where
    there : slice_get (map unit_plain us) 0 ≡ Some (unit_plain first)
    there = slice_get-map unit_plain us 0 ∙ ap (option_map unit_plain) (sym at)

    apart : IsApart (map unit_plain us) path → (b : Bool) → same_path path first.«package» ≡ b → same_path path first.«package» ≡ false
    apart h true e =
        let other = h.1 in
        let one : unit_plain first ≡ h.0 = cc (there, other) in
        absurd (h.2 (path_is path first.«package» e ∙ ap (λ (u : SourceUnit). u.«package») one))
    apart h false e = e

-- ---- imports on demand

absent : (has : Bool) (P : Type 0) → ((has ≡ true) ↔ P) → not has ≡ true → P → ⊥
absent has P tells none h = true≢false (sym none ∙ ap not (tells.1 h))

missing : (has : Bool) (P : Type 0) → ((has ≡ true) ↔ P) → (P → ⊥) → not has ≡ true
missing true P tells none = absurd (none (tells.0 refl))
missing false P tells none = refl

-- of a user file
pub user_names : (j : JavaNames) (fs : List File) (ps : List (List Name)) (path : List Name) (user has : Bool) → ps ≡ packages j fs → user ≡ true → ((has ≡ true) ↔ HasPath ps path)
    → (not has ≡ true) ↔ NamesNoPackage j fs user path
user_names j fs ps path user has is in_user tells = (
  λ e. (
    λ same. absent has (HasPath ps path) tells e (0, ap (λ l. slice_get l 0) is ∙ ap Some (sym same)),
    λ same. absent has (HasPath ps path) tells e (1, ap (λ l. slice_get l 1) is ∙ ap Some (sym same)),
    λ k g at why same. absent has (HasPath ps path) tells e (suc (suc k), ap (λ l. slice_get l (suc (suc k))) is ∙ file_home j fs k g at ∙ ap Some (sym same)),
  ),
  λ none. missing has (HasPath ps path) tells (λ h. no_place none h.0 (sym (ap (λ l. slice_get l h.0) is) ∙ h.1)),
)
  where
    no_place : NamesNoPackage j fs user path → (i : ℕ) → slice_get (packages j fs) i ≡ Some path → ⊥
    no_place none zero e = none.0 (let same : lang_package j ≡ path = cc e in sym same)
    no_place none (suc zero) e = none.1 (let same : io_package j ≡ path = cc e in sym same)
    no_place none (suc (suc k)) e =
        let f = get_mapped (λ (f : File). f.unit.«package») fs k path e in
        none.2 k f.0 f.1 (inl in_user) (sym f.2)

-- of a library file
pub library_names : (j : JavaNames) (fs : List File) (ps : List (List Name)) (path : List Name) (user has : Bool) → AreLibrary ps fs → user ≡ false → (IsBuiltInPackage j path → ⊥)
    → ((has ≡ true) ↔ HasPath ps path) → (not has ≡ true) ↔ NamesNoPackage j fs user path
library_names j fs ps path user has library in_lib not_built tells = (
  λ e. (
    λ same. not_built (inl same),
    λ same. not_built (inr same),
    λ k g at why same. elim why [
      | inl in_user ↦ true≢false (sym in_user ∙ in_lib)
      | inr of_lib ↦ absent has (HasPath ps path) tells e ((library path).1 (k, g, at, of_lib, same))
    ],
  ),
  λ none. missing has (HasPath ps path) tells (λ h. let f = (library path).0 h in none.2 f.0 f.1 f.2 (inr f.3) f.4),
)

pub built_in_names : (j : JavaNames) (fs : List File) (path : List Name) (user : Bool) → IsBuiltInPackage j path → NamesNoPackage j fs user path → ⊥
built_in_names j fs path user (inl e) none = none.0 e
built_in_names j fs path user (inr e) none = none.1 e

-- ---- single-type imports

pub no_type : (ts : List KnownType) (f : File) (path home : List Name) (last : Name) (o : Option ℕ) → path ≡ home ++ last ∷ [] → o ≡ position_from (is_open_in f home last.0) 0 ts
    → (is_none o ≡ true) ↔ NamesNoType ts f path
no_type ts f path home last o split is = (
  λ none k t at open_ same.
      let parts = and_parts (same_path t.«package» home) (nat_eq t.name.0 last.0) (sym (last_same t.«package» home t.name last) ∙ path_same (full_name t) (home ++ last ∷ []) (sym same ∙ split)) in
      none_passes (is_open_in f home last.0) ts k t (sym is ∙ missing o none) at (and_from _ _ parts.1 (and_from _ _ open_ parts.0)),
  λ none. there o refl none,
)
  where
    missing : (o : Option ℕ) → is_none o ≡ true → o ≡ None
    missing None e = refl
    missing (Some k) e = absurd (cc e)

    there : (p : Option ℕ) → o ≡ p → NamesNoType ts f path → is_none o ≡ true
    there None e none = ap is_none e
    there (Some k) e none =
        let found = place_found (is_open_in f home last.0) 0 k ts (sym is ∙ e) in
        let t = found.1 in
        let named = and_parts (nat_eq t.name.0 last.0) (is_open f t && same_path t.«package» home) found.4 in
        let seen = and_parts (is_open f t) (same_path t.«package» home) named.1 in
        absurd (none found.0 t found.3 seen.0 (split ∙ sym (path_is (full_name t) (home ++ last ∷ []) (last_same t.«package» home t.name last ∙ and_from _ _ seen.1 named.0))))

pub empty_names_none : (ts : List KnownType) (f : File) (path : List Name) → path ≡ [] → NamesNoType ts f path
empty_names_none ts f path empty k t at open_ same = not_empty t.«package» t.name (sym empty ∙ same)
  where
    not_empty : (a : List Name) (n : Name) → [] ≡ a ++ n ∷ [] → ⊥
    not_empty [] n e = cc e
    not_empty (x ∷ a) n e = cc e

-- ---- the rules at a file

pub apart_by : (user : List SourceUnit) (u : SourceUnit) (path : List Name) (test : Bool) (r : Option Breach) → path ≡ u.«package» → ((test ≡ true) ↔ IsApart user path)
    → IsFirst (IfBroken u.node.id 14 test) r → IsFirst (BreaksOnePackage user u) r
apart_by user u path test r is tells = broken_by u.node.id 14 test (IsApart user u.«package») (BreaksOnePackage user u) (λ b. (λ h. h, λ h. h)) (subst (λ q. (test ≡ true) ↔ IsApart user q) is tells) r

pub own_by : (j : JavaNames) (lib : List SourceUnit) (u : SourceUnit) (path : List Name) (built has : Bool) (r : Option Breach) → path ≡ u.«package» → ((built ≡ true) ↔ IsBuiltInPackage j path)
    → ((has ≡ true) ↔ HasPackage lib path) → IsFirst (IfBroken u.node.id 15 (built || has)) r → IsFirst (BreaksOwnPackage j lib u) r
own_by j lib u path built has r is built_tells has_tells =
    broken_by u.node.id 15 (built || has) (IsBuiltInPackage j u.«package» ⊎ HasPackage lib u.«package») (BreaksOwnPackage j lib u) turn (either built has built_at has_at) r
  where
    built_at : (built ≡ true) ↔ IsBuiltInPackage j u.«package»
    built_at = subst (λ q. (built ≡ true) ↔ IsBuiltInPackage j q) is built_tells

    has_at : (has ≡ true) ↔ HasPackage lib u.«package»
    has_at = subst (λ q. (has ≡ true) ↔ HasPackage lib q) is has_tells

    turn : (b : Breach) → BreaksOwnPackage j lib u b ↔ (IsAt u.node.id 15 b × (IsBuiltInPackage j u.«package» ⊎ HasPackage lib u.«package»))
    turn b = (
      λ h. (h.0, elim h.1 [ inl x ↦ inl (inl x) | inr y ↦ elim y [ inl x ↦ inl (inr x) | inr x ↦ inr x ] ]),
      λ h. (h.0, elim h.1 [ inl y ↦ elim y [ inl x ↦ inl x | inr x ↦ inr (inl x) ] | inr x ↦ inr (inr x) ]),
    )

    either : (a b : Bool) → ((a ≡ true) ↔ IsBuiltInPackage j u.«package») → ((b ≡ true) ↔ HasPackage lib u.«package») → ((a || b) ≡ true) ↔ (IsBuiltInPackage j u.«package» ⊎ HasPackage lib u.«package»)
    either true b p q = (λ e. inl (p.0 refl), λ h. refl)
    either false b p q = (λ e. inr (q.0 e), λ h. elim h [ inl x ↦ absurd (true≢false (sym (p.1 x))) | inr x ↦ q.1 x ])

pub name_by : (f : File) (path : List Name) (test : Bool) (r : Option Breach) → path ≡ f.unit.«package» → ((test ≡ true) ↔ BeginsBuiltIn path) → IsFirst (IfBroken f.unit.node.id 22 test) r
    → IsFirst (BreaksPackageName f) r
name_by f path test r is tells =
    broken_by f.unit.node.id 22 test (BeginsBuiltIn f.unit.«package») (BreaksPackageName f) (λ b. (λ h. h, λ h. h)) (subst (λ q. (test ≡ true) ↔ BeginsBuiltIn q) is tells) r

pub unnamed_by : (u : SourceUnit) (test : Bool) (r : Option Breach) → ((test ≡ true) ↔ (u.«package» ≡ [])) → IsFirst (IfBroken u.node.id 20 test) r → IsFirst (BreaksNamedPackage u) r
unnamed_by u test r tells = broken_by u.node.id 20 test (u.«package» ≡ []) (BreaksNamedPackage u) (λ b. (λ h. h, λ h. h)) tells r

-- ---- the rule at an import

pub import_by : (j : JavaNames) (fs : List File) (f : File) (i : Import) (test : Bool) (r : Option Breach) → ((test ≡ true) ↔ NamesNothing (types_of j fs) j fs f i)
    → IsFirst (IfBroken i.node.id 1 test) r → IsFirst (BreaksImport j fs f i) r
import_by j fs f i test r tells = broken_by i.node.id 1 test (NamesNothing (types_of j fs) j fs f i) (BreaksImport j fs f i) (λ b. (λ h. h, λ h. h)) tells r

pub on_demand_by : (ts : List KnownType) (j : JavaNames) (fs : List File) (f : File) (i : Import) (path : List Name) (user test : Bool) → i.all ≡ true → path ≡ i.path → user ≡ f.user
    → ((test ≡ true) ↔ NamesNoPackage j fs user path) → (test ≡ true) ↔ NamesNothing ts j fs f i
on_demand_by ts j fs f i path user test all same is tells = (
  λ e. inr (all, subst (λ p. NamesNoPackage j fs f.user p) same (subst (λ u. NamesNoPackage j fs u path) is (tells.0 e))),
  λ h. elim h [
    | inl single ↦ absurd (true≢false (sym all ∙ single.0))
    | inr none ↦ tells.1 (subst (λ u. NamesNoPackage j fs u path) (sym is) (subst (λ p. NamesNoPackage j fs f.user p) (sym same) none.1))
  ],
)

pub single_by : (ts : List KnownType) (j : JavaNames) (fs : List File) (f : File) (i : Import) (path : List Name) (test : Bool) → i.all ≡ false → path ≡ i.path
    → ((test ≡ true) ↔ NamesNoType ts f path) → (test ≡ true) ↔ NamesNothing ts j fs f i
single_by ts j fs f i path test single same tells = (
  λ e. inl (single, subst (NamesNoType ts f) same (tells.0 e)),
  λ h. elim h [
    | inl none ↦ tells.1 (subst (NamesNoType ts f) (sym same) none.1)
    | inr all ↦ absurd (true≢false (sym all.0 ∙ single))
  ],
)
