-- The entries of declarations, file by file.
use Rattle.std.proofs.Common.{◌≡◌, ℕ, ◌+◌, ◌<◌, Bool, List, [], ◌∷◌, ◌++◌, inl, inr, map, take, length, get_or, refl, sym, ap, ◌∙◌, subst, append_assoc, arith}
use Rattle.std.specs.Prelude.{slice_get}
use Rattle.std.proofs.lemmas.List.{take_more, map-append, length-map, length-append, length-take-le, length_push}
use Rattle.java_tree.specs.declared.tree.SourceUnit as code_unit
use Rattle.java_tree.specs.declared.tree.TypeDecl as code
use Rattle.java_tree.specs.Plain.{SourceUnit}
use Rattle.java_tree.specs.View.{unit_plain, decl_plain}
use Rattle.class_world.specs.declared.world.TypeInfo.{TypeInfo}
use Rattle.type_names.specs.declared.known.JavaNames.{JavaNames}
use Rattle.type_names.specs.Known.{File}
use Rattle.type_names.specs.Tables.{files_in}
use Rattle.type_names.proofs.Held.{append_none, files_more}
use Rattle.type_reach.proofs.Lists.{at_front, at_end, at_last, last_cases}
use Rattle.type_headers.specs.Declared.{Declaration, declarations, declarations_from, header, headers}
use Rattle.super_rules.specs.declared.entries.Entry.{Entry}
use Rattle.super_rules.specs.Looks.{declared_in, StandAt, IsEntry, AreEntries, HasEntries}

pub entries_none : (j : JavaNames) (fs : List File) (types : List TypeInfo) → AreEntries j fs types [] []
entries_none j fs types = record { size = refl; each = λ k e at. absurd (cc at) }

pub entries_more : (j : JavaNames) (fs : List File) (types : List TypeInfo) (es : List Entry) (xs : List Declaration) (e : Entry) (x : Declaration)
    → AreEntries j fs types es xs → IsEntry j fs types e x → AreEntries j fs types (es ++ e ∷ []) (xs ++ x ∷ [])
entries_more j fs types es xs e x h is = record {
  size = length_push es e ∙ ap (λ n. n + 1) h.size ∙ sym (length_push xs x);
  each = λ k d at. elim (last_cases es e d k at) [
    | inl old ↦ let there = h.each k d old in (there.0, at_front xs (x ∷ []) k there.0 there.1, there.2)
    | inr last ↦ (x, ap (slice_get (xs ++ x ∷ [])) (last.1 ∙ h.size) ∙ at_last xs x, subst (λ d. IsEntry j fs types d x) (sym last.0) is)
  ];
}

pub taken_next : {A B : Type 0} (v : A → B) (xs : List A) (i : ℕ) (x : A) → i < length xs → x ≡ get_or xs i x → map v (take (i + 1) xs) ≡ map v (take i xs) ++ v x ∷ []
taken_next v xs i x lt at = ap (map v) (take_more xs i x lt ∙ ap (λ y. take i xs ++ y ∷ []) (sym at)) ∙ map-append v (take i xs) (x ∷ [])

-- a declaration of the code, in the i-th file
abbrev pub declares : ℕ → File → code.TypeDecl → Declaration
declares i f d = record { file = f; number = i; decl = decl_plain d }

-- the declarations of a file, one more
pub decl_next : (j : JavaNames) (fs : List File) (types : List TypeInfo) (old new : List Entry) (xs : List Declaration) (i : ℕ) (f : File) (ds : List code.TypeDecl) (k : ℕ) (d : code.TypeDecl) (e : Entry)
    → k < length ds → d ≡ get_or ds k d → new ≡ old ++ e ∷ [] → IsEntry j fs types e (declares i f d) → AreEntries j fs types old (xs ++ map (declares i f) (take k ds))
    → AreEntries j fs types new (xs ++ map (declares i f) (take (k + 1) ds))
decl_next j fs types old new xs i f ds k d e lt at is entry so_far =
    let before = map (declares i f) (take k ds) in
    rw is (subst (AreEntries j fs types (old ++ e ∷ [])) (append_assoc xs before (declares i f d ∷ []) ∙ ap (λ l. xs ++ l) (sym (taken_next (declares i f) ds k d lt at)))
    (entries_more j fs types old (xs ++ before) e (declares i f d) so_far entry))

-- all declarations of a file
pub declared_all : (i : ℕ) (f : File) (ds : List code.TypeDecl) → f.unit.types ≡ map decl_plain ds → map (declares i f) ds ≡ declared_in i f
declared_all i f ds is = each ds ∙ ap (map (λ d. record { file = f; number = i; decl = d })) (sym is)
  where
    each : (ds : List code.TypeDecl) → map (declares i f) ds ≡ map (λ d. record { file = f; number = i; decl = d }) (map decl_plain ds)
    each [] = refl
    each (d ∷ ds) = ap (λ l. declares i f d ∷ l) (each ds)

declarations_append : (i k : ℕ) (fs gs : List File) → k ≡ i + length fs → declarations_from i (fs ++ gs) ≡ declarations_from i fs ++ declarations_from k gs
declarations_append i k [] gs e = ap (λ n. declarations_from n gs) (let same : i ≡ k = omega (arith, e) in same)
declarations_append i k (f ∷ fs) gs e =
    ap (λ l. declared_in i f ++ l) (declarations_append (i + 1) k fs gs (omega (arith, e))) ∙ sym (append_assoc (declared_in i f) (declarations_from (i + 1) fs) (declarations_from k gs))

count : (user : Bool) (us : List code_unit.SourceUnit) → length (files_in user (map unit_plain us)) ≡ length us
count user us = length-map (map unit_plain us) (λ (u : SourceUnit). (λ (f : File). f) (record { unit = u; user = user })) ∙ length-map us unit_plain

-- one more file
pub unit_next : (before n : ℕ) (user : Bool) (us : List code_unit.SourceUnit) (i : ℕ) (u : code_unit.SourceUnit) (xs : List Declaration) → i < length us → u ≡ get_or us i u → n ≡ before + i
    → (xs ++ declarations_from before (files_in user (map unit_plain (take i us)))) ++ declared_in n (record { unit = unit_plain u; user = user })
    ≡ xs ++ declarations_from before (files_in user (map unit_plain (take (i + 1) us)))
unit_next before n user us i u xs lt at is =
    let old = files_in user (map unit_plain (take i us)) in
    let f : File = record { unit = unit_plain u; user = user } in
    let size : length old ≡ i = count user (take i us) ∙ length-take-le i us (omega (arith, lt)) in
    append_assoc xs (declarations_from before old) (declared_in n f)
    ∙ ap (λ l. xs ++ l) (ap (λ l. declarations_from before old ++ l) (sym (append_none (declared_in n f))) ∙ sym (declarations_append before n old (f ∷ []) (omega (arith, is, size)))
    ∙ ap (declarations_from before) (sym (files_more user [] us i u lt at)))

-- user files, and then library files
pub both_parts : (us ls : List code_unit.SourceUnit) (user lib : Bool)
    → ([] ++ declarations_from 0 (files_in user (map unit_plain us))) ++ declarations_from (length us) (files_in lib (map unit_plain ls))
    ≡ declarations_from 0 (files_in user (map unit_plain us) ++ files_in lib (map unit_plain ls))
both_parts us ls user lib =
    let fs = files_in user (map unit_plain us) in
    sym (declarations_append 0 (length us) fs (files_in lib (map unit_plain ls)) (let size = count user us in omega (arith, size)))

pub stand_first : (fs gs : List File) → StandAt (fs ++ gs) 0 fs
stand_first fs gs k g at = ap (slice_get (fs ++ gs)) (let same : 0 + k ≡ k = omega arith in same) ∙ at_front fs gs k g at

pub stand_behind : (user : Bool) (us : List code_unit.SourceUnit) (gs : List File) → StandAt (files_in user (map unit_plain us) ++ gs) (length us) gs
stand_behind user us gs k g at =
    let fs = files_in user (map unit_plain us) in
    ap (slice_get (fs ++ gs)) (let size = count user us in let same : length us + k ≡ length fs + k = omega (arith, size) in same) ∙ at_end fs gs k ∙ at

-- all declarations have numbers of types
pub has_entries : (j : JavaNames) (fs : List File) (types built : List TypeInfo) (es given : List Entry) → given ≡ es → length built ≡ 19 → types ≡ headers built fs
    → AreEntries j fs types es (declarations fs) → HasEntries j fs types given
has_entries j fs types built es given same nineteen are h =
    let size = ap length are ∙ length-append built (map header (declarations fs)) in
    let count = length-map (declarations fs) header in
    record { entries = subst (λ es. AreEntries j fs types es (declarations fs)) (sym same) h; few = omega (arith, size, count, nineteen) }
