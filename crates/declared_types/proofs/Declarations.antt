-- The declarations of files, one behind the other.
use Rattle.std.proofs.Common.{◌≡◌, ◌+◌, ◌<◌, ℕ, Bool, List, [], ◌∷◌, ◌++◌, map, take, length, get_or, Option, sym, ap, ◌∙◌, append_assoc, arith}
use Rattle.std.specs.Prelude.{slice_get}
use Rattle.std.proofs.lemmas.List.{map-append, length-map, length-take-le}
use Rattle.java_tree.specs.declared.tree.SourceUnit as code_unit
use Rattle.java_tree.specs.declared.tree.TypeDecl as code
use Rattle.java_tree.specs.Plain.{SourceUnit}
use Rattle.java_tree.specs.View.{unit_plain, decl_plain}
use Rattle.rule_order.specs.declared.Breach.{Breach}
use Rattle.rule_order.specs.First.{Breaches}
use Rattle.rule_order.specs.Noted.{SomeOf, Adds}
use Rattle.type_names.specs.Known.{File}
use Rattle.type_names.specs.Tables.{files_in}
use Rattle.type_names.proofs.Held.{append_none, files_more, get_left}
use Rattle.type_headers.specs.Declared.{Declaration, declarations_from}
use Rattle.declared_types.specs.Looks.{declares, declared_in, StandAt}
use Rattle.declared_types.proofs.Lists.{some_one, some_next, taken}
use Rattle.declared_types.proofs.Clauses.{get_behind}

-- one more declaration of a file
pub decl_next : (F : Declaration → Breaches) (i : ℕ) (f : File) (ds : List code.TypeDecl) (k : ℕ) (d : code.TypeDecl) (a m r : Option Breach) → k < length ds → d ≡ get_or ds k d
    → Adds (SomeOf (map (declares i f) (map decl_plain (take k ds))) F) a m → Adds (F (declares i f (decl_plain d))) m r
    → Adds (SomeOf (map (declares i f) (map decl_plain (take (k + 1) ds))) F) a r
decl_next F i f ds k d a m r lt is so_far one =
    let old = map decl_plain (take k ds) in
    let x = declares i f (decl_plain d) in
    some_next F (map (declares i f) old) (x ∷ []) (map (declares i f) (map decl_plain (take (k + 1) ds))) a m r
    (ap (map (declares i f)) (taken decl_plain ds k d lt is) ∙ map-append (declares i f) old (decl_plain d ∷ [])) so_far (some_one F x m r one)

declarations_append : (i k : ℕ) (fs gs : List File) → k ≡ i + length fs → declarations_from i (fs ++ gs) ≡ declarations_from i fs ++ declarations_from k gs
declarations_append i k [] gs e = ap (λ n. declarations_from n gs) (let same : i ≡ k = omega (arith, e) in same)
declarations_append i k (f ∷ fs) gs e =
    ap (λ l. declared_in i f ++ l) (declarations_append (i + 1) k fs gs (omega (arith, e))) ∙ sym (append_assoc (declared_in i f) (declarations_from (i + 1) fs) (declarations_from k gs))

count : (user : Bool) (us : List code_unit.SourceUnit) → length (files_in user (map unit_plain us)) ≡ length us
count user us = length-map (map unit_plain us) (λ (u : SourceUnit). (λ (f : File). f) (record { unit = u; user = user })) ∙ length-map us unit_plain

-- one more file
pub unit_next : (F : Declaration → Breaches) (before n : ℕ) (user : Bool) (us : List code_unit.SourceUnit) (i : ℕ) (u : code_unit.SourceUnit) (a m r : Option Breach) → i < length us → u ≡ get_or us i u
    → n ≡ before + i → Adds (SomeOf (declarations_from before (files_in user (map unit_plain (take i us)))) F) a m → Adds (SomeOf (declared_in n (record { unit = unit_plain u; user = user })) F) m r
    → Adds (SomeOf (declarations_from before (files_in user (map unit_plain (take (i + 1) us)))) F) a r
unit_next F before n user us i u a m r lt at is so_far one =
    let old = files_in user (map unit_plain (take i us)) in
    let f : File = record { unit = unit_plain u; user = user } in
    let size : length old ≡ i = count user (take i us) ∙ length-take-le i us (omega (arith, lt)) in
    some_next F (declarations_from before old) (declared_in n f) _ a m r
    (ap (declarations_from before) (files_more user [] us i u lt at) ∙ declarations_append before n old (f ∷ []) (omega (arith, is, size))
    ∙ ap (λ l. declarations_from before old ++ l) (append_none (declared_in n f))) so_far one

-- user files, and then library files
pub both_parts : (F : Declaration → Breaches) (us ls : List code_unit.SourceUnit) (user lib : Bool) (a m r : Option Breach)
    → Adds (SomeOf (declarations_from 0 (files_in user (map unit_plain us))) F) a m → Adds (SomeOf (declarations_from (length us) (files_in lib (map unit_plain ls))) F) m r
    → Adds (SomeOf (declarations_from 0 (files_in user (map unit_plain us) ++ files_in lib (map unit_plain ls))) F) a r
both_parts F us ls user lib a m r f g =
    let fs = files_in user (map unit_plain us) in
    let gs = files_in lib (map unit_plain ls) in
    some_next F (declarations_from 0 fs) (declarations_from (length us) gs) _ a m r
    (declarations_append 0 (length us) fs gs (let size = count user us in omega (arith, size))) f g

pub stand_first : (fs gs : List File) → StandAt (fs ++ gs) 0 fs
stand_first fs gs k g at = ap (slice_get (fs ++ gs)) (let same : 0 + k ≡ k = omega arith in same) ∙ get_left fs gs k g at

pub stand_behind : (user : Bool) (us : List code_unit.SourceUnit) (gs : List File) → StandAt (files_in user (map unit_plain us) ++ gs) (length us) gs
stand_behind user us gs k g at = get_behind (files_in user (map unit_plain us)) gs (length us + k) k g (let size = count user us in omega (arith, size)) at
