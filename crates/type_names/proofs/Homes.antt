-- The packages and the types of the files of a program.
use Rattle.std.proofs.Common.{◌≡◌, Bool, true, false, List, [], ◌∷◌, ◌++◌, map, flat_map, refl, sym, ap, ◌∙◌, append_assoc}
use Rattle.std.proofs.lemmas.List.{map-append}
use Rattle.std.proofs.lemmas.Grind.{flat_map-append}
use Rattle.java_tree.specs.declared.tree.Name.{Name}
use Rattle.java_tree.specs.declared.tree.SourceUnit as declared
use Rattle.java_tree.specs.Plain.{SourceUnit}
use Rattle.java_tree.specs.View.{unit_plain}
use Rattle.type_names.specs.declared.known.JavaNames.{JavaNames}
use Rattle.type_names.specs.declared.known.Known as code
use Rattle.type_names.specs.Known.{KnownType, File, files_of, types_in, types_of, lang_package, io_package, numbers_below, built_in_type}
use Rattle.type_names.specs.Tables.{packages, brief, files_in}

homes_map : (user : Bool) (us : List declared.SourceUnit) → map (λ (f : File). f.unit.«package») (files_in user (map unit_plain us)) ≡ map (λ (u : declared.SourceUnit). u.«package») us
homes_map user [] = refl
homes_map user (u ∷ us) = ap (λ ps. u.«package» ∷ ps) (homes_map user us)

pub plain_homes : (us : List declared.SourceUnit) → map (λ (u : declared.SourceUnit). u.«package») us ≡ map (λ (u : SourceUnit). u.«package») (map unit_plain us)
plain_homes [] = refl
plain_homes (u ∷ us) = ap (λ ps. u.«package» ∷ ps) (plain_homes us)

pub packages_made : (j : JavaNames) (us ls : List declared.SourceUnit) (a b : List Name) (p q r s : List (List Name))
    → a ≡ lang_package j → b ≡ io_package j → p ≡ a ∷ [] → q ≡ p ++ b ∷ [] → r ≡ q ++ map (λ u. u.«package») us → s ≡ r ++ map (λ u. u.«package») ls
    → s ≡ packages j (files_of (map unit_plain us) (map unit_plain ls))
packages_made j us ls a b p q r s ea eb ep eq er es =
    es ∙ ap (λ x. x ++ map (λ u. u.«package») ls) (er ∙ ap (λ x. x ++ map (λ u. u.«package») us) (eq ∙ ap (λ x. x ++ b ∷ []) ep))
    ∙ ap (λ x. x ∷ b ∷ (map (λ u. u.«package») us ++ map (λ u. u.«package») ls)) ea
    ∙ ap (λ x. lang_package j ∷ x ∷ (map (λ u. u.«package») us ++ map (λ u. u.«package») ls)) eb
    ∙ ap (λ x. lang_package j ∷ io_package j ∷ x)
    (ap (λ x. x ++ map (λ u. u.«package») ls) (sym (homes_map true us)) ∙ ap (λ x. map (λ (f : File). f.unit.«package») (files_in true (map unit_plain us)) ++ x) (sym (homes_map false ls))
    ∙ sym (map-append (λ (f : File). f.unit.«package») (files_in true (map unit_plain us)) (files_in false (map unit_plain ls))))

-- the types of the units from one on
pub types_more : (ps : List (List Name)) (user : Bool) (us : List declared.SourceUnit) (u : declared.SourceUnit)
    → map (brief ps) (flat_map types_in (files_in user (map unit_plain (us ++ u ∷ []))))
    ≡ map (brief ps) (flat_map types_in (files_in user (map unit_plain us))) ++ map (brief ps) (types_in (record { unit = unit_plain u; user = user }))
types_more ps user [] u = ap (map (brief ps)) (append_none (types_in (record { unit = unit_plain u; user = user })))
  where
    append_none : (xs : List KnownType) → xs ++ [] ≡ xs
    append_none [] = refl
    append_none (x ∷ xs) = ap (λ ys. x ∷ ys) (append_none xs)
types_more ps user (v ∷ us) u =
    let file : File = record { unit = unit_plain v; user = user } in
    map-append (brief ps) (types_in file) (flat_map types_in (files_in user (map unit_plain (us ++ u ∷ []))))
    ∙ ap (λ x. map (brief ps) (types_in file) ++ x) (types_more ps user us u)
    ∙ sym (append_assoc (map (brief ps) (types_in file)) (map (brief ps) (flat_map types_in (files_in user (map unit_plain us)))) (map (brief ps) (types_in (record { unit = unit_plain u; user = user }))))
    ∙ ap (λ x. x ++ map (brief ps) (types_in (record { unit = unit_plain u; user = user }))) (sym (map-append (brief ps) (types_in file) (flat_map types_in (files_in user (map unit_plain us)))))

pub types_made : (j : JavaNames) (ps : List (List Name)) (us ls : List declared.SourceUnit) (p q r : List code.Known)
    → p ≡ map (brief ps) (map (built_in_type j) (numbers_below 19)) → q ≡ p ++ map (brief ps) (flat_map types_in (files_in true (map unit_plain us)))
    → r ≡ q ++ map (brief ps) (flat_map types_in (files_in false (map unit_plain ls))) → r ≡ map (brief ps) (types_of j (files_of (map unit_plain us) (map unit_plain ls)))
types_made j ps us ls p q r ep eq er =
    er ∙ ap (λ x. x ++ map (brief ps) (flat_map types_in lib)) (eq ∙ ap (λ x. x ++ map (brief ps) (flat_map types_in user)) ep)
    ∙ append_assoc (map (brief ps) built_in) (map (brief ps) (flat_map types_in user)) (map (brief ps) (flat_map types_in lib))
    ∙ ap (λ x. map (brief ps) built_in ++ x) (sym (map-append (brief ps) (flat_map types_in user) (flat_map types_in lib)) ∙ ap (map (brief ps)) (sym (flat_map-append types_in user lib)))
    ∙ sym (map-append (brief ps) built_in (flat_map types_in (user ++ lib)))
  where
    user : List File
    user = files_in true (map unit_plain us)

    lib : List File
    lib = files_in false (map unit_plain ls)

    built_in : List KnownType
    built_in = map (built_in_type j) (numbers_below 19)
