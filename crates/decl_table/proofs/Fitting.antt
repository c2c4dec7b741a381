-- The names of a declaration have their types in the world.
use Rattle.std.proofs.Common.{◌≡◌, ℕ, zero, suc, ◌+◌, ◌<◌, Bool, List, [], ◌∷◌, map, length, Option, Some, None, ◌⊎◌, inl, inr, refl, sym, ap, ◌∙◌, subst, arith}
use Rattle.std.specs.Prelude.{slice_get, flat_map}
use Rattle.std.specs.Option.{option_map, option_or}
use Rattle.std.proofs.lemmas.List.{length-map, length-append}
use Rattle.java_tree.specs.declared.tree.Name.{Name}
use Rattle.java_tree.specs.Plain.{TypeDecl}
use Rattle.class_world.specs.declared.world.World.{World}
use Rattle.class_world.specs.declared.world.TypeInfo.{TypeInfo}
use Rattle.type_names.specs.declared.known.JavaNames.{JavaNames}
use Rattle.type_names.specs.Known.{KnownType, File, built_in_type, numbers_below, declared_type, types_in, types_of}
use Rattle.type_names.specs.Sees.{is_imported, is_beside, is_on_demand, first_seen, meant}
use Rattle.type_headers.specs.Declared.{Declaration, declarations_from, declarations, header, headers, place_of}
use Rattle.decl_table.proofs.Wholes.{Fits, place_below}

-- each type has as many type parameters in the world
abbrev pub HaveParams : List TypeInfo → World → Type 0
HaveParams types w = (c : ℕ) (info : TypeInfo) → slice_get types c ≡ Some info → (own : TypeInfo) × (slice_get w.types c ≡ Some own) × (own.params ≡ info.params)

-- a declaration of a file
abbrev pub made : ℕ → File → TypeDecl → Declaration
made i f d = record { file = f; number = i; decl = d }

count_from : (i : ℕ) (fs : List File) → length (flat_map types_in fs) ≡ length (declarations_from i fs)
count_from i [] = refl
count_from i (f ∷ fs) =
    length-append (types_in f) (flat_map types_in fs) ∙ ap (λ n. n + length (flat_map types_in fs)) (length-map f.unit.types (declared_type f))
    ∙ ap (λ n. length f.unit.types + n) (count_from (i + 1) fs)
    ∙ sym (length-append _ (declarations_from (i + 1) fs) ∙ ap (λ n. n + length (declarations_from (i + 1) fs)) (length-map f.unit.types (made i f)))

pub count_headers : (j : JavaNames) (built : List TypeInfo) (fs : List File) → length built ≡ 19 → length (types_of j fs) ≡ length (headers built fs)
count_headers j built fs nineteen =
    let a = length-append (map (built_in_type j) (numbers_below 19)) (flat_map types_in fs) in
    let b : length (map (built_in_type j) (numbers_below 19)) ≡ 19 = length-map (numbers_below 19) (built_in_type j) in
    let c = length-append built (map header (declarations fs)) in
    let d = length-map (declarations fs) header in
    a ∙ (let e : length (map (built_in_type j) (numbers_below 19)) + length (flat_map types_in fs) ≡ length built + length (map header (declarations fs)) = omega (arith, b, d, nineteen, count_from 0 fs) in e) ∙ sym c

pub or_parts : {A : Type 0} (a b : Option A) (x : A) → option_or a b ≡ Some x → (a ≡ Some x) ⊎ (b ≡ Some x)
or_parts None b x e = inr e
or_parts (Some y) b x e = inl e

seen_low : (x : Name) (sees : KnownType → Bool) (types : List KnownType) (c : ℕ) → first_seen x sees types ≡ Some c → c < length types
seen_low x sees types c e = let low : c < 0 + length types = place_below _ 0 types c e in omega (arith, low)

meant_low : (j : JavaNames) (fs : List File) (f : File) (x : Name) (c : ℕ) → meant j fs f x ≡ Some c → c < length (types_of j fs)
meant_low j fs f x c e =
    let types = types_of j fs in
    let one = first_seen x (is_imported f) types in
    let two = first_seen x (is_beside f) types in
    let three = first_seen x (is_on_demand j f) types in
    elim (or_parts one (option_or two three) c e) [
      | inl a ↦ seen_low x (is_imported f) types c a
      | inr rest ↦ elim (or_parts two three c rest) [ inl b ↦ seen_low x (is_beside f) types c b | inr b ↦ seen_low x (is_on_demand j f) types c b ]
    ]

pub get_there : {A : Type 0} (xs : List A) (k : ℕ) → k < length xs → (x : A) × (slice_get xs k ≡ Some x)
get_there [] k lt = absurd (omega (arith, lt))
get_there (x ∷ xs) zero lt = (x, refl)
get_there (x ∷ xs) (suc k) lt = get_there xs k (omega (arith, lt))

pub place_fits : (j : JavaNames) (built : List TypeInfo) (fs : List File) (w : World) (x : Declaration) → length built ≡ 19 → HaveParams (headers built fs) w
    → Fits (place_of j fs (headers built fs) x) w (length x.decl.params)
place_fits j built fs w x nineteen same = record { known = known; vars = refl }
  where
    types : List TypeInfo
    types = headers built fs

    known : (n : Name) (c : ℕ) → meant j fs x.file n ≡ Some c
        → (info : TypeInfo) × (slice_get w.types c ≡ Some info) × (option_map (λ (i : TypeInfo). i.params) (slice_get (headers built fs) c) ≡ Some info.params)
    known n c e =
        let low = meant_low j fs x.file n c e in
        let at = get_there (headers built fs) c (subst (λ k. c < k) (count_headers j built fs nineteen) low) in
        let own = same c at.0 at.1 in
        (own.0, own.1, ap (option_map (λ (i : TypeInfo). i.params)) at.1 ∙ ap Some (sym own.2))
