-- Places behind a text's end, and the names of places.
use Rattle.std.proofs.Common.{◌≡◌, ℕ, zero, suc, ◌+◌, ◌≤◌, min, inl, inr, Bool, true, false, cond, List, [], ◌∷◌, map, length, Option, Some, None, slice_get, refl, sym, ◌∙◌, ap, arith, codes}
use Rattle.std.specs.Option.{option_map}
use Rattle.std.specs.String.{string_bytes}
use Rattle.std.specs.declared.string.String.{String}
use Rattle.std.specs.declared.alloc.Global.{Global}
use Rattle.std.proofs.lemmas.Bool.{cases_lt}
use Rattle.std.proofs.lemmas.Option.{slice_get-map}
use Rattle.edit_writer.specs.Places.{place_from, place_at}
use Rattle.node_places.specs.declared.place.NodePlace.{NodePlace}
use Rattle.report_text.specs.Report.{place_text}
use Rattle.refactor_app.specs.Words.{Files, inputs}
use Rattle.refactor_app.specs.Declarations.{place_in, place_name}

behind : (l c : ℕ) (bs : List ℕ) (p : ℕ) → length bs ≤ p → place_from l c bs (length bs) ≡ place_from l c bs p
behind l c [] zero h = refl
behind l c [] (suc p) h = refl
behind l c (b ∷ bs) zero h = absurd (omega (arith, h))
behind l c (b ∷ bs) (suc p) h = by_test _ (behind (l + 1) 1 bs p (omega (arith, h))) (behind l (c + 1) bs p (omega (arith, h)))
  where
    by_test : (t : Bool) → place_from (l + 1) 1 bs (length bs) ≡ place_from (l + 1) 1 bs p → place_from l (c + 1) bs (length bs) ≡ place_from l (c + 1) bs p
        → cond t (place_from (l + 1) 1 bs (length bs)) (place_from l (c + 1) bs (length bs)) ≡ cond t (place_from (l + 1) 1 bs p) (place_from l (c + 1) bs p)
    by_test true e f = e
    by_test false e f = f

-- the place of the text's end is that of each offset behind it
pub place_behind : (text : List ℕ) (at : ℕ) → length text ≤ at → place_at text (length text) ≡ place_at text at
place_behind text at h = behind 1 1 text at h

pub place_min : (text : List ℕ) (at : ℕ) → place_at text (min (length text) at) ≡ place_at text at
place_min text at = elim (cases_lt at (length text)) [
  | inl low ↦ let same : min (length text) at ≡ at = omega arith in ap (λ (k : ℕ). place_at text k) same
  | inr high ↦ let same : min (length text) at ≡ length text = omega arith in ap (λ (k : ℕ). place_at text k) same ∙ place_behind text at high
]

-- ---- the name of a place

module _ (fs : Files) (texts : List (List ℕ)) (names : List (String Global)) (are : inputs fs ≡ map string_bytes names) (p : NodePlace) where
  name_is : slice_get (inputs fs) p.file ≡ option_map string_bytes (slice_get names p.file)
  name_is = ap (λ (ns : List (List ℕ)). slice_get ns p.file) are ∙ slice_get-map string_bytes names p.file

  pub there : (name : String Global) (text : List ℕ) → Some name ≡ slice_get names p.file → Some text ≡ slice_get texts p.file
      → place_text (string_bytes name) (place_at text p.at) ≡ place_name fs texts (Some p)
  there name text e f =
      let name_at : slice_get (inputs fs) p.file ≡ Some (string_bytes name) = name_is ∙ ap (λ (o : Option (String Global)). option_map string_bytes o) (sym e) in
      rw (name_at, ← f) refl

  pub no_name : None ≡ slice_get names p.file → codes "-" ≡ place_name fs texts (Some p)
  no_name e =
      let none : slice_get (inputs fs) p.file ≡ None = name_is ∙ ap (λ (o : Option (String Global)). option_map string_bytes o) (sym e) in
      rw none refl

  pub no_text : None ≡ slice_get texts p.file → codes "-" ≡ place_name fs texts (Some p)
  no_text f = by_name (slice_get (inputs fs) p.file)
    where
      by_name : (o : Option (List ℕ)) → codes "-" ≡ place_in o (slice_get texts p.file) p.at
      by_name None = refl
      by_name (Some name) = rw (← f) refl
