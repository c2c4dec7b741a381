-- What the built-in types declare.
use Rattle.std.proofs.Common.{◌≡◌, ℕ, zero, suc, ◌+◌, ◌<◌, Bool, true, List, [], ◌∷◌, length, Option, Some, None, refl, sym, ap, subst, arith}
use Rattle.std.specs.Prelude.{slice_get, nat_lt, ◌&&◌}
use Rattle.std.proofs.lemmas.Bool.Decides.{nat_tests}
use Rattle.class_world.specs.declared.world.TypeInfo.{TypeInfo}
use Rattle.class_world.specs.declared.world.JavaType.{JavaType}
use Rattle.class_world.specs.declared.world.JavaType.TheVariants as ty
use Rattle.decl_table.specs.Bases.{IsBase, AreBases}
use Rattle.built_in_types.specs.declared.words.Words.{Words}
use Rattle.built_in_types.specs.BuiltIns.{type_info, types_from, superclasses, built_in_types}
use Rattle.decl_table.proofs.Facts.{both}

is_low : ℕ → Option ℕ → Bool
is_low c None = true
is_low c (Some p) = nat_lt p c

are_low : ℕ → List (Option ℕ) → Bool
are_low c [] = true
are_low c (above ∷ rest) = is_low c above && are_low (c + 1) rest

base_at : (w : Words) (c : ℕ) (above : Option ℕ) → is_low c above ≡ true → IsBase c (type_info w c above)
unfolding is_low
base_at w c None low = (refl, λ k d e. absurd (cc e))
base_at w c (Some p) low = (refl, at)
  where
    at : (k : ℕ) (d : JavaType) → slice_get (ty.Class p [] ∷ []) k ≡ Some d → (q : ℕ) × (q < c) × (d ≡ ty.Class q [])
    at zero d e = (p, grind (arith, nat_tests, low), sym (cc e))
    at (suc k) d e = absurd (cc e)

from_low : (w : Words) (k : ℕ) (sups : List (Option ℕ)) → are_low k sups ≡ true → (c : ℕ) (info : TypeInfo) → slice_get (types_from w k sups) c ≡ Some info → IsBase (k + c) info
unfolding are_low
from_low w k [] low c info e = absurd (cc e)
from_low w k (above ∷ rest) low zero info e =
    let h = both (is_low k above) (are_low (k + 1) rest) low in
    subst (λ n. IsBase n info) (let e : k ≡ k + 0 = omega arith in e) (subst (IsBase k) (same e) (base_at w k above h.0))
  where
    same : Some (type_info w k above) ≡ Some info → type_info w k above ≡ info
    same e = cc e
from_low w k (above ∷ rest) low (suc c) info e =
    let h = both (is_low k above) (are_low (k + 1) rest) low in
    subst (λ n. IsBase n info) (let e : (k + 1) + c ≡ k + suc c = omega arith in e) (from_low w (k + 1) rest h.1 c info e)

types_count : (w : Words) (k : ℕ) (sups : List (Option ℕ)) → length (types_from w k sups) ≡ length sups
types_count w k [] = refl
types_count w k (above ∷ rest) = ap suc (types_count w (k + 1) rest)

pub built_in_bases : (w : Words) → AreBases (built_in_types w)
unfolding is_low are_low
built_in_bases w = record {
  count = types_count w 0 superclasses;
  each = λ c info e. subst (λ n. IsBase n info) (let e : 0 + c ≡ c = omega arith in e) (from_low w 0 superclasses refl c info e);
}
