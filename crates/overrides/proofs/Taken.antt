-- Rows that were taken over, while the table grows.
use Rattle.std.proofs.Common.{◌≡◌, ℕ, zero, suc, ◌<◌, List, Option, Some, None, ◌⊎◌, inl, inr, refl, sym, ap, ◌∙◌, subst, length, arith}
use Rattle.std.specs.Prelude.{slice_get, slice_set, replicate}
use Rattle.std.proofs.lemmas.Option.{slice_get_within}
use Rattle.shared_maps.specs.declared.Map.{Map}
use Rattle.shared_maps.specs.Maps.{IsMap, KeepsMaps, value_in}
use Rattle.class_world.specs.declared.world.World.{World}
use Rattle.class_world.proofs.Words.{set_here, set_there, same_or_other, length_set}
use Rattle.overrides.specs.declared.links.Link.{Link}
use Rattle.overrides.specs.Tables.{Rows, value_at}
use Rattle.overrides.specs.Rounds.{Grows, IsFollowed, IsJoined, IsTaken, AreTaken}

pub taken_on : (w : World) (old new : Rows) (m t : ℕ) (map : Map) → IsTaken w old m t map → Grows old new → KeepsMaps old.maps new.maps → IsTaken w new m t map
taken_on w old new m t map h grows kept = record {
  known = kept.map map h.known;
  has = grows m t h.has;
  all = λ k v is other agree. grows m k (h.all k v (sym (kept.value map h.known k) ∙ is) other agree);
}

module _ (w : World) (table : Rows) (m t : ℕ) (map : Map) (value : (k : ℕ) → value_in table.maps map k ≡ value_at table t k) where
  pub joined_taken : (new : Rows) → IsMap table.maps map → KeepsMaps table.maps new.maps → IsJoined w table new m t → IsTaken w new m t map
  joined_taken new is kept h = record {
    known = kept.map map is;
    has = h.has;
    all = λ k v has other agree. h.all k (v, sym (value k) ∙ sym (kept.value map is k) ∙ has) other agree;
  }

  pub taken_followed : IsTaken w table m t map → IsFollowed w table m t
  taken_followed h = (h.has, λ k has other agree. h.all k has.0 (value k ∙ has.1) other agree)

-- at first nothing stands beside the links

abbrev pub none_taken : ℕ → List (Option Map)
none_taken n = replicate n None

none_at : (n i : ℕ) (o : Option Map) → slice_get (none_taken n) i ≡ Some o → o ≡ None
none_at zero i o e = absurd (cc e)
none_at (suc n) zero o e = let first : None ≡ o = cc e in sym first
none_at (suc n) (suc i) o e = none_at n i o e

pub none_length : (n : ℕ) → length (none_taken n) ≡ n
none_length zero = refl
none_length (suc n) = ap suc (none_length n)

pub taken_begins : (w : World) (table : Rows) (links : List Link) (n : ℕ) → AreTaken w table links (none_taken n)
taken_begins w table links n i x o at is map e = let none = none_at n i o is in absurd (cc (none, e))

-- the row of a link's upper method is set beside the link
pub taken_next : (w : World) (links : List Link) (taken : List (Option Map)) (old new : Rows) (i : ℕ) (x : Link) (row : Map) → AreTaken w old links taken → Grows old new → KeepsMaps old.maps new.maps
    → slice_get links i ≡ Some x → IsTaken w new x.lower x.upper row → AreTaken w new links (slice_set taken i (Some row))
taken_next w links taken old new i x row before grows kept at here j y o at_j is_o map e = by (same_or_other i j)
  where
    by : (i ≡ j) ⊎ (i ≡ j → ⊥) → IsTaken w new y.lower y.upper map
    by (inl same) =
        let one : Some x ≡ Some y = sym at ∙ ap (slice_get links) same ∙ at_j in
        let alike : x ≡ y = cc one in
        let lt : i < length taken = omega (arith, same, slice_get_within (slice_set taken i (Some row)) j o is_o, length_set taken i (Some row)) in
        let put : Some (Some row) ≡ Some o = sym (set_here taken i (Some row) lt) ∙ ap (slice_get (slice_set taken i (Some row))) same ∙ is_o in
        let told : Some row ≡ o = cc put in
        let both : Some row ≡ Some map = told ∙ e in
        let is : row ≡ map = cc both in
        subst (λ (z : Link). IsTaken w new z.lower z.upper map) alike (subst (IsTaken w new x.lower x.upper) is here)
    by (inr other) = taken_on w old new y.lower y.upper map (before j y o at_j (sym (set_there taken i j (Some row) other) ∙ is_o) map e) grows kept
