-- Tables that have all that methods override.
use Rattle.std.proofs.Common.{◌≡◌, ℕ, ◌<◌, ◌≤◌, Bool, true, false, List, inl, inr, refl, subst, length}
use Rattle.std.specs.List.{Contains}
use Rattle.shared_maps.specs.Maps.{AreEntries}
use Rattle.class_world.specs.declared.world.World.{World}
use Rattle.class_world.specs.Overriding as by
use Rattle.class_world.specs.Overriding.{OverridesAtOnce, Overriding}
use Rattle.class_world.proofs.Words.{same_or_other}
use Rattle.overrides.specs.declared.links.Link.{Link}
use Rattle.overrides.specs.Tables.{Rows, Has, HasRow, value_at}
use Rattle.overrides.specs.AtOnce.{IsFree}
use Rattle.overrides.specs.Links.{AreAllLinks}
use Rattle.overrides.specs.Rounds.{HasThird, HoldsOverriding, IsClosed, IsDerived, IsFollowed}
use Rattle.overrides.proofs.Belows.{overriding_within}
use Rattle.overrides.proofs.Gains.{AtPlace, IsPass, at_places}

-- ---- chains: steps at once, whatever the methods have in common further below

data Chain (w : World) : ℕ → ℕ → Type 0 where
  step : {m k : ℕ} → OverridesAtOnce w m k → Chain w m k
  steps : {m t k : ℕ} → OverridesAtOnce w m t → Chain w t k → Chain w m k

chain_on : {w : World} {m t k : ℕ} → Chain w m t → Chain w t k → Chain w m k
chain_on (step edge) rest = steps edge rest
chain_on (steps edge more) rest = steps edge (chain_on more rest)

overriding_chain : {w : World} {m k : ℕ} → Overriding w m k → Chain w m k
overriding_chain (by.at_once edge) = step edge
overriding_chain (by.through g h other agree) = chain_on (overriding_chain g) (overriding_chain h)

-- where each row has those of the methods that are overridden at once, it has what chains lead to
module _ (w : World) (t : Rows) (whole : (m x : ℕ) → OverridesAtOnce w m x → HasRow t m x) where
  chain_has : {m k : ℕ} → Chain w m k → (m ≡ k → ⊥) → Has t m k
  chain_has (step {m = m} {k = k} edge) other = (whole m k edge).key
  chain_has (steps {m = m} {t = x} {k = k} edge more) other = elim (same_or_other x k) [
    | inl same ↦ subst (Has t m) same (whole m x edge).key
    | inr apart ↦ (whole m x edge).row k (chain_has more apart) other
  ]

  whole_has : {m k : ℕ} → Overriding w m k → Has t m k
  whole_has (by.at_once {m = m} {k = k} edge) = (whole m k edge).key
  whole_has (by.through g h other agree) = chain_has (chain_on (overriding_chain g) (overriding_chain h)) other

  pub whole_holds : IsDerived w t → HoldsOverriding w t
  whole_holds derived m k = (derived.sound m k, whole_has)

-- ---- links

-- what is so of all links is so of all pairs
pub of_pairs : (w : World) (links : List Link) (P : ℕ → ℕ → Type 0) → AreAllLinks w links → ((x : Link) → Contains links x → P x.lower x.upper) → (m u : ℕ) → OverridesAtOnce w m u → P m u
of_pairs w links P all each m u edge = let x = all.all m u edge in subst (λ i. P i u) x.2 (subst (λ j. P x.0.lower j) x.3 (each x.0 x.1))

-- a link whose thirds are all there: it is free, or it was looked at
pub link_whole : (w : World) (t : Rows) (m x : ℕ) (free : Bool) → IsDerived w t → IsFollowed w t m x → (free ≡ true → IsFree w m x) → (free ≡ false → HasRow t m x) → HasRow t m x
link_whole w t m x false derived followed is looked = looked refl
link_whole w t m x true derived followed is looked = record { key = followed.0; row = λ k has other. followed.1 k has other (is refl k (derived.sound x k has)) }

-- ---- closed tables

module _ (w : World) (t : Rows) (at_once : (m x : ℕ) → OverridesAtOnce w m x → Has t m x) (closed : (m : ℕ) → m < length w.methods → IsClosed w t m) where
  closed_has : {m k : ℕ} → Overriding w m k → Has t m k
  closed_has (by.at_once {m = m} {k = k} edge) = at_once m k edge
  closed_has (by.through {m = m} {t = x} {k = k} g h other agree) = closed m (overriding_within g).0 x (closed_has g) k (closed_has h) other agree

  pub closed_holds : IsDerived w t → HoldsOverriding w t
  closed_holds derived m k = (derived.sound m k, closed_has)

-- what is wanted of an entry of the row of m
abbrev pub HasThrough : World → ℕ → Rows → ℕ × ℕ → Type 0
HasThrough w m table p = (k : ℕ) → Has table p.0 k → HasThird w m table k

-- a pass over all entries of a row that added nothing
pub row_closed : (w : World) (start now : Rows) (added : Bool) (m : ℕ) (entries : List (ℕ × ℕ)) (i : ℕ) → AreEntries (value_at start m) entries
    → IsPass w start now added (AtPlace entries (HasThrough w m)) i → length entries ≤ i → added ≡ false → IsClosed w now m
row_closed w start now added m entries i are pass done none t has =
    let was = subst (λ (x : Rows). Has x m t) (pass.step.same none) has in
    at_places entries (HasThrough w m) now i (pass.done none) done (t, was.0) ((are.each t was.0).1 was.1)
