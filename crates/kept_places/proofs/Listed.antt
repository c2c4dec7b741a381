-- What the checks say of one link or one chain, and which places are listed.
use Rattle.std.proofs.Common.{◌≡◌, ℕ, zero, suc, ◌+◌, ◌<◌, ◌≤◌, true, List, [], ◌∷◌, length, map, Option, Some, None, refl, sym, ap, subst, ◌∙◌, arith, get_or, eqb}
use Rattle.std.specs.Prelude.{All, Contains, slice_get, unwrap_or}
use Rattle.std.specs.Option.{option_map}
use Rattle.std.proofs.lemmas.Bool.{and_parts, eqb-true}
use Rattle.std.proofs.lemmas.List.Elements.{Contains-get_or}
use Rattle.kept_places.specs.declared.links.Link.{Link}
use Rattle.kept_places.specs.declared.links.Kept.{Kept}
use Rattle.kept_places.specs.declared.check.Chain.{Chain}
use Rattle.kept_places.specs.Kept.{IsAscending, cause}
use Rattle.kept_places.specs.Found.{before, chain_at, chain_fits, chains_fit, is_first, is_number, kept_at, kept_of, link_fits, links_behind, links_fit, told}

-- ---- lists

pub later : {X : Type 0} (x y : X) (xs : List X) → Contains xs x → Contains (y ∷ xs) x
later x y xs h = (suc h.0, omega arith, h.2)

pub contains_map : {X Y : Type 0} (f : X → Y) (xs : List X) (x : X) → Contains xs x → Contains (map f xs) (f x)
contains_map {X} {Y} f xs x h = go xs h.0 h.1 h.2
  where
    go : (xs : List X) (k : ℕ) → k < length xs → get_or xs k x ≡ x → Contains (map f xs) (f x)
    go [] k lt is = absurd (omega arith)
    go (y ∷ xs) zero lt is = subst (λ z. Contains (map f (y ∷ xs)) (f z)) is (zero, omega arith, refl)
    go (y ∷ xs) (suc k) lt is = later (f x) (f y) (map f xs) (go xs k (omega arith) is)

all_of : {X : Type 0} (P : X → Type 0) (xs : List X) → ((x : X) → Contains xs x → P x) → All P xs
all_of P xs h = λ k d lt. h (get_or xs k d) (Contains-get_or xs k d lt)

module _ (links : List Link) (found : List (Option Chain)) where
  -- ---- one link, one chain

  pub link_fit : (l : Link) → links_fit links found links ≡ true → Contains links l → link_fits links found l ≡ true
  link_fit l h in_links = go links in_links.0 h in_links.1 in_links.2
    where
      go : (ls : List Link) (k : ℕ) → links_fit links found ls ≡ true → k < length ls → get_or ls k l ≡ l → link_fits links found l ≡ true
      go [] k h lt is = absurd (omega arith)
      go (m ∷ ls) zero h lt is = subst (λ x. link_fits links found x ≡ true) is (and_parts (link_fits links found m) (links_fit links found ls) h).0
      go (m ∷ ls) (suc k) h lt is = go ls k (and_parts (link_fits links found m) (links_fit links found ls) h).1 (omega arith) is

  -- the first link of the chain of a place
  pub record First (p : ℕ) (c : Chain) : Type 0 where
    pub link : Link
    pub at : slice_get links c.first ≡ Some link
    pub from : link.from ≡ p
    pub behind : links_behind found link.to ≡ Some c.behind

  number_is : (o : Option ℕ) (n : ℕ) → is_number o n ≡ true → o ≡ Some n
  number_is None n h = absurd (cc)
  number_is (Some m) n h = ap Some (eqb-true m n h)

  first_is : (p : ℕ) (c : Chain) (o : Option Link) → slice_get links c.first ≡ o → is_first found p c o ≡ true → First p c
  first_is p c None at h = absurd (cc)
  first_is p c (Some l) at h =
      let both = and_parts (eqb l.from p) (is_number (links_behind found l.to) c.behind) h in
      record { link = l; at = at; from = eqb-true l.from p both.0; behind = number_is (links_behind found l.to) c.behind both.1 }

  pub first_fits : (p : ℕ) (c : Chain) → chain_fits links found p c ≡ true → First p c
  first_fits p c h = first_is p c (slice_get links c.first) refl h

  pub chain_fit : (cs : List (Option Chain)) (p k : ℕ) (c : Chain) → chains_fit links found p cs ≡ true → slice_get cs k ≡ Some (Some c) → First (p + k) c
  chain_fit [] p k c h is = absurd (cc)
  chain_fit (None ∷ cs) p zero c h is = absurd (cc)
  chain_fit (None ∷ cs) p (suc k) c h is = let same : (p + 1) + k ≡ p + suc k = omega arith in subst (λ n. First n c) same (chain_fit cs (p + 1) k c h is)
  chain_fit (Some d ∷ cs) p zero c h is =
      let same : d ≡ c = cc in
      let place : p ≡ p + zero = omega arith in
      subst (λ n. First n c) place (subst (First p) same (first_fits p d (and_parts (chain_fits links found p d) (chains_fit links found (p + 1) cs) h).0))
  chain_fit (Some d ∷ cs) p (suc k) c h is =
      let same : (p + 1) + k ≡ p + suc k = omega arith in
      subst (λ n. First n c) same (chain_fit cs (p + 1) k c (and_parts (chain_fits links found p d) (chains_fit links found (p + 1) cs) h).1 is)

  found_at : (o : Option (Option Chain)) (c : Chain) → unwrap_or o None ≡ Some c → o ≡ Some (Some c)
  found_at None c h = absurd (cc)
  found_at (Some o) c h = ap Some h

  pub found_get : (p : ℕ) (c : Chain) → chain_at found p ≡ Some c → slice_get found p ≡ Some (Some c)
  found_get p c h = found_at (slice_get found p) c h

  -- ---- what is listed

  before_later : (o : Option Kept) (ks : List Kept) (k : Kept) → Contains ks k → Contains (before o ks) k
  before_later None ks k h = h
  before_later (Some m) ks k h = later k m ks h

  -- the first link of a chain is told
  pub told_in : (cs : List (Option Chain)) (i : ℕ) (c : Chain) (l : Link) → slice_get cs i ≡ Some (Some c) → slice_get links c.first ≡ Some l → Contains (kept_of links cs) (told l)
  told_in [] i c l is at = absurd (cc)
  told_in (o ∷ cs) zero c l is at =
      let same : o ≡ Some c = cc in
      let now : kept_at links o ≡ Some (told l) = ap (kept_at links) same ∙ ap (option_map told) at in
      subst (λ x. Contains (before x (kept_of links cs)) (told l)) (sym now) (zero, omega arith, refl)
  told_in (o ∷ cs) (suc i) c l is at = before_later (kept_at links o) (kept_of links cs) (told l) (told_in cs i c l is at)

  -- and nothing else is
  pub record Told (cs : List (Option Chain)) (k : Kept) : Type 0 where
    pub place : ℕ
    pub chain : Chain
    pub is : slice_get cs place ≡ Some (Some chain)
    pub at : slice_get links chain.first ≡ Some (cause k)

  told_link : (l : Link) (k : Kept) → told l ≡ k → l ≡ cause k
  told_link l k h = ap cause h

  told_first : (c : Chain) (k : Kept) (o : Option Link) → slice_get links c.first ≡ o → option_map told o ≡ Some k → slice_get links c.first ≡ Some (cause k)
  told_first c k None at h = absurd (cc)
  told_first c k (Some l) at h = let same : told l ≡ k = cc in at ∙ ap Some (told_link l k same)

  told_now : (o : Option Chain) (cs : List (Option Chain)) (k : Kept) → kept_at links o ≡ Some k → Told (o ∷ cs) k
  told_now None cs k h = absurd (cc)
  told_now (Some c) cs k h = record { place = zero; chain = c; is = refl; at = told_first c k (slice_get links c.first) refl h }

  told_behind : (o : Option Chain) (cs : List (Option Chain)) (k : Kept) → Told cs k → Told (o ∷ cs) k
  told_behind o cs k t = record { place = suc t.place; chain = t.chain; is = t.is; at = t.at }

  pub told_of : (cs : List (Option Chain)) (k : Kept) → Contains (kept_of links cs) k → Told cs k
  told_of [] k h = absurd (omega (arith, h.1))
  told_of (o ∷ cs) k h = go (told_of cs k) (kept_at links o) refl h.0 h.1 h.2
    where
      go : (Contains (kept_of links cs) k → Told cs k) → (m : Option Kept) → kept_at links o ≡ m → (i : ℕ) → i < length (before m (kept_of links cs)) → get_or (before m (kept_of links cs)) i k ≡ k → Told (o ∷ cs) k
      go rest None e i lt is = told_behind o cs k (rest (i, lt, is))
      go rest (Some m) e zero lt is = told_now o cs k (e ∙ ap Some is)
      go rest (Some m) e (suc i) lt is = told_behind o cs k (rest (i, omega arith, is))

  -- a kept place of those from a number on has this number or a larger one
  place_from : (cs : List (Option Chain)) (p : ℕ) (k : Kept) → chains_fit links found p cs ≡ true → Contains (kept_of links cs) k → p ≤ k.place
  place_from cs p k h in_ks =
      let t = told_of cs k in_ks in
      let f = chain_fit cs p t.place t.chain h t.is in
      let same : f.link ≡ cause k = cc (f.at, t.at) in
      let place : f.link.from ≡ k.place = ap (λ (l : Link). l.from) same in
      omega (arith, place, f.from)

  pub ascending : (cs : List (Option Chain)) (p : ℕ) → chains_fit links found p cs ≡ true → IsAscending (kept_of links cs)
  ascending [] p h = tt
  ascending (None ∷ cs) p h = ascending cs (p + 1) h
  ascending (Some c ∷ cs) p h =
      let both = and_parts (chain_fits links found p c) (chains_fit links found (p + 1) cs) h in
      let f = first_fits p c both.0 in
      let behind : All (λ (m : Kept). f.link.from < m.place) (kept_of links cs) =
      all_of (λ (m : Kept). f.link.from < m.place) (kept_of links cs) (λ m in_ks. omega (arith, f.from, place_from cs (p + 1) m both.1 in_ks)) in
      subst (λ o. IsAscending (before (option_map told o) (kept_of links cs))) (sym f.at) (behind, ascending cs (p + 1) both.1)
