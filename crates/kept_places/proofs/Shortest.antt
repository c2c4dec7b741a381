-- What was found and checked is what is kept.
use Rattle.std.proofs.Common.{◌≡◌, ℕ, zero, suc, ◌+◌, ◌≤◌, Bool, true, false, ◌&&◌, ◌||◌, List, [], ◌∷◌, length, map, Option, Some, None, Result, Ok, Err, inl, inr, ltb, eqb, refl, sym, ap, subst, ◌∙◌, arith}
use Rattle.std.specs.Prelude.{◌⊎◌, Contains, IfOk, IsTrue, slice_get, unwrap_or}
use Rattle.std.proofs.lemmas.Bool.{and_parts, eqb-true, ltb-true}
use Rattle.kept_places.specs.declared.links.Link.{Link}
use Rattle.kept_places.specs.declared.links.Kept.{Kept}
use Rattle.kept_places.specs.declared.check.Chain.{Chain}
use Rattle.kept_places.specs.Kept.{AreKept, HasChain, IsAllowed, IsCaused, IsChain, IsClosed, IsFrom, IsListed, IsShortest, LeadsInto, cause, is_not_after}
use Rattle.kept_places.specs.Found.{behind_place, chain_at, chains_fit, fits, is_first_not_after, is_known_not_after, kept_of, links_behind, links_fit, told}
use Rattle.kept_places.proofs.Listed.{First, ascending, chain_fit, contains_map, found_get, link_fit, told_in, told_of}

-- a place from which a chain leads is in no closed set
chain_leaves : (links : List Link) (s : ℕ → Bool) → IsClosed links s → (o : Option ℕ) (ls : List Link) → IsChain links o ls → LeadsInto o s → ⊥
chain_leaves links s closed None [] h m = m
chain_leaves links s closed None (l ∷ ls) h m = absurd h
chain_leaves links s closed (Some p) [] h m = absurd h
chain_leaves links s closed (Some p) (l ∷ ls) h m = chain_leaves links s closed l.to ls h.2 (closed l h.0 (subst (λ x. IsTrue (s x)) (sym h.1) m))

pub not_allowed : (links : List Link) (p : ℕ) → HasChain links p → IsAllowed links p → ⊥
not_allowed links p h a = chain_leaves links a.0 a.1 (Some p) h.0 h.1 a.2

from_of : (links : List Link) (p : ℕ) (ls : List Link) → IsChain links (Some p) ls → IsFrom links p
from_of links p [] h = absurd h
from_of links p (l ∷ ls) h = (l, h.0, h.1)

abbrev is_unknown : Option Chain → Bool
is_unknown None = true
is_unknown (Some c) = false

module _ (links : List Link) (found : List (Option Chain)) (links_ok : links_fit links found links ≡ true) (chains_ok : chains_fit links found 0 found ≡ true) where
  abbrev ks : List Kept
  ks = kept_of links found

  first_at : (p : ℕ) (c : Chain) → chain_at found p ≡ Some c → First links found p c
  first_at p c h = let same : 0 + p ≡ p = omega arith in subst (λ n. First links found n c) same (chain_fit links found found 0 p c chains_ok (found_get links found p c h))

  -- ---- no chain is shorter

  -- the chain of a place from which a link begins a chain
  record Knows (o : Option Chain) (n : ℕ) (l : Link) : Type 0 where
    pub chain : Chain
    pub is : o ≡ Some chain
    pub le : chain.behind ≤ n
    pub same : chain.behind ≡ n → is_first_not_after links chain l ≡ true

  knows : (o : Option Chain) (b : Option ℕ) (n : ℕ) (l : Link) → fits links l o b ≡ true → b ≡ Some n → Knows o n l
  knows o None n l h e = absurd (cc)
  knows None (Some m) n l h e = absurd (cc)
  knows (Some c) (Some m) n l h e = let same : m ≡ n = cc in subst (λ k. Knows (Some c) k l) same (go (ltb c.behind m) refl h)
    where
      go : (b : Bool) → ltb c.behind m ≡ b → (b || (eqb c.behind m && is_first_not_after links c l)) ≡ true → Knows (Some c) m l
      go true e h = let lt = ltb-true c.behind m e in record { chain = c; is = refl; le = omega (arith, lt); same = λ s. absurd (omega (arith, lt, s)) }
      go false e h =
          let both = and_parts (eqb c.behind m) (is_first_not_after links c l) h in
          let s = eqb-true c.behind m both.0 in
          record { chain = c; is = refl; le = omega (arith, s); same = λ _. both.1 }

  knows_link : (l : Link) (n : ℕ) → Contains links l → links_behind found l.to ≡ Some n → Knows (chain_at found l.from) n l
  knows_link l n in_links e = knows (chain_at found l.from) (links_behind found l.to) n l (link_fit links found l links_ok in_links) e

  lower : (o : Option ℕ) (ls : List Link) → IsChain links o ls → (n : ℕ) × (links_behind found o ≡ Some n) × (n ≤ length ls)
  lower None [] h = (0, refl, omega arith)
  lower None (l ∷ ls) h = absurd h
  lower (Some p) [] h = absurd h
  lower (Some p) (l ∷ ls) h =
      let rest = lower l.to ls h.2 in
      let k = knows_link l rest.0 h.0 rest.1 in
      let le : k.chain.behind ≤ length ls = omega (arith, k.le, rest.2) in
      (k.chain.behind + 1, ap behind_place (ap (chain_at found) (sym h.1) ∙ k.is), omega (arith, le))

  -- ---- the chain of a place

  pub record Reached (p : ℕ) (c : Chain) : Type 0 where
    pub first : First links found p c
    pub rest : List Link
    pub causes : IsChain (map cause ks) first.link.to rest
    pub chain : IsChain links (Some p) (first.link ∷ rest)
    pub size : length rest ≡ c.behind

  in_links : (p : ℕ) (c : Chain) (f : First links found p c) → Contains links f.link
  in_links p c f = go links c.first f.at
    where
      go : (ls : List Link) (k : ℕ) → slice_get ls k ≡ Some f.link → Contains ls f.link
      go [] k h = absurd (cc)
      go (m ∷ ls) zero h = (zero, omega arith, (let e : m ≡ f.link = cc in e))
      go (m ∷ ls) (suc k) h = let r = go ls k h in (suc r.0, omega (arith, r.1), r.2)

  told_cause : (p : ℕ) (c : Chain) (f : First links found p c) → chain_at found p ≡ Some c → Contains (map cause ks) f.link
  told_cause p c f e = contains_map cause ks (told f.link) (told_in links found found p c f.link (found_get links found p c e) f.at)

  place_known : (o : Option Chain) (n : ℕ) → behind_place o ≡ Some n → (c : Chain) × (o ≡ Some c) × (c.behind + 1 ≡ n)
  place_known None n h = absurd (cc)
  place_known (Some c) n h = let e : c.behind + 1 ≡ n = cc in (c, refl, e)

  -- a chain is as long as is told: n links stand behind the first
  reached : (n p : ℕ) (c : Chain) (o : Option ℕ) (f : First links found p c) → f.link.to ≡ o → c.behind ≡ n → Reached p c
  reached n p c None f to size =
      let e : Some 0 ≡ Some c.behind = ap (links_behind found) (sym to) ∙ f.behind in
      let none : 0 ≡ c.behind = cc in
      record {
        first = f;
        rest = [];
        causes = subst (λ o. IsChain (map cause ks) o []) (sym to) tt;
        chain = (in_links p c f, f.from, subst (λ o. IsChain links o []) (sym to) tt);
        size = none;
      }
  reached zero p c (Some q) f to size =
      let k = place_known (chain_at found q) c.behind (ap (links_behind found) (sym to) ∙ f.behind) in
      absurd (omega (arith, k.2, size))
  reached (suc n) p c (Some q) f to size =
      let k = place_known (chain_at found q) c.behind (ap (links_behind found) (sym to) ∙ f.behind) in
      let g = first_at q k.0 k.1 in
      let r = reached n q k.0 g.link.to g refl (omega (arith, k.2, size)) in
      let rest = r.first.link ∷ r.rest in
      record {
        first = f;
        rest = rest;
        causes = subst (λ o. IsChain (map cause ks) o rest) (sym to) (told_cause q k.0 r.first k.1, r.first.from, r.causes);
        chain = (in_links p c f, f.from, subst (λ o. IsChain links o rest) (sym to) r.chain);
        size = omega (arith, r.size, k.2);
      }

  reached_at : (p : ℕ) (c : Chain) → chain_at found p ≡ Some c → Reached p c
  reached_at p c e = let f = first_at p c e in reached c.behind p c f.link.to f refl refl

  -- ---- kept places

  -- a kept place and its chain
  record Entry (k : Kept) : Type 0 where
    pub chain : Chain
    pub is : chain_at found k.place ≡ Some chain
    pub at : slice_get links chain.first ≡ Some (cause k)

  entry : (k : Kept) → Contains ks k → Entry k
  entry k in_ks =
      let t = told_of links found found k in_ks in
      let f = chain_fit links found found 0 t.place t.chain chains_ok t.is in
      let same : f.link ≡ cause k = cc (f.at, t.at) in
      let place : f.link.from ≡ k.place = ap (λ (l : Link). l.from) same in
      let here : t.place ≡ k.place = omega (arith, place, f.from) in
      record { chain = t.chain; is = ap (chain_at found) (sym here) ∙ ap (λ o. unwrap_or o None) t.is; at = t.at }

  listed : (p : ℕ) (c : Chain) → chain_at found p ≡ Some c → IsListed ks p
  listed p c e = let f = first_at p c e in (told f.link, told_in links found found p c f.link (found_get links found p c e) f.at, f.from)

  has_chain : (p : ℕ) → IsListed ks p → HasChain links p
  has_chain p h =
      let t = entry h.0 h.1 in
      let r = reached_at h.0.place t.chain t.is in
      subst (HasChain links) h.2 (r.first.link ∷ r.rest, r.chain)

  chain_listed : (p : ℕ) → HasChain links p → IsListed ks p
  chain_listed p h =
      let n = lower (Some p) h.0 h.1 in
      let k = place_known (chain_at found p) n.0 n.1 in
      listed p k.0 k.1

  -- ---- places that are not kept

  no_behind : (o : Option Chain) (b : Option ℕ) (l : Link) → fits links l o b ≡ true → is_unknown o ≡ true → b ≡ None
  no_behind o None l h e = refl
  no_behind None (Some n) l h e = absurd (cc)
  no_behind (Some c) (Some n) l h e = absurd (cc)

  unknown : (o : Option Chain) → behind_place o ≡ None → is_unknown o ≡ true
  unknown None h = refl
  unknown (Some c) h = absurd (cc)

  leads_into : (o : Option ℕ) → links_behind found o ≡ None → LeadsInto o (λ p. is_unknown (chain_at found p))
  leads_into None h = absurd (cc)
  leads_into (Some p) h = unknown (chain_at found p) h

  closed : IsClosed links (λ p. is_unknown (chain_at found p))
  closed = λ l in_links m. leads_into l.to (no_behind (chain_at found l.from) (links_behind found l.to) l (link_fit links found l links_ok in_links) m)

  kept_or_allowed : (p : ℕ) (o : Option Chain) → chain_at found p ≡ o → IsListed ks p ⊎ IsAllowed links p
  kept_or_allowed p None e = inr ((λ p. is_unknown (chain_at found p)), closed, ap is_unknown e)
  kept_or_allowed p (Some c) e = inl (listed p c e)

  -- ---- causes

  first_shortest : (k : Kept) (t : Entry k) (r : Reached k.place t.chain) → r.first.link ≡ cause k
  first_shortest k t r = cc (r.first.at, t.at)

  shortest_of : (k : Kept) (t : Entry k) (r : Reached k.place t.chain) → IsShortest links k.place (cause k ∷ r.rest)
  shortest_of k t r = (
    subst (λ l. IsChain links (Some k.place) (l ∷ r.rest)) (first_shortest k t r) r.chain,
    λ ms h.
        let n = lower (Some k.place) ms h in
        let b = place_known (chain_at found k.place) n.0 n.1 in
        let same : b.0 ≡ t.chain = cc (b.1, t.is) in
        let size : b.0.behind ≡ t.chain.behind = ap (λ (c : Chain). c.behind) same in
        omega (arith, n.2, b.2, size, r.size),
  )

  least_of : (k : Kept) (t : Entry k) (r : Reached k.place t.chain) (l : Link) (ls : List Link) → IsShortest links k.place (l ∷ ls) → is_not_after (cause k) l ≡ true
  least_of k t r l ls h =
      let n = lower l.to ls h.0.2 in
      let w = knows_link l n.0 h.0.0 n.1 in
      let here : chain_at found l.from ≡ Some t.chain = ap (chain_at found) h.0.1 ∙ t.is in
      let same : w.chain ≡ t.chain = cc (w.is, here) in
      let size : w.chain.behind ≡ t.chain.behind = ap (λ (c : Chain). c.behind) same in
      let short : length ls ≤ length r.rest = omega (arith, h.1 (cause k ∷ r.rest) (shortest_of k t r).0) in
      let first = w.same (omega (arith, w.le, n.2, short, r.size, size)) in
      sym (ap (λ o. is_known_not_after o l) (ap (λ (c : Chain). slice_get links c.first) same ∙ t.at)) ∙ first

  caused : (k : Kept) → Contains ks k → IsCaused links ks k
  caused k in_ks =
      let t = entry k in_ks in
      let r = reached_at k.place t.chain t.is in
      let causes = subst (λ (l : Link). IsChain (map cause ks) l.to r.rest) (first_shortest k t r) r.causes in
      record { shortest = (r.rest, causes, shortest_of k t r); least = least_of k t r }

  kept_of_chain : (p : ℕ) → IsListed ks p → IsFrom links p × (IsAllowed links p → ⊥)
  kept_of_chain p h = let w = has_chain p h in (from_of links p w.0 w.1, not_allowed links p w)

  decided : {A B C : Type 0} → A ⊎ B → (B → C) → (A → C) → C
  decided (inl a) f g = g a
  decided (inr b) f g = f b

  pub are_kept : AreKept links ks
  are_kept = record {
    ascending = ascending links found found 0 chains_ok;
    kept = λ p. (kept_of_chain p, λ h. decided (kept_or_allowed p (chain_at found p) refl) (λ a. absurd (h.1 a)) (λ it. it));
    allowed = λ p no. decided (kept_or_allowed p (chain_at found p) refl) (λ a. a) (λ it. absurd (no it));
    chained = λ p. (has_chain p, chain_listed p);
    caused = caused;
  }

-- what passes both checks is kept
pub all_kept : (links : List Link) (found : List (Option Chain)) → (links_fit links found links && chains_fit links found 0 found) ≡ true → AreKept links (kept_of links found)
all_kept links found h = let both = and_parts (links_fit links found links) (chains_fit links found 0 found) h in are_kept links found both.0 both.1

pub ok_kept : {E : Type 0} (links : List Link) (found checked shown : List (Option Chain)) (right : Bool) (r : Result (List Kept) E)
    → right ≡ (links_fit links checked links && chains_fit links checked 0 checked) → right ≡ true → checked ≡ found → shown ≡ found
    → IfOk r (λ all. all ≡ kept_of links shown) → IfOk r (AreKept links)
ok_kept links found checked shown right (Err e) is passed c s h = h
ok_kept links found checked shown right (Ok all) is passed c s h =
    let same : checked ≡ shown = c ∙ sym s in
    subst (AreKept links) (sym (h ∙ sym (ap (kept_of links) same))) (all_kept links checked (sym is ∙ passed))
