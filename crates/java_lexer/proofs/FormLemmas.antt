-- The longest front of a form.
use Rattle.std.proofs.Common.{◌≡◌, ◌≤◌, ◌<◌, ℕ, zero, suc, ◌+◌, Bool, true, false, cond, List, [], ◌∷◌, drop, inl, inr, Option, Some, None, refl, ap, subst, arith, add-one, add-zero}
use Rattle.std.proofs.Math.Numerals.{one-add}
use Rattle.std.specs.List.{prefix_len}
use Rattle.java_lexer.specs.Forms.{Nothing, One, Many, Or, Maybe}
use Rattle.java_lexer.specs.Scan.{more, one_len, digits}

-- the longest front of a form, or none
abbrev pub Most : (ℕ → List ℕ → Type 0) → List ℕ → Option ℕ → Type 0
Most K bs None = (n : ℕ) → K n bs → ⊥
Most K bs (Some n) = K n bs × ((m : ℕ) → K m bs → m ≤ n)

pub most_same : (K : ℕ → List ℕ → Type 0) (bs : List ℕ) (o q : Option ℕ) → o ≡ q → Most K bs o → Most K bs q
most_same K bs o q e h = subst (Most K bs) e h

pub most_nothing : (bs : List ℕ) → Most Nothing bs (Some 0)
most_nothing bs = (refl, λ m e. omega arith)

pub one_nil : (p : ℕ → Bool) (K : ℕ → List ℕ → Type 0) (n : ℕ) → One p K n [] → ⊥
one_nil p K zero h = h
one_nil p K (suc n) h = h

pub one_not : (p : ℕ → Bool) (K : ℕ → List ℕ → Type 0) (b : ℕ) (bs : List ℕ) → p b ≡ false → (n : ℕ) → One p K n (b ∷ bs) → ⊥
one_not p K b bs e zero h = h
one_not p K b bs e (suc n) (t, h) = cc

pub one_positive : (p : ℕ → Bool) (K : ℕ → List ℕ → Type 0) (bs : List ℕ) (n : ℕ) → One p K n bs → 0 < n
one_positive p K bs zero h = absurd h
one_positive p K bs (suc n) h = omega arith

pub most_one : (p : ℕ → Bool) (K : ℕ → List ℕ → Type 0) (b : ℕ) (bs : List ℕ) (o : Option ℕ) → p b ≡ true → Most K bs o → Most (One p K) (b ∷ bs) (more 1 o)
most_one p K b bs None e h = none
  where
    none : (n : ℕ) → One p K n (b ∷ bs) → ⊥
    none zero x = x
    none (suc n) (t, x) = h n x
most_one p K b bs (Some k) e h = (rw add-one (e, h.0), longest)
  where
    longest : (m : ℕ) → One p K m (b ∷ bs) → m ≤ k + 1
    longest zero x = omega arith
    longest (suc m) (t, x) = let le = h.1 m x in omega arith

pub or_right : (A B : ℕ → List ℕ → Type 0) (bs : List ℕ) (o : Option ℕ) → Most A bs None → Most B bs o → Most (Or A B) bs o
or_right A B bs None a b = none
  where
    none : (n : ℕ) → Or A B n bs → ⊥
    none n (inl x) = a n x
    none n (inr x) = b n x
or_right A B bs (Some k) a b = (inr b.0, longest)
  where
    longest : (m : ℕ) → Or A B m bs → m ≤ k
    longest m (inl x) = absurd (a m x)
    longest m (inr x) = b.1 m x

pub or_left : (A B : ℕ → List ℕ → Type 0) (bs : List ℕ) (o : Option ℕ) → Most A bs o → Most B bs None → Most (Or A B) bs o
or_left A B bs None a b = none
  where
    none : (n : ℕ) → Or A B n bs → ⊥
    none n (inl x) = a n x
    none n (inr x) = b n x
or_left A B bs (Some k) a b = (inl a.0, longest)
  where
    longest : (m : ℕ) → Or A B m bs → m ≤ k
    longest m (inl x) = a.1 m x
    longest m (inr x) = absurd (b m x)

pub or_longer : (A B : ℕ → List ℕ → Type 0) (bs : List ℕ) (m k : ℕ) → m ≤ k → Most A bs (Some m) → Most B bs (Some k) → Most (Or A B) bs (Some k)
or_longer A B bs m k le a b = (inr b.0, longest)
  where
    longest : (n : ℕ) → Or A B n bs → n ≤ k
    longest n (inl x) = let y = a.1 n x in omega arith
    longest n (inr x) = b.1 n x

many_step : (p : ℕ → Bool) (K : ℕ → List ℕ → Type 0) (stops : (n b : ℕ) (bs : List ℕ) → K (suc n) (b ∷ bs) → p b ≡ false) (empty : (bs cs : List ℕ) → K 0 bs → K 0 cs)
    → (b k : ℕ) (bs cs : List ℕ) (o : Option ℕ) → p b ≡ true → Most K cs o → Most (Many p K) bs (more k o) → Most (Many p K) (b ∷ bs) (more (suc k) o)
many_step p K stops empty b k bs cs None e last h = none
  where
    none : (n : ℕ) → Many p K n (b ∷ bs) → ⊥
    none zero x = last 0 (empty (b ∷ bs) cs x)
    none (suc n) (inl x) = let f = stops n b bs x in cc
    none (suc n) (inr (t, x)) = h n x
many_step p K stops empty b k bs cs (Some m) e last h = (rw plus (inr (e, h.0)), longest)
  where
    plus : m + suc k ≡ suc (m + k)
    plus = omega arith

    longest : (n : ℕ) → Many p K n (b ∷ bs) → n ≤ m + suc k
    longest zero x = omega arith
    longest (suc n) (inl x) = let f = stops n b bs x in absurd (cc)
    longest (suc n) (inr (t, x)) = let le = h.1 n x in omega arith

many_end : (p : ℕ → Bool) (K : ℕ → List ℕ → Type 0) (b : ℕ) (bs : List ℕ) (o : Option ℕ) → p b ≡ false → Most K (b ∷ bs) o → Most (Many p K) (b ∷ bs) (more 0 o)
many_end p K b bs None e h = none
  where
    none : (n : ℕ) → Many p K n (b ∷ bs) → ⊥
    none zero x = h 0 x
    none (suc n) (inl x) = h (suc n) x
    none (suc n) (inr (t, x)) = cc
many_end p K b bs (Some m) e h = rw add-zero (front m h.0, longest)
  where
    front : (n : ℕ) → K n (b ∷ bs) → Many p K n (b ∷ bs)
    front zero x = x
    front (suc n) x = inl x

    longest : (n : ℕ) → Many p K n (b ∷ bs) → n ≤ m
    longest zero x = omega arith
    longest (suc n) (inl x) = h.1 (suc n) x
    longest (suc n) (inr (t, x)) = absurd (cc)

many_nil : (p : ℕ → Bool) (K : ℕ → List ℕ → Type 0) (o : Option ℕ) → Most K [] o → Most (Many p K) [] (more 0 o)
many_nil p K None h = none
  where
    none : (n : ℕ) → Many p K n [] → ⊥
    none zero x = h 0 x
    none (suc n) x = h (suc n) x
many_nil p K (Some m) h = rw add-zero (front m h.0, longest)
  where
    front : (n : ℕ) → K n [] → Many p K n []
    front zero x = x
    front (suc n) x = x

    longest : (n : ℕ) → Many p K n [] → n ≤ m
    longest zero x = omega arith
    longest (suc n) x = h.1 (suc n) x

pub most_many : (p : ℕ → Bool) (K : ℕ → List ℕ → Type 0) (L : List ℕ → Option ℕ) (most : (bs : List ℕ) → Most K bs (L bs))
    (stops : (n b : ℕ) (bs : List ℕ) → K (suc n) (b ∷ bs) → p b ≡ false) (empty : (bs cs : List ℕ) → K 0 bs → K 0 cs)
    (bs : List ℕ) → Most (Many p K) bs (more (prefix_len p bs) (L (drop (prefix_len p bs) bs)))
most_many p K L most stops empty [] = many_nil p K (L []) (most [])
most_many p K L most stops empty (b ∷ bs) = by_test (most_many p K L most stops empty bs) _ refl
  where
    by_test : Most (Many p K) bs (more (prefix_len p bs) (L (drop (prefix_len p bs) bs))) → (t : Bool) → p b ≡ t
        → Most (Many p K) (b ∷ bs) (more (cond t (1 + prefix_len p bs) 0) (L (drop (cond t (1 + prefix_len p bs) 0) (b ∷ bs))))
    by_test h true e = rw one-add (many_step p K stops empty b (prefix_len p bs) bs (drop (prefix_len p bs) bs) (L (drop (prefix_len p bs) bs)) e (most (drop (prefix_len p bs) bs)) h)
    by_test h false e = many_end p K b bs (L (b ∷ bs)) e (most (b ∷ bs))

-- a run of bytes, and nothing behind it
pub most_run : (p : ℕ → Bool) (bs : List ℕ) → Most (Many p Nothing) bs (Some (prefix_len p bs))
most_run p bs = most_same (Many p Nothing) bs _ _ same (most_many p Nothing (λ (cs : List ℕ). Some 0) most_nothing stops (λ bs cs e. e) bs)
  where
    same : more (prefix_len p bs) (Some 0) ≡ Some (prefix_len p bs)
    same = let e : 0 + prefix_len p bs ≡ prefix_len p bs = omega arith in ap Some e

    stops : (n b : ℕ) (bs : List ℕ) → Nothing (suc n) (b ∷ bs) → p b ≡ false
    stops n b bs e = absurd (omega arith)

-- ---- suffixes

pub most_suffix : (q : ℕ → Bool) (bs : List ℕ) → Most (Maybe q Nothing) bs (Some (one_len q bs))
most_suffix q [] = or_left Nothing (One q Nothing) [] (Some 0) (most_nothing []) (one_nil q Nothing)
most_suffix q (b ∷ bs) = by_test _ refl
  where
    by_test : (t : Bool) → q b ≡ t → Most (Maybe q Nothing) (b ∷ bs) (Some (cond t 1 0))
    by_test true e = or_longer Nothing (One q Nothing) (b ∷ bs) 0 1 (omega arith) (most_nothing (b ∷ bs)) (most_one q Nothing b bs (Some 0) e (most_nothing bs))
    by_test false e = or_left Nothing (One q Nothing) (b ∷ bs) (Some 0) (most_nothing (b ∷ bs)) (one_not q Nothing b bs e)

pub suffix_stops : (p q : ℕ → Bool) → ((b : ℕ) → q b ≡ true → p b ≡ false) → (n b : ℕ) (bs : List ℕ) → Maybe q Nothing (suc n) (b ∷ bs) → p b ≡ false
suffix_stops p q apart n b bs (inl e) = absurd (omega arith)
suffix_stops p q apart n b bs (inr (t, h)) = apart b t

pub suffix_empty : (q : ℕ → Bool) (bs cs : List ℕ) → Maybe q Nothing 0 bs → Maybe q Nothing 0 cs
suffix_empty q bs cs (inl e) = inl e
suffix_empty q bs cs (inr h) = absurd h

pub most_digits : (p q : ℕ → Bool) → ((b : ℕ) → q b ≡ true → p b ≡ false) → (bs : List ℕ) → Most (Many p (Maybe q Nothing)) bs (Some (digits p q bs))
most_digits p q apart bs =
    most_same (Many p (Maybe q Nothing)) bs _ _ same
    (most_many p (Maybe q Nothing) (λ (cs : List ℕ). Some (one_len q cs)) (most_suffix q) (suffix_stops p q apart) (suffix_empty q) bs)
  where
    same : more (prefix_len p bs) (Some (one_len q (drop (prefix_len p bs) bs))) ≡ Some (digits p q bs)
    same = let e : one_len q (drop (prefix_len p bs) bs) + prefix_len p bs ≡ digits p q bs = omega arith in ap Some e

pub digits_more : (p q : ℕ → Bool) (b : ℕ) (bs : List ℕ) → p b ≡ true → digits p q (b ∷ bs) ≡ digits p q bs + 1
digits_more p q b bs e = rw (e, one-add) (plus (prefix_len p bs) (one_len q (drop (prefix_len p bs) bs)))
  where
    plus : (k l : ℕ) → suc k + l ≡ k + l + 1
    plus k l = omega arith

-- no digit at all
pub digits_none : (p q : ℕ → Bool) (b : ℕ) (bs : List ℕ) → p b ≡ false → q b ≡ false → digits p q (b ∷ bs) ≡ 0
digits_none p q b bs e f = rw (e, f) refl
