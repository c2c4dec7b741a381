-- One more candidate.
use Rattle.std.proofs.Common.{◌≡◌, ℕ, suc, ◌+◌, ◌<◌, Bool, true, false, cond, List, [], ◌∷◌, Option, Some, None, length, drop, drop-cons, refl, sym, ap, ◌∙◌, arith}
use Rattle.std.specs.Prelude.{IfSome, filter, is_some, option_and_then, slice_get, slice_index_or as get_or}
use Rattle.std.proofs.lemmas.Option.{slice_get-get_or}
use Rattle.method_choice.specs.declared.choice.Candidate.{Candidate}
use Rattle.method_choice.specs.Choice.{lone, lone_after}

front : (cs : List Candidate) (i : ℕ) (c : Candidate) → i < length cs → c ≡ get_or cs i c → drop i cs ≡ c ∷ drop (i + 1) cs
front cs i c low is =
    let next : suc i ≡ i + 1 = omega arith in
    drop-cons cs i c low ∙ ap (λ x. x ∷ drop (suc i) cs) (sym is) ∙ ap (λ k. c ∷ drop k cs) next

by_test : (P : Candidate → Bool) (c : Candidate) (cs : List Candidate) (b : Bool) → P c ≡ b → filter P (c ∷ cs) ≡ cond b (c ∷ filter P cs) (filter P cs)
by_test P c cs b e = ap (λ b. cond b (c ∷ filter P cs) (filter P cs)) e

next : (P : Candidate → Bool) (cs : List Candidate) (i : ℕ) (c : Candidate) (b : Bool) → i < length cs → c ≡ get_or cs i c → P c ≡ b
    → filter P (drop i cs) ≡ cond b (c ∷ filter P (drop (i + 1) cs)) (filter P (drop (i + 1) cs))
next P cs i c b low is e = ap (filter P) (front cs i c low is) ∙ by_test P c (drop (i + 1) cs) b e

lone_more : (c : Candidate) (cs : List Candidate) → lone (c ∷ cs) ≡ lone_after (Some c) cs
lone_more c [] = refl
lone_more c (d ∷ cs) = refl

abbrev pub picked : List Candidate → Option ℕ → Option Candidate
picked cs found = option_and_then (λ k. slice_get cs k) found

-- the first of the best ones
pub first_best : (P : Candidate → Bool) (cs : List Candidate) (i : ℕ) (c : Candidate) (found found' : Option ℕ) (whole : Option Candidate) → i < length cs → c ≡ get_or cs i c → P c ≡ true
    → is_some found ≡ false → found' ≡ Some i → lone_after (picked cs found) (filter P (drop i cs)) ≡ whole → lone_after (picked cs found') (filter P (drop (i + 1) cs)) ≡ whole
first_best P cs i c None found' whole low is best none new so_far =
    let rest = filter P (drop (i + 1) cs) in
    let here : slice_get cs i ≡ Some c = slice_get-get_or cs i c low ∙ ap Some (sym is) in
    ap (λ k. lone_after (picked cs k) rest) new ∙ ap (λ d. lone_after d rest) here ∙ sym (lone_more c rest) ∙ sym (ap lone (next P cs i c true low is best)) ∙ so_far
first_best P cs i c (Some k) found' whole low is best none new so_far = absurd (cc none)

-- one more
pub another_best : (P : Candidate → Bool) (cs : List Candidate) (i : ℕ) (c : Candidate) (found : Option ℕ) (whole : Option Candidate) → i < length cs → c ≡ get_or cs i c → P c ≡ true
    → is_some found ≡ true → IfSome found (λ k. k < length cs) → lone_after (picked cs found) (filter P (drop i cs)) ≡ whole → None ≡ whole
another_best P cs i c None whole low is best some within so_far = absurd (cc some)
another_best P cs i c (Some k) whole low is best some within so_far =
    sym (ap (λ d. lone_after d (c ∷ filter P (drop (i + 1) cs))) (slice_get-get_or cs k c within)) ∙ sym (ap (lone_after (slice_get cs k)) (next P cs i c true low is best)) ∙ so_far

-- one that is not
pub not_best : (P : Candidate → Bool) (cs : List Candidate) (i : ℕ) (c : Candidate) (found found' : Option ℕ) (whole : Option Candidate) → i < length cs → c ≡ get_or cs i c → P c ≡ false
    → found' ≡ found → lone_after (picked cs found) (filter P (drop i cs)) ≡ whole → lone_after (picked cs found') (filter P (drop (i + 1) cs)) ≡ whole
not_best P cs i c found found' whole low is not same so_far =
    ap (λ k. lone_after (picked cs k) (filter P (drop (i + 1) cs))) same ∙ sym (ap (lone_after (picked cs found)) (next P cs i c false low is not)) ∙ so_far
