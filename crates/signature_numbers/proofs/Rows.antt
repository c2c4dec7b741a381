-- Where rows of parts lead.
use Rattle.std.proofs.Common.{◌≡◌, ℕ, ◌≤◌, List, [], ◌∷◌, ◌++◌, Option, Some, None, Result, Ok, Err, reverse, refl, sym, ap, ◌∙◌, append_assoc, arith}
use Rattle.std.specs.Prelude.{IfOk}
use Rattle.std.specs.Option.{option_and_then}
use Rattle.std.proofs.lemmas.List.{reverse-reverse, reverse-append, append-nil}
use Rattle.signature_numbers.specs.declared.codes.Part.{Part}
use Rattle.signature_numbers.specs.declared.codes.Step.{Step}
use Rattle.signature_numbers.specs.Steps.{AreSteps, reached}

abbrev pub Next : Type 0
Next = ℕ → Part → Option ℕ

abbrev pub on : Next → Option ℕ → Part → Option ℕ
on next o p = option_and_then (λ s. next s p) o

pub reached_both : (next : Next) (o : Option ℕ) (ps qs : List Part) → reached next o (ps ++ qs) ≡ reached next (reached next o ps) qs
reached_both next o [] qs = refl
reached_both next o (p ∷ ps) qs = reached_both next (on next o p) ps qs

pub reached_none : (next : Next) (ps : List Part) → reached next None ps ≡ None
reached_none next [] = refl
reached_none next (p ∷ ps) = reached_none next ps

-- what is reached stays so where steps are added
abbrev pub Extends : Next → Next → Type 0
Extends f g = (s : ℕ) (p : Part) (n : ℕ) → f s p ≡ Some n → g s p ≡ Some n

reached_kept : (f g : Next) → Extends f g → (o q : Option ℕ) (ps : List Part) (n : ℕ) → ((k : ℕ) → o ≡ Some k → q ≡ Some k) → reached f o ps ≡ Some n → reached g q ps ≡ Some n
reached_kept f g more o q [] n holds e = holds n e
reached_kept f g more o q (p ∷ ps) n holds e = reached_kept f g more (on f o p) (on g q p) ps n (λ k. go k o refl) e
  where
    go : (k : ℕ) (r : Option ℕ) → o ≡ r → on f r p ≡ Some k → on g q p ≡ Some k
    go k None is h = absurd (cc h)
    go k (Some s) is h = ap (λ r. on g r p) (holds s is) ∙ more s p k h

pub kept_from : (f g : Next) → Extends f g → (o : Option ℕ) (ps : List Part) (n : ℕ) → reached f o ps ≡ Some n → reached g o ps ≡ Some n
kept_from f g more o ps n e = reached_kept f g more o o ps n (λ k h. h) e

-- ---- a row by its end

abbrev traced : Next → List Part → Option ℕ
traced next [] = Some 0
traced next (p ∷ ps) = on next (traced next ps) p

-- the parts of xs, the last first, before ys
abbrev turned : List Part → List Part → List Part
turned [] ys = ys
turned (x ∷ xs) ys = turned xs (x ∷ ys)

turned_is : (xs ys : List Part) → turned xs ys ≡ reverse xs ++ ys
turned_is [] ys = refl
turned_is (x ∷ xs) ys = turned_is xs (x ∷ ys) ∙ sym (append_assoc (reverse xs) (x ∷ []) ys) ∙ ap (λ l. l ++ ys) (sym (reverse-append (x ∷ []) xs))

turned_traced : (next : Next) (xs ys : List Part) → reached next (traced next ys) xs ≡ traced next (turned xs ys)
turned_traced next [] ys = refl
turned_traced next (x ∷ xs) ys = turned_traced next xs (x ∷ ys)

is_traced : (next : Next) (xs : List Part) → reached next (Some 0) xs ≡ traced next (reverse xs)
is_traced next xs = turned_traced next xs [] ∙ ap (traced next) (turned_is xs [] ∙ append-nil (reverse xs))

module _ (find : Step → Option ℕ) (count : ℕ) (holds : AreSteps find count) where
  abbrev next : Next
  next s p = find (record { after = s; part = p })

  last_step : (o : Option ℕ) (p : Part) (n : ℕ) → on next o p ≡ Some n → (s : ℕ) × (o ≡ Some s) × (next s p ≡ Some n)
  last_step None p n e = absurd (cc e)
  last_step (Some s) p n e = (s, refl, e)

  one_trace : (xs ys : List Part) (n : ℕ) → traced next xs ≡ Some n → traced next ys ≡ Some n → xs ≡ ys
  one_trace [] [] n e f = refl
  one_trace [] (q ∷ qs) n e f =
      let b = last_step (traced next qs) q n f in
      let some = holds.some (record { after = b.0; part = q }) n b.2 in
      let none : 0 ≡ n = cc e in
      absurd (omega (arith, some, none))
  one_trace (p ∷ ps) [] n e f =
      let a = last_step (traced next ps) p n e in
      let some = holds.some (record { after = a.0; part = p }) n a.2 in
      let none : 0 ≡ n = cc f in
      absurd (omega (arith, some, none))
  one_trace (p ∷ ps) (q ∷ qs) n e f =
      let a = last_step (traced next ps) p n e in
      let b = last_step (traced next qs) q n f in
      let same = holds.apart (record { after = a.0; part = p }) (record { after = b.0; part = q }) n a.2 b.2 in
      let rows : a.0 ≡ b.0 = ap (λ (k : Step). k.after) same in
      let ends : p ≡ q = ap (λ (k : Step). k.part) same in
      let rest : ps ≡ qs = one_trace ps qs b.0 (a.1 ∙ ap Some rows) b.1 in
      cc (ends, rest)

  pub one_row : (xs ys : List Part) (n : ℕ) → reached next (Some 0) xs ≡ Some n → reached next (Some 0) ys ≡ Some n → xs ≡ ys
  one_row xs ys n e f =
      let same : reverse xs ≡ reverse ys = one_trace (reverse xs) (reverse ys) n (sym (is_traced next xs) ∙ e) (sym (is_traced next ys) ∙ f) in
      sym (reverse-reverse xs) ∙ ap reverse same ∙ reverse-reverse ys

  pub row_below : (o : Option ℕ) (ps : List Part) (n : ℕ) → ((k : ℕ) → o ≡ Some k → k ≤ count) → reached next o ps ≡ Some n → n ≤ count
  row_below o [] n low e = low n e
  row_below o (p ∷ ps) n low e = row_below (on next o p) ps n (λ k h. let a = last_step o p k h in holds.below (record { after = a.0; part = p }) k a.2) e

-- ---- what the code does

pub if_ok : {A E : Type 0} (r : Result A E) (P Q : A → Type 0) → ((x : A) → P x → Q x) → IfOk r P → IfOk r Q
if_ok (Ok x) P Q f h = f x h
if_ok (Err e) P Q f h = h

-- a part, and a row behind it
pub part_first : (next : Next) (s k : ℕ) (o : Option ℕ) (p : Part) (ps rest : List Part) → ps ≡ p ∷ rest → next s p ≡ Some k → reached next (Some k) rest ≡ o → reached next (Some s) ps ≡ o
part_first next s k o p ps rest is e h = ap (reached next (Some s)) is ∙ ap (λ o. reached next o rest) e ∙ h

pub no_part : (next : Next) (s : ℕ) (p : Part) (ps rest : List Part) → ps ≡ p ∷ rest → next s p ≡ None → reached next (Some s) ps ≡ None
no_part next s p ps rest is e = ap (reached next (Some s)) is ∙ ap (λ o. reached next o rest) e ∙ reached_none next rest

-- a row, and another behind it
pub row_first : (next : Next) (s k : ℕ) (o : Option ℕ) (qs ps rest : List Part) → qs ≡ ps ++ rest → reached next (Some s) ps ≡ Some k → reached next (Some k) rest ≡ o → reached next (Some s) qs ≡ o
row_first next s k o qs ps rest is e h = ap (reached next (Some s)) is ∙ reached_both next (Some s) ps rest ∙ ap (λ o. reached next o rest) e ∙ h

pub no_row : (next : Next) (s : ℕ) (qs ps rest : List Part) → qs ≡ ps ++ rest → reached next (Some s) ps ≡ None → reached next (Some s) qs ≡ None
no_row next s qs ps rest is e = ap (reached next (Some s)) is ∙ reached_both next (Some s) ps rest ∙ ap (λ o. reached next o rest) e ∙ reached_none next rest
