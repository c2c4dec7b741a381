-- Paths and their parts.
use Rattle.std.proofs.Common.{◌≡◌, ◌≢◌, ◌<◌, ◌≤◌, ℕ, zero, suc, ◌+◌, ◌-◌, Bool, true, false, ◌==◌, List, [], ◌∷◌, ◌++◌, length, take, drop, get_or, ◌↔◌, refl, sym, ap, ◌∙◌, arith, subst, length-append}
use Rattle.std.specs.List.{position_or_len, before_first, after_first, join_with_byte, suffix_len}
use Rattle.std.proofs.lemmas.List.{take_at, reverse-append, append-nil, take-append-le}
use Rattle.std.proofs.lemmas.Grind.{take_at_read}
use Rattle.std.proofs.lemmas.Bool.Decides.{nat_tests}
use Rattle.command_words.specs.Names.{is_part_byte, ArePartBytes, IsPart, AreParts, IsPath, is_no_slash, folder_of}

abbrev is_slash : ℕ → Bool
is_slash b = b == 47

no_slash : (b : ℕ) → is_part_byte b ≡ true → (b == 47) ≡ false
no_slash b e = grind (arith, nat_tests)

one_more : (n : ℕ) → 1 + n ≡ suc n
one_more n = omega arith

-- where the first slash stands
at_slash : (a b : List ℕ) → ArePartBytes a → position_or_len is_slash (a ++ 47 ∷ b) ≡ length a
at_slash [] b h = refl
at_slash (x ∷ a) b (t, h) = rw (no_slash x t, at_slash a b h) (one_more (length a))

without_slash : (a : List ℕ) → ArePartBytes a → position_or_len is_slash a ≡ length a
without_slash [] h = refl
without_slash (x ∷ a) (t, h) = rw (no_slash x t, without_slash a h) (one_more (length a))

-- a name with a slash, in its two halves
around : (name : List ℕ) → position_or_len is_slash name < length name → name ≡ before_first is_slash name ++ 47 ∷ after_first is_slash name
around [] h = absurd (omega arith)
around (b ∷ bs) h = by_test (around bs) (b == 47) refl
  where
    by_test : (position_or_len is_slash bs < length bs → bs ≡ before_first is_slash bs ++ 47 ∷ after_first is_slash bs) → (t : Bool) → (b == 47) ≡ t → b ∷ bs ≡ before_first is_slash (b ∷ bs) ++ 47 ∷ after_first is_slash (b ∷ bs)
    by_test further true e = let is : b ≡ 47 = grind (arith, nat_tests) in rw (e, is) refl
    by_test further false e =
        let at : position_or_len is_slash (b ∷ bs) ≡ suc (position_or_len is_slash bs) = rw e (one_more (position_or_len is_slash bs)) in
        let less : position_or_len is_slash bs < length bs = omega (arith, at, h) in
        let more : suc (position_or_len is_slash bs) + 1 ≡ suc (position_or_len is_slash bs + 1) = omega arith in
        rw (at, more) (ap (λ xs. b ∷ xs) (further less))

pub path_at_end : (name : List ℕ) → position_or_len is_slash name ≡ length name → IsPart name ↔ IsPath name
path_at_end name e = (λ h. record { first = name; later = []; are = (h, tt); joined = refl }, λ p. whole p.first p.later p.are p.joined)
  where
    whole : (first : List ℕ) (later : List (List ℕ)) → AreParts (first ∷ later) → name ≡ join_with_byte 47 (first ∷ later) → IsPart name
    whole first [] h j = subst IsPart (sym j) h.0
    whole first (y ∷ ys) h j =
        let at : position_or_len is_slash name ≡ length first = ap (position_or_len is_slash) j ∙ at_slash first (join_with_byte 47 (y ∷ ys)) h.0.0 in
        let long : length name ≡ length first + length (47 ∷ join_with_byte 47 (y ∷ ys)) = ap length j ∙ length-append first (47 ∷ join_with_byte 47 (y ∷ ys)) in
        absurd (omega (arith, at, long, e))

pub path_further : (name : List ℕ) → position_or_len is_slash name < length name
    → (IsPart (before_first is_slash name) × IsPath (after_first is_slash name)) ↔ IsPath name
path_further name h = (λ p. to p.0 p.1, λ p. back p.first p.later p.are p.joined)
  where
    to : IsPart (before_first is_slash name) → IsPath (after_first is_slash name) → IsPath name
    to b p = record { first = before_first is_slash name; later = p.first ∷ p.later; are = (b, p.are); joined = around name h ∙ ap (λ xs. before_first is_slash name ++ 47 ∷ xs) p.joined }

    back : (first : List ℕ) (later : List (List ℕ)) → AreParts (first ∷ later) → name ≡ join_with_byte 47 (first ∷ later) → IsPart (before_first is_slash name) × IsPath (after_first is_slash name)
    back first [] f j =
        let at : position_or_len is_slash name ≡ length first = ap (position_or_len is_slash) j ∙ without_slash first f.0.0 in
        absurd (omega (arith, at, ap length j, h))
    back first (y ∷ ys) f j =
        let rest : List ℕ = join_with_byte 47 (y ∷ ys) in
        let at : position_or_len is_slash name ≡ length first = ap (position_or_len is_slash) j ∙ at_slash first rest f.0.0 in
        let front : before_first is_slash name ≡ first = ap (λ n. take n name) at ∙ ap (take (length first)) j ∙ take_at first (47 ∷ rest) (length first) refl in
        let behind : after_first is_slash name ≡ rest = ap (λ n. drop (n + 1) name) at ∙ ap (drop (length first + 1)) j ∙ past first rest in
        (subst IsPart (sym front) f.0, record { first = y; later = ys; are = f.1; joined = behind })
      where
        past : (first rest : List ℕ) → drop (length first + 1) (first ++ 47 ∷ rest) ≡ rest
        past [] rest = refl
        past (x ∷ xs) rest = let more : length (x ∷ xs) + 1 ≡ suc (length xs + 1) = omega arith in rw more (past xs rest)

pub shorter : (name : List ℕ) → position_or_len is_slash name < length name → length (after_first is_slash name) < length name
shorter name h = omega (arith, ap length (around name h), length-append (before_first is_slash name) (47 ∷ after_first is_slash name))

-- ---- folders

-- a byte more: with a slash, all of the name is its folder
pub folder_slash : (name : List ℕ) (b : ℕ) → b ≡ 47 → folder_of (name ++ b ∷ []) ≡ name ++ b ∷ []
folder_slash name b e = rw (reverse-append name (b ∷ []), e) (whole (name ++ 47 ∷ []))
  where
    whole : (xs : List ℕ) → take (length xs - 0) xs ≡ xs
    whole xs = let n : length xs ≡ length xs - 0 = omega arith in ap (take (length xs - 0)) (sym (append-nil xs)) ∙ take_at xs [] (length xs - 0) n

pub folder_other : (name : List ℕ) (b : ℕ) → b ≢ 47 → folder_of (name ++ b ∷ []) ≡ folder_of name
folder_other name b e =
    let s : ℕ = suffix_len is_no_slash name in
    let test : is_no_slash b ≡ true = grind (arith, nat_tests) in
    let n : length (name ++ b ∷ []) - (1 + s) ≡ length name - s = omega (arith, length-append name (b ∷ [])) in
    rw (reverse-append name (b ∷ []), test, n) (take-append-le (length name - s) name (b ∷ []) (omega arith))

-- ---- a step of the reading of a path

pub record Halves (name part rest : List ℕ) : Type 0 where
  pub front : part ≡ before_first is_slash name
  pub back : rest ≡ after_first is_slash name
  pub has : position_or_len is_slash name < length name

pub halves_shorter : (name part rest : List ℕ) → Halves name part rest → length rest < length name
halves_shorter name part rest h = omega (arith, ap length h.back, shorter name h.has)

pub halves_true : (name part rest : List ℕ) (P : Type 0) → Halves name part rest → IsPart part → (IsPath name ↔ P) → (IsPath rest ↔ P)
halves_true name part rest P h is same =
    let step = path_further name h.has in
    (λ p. same.0 (step.0 (subst IsPart h.front is, subst IsPath h.back p)), λ q. subst IsPath (sym h.back) ((step.1 (same.1 q)).1))

pub halves_false : (name part rest : List ℕ) (P : Type 0) → Halves name part rest → (IsPart part → ⊥) → (IsPath name ↔ P) → P → ⊥
halves_false name part rest P h lacks same q = lacks (subst IsPart (sym h.front) (((path_further name h.has).1 (same.1 q)).0))

pub all_of : (xs : List ℕ) (n : ℕ) → length xs ≤ n → take n xs ≡ xs
all_of [] zero h = refl
all_of [] (suc n) h = refl
all_of (x ∷ xs) zero h = absurd (omega arith)
all_of (x ∷ xs) (suc n) h = ap (λ ys. x ∷ ys) (all_of xs n (omega arith))

pub folder_at_slash : (name : List ℕ) (at end : ℕ) → at < length name → get_or name at 0 ≡ 47 → end ≡ at + 1 → (end ≤ at + 1) × (take end name ≡ folder_of (take (at + 1) name))
folder_at_slash name at end h b e =
    let read = (take_at_read name at 0 h).1 in
    (omega (arith, e), ap (λ n. take n name) e ∙ read ∙ sym (folder_slash (take at name) (get_or name at 0) b) ∙ sym (ap folder_of read))

pub folder_at_other : (name : List ℕ) (at old end : ℕ) → at < length name → (get_or name at 0 ≡ 47 → ⊥) → end ≡ old → (old ≤ at) × (take old name ≡ folder_of (take at name)) → (end ≤ at + 1) × (take end name ≡ folder_of (take (at + 1) name))
folder_at_other name at old end h b e i =
    let read = (take_at_read name at 0 h).1 in
    (omega (arith, e, i.0), ap (λ n. take n name) e ∙ i.1 ∙ sym (folder_other (take at name) (get_or name at 0) b) ∙ sym (ap folder_of read))
