-- Sets of words, and words that are not twice in a list.
use Rattle.std.proofs.Common.{◌≡◌, ◌<◌, ◌≤◌, ℕ, zero, suc, ◌+◌, ◌-◌, Bool, true, false, not, ◌||◌, if◌then◌else◌, List, [], ◌∷◌, ◌++◌, length, map, take, drop, get_or, Some, slice_get, IsTrue, ◌↔◌, refl, sym, ap, ◌∙◌, arith, subst, append_assoc}
use denote.Ref.{Bor}
use Rattle.std.specs.List.{list_any, position_or_len}
use Rattle.std.specs.Str.{bytes_eq}
use Rattle.std.specs.String.{string_bytes}
use Rattle.std.specs.declared.string.String.{String}
use Rattle.std.specs.declared.alloc.Global.{Global}
use Rattle.std.proofs.lemmas.List.{map-append, take_at, length-append, length-drop}
use Rattle.std.proofs.lemmas.List.Folds.{list_any-append}
use Rattle.std.proofs.lemmas.Option.{slice_get_within}
use Rattle.java_tree.specs.Names.{with_text, AreDistinct}
use Rattle.command_words.specs.Names.{is_among}
use Rattle.command_words.specs.Table.{before, behind}
use Rattle.command_words.proofs.Lists.{same, itself, place_among}

abbrev bytes : List (String Global) → List (List ℕ)
bytes ws = map string_bytes ws

-- ---- a word more

or_none : (a : Bool) → a ≡ (a || false)
or_none true = refl
or_none false = refl

or_turned : (a b : Bool) → (b ≡ true → a ≡ true) → a ≡ (a || b)
or_turned true b f = refl
or_turned false true f = f refl
or_turned false false f = refl

pub among_with : (w t : List ℕ) (names : List (List ℕ)) → is_among w (with_text t names) ≡ is_among w (names ++ t ∷ [])
among_with w t names = by_test (is_among t names) refl
  where
    found : is_among t names ≡ true → bytes_eq w t ≡ true → is_among w names ≡ true
    found e f = subst (λ v. is_among v names ≡ true) (sym (same w t f)) e

    by_test : (b : Bool) → is_among t names ≡ b → is_among w (if b then names else names ++ t ∷ []) ≡ is_among w (names ++ t ∷ [])
    by_test true e = or_turned (is_among w names) (bytes_eq w t || false) (λ f. found e (or_none (bytes_eq w t) ∙ f)) ∙ sym (list_any-append (bytes_eq w) names (t ∷ []))
    by_test false e = refl

-- ---- no word twice

front_stays : (xs ys : List (List ℕ)) (i : ℕ) (w : List ℕ) → slice_get xs i ≡ Some w → slice_get (xs ++ ys) i ≡ Some w
front_stays [] ys i w e = absurd (cc)
front_stays (x ∷ xs) ys zero w e = e
front_stays (x ∷ xs) ys (suc i) w e = front_stays xs ys i w e

at_seam : (xs ys : List (List ℕ)) (w : List ℕ) → slice_get (xs ++ w ∷ ys) (length xs) ≡ Some w
at_seam [] ys w = refl
at_seam (x ∷ xs) ys w = at_seam xs ys w

pub twice : (xs ys : List (List ℕ)) (w : List ℕ) → IsTrue (is_among w xs) → AreDistinct (xs ++ w ∷ ys) → ⊥
twice xs ys w e d =
    let p = place_among w xs e in
    let at = d p.0 (length xs) w (front_stays xs (w ∷ ys) p.0 w p.1) (at_seam xs ys w) in
    absurd (omega (arith, at, slice_get_within xs p.0 w p.1))

pub none_twice : AreDistinct []
none_twice i j w e f = absurd (cc)

pub with_new : (w : List ℕ) (names : List (List ℕ)) → is_among w names ≡ false → with_text w names ≡ names ++ w ∷ []
with_new w names e = rw e refl

-- ---- lists of strings, cut at a place

pub cut_at : (ws : List (String Global)) (i : ℕ) (d : String Global) → i < length ws → bytes ws ≡ bytes (take i ws) ++ string_bytes (get_or ws i d) ∷ bytes (drop (i + 1) ws)
cut_at [] i d h = absurd (omega arith)
cut_at (w ∷ ws) zero d h = refl
cut_at (w ∷ ws) (suc i) d h = let at : suc i + 1 ≡ suc (i + 1) = omega arith in rw at (ap (λ xs. string_bytes w ∷ xs) (cut_at ws i d (omega arith)))

pub one_more : (f : String Global → List ℕ) (ws : List (String Global)) (i : ℕ) (d : String Global) → i < length ws → map f (take (i + 1) ws) ≡ map f (take i ws) ++ f (get_or ws i d) ∷ []
one_more f [] i d h = absurd (omega arith)
one_more f (w ∷ ws) zero d h = refl
one_more f (w ∷ ws) (suc i) d h = let at : suc i + 1 ≡ suc (i + 1) = omega arith in rw at (ap (λ xs. f w ∷ xs) (one_more f ws i d (omega arith)))

pub all_taken : (ws : List (String Global)) (i : ℕ) → length ws ≤ i → take i ws ≡ ws
all_taken [] zero h = refl
all_taken [] (suc i) h = refl
all_taken (w ∷ ws) zero h = absurd (omega arith)
all_taken (w ∷ ws) (suc i) h = ap (λ xs. w ∷ xs) (all_taken ws i (omega arith))

-- a new word behind the old ones
pub added : (old set new : List (List ℕ)) (ws : List (String Global)) (i : ℕ) (d : String Global) → i < length ws
    → set ≡ old ++ bytes (take i ws) → is_among (string_bytes (get_or ws i d)) set ≡ false → new ≡ with_text (string_bytes (get_or ws i d)) set
    → new ≡ old ++ bytes (take (i + 1) ws)
added old set new ws i d h e absent n =
    n ∙ with_new (string_bytes (get_or ws i d)) set absent ∙ ap (λ xs. xs ++ string_bytes (get_or ws i d) ∷ []) e
    ∙ append_assoc old (bytes (take i ws)) (string_bytes (get_or ws i d) ∷ []) ∙ ap (λ xs. old ++ xs) (sym (one_more string_bytes ws i d h))

-- a word that is there already
pub there : (old set : List (List ℕ)) (ws : List (String Global)) (i : ℕ) (d : String Global) → i < length ws
    → set ≡ old ++ bytes (take i ws) → is_among (string_bytes (get_or ws i d)) set ≡ true → AreDistinct (old ++ bytes ws) → ⊥
there old set ws i d h e present ds =
    let w : List ℕ = string_bytes (get_or ws i d) in
    let whole : old ++ bytes ws ≡ (old ++ bytes (take i ws)) ++ w ∷ bytes (drop (i + 1) ws) = ap (λ xs. old ++ xs) (cut_at ws i d h) ∙ sym (append_assoc old (bytes (take i ws)) (w ∷ bytes (drop (i + 1) ws))) in
    twice (old ++ bytes (take i ws)) (bytes (drop (i + 1) ws)) w (subst (λ xs. is_among w xs ≡ true) e present) (subst AreDistinct whole ds)

-- the set of the first words, and one more
pub grown : (set new : List (List ℕ)) (ws : List (List ℕ)) (t : List ℕ) → ((w : List ℕ) → is_among w set ≡ is_among w ws) → new ≡ with_text t set → (w : List ℕ) → is_among w new ≡ is_among w (ws ++ t ∷ [])
grown set new ws t f n w =
    ap (is_among w) n ∙ among_with w t set ∙ list_any-append (bytes_eq w) set (t ∷ []) ∙ ap (λ b. b || (bytes_eq w t || false)) (f w) ∙ sym (list_any-append (bytes_eq w) ws (t ∷ []))

-- ---- sets as lists of what their keys point to

pub any_now : (w : List ℕ) (ks : List (Bor (List ℕ))) → list_any (bytes_eq w) (map (λ k. k.now) ks) ≡ list_any (λ k. bytes_eq w k.now) ks
any_now w [] = refl
any_now w (k ∷ ks) = ap (λ b. bytes_eq w k.now || b) (any_now w ks)

pub key_inserted : (k : Bor (List ℕ)) (ks keys : List (Bor (List ℕ))) → keys ≡ (if list_any (λ q. bytes_eq k.now q.now) ks then ks else ks ++ k ∷ [])
    → map (λ q. q.now) keys ≡ with_text k.now (map (λ q. q.now) ks)
key_inserted k ks keys e = by_test (list_any (λ q. bytes_eq k.now q.now) ks) refl
  where
    by_test : (t : Bool) → list_any (λ q. bytes_eq k.now q.now) ks ≡ t → map (λ q. q.now) keys ≡ with_text k.now (map (λ q. q.now) ks)
    by_test true f = rw (e, any_now k.now ks, f) refl
    by_test false f = rw (e, any_now k.now ks, f, map-append) refl

-- ---- cut at the first word that equals a mark

neither : (a b : Bool) → (a || b) ≡ false → (a ≡ false) × (b ≡ false)
neither true b e = absurd (cc)
neither false b e = (refl, e)

mark_at : (mark : List ℕ) (front back : List (List ℕ)) → is_among mark front ≡ false → position_or_len (bytes_eq mark) (front ++ mark ∷ back) ≡ length front
mark_at mark [] back e = rw (itself mark) refl
mark_at mark (x ∷ xs) back e =
    let p = neither (bytes_eq mark x) (is_among mark xs) e in
    let more : 1 + length xs ≡ suc (length xs) = omega arith in
    rw (p.0, mark_at mark xs back p.1) more

pub record Cut (mark : List ℕ) (ws : List (String Global)) (i : ℕ) : Type 0 where
  pub among : is_among mark (bytes ws) ≡ true
  pub front : bytes (take i ws) ≡ before mark (bytes ws)
  pub back : bytes (take (length ws - (i + 1)) (drop (i + 1) ws)) ≡ behind mark (bytes ws)

pub cut_mark : (mark : List ℕ) (ws : List (String Global)) (i : ℕ) (d : String Global) → i < length ws → is_among mark (bytes (take i ws)) ≡ false → string_bytes (get_or ws i d) ≡ mark → Cut mark ws i
cut_mark mark ws i d h none is =
    let front : List (List ℕ) = bytes (take i ws) in
    let back : List (List ℕ) = bytes (drop (i + 1) ws) in
    let whole : bytes ws ≡ front ++ mark ∷ back = cut_at ws i d h ∙ ap (λ w. front ++ w ∷ back) is in
    let at : position_or_len (bytes_eq mark) (bytes ws) ≡ length front = ap (position_or_len (bytes_eq mark)) whole ∙ mark_at mark front back none in
    let all : take (length ws - (i + 1)) (drop (i + 1) ws) ≡ drop (i + 1) ws = all_taken (drop (i + 1) ws) (length ws - (i + 1)) (omega (arith, length-drop {A = String Global})) in
    let seam : length front + 1 ≡ length (front ++ mark ∷ []) = sym (length-append front (mark ∷ [])) in
    record {
      among = ap (is_among mark) whole ∙ rw (list_any-append (bytes_eq mark) front (mark ∷ back), none, itself mark) refl;
      front = sym (ap (λ n. take n (bytes ws)) at ∙ ap (take (length front)) whole ∙ take_at front (mark ∷ back) (length front) refl);
      back = ap bytes all ∙ sym (ap (λ n. drop (n + 1) (bytes ws)) at ∙ ap (drop (length front + 1)) whole ∙ past front back mark);
    }
  where
    past : (front back : List (List ℕ)) (w : List ℕ) → drop (length front + 1) (front ++ w ∷ back) ≡ back
    past [] back w = refl
    past (x ∷ xs) back w = let more : length (x ∷ xs) + 1 ≡ suc (length xs + 1) = omega arith in rw more (past xs back w)

-- no mark so far
pub no_mark_yet : (mark : List ℕ) (ws : List (String Global)) (i : ℕ) (d : String Global) → i < length ws → is_among mark (bytes (take i ws)) ≡ false → (string_bytes (get_or ws i d) ≡ mark → ⊥) → is_among mark (bytes (take (i + 1) ws)) ≡ false
no_mark_yet mark ws i d h none isnt =
    let w : List ℕ = string_bytes (get_or ws i d) in
    let test : bytes_eq mark w ≡ false = by_test (bytes_eq mark w) refl in
    ap (is_among mark) (one_more string_bytes ws i d h) ∙ list_any-append (bytes_eq mark) (bytes (take i ws)) (w ∷ []) ∙ rw (none, test) refl
  where
    by_test : (b : Bool) → bytes_eq mark (string_bytes (get_or ws i d)) ≡ b → bytes_eq mark (string_bytes (get_or ws i d)) ≡ false
    by_test true e = absurd (isnt (sym (same mark (string_bytes (get_or ws i d)) e)))
    by_test false e = e

-- what `==` told
pub told_apart : (x m : List ℕ) (r : Bool) → r ≡ bytes_eq x m → r ≡ false → x ≡ m → ⊥
told_apart x m r e f is = let t : bytes_eq x m ≡ true = ap (bytes_eq x) (sym is) ∙ itself x in absurd (cc)

pub told_same : (x m : List ℕ) (r : Bool) → r ≡ bytes_eq x m → r ≡ true → x ≡ m
told_same x m r e t = same x m (sym e ∙ t)

pub record Whole (mark : List ℕ) (ws : List (String Global)) : Type 0 where
  pub among : false ≡ is_among mark (bytes ws)
  pub front : bytes ws ≡ before mark (bytes ws)
  pub back : [] ≡ behind mark (bytes ws)

nowhere : (mark : List ℕ) (ws : List (List ℕ)) → is_among mark ws ≡ false → position_or_len (bytes_eq mark) ws ≡ length ws
nowhere mark [] e = refl
nowhere mark (x ∷ xs) e =
    let p = neither (bytes_eq mark x) (is_among mark xs) e in
    let more : 1 + length xs ≡ suc (length xs) = omega arith in
    rw (p.0, nowhere mark xs p.1) more

pub no_mark : (mark : List ℕ) (ws : List (String Global)) (i : ℕ) → is_among mark (bytes (take i ws)) ≡ false → length ws ≤ i → Whole mark ws
no_mark mark ws i e h =
    let none : is_among mark (bytes ws) ≡ false = ap (λ xs. is_among mark (bytes xs)) (sym (all_taken ws i h)) ∙ e in
    let at : position_or_len (bytes_eq mark) (bytes ws) ≡ length (bytes ws) = nowhere mark (bytes ws) none in
    record {
      among = sym none;
      front = sym (ap (λ n. take n (bytes ws)) at ∙ take_all (bytes ws));
      back = sym (ap (λ n. drop (n + 1) (bytes ws)) at ∙ drop_all (bytes ws));
    }
  where
    take_all : (xs : List (List ℕ)) → take (length xs) xs ≡ xs
    take_all [] = refl
    take_all (x ∷ xs) = ap (λ ys. x ∷ ys) (take_all xs)

    drop_all : (xs : List (List ℕ)) → drop (length xs + 1) xs ≡ []
    drop_all [] = refl
    drop_all (x ∷ xs) = let more : length (x ∷ xs) + 1 ≡ suc (length xs + 1) = omega arith in rw more (drop_all xs)

-- nothing stands behind the end
pub none_left : (ws : List (String Global)) → bytes (take (length ws - length ws) (drop (length ws) ws)) ≡ []
none_left ws = let n : length ws - length ws ≡ 0 = omega arith in ap (λ k. bytes (take k (drop (length ws) ws))) n

-- what an insertion told
pub told_new : (f b : Bool) → f ≡ not b → f ≡ true → b ≡ false
told_new f true e t = absurd (cc)
told_new f false e t = refl

pub told_old : (f b : Bool) → f ≡ not b → f ≡ false → b ≡ true
told_old f true e t = refl
told_old f false e t = absurd (cc)

pub not_distinct : (set : List (List ℕ)) (xs ys : List (List ℕ)) (b : Bool) → set ≡ [] → (AreDistinct set → (IsTrue b ↔ AreDistinct (set ++ xs))) → b ≡ false → IsTrue false ↔ AreDistinct (xs ++ ys)
not_distinct set xs ys b empty told e =
    let f = subst (λ s. AreDistinct s → (IsTrue b ↔ AreDistinct (s ++ xs))) empty told none_twice in
    (λ t. absurd (cc), λ d. let t = f.1 (λ i j w a c. d i j w (front_stays xs ys i w a) (front_stays xs ys j w c)) in absurd (cc))
