-- Lists in one memory, as it grows.
use Rattle.std.proofs.Common.{◌≡◌, ℕ, ◌+◌, ◌≤◌, suc, List, [], ◌∷◌, ◌++◌, Option, None, Some, ◌⊎◌, ◌↔◌, map, refl, sym, ap, ◌∙◌, subst, length, take, drop, arith}
use Rattle.std.specs.Prelude.{slice_get, unwrap_or}
use Rattle.std.specs.List.{Contains}
use Rattle.std.specs.List.Sorted.{IsStrictlyIncreasing}
use Rattle.std.proofs.Math.Seq.{drop-append_seam}
use Rattle.std.proofs.lemmas.List.{take_all, take-append-le, drop-append-le, length-drop, map-append}
use Rattle.class_world.proofs.Ends.{at_last, at_first}
use Rattle.member_methods.specs.declared.lists.Part.{Part}
use Rattle.member_methods.specs.Lists.{list_of, AreWithin, list_at, IsList, Grows, IsListOf}

-- the parts read the same of longer numbers
kept_part : (numbers more : List ℕ) (p : Part) → p.from + p.len ≤ length numbers → list_of (numbers ++ more) p ≡ list_of numbers p
kept_part numbers more p le =
    let rest = length-drop p.from numbers in
    ap (take p.len) (drop-append-le p.from numbers more (omega (arith, le))) ∙ take-append-le p.len (drop p.from numbers) more (omega (arith, le, rest))

kept_parts : (numbers more : List ℕ) (parts : List Part) → AreWithin numbers parts → map (list_of (numbers ++ more)) parts ≡ map (list_of numbers) parts
kept_parts numbers more [] within = refl
kept_parts numbers more (p ∷ ps) within =
    ap (λ x. x ∷ map (list_of (numbers ++ more)) ps) (kept_part numbers more p (within 0 p refl))
    ∙ ap (λ l. list_of numbers p ∷ l) (kept_parts numbers more ps (λ k q at. within (suc k) q at))

-- the memory after a list
pub pushed : (numbers xs : List ℕ) (parts : List Part) → AreWithin numbers parts
    → map (list_of (numbers ++ xs)) (parts ++ record { from = length numbers; len = length xs } ∷ []) ≡ map (list_of numbers) parts ++ xs ∷ []
pushed numbers xs parts within =
    map-append (list_of (numbers ++ xs)) parts (part ∷ []) ∙ ap (λ l. l ++ list_of (numbers ++ xs) part ∷ []) (kept_parts numbers xs parts within)
    ∙ ap (λ l. map (list_of numbers) parts ++ l ∷ []) (ap (take (length xs)) (drop-append_seam numbers xs) ∙ take_all (length xs) xs (omega arith))
  where
    part : Part
    part = record { from = length numbers; len = length xs }

-- a list that comes last
pub list_pushed : (old new : List (List ℕ)) (xs : List ℕ) (n : ℕ) (P : ℕ → Type 0) → IsStrictlyIncreasing xs → n ≡ length old → new ≡ old ++ xs ∷ [] → ((m : ℕ) → Contains xs m ↔ P m) → IsListOf old new n P
list_pushed old new xs n P up is made has =
    let at : slice_get new n ≡ Some xs = ap (slice_get new) is ∙ ap (λ l. slice_get l (length old)) made ∙ at_last old xs in
    record {
      list = (xs, at, up);
      grows = λ k ys e. ap (λ l. slice_get l k) made ∙ at_first old xs ys k e;
      has = λ m. subst (λ l. Contains l m ↔ P m) (sym (ap (λ o. unwrap_or o []) at)) (has m);
    }

-- one that is there
pub list_there : (old : List (List ℕ)) (n : ℕ) (P : ℕ → Type 0) → IsList old n → ((m : ℕ) → Contains (list_at old (Some n)) m ↔ P m) → IsListOf old old n P
list_there old n P list has = record { list = list; grows = λ k ys e. e; has = has }

-- the same of what is said otherwise of its numbers
pub list_says : (old new : List (List ℕ)) (n : ℕ) (P Q : ℕ → Type 0) → ((m : ℕ) → P m ↔ Q m) → IsListOf old new n P → IsListOf old new n Q
list_says old new n P Q says h = record { list = h.list; grows = h.grows; has = λ m. (λ x. (says m).0 ((h.has m).0 x), λ x. (h.has m).1 ((says m).1 x)) }

-- one of two lists, if it has all
pub list_covers : (old : List (List ℕ)) (n : ℕ) (both : List ℕ) (P : ℕ → Type 0) → IsList old n → both ≡ list_at old (Some n) → ((m : ℕ) → Contains both m ↔ P m) → IsListOf old old n P
list_covers old n both P list same has = list_there old n P list (λ m. subst (λ l. Contains l m ↔ P m) same (has m))

-- the lists that were keep what they have
pub grown_at : (old new : List (List ℕ)) → Grows old new → (o : Option ℕ) → ((n : ℕ) → o ≡ Some n → IsList old n) → list_at new o ≡ list_at old o
grown_at old new grows None lists = refl
grown_at old new grows (Some n) lists =
    let h = lists n refl in
    ap (λ o. unwrap_or o []) (grows n h.0 h.1 ∙ sym h.1)

pub grown_list : (old new : List (List ℕ)) → Grows old new → (n : ℕ) → IsList old n → IsList new n
grown_list old new grows n h = (h.0, grows n h.0 h.1, h.2)

-- what two lists have, read from them
pub says_both : (old : List (List ℕ)) (a b : ℕ) (xs ys both : List ℕ) → xs ≡ list_at old (Some a) → ys ≡ list_at old (Some b) → ((m : ℕ) → Contains both m ↔ (Contains xs m ⊎ Contains ys m))
    → (m : ℕ) → Contains both m ↔ (Contains (list_at old (Some a)) m ⊎ Contains (list_at old (Some b)) m)
says_both old a b xs ys both p q has m = subst (λ l. Contains both m ↔ (Contains l m ⊎ Contains (list_at old (Some b)) m)) p (subst (λ l. Contains both m ↔ (Contains xs m ⊎ Contains l m)) q (has m))
