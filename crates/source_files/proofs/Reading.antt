-- Files read one after the other.
use Rattle.std.proofs.Common.{◌≡◌, ◌<◌, ◌≤◌, ℕ, zero, suc, ◌+◌, List, [], ◌∷◌, ◌++◌, length, take, drop, min, slice_get, Option, Some, None, Result, Ok, Err, refl, sym, ap, ◌∙◌, arith, subst, append_assoc, map, get_or}
use Rattle.std.proofs.lemmas.Option.{slice_get-map, slice_get_read}
use Rattle.std.specs.Option.{option_map}
use Rattle.std.proofs.lemmas.List.{append-nil, length-take, take_all}
use Rattle.std.proofs.Math.ListN.{drop_of_length-le}
use Rattle.std.specs.Prelude.{IsErrAnd}
use Rattle.tool_files.specs.Told.{Look, Reads}
use Rattle.source_files.specs.declared.read.ReadStop.{ReadStop}
use Rattle.source_files.specs.declared.read.ReadStop.TheVariants as read
use Rattle.source_files.specs.Held.{Holds, HasRoom, AreHeld, Stop, StopsHere, StopsAt, Missing, Failed, TooLarge, TooMuch, most_of_all}
use Rattle.source_files.specs.Steps.{HasReadOne}
use Rattle.source_files.specs.Answers.{HasRead}

pub drop_at : {X : Type 0} (xs : List X) (i : ℕ) (x : X) → slice_get xs i ≡ Some x → drop i xs ≡ x ∷ drop (suc i) xs
drop_at [] i x e = absurd (cc)
drop_at (y ∷ ys) zero x e = let same : y ≡ x = cc in ap (λ z. z ∷ ys) same
drop_at (y ∷ ys) (suc i) x e = drop_at ys i x e

pub item : {A B : Type 0} (f : A → B) (xs : List A) (i : ℕ) (x : A) → i < length xs → x ≡ get_or xs i x → slice_get (map f xs) i ≡ Some (f x)
item f xs i x h e = slice_get-map f xs i ∙ ap (option_map f) (slice_get_read xs (length xs) i x refl h e)

-- an error that `?` passes on
pub passed_up : {T E : Type 0} (r : Result T E) (e : E) (P : Result T E → Type 0) → IsErrAnd r (λ y. y ≡ e) → P (Err e) → P r
passed_up (Ok x) e P is p = absurd is
passed_up (Err y) e P is p = subst (λ z. P (Err z)) (sym is) p

-- ---- one file

-- What was read is the whole file, where it is no more than a file may have.
pub read_whole : (look : Option Look) (name front text : List ℕ) → front ≡ [] → Reads look name 1048577 front text → length text ≤ 1048576 → Holds look name text
read_whole None name front text none reads low = tt
read_whole (Some look) name front text none (bytes, has, is) low =
    let part : text ≡ take 1048577 bytes = is ∙ ap (λ f. f ++ take 1048577 bytes) none in
    let size : length text ≡ min 1048577 (length bytes) = ap length part ∙ length-take 1048577 bytes in
    let all : text ≡ bytes = part ∙ take_all 1048577 bytes (omega (arith, size, low)) in
    has ∙ ap Some (sym all)

-- the file holds more bytes than a bound below that
pub read_large : (look : Option Look) (name front text : List ℕ) → front ≡ [] → Reads look name 1048577 front text → 1048576 < length text
    → (bytes : List ℕ) × Holds look name bytes × (1048576 < length bytes)
read_large None name front text none reads more = (text, tt, more)
read_large (Some look) name front text none (bytes, has, is) more =
    let part : text ≡ take 1048577 bytes = is ∙ ap (λ f. f ++ take 1048577 bytes) none in
    let size : length text ≡ min 1048577 (length bytes) = ap length part ∙ length-take 1048577 bytes in
    (bytes, has, omega (arith, size, more))

-- ---- the files so far

-- i files are read, and the others decide how it ends
pub record Reading (look : Option Look) (names : List (List ℕ)) (i bytes : ℕ) (texts : List (List ℕ)) : Type 0 where
  pub held : (xs : List (List ℕ)) → AreHeld look bytes (drop i names) xs → AreHeld look 0 names (texts ++ xs)
  pub stops : (k : ℕ) (stop : Stop) → StopsAt look bytes (drop i names) k stop → StopsAt look 0 names (k + i) stop
  pub few : bytes ≤ most_of_all

pub reading_none : (look : Option Look) (names : List (List ℕ)) → Reading look names 0 0 []
reading_none look names = record {
  held = λ xs h. h;
  stops = λ k stop h. let e : k ≡ k + 0 = omega arith in subst (λ n. StopsAt look 0 names n stop) e h;
  few = omega arith;
}

module _ (look : Option Look) (names : List (List ℕ)) (i bytes : ℕ) (texts : List (List ℕ)) (r : Reading look names i bytes texts) (name : List ℕ) (at : slice_get names i ≡ Some name) where
  pub reading_more : (text : List ℕ) → Holds look name text × HasRoom bytes text → Reading look names (i + 1) (bytes + length text) (texts ++ text ∷ [])
  reading_more text (holds, room) =
      let next : i + 1 ≡ suc i = omega arith in
      let cut : drop i names ≡ name ∷ drop (i + 1) names = rw next (drop_at names i name at) in
      record {
        held = λ xs h. subst (λ ys. AreHeld look 0 names ys) (sym (append_assoc texts (text ∷ []) xs))
            (r.held (text ∷ xs) (subst (λ ns. AreHeld look bytes ns (text ∷ xs)) (sym cut) (holds, room, h)));
        stops = λ k stop h.
            let e : suc k + i ≡ k + (i + 1) = omega arith in
            subst (λ n. StopsAt look 0 names n stop) e (r.stops (suc k) stop (subst (λ ns. StopsAt look bytes ns (suc k) stop) (sym cut) (text, holds, room, h)));
        few = room.1;
      }

  here : (stop : Stop) → StopsHere look bytes name stop → StopsAt look 0 names i stop
  here stop h =
      let e : 0 + i ≡ i = omega arith in
      subst (λ n. StopsAt look 0 names n stop) e (r.stops 0 stop (subst (λ ns. StopsAt look bytes ns 0 stop) (sym (drop_at names i name at)) h))

  -- what stops at this file
  pub reading_stops : (stop : ReadStop) → HasReadOne look bytes name i (Err stop) → HasRead look names (Err stop)
  reading_stops (read.Missing n) (e, h) = subst (λ k. StopsAt look 0 names k Missing) (sym e) (here Missing h)
  reading_stops (read.Failed n) (e, h) = subst (λ k. StopsAt look 0 names k Failed) (sym e) (here Failed h)
  reading_stops read.TooLarge h = (i, here TooLarge h)
  reading_stops read.TooMuch h = (i, here TooMuch h)
  reading_stops read.NoMemory h = tt

pub reading_all : (look : Option Look) (names : List (List ℕ)) (i bytes : ℕ) (texts : List (List ℕ)) → Reading look names i bytes texts → length names ≤ i → AreHeld look 0 names texts
reading_all look names i bytes texts r past =
    subst (λ ys. AreHeld look 0 names ys) (append-nil texts) (r.held [] (subst (λ ns. AreHeld look bytes ns []) (sym (drop_of_length-le names past)) refl))
