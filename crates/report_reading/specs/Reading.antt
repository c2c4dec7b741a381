-- Reading from left to right, as functions of lists.
use Rattle.std.specs.Prelude.{◌≡◌, ℕ, ◌-◌, ◌^◌, ◌&&◌, ◌==◌, if◌then◌else◌, nat_le, nat_lt, List, [], ◌∷◌, ◌++◌, length, take, drop, Option, Some, None, Result, Ok, Err, codes}
use Rattle.std.specs.Fmt.{decimal}
use Rattle.std.specs.List.{list_all}
use Rattle.std.specs.Str.{bytes_eq}
use Rattle.std.specs.Str.Parse.{digits_value}
use Rattle.report_reading.specs.declared.stop.Stop.{Stop}
use Rattle.report_reading.specs.declared.stop.Stop.TheVariants.{Memory, Form}
use Rattle.report_reading.specs.Words.{is_word_byte, is_path, is_kind}
use Rattle.report_reading.specs.Lines.{Parts, EditOf, CreateOf, KeptOf, DoneOf}

infixl 10 ◌>>=◌
abbrev pub ◌>>=◌ : {A B : Type 0} → Option A → (A → Option B) → Option B
(Some x) >>= f = f x
None >>= f = None

-- What a function returned, seen by view, is what reading gives, unless memory ran out.
abbrev pub Fails : {Y : Type 0} → Stop → Option Y → Type 0
Fails Memory read = Unit {0}
Fails Form read = read ≡ None

abbrev pub Gives : {X Y : Type 0} → (X → Y) → Result X Stop → Option Y → Type 0
Gives view (Ok x) read = read ≡ Some (view x)
Gives view (Err e) read = Fails e read

-- the bytes before the first `end`, with what came before, and the bytes behind it
abbrev pub seek : ℕ → List ℕ → List ℕ → Option (List ℕ × List ℕ)
seek end front [] = None
seek end front (b ∷ bs) = if b == end then Some (front, bs) else seek end (front ++ b ∷ []) bs

-- what is read of the word that stands before `end`, and the bytes behind it
unfoldable pub field : {X : Type 0} → (List ℕ → Option X) → ℕ → List ℕ → Option (X × List ℕ)
field of end text = do
  word ← seek end [] text
  x ← of word.0
  Some (x, word.1)

unfoldable pub text_of : List ℕ → Option (List ℕ)
text_of word = if list_all is_word_byte word then Some word else None

unfoldable pub path_of : List ℕ → Option (List ℕ)
path_of word = if is_path word then text_of word else None

unfoldable pub kind_of : List ℕ → Option (List ℕ)
kind_of word = if is_kind word then text_of word else None

-- a number up to `most`, without a leading zero
unfoldable pub number_of : ℕ → List ℕ → Option ℕ
number_of most word = if nat_le (digits_value 10 word) most && bytes_eq word (decimal (digits_value 10 word)) then Some (digits_value 10 word) else None

unfoldable pub place_of : List ℕ → Option (List ℕ)
place_of word = do
  file ← seek 58 [] word
  at ← seek 58 [] file.1
  line ← number_of (2 ^ 32 - 1) at.0
  col ← number_of (2 ^ 32 - 1) at.1
  if is_path file.0 then text_of word else None

-- what stands behind these bytes
unfoldable pub after : List ℕ → List ℕ → Option (List ℕ)
after front text = if bytes_eq (take (length front) text) front then Some (drop (length front) text) else None

unfoldable pub bytes_at : ℕ → List ℕ → Option (List ℕ × List ℕ)
bytes_at size text = if nat_lt (length text) size then None else Some (take size text, drop size text)

-- Each line from behind its first word.
unfoldable pub edit_at : List ℕ → Option (Parts × List ℕ)
edit_at text = do
  file ← field path_of 32 text
  from ← field (number_of (2 ^ 32 - 1)) 32 file.1
  to ← field (number_of (2 ^ 32 - 1)) 32 from.1
  size ← field (number_of (2 ^ 64 - 1)) 32 to.1
  made ← bytes_at size.0 size.1
  rest ← after (10 ∷ []) made.1
  Some (EditOf file.0 (record { from = from.0; to = to.0; text = made.0 }), rest)

unfoldable pub create_at : List ℕ → Option (Parts × List ℕ)
create_at text = do
  file ← field path_of 32 text
  size ← field (number_of (2 ^ 64 - 1)) 10 file.1
  Some (CreateOf file.0 size.0, size.1)

unfoldable pub done_at : List ℕ → Option (Parts × List ℕ)
done_at text = do
  edits ← field (number_of (2 ^ 32 - 1)) 32 text
  rest ← after (codes "edits" ++ (10 ∷ [])) edits.1
  Some (DoneOf edits.0, rest)

-- of a kept place, from behind `because` or `needs`
unfoldable pub because_at : List ℕ → List ℕ → Option (Parts × List ℕ)
because_at place text = do
  kind ← field kind_of 32 text
  node ← field place_of 32 kind.1
  behind ← after (codes "then ") node.1
  next ← field place_of 10 behind
  Some (KeptOf (record { place = place; kind = kind.0; node = node.0; next = Some next.0 }), next.1)

unfoldable pub needs_at : List ℕ → List ℕ → Option (Parts × List ℕ)
needs_at place text = do
  kind ← field kind_of 32 text
  node ← field place_of 10 kind.1
  Some (KeptOf (record { place = place; kind = kind.0; node = node.0; next = None }), node.1)

-- by what stands behind a word, where it is there
abbrev pub choose : {X : Type 0} → Option (List ℕ) → (List ℕ → Option X) → Option X → Option X
choose (Some rest) f other = f rest
choose None f other = other

unfoldable pub kept_at : List ℕ → Option (Parts × List ℕ)
kept_at text = do
  place ← field place_of 32 text
  choose (after (codes "because ") place.1) (because_at place.0) (choose (after (codes "needs ") place.1) (needs_at place.0) None)

unfoldable pub line_at : List ℕ → Option (Parts × List ℕ)
line_at text =
    choose (after (codes "edit ") text) edit_at
    (choose (after (codes "create ") text) create_at
    (choose (after (codes "kept ") text) kept_at
    (choose (after (codes "done ") text) done_at None)))
