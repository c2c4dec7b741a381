-- Operations that need a string, in the words of the code.
use Rattle.std.proofs.Common.{◌≡◌, ℕ, suc, ◌-◌, Bool, true, false, cond, ltb, negsuc, ◌%◌, ◌^◌, ◌<◌, ◌≤◌, ℤ, pos, ◌≤ℤ◌, unsigned_abs, List, length, Option, Some, None, refl, slice_get, get_or, arith, tests, ap, sym, ◌∙◌, int_le, int_lt}
use Rattle.std.proofs.Math.Nat.{mod-le}
use Rattle.std.proofs.lemmas.Int.{ints}
use Rattle.std.proofs.lemmas.Option.{slice_get-get_or}
use Rattle.std.specs.Int.{w32, cast_signed, int_wrap}
use Rattle.core_meaning.specs.declared.values.Value.{Value}
use Rattle.core_meaning.specs.declared.values.Value.TheVariants as v
use Rattle.core_meaning.specs.declared.values.State.{State}
use Rattle.core_meaning.specs.Outcome.{Outcome, Gives, with_reference, with_some, with_units}
use Rattle.core_meaning.specs.Texts.{length_of}
use Rattle.core_meaning.specs.Members.{char_at}
use Rattle.java_strings.proofs.Comparing.{low_length}
use Rattle.run_frames.specs.Frames.{valued}
use Rattle.run_calls.specs.Units.{object_in, refused, units_in}

abbrev pub or_refused : {A B : Type 0} → Option A → Value → State → (A → Outcome B) → Outcome B
or_refused None a s f = refused a s
or_refused (Some xs) a s f = f xs

text_by : {B : Type 0} (k : ℕ) (s : State) (f : List ℕ → Outcome B) (o : Option (List ℕ)) → with_some o s f ≡ or_refused o (v.Text k) s f
text_by k s f None = refl
text_by k s f (Some xs) = refl

pub with_units_by : {B : Type 0} (a : Value) (s : State) (f : List ℕ → Outcome B) → with_units a s f ≡ or_refused (units_in a s) a s f
with_units_by v.Null s f = refl
with_units_by (v.Text k) s f = text_by k s f (slice_get s.texts k)
with_units_by (v.Int z) s f = refl
with_units_by (v.Long z) s f = refl
with_units_by (v.Char z) s f = refl
with_units_by (v.Truth z) s f = refl
with_units_by (v.Ref z) s f = refl

pub with_reference_by : {B : Type 0} (a : Value) (s : State) (f : ℕ → Outcome B) → with_reference a s f ≡ or_refused (object_in a) a s f
with_reference_by v.Null s f = refl
with_reference_by (v.Ref r) s f = refl
with_reference_by (v.Int z) s f = refl
with_reference_by (v.Long z) s f = refl
with_reference_by (v.Char z) s f = refl
with_reference_by (v.Truth z) s f = refl
with_reference_by (v.Text z) s f = refl

-- ---- indices

-- how long a string says it is is never more than it has
signed_at_most : (m n : ℕ) → m ≤ n → cast_signed w32 m ≤ℤ pos n
signed_at_most m n h = by (ltb m (2 ^ 31))
  where
    by : (t : Bool) → cond t (pos m) (negsuc (2 ^ 32 - suc m)) ≤ℤ pos n
    by true = omega (arith, ints)
    by false = omega (arith, ints)

pub low_at_most : (n : ℕ) → int_wrap w32 (pos n) ≤ℤ pos n
low_at_most n = rw (← low_length n) (signed_at_most (n % 2 ^ 32) n (mod-le n (2 ^ 32)))

-- ---- answers

pub reference_refused : (a : Value) (s : State) (f : ℕ → Outcome Value) → object_in a ≡ None → valued (with_reference a s f) ≡ refused a s
reference_refused v.Null s f e = refl
reference_refused (v.Ref r) s f e = search e
reference_refused (v.Int z) s f e = refl
reference_refused (v.Long z) s f e = refl
reference_refused (v.Char z) s f e = refl
reference_refused (v.Truth z) s f e = refl
reference_refused (v.Text z) s f e = refl

pub units_refused : (a : Value) (s : State) (f : List ℕ → Outcome Value) → units_in a s ≡ None → valued (with_units a s f) ≡ refused a s
units_refused v.Null s f e = refl
units_refused (v.Text k) s f e = rw e refl
units_refused (v.Int z) s f e = refl
units_refused (v.Long z) s f e = refl
units_refused (v.Char z) s f e = refl
units_refused (v.Truth z) s f e = refl
units_refused (v.Ref z) s f e = refl

pub reference_read : (a : Value) (r : ℕ) (s : State) (f : ℕ → Outcome Value) → object_in a ≡ Some r → with_reference a s f ≡ f r
reference_read a r s f e = with_reference_by a s f ∙ ap (λ o. or_refused o a s f) e

pub units_read : (a : Value) (xs : List ℕ) (s : State) (f : List ℕ → Outcome Value) → units_in a s ≡ Some xs → with_units a s f ≡ f xs
units_read a xs s f e = with_units_by a s f ∙ ap (λ o. or_refused o a s f) e

pub unit_there : (xs : List ℕ) (z y t : ℤ) (n : ℕ) (s : State) → y ≡ z → t ≡ length_of xs → int_le (pos 0) y ≡ true → int_lt y t ≡ true → n ≡ unsigned_abs z
    → Gives (v.Char (get_or xs n 0)) s ≡ char_at xs z s
unit_there xs z y t n s same end low high is =
    let first : int_le (pos 0) z ≡ true = ap (int_le (pos 0)) (sym same) ∙ low in
    let second : int_lt z (length_of xs) ≡ true = ap (λ u. int_lt u (length_of xs)) (sym same) ∙ ap (int_lt y) (sym end) ∙ high in
    let longer = low_at_most (length xs) in
    let within : n < length xs = grind (arith, ints, tests, longer) in
    let got : slice_get xs (unsigned_abs z) ≡ Some (get_or xs n 0) = ap (slice_get xs) (sym is) ∙ slice_get-get_or xs n 0 within in
    rw (first, second, got) refl
