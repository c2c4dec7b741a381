-- Lists of numbers that are counted up, and maps that are led back.
use Rattle.std.proofs.Common.{◌≡◌, ◌<◌, ℕ, ◌+◌, List, length, Option, Some, None, refl, sym, ap, ◌∙◌, arith}
use Rattle.std.specs.Prelude.{slice_get}
use Rattle.std.proofs.lemmas.Option.{slice_get_within}
use Rattle.program_maps.specs.declared.numbers.Numbers.{Numbers}
use Rattle.program_maps.specs.Ways.{IsOneToOne, LeadsBack, goes_to, or_behind}

-- the list has f of each of the first n numbers
pub record Counts {X : Type 0} (f : ℕ → X) (n : ℕ) (xs : List X) : Type 0 where
  pub long : length xs ≡ n
  pub each : (i : ℕ) → i < n → slice_get xs i ≡ Some (f i)

-- ---- no two numbers go to one

-- a number of the list is led back to itself, and one beyond goes past the end
data Standing (x : Numbers) (i : ℕ) : Type 0 where
  within : (k : ℕ) → slice_get x.to i ≡ Some k → goes_to x i ≡ k → Standing x i
  beyond : goes_to x i ≡ length x.back + i → Standing x i

standing : (x : Numbers) (i : ℕ) → Standing x i
standing x i = by (slice_get x.to i) refl
  where
    by : (o : Option ℕ) → slice_get x.to i ≡ o → Standing x i
    by None is = beyond (ap (or_behind (length x.back + i)) is)
    by (Some k) is = within k is (ap (or_behind (length x.back + i)) is)

pub one_to_one : (x : Numbers) → LeadsBack x → IsOneToOne (goes_to x)
one_to_one x back i j same = by (standing x i) (standing x j)
  where
    low : (i k : ℕ) → slice_get x.to i ≡ Some k → k < length x.back
    low i k is = slice_get_within x.back k (Some i) (back i k is)

    by : Standing x i → Standing x j → i ≡ j
    by (within k is goes) (within l is' goes') =
        let one : k ≡ l = sym goes ∙ same ∙ goes' in
        let both : Some (Some i) ≡ Some (Some j) = sym (back i k is) ∙ ap (slice_get x.back) one ∙ back j l is' in cc both
    by (within k is goes) (beyond goes') = absurd (omega (arith, low i k is, goes, same, goes'))
    by (beyond goes) (within l is' goes') = absurd (omega (arith, low j l is', goes, same, goes'))
    by (beyond goes) (beyond goes') = omega (arith, goes, same, goes')
