-- Small facts on tests and options.
use Rattle.std.proofs.Common.{◌≡◌, ℕ, zero, suc, Bool, true, false, ◌&&◌, List, [], ◌∷◌, Option, Some, refl, sym, ap, ◌∙◌}
use Rattle.std.specs.Prelude.{slice_get}
use Rattle.std.specs.List.{list_all}

pub both : (a b : Bool) → a && b ≡ true → (a ≡ true) × (b ≡ true)
both true b e = (refl, e)
both false b e = absurd (cc e)

-- what stands at a number is one
pub one_there : {A : Type 0} (o : Option A) (x y : A) → o ≡ Some x → o ≡ Some y → x ≡ y
one_there o x y e f = cc (e, f)

-- a test that each element passes, at one of them
pub all_at : {A : Type 0} (test : A → Bool) (xs : List A) (j : ℕ) (x : A) → list_all test xs ≡ true → slice_get xs j ≡ Some x → test x ≡ true
all_at test [] j x all e = absurd (cc e)
all_at test (y ∷ ys) zero x all e = let same : y ≡ x = cc e in ap test (sym same) ∙ (both (test y) (list_all test ys) all).0
all_at test (y ∷ ys) (suc j) x all e = all_at test ys j x (both (test y) (list_all test ys) all).1 e
