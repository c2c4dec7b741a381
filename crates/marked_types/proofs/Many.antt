-- Lists of one item, so many times.
use Rattle.std.proofs.Common.{◌≡◌, ℕ, zero, suc, ◌+◌, [], ◌∷◌, ◌++◌, refl, ap, ◌∙◌, arith}
use Rattle.marked_types.specs.Table.{so_many}

behind : {A : Type 0} (x : A) (n : ℕ) → so_many x n ++ (x ∷ []) ≡ so_many x (suc n)
behind x zero = refl
behind x (suc n) = ap (λ xs. x ∷ xs) (behind x n)

pub one_more : {A : Type 0} (x : A) (n : ℕ) → so_many x n ++ (x ∷ []) ≡ so_many x (n + 1)
one_more x n =
    let next : suc n ≡ n + 1 = omega arith in
    behind x n ∙ ap (so_many x) next
