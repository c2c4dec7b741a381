-- Sizes of arrays, one more at a time.
use Rattle.std.proofs.Common.{◌≡◌, List, [], ◌∷◌, ◌++◌, map, refl, ap, ◌∙◌, sym}
use Rattle.java_core.specs.declared.expr.CoreExpr.{CoreExpr}
use Rattle.java_core.specs.View.{plain}
use Rattle.operator_rules.specs.Operators.{size, sizes}

last_of : {A B : Type 0} (f : A → B) (xs : List A) (x : A) → map f (xs ++ x ∷ []) ≡ map f xs ++ f x ∷ []
last_of f [] x = refl
last_of f (y ∷ ys) x = ap (λ zs. f y ∷ zs) (last_of f ys x)

pub one_more : (xs done after : List CoreExpr) (x y : CoreExpr) → plain y ≡ size (plain x) → after ≡ done ++ y ∷ [] → map plain done ≡ sizes (map plain xs)
    → map plain after ≡ sizes (map plain (xs ++ x ∷ []))
one_more xs done after x y is more so_far =
    ap (map plain) more ∙ last_of plain done y ∙ ap (λ zs. zs ++ plain y ∷ []) so_far ∙ ap (λ z. sizes (map plain xs) ++ z ∷ []) is
    ∙ sym (last_of size (map plain xs) (plain x)) ∙ ap sizes (sym (last_of plain xs x))
