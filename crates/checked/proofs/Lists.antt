-- Lists of what was checked, one more at a time.
use Rattle.std.proofs.Common.{◌≡◌, List, [], ◌∷◌, ◌++◌, map, refl, ap}
use Rattle.std.proofs.lemmas.List.{append-nil}
use Rattle.checked.specs.Checked.{Checked, Fine, Broken, behind, also}

more : {X A : Type 0} (f : X → A) (ds : List X) (x : X) (xs : List A) → map f (ds ++ x ∷ []) ++ xs ≡ map f ds ++ (f x ∷ xs)
more f [] x xs = refl
more f (d ∷ ds) x xs = ap (λ zs. f d ∷ zs) (more f ds x xs)

-- what was checked, with one more
pub last_of : {X A : Type 0} (f : X → A) (done : List X) (x : X) (c : Checked (List A)) → behind (map f (done ++ x ∷ [])) c ≡ behind (map f done) (also (f x) c)
last_of f ds x (Fine xs) = ap (λ zs. Fine zs) (more f ds x xs)
last_of f ds x (Broken n r) = refl

pub end_of : {A : Type 0} (xs : List A) → behind xs (Fine []) ≡ Fine xs
end_of xs = ap (λ zs. Fine zs) (append-nil xs)
