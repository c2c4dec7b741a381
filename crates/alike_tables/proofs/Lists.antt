-- Lists compared place by place.
use Rattle.std.proofs.Common.{◌≡◌, ℕ, ◌<◌, suc, List, [], ◌∷◌, map, length, refl, ap, ◌∙◌, arith}
use Rattle.std.specs.Prelude.{slice_get}
use Rattle.std.specs.Option.{option_map}
use Rattle.std.proofs.lemmas.Option.{same_Some, slice_get-map}

abbrev pub IsMovedAt : {A : Type 0} → (A → A) → List A → List A → ℕ → Type 0
IsMovedAt f xs ys k = slice_get ys k ≡ option_map f (slice_get xs k)

ahead : {A : Type 0} (f : A → A) (x y : A) (xs ys : List A) → y ≡ f x → ys ≡ map f xs → y ∷ ys ≡ map f (x ∷ xs)
ahead f x y xs ys first rest = cc (first, rest)

pub moved_lists : {A : Type 0} (f : A → A) (xs ys : List A) → length xs ≡ length ys → ((k : ℕ) → k < length xs → IsMovedAt f xs ys k) → ys ≡ map f xs
moved_lists f [] [] same all = refl
moved_lists f [] (y ∷ ys) same all = absurd (omega (arith, same))
moved_lists f (x ∷ xs) [] same all = absurd (omega (arith, same))
moved_lists f (x ∷ xs) (y ∷ ys) same all =
    ahead f x y xs ys (same_Some y (f x) (all 0 (omega arith))) (moved_lists f xs ys (omega (arith, same)) (λ k low. all (suc k) (omega (arith, low))))

pub moved_at : {A : Type 0} (f : A → A) (xs ys : List A) (k : ℕ) → ys ≡ map f xs → IsMovedAt f xs ys k
moved_at f xs ys k same = ap (λ l. slice_get l k) same ∙ slice_get-map f xs k
