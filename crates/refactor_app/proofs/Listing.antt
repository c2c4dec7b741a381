-- Lists that grow beside a walk over another one.
use Rattle.std.proofs.Common.{◌≡◌, ℕ, ◌+◌, ◌<◌, List, [], ◌∷◌, ◌++◌, map, length, drop, get_or, refl, sym, ap, ◌∙◌, append_assoc}
use Rattle.std.proofs.lemmas.List.{drop_more}

map_behind : {A B : Type 0} (F : A → B) (xs : List A) (x : A) → map F (xs ++ (x ∷ [])) ≡ map F xs ++ (F x ∷ [])
map_behind F [] x = refl
map_behind F (y ∷ ys) x = ap (λ l. F y ∷ l) (map_behind F ys x)

-- F says of what is put what G says of the next item
pub told_next : {A B C : Type 0} (F : A → C) (G : B → C) (put : List A) (one : A) (xs : List B) (i : ℕ) (other : B) (whole : List C) → i < length xs → F one ≡ G (get_or xs i other)
    → map F put ++ map G (drop i xs) ≡ whole → map F (put ++ (one ∷ [])) ++ map G (drop (i + 1) xs) ≡ whole
told_next F G put one xs i other whole low same so_far =
    let rest = map G (drop (i + 1) xs) in
    ap (λ l. l ++ rest) (map_behind F put one) ∙ append_assoc (map F put) (F one ∷ []) rest ∙ ap (λ y. map F put ++ (y ∷ rest)) same
    ∙ ap (λ l. map F put ++ map G l) (sym (drop_more xs i other low)) ∙ so_far
