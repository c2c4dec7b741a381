-- Names that are put in two parts.
use Rattle.std.proofs.Common.{◌≡◌, List, [], ◌++◌, map, sym, ◌∙◌, ap}
use Rattle.std.proofs.lemmas.List.{map-append}

-- what is put behind nothing in two parts
pub in_two : {A B : Type 0} (f : A → B) (none one both : List B) (xs ys : List A) → none ≡ [] → one ≡ none ++ map f xs → both ≡ one ++ map f ys → both ≡ map f (xs ++ ys)
in_two f none one both xs ys a b c = c ∙ ap (λ z. z ++ map f ys) (b ∙ ap (λ z. z ++ map f xs) a) ∙ sym (map-append f xs ys)
