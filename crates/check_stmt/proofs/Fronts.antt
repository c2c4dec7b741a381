-- Lists that go on others.
use Rattle.std.proofs.Common.{◌≡◌, List, [], ◌∷◌, ◌++◌, take, length, refl, sym, ap, ◌∙◌, append_assoc}
use Rattle.std.proofs.lemmas.List.{append-nil}
use Rattle.type_facts.specs.declared.scope.LocalVar.{LocalVar}
use Rattle.check_stmt.specs.Fronts.{IsFront}

pub front_same : (xs : List LocalVar) → IsFront xs xs
front_same xs = ([], sym (append-nil xs))

pub front_push : (xs : List LocalVar) (x : LocalVar) → IsFront xs (xs ++ x ∷ [])
front_push xs x = (x ∷ [], refl)

pub front_then : (xs ys zs : List LocalVar) → IsFront xs ys → IsFront ys zs → IsFront xs zs
front_then xs ys zs h k = (h.0 ++ k.0, k.1 ∙ ap (λ ys. ys ++ k.0) h.1 ∙ append_assoc xs h.0 k.0)

taken : (xs rest : List LocalVar) → take (length xs) (xs ++ rest) ≡ xs
taken [] rest = refl
taken (x ∷ xs) rest = ap (λ xs. x ∷ xs) (taken xs rest)

pub front_take : (xs ys : List LocalVar) → IsFront xs ys → take (length xs) ys ≡ xs
front_take xs ys h = ap (λ ys. take (length xs) ys) h.1 ∙ taken xs h.0
