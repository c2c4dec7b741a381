-- Types with what stands before them.
use Rattle.std.proofs.Common.{◌≡◌, ℕ, ◌+◌, ◌<◌, suc, List, ◌∷◌, ◌++◌, map, drop, length, drop-cons, append_assoc, sym, ap, ◌∙◌, arith}
use Rattle.std.specs.Prelude.{codes, slice_index_or as get_or}
use Rattle.java_core.specs.declared.written.CoreType.{CoreType, out-CoreType}
use Rattle.java_core.specs.View.{type_row, written}
use Rattle.java_core.proofs.Views.{type_out}
use Rattle.interface_text.specs.declared.extraction.Extraction.{Extraction}
use Rattle.interface_text.specs.Types.{args_text, bare_text, head_text, levels, row_text, said}
use Rattle.interface_text.proofs.Steps.{levels_said}

-- a head and then the arguments
pub bare_behind : (q : Extraction) (x : CoreType) (old head bytes mid new : List ℕ) (args : List CoreType)
    → head ≡ head_text q (out-CoreType x).node.id (out-CoreType x).ty → bytes ≡ head → mid ≡ old ++ bytes → args ≡ (out-CoreType x).args
    → new ≡ mid ++ args_text q (type_row (map written args)) → new ≡ old ++ bare_text q (written x)
bare_behind q x old head bytes mid new args is same first are rest =
    let head_of : List ℕ = head_text q (out-CoreType x).node.id (out-CoreType x).ty in
    let args_of : List ℕ = args_text q (type_row (map written (out-CoreType x).args)) in
    let front : mid ≡ old ++ head_of = first ∙ ap (λ (z : List ℕ). old ++ z) (same ∙ is) in
    let whole : new ≡ mid ++ args_of = rest ∙ ap (λ ys. mid ++ args_text q (type_row (map written ys))) are in
    whole ∙ ap (λ (z : List ℕ). z ++ args_of) front ∙ append_assoc old head_of args_of ∙ ap (λ w. old ++ bare_text q w) (sym (type_out x))

four : (a b c d e : List ℕ) → (((a ++ b) ++ c) ++ d) ++ e ≡ a ++ (b ++ ((c ++ d) ++ e))
four a b c d e =
    append_assoc ((a ++ b) ++ c) d e ∙ append_assoc (a ++ b) c (d ++ e) ∙ append_assoc a b (c ++ (d ++ e))
    ∙ ap (λ (z : List ℕ). a ++ (b ++ z)) (sym (append_assoc c d e))

split : (x : CoreType) (xs : List CoreType) (i : ℕ) → i < length xs → x ≡ get_or xs i x → drop i xs ≡ x ∷ drop (i + 1) xs
split x xs i lt at = drop-cons xs i x lt ∙ ap (λ z. z ∷ drop (suc i) xs) (sym at) ∙ ap (λ n. x ∷ drop n xs) next
  where
    next : suc i ≡ i + 1
    next = omega arith

-- the next of a row
pub row_next : (q : Extraction) (xs : List CoreType) (i : ℕ) (x : CoreType) (before old opened bare new target : List ℕ) → i < length xs → x ≡ get_or xs i x
    → opened ≡ old ++ before → bare ≡ opened ++ bare_text q (written x) → new ≡ bare ++ levels (out-CoreType x).ty
    → old ++ row_text q before (type_row (map written (drop i xs))) ≡ target
    → new ++ row_text q (codes ", ") (type_row (map written (drop (i + 1) xs))) ≡ target
row_next q xs i x before old opened bare new target lt at e1 e2 e3 so =
    let rest : List ℕ = row_text q (codes ", ") (type_row (map written (drop (i + 1) xs))) in
    let says : List ℕ = bare_text q (written x) in
    let put : new ≡ ((old ++ before) ++ says) ++ levels (said (written x)) =
    e3 ∙ ap (λ (z : List ℕ). z ++ levels (out-CoreType x).ty) (e2 ∙ ap (λ (z : List ℕ). z ++ says) e1)
    ∙ ap (λ (z : List ℕ). ((old ++ before) ++ says) ++ z) (sym (levels_said x)) in
    ap (λ (z : List ℕ). z ++ rest) put ∙ four old before says (levels (said (written x))) rest
    ∙ ap (λ ys. old ++ row_text q before (type_row (map written ys))) (sym (split x xs i lt at)) ∙ so
