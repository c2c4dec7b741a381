-- What ordered edits leave.
use Rattle.std.proofs.Common.{◌≡◌, ℕ, suc, ◌+◌, ◌-◌, ◌<◌, ◌≤◌, List, [], ◌∷◌, length, drop, get_or, sym, ◌∙◌, ap, arith, length-drop, add-one}
use Rattle.std.proofs.Common.{drop-cons}
use Rattle.edit_writer.specs.declared.edits.Edit.{Edit}
use Rattle.edit_writer.specs.Edits.{AreOrdered}

pub first_left : (es : List Edit) (i : ℕ) (e : Edit) → i < length es → e ≡ get_or es i e → drop i es ≡ e ∷ drop (i + 1) es
first_left es i e lt is = rw (add-one, drop-cons es i e) (ap (λ x. x ∷ drop (suc i) es) (sym is))

pub ordered_end : (at : ℕ) (es : List Edit) (end : ℕ) → AreOrdered at es end → at ≤ end
ordered_end at [] end o = o
ordered_end at (e ∷ es) end o = let after = ordered_end e.to es end o.2 in omega (arith, o.0, o.1)

-- of the edit that comes next
pub next_fits : (at : ℕ) (e : Edit) (es : List Edit) (text rest : List ℕ) → AreOrdered at (e ∷ es) (length text) → rest ≡ drop at text
    → (e.from - at ≤ length rest) × (e.to - e.from + (e.from - at) ≤ length rest)
next_fits at e es text rest o is =
    let after = ordered_end e.to es (length text) o.2 in
    let long : length rest ≡ length text - at = ap length is ∙ length-drop at text in
    (omega (arith, o.0, o.1), omega (arith, o.0, o.1))
