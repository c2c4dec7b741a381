-- Edits of a text, in order and without overlap: every byte outside them stays.
use Rattle.std.specs.Prelude.{ℕ, ◌-◌, ◌≤◌, List, [], ◌∷◌, ◌++◌, take, drop}
use Rattle.edit_writer.specs.declared.edits.Edit.{Edit}

-- what the edits make of the text from the byte `at` on
abbrev pub made : ℕ → List Edit → List ℕ → List ℕ
made at [] text = drop at text
made at (e ∷ es) text = take (e.from - at) (drop at text) ++ (e.text ++ made e.to es text)

abbrev pub edited : List Edit → List ℕ → List ℕ
edited es text = made 0 es text

-- each begins where the one before ends or later, and none passes the end of the text
abbrev pub AreOrdered : ℕ → List Edit → ℕ → Type 0
AreOrdered at [] end = at ≤ end
AreOrdered at (e ∷ es) end = (at ≤ e.from) × (e.from ≤ e.to) × AreOrdered e.to es end
