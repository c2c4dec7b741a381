use Rattle.std.proofs.Common.{◌≡◌, ℕ, List, [], ◌∷◌, ◌++◌, length, append_assoc, sym, ◌∙◌, ap}
use Rattle.std.specs.Prelude.{codes}
use Rattle.std.specs.Fmt.{decimal}
use Rattle.report_text.specs.Report.{spaced, line_of, one_edit}
use Rattle.report_text.proofs.report.edit_report.Goals as goal

three : (a b c z : List ℕ) → (a ++ (32 ∷ (b ++ (32 ∷ (c ++ (32 ∷ [])))))) ++ z ≡ a ++ (32 ∷ (b ++ (32 ∷ (c ++ (32 ∷ z)))))
three a b c z = append_assoc a (32 ∷ (b ++ (32 ∷ (c ++ (32 ∷ []))))) z ∙ ap (λ (x : List ℕ). a ++ (32 ∷ x)) (append_assoc b (32 ∷ (c ++ (32 ∷ []))) z ∙ ap (λ (x : List ℕ). b ++ (32 ∷ x)) (append_assoc c (32 ∷ []) z))

joined : (r front s rest file from to len text : List ℕ) → r ≡ front ++ s → s ≡ rest → front ≡ spaced (codes "edit" ∷ file ∷ from ∷ to ∷ []) → rest ≡ line_of (len ∷ text ∷ []) ++ one_edit
    → r ≡ line_of (codes "edit" ∷ file ∷ from ∷ to ∷ len ∷ text ∷ []) ++ one_edit
joined r front s rest file from to len text e h f g =
    e ∙ rw (h, f, g) (ap (λ (x : List ℕ). codes "edit" ++ (32 ∷ x)) (three file from to (line_of (len ∷ text ∷ []) ++ one_edit) ∙ sym (on file from to (line_of (len ∷ text ∷ [])) one_edit)))
  where
    on : (a b c y z : List ℕ) → (a ++ (32 ∷ (b ++ (32 ∷ (c ++ (32 ∷ y)))))) ++ z ≡ a ++ (32 ∷ (b ++ (32 ∷ (c ++ (32 ∷ (y ++ z))))))
    on a b c y z = append_assoc a (32 ∷ (b ++ (32 ∷ (c ++ (32 ∷ y))))) z ∙ ap (λ (x : List ℕ). a ++ (32 ∷ x)) (append_assoc b (32 ∷ (c ++ (32 ∷ y))) z ∙ ap (λ (x : List ℕ). b ++ (32 ∷ x)) (append_assoc c (32 ∷ y) z))

pub returns : goal.returns
returns c =
    let e = c.args.edit.now in
    joined _ _ _ _ c.args.file.now (decimal e.from) (decimal e.to) (decimal (length e.text)) e.text
    c.in_ok-push_str.ensures.bytes c.as_str.ensures.value c.in_ok-report.ensures (c.in_ok-rest.ensures ∙ ap (λ (x : List ℕ). line_of (decimal (length x) ∷ x ∷ []) ++ one_edit) c.requires)
