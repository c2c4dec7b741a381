-- The text of the lines of an extracted interface is its report.
use Rattle.std.proofs.Common.{◌≡◌, ℕ, List, [], ◌∷◌, ◌++◌, length, map, refl, ap, ◌∙◌, append_assoc}
use Rattle.std.specs.Prelude.{flat_map}
use Rattle.std.specs.List.{sum_by}
use Rattle.std.proofs.lemmas.Grind.{flat_map-append}
use Rattle.std.proofs.lemmas.List.{append-nil}
use Rattle.std.proofs.lemmas.List.Concat.{flat_map-cons}
use Rattle.std.proofs.lemmas.List.Folds.{flat_map-map}
use Rattle.edit_writer.specs.declared.edits.Edit.{Edit}
use Rattle.report_text.specs.Report.{KeptParts, edit_lines, create_line, done_edits, kept_line, extract_report}
use Rattle.report_reading.specs.Lines.{Parts, EditOf, CreateOf, KeptOf, DoneOf, line_text, lines_text, lines_of_edits, extract_lines}

edits_text : (files : List (List ℕ)) (edits : List (List Edit)) → lines_text (lines_of_edits files edits) ≡ edit_lines files edits
edits_text [] edits = refl
edits_text (file ∷ files) [] = refl
edits_text (file ∷ files) (es ∷ ess) =
    flat_map-append line_text (map (EditOf file) es) (lines_of_edits files ess)
    ∙ ap (λ (x : List ℕ). x ++ lines_text (lines_of_edits files ess)) (flat_map-map line_text (EditOf file) es)
    ∙ ap (λ (x : List ℕ). flat_map (λ e. line_text (EditOf file e)) es ++ x) (edits_text files ess)

ends_text : (kept : List KeptParts) (edits : ℕ) → lines_text (map KeptOf kept ++ DoneOf edits ∷ []) ≡ flat_map kept_line kept ++ done_edits edits
ends_text kept edits =
    flat_map-append line_text (map KeptOf kept) (DoneOf edits ∷ [])
    ∙ ap (λ (x : List ℕ). x ++ lines_text (DoneOf edits ∷ [])) (flat_map-map line_text KeptOf kept)
    ∙ ap (λ (x : List ℕ). flat_map kept_line kept ++ x) (flat_map-cons line_text (DoneOf edits) [] ∙ append-nil (done_edits edits))

regroup : (a b c d : List ℕ) → a ++ (b ++ (c ++ d)) ≡ a ++ b ++ c ++ d
regroup a b c d = simp append_assoc

pub extract_text : (files : List (List ℕ)) (edits : List (List Edit)) (created : List ℕ) (bytes : ℕ) (kept : List KeptParts)
    → lines_text (extract_lines files edits created bytes kept) ≡ extract_report files edits created bytes kept
extract_text files edits created bytes kept =
    let behind : List Parts = map KeptOf kept ++ DoneOf (sum_by length edits) ∷ [] in
    let regrouped : edit_lines files edits ++ (create_line created bytes ++ (flat_map kept_line kept ++ done_edits (sum_by length edits))) ≡ extract_report files edits created bytes kept =
    regroup (edit_lines files edits) (create_line created bytes) (flat_map kept_line kept) (done_edits (sum_by length edits)) in
    flat_map-append line_text (lines_of_edits files edits) (CreateOf created bytes ∷ behind)
    ∙ ap (λ (x : List ℕ). x ++ lines_text (CreateOf created bytes ∷ behind)) (edits_text files edits)
    ∙ ap (λ (x : List ℕ). edit_lines files edits ++ x) (flat_map-cons line_text (CreateOf created bytes) behind ∙ ap (λ (x : List ℕ). create_line created bytes ++ x) (ends_text kept (sum_by length edits)))
    ∙ regrouped
