use Rattle.std.proofs.Common.{◌≡◌, ◌++◌, ℕ, List, map, drop}
use Rattle.std.specs.String.{string_bytes}
use Rattle.java_tree.specs.Plain.{SourceUnit}
use Rattle.node_places.specs.Places.{place_of}
use Rattle.node_lists.specs.Table.{told}
use Rattle.report_text.specs.Report.{kept_parts}
use Rattle.refactor_app.specs.Words.{Files, inputs}
use Rattle.refactor_app.specs.Extractions.{kept_told}
use Rattle.refactor_app.proofs.extract.listed_lines.Given as goal

abbrev pub invariant-loop-one : goal.invariant-loop-one
invariant-loop-one l =
    (fs : Files) (us : List SourceUnit) → inputs fs ≡ map string_bytes l.names → ((k : ℕ) → told l.table k ≡ place_of us k)
    → map kept_parts l.lines ++ map (kept_told fs l.texts us) (drop l.one-index l.kept) ≡ map (kept_told fs l.texts us) l.kept
