-- The lines of a report, and their text.
use Rattle.std.specs.Prelude.{◌≡◌, ℕ, ◌<◌, ◌^◌, true, List, [], ◌∷◌, ◌++◌, length, map, flat_map, Option, IfSome}
use Rattle.std.specs.List.{AllByRecursion, sum_by}
use Rattle.std.specs.Option.{option_map}
use Rattle.std.specs.String.{string_bytes}
use Rattle.edit_writer.specs.declared.edits.Edit.{Edit}
use Rattle.report_text.specs.Report.{KeptParts, edit_line, create_line, kept_line, done_edits}
use Rattle.report_reading.specs.declared.line.Line.{Line}
use Rattle.report_reading.specs.declared.line.Line.TheVariants as v
use Rattle.report_reading.specs.Words.{is_path, is_kind, IsPlace}

-- a line without where it lies in memory
pub data Parts : Type 0 where
  EditOf : List ℕ → Edit → Parts
  CreateOf : List ℕ → ℕ → Parts
  KeptOf : KeptParts → Parts
  DoneOf : ℕ → Parts

abbrev pub parts : Line → Parts
parts (v.Edit file from to text) = EditOf (string_bytes file) (record { from = from; to = to; text = text })
parts (v.Create file bytes) = CreateOf (string_bytes file) bytes
parts (v.Kept place kind node next) = KeptOf (record { place = string_bytes place; kind = string_bytes kind; node = string_bytes node; next = option_map string_bytes next })
parts (v.Done edits) = DoneOf edits

abbrev pub line_text : Parts → List ℕ
line_text (EditOf file e) = edit_line file e
line_text (CreateOf file bytes) = create_line file bytes
line_text (KeptOf k) = kept_line k
line_text (DoneOf edits) = done_edits edits

abbrev pub lines_text : List Parts → List ℕ
lines_text ls = flat_map line_text ls

pub record IsEdit (file : List ℕ) (e : Edit) : Type 0 where
  pub path : is_path file ≡ true
  pub from : e.from < 2 ^ 32
  pub to : e.to < 2 ^ 32
  pub size : length e.text < 2 ^ 64

pub record IsKept (k : KeptParts) : Type 0 where
  pub place : IsPlace k.place
  pub kind : is_kind k.kind ≡ true
  pub node : IsPlace k.node
  pub next : IfSome k.next IsPlace

-- the names, places and numbers of a line are such
abbrev pub IsLine : Parts → Type 0
IsLine (EditOf file e) = IsEdit file e
IsLine (CreateOf file bytes) = (is_path file ≡ true) × (bytes < 2 ^ 64)
IsLine (KeptOf k) = IsKept k
IsLine (DoneOf edits) = edits < 2 ^ 32

abbrev pub AreLines : List Parts → Type 0
AreLines ls = AllByRecursion IsLine ls

-- the lines of the report of an extracted interface
abbrev pub lines_of_edits : List (List ℕ) → List (List Edit) → List Parts
lines_of_edits (file ∷ files) (es ∷ ess) = map (EditOf file) es ++ lines_of_edits files ess
lines_of_edits _ _ = []

abbrev pub extract_lines : List (List ℕ) → List (List Edit) → List ℕ → ℕ → List KeptParts → List Parts
extract_lines files edits created bytes kept =
    lines_of_edits files edits ++ CreateOf created bytes ∷ (map KeptOf kept ++ DoneOf (sum_by length edits) ∷ [])
