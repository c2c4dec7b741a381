-- The lines that are put.
use Rattle.std.specs.Prelude.{ℕ, List, [], ◌∷◌, ◌++◌, length, flat_map, codes, Option, Some, None}
use Rattle.std.specs.Fmt.{decimal}
use Rattle.std.specs.List.{sum_by}
use Rattle.std.specs.Option.{option_map}
use Rattle.std.specs.String.{string_bytes}
use Rattle.edit_writer.specs.declared.places.Place.{Place}
use Rattle.edit_writer.specs.declared.edits.Edit.{Edit}
use Rattle.report_text.specs.declared.extract.KeptLine.{KeptLine}

-- words with a space before each but the first, and the end of the line
abbrev pub line_of : List (List ℕ) → List ℕ
line_of [] = 10 ∷ []
line_of (w ∷ []) = w ++ (10 ∷ [])
line_of (w ∷ v ∷ vs) = w ++ (32 ∷ line_of (v ∷ vs))

-- FILE:LINE:COL
abbrev pub place_text : List ℕ → Place → List ℕ
place_text file at = file ++ (58 ∷ (decimal at.line ++ (58 ∷ decimal at.col)))

-- words with a space behind each
abbrev pub spaced : List (List ℕ) → List ℕ
spaced [] = []
spaced (w ∷ ws) = w ++ (32 ∷ spaced ws)

abbrev pub one_edit : List ℕ
one_edit = line_of (codes "done" ∷ codes "1" ∷ codes "edits" ∷ [])

abbrev pub edit_report : List ℕ → Edit → List ℕ
edit_report file e =
    line_of (codes "edit" ∷ file ∷ decimal e.from ∷ decimal e.to ∷ decimal (length e.text) ∷ e.text ∷ [])
    ++ one_edit

-- `edit FILE FROM TO BYTES TEXT`
abbrev pub edit_line : List ℕ → Edit → List ℕ
edit_line file e = line_of (codes "edit" ∷ file ∷ decimal e.from ∷ decimal e.to ∷ decimal (length e.text) ∷ e.text ∷ [])

-- the lines of the edits of files, file by file
abbrev pub edit_lines : List (List ℕ) → List (List Edit) → List ℕ
edit_lines (file ∷ files) (es ∷ ess) = flat_map (edit_line file) es ++ edit_lines files ess
edit_lines _ _ = []

-- the last line of a change of so many edits
abbrev pub done_edits : ℕ → List ℕ
done_edits count = line_of (codes "done" ∷ decimal count ∷ codes "edits" ∷ [])

-- the report of the edits of files
abbrev pub change_report : List (List ℕ) → List (List Edit) → List ℕ
change_report files edits = edit_lines files edits ++ done_edits (sum_by length edits)

-- a new file's name and its size in bytes
abbrev pub create_line : List ℕ → ℕ → List ℕ
create_line file bytes = line_of (codes "create" ∷ file ∷ decimal bytes ∷ [])

-- a kept place: the kind and the PLACE of the node that keeps it, and the next kept place, if another is the cause
pub record KeptParts : Type 0 where
  pub place : List ℕ
  pub kind : List ℕ
  pub node : List ℕ
  pub next : Option (List ℕ)

abbrev pub kept_parts : KeptLine → KeptParts
kept_parts k = record { place = string_bytes k.place; kind = k.kind.now; node = string_bytes k.node; next = option_map string_bytes k.next }

-- what a kept place needs, or the step to the next one
abbrev pub kept_words : List ℕ → List ℕ → Option (List ℕ) → List (List ℕ)
kept_words kind node None = codes "needs" ∷ kind ∷ node ∷ []
kept_words kind node (Some next) = codes "because" ∷ kind ∷ node ∷ codes "then" ∷ next ∷ []

abbrev pub kept_line : KeptParts → List ℕ
kept_line k = line_of (codes "kept" ∷ k.place ∷ kept_words k.kind k.node k.next)

-- the report of the edits of files, of one new file, and of the places that are kept
abbrev pub extract_report : List (List ℕ) → List (List Edit) → List ℕ → ℕ → List KeptParts → List ℕ
extract_report files edits created bytes kept =
    edit_lines files edits ++ create_line created bytes ++ flat_map kept_line kept ++ done_edits (sum_by length edits)

-- the line of a type's name, and the last line of so many
abbrev pub type_line : List ℕ → List ℕ
type_line name = line_of (codes "type" ∷ name ∷ [])

abbrev pub done_types : ℕ → List ℕ
done_types count = line_of (codes "done" ∷ decimal count ∷ codes "types" ∷ [])

-- the report of types with these names
abbrev pub types_report : List (List ℕ) → List ℕ
types_report names = flat_map type_line names ++ done_types (length names)

-- a refusal without a place
abbrev pub refused : List ℕ → List ℕ
refused rule = line_of (codes "refused" ∷ rule ∷ codes "-" ∷ [])

-- a refusal at a PLACE
abbrev pub refused_place : List ℕ → List ℕ → List ℕ
refused_place rule place = line_of (codes "refused" ∷ rule ∷ place ∷ [])

abbrev pub refused_at : List ℕ → List ℕ → Place → List ℕ
refused_at rule file at = refused_place rule (place_text file at)

-- an unchecked operation at a PLACE
abbrev pub unchecked_at : List ℕ → List ℕ
unchecked_at place = line_of (codes "unchecked" ∷ place ∷ [])

-- the last line of a check of so many files
abbrev pub checked_files : ℕ → List ℕ
checked_files files = line_of (codes "checked" ∷ decimal files ∷ codes "files" ∷ [])

-- the lowest rule that the words break
abbrev pub usage : ℕ → List ℕ
usage rule = line_of (codes "usage" ∷ (codes "U" ++ decimal rule) ∷ [])

abbrev pub missing : List ℕ → List ℕ
missing name = line_of (codes "missing" ∷ name ∷ [])

abbrev pub read_fault : List ℕ → List ℕ
read_fault name = line_of (codes "read" ∷ codes "fault" ∷ name ∷ [])

abbrev pub write_fault : List ℕ → List ℕ
write_fault name = line_of (codes "write" ∷ codes "fault" ∷ name ∷ [])
