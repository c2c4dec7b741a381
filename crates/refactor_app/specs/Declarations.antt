-- The line of a rule that a program breaks.
use Rattle.std.specs.Prelude.{ℕ, List, ◌++◌, Option, Some, None, option_and_then, slice_get, codes}
use Rattle.std.specs.Fmt.{decimal}
use Rattle.java_tree.specs.Plain.{SourceUnit}
use Rattle.java_tree.specs.declared.fault.Broken.{Broken}
use Rattle.java_tree.specs.declared.fault.Family.{Family}
use Rattle.java_tree.specs.declared.fault.Family.TheVariants as family
use Rattle.edit_writer.specs.Places.{place_at}
use Rattle.node_places.specs.declared.place.NodePlace.{NodePlace}
use Rattle.node_places.specs.Places.{place_of}
use Rattle.report_text.specs.Report.{place_text, refused_place}
use Rattle.refactor_app.specs.Words.{Files, inputs}

-- the letters of a rule's name
abbrev pub letters : Family → List ℕ
letters family.L = codes "L"
letters family.X = codes "X"
letters family.S = codes "S"
letters family.G = codes "G"
letters family.DR = codes "DR"
letters family.T = codes "T"
letters family.F = codes "F"
letters family.V = codes "V"
letters family.E = codes "E"
letters family.P = codes "P"
letters family.I = codes "I"

-- FILE:LINE:COL of a byte of a file, or `-` where there are no such file and text
abbrev pub place_in : (file text : Option (List ℕ)) → (at : ℕ) → List ℕ
place_in (Some file) (Some text) at = place_text file (place_at text at)
place_in _ _ at = codes "-"

abbrev pub place_name : Files → (texts : List (List ℕ)) → Option NodePlace → List ℕ
place_name fs texts None = codes "-"
place_name fs texts (Some p) = place_in (slice_get (inputs fs) p.file) (slice_get texts p.file) p.at

-- the PLACE of a node, its first byte; `-` where there is no node
abbrev pub node_name : Files → (texts : List (List ℕ)) → List SourceUnit → Option ℕ → List ℕ
node_name fs texts units node = place_name fs texts (option_and_then (place_of units) node)

-- the line of a broken rule, at its node
abbrev pub broken_line : Files → (texts : List (List ℕ)) → List SourceUnit → Broken → List ℕ
broken_line fs texts units b = refused_place (letters b.family ++ decimal b.number) (node_name fs texts units b.node)
