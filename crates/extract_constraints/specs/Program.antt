-- All constraints on the places of a class.
use Rattle.std.specs.Prelude.{ℕ, List, [], take, None}
use Rattle.java_core.specs.Plain as p
use Rattle.class_world.specs.declared.world.World.{World}
use Rattle.kept_places.specs.declared.links.Link.{Link}
use Rattle.marked_types.specs.Read.{Reading}
use Rattle.marked_types.specs.Table.{marks_of}
use Rattle.extract_constraints.specs.Told.{Told}
use Rattle.extract_constraints.specs.Links.{in_files}

abbrev pub reading : (c : ℕ) → World → List p.File → Reading
reading c w fs = record { world = w; class = c; marks = marks_of c w fs }

-- in the first files, so many, where the class c gets an interface with the methods ms
abbrev pub links_of : Told → World → (c : ℕ) → (ms : List ℕ) → (users : ℕ) → p.Program → List Link
links_of k w c ms n x = in_files k (record { reading = reading c w (take n x.files); methods = ms; owner = 0; method = None }) (take n x.files) []
