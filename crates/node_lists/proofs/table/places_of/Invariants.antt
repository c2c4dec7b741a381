use Rattle.std.proofs.Common.{◌≡◌, ℕ, drop, map}
use Rattle.java_tree.specs.View.{unit_plain}
use Rattle.node_places.specs.Places.{place_from, place_of}
use Rattle.node_lists.specs.Table.{or_later, told}
use Rattle.node_lists.proofs.table.places_of.Given as goal

abbrev pub invariant-loop-file : goal.invariant-loop-file
invariant-loop-file l = (k : ℕ) → or_later (told l.table k) (place_from l.file (map unit_plain (drop l.file l.units)) k) ≡ place_of (map unit_plain l.units) k
