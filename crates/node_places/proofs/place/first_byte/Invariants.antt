use Rattle.std.proofs.Common.{map, drop, ◌≡◌}
use Rattle.java_tree.specs.View.{unit_plain}
use Rattle.node_places.specs.Places.{place_from, place_of}
use Rattle.node_places.proofs.place.first_byte.Given as goal

abbrev pub invariant-loop-file : goal.invariant-loop-file
invariant-loop-file l = place_from l.file (map unit_plain (drop l.file l.units)) l.number ≡ place_of (map unit_plain l.units) l.number
