use Rattle.std.proofs.Common.{◌≡◌, ◌++◌, drop, map}
use Rattle.extract_interface.specs.Plans.{place_of}
use Rattle.extract_interface.proofs.plan.places_of.Given as goal

abbrev pub invariant-loop-it : goal.invariant-loop-it
invariant-loop-it l = l.places ++ map place_of (drop l.it-index l.kept) ≡ map place_of l.kept
