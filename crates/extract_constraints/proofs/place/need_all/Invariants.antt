use Rattle.std.proofs.Common.{◌≡◌, drop}
use Rattle.extract_constraints.specs.Told.{need_all}
use Rattle.extract_constraints.proofs.place.need_all.Given as goal

abbrev pub invariant-loop-place : goal.invariant-loop-place
invariant-loop-place l = need_all (drop l.place-index l.places) l.node l.kind l.links ≡ need_all l.places l.node l.kind l.fn.links
