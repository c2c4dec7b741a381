use Rattle.std.proofs.Common.{◌≡◌, drop}
use Rattle.kept_places.specs.Found as spec
use Rattle.kept_places.proofs.check.chains_fit.Given as goal

-- all fit exactly if the rest does
abbrev pub invariant-loop-place : goal.invariant-loop-place
invariant-loop-place l = spec.chains_fit l.links l.found l.place (drop l.place l.found) ≡ spec.chains_fit l.links l.found 0 l.found
