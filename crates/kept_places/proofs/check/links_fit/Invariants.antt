use Rattle.std.proofs.Common.{◌≡◌, drop}
use Rattle.kept_places.specs.Found as spec
use Rattle.kept_places.proofs.check.links_fit.Given as goal

-- all fit exactly if the rest does
abbrev pub invariant-loop-link : goal.invariant-loop-link
invariant-loop-link l = spec.links_fit l.links l.found (drop l.link-index l.links) ≡ spec.links_fit l.links l.found l.links
