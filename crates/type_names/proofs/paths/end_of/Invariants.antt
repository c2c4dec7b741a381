use Rattle.std.proofs.Common.{◌≡◌, Some, drop}
use Rattle.type_names.specs.Paths.{next_in, reached}
use Rattle.type_names.proofs.paths.end_of.Given as goal

abbrev pub invariant-loop-name : goal.invariant-loop-name
invariant-loop-name l = reached (next_in l.steps.entries) (Some l.end) (drop l.name-index l.path) ≡ reached (next_in l.steps.entries) (Some 0) l.path
