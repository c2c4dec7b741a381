use Rattle.std.proofs.Common.{◌≡◌, Some, take}
use Rattle.type_names.specs.Paths.{HasSteps, Keeps, next_in, reached}
use Rattle.type_names.proofs.paths.add_path.Given as goal

abbrev pub invariant-loop-name : goal.invariant-loop-name
invariant-loop-name l = HasSteps l.steps.entries × Keeps l.initial.steps.entries l.steps.entries × (reached (next_in l.steps.entries) (Some 0) (take l.name-index l.path) ≡ Some l.end)
