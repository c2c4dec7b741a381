use Rattle.std.proofs.Common.{◌≡◌, map, take}
use Rattle.type_reach.specs.Paths.{is_on_cycle}
use Rattle.type_reach.proofs.cycles.answers_of.Given as goal

abbrev pub invariant-loop-stage : goal.invariant-loop-stage
invariant-loop-stage l = l.answers.items ≡ map is_on_cycle (take l.stage-index l.stages)
