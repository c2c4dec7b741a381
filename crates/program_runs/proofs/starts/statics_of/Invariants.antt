use Rattle.std.proofs.Common.{◌≡◌, ◌++◌, drop}
use Rattle.core_meaning.specs.Runs.{statics_from}
use Rattle.program_runs.proofs.starts.statics_of.Given as goal

abbrev pub invariant-loop-field : goal.invariant-loop-field
invariant-loop-field l = l.statics ++ statics_from l.w l.field (drop l.field l.w.fields) ≡ statics_from l.w 0 l.w.fields
