use Rattle.std.proofs.Common.{◌≡◌, drop, map}
use Rattle.java_core.specs.View.{field_plain}
use Rattle.core_meaning.specs.Code.{Code}
use Rattle.core_meaning.specs.Calls.{place_at}
use Rattle.core_meaning.specs.Runs.{constants_given}
use Rattle.run_frames.specs.Frames.{nothing}
use Rattle.running_code.specs.Running.{IsCode}
use Rattle.program_runs.proofs.runs.give_constants.Given as goal

abbrev pub invariant-loop-field : goal.invariant-loop-field
invariant-loop-field l = (c : Code) → IsCode l.g c
    → nothing (constants_given (place_at c l.base.depth l.base.class) (map (λ x. field_plain x.now) (drop l.field-index l.fields)) l.state)
    ≡ nothing (constants_given (place_at c l.base.depth l.base.class) (map (λ x. field_plain x.now) l.fields) l.initial.state)
