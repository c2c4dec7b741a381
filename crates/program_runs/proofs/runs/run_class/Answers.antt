use Rattle.std.proofs.Common.{◌≡◌, ◌+◌, map, sym, ap, ◌∙◌}
use Rattle.std.specs.String.{string_bytes}
use Rattle.core_meaning.specs.Outcome.{and_then}
use Rattle.core_meaning.specs.Calls.{place_at}
use Rattle.core_meaning.specs.Runs.{all_fields, constants_given, most_initialised, run_within}
use Rattle.run_frames.specs.Frames.{valued}
use Rattle.run_frames.proofs.Steps.{ok_as}
use Rattle.program_runs.specs.Ends.{ended_as}
use Rattle.program_runs.specs.Pieces.{begun}
use Rattle.program_runs.proofs.Constants.{valued_on}
use Rattle.program_runs.proofs.runs.run_class.Goals as goal

pub returns-in-Gave : goal.returns-in-Gave
returns-in-Gave c k i =
    let args = map string_bytes c.args.args.now in
    let class = c.args.class in
    let p = place_at k c.in-Some.depth class in
    let deep : c.in-Some.depth ≡ c.args.steps + most_initialised c.args.g.now.world.now = rw c.in-Some.is at c.depth_of.ensures in
    let depth = deep ∙ ap (λ w. c.args.steps + most_initialised w) (sym i.world) in
    let on = valued_on (constants_given p (all_fields k) c.in_ok-start.field-0) (begun p class) c.in-Gave.field-0 c.in_ok-piece.piece.state (rw c.in-Gave.is at (c.in_ok-piece.ensures k i)) in
    let started = ap (λ s. valued (and_then (constants_given p (all_fields k) s) (λ u t. begun p class t))) (c.in_ok-start.ensures k i) in
    ok_as c.run_from.result (λ x. ended_as x.ended x.state) (λ o. o) _ _ (on ∙ started ∙ ap (λ d. valued (run_within k d class args c.args.steps)) depth) (c.run_from.ensures k i)
