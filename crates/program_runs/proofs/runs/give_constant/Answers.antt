use Rattle.std.proofs.Common.{refl, ◌∙◌}
use Rattle.java_core.specs.View.{plain}
use Rattle.core_meaning.specs.Calls.{place_at}
use Rattle.core_meaning.specs.Expressions.{value}
use Rattle.run_frames.proofs.Outcomes.{two_ways}
use Rattle.program_runs.proofs.runs.give_constant.Goals as goal

pub returns : goal.returns
returns c k i =
    let h = rw c.begin-run.ensures at (c.in_ok-focus.ensures k) in
    c.in_ok-ended.ensures k i ∙ h ∙ two_ways (value (place_at k c.args.base.depth c.args.base.class) (plain c.args.init.now) c.args.state) _ _ _ _ (λ a s. refl)
