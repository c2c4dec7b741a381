use Rattle.std.proofs.Common.{ap, sym}
use Rattle.core_meaning.specs.Statements.{item_before}
use Rattle.run_frames.specs.Frames.{a_truth}
use Rattle.run_frames.specs.Runs.{comes, whole}
use Rattle.run_frames.proofs.Steps.{ok_as}
use Rattle.run_values.proofs.casts.take_item.Goals as goal

pub returns-in-Ref : goal.returns-in-Ref
returns-in-Ref c k =
    let old = c.args.run.now in
    ok_as c.take_from.result (whole k c.take_from.new.run) (comes k old) _ _ (ap (λ a. a_truth (item_before c.args.slot c.args.ty.now a c.args.turn old.state)) (sym c.in-Ref.is)) (c.take_from.ensures k)
