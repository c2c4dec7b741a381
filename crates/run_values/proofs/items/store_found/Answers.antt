use Rattle.std.proofs.Common.{FitsSigned, rules, w32}
use Rattle.std.proofs.lemmas.Int.{to_z-of_z}
use Rattle.core_meaning.specs.State.{element_of, with_item}
use Rattle.core_meaning.specs.Outcome.{Gives, with_some}
use Rattle.core_meaning.specs.Variables.{storable}
use Rattle.run_frames.specs.Runs.{comes, whole}
use Rattle.run_frames.proofs.Steps.{ok_as}
use Rattle.run_values.proofs.Ways.{outside_as}
use Rattle.run_values.proofs.items.store_found.Goals as goal

pub returns-in-Outside : goal.returns-in-Outside
returns-in-Outside c k told =
    let old = c.args.run.now in
    let a = c.args.value in
    let at = c.in-Outside.at in
    let fits : FitsSigned w32 at = search rules in
    let e = outside_as c.args.found at _ old.state (λ r j. with_some (element_of r old.state) old.state (λ u. storable k u a old.state (λ s. Gives a (with_item r j a s)))) c.in-Outside.is (to_z-of_z w32 at fits) in
    ok_as c.throw_number.result (whole k c.throw_number.new.run) (comes k old) _ _ e (c.throw_number.ensures k)
