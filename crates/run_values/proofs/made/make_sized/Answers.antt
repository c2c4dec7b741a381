use Rattle.std.proofs.Common.{FitsSigned, map, rules, w32}
use Rattle.std.specs.Prelude.{unsigned_abs}
use Rattle.std.proofs.lemmas.Int.{to_z-of_z}
use Rattle.core_meaning.specs.Expressions.{arrays_of}
use Rattle.run_frames.specs.Runs.{comes, whole}
use Rattle.run_frames.proofs.Steps.{ok_as}
use Rattle.run_values.proofs.Ways.{negative_as}
use Rattle.run_values.proofs.made.make_sized.Goals as goal

pub returns-in-Some : goal.returns-in-Some
returns-in-Some c k =
    let old = c.args.run.now in
    let z = c.in-Some.size in
    let fits : FitsSigned w32 z = search rules in
    let e = negative_as _ z _ old.state (arrays_of (map unsigned_abs c.args.ints.now) c.args.ty.now) c.in-Some.ensures (to_z-of_z w32 z fits) in
    ok_as c.throw_number.result (whole k c.throw_number.new.run) (comes k old) _ _ e (c.throw_number.ensures k)
