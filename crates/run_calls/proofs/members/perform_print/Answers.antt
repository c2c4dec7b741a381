use Rattle.std.proofs.Common.{sym, ap, ◌∙◌, arith}
use Rattle.core_meaning.specs.Members.{print, with_one}
use Rattle.run_frames.specs.Frames.{valued}
use Rattle.run_frames.specs.Runs.{comes, place_of, whole}
use Rattle.run_frames.proofs.Steps.{ok_as}
use Rattle.run_calls.proofs.Args.{of_one}
use Rattle.run_calls.proofs.members.perform_print.Goals as goal

pub returns-in-len1 : goal.returns-in-len1
returns-in-len1 c k known =
    let old = c.args.run.now in
    let r = c.as_slice.result.now in
    ok_as c.print.result (whole k c.print.new.run) (comes k old) _ _
    (ap (λ ys. valued (with_one ys old.state (λ x. print (place_of k old) c.args.line x old.state)))
    (sym (of_one r _ (omega (arith, c.in-len1.len_at_least, c.in-len1.len_below))) ∙ c.as_slice.ensures)) (c.print.ensures k known)
