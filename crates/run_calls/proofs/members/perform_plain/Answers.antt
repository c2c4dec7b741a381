use Rattle.std.proofs.Common.{sym, ap, ◌∙◌, arith}
use Rattle.core_meaning.specs.Members.{plain}
use Rattle.run_frames.specs.Frames.{valued}
use Rattle.run_frames.specs.Runs.{comes, whole}
use Rattle.run_frames.proofs.Steps.{ok_as}
use Rattle.run_calls.proofs.Args.{of_one, of_two}
use Rattle.run_calls.proofs.members.perform_plain.Goals as goal

pub returns-in-len1 : goal.returns-in-len1
returns-in-len1 c k =
    let old = c.args.run.now in
    let r = c.as_slice.result.now in
    ok_as c.perform_with_one.result (whole k c.perform_with_one.new.run) (comes k old) _ _
    (ap (λ ys. valued (plain c.args.member c.args.this ys old.state)) (sym (of_one r _ (omega (arith, c.in-len1.len_at_least, c.in-len1.len_below))) ∙ c.as_slice.ensures))
    (c.perform_with_one.ensures k)

pub returns-in-len2 : goal.returns-in-len2
returns-in-len2 c k =
    let old = c.args.run.now in
    let r = c.as_slice.result.now in
    ok_as c.perform_with_two.result (whole k c.perform_with_two.new.run) (comes k old) _ _
    (ap (λ ys. valued (plain c.args.member c.args.this ys old.state)) (sym (of_two r _ (omega (arith, c.in-len2.len_at_least, c.in-len2.len_below))) ∙ c.as_slice.ensures))
    (c.perform_with_two.ensures k)
