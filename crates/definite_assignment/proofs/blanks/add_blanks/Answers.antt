use Rattle.std.proofs.Common.{◌++◌, map, sym, append_assoc}
use Rattle.java_core.specs.View.{member_plain}
use Rattle.definite_assignment.specs.Bodies as spec
use Rattle.definite_assignment.proofs.Steps.{step}
use Rattle.definite_assignment.proofs.blanks.add_blanks.Goals as goal

pub loop-member-preserved : goal.loop-member-preserved
loop-member-preserved c =
    step (λ xs out. out ++ spec.blanks c.args.w.now (map member_plain xs)) (λ x out. out ++ spec.blanks_in c.args.w.now (member_plain x)) (λ x xs out. sym (append_assoc out (spec.blanks_in c.args.w.now (member_plain x)) (spec.blanks c.args.w.now (map member_plain xs)))) c.args.members.now c.loop-member.member-index c.member-item.result c.loop-member.out c.add_blanks_in.new.out _
    c.loop-member-test.true c.member-item.is (c.in_ok-add_blanks_in.ensures {u = tt}) c.loop-member.invariant
