use Rattle.std.proofs.Common.{ap, sym}
use Rattle.java_core.specs.View.{member_plain}
use Rattle.thrown_exceptions.specs.Thrown as spec
use Rattle.thrown_exceptions.proofs.Steps.{ok_as}
use Rattle.thrown_exceptions.proofs.members.in_member.Goals as goal

pub returns-in-Method : goal.returns-in-Method
returns-in-Method c =
    λ below is. ok_as c.in_method.result _ _ (sym (ap (λ m. spec.in_member c.args.w.now below (member_plain m) c.args.first) c.in-Method.is)) (c.in_method.ensures below is)
