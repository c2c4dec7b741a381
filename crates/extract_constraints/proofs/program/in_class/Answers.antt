use Rattle.std.proofs.Common.{ap, map}
use Rattle.java_core.specs.View.{member_plain}
use Rattle.extract_constraints.specs.Told.{where_of}
use Rattle.extract_constraints.specs.Links as li
use Rattle.marked_types.proofs.Forms.{ok_as}
use Rattle.extract_constraints.proofs.program.in_class.Goals as goal

pub returns : goal.returns
returns c =
    λ k told.
    let a = where_of c.args.at.now in
    ok_as c.in_members.result _ _
    (ap (λ xs. li.in_members k (li.in_class_of a c.args.class.now.number) (map member_plain xs) c.args.links) c.as_slice.ensures)
    (c.in_members.ensures k told)
