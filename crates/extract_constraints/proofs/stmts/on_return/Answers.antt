use Rattle.std.specs.Option.{option_map}
use Rattle.std.proofs.Common.{ap, ◌∙◌}
use Rattle.java_core.specs.View.{plain}
use Rattle.extract_constraints.specs.Told.{where_of}
use Rattle.extract_constraints.specs.Links as li
use Rattle.extract_constraints.proofs.stmts.on_return.Goals as goal

pub returns : goal.returns
returns c =
    λ k told.
    let a = where_of c.args.at.now in
    ap (li.walked_with c.args.s.locals) (c.in_ok-links.ensures k told ∙ ap (λ ls. li.returned k a (option_map plain c.args.x.now) ls c.args.s.links) c.as_slice.ensures)
