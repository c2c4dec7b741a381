use Rattle.std.specs.Option.{option_map}
use Rattle.std.proofs.Common.{◌≡◌, ap, ◌∙◌}
use Rattle.java_core.specs.View.{plain, written}
use Rattle.marked_types.specs.Marked.{marked}
use Rattle.class_places.proofs.Steps.{pair}
use Rattle.extract_constraints.specs.Told.{where_of}
use Rattle.extract_constraints.specs.Flows as fl
use Rattle.extract_constraints.specs.Links as li
use Rattle.extract_constraints.proofs.stmts.local.Goals as goal

pub returns : goal.returns
returns c =
    λ k told.
    let a = where_of c.args.at.now in
    let s = c.args.s in
    let var = c.args.var.now in
    let held : c.in_ok-locals.locals ≡ li.with_local s.locals var.slot (marked (fl.class_of a) (written c.args.written.now) var.ty)
    = c.in_ok-locals.ensures ∙ ap (li.with_local s.locals var.slot) (c.in_ok-copied.ensures ∙ c.in_ok-t.ensures) in
    pair li.walked_with _ _ _ _ held
    (c.in_ok-links.ensures k told ∙ pair (λ ls t. li.init_to k a ls (option_map plain var.init) t s.links) _ _ _ _ (c.as_slice.ensures ∙ held) c.in_ok-t.ensures)
