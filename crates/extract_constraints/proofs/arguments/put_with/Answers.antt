use Rattle.std.proofs.Common.{ap, refl, sym, ◌∙◌}
use Rattle.extract_constraints.specs.Told.{where_of}
use Rattle.extract_constraints.proofs.Numbers.{none_of, some_of}
use Rattle.marked_types.proofs.Forms.{ok_as}
use Rattle.extract_constraints.specs.Arguments.{call_of}
use Rattle.extract_constraints.specs.Arguments as ar
use Rattle.extract_constraints.proofs.arguments.put_with.Goals as goal

pub returns-then-is_empty : goal.returns-then-is_empty
returns-then-is_empty c =
    λ k told.
    let a = where_of c.args.at.now in
    let call = call_of c.args.call.now in
    sym (none_of (λ xs. ar.put_with xs k a call c.args.links) c.args_of.result.now (sym c.if-is_empty.true ∙ c.is_empty.ensures)) ∙ ap (λ xs. ar.put_with xs k a call c.args.links) c.args_of.ensures

pub returns : goal.returns
returns c =
    λ k told.
    let a = where_of c.args.at.now in
    let call = call_of c.args.call.now in
    ok_as c.put_in_each.result _ _
    (ap (λ ms. ar.put_in_each k a call ms c.args.links) (c.named.ensures k told)
    ∙ sym (some_of (λ xs. ar.put_with xs k a call c.args.links) (ar.put_in_each k a call (ar.named k a call) c.args.links) (λ q qs. refl) c.args_of.result.now (sym c.if-is_empty.false ∙ c.is_empty.ensures)) ∙ ap (λ xs. ar.put_with xs k a call c.args.links) c.args_of.ensures)
    (c.put_in_each.ensures k told)
