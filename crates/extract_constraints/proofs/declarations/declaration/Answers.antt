use Rattle.std.proofs.Common.{ap, ◌∙◌}
use Rattle.extract_constraints.specs.Told.{where_of}
use Rattle.java_core.specs.View.{method_plain}
use Rattle.marked_types.proofs.Forms.{ok_as}
use Rattle.extract_constraints.specs.Declarations as de
use Rattle.extract_constraints.proofs.declarations.declaration.Goals as goal

pub returns-in-None : goal.returns-in-None
returns-in-None c =
    λ k told.
    let a = where_of c.args.at.now in
    ap (λ o. de.declaration_of k a (method_plain c.args.method.now) o c.args.links) c.in-None.ensures

pub returns-in_ok-hidden-in-Some : goal.returns-in_ok-hidden-in-Some
returns-in_ok-hidden-in-Some c =
    λ k told.
    let a = where_of c.args.at.now in
    ok_as c.declared.result _ _
    (ap (λ hs. de.declared k a (method_plain c.args.method.now) c.in-Some.info.now hs c.args.links) (c.as_slice.ensures ∙ c.in_ok-hidden-in-Some.ensures k told) ∙ ap (λ o. de.declaration_of k a (method_plain c.args.method.now) o c.args.links) c.in-Some.ensures)
    (c.declared.ensures k told)
