use Rattle.std.proofs.Common.{Some, [], ap, map, ◌∙◌}
use Rattle.java_core.specs.View.{param_plain, stmt_plain}
use Rattle.extract_constraints.specs.declared.stmts.Walked.{Walked}
use Rattle.extract_constraints.specs.Told.{where_of}
use Rattle.extract_constraints.specs.Links as li
use Rattle.extract_constraints.proofs.program.in_known_body.Goals as goal

pub returns : goal.returns
returns c =
    λ k told.
    let a = where_of c.args.at.now in
    let m = c.args.method.now in
    let y = stmt_plain c.args.body.now in
    ap (λ (w : Walked). w.links)
    (c.in_ok-walked.ensures k told ∙ ap (λ ls. li.walk k (li.in_method_of a (Some m.method)) y (li.walked_with ls c.args.links))
    (c.in_ok-locals.ensures ∙ ap (λ xs. li.param_locals a m.method 0 (map param_plain xs) []) c.as_slice.ensures))
