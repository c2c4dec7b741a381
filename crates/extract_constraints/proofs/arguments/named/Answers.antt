use Rattle.std.proofs.Common.{Some, ap, sym, ◌∙◌}
use Rattle.extract_constraints.specs.Told.{where_of}
use Rattle.extract_constraints.specs.Arguments.{call_of}
use Rattle.extract_constraints.specs.Arguments as ar
use Rattle.extract_constraints.proofs.arguments.named.Goals as goal

pub returns-in-None : goal.returns-in-None
returns-in-None c =
    λ k told.
    let a = where_of c.args.at.now in
    let call = call_of c.args.call.now in
    ap (ar.named_by k a call call.info.constructor) c.in-None.ensures

pub returns-then-call : goal.returns-then-call
returns-then-call c =
    λ k told.
    let a = where_of c.args.at.now in
    let call = call_of c.args.call.now in
    c.methods_of.ensures ∙ ap (λ b. ar.named_by k a call b (Some c.in-Some.class)) (sym c.if-call.true) ∙ ap (ar.named_by k a call call.info.constructor) c.in-Some.ensures

pub returns-else-call : goal.returns-else-call
returns-else-call c =
    λ k told.
    let a = where_of c.args.at.now in
    let call = call_of c.args.call.now in
    c.methods_named.ensures k told ∙ ap (k.facts.methods c.in-Some.class call.info.name) c.len.ensures ∙ ap (λ b. ar.named_by k a call b (Some c.in-Some.class)) (sym c.if-call.false) ∙ ap (ar.named_by k a call call.info.constructor) c.in-Some.ensures
