use Rattle.std.proofs.Common.{cond, [], ◌∷◌, ◌++◌, sym, ap, ◌∙◌}
use Rattle.std.proofs.lemmas.List.{append-nil}
use Rattle.thrown_exceptions.specs.Thrown as thrown
use Rattle.type_constraints.proofs.results.push_checked.Goals as goal

pub returns-in_ok-push-in-Some : goal.returns-in_ok-push-in-Some
returns-in_ok-push-in-Some c =
    λ f are ts ties.
    c.in_ok-push-in-Some.ensures.ok ∙ ap (λ b. c.args.out.now ++ cond b (c.in-Some.class ∷ []) []) (sym c.if-is_checked.true ∙ c.is_checked.ensures f are ts ties) ∙ sym (ap (λ o. c.args.out.now ++ thrown.checked_of f.sub o) c.in-Some.is)

pub returns-else-is_checked : goal.returns-else-is_checked
returns-else-is_checked c =
    λ f are ts ties.
    sym (append-nil c.args.out.now) ∙ ap (λ b. c.args.out.now ++ cond b (c.in-Some.class ∷ []) []) (sym c.if-is_checked.false ∙ c.is_checked.ensures f are ts ties) ∙ sym (ap (λ o. c.args.out.now ++ thrown.checked_of f.sub o) c.in-Some.is)
