use Rattle.std.specs.Option.{option_map}
use Rattle.type_facts.specs.Members.{as_seen}
use Rattle.thrown_exceptions.proofs.Steps.{ok_as, pair}
use Rattle.type_constraints.proofs.results.result_on.Goals as goal

pub returns : goal.returns
returns c =
    λ f are ts ties.
    ok_as c.seen_result.result _ _
    (pair (λ s o. option_map (as_seen s) o) _ _ _ _ (c.in_ok-seen.ensures f are ts ties) (c.in_ok-after.ensures f are ts ties))
    (c.seen_result.ensures)
