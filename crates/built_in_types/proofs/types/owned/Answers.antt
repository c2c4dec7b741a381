use Rattle.std.proofs.Common.{◌∙◌, ◌++◌, ◌+◌, drop, None, ap}
use Rattle.built_in_types.specs.BuiltIns.{owned_from}
use Rattle.built_in_types.specs.declared.rows.TheConstants.{METHODS}
use Rattle.built_in_types.specs.declared.rows.Row.{Row}
use Rattle.built_in_types.proofs.Lists.{owned_more, owned_less}
use Rattle.built_in_types.proofs.types.owned.Goals as goal
use Rattle.built_in_types.proofs.types.owned.Goals.{then-row-owner+in_ok-push, else-row-owner}

abbrev no_row : Row
no_row = record { owner = 0; word = None; first = None; second = None; result = None }

pub loop-number-preserved : goal.loop-number-preserved
loop-number-preserved c = elim c.if-row-owner.branch [
  | then-row-owner+in_ok-push w ↦
      owned_more c.args.owner METHODS c.loop-number.numbers c.if-row-owner.numbers c.loop-number.number no_row c.loop-number-test.true w.if-row-owner.true (w.numbers-is ∙ w.in_ok-push.ensures.ok)
      ∙ c.loop-number.invariant
  | else-row-owner w ↦
      ap (λ xs. xs ++ owned_from c.args.owner (c.loop-number.number + 1) (drop (c.loop-number.number + 1) METHODS)) w.numbers-is
      ∙ owned_less c.args.owner METHODS c.loop-number.numbers c.loop-number.number no_row c.loop-number-test.true w.if-row-owner.false
      ∙ c.loop-number.invariant
]
