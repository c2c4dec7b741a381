use Rattle.std.proofs.Common.{sym, ap, ◌∙◌, subst}
use Rattle.seen_methods.specs.Closed.{AreClosed}
use Rattle.signature_numbers.specs.Numbers.{number_in}
use Rattle.found_methods.specs.Callees.{no_name}
use Rattle.found_methods.proofs.callees.params_of.Goals as goal
use Rattle.found_methods.proofs.callees.params_of.Goals.{then-info-via-then-info, then-info-via-else-info+then-not-are_closed}

pub returns-then-info-clause-numbered : goal.returns-then-info-clause-numbered
returns-then-info-clause-numbered c = λ plain closed. elim c.then-info.branch [
  | then-info-via-then-info w ↦ absurd (cc (w.if-info.true, plain))
  | then-info-via-else-info+then-not-are_closed w ↦
      let yes = w.are_closed.ensures.1 (subst AreClosed (sym c.as_slice-params.ensures) closed) in
      absurd (cc (yes, w.if-not-are_closed.true))
]

pub returns-clause-numbered : goal.returns-clause-numbered
returns-clause-numbered c = (
  c.if-info.false,
  subst AreClosed c.as_slice-params.ensures (c.are_closed.ensures.0 c.if-not-are_closed.false),
  ap (number_in c.number.new.self no_name) (sym c.as_slice-params.ensures) ∙ c.in_ok-number.ensures.number,
)
