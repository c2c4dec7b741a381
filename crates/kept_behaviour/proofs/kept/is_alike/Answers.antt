use Rattle.kept_behaviour.proofs.Nones.{none_holds}
use Rattle.kept_behaviour.proofs.kept.is_alike.Goals as goal

pub returns : goal.returns
returns c = λ holds. record {
  new = c.in_ok-new.new;
  made = c.in_ok-new.ensures.same;
  alike = c.in_ok-difference.ensures (none_holds c.in_ok-difference.difference c.is_none.result c.is_none.ensures holds);
}
