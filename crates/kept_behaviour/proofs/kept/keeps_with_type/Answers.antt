use Rattle.kept_behaviour.proofs.Nones.{then_so}
use Rattle.kept_behaviour.proofs.kept.keeps_with_type.Goals as goal

pub returns : goal.returns
returns c = then_so c.keeps_by.result (λ keeps. record {
  map = c.in_ok-map.map;
  types = c.in_ok-map.ensures.types;
  methods = c.in_ok-map.ensures.methods;
  fields = c.in_ok-map.ensures.fields;
  keeps = keeps;
}) c.keeps_by.ensures
