use Rattle.alike_tables.proofs.tables.is_rest_kept.Goals as goal

pub returns : goal.returns
returns c = λ holds code code' told told'. record {
  fit = c.is_map_fit.ensures c.if-not-is_map_fit.false code code' told told';
  walk = (c.is_walk_kept.ensures code code' told told').0 c.if-not-is_walk_kept.false;
  depth = c.is_count_kept.ensures c.if-not-is_count_kept.false code code' told told';
  methods = (c.are_methods_kept.ensures code code' told told').0 c.if-not-are_methods_kept.false;
  fields = (c.are_fields_kept.ensures code code' told told').0 holds;
}
