use Rattle.alike_tables.proofs.tables.is_map_fit.Goals as goal

pub returns : goal.returns
returns c = λ holds code code' told told'. record {
  whole = (c.is_whole.ensures code code' told told').0 c.if-not-is_whole.false;
  built_in = c.is_built_in_kept.ensures.0 c.if-not-is_built_in_kept.false;
  one_type = c.is_one_to_one.ensures.so c.if-not-is_one_to_one.false;
  one_field = c.is_one_to_one-2.ensures.so holds;
}
