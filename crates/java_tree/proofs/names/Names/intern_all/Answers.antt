use Rattle.std.proofs.Common.{◌∙◌, arith}
use Rattle.java_tree.proofs.Tables.{length_with_text, one_more}
use Rattle.java_tree.proofs.names.Names.intern_all.Goals as goal

pub loop-text-preserved : goal.loop-text-preserved
loop-text-preserved c = rw c.in_ok-intern.ensures.table (record {
  rest = one_more c.loop-text.self c.args.texts.now c.loop-text.text-index _ c.loop-text-test.true ∙ c.loop-text.invariant.rest;
  room = omega (arith, length_with_text);
})
