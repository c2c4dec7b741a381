use Rattle.std.proofs.Common.{arith, subst, sym, ◌∙◌}
use Rattle.std.proofs.lemmas.Option.{slice_get-get_or, slice_get_within}
use Rattle.class_world.specs.Climbs.{MarkGeneric}
use Rattle.class_world.proofs.Transports.{fill_next, shortcuts_none}
use Rattle.class_world.proofs.order_table.fill_rows.Goals as goal

pub add_row-requires-clause-above : goal.add_row-requires-clause-above
add_row-requires-clause-above c = λ g args super.
    let there = slice_get-get_or c.args.listed.now c.loop-c.c-index 0 c.loop-c-test.true in
    let under = c.requires.sequence.before c.loop-c.c-index _ g args there super in
    c.loop-c.invariant.filled under.0 g under.1 under.2

pub add_row-requires-clause-generic : goal.add_row-requires-clause-generic
add_row-requires-clause-generic c = subst (MarkGeneric c.args.w.now) (sym c.as_slice.ensures.value) c.in_ok-generic.ensures

pub add_row-requires-clause-within : goal.add_row-requires-clause-within
add_row-requires-clause-within c = c.requires.sequence.known c.loop-c.c-index _ (slice_get-get_or c.args.listed.now c.loop-c.c-index 0 c.loop-c-test.true)

pub loop-c-init : goal.loop-c-init
loop-c-init c = record {
  len = c.in_ok-rows.ensures.len ∙ c.len.ensures;
  filled = λ k d lt. absurd (omega (arith, lt));
  shortcuts = shortcuts_none c.args.w.now c.in_ok-rows.rows.items c.in_ok-rows.ensures.none;
}

pub loop-c-preserved : goal.loop-c-preserved
loop-c-preserved c =
    let there = slice_get-get_or c.args.listed.now c.loop-c.c-index 0 c.loop-c-test.true in
    record {
      len = c.in_ok-add_row.ensures.len;
      filled = fill_next c.args.w.now c.args.listed.now c.loop-c.rows.items c.add_row.new.rows.items c.loop-c.c-index _ c.loop-c.invariant.filled c.in_ok-add_row.ensures.kept there
          c.in_ok-add_row.ensures.row;
      shortcuts = c.in_ok-add_row.ensures.shortcuts;
    }

pub returns : goal.returns
returns c = λ k info known.
    let at = c.requires.sequence.all k (slice_get_within c.args.w.now.types k info known) in
    let within = slice_get_within c.args.listed.now at.0 k at.1 in
    c.loop-c.invariant.filled at.0 k (omega (arith, within)) at.1 info known
