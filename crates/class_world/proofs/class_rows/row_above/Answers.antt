use Rattle.std.proofs.Common.{◌∙◌}
use Rattle.std.proofs.lemmas.Option.{slice_get_within}
use Rattle.class_world.proofs.Meets.{empty_row, zeros_bare}
use Rattle.class_world.proofs.class_rows.row_above.Goals as goal

pub returns-then-not-is_marked : goal.returns-then-not-is_marked
returns-then-not-is_marked c = λ info at.
    empty_row c.args.w.now c.args.listed.now c.args.flags.now c.args.c info c.new.result c.requires.flags (λ h. let never = c.is_marked.ensures.1 h in absurd (cc (never, c.if-not-is_marked.true))) at c.new.ensures

pub fill-requires-clause-within : goal.fill-requires-clause-within
fill-requires-clause-within c = slice_get_within c.args.listed.now c.args.place c.args.c c.requires.at

pub fill-requires-clause-none : goal.fill-requires-clause-none
fill-requires-clause-none c = zeros_bare c.as_mut_slice.result.now _ (c.as_mut_slice.ensures.value ∙ c.in_ok-words.ensures.items_if_clones_equal (λ y e. e))
