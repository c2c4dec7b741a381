use Rattle.std.proofs.Common.{sym, subst}
use Rattle.class_world.specs.Climbs.{FlagBases}
use Rattle.class_world.specs.Sorts.{IsSorted}
use Rattle.class_world.specs.Meets.{MarkDoubled}
use Rattle.class_world.proofs.below_two.first_doubled.Goals as goal

pub search-requires-clause-flags : goal.search-requires-clause-flags
search-requires-clause-flags c = subst (FlagBases c.args.w.now) (sym c.as_slice-flags.ensures.value) c.in_ok-flags.ensures

pub class_rows-requires-clause-flags : goal.class_rows-requires-clause-flags
class_rows-requires-clause-flags c = subst (FlagBases c.args.w.now) (sym c.as_slice-flags.ensures.value) c.in_ok-flags.ensures

pub class_rows-requires-clause-sequence : goal.class_rows-requires-clause-sequence
class_rows-requires-clause-sequence c = subst (IsSorted c.args.w.now) c.in-Sequence.is c.in_ok-sort.ensures

pub doubled_classes-requires-clause-flags : goal.doubled_classes-requires-clause-flags
doubled_classes-requires-clause-flags c = subst (FlagBases c.args.w.now) (sym c.as_slice-flags.ensures.value) c.in_ok-flags.ensures

pub first_marked-requires-clause-doubled : goal.first_marked-requires-clause-doubled
first_marked-requires-clause-doubled c = subst (MarkDoubled c.args.w.now) (sym c.as_slice.ensures.value) c.in_ok-doubled-in-Sequence.ensures
