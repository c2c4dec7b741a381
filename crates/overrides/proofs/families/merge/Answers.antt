use Rattle.std.proofs.Common.{◌≡◌, Some, refl, length}
use Rattle.std.specs.Prelude.{slice_get}
use Rattle.std.proofs.lemmas.Option.{slice_get_read}
use Rattle.std.proofs.lemmas.Result.{on_ok_weaker}
use Rattle.overrides.proofs.Marks.{merged_first, merged_second}
use Rattle.overrides.proofs.families.merge.Goals as goal
use Rattle.overrides.proofs.families.merge.Goals.{After-index-a, After-index-b}

first_at : (c : After-index-a) → slice_get c.args.groups.now.labels.items c.args.m ≡ Some c.index-a.result.now
first_at c = let labels = c.args.groups.now.labels.items in slice_get_read labels (length labels) c.args.m c.index-a.result.now refl c.requires.first c.index-a.ensures

second_at : (c : After-index-b) → slice_get c.args.groups.now.labels.items c.args.k ≡ Some c.index-b.result.now
second_at c = let labels = c.args.groups.now.labels.items in slice_get_read labels (length labels) c.args.k c.index-b.result.now refl c.requires.second c.index-b.ensures

pub returns-then-len-clause-merged : goal.returns-then-len-clause-merged
returns-then-len-clause-merged c =
    on_ok_weaker c.relabel.result
    (merged_first c.args.groups.now.labels.items _ c.args.m c.args.k c.index-a.result.now c.index-b.result.now (first_at ((goal.at.returns-then-len-clause-merged c).After-index-a))
    (second_at ((goal.at.returns-then-len-clause-merged c).After-index-b)) c.if-a-b.false) c.relabel.ensures.relabelled

pub returns-else-len-clause-merged : goal.returns-else-len-clause-merged
returns-else-len-clause-merged c =
    on_ok_weaker c.relabel-else-len.result
    (merged_second c.args.groups.now.labels.items _ c.args.m c.args.k c.index-a.result.now c.index-b.result.now (first_at ((goal.at.returns-else-len-clause-merged c).After-index-a))
    (second_at ((goal.at.returns-else-len-clause-merged c).After-index-b)) c.if-a-b.false) c.relabel-else-len.ensures.relabelled
