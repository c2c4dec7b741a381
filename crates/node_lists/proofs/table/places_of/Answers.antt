use Rattle.std.proofs.Common.{ap, ◌∙◌}
use Rattle.node_lists.specs.Table.{or_later, told, told_of}
use Rattle.node_lists.proofs.Tables.{file_noted}
use Rattle.node_lists.proofs.table.places_of.Goals as goal

pub loop-file-preserved : goal.loop-file-preserved
loop-file-preserved c =
    λ k.
    let here = told c.loop-file.table k in
    file_noted k c.args.units.now c.loop-file.file c.index-units-file.result here (told c.in_ok-table.table k) _ c.loop-file-test.true c.index-units-file.is
    (c.in_ok-table.ensures k ∙ ap (λ ns. or_later here (told_of c.loop-file.file k ns)) (c.as_slice.ensures ∙ c.in_ok-nodes.ensures)) (c.loop-file.invariant k)
