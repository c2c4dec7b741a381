use Rattle.std.proofs.Common.{◌++◌, sym, ap, ◌∙◌, subst}
use Rattle.shared_maps.specs.Trees.{Memory, entries_at}
use Rattle.shared_maps.specs.Maps.{AreEntries, value_in}
use Rattle.shared_maps.proofs.Views.{are_entries}
use Rattle.shared_maps.proofs.SharedMaps.entries.Goals as goal

pub returns : goal.returns
returns c =
    let m : Memory = record { keys = c.self.inside.keys; height = c.self.inside.height; nodes = c.self.inside.nodes } in
    let items =
    c.in_ok-add_entries.ensures ∙ ap (λ xs. xs ++ entries_at c.as_slice.result.now m.keys m.height c.args.map.number 0) c.new-entries.ensures.items
    ∙ ap (λ ns. entries_at ns m.keys m.height c.args.map.number 0) c.as_slice.ensures in
    rw (← c.self.view_is) (subst (AreEntries (value_in m c.args.map)) (sym items) (are_entries m c.args.map c.self.invariant.enough))
