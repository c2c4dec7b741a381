use Rattle.std.proofs.Common.{subst}
use Rattle.shared_maps.specs.Trees.{Adds, DiffersIn, Memory}
use Rattle.shared_maps.proofs.Views.{are_differing}
use Rattle.shared_maps.proofs.SharedMaps.differing.Goals as goal

pub returns : goal.returns
returns c =
    let m : Memory = record { keys = c.self.inside.keys; height = c.self.inside.height; nodes = c.self.inside.nodes } in
    let keys = c.add_differing.new.different.items in
    let added = subst (λ ns. Adds c.new-different.result.items keys (DiffersIn ns m.keys m.height c.args.left.number c.args.right.number 0)) c.as_slice.ensures c.in_ok-add_differing.ensures in
    rw (← c.self.view_is)
    (are_differing m c.args.left c.args.right keys c.self.invariant.enough
    (subst (λ xs. Adds xs keys (DiffersIn m.nodes m.keys m.height c.args.left.number c.args.right.number 0)) c.new-different.ensures.items added))
