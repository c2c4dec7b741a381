use Rattle.shared_maps.specs.Trees.{Memory}
use Rattle.shared_maps.proofs.Nodes.{bare_first}
use Rattle.shared_maps.proofs.Views.{none_in}
use Rattle.shared_maps.proofs.SharedMaps.empty.Goals as goal

pub returns-clause-none : goal.returns-clause-none
returns-clause-none c =
    let m : Memory = record { keys = c.self.inside.keys; height = c.self.inside.height; nodes = c.self.inside.nodes } in
    rw (← c.self.view_is) (none_in m (record { number = 0 }) c.self.invariant.arena (bare_first c.self.inside.nodes c.self.invariant.arena))
