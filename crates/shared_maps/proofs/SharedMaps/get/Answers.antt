use Rattle.std.proofs.Common.{sym, ap, ◌∙◌}
use Rattle.shared_maps.specs.Trees.{Memory, value_at}
use Rattle.shared_maps.proofs.Views.{value_inside, value_outside}
use Rattle.shared_maps.proofs.SharedMaps.get.Goals as goal

pub returns-then-key-self : goal.returns-then-key-self
returns-then-key-self c =
    let m : Memory = record { keys = c.self.inside.keys; height = c.self.inside.height; nodes = c.self.inside.nodes } in
    rw (← c.self.view_is)
    (c.found.ensures ∙ ap (λ ns. value_at ns c.self.inside.height c.args.map.number c.args.key) c.as_slice.ensures ∙ sym (value_inside m c.args.map c.args.key c.if-key-self.true))

pub returns-else-key-self : goal.returns-else-key-self
returns-else-key-self c =
    let m : Memory = record { keys = c.self.inside.keys; height = c.self.inside.height; nodes = c.self.inside.nodes } in
    rw (← c.self.view_is) (sym (value_outside m c.args.map c.args.key c.if-key-self.false))
