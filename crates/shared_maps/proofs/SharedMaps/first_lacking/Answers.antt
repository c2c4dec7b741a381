use Rattle.std.proofs.Common.{None, Some, subst}
use Rattle.shared_maps.specs.Trees.{IsFirst, LacksFrom, Memory}
use Rattle.shared_maps.proofs.Lacking.{first_is, none_lacking, past_lacking}
use Rattle.shared_maps.proofs.SharedMaps.first_lacking.Goals as goal

pub returns-in_err-key-clause-first : goal.returns-in_err-key-clause-first
returns-in_err-key-clause-first c =
    let m : Memory = record { keys = c.self.inside.keys; height = c.self.inside.height; nodes = c.self.inside.nodes } in
    let none = subst (λ ns. IsFirst (LacksFrom ns m.height c.args.left.number c.args.right.number c.args.from) None) c.as_slice-nodes.ensures c.in_err-key.ensures in
    rw c.from_residual.ensures (rw (← c.self.view_is) (none_lacking m c.args.left c.args.right c.args.from c.self.invariant.enough none))

pub returns-then-key-self-clause-first : goal.returns-then-key-self-clause-first
returns-then-key-self-clause-first c =
    let m : Memory = record { keys = c.self.inside.keys; height = c.self.inside.height; nodes = c.self.inside.nodes } in
    let first = subst (λ ns. IsFirst (LacksFrom ns m.height c.args.left.number c.args.right.number c.args.from) (Some c.in_ok-key.key)) c.as_slice-nodes.ensures c.in_ok-key.ensures in
    rw (← c.self.view_is) (first_is m c.args.left c.args.right c.args.from c.self.invariant.enough c.in_ok-key.key c.if-key-self.true first)

pub returns-else-key-self-clause-first : goal.returns-else-key-self-clause-first
returns-else-key-self-clause-first c =
    let m : Memory = record { keys = c.self.inside.keys; height = c.self.inside.height; nodes = c.self.inside.nodes } in
    let first = subst (λ ns. IsFirst (LacksFrom ns m.height c.args.left.number c.args.right.number c.args.from) (Some c.in_ok-key.key)) c.as_slice-nodes.ensures c.in_ok-key.ensures in
    rw (← c.self.view_is) (past_lacking m c.args.left c.args.right c.args.from c.self.invariant.enough c.in_ok-key.key c.if-key-self.false first)
