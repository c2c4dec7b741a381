use Rattle.std.proofs.Common.{◌≡◌, refl, subst}
use Rattle.shared_maps.specs.Trees.{Memory, value_at}
use Rattle.shared_maps.proofs.Views.{keeps_grown, union_in}
use Rattle.shared_maps.proofs.SharedMaps.union.Goals as goal

pub returns-in_err-both-clause-kept : goal.returns-in_err-both-clause-kept
returns-in_err-both-clause-kept c =
    let old : Memory = record { keys = c.self.inside.keys; height = c.self.inside.height; nodes = c.self.inside.nodes } in
    let new : Memory = record { keys = c.self.inside.keys; height = c.self.inside.height; nodes = c.united.new.nodes } in
    rw (← c.self.view_is) (keeps_grown old new refl refl c.self.invariant.arena c.in_err-both.ensures.grows)

pub returns-clause-value : goal.returns-clause-value
returns-clause-value c =
    let old : Memory = record { keys = c.self.inside.keys; height = c.self.inside.height; nodes = c.self.inside.nodes } in
    let new : Memory = record { keys = c.self.inside.keys; height = c.self.inside.height; nodes = c.united.new.nodes } in
    rw (← c.self.view_is)
    (union_in old new c.args.left c.args.right (record { number = c.in_ok-both.both }) c.known-first.result c.known-second.result refl refl c.self.invariant.enough
    (λ k.
    subst (λ ns. value_at ns c.self.inside.height c.known-first.result k ≡ value_at ns c.self.inside.height c.args.left.number k) c.as_slice.ensures
    (c.known-first.ensures.value c.self.inside.height k))
    (λ k.
    subst (λ ns. value_at ns c.self.inside.height c.known-second.result k ≡ value_at ns c.self.inside.height c.args.right.number k) c.as_slice-2.ensures
    (c.known-second.ensures.value c.self.inside.height k))
    (record { each = c.in_ok-both.ensures.value }))

pub returns-clause-kept : goal.returns-clause-kept
returns-clause-kept c =
    let old : Memory = record { keys = c.self.inside.keys; height = c.self.inside.height; nodes = c.self.inside.nodes } in
    let new : Memory = record { keys = c.self.inside.keys; height = c.self.inside.height; nodes = c.united.new.nodes } in
    rw (← c.self.view_is) (keeps_grown old new refl refl c.self.invariant.arena c.in_ok-both.ensures.grows)
