use Rattle.std.proofs.Common.{refl, sym, ◌∙◌, arith}
use Rattle.shared_maps.specs.declared.Map.{Map}
use Rattle.shared_maps.specs.Trees.{Memory}
use Rattle.shared_maps.proofs.Nodes.{bare_first, bare_past}
use Rattle.shared_maps.proofs.Views.{keeps_grown, none_in, put_in, put_outside}
use Rattle.shared_maps.proofs.SharedMaps.put.Goals as goal
use Rattle.shared_maps.proofs.SharedMaps.put.Goals.{then-map-len, else-map-len}

pub returns-in_err-number-clause-kept : goal.returns-in_err-number-clause-kept
returns-in_err-number-clause-kept c =
    let old : Memory = record { keys = c.self.inside.keys; height = c.self.inside.height; nodes = c.self.inside.nodes } in
    let new : Memory = record { keys = c.self.inside.keys; height = c.self.inside.height; nodes = c.with_value.new.nodes } in
    rw (← c.self.view_is) (keeps_grown old new refl refl c.self.invariant.arena c.in_err-number.ensures.grows)

pub returns-in_ok-number-clause-value : goal.returns-in_ok-number-clause-value
returns-in_ok-number-clause-value c =
    let old : Memory = record { keys = c.self.inside.keys; height = c.self.inside.height; nodes = c.self.inside.nodes } in
    let new : Memory = record { keys = c.self.inside.keys; height = c.self.inside.height; nodes = c.with_value.new.nodes } in
    rw (← c.self.view_is)
    (put_in old new c.args.map (record { number = c.in_ok-number.number }) c.args.key c.args.value refl refl c.self.invariant.enough (record { each = c.in_ok-number.ensures.value }))

pub returns-in_ok-number-clause-kept : goal.returns-in_ok-number-clause-kept
returns-in_ok-number-clause-kept c =
    let old : Memory = record { keys = c.self.inside.keys; height = c.self.inside.height; nodes = c.self.inside.nodes } in
    let new : Memory = record { keys = c.self.inside.keys; height = c.self.inside.height; nodes = c.with_value.new.nodes } in
    rw (← c.self.view_is) (keeps_grown old new refl refl c.self.invariant.arena c.in_ok-number.ensures.grows)

pub returns-after-map-len-clause-value : goal.returns-after-map-len-clause-value
returns-after-map-len-clause-value c =
    let m : Memory = record { keys = c.self.inside.keys; height = c.self.inside.height; nodes = c.self.inside.nodes } in
    let arena = c.self.invariant.arena in
    let none : Map = record { number = 0 } in
    rw (← c.self.view_is) (elim c.if-map-len.branch [
      | then-map-len w ↦ rw w.result-is (put_outside m c.args.map c.args.map c.args.key c.args.value c.if-key-self.false (λ k. refl))
      | else-map-len w ↦
          rw w.result-is
          (put_outside m c.args.map none c.args.key c.args.value c.if-key-self.false
          (λ k.
          none_in m none arena (bare_first m.nodes arena) k
          ∙ sym (none_in m c.args.map arena (bare_past m.nodes c.args.map.number (omega (arith, w.if-map-len.false, c.len.ensures))) k)))
    ])
