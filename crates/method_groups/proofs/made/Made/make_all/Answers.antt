use Rattle.std.proofs.Common.{◌∙◌, get_or}
use Rattle.std.proofs.lemmas.List.Elements.{Contains-get_or}
use Rattle.method_groups.proofs.Groups.{in_labels, label_members}
use Rattle.method_groups.proofs.made.Made.make_all.Goals as goal

pub place_of_label-requires-clause-within : goal.place_of_label-requires-clause-within
place_of_label-requires-clause-within c =
    let labels = c.args.labels.now.labels.items in
    let order = c.as_slice-label-items.result.now in
    let label = get_or order c.loop-label.label-index 0 in
    let m = in_labels labels c.in_ok-order.order.items c.sort_unstable.new.self.items order label (c.in_ok-order.ensures.items ∙ c.as_slice.ensures.value) c.sort_unstable.ensures.permutation c.as_slice-label-items.ensures.value
    (Contains-get_or order c.loop-label.label-index 0 c.loop-label-test.true) in
    c.requires.labels.labels.fit.within m.0 label m.1

pub place_of_label-requires-clause-members : goal.place_of_label-requires-clause-members
place_of_label-requires-clause-members c =
    let labels = c.args.labels.now.labels.items in
    let order = c.as_slice-label-items.result.now in
    let label = get_or order c.loop-label.label-index 0 in
    let m = in_labels labels c.in_ok-order.order.items c.sort_unstable.new.self.items order label (c.in_ok-order.ensures.items ∙ c.as_slice.ensures.value) c.sort_unstable.ensures.permutation c.as_slice-label-items.ensures.value
    (Contains-get_or order c.loop-label.label-index 0 c.loop-label-test.true) in
    label_members c.args.w.now c.args.labels.now c.requires.labels m.0 label m.1

pub loop-label-preserved : goal.loop-label-preserved
loop-label-preserved c =
    let one = c.in_ok-place_of_label.ensures in
    record { ready = one.ready; kept = λ p list at. one.kept p list (c.loop-label.invariant.kept p list at) }
