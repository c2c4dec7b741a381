use Rattle.std.proofs.Common.{◌∙◌, arith}
use Rattle.method_groups.proofs.Firsts.{empty_list}
use Rattle.method_groups.proofs.Joins.{done_begins, done_next, done_ends, past_next, labels_all}
use Rattle.method_groups.proofs.types.labels_of.Goals as goal

pub loop-c-init : goal.loop-c-init
loop-c-init c =
    let made = c.in_ok-labels.ensures in
    record {
      labels = record { fit = made.fit; additions = made.additions c.args.w.now; size = made.size ∙ c.len.ensures; sound = λ m x h. absurd (made.nothing m x h) };
      done = done_begins c.args.w.now c.in_ok-labels.labels c.in_ok-order.order.items c.in_ok-order.ensures;
    }

pub loop-c-preserved : goal.loop-c-preserved
loop-c-preserved c =
    let added = c.in_ok-add_type.ensures in
    record {
      labels = added.labels;
      done = done_next c.args.w.now c.loop-c.labels c.add_type.new.labels c.loop-c.order.items c.pop.new.self.items c.in-Some.c c.in-Some.ensures.items c.loop-c.invariant.done added.kept added.all;
    }

pub loop-past-init : goal.loop-past-init
loop-past-init c = record {
  labels = c.loop-c.invariant.labels;
  done = λ d lt. done_ends c.args.w.now c.loop-c.labels c.loop-c.order.items (empty_list c.loop-c.order.items (omega (arith, c.in_default.ensures.cases.0, c.loop-c.order.ok.0))) c.loop-c.invariant.done d (omega (arith, lt, c.len-past.ensures));
}

pub loop-past-preserved : goal.loop-past-preserved
loop-past-preserved c =
    let added = c.in_ok-add_type-2.ensures in
    record {
      labels = added.labels;
      done = past_next c.args.w.now c.loop-past.labels c.add_type-in-loop-past.new.labels c.loop-past.past c.loop-past.invariant.done added.kept added.all;
    }

pub returns : goal.returns
returns c =
    labels_all c.args.w.now c.loop-past.labels c.loop-past.past c.owner_limit-past-end.result c.loop-past.invariant.labels c.owner_limit-past-end.ensures.limit c.loop-past-test.false c.loop-past.invariant.done
