use Rattle.std.proofs.Common.{◌++◌, map, take, sym, subst}
use Rattle.std.proofs.lemmas.List.{take_all}
use Rattle.java_tree.specs.View.{type_plain}
use Rattle.rule_order.specs.Noted.{Adds}
use Rattle.type_names.proofs.Held.{append_none}
use Rattle.declared_types.specs.Spelling.{HoldsSpelled}
use Rattle.declared_types.specs.Looks.{BreaksBehind}
use Rattle.declared_types.proofs.Clauses.{behind_none, behind_next, before_next}
use Rattle.declared_types.proofs.supers.note_supers.Goals as goal

pub loop-x-init : goal.loop-x-init
loop-x-init c = record {
  adds = λ p before at held. behind_none c.args.scope.now.types.now p c.args.wants_class before c.args.first;
  held = λ p before at held. subst (HoldsSpelled p c.args.seen.now) (sym (append_none before)) held;
}

pub loop-x-preserved : goal.loop-x-preserved
loop-x-preserved c = record {
  adds = λ p before at held.
      behind_next c.args.scope.now.types.now p c.args.wants_class before c.args.xs.now c.loop-x.x-index c.x-item.result c.in_ok-again.again c.is_wrong.result c.args.first c.loop-x.first c.noted-first.result
      c.loop-x-test.true c.x-item.is
      (c.in_ok-again.ensures.again p (before ++ map type_plain (take c.loop-x.x-index c.args.xs.now)) at (c.loop-x.invariant.held p before at held)) (c.is_wrong.ensures p at) c.noted-first.ensures
      (c.loop-x.invariant.adds p before at held);
  held = λ p before at held.
      subst (HoldsSpelled p c.push_spelled.new.seen) (before_next before c.args.xs.now c.loop-x.x-index c.x-item.result c.loop-x-test.true c.x-item.is)
      (c.in_ok-again.ensures.held p (before ++ map type_plain (take c.loop-x.x-index c.args.xs.now)) at (c.loop-x.invariant.held p before at held));
}

pub returns-clause-adds : goal.returns-clause-adds
returns-clause-adds c = λ p before at held.
    subst (λ xs. Adds (BreaksBehind c.args.scope.now.types.now p c.args.wants_class before (map type_plain xs)) c.args.first c.loop-x.first)
    (take_all c.loop-x.x-index c.args.xs.now c.loop-x-test.false) (c.loop-x.invariant.adds p before at held)

pub returns-clause-held : goal.returns-clause-held
returns-clause-held c = λ p before at held.
    subst (λ xs. HoldsSpelled p c.loop-x.seen (before ++ map type_plain xs)) (take_all c.loop-x.x-index c.args.xs.now c.loop-x-test.false) (c.loop-x.invariant.held p before at held)
