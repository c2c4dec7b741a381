use Rattle.std.proofs.Common.{[], ◌∷◌, map, take, subst}
use Rattle.std.proofs.lemmas.List.{take_all}
use Rattle.java_tree.specs.View.{type_plain}
use Rattle.rule_order.specs.Noted.{SomeOf, Adds}
use Rattle.rule_order.proofs.Lists.{some_none}
use Rattle.written_types.specs.Breaks.{IllNamed}
use Rattle.declared_types.proofs.Lists.{some_one, some_next, taken}
use Rattle.declared_types.proofs.members.note_types.Goals as goal

pub loop-x-init : goal.loop-x-init
loop-x-init c = λ p at. some_none (IllNamed p) c.args.first

pub loop-x-preserved : goal.loop-x-preserved
loop-x-preserved c = λ p at.
    let x = type_plain c.x-item.result in
    let i = c.loop-x.x-index in
    some_next (IllNamed p) (map type_plain (take i c.args.xs.now)) (x ∷ []) _ c.args.first c.loop-x.first c.note_type-first.result
    (taken type_plain c.args.xs.now i c.x-item.result c.loop-x-test.true c.x-item.is) (c.loop-x.invariant p at)
    (some_one (IllNamed p) x c.loop-x.first c.note_type-first.result (c.note_type-first.ensures p at))

pub returns : goal.returns
returns c = λ p at.
    subst (λ xs. Adds (SomeOf (map type_plain xs) (IllNamed p)) c.args.first c.loop-x.first) (take_all c.loop-x.x-index c.args.xs.now c.loop-x-test.false) (c.loop-x.invariant p at)
