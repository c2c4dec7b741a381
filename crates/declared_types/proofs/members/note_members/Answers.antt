use Rattle.std.proofs.Common.{[], ◌∷◌, ◌++◌, map, take, subst, ap, ◌∙◌}
use Rattle.std.specs.Prelude.{flat_map}
use Rattle.std.proofs.lemmas.List.{take_all}
use Rattle.std.proofs.lemmas.List.Concat.{flat_map-append}
use Rattle.java_tree.specs.View.{member_plain}
use Rattle.rule_order.specs.Noted.{SomeOf, Adds}
use Rattle.rule_order.proofs.Lists.{some_none}
use Rattle.written_types.specs.Breaks.{IllNamed}
use Rattle.type_names.proofs.Held.{append_none}
use Rattle.declared_types.specs.Rules.{member_types}
use Rattle.declared_types.proofs.Lists.{some_next, taken}
use Rattle.declared_types.proofs.members.note_members.Goals as goal

pub loop-m-init : goal.loop-m-init
loop-m-init c = λ p at. some_none (IllNamed p) c.args.first

pub loop-m-preserved : goal.loop-m-preserved
loop-m-preserved c = λ p at.
    let m = member_plain c.m-item.result in
    let old = map member_plain (take c.loop-m.m-index c.args.members.now) in
    some_next (IllNamed p) (flat_map member_types old) (member_types m) _ c.args.first c.loop-m.first c.note_member-first.result
    (ap (flat_map member_types) (taken member_plain c.args.members.now c.loop-m.m-index c.m-item.result c.loop-m-test.true c.m-item.is) ∙ flat_map-append member_types old (m ∷ [])
    ∙ ap (λ xs. flat_map member_types old ++ xs) (append_none (member_types m))) (c.loop-m.invariant p at)
    (c.note_member-first.ensures p at)

pub returns : goal.returns
returns c = λ p at.
    subst (λ ms. Adds (SomeOf (flat_map member_types (map member_plain ms)) (IllNamed p)) c.args.first c.loop-m.first) (take_all c.loop-m.m-index c.args.members.now c.loop-m-test.false)
    (c.loop-m.invariant p at)
