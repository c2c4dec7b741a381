use Rattle.std.proofs.Common.{◌++◌, map, sym, subst}
use Rattle.std.specs.Prelude.{option_to_list}
use Rattle.std.specs.Option.{option_map}
use Rattle.java_tree.specs.Plain.{Param}
use Rattle.java_tree.specs.View.{type_plain, param_plain, member_plain}
use Rattle.rule_order.specs.Noted.{SomeOf, Adds}
use Rattle.rule_order.proofs.Lists.{some_append}
use Rattle.written_types.specs.Breaks.{IllNamed}
use Rattle.declared_types.specs.Rules.{member_types}
use Rattle.declared_types.proofs.Lists.{some_one}
use Rattle.declared_types.proofs.members.note_member.Goals as goal

pub returns-in-Field : goal.returns-in-Field
returns-in-Field c = λ p at.
    subst (λ m. Adds (SomeOf (member_types (member_plain m)) (IllNamed p)) c.args.first c.note_type.result) (sym c.in-Field.is)
    (some_one (IllNamed p) (type_plain c.in-Field.ty) c.args.first c.note_type.result (c.note_type.ensures p at))

pub returns-in-Method : goal.returns-in-Method
returns-in-Method c = λ p at.
    let F = IllNamed p in
    let own = option_to_list (option_map type_plain c.in-Method.ty) in
    let taken = map (λ (q : Param). q.ty) (map param_plain c.in-Method.params) in
    let thrown = map type_plain c.in-Method.throws in
    let a = c.note_result-first.result in
    let b = c.note_params-first.result in
    let r = c.note_types.result in
    let params = subst (λ qs. Adds (SomeOf (map (λ (q : Param). q.ty) (map param_plain qs)) F) a b) c.as_slice.ensures (c.note_params-first.ensures p at) in
    let throws = subst (λ xs. Adds (SomeOf (map type_plain xs) F) b r) c.as_slice-in-Method.ensures (c.note_types.ensures p at) in
    subst (λ m. Adds (SomeOf (member_types (member_plain m)) F) c.args.first r) (sym c.in-Method.is)
    (some_append F own (taken ++ thrown) c.args.first a r (c.note_result-first.ensures p at) (some_append F taken thrown a b r params throws))
