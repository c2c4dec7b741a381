use Rattle.std.proofs.Common.{false, [], ◌++◌, map, not, subst, ◌≡◌, ap}
use Rattle.std.specs.Prelude.{flat_map}
use Rattle.std.proofs.lemmas.Result.{IfOk-weaker}
use Rattle.java_tree.specs.View.{type_plain, member_plain, decl_plain}
use Rattle.rule_order.specs.Noted.{SomeOf, Adds}
use Rattle.rule_order.proofs.Adding.{adds_both}
use Rattle.rule_order.proofs.Lists.{some_append}
use Rattle.written_types.specs.Breaks.{IllNamed}
use Rattle.declared_types.specs.Rules.{member_types, NamesNoType, BreaksSuper}
use Rattle.declared_types.specs.Spelling.{HoldsSpelled}
use Rattle.declared_types.specs.Looks.{BreaksBehind}
use Rattle.declared_types.proofs.Deciding.{spelled_none}
use Rattle.declared_types.proofs.Clauses.{supers_add}
use Rattle.declared_types.proofs.supers.note_decl.Goals as goal

pub returns : goal.returns
returns c = λ p at.
    let F = IllNamed p in
    let types = c.args.scope.now.types.now in
    let d = decl_plain c.args.d.now in
    let extends_is : map type_plain c.as_slice-extends.result.now ≡ d.extends = ap (map type_plain) c.as_slice-extends.ensures in
    let implements_is : map type_plain c.as_slice-implements.result.now ≡ d.implements = ap (map type_plain) c.as_slice-implements.ensures in
    let one = subst (λ xs. Adds (SomeOf xs F) c.args.first c.note_types-first.result) extends_is (c.note_types-first.ensures p at) in
    let two = subst (λ xs. Adds (SomeOf xs F) c.note_types-first.result c.note_types-first-2.result) implements_is (c.note_types-first-2.ensures p at) in
    let three = subst (λ ms. Adds (SomeOf (flat_map member_types (map member_plain ms)) F) c.note_types-first-2.result c.note_members-first.result) c.as_slice.ensures (c.note_members-first.ensures p at) in
    let names =
    some_append F (d.extends ++ d.implements) (flat_map member_types d.members) c.args.first c.note_types-first-2.result c.note_members-first.result
    (some_append F d.extends d.implements c.args.first c.note_types-first.result c.note_types-first-2.result one two) three
    in
    let none = spelled_none p c.new-seen.result c.new-seen.ensures.empty in
    let front = subst (λ xs. Adds (BreaksBehind types p (not d.interface) [] xs) c.note_members-first.result c.in_ok-first.first) extends_is (c.in_ok-first.ensures.adds p [] at none) in
    let held = subst (HoldsSpelled p c.note_supers.new.seen) extends_is (c.in_ok-first.ensures.held p [] at none) in
    IfOk-weaker c.note_supers-2.result _ _
    (λ r back.
    adds_both (NamesNoType p d) (BreaksSuper types p d) c.args.first c.note_members-first.result r names
    (supers_add types p d c.note_members-first.result c.in_ok-first.first r front
    (subst (λ xs. Adds (BreaksBehind types p false d.extends xs) c.in_ok-first.first r) implements_is back)))
    (c.note_supers-2.ensures.adds p d.extends at held)
