use Rattle.std.proofs.Common.{map, subst}
use Rattle.java_tree.specs.View.{member_plain}
use Rattle.rule_order.specs.Noted.{SomeOf, Adds}
use Rattle.super_rules.specs.Rules.{ThrowsBreaches}
use Rattle.super_rules.proofs.Sets.{type_adds}
use Rattle.super_rules.proofs.throwing.note_type.Goals as goal

pub returns : goal.returns
returns c = λ java fs types x is cyclic throwable.
    let e = c.args.entry.now in
    let n = c.args.number in
    let above = c.is_set.ensures in
    let thrown = c.is_set-2.ensures in
    let throws = subst (λ ms. Adds (SomeOf (map member_plain ms) (ThrowsBreaches java fs types x)) c.args.first c.note_members-first.result) c.as_slice.ensures
    (c.note_members-first.ensures java fs types x is.place throwable) in
    type_adds java fs types n e x c.is_set.result c.is_empty-generic.result c.is_set-2.result c.args.first c.note_members-first.result c.noted-first.result c.noted.result is throws
    (λ h. (cyclic n).0 (above.0 h), λ h. above.1 ((cyclic n).1 h)) c.noted-first.ensures c.is_empty-generic.ensures (λ h. (throwable n).0 (thrown.0 h), λ h. thrown.1 ((throwable n).1 h)) c.noted.ensures
