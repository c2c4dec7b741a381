use Rattle.std.proofs.Common.{◌≡◌, None, sym, ap, ◌∙◌, subst}
use Rattle.java_tree.specs.declared.tree.TypeExpr.{out-TypeExpr}
use Rattle.java_tree.specs.View.{type_plain}
use Rattle.rule_order.specs.First.{IsFirst}
use Rattle.rule_order.specs.Noted.{noted}
use Rattle.rule_order.proofs.Adding.{first_from_none}
use Rattle.written_types.specs.Breaks.{IllNamed}
use Rattle.written_types.specs.Walk as walk
use Rattle.written_types.proofs.Finding.{type_adds}
use Rattle.written_types.proofs.Steps.{walked, type_walked}
use Rattle.written_types.proofs.breaks.first_ill_named.Goals as goal

pub returns : goal.returns
returns c = λ p at.
    let x = type_plain c.args.x.now in
    let o = out-TypeExpr c.args.x.now in
    let is : c.note_types.result ≡ walk.type p x None =
    c.note_types.ensures p at ∙ ap (λ xs. walked p xs c.noted-first.result) c.as_slice.ensures
    ∙ ap (walked p o.args) (c.noted-first.ensures ∙ ap (noted None 1 o.node) (c.is_ill_named.ensures p at))
    ∙ sym (type_walked p c.args.x.now None)
    in
    subst (IsFirst (IllNamed p x)) (sym is) (first_from_none (IllNamed p x) (walk.type p x None) (type_adds p x None))
