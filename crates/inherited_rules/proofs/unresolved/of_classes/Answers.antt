use Rattle.std.proofs.Common.{ℕ, ◌+◌, Vec, Global, get_or, sym, ap, ◌∙◌, subst}
use Rattle.std.proofs.lemmas.Option.{slice_get-get_or}
use Rattle.class_world.specs.Counted.{IsOfClass}
use Rattle.member_methods.proofs.Firsts.{Keeps, all_kept, push_kept, skip_kept}
use Rattle.inherited_rules.proofs.unresolved.of_classes.Goals as goal
use Rattle.inherited_rules.proofs.unresolved.of_classes.Goals.{then-is_of_class+in_ok-push, else-is_of_class}

pub loop-t-preserved : goal.loop-t-preserved
loop-t-preserved c =
    let ms = c.args.methods.now in
    let i = c.loop-t.t-index in
    let t = get_or ms i 0 in
    let at = slice_get-get_or ms i 0 c.loop-t-test.true in
    let P = IsOfClass c.args.w.now in
    elim c.if-is_of_class.branch [
      | then-is_of_class+in_ok-push v ↦
          push_kept P ms c.loop-t.found.items c.if-is_of_class.found.items i t c.loop-t.invariant at (c.is_of_class.ensures.0 v.if-is_of_class.true)
          (ap (λ (v : Vec ℕ Global). v.items) v.found-is ∙ v.in_ok-push.ensures.items)
      | else-is_of_class v ↦ subst (λ (u : Vec ℕ Global). Keeps P ms u.items (i + 1)) (sym v.found-is)
          (skip_kept P ms c.loop-t.found.items i t c.loop-t.invariant at (λ top. let yes = c.is_of_class.ensures.1 top in cc (yes, v.if-is_of_class.false)))
    ]

pub returns : goal.returns
returns c t = all_kept (IsOfClass c.args.w.now) c.args.methods.now c.loop-t.found.items c.loop-t.t-index c.loop-t-test.false c.loop-t.invariant t
