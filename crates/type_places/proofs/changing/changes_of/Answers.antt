use Rattle.std.proofs.Common.{subst, sym}
use Rattle.class_world.specs.declared.world.World.{World}
use Rattle.type_places.specs.declared.places.Declared.TheVariants as declared
use Rattle.type_places.specs.Changing.{IsChange}
use Rattle.type_places.proofs.Flags.{ok_for}
use Rattle.type_places.proofs.changing.changes_of.Goals as goal

pub returns-in-Locals : goal.returns-in-Locals
returns-in-Locals c =
    let i = c.in-Locals in
    let p = c.args.place.now in
    ok_for c.of_locals.result (λ x. (w : World) → IsChange w p.old (declared.Locals i.body c.as_slice.result.now i.scope) c.args.new x)
    (λ x. IsChange c.args.w.now p.old p.declared c.args.new x)
    (λ x is. subst (λ d. IsChange c.args.w.now p.old d c.args.new x) (sym i.is)
    (subst (λ xs. IsChange c.args.w.now p.old (declared.Locals i.body xs i.scope) c.args.new x) c.as_slice.ensures (is c.args.w.now)))
    c.of_locals.ensures

pub returns-in-Fields : goal.returns-in-Fields
returns-in-Fields c =
    let i = c.in-Fields in
    let p = c.args.place.now in
    ok_for c.of_fields.result (λ x. (w : World) → IsChange w p.old (declared.Fields c.as_slice-in-Fields.result.now) c.args.new x)
    (λ x. IsChange c.args.w.now p.old p.declared c.args.new x)
    (λ x is. subst (λ d. IsChange c.args.w.now p.old d c.args.new x) (sym i.is)
    (subst (λ xs. IsChange c.args.w.now p.old (declared.Fields xs) c.args.new x) c.as_slice-in-Fields.ensures (is c.args.w.now)))
    c.of_fields.ensures

pub returns-in-Result : goal.returns-in-Result
returns-in-Result c =
    let i = c.in-Result in
    let p = c.args.place.now in
    ok_for c.of_result.result (λ x. (w : World) → IsChange w p.old (declared.Result i.method) c.args.new x) (λ x. IsChange c.args.w.now p.old p.declared c.args.new x)
    (λ x is. subst (λ d. IsChange c.args.w.now p.old d c.args.new x) (sym i.is) (is c.args.w.now)) c.of_result.ensures
