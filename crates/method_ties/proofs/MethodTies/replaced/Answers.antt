use Rattle.std.proofs.Common.{[], refl, sym, ap, ◌∙◌, subst}
use Rattle.std.specs.Prelude.{slice_get, unwrap_or}
use Rattle.std.proofs.lemmas.Option.{slice_get_read, slice_get_past}
use Rattle.method_ties.specs.Ties.{AreReplaced}
use Rattle.method_ties.proofs.MethodTies.replaced.Goals as goal

pub returns-in-Some : goal.returns-in-Some
returns-in-Some c w h =
    let at = c.in-Some.ensures.lookup in
    let read = ap (λ l. slice_get l c.args.m) (sym c.deref.ensures.value) ∙ slice_get_read c.deref.result.now _ c.args.m c.in-Some.list.now refl at.3.0 at.1 in
    subst (AreReplaced w c.args.m) (ap (λ o. unwrap_or o []) read ∙ sym c.as_slice.ensures) (h.replaced c.args.m)

pub returns-in-None : goal.returns-in-None
returns-in-None c w h =
    let past = ap (λ l. slice_get l c.args.m) (sym c.deref.ensures.value) ∙ slice_get_past c.deref.result.now c.args.m c.in-None.ensures.lookup.3 in
    subst (AreReplaced w c.args.m) (ap (λ o. unwrap_or o []) past) (h.replaced c.args.m)
