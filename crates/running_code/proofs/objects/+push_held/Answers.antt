use Rattle.std.proofs.Common.{◌≡◌, ◌<◌, ◌-◌, ◌++◌, sym, ap, ◌∙◌, subst, append_assoc, arith}
use Rattle.std.specs.Prelude.{OnOk}
use Rattle.core_meaning.specs.Code.{superclass}
use Rattle.running_code.specs.Types.{held_above}
use Rattle.running_code.proofs.Above.{held_step}
use Rattle.running_code.proofs.objects.+push_held.Goals as goal

pub returns : goal.returns
returns t c =
    let w = c.args.g.now.world.now in
    let n = c.args.n in
    let k = c.in-Some.class in
    let out = c.args.out.now in
    let own = c.own_in.result.now in
    let some : 0 < n = omega (arith, c.if-n-eq0.false) in
    subst (λ l. OnOk c.push_all.result (c.push_all.new.out ≡ l))
    (ap (λ l. l ++ own) c.in_ok-push_held.ensures ∙ append_assoc out (held_above (n - 1) w c.superclass_in.result) own
    ∙ ap (λ l. out ++ l)
    (ap (λ s. held_above (n - 1) w s ++ own) (c.superclass_in.ensures w c.requires.types)
    ∙ ap (λ l. held_above (n - 1) w (superclass w k) ++ l) (c.own_in.ensures w c.requires.types)
    ∙ sym (held_step n w k some) ∙ ap (held_above n w) (sym c.in-Some.is)))
    c.push_all.ensures
