use Rattle.std.proofs.Common.{◌≡◌, ap, sym, subst, ◌∙◌}
use Rattle.std.proofs.lemmas.Bool.{eqb-true}
use Rattle.seen_methods.specs.Closed.{AreClosed}
use Rattle.seen_methods.proofs.Tells.{alike_agree}
use Rattle.seen_methods.proofs.agree.are_alike.Goals as goal
use Rattle.seen_methods.proofs.agree.are_alike.Goals.{then-eq, else-eq}

pub returns-then-are_same : goal.returns-then-are_same
returns-then-are_same c h =
    let i = c.in-Some.i.now in
    let j = c.in-Some-method_of.j.now in
    elim c.if-eq.branch [
      | then-eq w ↦
          let number = eqb-true i.name.0 j.name.0 (sym c.eq.ensures ∙ w.if-eq.true) in
          let name : i.name ≡ j.name = ap (λ n. record { 0 = n }) number in
          let same = w.are_same.ensures.0 (sym w.value-is ∙ c.if-are_same.true) in
          alike_agree c.args.w.now c.args.m c.args.k i j c.in-Some.ensures.some c.in-Some-method_of.ensures.some name (sym w.as_slice.ensures ∙ same ∙ w.as_slice-then-eq.ensures)
          (subst AreClosed c.as_slice-then-are_same.ensures (c.are_closed.ensures.0 h))
      | else-eq w ↦ absurd (cc (w.value-is, c.if-are_same.true))
    ]
