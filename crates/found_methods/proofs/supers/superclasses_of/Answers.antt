use Rattle.std.proofs.Common.{◌∙◌, ◌+◌, ℕ, List, [], sym, refl, subst}
use Rattle.std.proofs.lemmas.Option.{slice_get_read}
use Rattle.method_ties.proofs.Firsts.{Gathers, gathers_push, gathers_skip, gathers_alone}
use Rattle.found_methods.specs.Supers.{IsClassIn}
use Rattle.found_methods.proofs.Ranks.{one_class_in, declared_superclasses}
use Rattle.found_methods.proofs.supers.superclasses_of.Goals as goal
use Rattle.found_methods.proofs.supers.superclasses_of.Goals.{in-Some+in_ok-push, in_default}

pub loop-d-preserved : goal.loop-d-preserved
loop-d-preserved c =
    let w = c.args.w.now in
    let items = c.as_slice-d-items.result.now in
    let i = c.loop-d.d-index in
    let d = c.d-item.result in
    let at = slice_get_read items _ i d refl c.loop-d-test.true c.d-item.is in
    elim c.match-class.branch [
      | in-Some+in_ok-push v ↦
          gathers_push (IsClassIn w) [] items c.loop-d.above c.match-class.above i d v.in-Some.g c.loop-d.invariant at (v.above-is ∙ v.in_ok-push.ensures.ok) v.in-Some.ensures.some
          (λ y h. one_class_in w d y v.in-Some.g h v.in-Some.ensures.some)
      | in_default v ↦ subst (λ (u : List ℕ). Gathers (IsClassIn w) [] items u (i + 1)) (sym v.above-is) (gathers_skip (IsClassIn w) [] items c.loop-d.above i d c.loop-d.invariant at (λ y h. v.in_default.ensures.none y h))
    ]

pub returns : goal.returns
returns c =
    let w = c.args.w.now in
    let items = c.as_slice-d-items.result.now in
    declared_superclasses w c.args.info.now items c.loop-d.above c.if-info.false c.as_slice-d-items.ensures (gathers_alone (IsClassIn w) items c.loop-d.above c.loop-d.d-index c.loop-d-test.false c.loop-d.invariant)
