use Rattle.std.proofs.Common.{◌≡◌, Option, Some, None, false, refl, sym, ◌∙◌, subst}
use Rattle.std.specs.Option.{is_some}
use Rattle.std.proofs.lemmas.Option.{slice_get_read}
use Rattle.counted_methods.proofs.Superclasses.{TellsFirst, class_next, other_next, class_told}
use Rattle.counted_methods.proofs.superclass.superclass.Goals as goal
use Rattle.counted_methods.proofs.superclass.superclass.Goals.{in-Some-class_of+else-is_some, in_default-class_of}

none_of : {A : Type 0} (o : Option A) → is_some o ≡ false → o ≡ None
none_of None e = refl
none_of (Some x) e = absurd (cc e)

pub loop-d-preserved : goal.loop-d-preserved
loop-d-preserved c =
    let w = c.args.w.now in
    let items = c.as_slice-d-items.result.now in
    let i = c.loop-d.d-index in
    let d = c.d-item.result in
    let at = slice_get_read items _ i d refl c.loop-d-test.true c.d-item.is in
    elim c.match-class_of.branch [
      | in-Some-class_of+else-is_some v ↦
          let none = none_of c.loop-d.found (sym v.is_some.ensures ∙ v.if-is_some.false) in
          rw v.found-is (class_next w items i v.in-Some-class_of.s d at v.in-Some-class_of.ensures.some (subst (TellsFirst w items i) none c.loop-d.invariant))
      | in_default-class_of v ↦ rw v.found-is (other_next w items i d c.loop-d.found at v.in_default-class_of.ensures.none c.loop-d.invariant)
    ]

pub returns : goal.returns
returns c =
    class_told c.args.w.now c.args.c c.in-Some.info.now (sym c.in-Some.ensures.value) c.as_slice-d-items.result.now c.loop-d.d-index c.as_slice-d-items.ensures c.loop-d-test.false c.loop-d.found c.if-info.false
    c.loop-d.invariant
