use Rattle.std.proofs.Common.{◌≡◌, ℕ, ◌+◌, Vec, Global, List, [], refl, sym, ap, ◌∙◌, subst}
use Rattle.std.proofs.lemmas.Option.{slice_get_read}
use Rattle.class_world.specs.declared.world.JavaType.{JavaType}
use Rattle.class_world.specs.declared.world.JavaType.TheVariants as ty
use Rattle.class_world.proofs.Forms.{same_class}
use Rattle.method_ties.proofs.Firsts.{Gathers, gathers_push, gathers_skip, gathers_alone}
use Rattle.method_ties.proofs.Members.{supertypes_told}
use Rattle.method_ties.proofs.supers.supertypes.Goals as goal
use Rattle.method_ties.proofs.supers.supertypes.Goals.{in-Class+in_ok-push, in_default-d}

pub loop-d-preserved : goal.loop-d-preserved
loop-d-preserved c =
    let items = c.as_slice-d-items.result.now in
    let i = c.loop-d.d-index in
    let d = c.d-item.result in
    let at = slice_get_read items _ i d refl c.loop-d-test.true c.d-item.is in
    let P = λ (d : JavaType) (s : ℕ). (args : List JavaType) × (d ≡ ty.Class s args) in
    elim c.match-d.branch [
      | in-Class+in_ok-push w ↦
          gathers_push P [] items c.loop-d.supers.items c.match-d.supers.items i d w.in-Class.g c.loop-d.invariant at (ap (λ (v : Vec ℕ Global). v.items) w.supers-is ∙ w.in_ok-push.ensures.items)
          (w.in-Class.field-1, w.in-Class.is) (λ y h. (same_class y w.in-Class.g h.0 w.in-Class.field-1 (sym h.1 ∙ w.in-Class.is)).0)
      | in_default-d w ↦ subst (λ (v : Vec ℕ Global). Gathers P [] items v.items (i + 1)) (sym w.supers-is)
          (gathers_skip P [] items c.loop-d.supers.items i d c.loop-d.invariant at (λ y h. w.in_default-d.not-Class y h.0 h.1))
    ]

pub returns : goal.returns
returns c =
    let items = c.as_slice-d-items.result.now in
    let P = λ (d : JavaType) (s : ℕ). (args : List JavaType) × (d ≡ ty.Class s args) in
    supertypes_told c.args.w.now c.args.c c.in-Some.info.now items c.loop-d.supers.items (sym c.in-Some.ensures.value) c.as_slice-d-items.ensures
    (gathers_alone P items c.loop-d.supers.items c.loop-d.d-index c.loop-d-test.false c.loop-d.invariant)
