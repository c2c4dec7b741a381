use Rattle.std.proofs.Common.{◌≡◌, ℕ, ◌+◌, Vec, Global, [], refl, sym, ap, ◌∙◌, subst}
use Rattle.std.specs.Prelude.{slice_index_or as get_or}
use Rattle.std.proofs.lemmas.Option.{slice_get-get_or}
use Rattle.class_world.specs.Signatures.{HaveOneSignatureIn}
use Rattle.method_ties.proofs.Firsts.{Gathers, gathers_push, gathers_skip, gathers_kept}
use Rattle.method_ties.proofs.replace.alike_of.Goals as goal
use Rattle.method_ties.proofs.replace.alike_of.Goals.{then-branch+in_ok-push, else-branch}

pub loop-k-preserved : goal.loop-k-preserved
loop-k-preserved c =
    let listed = c.args.listed.now in
    let i = c.loop-k.k-index in
    let x = get_or listed i 0 in
    let at = slice_get-get_or listed i 0 c.loop-k-test.true in
    let P = λ (x k : ℕ). (k ≡ x) × HaveOneSignatureIn c.args.w.now c.args.c c.args.m x in
    elim c.if-branch.branch [
      | then-branch+in_ok-push w ↦
          gathers_push P [] listed c.loop-k.alike.items c.if-branch.alike.items i x x c.loop-k.invariant at (ap (λ (v : Vec ℕ Global). v.items) w.alike-is ∙ w.in_ok-push.ensures.items)
          (refl, c.in_ok-have_one_signature.ensures.0 w.if-branch.true) (λ y h. h.0)
      | else-branch w ↦ subst (λ (v : Vec ℕ Global). Gathers P [] listed v.items (i + 1)) (sym w.alike-is)
          (gathers_skip P [] listed c.loop-k.alike.items i x c.loop-k.invariant at (λ y h. let yes = c.in_ok-have_one_signature.ensures.1 h.1 in absurd (cc (yes, w.if-branch.false))))
    ]

pub returns : goal.returns
returns c = gathers_kept (HaveOneSignatureIn c.args.w.now c.args.c c.args.m) c.args.listed.now c.loop-k.alike.items c.loop-k.k-index c.loop-k-test.false c.loop-k.invariant
