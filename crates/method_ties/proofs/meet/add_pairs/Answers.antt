use Rattle.std.proofs.Common.{◌≡◌, ℕ, ◌+◌, Vec, Global, inl, inr, refl, sym, ap, ◌∙◌, subst}
use Rattle.std.specs.Prelude.{slice_index_or as get_or}
use Rattle.std.specs.List.{Contains}
use Rattle.std.proofs.lemmas.Option.{slice_get-get_or}
use Rattle.method_ties.specs.declared.Meeting.{Meeting}
use Rattle.method_ties.specs.Sides.{IsOnce, Meets}
use Rattle.method_ties.proofs.Firsts.{Among, Gathers, gathers_push, gathers_skip, gathers_all, once_new, once_push}
use Rattle.method_ties.proofs.meet.add_pairs.Goals as goal
use Rattle.method_ties.proofs.meet.add_pairs.Goals.{then-branch+in_ok-push, else-branch}

pub loop-m-preserved : goal.loop-m-preserved
loop-m-preserved c =
    let w = c.args.w.now in
    let k = c.args.k in
    let items = c.args.methods.now in
    let i = c.loop-m.m-index in
    let x = get_or items i 0 in
    let z : Meeting = record { lower = x; upper = k } in
    let at = slice_get-get_or items i 0 c.loop-m-test.true in
    let old = c.args.found.now.items in
    let out = c.loop-m.found.items in
    let inv = c.loop-m.invariant in
    let P = λ (m : ℕ) (p : Meeting). (p ≡ record { lower = m; upper = k }) × Meets w c.args.c m k in
    elim c.if-branch.branch [
      | then-branch+in_ok-push v ↦
          let made = ap (λ (v : Vec Meeting Global). v.items) v.found-is ∙ v.in_ok-push.ensures.items in (
            gathers_push P old items out c.if-branch.found.items i x z inv.0 at made (refl, c.in_ok-meets.ensures.0 v.if-branch.true) (λ y h. h.0),
            once_push out c.if-branch.found.items z inv.1 (λ h. elim ((inv.0 z).0 h) [
              | inl was ↦ c.requires.new x was
              | inr t ↦ once_new items i x c.requires.methods at (subst (Among items i) (sym (ap (λ (p : Meeting). p.lower) t.2.0)) t.1)
            ]) made,
          )
      | else-branch v ↦ subst (λ (u : Vec Meeting Global). Gathers P old items u.items (i + 1) × IsOnce u.items) (sym v.found-is) (
        gathers_skip P old items out i x inv.0 at (λ y h. let yes = c.in_ok-meets.ensures.1 h.1 in absurd (cc (yes, v.if-branch.false))),
        inv.1,
      )
    ]

pub returns-clause-has : goal.returns-clause-has
returns-clause-has c p =
    let w = c.args.w.now in
    let k = c.args.k in
    let items = c.args.methods.now in
    let P = λ (m : ℕ) (p : Meeting). (p ≡ record { lower = m; upper = k }) × Meets w c.args.c m k in
    let all = gathers_all P c.args.found.now.items items c.loop-m.found.items c.loop-m.m-index c.loop-m-test.false c.loop-m.invariant.0 p in (
      λ h. elim (all.0 h) [
        | inl was ↦ inl was
        | inr t ↦
            let lower = sym (ap (λ (q : Meeting). q.lower) t.2.0) in
            inr (ap (λ (q : Meeting). q.upper) t.2.0, subst (Contains items) lower t.1, subst (λ m. Meets w c.args.c m k) lower t.2.1)
      ],
      λ h. all.1 (elim h [ inl was ↦ inl was | inr t ↦ inr (p.lower, t.1, (ap (λ u. (λ (q : Meeting). q) (record { lower = p.lower; upper = u })) t.0, t.2)) ]),
    )
