use Rattle.std.proofs.Common.{Bool, true, false, sym, ◌≡◌, ◌++◌, ◌∷◌, [], Some, inl, inr, refl, ap, ◌∙◌, length, arith}
use Rattle.std.specs.Prelude.{slice_get, slice_set}
use Rattle.std.proofs.lemmas.Bool.{true≢false}
use Rattle.std.proofs.lemmas.List.{length-set}
use Rattle.std.proofs.lemmas.Option.{slice_get_read}
use Rattle.class_world.proofs.Collected.{item_at}
use Rattle.member_methods.proofs.Groups.{own_none, own_skip, own_push, own_all}
use Rattle.member_methods.proofs.own.own_methods.Goals as goal
use Rattle.member_methods.proofs.own.own_methods.Goals.{then-is_method+then-owner-len+in_ok-push-2, else-is_method, else-is_method-via-then-is_method+else-owner-len, else-is_method-via-else-is_method}

makes : (b : Bool) → (b ≡ false → ⊥) → b ≡ true
makes true not = refl
makes false not = absurd (not refl)

pub loop-m-init : goal.loop-m-init
loop-m-init c = record { size = omega (arith, c.loop.invariant.size, c.loop-test.false, c.loop.auto.counter-end); each = own_none c.args.w.now c.loop.own.items c.loop.invariant.empty }

pub loop-m-preserved : goal.loop-m-preserved
loop-m-preserved c =
    let info = c.index-as_slice-m.result in
    let own = c.loop-m.own.items in
    let all = ap length c.as_slice.ensures in
    let at : slice_get c.args.w.now.methods c.loop-m.m ≡ Some info = item_at _ _ _ _ c.as_slice.ensures (omega (arith, c.loop-m-test.true, c.len-m-end.ensures, all)) c.index-as_slice-m.is in
    elim c.if-is_method.branch [
      | then-is_method+then-owner-len+in_ok-push-2 w ↦
          let row : slice_get own info.owner ≡ Some w.index_mut.result.now =
          slice_get_read own (length own) info.owner w.index_mut.result.now refl (omega (arith, w.if-owner-len.true, w.len-then-is_method.ensures, c.loop-m.own.ok.0)) w.index_mut.ensures.value in
          let items : c.if-is_method.own.items ≡ slice_set own info.owner (w.index_mut.result.now ++ c.loop-m.m ∷ []) = ap (λ v. v.items) w.own-is ∙ ap (slice_set own info.owner) w.in_ok-push-2.ensures.ok in
          rw items (record {
            size = length-set own info.owner (w.index_mut.result.now ++ c.loop-m.m ∷ []) ∙ c.loop-m.invariant.size;
            each = own_push c.args.w.now own c.loop-m.m info c.loop-m.invariant.each at _ w.index_mut.result.now (c.is_method.ensures.0 w.if-is_method.true) row refl;
          })
      | else-is_method w ↦ rw w.own-is (record {
        size = c.loop-m.invariant.size;
        each = own_skip c.args.w.now own c.loop-m.m info c.loop-m.invariant.each at (elim w.else-is_method.branch [
          | else-is_method-via-then-is_method+else-owner-len w' ↦ inr (omega (arith, w'.if-owner-len.false, w'.len-then-is_method.ensures, c.loop-m.own.ok.0))
          | else-is_method-via-else-is_method w' ↦ inl (makes _ (λ plain. true≢false (sym (c.is_method.ensures.1 plain) ∙ w'.if-is_method.false)))
        ]);
      })
    ]

pub returns : goal.returns
returns c = own_all c.args.w.now c.loop-m.own.items c.args.limit c.loop-m.m c.loop-m.invariant.size (omega (arith, c.loop-m-test.false, c.len-m-end.ensures)) c.loop-m.invariant.each
