use Rattle.std.proofs.Common.{◌≡◌, ◌<◌, ◌+◌, ◌⊎◌, ℕ, Some, length, ap, subst, sym, ◌∙◌, refl, arith, List}
use Rattle.std.specs.Prelude.{slice_get, slice_index_or as get_or}
use Rattle.std.specs.List.{Contains}
use Rattle.std.proofs.lemmas.Option.{slice_get_within}
use Rattle.rule_order.specs.First.{IsFirst}
use Rattle.class_world.specs.declared.world.MethodInfo.{MethodInfo}
use Rattle.class_world.proofs.Words.{words_back, length_set}
use Rattle.override_rules.specs.Judged.{AreClean, BreaksAbove, IsMarked, MethodBreaches}
use Rattle.override_rules.proofs.Firsts.{ItemOf, first_at, first_more, item_first, all_items, none_when}
use Rattle.override_rules.proofs.Listed.{item_at, item_contained}
use Rattle.override_rules.proofs.Walks.{AreEarlier, clean_next, more_earlier}
use Rattle.override_rules.proofs.declared.first_declared.Goals as goal

pub lowest_above-requires-clause-clean : goal.lowest_above-requires-clause-clean
lowest_above-requires-clause-clean c = subst (AreClean c.args.w.now) (sym c.as_slice.ensures.value) c.loop-at.invariant.clean

-- a listed number is a method's
low : (methods order : List ℕ) (n i : ℕ) → methods ≡ order → ((m : ℕ) → Contains order m → m < n) → i < length methods → get_or methods i 0 < n
low methods order n i same each lt = each (get_or methods i 0) (subst (λ l. Contains l (get_or methods i 0)) same (item_contained methods i lt))

pub index_mut-requires : goal.index_mut-requires
index_mut-requires c =
    let lt = low c.as_slice-methods.result.now c.in_ok-order.order.items (length c.args.w.now.methods) c.loop-at.at c.as_slice-methods.ensures.value (λ m. (c.in_ok-order.ensures m).0) c.loop-at-test.true in
    omega (arith, lt, c.loop-at.invariant.flags)

pub loop-at-preserved : goal.loop-at-preserved
loop-at-preserved c =
    let w = c.args.w.now in
    let methods = c.as_slice-methods.result.now in
    let at = c.loop-at.at in
    let m = get_or methods at 0 in
    let item = item_at methods at c.loop-at-test.true in
    let lt = low methods c.in_ok-order.order.items (length w.methods) at c.as_slice-methods.ensures.value (λ m. (c.in_ok-order.ensures m).0) c.loop-at-test.true in
    let new = c.lowest_above.new.marks in
    let items = c.loop-at.marks.items in
    let size : length new ≡ length items = c.lowest_above.auto.marks ∙ ap length c.deref_mut.ensures.value in
    let back = words_back new items c.loop-at.marks.len size c.loop-at.marks.ok.0 in
    let others = subst (λ ms. (s k : ℕ) → IsMarked new s k → (s ≡ at) ⊎ IsMarked ms s k) c.deref_mut.ensures.value c.in_ok-rule.ensures.marks in
    let here = first_at (BreaksAbove w m) (λ n. (info : MethodInfo) × (slice_get w.methods m ≡ Some info) × (info.node ≡ Some n)) c.node_of.result c.in_ok-rule.rule c.node_of.ensures c.in_ok-rule.ensures.lowest in
    let made : IsFirst (MethodBreaches w m) c.breach_at.result = subst (IsFirst (MethodBreaches w m)) (sym c.breach_at.ensures) here in
    record {
      clean = clean_next w c.loop-at.clean.items _ m c.is_none.result c.in_ok-rule.rule c.loop-at.invariant.clean (omega (arith, lt, c.loop-at.invariant.flags)) refl c.in_ok-rule.ensures.lowest
          (none_when c.in_ok-rule.rule c.is_none.result c.is_none.ensures);
      flags = length_set c.loop-at.clean.items m c.is_none.result ∙ c.loop-at.invariant.flags;
      size = ap length back ∙ size ∙ c.loop-at.invariant.size;
      marks = subst (λ ms. AreEarlier ms (at + 1) (length methods)) (sym back) (more_earlier items new at (length methods) c.loop-at.invariant.marks others);
      first = first_more (ItemOf methods (MethodBreaches w)) at c.loop-at.first c.breach_at.result c.earlier-first.result c.loop-at.invariant.first
          (item_first methods (MethodBreaches w) at m c.breach_at.result item made) c.earlier-first.ensures;
    }

pub returns : goal.returns
returns c =
    let w = c.args.w.now in
    let methods = c.as_slice-methods.result.now in
    all_items methods (MethodBreaches w) c.loop-at.at c.loop-at.first c.loop-at-test.false
    (λ m b h. subst (λ l. Contains l m) (sym c.as_slice-methods.ensures.value) ((c.in_ok-order.ensures m).1 (slice_get_within w.methods m h.1.0 h.1.1))) c.loop-at.invariant.first
