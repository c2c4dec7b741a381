use Rattle.std.proofs.Common.{◌≡◌, ℕ, List, [], None, Some, refl, sym, ◌∙◌, subst}
use Rattle.std.specs.List.Sorted.{IsStrictlyIncreasing}
use Rattle.std.proofs.lemmas.Bool.{true≢false}
use Rattle.std.proofs.lemmas.Bool.Decides.{Decides-eqb}
use Rattle.std.proofs.lemmas.Slice.Eq.{slice_eq-Decides}
use Rattle.class_world.specs.Counted.{Counts}
use Rattle.member_methods.specs.Methods.{AreNamed}
use Rattle.counted_methods.specs.Table.{AreKept}
use Rattle.counted_methods.specs.Made.{IsAbove, IsAdded, IsPut}
use Rattle.counted_methods.proofs.Firsts.{on_ok, rises_none}
use Rattle.counted_methods.proofs.Keeping.{IsFirstList, first_alike, listed_rises, chosen_kept, all_chosen, not_first, all_added, put_added}
use Rattle.counted_methods.proofs.CountedMethods.add_named.Goals as goal
use Rattle.counted_methods.proofs.CountedMethods.add_named.Goals.{in-Some-above, in-None}

pub returns-then-not-is_first_of_more : goal.returns-then-not-is_first_of_more
returns-then-not-is_first_of_more c = λ counted above.
    let w = c.args.w.now in
    let info = c.in-Some.info.now in
    let here = c.named-named.result.now in
    let are = subst (λ n. AreNamed w c.args.c info.name n here) c.len-arity.ensures (c.named-named.ensures w c.requires.lists) in
    not_first w c.args.c c.args.m counted info c.in-Some.ensures.some c.args.self.now c.requires.orderly here are
    (λ yes. true≢false (sym (c.is_first_of_more.ensures.1 yes) ∙ c.if-not-is_first_of_more.true))

pub chosen-requires-clause-named : goal.chosen-requires-clause-named
chosen-requires-clause-named c = λ k h. let is = ((c.named-named.ensures c.args.w.now c.requires.lists).0 k).0 h in (is.1.0, is.1.1, is.1.2)

pub chosen-requires-clause-above : goal.chosen-requires-clause-above
chosen-requires-clause-above c =
    let w = c.args.w.now in
    let rises : IsStrictlyIncreasing c.match-above.first.now = elim c.match-above.branch [
      | in-Some-above v ↦
          rw v.first-is
          (listed_rises w v.in-Some-above.s c.in-Some.info.now.name c.len-arity.result c.args.self.now v.listed-first.result.now c.requires.orderly (v.listed-first.ensures w c.requires.lists))
      | in-None v ↦ rw v.first-is (rises_none [] refl)
    ] in
    rises

pub returns-then-eq : goal.returns-then-eq
returns-then-eq c = λ counted above.
    let w = c.args.w.now in
    let t = c.args.self.now in
    let info = c.in-Some.info.now in
    let arity = c.len-arity.result in
    let here = c.named-named.result.now in
    let are = c.named-named.ensures w c.requires.lists in
    let first = c.match-above.first.now in
    let xs = c.in_ok-counted.counted.items in
    let list : IsFirstList w t c.args.above info.name arity first = elim c.match-above.branch [
      | in-Some-above v ↦ rw (v.first-is, v.in-Some-above.is) (v.listed-first.ensures w c.requires.lists)
      | in-None v ↦ rw (v.first-is, v.in-None.is) refl
    ] in
    let same : xs ≡ here = sym c.as_slice.ensures.value ∙ (slice_eq-Decides Decides-eqb _ _ _ c.eq.ensures).0 c.if-eq.true in
    let all =
    all_chosen w c.args.c info.name arity first counted here xs are (first_alike w c.args.c info.name arity t c.args.above first counted list above) c.in_ok-counted.ensures same in
    all_added w c.args.c c.args.m counted info c.in-Some.ensures.some t c.requires.orderly (subst (λ n. AreKept w c.args.c info.name n (Counts w c.args.c counted) None) c.len-arity.ensures all)

pub returns : goal.returns
returns c =
    let w = c.args.w.now in
    let t = c.args.self.now in
    let info = c.in-Some.info.now in
    let arity = c.len-arity.result in
    let here = c.named-named.result.now in
    let are = c.named-named.ensures w c.requires.lists in
    let first = c.match-above.first.now in
    let xs = c.in_ok-counted.counted.items in
    let new = c.put.new.self in
    let list : IsFirstList w t c.args.above info.name arity first = elim c.match-above.branch [
      | in-Some-above v ↦ rw (v.first-is, v.in-Some-above.is) (v.listed-first.ensures w c.requires.lists)
      | in-None v ↦ rw (v.first-is, v.in-None.is) refl
    ] in
    on_ok c.put.result (IsPut c.args.c info.name arity xs t new) ((counted : List ℕ) → IsAbove w t c.args.above counted → IsAdded w c.args.c c.args.m counted t new) (λ put counted above.
    let kept =
    chosen_kept w c.args.c info.name arity first counted here xs are (first_alike w c.args.c info.name arity t c.args.above first counted list above) c.in_ok-counted.ensures in
    put_added w c.args.c c.args.m counted info c.in-Some.ensures.some t c.requires.orderly xs new (subst (λ n. IsPut c.args.c info.name n xs t new) c.len-arity.ensures put)
    (subst (λ n. AreKept w c.args.c info.name n (Counts w c.args.c counted) (Some xs)) c.len-arity.ensures kept)) c.put.ensures
