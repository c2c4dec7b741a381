use Rattle.std.proofs.Common.{◌≡◌, ◌∷◌, [], refl, sym, ap, ◌∙◌, subst, length}
use Rattle.std.specs.Prelude.{Contains}
use Rattle.std.proofs.lemmas.Bool.{eqb-true}
use Rattle.std.proofs.lemmas.List.{nil_from_length}
use Rattle.std.proofs.lemmas.List.Elements.{Contains-append_left, Contains-append_right}
use Rattle.shared_maps.proofs.Kept.{keeps_both, keeps_itself}
use Rattle.member_fields.proofs.Adding.{alone, handed_map, merged_halves}
use Rattle.member_fields.proofs.Halves.{halves, left_shorter, right_shorter, two_or_more}
use Rattle.member_fields.proofs.Lists.{contains_first}
use Rattle.member_fields.proofs.Steps.{has_kept, if_ok}
use Rattle.member_fields.proofs.inherited.+merged_all.Goals as goal

pub bounds-handed-first : goal.bounds-handed-first
bounds-handed-first t c =
    let first = c.in-Some.first.now in
    (handed_map c.args.w.now c.args.maps.now c.args.handed.now first (record { number = 0 })
    (c.requires first (subst (λ l. Contains l first) (sym c.in-Some.ensures.cases.0) (contains_first first c.in-Some.others.now)))).0

pub returns-then-is_empty : goal.returns-then-is_empty
returns-then-is_empty t c =
    let first = c.in-Some.first.now in
    let others = c.in-Some.others.now in
    let classes = c.args.classes.now in
    let is = c.in-Some.ensures.cases.0 in
    let none : others ≡ [] = nil_from_length others (eqb-true (length others) 0 (sym c.is_empty.ensures ∙ c.if-is_empty.true)) in
    let has = handed_map c.args.w.now c.args.maps.now c.args.handed.now first (record { number = 0 }) (c.requires first (subst (λ l. Contains l first) (sym is) (contains_first first others))) in
    record { sums = alone c.args.w.now c.args.maps.now classes first _ (is ∙ ap (λ l. first ∷ l) none) has.1; kept = keeps_itself c.args.maps.now }

pub merged_all-requires : goal.merged_all-requires
merged_all-requires t c =
    let classes = c.args.classes.now in
    let is = halves classes _ _ _ c.split_at.ensures.front c.split_at.ensures.back in
    let two = two_or_more c.in-Some.first.now c.in-Some.others.now classes _ c.in-Some.ensures.cases.0 c.is_empty.ensures c.if-is_empty.false in (
      rw (← c.decreases) (left_shorter (length classes) _ two c.split_at.ensures.front_len),
      λ s has. c.requires s (subst (λ l. Contains l s) (sym is) (Contains-append_left _ _ s has)),
    )

pub merged_all-requires-2 : goal.merged_all-requires-2
merged_all-requires-2 t c =
    let classes = c.args.classes.now in
    let is = halves classes _ _ _ c.split_at.ensures.front c.split_at.ensures.back in
    let two = two_or_more c.in-Some.first.now c.in-Some.others.now classes _ c.in-Some.ensures.cases.0 c.is_empty.ensures c.if-is_empty.false in (
      rw (← c.decreases) (right_shorter (length classes) _ _ two refl c.split_at.ensures.back_len),
      λ s has. has_kept _ _ _ _ s c.in_ok-map.ensures.kept (c.requires s (subst (λ l. Contains l s) (sym is) (Contains-append_right _ _ s has))),
    )

pub merged-requires : goal.merged-requires
merged-requires t c = record { first = c.in_ok-more.ensures.kept.map _ c.in_ok-map.ensures.sums.is_map; second = c.in_ok-more.ensures.sums.is_map }

pub returns : goal.returns
returns t c =
    let classes = c.args.classes.now in
    let is = halves classes _ _ _ c.split_at.ensures.front c.split_at.ensures.back in
    record {
      sums = if_ok c.merged.result c.merged.ensures (λ r changes.
          merged_halves c.args.w.now c.merged_all.new.maps c.merged_all-2.new.maps c.merged.new.maps classes _ _ c.in_ok-map.map c.in_ok-more.more r is c.in_ok-more.ensures.kept c.in_ok-map.ensures.sums
          c.in_ok-more.ensures.sums changes);
      kept = if_ok c.merged.result c.merged.ensures (λ r changes. keeps_both c.in_ok-map.ensures.kept (keeps_both c.in_ok-more.ensures.kept changes.kept));
    }
