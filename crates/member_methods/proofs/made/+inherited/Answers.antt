use Rattle.std.proofs.Common.{◌≡◌, ◌∷◌, [], refl, sym, ap, ◌∙◌, length}
use Rattle.std.proofs.lemmas.Bool.{eqb-true}
use Rattle.std.proofs.lemmas.List.{nil_from_length}
use Rattle.std.proofs.lemmas.Option.{slice_get_within}
use Rattle.member_methods.proofs.Maps.{if_ok}
use Rattle.member_methods.proofs.Taken.{first_above, map_read, halves, two_or_more, left_shorter, right_shorter, have_left, have_right, listed_alone, listed_halves}
use Rattle.member_methods.proofs.made.+inherited.Goals as goal

pub bounds-handed-first : goal.bounds-handed-first
bounds-handed-first t c =
    let first = c.in-Some.first.now in
    let m = c.requires first (first_above first c.in-Some.others.now c.args.above.now c.in-Some.ensures.cases.0) in
    slice_get_within c.args.handed.now first m.0 m.1

pub returns-then-is_empty : goal.returns-then-is_empty
returns-then-is_empty t c =
    let first = c.in-Some.first.now in
    let others = c.in-Some.others.now in
    let is = c.in-Some.ensures.cases.0 in
    let none : others ≡ [] = nil_from_length others (eqb-true (length others) 0 (sym c.is_empty.ensures ∙ c.if-is_empty.true)) in
    let m = map_read c.args.tables.now c.args.handed.now first (record { number = 0 }) (c.requires first (first_above first others c.args.above.now is)) in
    listed_alone c.args.tables.now c.args.handed.now first c.args.above.now _ (is ∙ ap (λ l. first ∷ l) none) m.0 m.1

pub inherited-requires : goal.inherited-requires
inherited-requires t c =
    let above = c.args.above.now in
    let two = two_or_more c.in-Some.first.now c.in-Some.others.now above _ c.in-Some.ensures.cases.0 c.is_empty.ensures c.if-is_empty.false in (
      rw (← c.decreases) (left_shorter (length above) _ two c.split_at.ensures.front_len),
      have_left c.args.tables.now c.args.handed.now above _ _ (halves above _ _ _ c.split_at.ensures.front c.split_at.ensures.back) c.requires,
    )

pub inherited-requires-2 : goal.inherited-requires-2
inherited-requires-2 t c =
    let above = c.args.above.now in
    let two = two_or_more c.in-Some.first.now c.in-Some.others.now above _ c.in-Some.ensures.cases.0 c.is_empty.ensures c.if-is_empty.false in (
      rw (← c.decreases) (right_shorter (length above) _ _ two refl c.split_at.ensures.back_len),
      have_right c.args.tables.now c.inherited.new.tables c.args.handed.now above _ _ (halves above _ _ _ c.split_at.ensures.front c.split_at.ensures.back) c.in_ok-map.ensures.keeps c.requires,
    )

pub joined-requires : goal.joined-requires
joined-requires t c = (c.in_ok-more.ensures.keeps.good _ c.in_ok-map.ensures.good, c.in_ok-more.ensures.good)

pub returns : goal.returns
returns t c =
    let above = c.args.above.now in
    let is = halves above _ _ _ c.split_at.ensures.front c.split_at.ensures.back in
    if_ok c.joined.result _ _ (λ r both. listed_halves c.args.tables.now c.inherited.new.tables c.inherited-2.new.tables c.joined.new.self c.args.handed.now above _ _ c.in_ok-map.map c.in_ok-more.more r is c.requires
    c.in_ok-map.ensures c.in_ok-more.ensures both) c.joined.ensures
