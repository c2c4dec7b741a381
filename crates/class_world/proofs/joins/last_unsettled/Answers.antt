use Rattle.std.proofs.Common.{◌≡◌, ◌+◌, ◌-◌, ◌/◌, ◌<◌, inl, inr, length, arith}
use Rattle.std.proofs.lemmas.Bool.{cases_lt}
use Rattle.std.proofs.lemmas.Option.{slice_get-get_or}
use Rattle.class_world.proofs.Words.{set_within}
use Rattle.class_world.proofs.Meets.{word_settled}
use Rattle.class_world.proofs.joins.last_unsettled.Goals.{then-i-others+else-left-ne0, else-i-others}
use Rattle.class_world.proofs.joins.last_unsettled.Goals as goal

pub loop-at-preserved : goal.loop-at-preserved
loop-at-preserved c = λ q le in_words in_others. elim (cases_lt (q / 64 + c.loop-at.at) (length c.args.words.now)) [
  | inr past ↦ c.loop-at.invariant q past in_words in_others
  | inl lt ↦
      let i = length c.args.words.now - 1 - c.loop-at.at in
      let place : i ≡ q / 64 = omega (arith, le, lt, c.loop-at-test.true) in
      elim c.if-i-others.branch [
        | then-i-others+else-left-ne0 w ↦
            let within : i < length c.args.words.now = omega (arith, le, lt, c.loop-at-test.true) in
            word_settled c.args.words.now c.args.others.now c.args.settled.now i _ _ _ (slice_get-get_or c.args.words.now i 0 within) (slice_get-get_or c.args.others.now i 0 w.if-i-others.true)
            (slice_get-get_or c.args.settled.now i 0 (omega (arith, within, c.requires.len))) ((c.type_inv.settled i).fits) w.if-left-ne0.false q place in_words in_others
        | else-i-others w ↦ let lt = set_within c.args.others.now q in_others in absurd (omega (arith, place, lt, w.if-i-others.false))
      ]
]
