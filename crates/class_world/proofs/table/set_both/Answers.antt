use Rattle.std.proofs.Common.{◌+◌, ◌∙◌, refl, subst, sym, arith}
use Rattle.std.proofs.lemmas.Option.{slice_get-get_or}
use Rattle.class_world.specs.Sound.{IsSet}
use Rattle.class_world.proofs.Words as by
use Rattle.class_world.proofs.Words.{SetsBefore}
use Rattle.class_world.proofs.table.set_both.Goals as goal
use Rattle.class_world.proofs.table.set_both.Goals.{then-i-words+then-i-mask, else-i-words, else-i-words-via-then-i-words+else-i-mask, else-i-words-via-else-i-words}

pub loop-i-init : goal.loop-i-init
loop-i-init c = record { len = refl; sets = by.none_before c.args.words.now c.args.words.now (λ h. IsSet c.args.more.now h × IsSet c.args.mask.now h) refl }

pub loop-i-preserved : goal.loop-i-preserved
loop-i-preserved c = elim c.if-i-words.branch [
  | then-i-words+then-i-mask w ↦ record {
    len = c.if-i-words.auto.words ∙ c.loop-i.invariant.len;
    sets = by.more_set c.args.words.now c.loop-i.words c.if-i-words.words (λ h. IsSet c.args.more.now h × IsSet c.args.mask.now h) c.loop-i.i _ _ c.loop-i.invariant.sets
        (slice_get-get_or c.loop-i.words c.loop-i.i 0 w.if-i-words.true)
        (by.both_told c.args.more.now c.args.mask.now c.loop-i.i _ _ (slice_get-get_or c.args.more.now c.loop-i.i 0 c.loop-i-test.true) (slice_get-get_or c.args.mask.now c.loop-i.i 0 w.if-i-mask.true)) w.words-is;
  }
  | else-i-words w ↦ record {
    len = c.if-i-words.auto.words ∙ c.loop-i.invariant.len;
    sets = subst (λ ws. SetsBefore c.args.words.now ws (λ h. IsSet c.args.more.now h × IsSet c.args.mask.now h) (c.loop-i.i + 1)) (sym w.words-is)
        (by.none_more c.args.words.now c.loop-i.words (λ h. IsSet c.args.more.now h × IsSet c.args.mask.now h) c.loop-i.i c.loop-i.invariant.sets (λ h place is. elim w.else-i-words.branch [
          | else-i-words-via-then-i-words+else-i-mask v ↦ let lt = by.set_within c.args.mask.now h is.1 in omega (arith, place, lt, v.if-i-mask.false)
          | else-i-words-via-else-i-words v ↦ let lt = c.requires h is.0 in omega (arith, place, lt, v.if-i-words.false, c.loop-i.invariant.len)
        ]));
  }
]

pub returns-clause-sets : goal.returns-clause-sets
returns-clause-sets c =
    by.all_set c.args.words.now c.loop-i.words (λ h. IsSet c.args.more.now h × IsSet c.args.mask.now h) c.loop-i.i c.loop-i.invariant.sets
    (λ h is. let lt = by.set_within c.args.more.now h is.0 in omega (arith, lt))
