use Rattle.std.proofs.Common.{◌≡◌, sym, ap, ◌∙◌, get_or}
use Rattle.std.specs.String.{string_bytes}
use Rattle.command_words.proofs.Sets.{cut_mark, no_mark_yet, no_mark, none_left, told_apart, told_same, Cut}
use Rattle.command_words.proofs.table.split_at_mark.Goals as goal

pub loop-at-preserved : goal.loop-at-preserved
loop-at-preserved c =
    no_mark_yet c.args.mark.now c.args.words.now c.loop-at.at c.index-words-at.result c.loop-at-test.true c.loop-at.invariant
    (λ e. told_apart c.as_str.result.now c.args.mark.now c.eq.result c.eq.ensures c.if-eq.false (c.as_str.ensures.value ∙ ap string_bytes c.index-words-at.is ∙ e))

found : (c : goal.After-result-1) → Cut c.args.mark.now c.args.words.now c.loop-at.at
found c =
    let is : string_bytes (get_or c.args.words.now c.loop-at.at c.index-words-at.result) ≡ c.args.mark.now =
    sym (c.as_str.ensures.value ∙ ap string_bytes c.index-words-at.is) ∙ told_same c.as_str.result.now c.args.mark.now c.eq.result c.eq.ensures c.if-eq.true in
    cut_mark c.args.mark.now c.args.words.now c.loop-at.at c.index-words-at.result c.loop-at-test.true c.loop-at.invariant is

pub returns-then-eq-clause-found : goal.returns-then-eq-clause-found
returns-then-eq-clause-found c = sym (found c).among

pub returns-then-eq-clause-front : goal.returns-then-eq-clause-front
returns-then-eq-clause-front c = (found c).front

pub returns-then-eq-clause-back : goal.returns-then-eq-clause-back
returns-then-eq-clause-back c = (found c).back

pub returns-clause-found : goal.returns-clause-found
returns-clause-found c = (no_mark c.args.mark.now c.args.words.now c.loop-at.at c.loop-at.invariant c.loop-at-test.false).among

pub returns-clause-front : goal.returns-clause-front
returns-clause-front c = (no_mark c.args.mark.now c.args.words.now c.loop-at.at c.loop-at.invariant c.loop-at-test.false).front

pub returns-clause-back : goal.returns-clause-back
returns-clause-back c = none_left c.args.words.now ∙ (no_mark c.args.mark.now c.args.words.now c.loop-at.at c.loop-at.invariant c.loop-at-test.false).back
