use Rattle.std.proofs.Common.{◌∙◌, arith}
use Rattle.std.proofs.lemmas.Option.{slice_get-get_or}
use Rattle.left_out.proofs.Steps.{token_in, passed_none, passed_more, rule_here, few_braces, none_behind, first_here}
use Rattle.left_out.proofs.first.first_left_out.Goals as goal

pub text_of-word-requires-clause-order : goal.text_of-word-requires-clause-order
text_of-word-requires-clause-order c =
    (token_in c.args.text.now c.args.tokens.now c.requires c.loop-i.i _ (slice_get-get_or c.args.tokens.now c.loop-i.i _ c.loop-i-test.true)).order

pub text_of-word-requires-clause-within : goal.text_of-word-requires-clause-within
text_of-word-requires-clause-within c =
    (token_in c.args.text.now c.args.tokens.now c.requires c.loop-i.i _ (slice_get-get_or c.args.tokens.now c.loop-i.i _ c.loop-i-test.true)).within

pub text_of-word-requires-clause-utf8 : goal.text_of-word-requires-clause-utf8
text_of-word-requires-clause-utf8 c =
    (token_in c.args.text.now c.args.tokens.now c.requires c.loop-i.i _ (slice_get-get_or c.args.tokens.now c.loop-i.i _ c.loop-i-test.true)).utf8

pub with-before-requires : goal.with-before-requires
with-before-requires c =
    let few = few_braces c.args.text.now c.args.tokens.now c.loop-i.i c.loop-i.before c.loop-i.invariant c.loop-i.auto.i-end in
    (omega arith, omega arith)

pub loop-i-init : goal.loop-i-init
loop-i-init c = passed_none c.args.text.now c.args.tokens.now

pub loop-i-preserved : goal.loop-i-preserved
loop-i-preserved c =
    let at = slice_get-get_or c.args.tokens.now c.loop-i.i _ c.loop-i-test.true in
    let rule = rule_here c.args.text.now c.args.tokens.now c.loop-i.i c.loop-i.before _ _ _ _ c.loop-i.invariant at c.text_of-word.ensures c.nests.ensures c.token_rule.ensures in
    passed_more _ _ _ _ _ _ _ c.loop-i.invariant at c.text_of-word.ensures (rule ∙ c.in_default.is) c.with-before.ensures.opened c.with-before.ensures.closed c.with-before.ensures.dot

pub returns : goal.returns
returns c = record { found = tt; none = λ e. none_behind _ _ _ _ c.loop-i.invariant c.loop-i-test.false }

pub returns-in-Some-clause-found : goal.returns-in-Some-clause-found
returns-in-Some-clause-found c =
    let at = slice_get-get_or c.args.tokens.now c.loop-i.i _ c.loop-i-test.true in
    let rule = rule_here c.args.text.now c.args.tokens.now c.loop-i.i c.loop-i.before _ _ _ _ c.loop-i.invariant at c.text_of-word.ensures c.nests.ensures c.token_rule.ensures in
    first_here _ _ _ _ _ c.loop-i.invariant (rule ∙ c.in-Some.is)
