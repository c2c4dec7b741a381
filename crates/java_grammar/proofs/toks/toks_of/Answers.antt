use Rattle.std.proofs.lemmas.Option.{slice_get-get_or}
use Rattle.java_grammar.proofs.Lexed.{token_in}
use Rattle.java_grammar.proofs.Reading.{reading_more}
use Rattle.java_grammar.proofs.toks.toks_of.Goals as goal

pub tok_of-requires-clause-within : goal.tok_of-requires-clause-within
tok_of-requires-clause-within c =
    let at = slice_get-get_or c.args.tokens.now c.loop-token.token-index _ c.loop-token-test.true in
    let is = token_in c.args.text.now c.args.tokens.now c.requires.lexed c.loop-token.token-index _ at in
    (is.order, is.within)

pub tok_of-requires-clause-utf8 : goal.tok_of-requires-clause-utf8
tok_of-requires-clause-utf8 c =
    let at = slice_get-get_or c.args.tokens.now c.loop-token.token-index _ c.loop-token-test.true in
    let is = token_in c.args.text.now c.args.tokens.now c.requires.lexed c.loop-token.token-index _ at in
    is.utf8

pub loop-token-preserved : goal.loop-token-preserved
loop-token-preserved c =
    let at = slice_get-get_or c.args.tokens.now c.loop-token.token-index _ c.loop-token-test.true in
    let one = c.in_ok-tok.ensures in
    rw c.in_ok-push.ensures.ok (reading_more _ _ _ _ _ _ _ _ _ c.loop-token.invariant at one.tok one.table one.kept one.distinct one.grown)
