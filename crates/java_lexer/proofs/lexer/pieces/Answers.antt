use Rattle.std.proofs.Common.{arith, ◌<◌, ◌≡◌, length}
use Rattle.std.proofs.lemmas.Bool.Decides.{nat_tests}
use Rattle.java_lexer.proofs.LexLemmas.{read_none, read_step, read_bad, read_end}
use Rattle.java_lexer.proofs.lexer.pieces.Goals as goal

pub loop-rest-init : goal.loop-rest-init
loop-rest-init c = rw c.new-tokens.ensures (read_none c.args.text.now)

pub returns-in-Err : goal.returns-in-Err
returns-in-Err c =
    let a = c.loop-rest-test.ensures in
    let b = c.loop-rest-test.true in
    let some : 0 < length c.loop-rest.rest.now = grind (arith, nat_tests) in
    rw c.number.ensures (read_bad c.args.text.now c.loop-rest.rest.now c.loop-rest.tokens c.loop-rest.at c.in-Err.rule c.requires.plain some c.in-Err.ensures.told c.loop-rest.invariant)

pub loop-rest-preserved : goal.loop-rest-preserved
loop-rest-preserved c =
    rw (c.in_ok-add-in-Ok.ensures, c.kind.ensures, c.split_at.ensures.back, c.split_at.ensures.front)
    (read_step c.args.text.now c.loop-rest.rest.now c.loop-rest.tokens c.loop-rest.at c.in-Ok.piece c.loop-rest.invariant c.in-Ok.ensures.told c.in-Ok.ensures.within.1)

pub returns : goal.returns
returns c =
    let a = c.loop-rest-test.ensures in
    let b = c.loop-rest-test.false in
    let none : length c.loop-rest.rest.now ≡ 0 = grind (arith, nat_tests) in
    read_end c.args.text.now c.loop-rest.rest.now c.loop-rest.tokens c.loop-rest.at c.requires.plain none c.loop-rest.invariant
