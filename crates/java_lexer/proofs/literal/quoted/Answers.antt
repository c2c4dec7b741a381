use Rattle.std.proofs.Common.{◌≡◌, ◌<◌, false, arith, length-drop}
use Rattle.std.proofs.lemmas.Bool.Decides.{nat_tests}
use Rattle.java_lexer.specs.Bytes.{head, is_double_quote}
use Rattle.java_lexer.specs.Scan.{text_char}
use Rattle.java_lexer.proofs.Lengths.{quoted_turn}
use Rattle.java_lexer.proofs.literal.quoted.Goals as goal

pub loop-rest-preserved : goal.loop-rest-preserved
loop-rest-preserved c =
    let v = c.text_char-len.ensures.value in
    let t = c.loop-rest-test.ensures in
    let u = c.loop-rest-test.true in
    let z = c.if-len-eq0.false in
    let plain : is_double_quote (head c.loop-rest.rest.now) ≡ false = grind (arith, nat_tests) in
    let some : 0 < text_char c.loop-rest.rest.now = omega arith in
    rw (c.split_at.ensures.back, c.text_char-len.ensures.value) (
      quoted_turn c.args.text.now c.loop-rest.rest.now c.loop-rest.at c.loop-rest.invariant.0 plain some,
      omega (arith, c.text_char-len.ensures.within, c.loop-rest.invariant.1, length-drop (text_char c.loop-rest.rest.now) c.loop-rest.rest.now),
    )
