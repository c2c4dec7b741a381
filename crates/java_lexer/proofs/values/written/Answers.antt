use Rattle.std.proofs.Common.{◌≡◌, false, ap, sym, ◌∙◌, get_or, arith}
use Rattle.java_lexer.specs.Bytes.{is_long}
use Rattle.java_lexer.specs.Values.{in_u64}
use Rattle.java_lexer.proofs.ValueLemmas.{written_over}
use Rattle.java_lexer.proofs.values.written.Goals as goal

pub returns-in_err-n : goal.returns-in_err-n
returns-in_err-n c =
    let a = c.if-has.false in
    let e = c.has.ensures in
    let plain : is_long (get_or c.loop-rest.rest.now 0 0) ≡ false = sym e ∙ a in
    c.from_residual.ensures
    ∙ written_over c.args.base c.loop-rest.n c.loop-rest.rest.now c.requires (omega (arith, c.in-len1-up.len_at_least)) plain (sym c.longer.ensures ∙ c.in_err-n.was)
    ∙ ap in_u64 (sym c.loop-rest.invariant.0)
