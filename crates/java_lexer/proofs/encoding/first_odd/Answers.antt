use Rattle.std.proofs.Common.{false, subst, sym, ap, ◌∙◌, min}
use Rattle.std.specs.Option.{unwrap_or}
use Rattle.std.specs.Str.{valid_up_to}
use Rattle.java_lexer.specs.Encoding.{IsFirstOdd}
use Rattle.java_lexer.proofs.EncodingLemmas.{Escapes, escapes, plain_place, odd_place}
use Rattle.java_lexer.proofs.encoding.first_odd.Goals as goal

pub returns-in-Ok-clause-place : goal.returns-in-Ok-clause-place
returns-in-Ok-clause-place c =
    plain_place c.args.text.now c.first_escape-escape.result c.in-Ok.ensures.cases.1 (subst (Escapes false c.args.text.now) (sym c.first_escape-escape.ensures.value) (escapes false c.args.text.now))

pub returns-in-Err-clause-place : goal.returns-in-Err-clause-place
returns-in-Err-clause-place c =
    let v = c.in-Err.ensures.cases.1 in
    let found = odd_place c.args.text.now (valid_up_to c.in-Err.e) c.first_escape-escape.result v
    (subst (Escapes false c.args.text.now) (sym c.first_escape-escape.ensures.value) (escapes false c.args.text.now)) in
    subst (IsFirstOdd c.args.text.now) (sym (c.earlier.ensures ∙ ap (λ n. min n (unwrap_or c.first_escape-escape.result n)) c.valid_up_to.ensures)) found
