use Rattle.std.proofs.Common.{sym, ap, ◌∙◌}
use Rattle.signature_numbers.specs.Numbers.{number_in}
use Rattle.counted_methods.proofs.Signing.{sign_told}
use Rattle.counted_methods.proofs.signs.sign.Goals as goal

pub returns-in_ok-number-in-Some-clause-sign : goal.returns-in_ok-number-in-Some-clause-sign
returns-in_ok-number-in-Some-clause-sign c =
    sign_told c.args.w.now c.args.c c.args.name c.number.new.self c.args.m c.in_ok-number-in-Some.number c.in-Some.params c.in_ok-params.field-0 c.in_ok-params.ensures c.in-Some.is
    (ap (number_in c.number.new.self c.args.name) (sym c.as_slice.ensures) ∙ c.in_ok-number-in-Some.ensures.number)
