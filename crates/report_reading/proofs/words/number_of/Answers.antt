use Rattle.std.proofs.Common.{◌≡◌, true, sym, ap, ◌∙◌, arith}
use Rattle.std.specs.Fmt.{decimal}
use Rattle.std.specs.Str.{bytes_eq}
use Rattle.std.proofs.lemmas.Slice.Eq.{bytes_eq-Decides}
use Rattle.report_reading.specs.Reading.{number_of}
use Rattle.report_reading.proofs.Numbers.{no_number, number_again}
use Rattle.report_reading.proofs.words.number_of.Goals as goal

pub returns-in_default-clause-gives : goal.returns-in_default-clause-gives
returns-in_default-clause-gives c = no_number c.args.most c.args.word.now c.parsed.result (omega arith) c.parsed.ensures (λ n le e s. cc (s, c.in_default.is))

pub returns-then-most-number-clause-gives : goal.returns-then-most-number-clause-gives
returns-then-most-number-clause-gives c = no_number c.args.most c.args.word.now c.parsed.result (omega arith) c.parsed.ensures (λ n le e s.
    let one : c.in-Some.number ≡ n = cc (s, c.in-Some.is) in
    omega arith)

pub returns-then-not-branch-clause-gives : goal.returns-then-not-branch-clause-gives
returns-then-not-branch-clause-gives c = no_number c.args.most c.args.word.now c.parsed.result (omega arith) c.parsed.ensures (λ n le e s.
    let one : c.in-Some.number ≡ n = cc (s, c.in-Some.is) in
    let same : bytes_eq c.args.word.now (decimal c.in-Some.number) ≡ true = (bytes_eq-Decides c.args.word.now (decimal c.in-Some.number)).1 (e ∙ ap decimal (sym one)) in
    cc (same, c.in_ok-is_decimal.ensures))

pub returns-clause-gives : goal.returns-clause-gives
returns-clause-gives c =
    let same : bytes_eq c.args.word.now (decimal c.in-Some.number) ≡ true = cc (c.in_ok-is_decimal.ensures) in
    ap (number_of c.args.most) ((bytes_eq-Decides c.args.word.now (decimal c.in-Some.number)).0 same) ∙ number_again c.args.most c.in-Some.number (omega arith) (omega arith)
