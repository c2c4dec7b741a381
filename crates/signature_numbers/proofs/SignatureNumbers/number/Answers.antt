use Rattle.std.proofs.Common.{◌≡◌, Some, refl}
use Rattle.std.specs.List.{flat_map}
use Rattle.signature_numbers.specs.declared.codes.Part.TheVariants as part
use Rattle.signature_numbers.specs.declared.codes.Step.{Step}
use Rattle.signature_numbers.specs.Codes.{parts, code}
use Rattle.signature_numbers.specs.Steps.{next_in, reached}
use Rattle.signature_numbers.specs.Numbers.{number_in}
use Rattle.signature_numbers.proofs.Rows.{if_ok, part_first}
use Rattle.signature_numbers.proofs.Whole.{numbers_kept, numbers_apart, is_number}
use Rattle.signature_numbers.proofs.SignatureNumbers.number.Goals as goal

pub returns-in_err-named-clause-kept : goal.returns-in_err-named-clause-kept
returns-in_err-named-clause-kept c = λ a ps n is. numbers_kept c.self.inside.steps.entries c.add_step.new.steps.entries c.in_err-named.ensures.kept a ps n (rw (← c.self.view_is) at is)

pub returns-in_err-named-clause-apart : goal.returns-in_err-named-clause-apart
returns-in_err-named-clause-apart c = numbers_apart c.add_step.new.steps.entries c.in_err-named.ensures.good

pub returns-clause-number : goal.returns-clause-number
returns-clause-number c =
    let new = c.add_types.new.steps.entries in
    let k = c.in_ok-named.named in
    let step : Step = record { after = 0; part = part.Named c.args.name.0 } in
    let found : next_in new 0 (part.Named c.args.name.0) ≡ Some k = c.add_types.ensures.kept step k c.in_ok-named.ensures.found in
    if_ok c.add_types.result (λ n. reached (next_in new) (Some k) (flat_map parts c.args.params.now) ≡ Some n) (λ n. number_in new c.args.name c.args.params.now ≡ Some n)
    (λ n h. is_number new c.args.name c.args.params.now (Some n)
    (part_first (next_in new) 0 k (Some n) (part.Named c.args.name.0) (code c.args.name c.args.params.now) (flat_map parts c.args.params.now) refl found h)) c.add_types.ensures.found

pub returns-clause-kept : goal.returns-clause-kept
returns-clause-kept c = λ a ps n is.
    numbers_kept c.self.inside.steps.entries c.add_types.new.steps.entries (λ s n h. c.add_types.ensures.kept s n (c.in_ok-named.ensures.kept s n h)) a ps n (rw (← c.self.view_is) at is)

pub returns-clause-apart : goal.returns-clause-apart
returns-clause-apart c = numbers_apart c.add_types.new.steps.entries c.add_types.ensures.good
