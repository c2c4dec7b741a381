use Rattle.std.proofs.Common.{refl, sym, ◌∙◌}
use Rattle.std.specs.List.{flat_map}
use Rattle.signature_numbers.specs.declared.codes.Part.TheVariants as part
use Rattle.signature_numbers.specs.Codes.{parts, code}
use Rattle.signature_numbers.specs.Steps.{next_in}
use Rattle.signature_numbers.proofs.Rows.{part_first, no_part}
use Rattle.signature_numbers.proofs.Whole.{is_number}
use Rattle.signature_numbers.proofs.SignatureNumbers.find.Goals as goal

pub returns-in_err-named : goal.returns-in_err-named
returns-in_err-named c =
    let t = c.self.inside.steps.entries in
    rw (← c.self.view_is)
    (c.from_residual.ensures
    ∙ sym (is_number t c.args.name c.args.params.now _
    (no_part (next_in t) 0 (part.Named c.args.name.0) (code c.args.name c.args.params.now) (flat_map parts c.args.params.now) refl (sym c.find_step.ensures ∙ c.in_err-named.was))))

pub returns : goal.returns
returns c =
    let t = c.self.inside.steps.entries in
    rw (← c.self.view_is)
    (sym (is_number t c.args.name c.args.params.now c.find_types.result
    (part_first (next_in t) 0 c.in_ok-named.named c.find_types.result (part.Named c.args.name.0) (code c.args.name c.args.params.now) (flat_map parts c.args.params.now) refl
    (sym c.find_step.ensures ∙ c.in_ok-named.was) (sym c.find_types.ensures))))
