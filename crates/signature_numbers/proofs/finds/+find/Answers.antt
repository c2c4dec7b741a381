use Rattle.std.proofs.Common.{sym, ◌∙◌}
use Rattle.signature_numbers.specs.Steps.{next_in}
use Rattle.signature_numbers.proofs.Whole.{class_first, no_class, no_array, types_first, no_types}
use Rattle.signature_numbers.proofs.finds.+find.Goals as goal

pub find_type-returns-in_err-next-in-Class : goal.find_type-returns-in_err-next-in-Class
find_type-returns-in_err-next-in-Class t c =
    c.from_residual.ensures
    ∙ sym (no_class (next_in c.args.steps.now.entries) c.args.after c.args.t.now c.in-Class.c c.len.result _ c.in-Class.is c.len.ensures (sym c.find_step-in-Class.ensures ∙ c.in_err-next-in-Class.was))

pub find_type-returns-in_ok-next-in-Class : goal.find_type-returns-in_ok-next-in-Class
find_type-returns-in_ok-next-in-Class t c =
    sym (class_first (next_in c.args.steps.now.entries) c.args.after c.in_ok-next-in-Class.next c.find_types.result c.args.t.now c.in-Class.c c.len.result _ c.as_slice.result.now c.in-Class.is c.len.ensures c.as_slice.ensures
    (sym c.find_step-in-Class.ensures ∙ c.in_ok-next-in-Class.was) (sym c.find_types.ensures))

pub find_type-returns-in_err-next-in-Array : goal.find_type-returns-in_err-next-in-Array
find_type-returns-in_err-next-in-Array t c =
    c.from_residual-in_err-next-in-Array.ensures
    ∙ sym (no_array (next_in c.args.steps.now.entries) c.args.after c.args.t.now c.in-Array.element c.in-Array.is (sym c.find_step-in-Array.ensures ∙ c.in_err-next-in-Array.was))

pub find_types-returns-in_err-next-in-Some : goal.find_types-returns-in_err-next-in-Some
find_types-returns-in_err-next-in-Some t c =
    c.from_residual.ensures
    ∙ sym (no_types (next_in c.args.steps.now.entries) c.args.after c.args.ts.now c.in-Some.t.now c.in-Some.others.now c.in-Some.ensures.cases.0 (sym c.find_type.ensures ∙ c.in_err-next-in-Some.was))

pub find_types-returns-in_ok-next-in-Some : goal.find_types-returns-in_ok-next-in-Some
find_types-returns-in_ok-next-in-Some t c =
    sym (types_first (next_in c.args.steps.now.entries) c.args.after c.in_ok-next-in-Some.next c.find_types.result c.args.ts.now c.in-Some.t.now c.in-Some.others.now c.in-Some.ensures.cases.0
    (sym c.find_type.ensures ∙ c.in_ok-next-in-Some.was) (sym c.find_types.ensures))
