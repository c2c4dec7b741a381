use Rattle.std.proofs.Common.{◌≡◌, Some}
use Rattle.std.specs.List.{flat_map}
use Rattle.signature_numbers.specs.declared.codes.Part.TheVariants as part
use Rattle.signature_numbers.specs.declared.codes.Step.{Step}
use Rattle.signature_numbers.specs.Codes.{parts}
use Rattle.signature_numbers.specs.Steps.{next_in, reached}
use Rattle.signature_numbers.proofs.Rows.{if_ok, kept_from}
use Rattle.signature_numbers.proofs.Whole.{class_first, types_first}
use Rattle.signature_numbers.proofs.adds.+add.Goals as goal

pub add_type-returns-in_ok-next-in-Class-clause-found : goal.add_type-returns-in_ok-next-in-Class-clause-found
add_type-returns-in_ok-next-in-Class-clause-found t c =
    let new = c.add_types.new.steps.entries in
    let k = c.in_ok-next-in-Class.next in
    let step : Step = record { after = c.args.after; part = part.Class c.in-Class.c c.len.result } in
    let found : next_in new c.args.after (part.Class c.in-Class.c c.len.result) ≡ Some k = c.add_types.ensures.kept step k c.in_ok-next-in-Class.ensures.found in
    if_ok c.add_types.result (λ n. reached (next_in new) (Some k) (flat_map parts c.as_slice.result.now) ≡ Some n) (λ n. reached (next_in new) (Some c.args.after) (parts c.args.t.now) ≡ Some n)
    (λ n h. class_first (next_in new) c.args.after k (Some n) c.args.t.now c.in-Class.c c.len.result _ c.as_slice.result.now c.in-Class.is c.len.ensures c.as_slice.ensures found h) c.add_types.ensures.found

pub add_types-returns-in_ok-next-in-Some-clause-found : goal.add_types-returns-in_ok-next-in-Some-clause-found
add_types-returns-in_ok-next-in-Some-clause-found t c =
    let mid = c.add_type.new.steps.entries in
    let new = c.add_types.new.steps.entries in
    let k = c.in_ok-next-in-Some.next in
    let first = c.in-Some.t.now in
    let others = c.in-Some.others.now in
    let found : reached (next_in new) (Some c.args.after) (parts first) ≡ Some k =
    kept_from (next_in mid) (next_in new) (λ s p n h. c.add_types.ensures.kept (record { after = s; part = p }) n h) (Some c.args.after) (parts first) k c.in_ok-next-in-Some.ensures.found in
    if_ok c.add_types.result (λ n. reached (next_in new) (Some k) (flat_map parts others) ≡ Some n) (λ n. reached (next_in new) (Some c.args.after) (flat_map parts c.args.ts.now) ≡ Some n)
    (λ n h. types_first (next_in new) c.args.after k (Some n) c.args.ts.now first others c.in-Some.ensures.cases.0 found h) c.add_types.ensures.found
