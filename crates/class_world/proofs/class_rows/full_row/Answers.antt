use Rattle.std.proofs.Common.{◌≡◌, Some, refl, sym, ap, ◌∙◌, subst}
use Rattle.std.specs.Prelude.{slice_get}
use Rattle.std.proofs.lemmas.Option.{slice_get_read}
use Rattle.class_world.specs.Meets.{IsAboveRow}
use Rattle.class_world.proofs.Meets as by
use Rattle.class_world.proofs.class_rows.full_row.Goals as goal

pub returns-in-Some-Some-clause-row : goal.returns-in-Some-Some-clause-row
returns-in-Some-Some-clause-row c = λ listed are.
    let w = c.args.w.now in
    let d = c.args.d.now in
    let found = c.in-Some-Some.ensures.lookup in
    let there : slice_get c.args.rows.now c.class_of-c.result ≡ Some (Some c.in-Some-Some.row) =
    slice_get_read c.args.rows.now _ c.class_of-c.result c.in-Some-Some.field-0.now refl found.3.0 found.1 ∙ ap (λ x. Some x) c.in-Some-Some.field-0-is in
    subst (IsAboveRow w listed d) (sym c.as_slice.ensures)
    (by.row_read w c.requires.supers listed c.args.rows.now d c.class_of-c.result c.args_of.result.now c.in-Some-Some.row are c.requires.class c.class_of-c.ensures c.args_of.ensures
    (λ flat. let never = c.if-is_raw.ensures.1 flat in absurd (cc never)) there)

pub returns-in-Some-Some-clause-full : goal.returns-in-Some-Some-clause-full
returns-in-Some-Some-clause-full c = (
  c.class_of-c.result,
  by.full_read c.args.w.now c.requires.supers c.args.d.now c.class_of-c.result c.args_of.result.now c.requires.class c.class_of-c.ensures c.args_of.ensures
      (λ flat. let never = c.if-is_raw.ensures.1 flat in absurd (cc never)),
)
