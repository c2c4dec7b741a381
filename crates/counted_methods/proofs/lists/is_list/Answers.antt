use Rattle.std.proofs.Common.{◌≡◌, Some, refl, sym, ap, ◌∙◌, length}
use Rattle.std.specs.Prelude.{slice_get}
use Rattle.std.proofs.lemmas.Bool.Decides.{Decides-eqb}
use Rattle.std.proofs.lemmas.Option.{slice_get_read}
use Rattle.std.proofs.lemmas.Slice.Eq.{slice_eq-Decides}
use Rattle.counted_methods.proofs.lists.is_list.Goals as goal

pub returns-in-Some : goal.returns-in-Some
returns-in-Some c = λ yes.
    let lists = c.args.lists.now in
    let at = c.in-Some.ensures.lookup in
    let there : slice_get lists c.args.number ≡ Some c.in-Some.found.now = slice_get_read lists (length lists) c.args.number c.in-Some.found.now refl at.3.0 at.1 in
    there ∙ ap Some (sym c.as_slice.ensures ∙ (slice_eq-Decides Decides-eqb _ _ _ c.eq.ensures).0 yes)
