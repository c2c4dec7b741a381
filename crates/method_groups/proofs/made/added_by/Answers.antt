use Rattle.std.proofs.Common.{◌≡◌, Some, inl, sym, ◌∙◌, subst, length, refl, arith}
use Rattle.std.proofs.lemmas.Option.{slice_get_within, slice_get_read}
use Rattle.method_groups.specs.Labels.{IsAddition}
use Rattle.method_groups.proofs.made.added_by.Goals as goal

pub index-requires : goal.index-requires
index-requires c =
    let lists = c.args.labels.now.added.items in
    let its = c.requires.additions.each c.requires.row.0 c.in-Some.place c.args.row c.requires.row.1 c.in-Some.is in
    let lt = slice_get_within lists c.in-Some.place its.0 its.1 in
    omega (arith, lt, c.args.labels.now.added.ok.0)

pub returns-in-Some : goal.returns-in-Some
returns-in-Some c =
    let w = c.args.w.now in
    let rows = c.args.labels.now.rows.items in
    let lists = c.args.labels.now.added.items in
    let row = c.args.row in
    let its = c.requires.additions.each c.requires.row.0 c.in-Some.place row c.requires.row.1 c.in-Some.is in
    let here = slice_get_read lists (length lists) c.in-Some.place c.index.result.now refl (slice_get_within lists c.in-Some.place its.0 its.1) c.index.ensures in
    let both : Some its.0 ≡ Some c.index.result.now = sym its.1 ∙ here in
    let same : its.0 ≡ c.index.result.now = cc both in
    subst (IsAddition w rows row.rest row.last) (same ∙ sym c.as_slice.ensures) its.2

pub returns-in-None : goal.returns-in-None
returns-in-None c =
    let has = c.methods_of.ensures.has c.requires.member in
    record { only = λ k. (has k).0; all = λ k its. inl ((has k).1 its) }
