use Rattle.std.proofs.Common.{◌∙◌, sym, ap, ℕ, Bool, None, cond, nat_eq, get_or, refl, take}
use Rattle.std.proofs.lemmas.Option.{slice_get-get_or}
use Rattle.std.specs.List.{position_from}
use Rattle.std.specs.HashSet.{contains}
use Rattle.std.proofs.lemmas.List.{take_all}
use Rattle.type_names.specs.Tables.{least, is_open_both}
use Rattle.type_names.proofs.NamedIn.{both_none, both_more}
use Rattle.type_names.proofs.Opens.{open_first}
use Rattle.type_names.proofs.table.first_in.Goals as goal

pub loop-package-init : goal.loop-package-init
loop-package-init c = λ ps ts f holds home is real. sym (both_none ts f ps (contains nat_eq c.args.seen.now) c.args.name.0)

pub loop-package-preserved : goal.loop-package-preserved
loop-package-preserved c = λ ps ts f holds home is real.
    let has : ℕ → Bool = contains nat_eq c.args.seen.now in
    let p : ℕ = get_or c.args.packages.now c.loop-package.package-index 0 in
    let path = real c.loop-package.package-index p (slice_get-get_or c.args.packages.now c.loop-package.package-index 0 c.loop-package-test.true) in
    c.least-first.ensures ∙ ap (λ o. least o c.first_at.result) (c.loop-package.invariant ps ts f holds home is real)
    ∙ ap (least (position_from (is_open_both f ps has (take c.loop-package.package-index c.args.packages.now) c.args.name.0) 0 ts))
    (c.first_at.ensures ∙ ap (λ o. cond (has p) o None) (open_first ps c.args.firsts.now ts f c.args.home.«package» p c.args.name.0 c.args.home.user path.0 holds home is path.1))
    ∙ sym (both_more ps c.args.firsts.now ts f has c.args.packages.now c.loop-package.package-index p c.args.name.0 path.0 holds c.loop-package-test.true refl path.1)

pub returns : goal.returns
returns c = λ ps ts f holds home is real.
    c.loop-package.invariant ps ts f holds home is real
    ∙ ap (λ l. position_from (is_open_both f ps (contains nat_eq c.args.seen.now) l c.args.name.0) 0 ts) (take_all c.loop-package.package-index c.args.packages.now c.loop-package-test.false)
