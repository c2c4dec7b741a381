use Rattle.std.proofs.Common.{◌≡◌, ◌+◌, ◌++◌, map, refl, sym, ap, subst, ◌∙◌, arith}
use Rattle.std.specs.Prelude.{slice_get}
use Rattle.std.proofs.lemmas.List.{take_all}
use Rattle.java_tree.specs.View.{unit_plain}
use Rattle.type_names.specs.Known.{File}
use Rattle.type_names.specs.Tables.{files_in}
use Rattle.type_names.proofs.Held.{append_none, file_at}
use Rattle.type_headers.specs.Declared.{declarations_from}
use Rattle.super_rules.specs.Looks.{AreEntries}
use Rattle.super_rules.proofs.Files.{unit_next}
use Rattle.super_rules.proofs.entries.push_units.Goals as goal

pub loop-at-init : goal.loop-at-init
loop-at-init c = λ java fs xs stands at so_far. subst (AreEntries java fs c.args.types.now c.args.entries.now.items) (sym (append_none xs)) so_far

pub loop-at-preserved : goal.loop-at-preserved
loop-at-preserved c = λ java fs xs stands at so_far.
    let number : c.in-Ok.file ≡ c.args.before + c.loop-at.at = omega (arith, c.saturating_add.ensures, c.in-Ok.ensures) in
    let user = c.args.user in
    let u = c.index-units-at.result in
    let f : File = record { unit = unit_plain u; user = user } in
    let there = ap (slice_get fs) number ∙ at c.loop-at.at f (file_at user c.args.units.now c.loop-at.at u c.loop-at-test.true c.index-units-at.is) in
    subst (AreEntries java fs c.args.types.now c.push_decls.new.entries.items) (unit_next c.args.before c.in-Ok.file user c.args.units.now c.loop-at.at u xs c.loop-at-test.true c.index-units-at.is number)
    (c.in_ok-push_decls.ensures java fs f _ stands there refl refl (c.loop-at.invariant java fs xs stands at so_far))

pub returns : goal.returns
returns c = λ java fs xs stands at so_far.
    subst (λ us. AreEntries java fs c.args.types.now c.loop-at.entries.items (xs ++ declarations_from c.args.before (files_in c.args.user (map unit_plain us))))
    (take_all c.loop-at.at c.args.units.now c.loop-at-test.false) (c.loop-at.invariant java fs xs stands at so_far)
