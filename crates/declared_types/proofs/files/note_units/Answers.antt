use Rattle.std.proofs.Common.{◌≡◌, ◌+◌, map, refl, ap, subst, ◌∙◌, arith}
use Rattle.std.specs.Prelude.{slice_get}
use Rattle.std.proofs.lemmas.List.{take_all}
use Rattle.java_tree.specs.View.{unit_plain}
use Rattle.rule_order.specs.Noted.{SomeOf, Adds}
use Rattle.rule_order.proofs.Lists.{some_none}
use Rattle.type_names.specs.Known.{File}
use Rattle.type_names.specs.Tables.{files_in}
use Rattle.type_names.proofs.Held.{file_at}
use Rattle.type_headers.specs.Declared.{declarations_from}
use Rattle.declared_types.specs.Rules.{DeclarationBreaches}
use Rattle.declared_types.proofs.Declarations.{unit_next}
use Rattle.declared_types.proofs.files.note_units.Goals as goal

pub loop-at-init : goal.loop-at-init
loop-at-init c = λ java fs user stands at. some_none (DeclarationBreaches java fs c.args.types.now) c.args.first

pub loop-at-preserved : goal.loop-at-preserved
loop-at-preserved c = λ java fs user stands at.
    let number : c.in-Ok.file ≡ c.args.before + c.loop-at.at = omega (arith, c.saturating_add.ensures, c.in-Ok.ensures) in
    let u = c.index-units-at.result in
    let f : File = record { unit = unit_plain u; user = user } in
    let there = ap (slice_get fs) number ∙ at c.loop-at.at f (file_at user c.args.units.now c.loop-at.at u c.loop-at-test.true c.index-units-at.is) in
    unit_next (DeclarationBreaches java fs c.args.types.now) c.args.before c.in-Ok.file user c.args.units.now c.loop-at.at u c.args.first c.loop-at.first c.in_ok-first.first c.loop-at-test.true
    c.index-units-at.is number (c.loop-at.invariant java fs user stands at) (c.in_ok-first.ensures java fs f stands there refl)

pub returns : goal.returns
returns c = λ java fs user stands at.
    subst (λ us. Adds (SomeOf (declarations_from c.args.before (files_in user (map unit_plain us))) (DeclarationBreaches java fs c.args.types.now)) c.args.first c.loop-at.first)
    (take_all c.loop-at.at c.args.units.now c.loop-at-test.false) (c.loop-at.invariant java fs user stands at)
