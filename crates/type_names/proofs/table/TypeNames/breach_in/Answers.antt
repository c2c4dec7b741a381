use Rattle.std.proofs.Common.{◌≡◌, ◌∙◌, Some, ap, refl, sym, subst}
use Rattle.std.specs.Option.{unwrap_or}
use Rattle.std.proofs.lemmas.List.{take_all}
use Rattle.java_tree.specs.View.{unit_plain}
use Rattle.rule_order.specs.First.{IsFirst}
use Rattle.type_names.specs.Known.{File}
use Rattle.type_names.specs.Rules.{Among, BreaksImport}
use Rattle.type_names.specs.Paths.{number_in, place_in}
use Rattle.type_names.proofs.Breaches.{among_next}
use Rattle.type_names.proofs.Tested.{import_by}
use Rattle.type_names.proofs.table.TypeNames.breach_in.Goals as goal

pub loop-import-preserved : goal.loop-import-preserved
loop-import-preserved c = λ fs stands home.
    let f : File = record { unit = unit_plain c.args.unit.now; user = c.args.from_user } in
    let same : c.unwrap_or.result ≡ place_in c.args.self.now.packages c.args.unit.now.«package» =
    c.unwrap_or.ensures ∙ ap (λ o. unwrap_or o 0) (c.number_of.ensures ∙ ap (number_in c.args.self.now.packages) c.as_slice.ensures) in
    let broken = import_by c.args.java fs f c.import-item.result c.names_nothing-broken.result c.breach_if.result
    (c.names_nothing-broken.ensures fs f stands (home ∙ ap Some (sym same)) refl) c.breach_if.ensures in
    among_next (BreaksImport c.args.java fs f) c.as_slice-import-items.result.now c.loop-import.import-index c.import-item.result c.loop-import.found c.breach_if.result c.earlier-found.result
    c.loop-import-test.true c.import-item.is (c.loop-import.invariant fs stands home) broken c.earlier-found.ensures

pub returns : goal.returns
returns c = λ fs stands home.
    let f : File = record { unit = unit_plain c.args.unit.now; user = c.args.from_user } in
    subst (λ l. IsFirst (Among (BreaksImport c.args.java fs f) l) c.loop-import.found)
    (take_all c.loop-import.import-index c.as_slice-import-items.result.now c.loop-import-test.false ∙ c.as_slice-import-items.ensures) (c.loop-import.invariant fs stands home)
