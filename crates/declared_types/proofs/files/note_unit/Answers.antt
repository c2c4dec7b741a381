use Rattle.std.proofs.Common.{map, sym, ap, subst, ◌∙◌}
use Rattle.std.proofs.lemmas.List.{take_all}
use Rattle.java_tree.specs.Plain.{SourceUnit}
use Rattle.java_tree.specs.View.{decl_plain}
use Rattle.rule_order.specs.Noted.{SomeOf, Adds}
use Rattle.rule_order.proofs.Lists.{some_none}
use Rattle.type_headers.specs.Declared.{place_of}
use Rattle.written_types.specs.Places.{place_in}
use Rattle.declared_types.specs.Rules.{DeclarationBreaches}
use Rattle.declared_types.specs.Looks.{declares}
use Rattle.declared_types.proofs.Declarations.{decl_next}
use Rattle.declared_types.proofs.files.note_unit.Goals as goal

pub loop-d-init : goal.loop-d-init
loop-d-init c = λ java fs f stands at. some_none (DeclarationBreaches java fs c.args.types.now) c.args.first

pub loop-d-preserved : goal.loop-d-preserved
loop-d-preserved c = λ java fs f stands at.
    let types = c.args.types.now in
    let x = declares c.args.file f (decl_plain c.d-item.result) in
    let one =
    c.in_ok-first.ensures (place_of java fs types x)
    (record { java = java; files = fs; file = f; stands = stands; at = at; same = ap (place_in java fs f types) (sym c.as_slice.ensures) })
    in
    decl_next (DeclarationBreaches java fs types) c.args.file f c.as_slice-d-items.result.now c.loop-d.d-index c.d-item.result c.args.first c.loop-d.first c.in_ok-first.first c.loop-d-test.true c.d-item.is
    (c.loop-d.invariant java fs f stands at) one

pub returns : goal.returns
returns c = λ java fs f stands at is.
    let all = ap (map decl_plain) (take_all c.loop-d.d-index c.as_slice-d-items.result.now c.loop-d-test.false ∙ c.as_slice-d-items.ensures) ∙ sym (ap (λ (u : SourceUnit). u.types) is) in
    subst (λ ds. Adds (SomeOf (map (declares c.args.file f) ds) (DeclarationBreaches java fs c.args.types.now)) c.args.first c.loop-d.first) all (c.loop-d.invariant java fs f stands at)
