use Rattle.std.proofs.Common.{◌≡◌, ◌∙◌, [], sym, ap, subst, nat_eq, rules}
use Rattle.std.specs.List.{list_any}
use Rattle.std.proofs.lemmas.List.{take_all}
use Rattle.type_names.specs.Tables.{HoldsDemands}
use Rattle.type_names.proofs.Demands.{HasPut, demands_none, demands_more, demands_same}
use Rattle.type_names.proofs.files.on_demand_of.Goals as goal
use Rattle.type_names.proofs.files.on_demand_of.Goals.{then-import+in_ok-push_package-2, else-import}

pub push_package-requires : goal.push_package-requires
push_package-requires c = λ p.
    let empty : c.new-numbers.result.items ≡ [] = search rules in
    ap (list_any (nat_eq p)) c.new-seen.ensures.empty ∙ sym (ap (list_any (λ y. nat_eq y p)) empty)

pub loop-import-init : goal.loop-import-init
loop-import-init c =
    let empty : c.new-numbers.result.items ≡ [] = search rules in (
      demands_none c.args.packages.now c.args.java c.new-numbers.result.items c.push_package.new.numbers.items empty c.in_ok-push_package.ensures.all c.in_ok-push_package.ensures.real,
      c.in_ok-push_package.ensures.same,
    )

pub push_package-requires-then-import : goal.push_package-requires-then-import
push_package-requires-then-import c = c.loop-import.invariant.1

pub loop-import-preserved : goal.loop-import-preserved
loop-import-preserved c = elim c.if-import.branch [
  | then-import+in_ok-push_package-2 w ↦
      rw (w.numbers-is, w.seen-is) (
        demands_more c.args.packages.now c.args.java c.args.imports.now c.loop-import.import-index c.import-item.result c.loop-import.numbers.items
            w.push_package-then-import.new.numbers.items c.loop-import-test.true c.import-item.is w.if-import.true
            (subst (λ p. HasPut c.args.packages.now p c.loop-import.numbers.items w.push_package-then-import.new.numbers.items) w.as_slice.ensures w.in_ok-push_package-2.ensures.all)
            w.in_ok-push_package-2.ensures.real c.loop-import.invariant.0,
        w.in_ok-push_package-2.ensures.same,
      )
  | else-import w ↦
      rw (w.numbers-is, w.seen-is) (
        demands_same c.args.packages.now c.args.java c.args.imports.now c.loop-import.import-index c.import-item.result c.loop-import.numbers.items c.loop-import-test.true c.import-item.is
            w.if-import.false c.loop-import.invariant.0,
        c.loop-import.invariant.1,
      )
]

pub returns : goal.returns
returns c = (
  subst (λ is. HoldsDemands c.args.packages.now c.args.java is c.loop-import.numbers.items) (take_all c.loop-import.import-index c.args.imports.now c.loop-import-test.false) c.loop-import.invariant.0,
  c.loop-import.invariant.1,
)
