use Rattle.std.proofs.Common.{ℕ, ◌⊎◌, map, subst}
use Rattle.std.specs.Prelude.{Contains}
use Rattle.std.proofs.lemmas.List.{take_all}
use Rattle.java_tree.specs.Plain.{TypeExpr}
use Rattle.java_tree.specs.View.{type_plain}
use Rattle.written_types.specs.Places.{Place}
use Rattle.written_types.specs.Breaks.{head_of, NamesType}
use Rattle.super_rules.specs.Looks.{IsRow, NamesOneOf}
use Rattle.super_rules.proofs.Edged.{names_one, names_none, row_begins, row_adds, row_keeps}
use Rattle.super_rules.proofs.rows.push_named.Goals as goal
use Rattle.super_rules.proofs.rows.push_named.Goals.{in-Type+in_ok-push, in_default}

abbrev Names : Place → TypeExpr → ℕ → Type 0
Names p s g = NamesType p (head_of s) g

pub loop-x-init : goal.loop-x-init
loop-x-init c = λ p at. row_begins (Names p) (Contains c.args.row.now) c.args.row.now (λ g. (λ has. has, λ has. has))

pub loop-x-preserved : goal.loop-x-preserved
loop-x-preserved c = λ p at.
    let xs = c.args.xs.now in
    let i = c.loop-x.x-index in
    let x = c.x-item.result in
    elim c.match-head_named.branch [
      | in-Type+in_ok-push w ↦
          rw (w.row-is, w.in_ok-push.ensures.ok) (row_adds type_plain (Names p) (Contains c.args.row.now) xs i x c.loop-x.row w.in-Type.number c.loop-x-test.true c.x-item.is
          (names_one p x c.head_named.result w.in-Type.number (c.head_named.ensures p at) w.in-Type.is) (c.loop-x.invariant p at))
      | in_default w ↦
          rw w.row-is (row_keeps type_plain (Names p) (Contains c.args.row.now) xs i x c.loop-x.row c.loop-x-test.true c.x-item.is
          (names_none p x c.head_named.result (c.head_named.ensures p at) w.in_default.not-Type) (c.loop-x.invariant p at))
    ]

pub returns : goal.returns
returns c = λ p at.
    subst (λ xs. IsRow c.loop-x.row (λ g. Contains c.args.row.now g ⊎ NamesOneOf p (map type_plain xs) g)) (take_all c.loop-x.x-index c.args.xs.now c.loop-x-test.false) (c.loop-x.invariant p at)
