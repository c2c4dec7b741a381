use Rattle.std.proofs.Common.{◌≡◌, ℕ, inl, inr, true, false, length, map, refl, sym, ap, subst, ◌∙◌}
use Rattle.std.specs.Prelude.{slice_get}
use Rattle.std.proofs.lemmas.Option.{slice_get_read}
use Rattle.std.proofs.lemmas.List.{take_all}
use Rattle.java_tree.specs.Plain.{TypeExpr}
use Rattle.java_tree.specs.View.{type_plain}
use Rattle.written_types.specs.Places.{Place}
use Rattle.written_types.specs.Breaks.{head_of, NamesType}
use Rattle.super_rules.specs.Looks.{NamesOneOf}
use Rattle.super_rules.proofs.Files.{taken_next}
use Rattle.super_rules.proofs.Edged.{one_cases, one_at, names_one, names_none}
use Rattle.super_rules.proofs.generics.names_generic.Goals as goal
use Rattle.super_rules.proofs.generics.names_generic.Goals.{in-Type+else-is_set, in_default}

abbrev Names : Place → TypeExpr → ℕ → Type 0
Names p s g = NamesType p (head_of s) g

pub returns-then-is_set : goal.returns-then-is_set
returns-then-is_set c = λ p at.
    let xs = c.args.xs.now in
    let x = c.x-item.result in
    let n = c.in-Type.number in
    let here = (names_one p x c.head_named.result n (c.head_named.ensures p at) c.in-Type.is n).0 refl in
    let there = slice_get_read xs (length xs) c.loop-x.x-index x refl c.loop-x-test.true c.x-item.is in
    (λ e. (n, one_at type_plain (Names p) xs c.loop-x.x-index x n there here, c.is_set.ensures.0 c.if-is_set.true), λ h. refl)

pub loop-x-preserved : goal.loop-x-preserved
loop-x-preserved c = λ p at g one set.
    let xs = c.args.xs.now in
    let i = c.loop-x.x-index in
    let x = c.x-item.result in
    let parts = one_cases (Names p) _ (type_plain x) g (subst (λ ys. NamesOneOf p ys g) (taken_next type_plain xs i x c.loop-x-test.true c.x-item.is) one) in
    elim parts [
      | inl old ↦ c.loop-x.invariant p at g old set
      | inr here ↦ elim c.match-head_named.branch [
        | in-Type+else-is_set w ↦
            let same = (names_one p x c.head_named.result w.in-Type.number (c.head_named.ensures p at) w.in-Type.is g).1 here in
            let yes = w.is_set.ensures.1 (ap (slice_get c.args.generic.now) same ∙ set) in
            let never : true ≡ false = sym yes ∙ w.if-is_set.false in
            cc never
        | in_default w ↦ names_none p x c.head_named.result (c.head_named.ensures p at) w.in_default.not-Type g here
      ]
    ]

pub returns : goal.returns
returns c = λ p at.
    let all = take_all c.loop-x.x-index c.args.xs.now c.loop-x-test.false in
    (λ e. let never : false ≡ true = e in absurd (cc never), λ h. absurd (c.loop-x.invariant p at h.0 (subst (λ xs. NamesOneOf p (map type_plain xs) h.0) (sym all) h.1) h.2))
