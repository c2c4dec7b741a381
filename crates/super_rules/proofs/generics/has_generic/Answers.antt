use Rattle.std.proofs.Common.{◌≡◌, ℕ, ◌↔◌, inl, inr, true, false, Some, map, sym, subst, ◌∙◌}
use Rattle.std.specs.Prelude.{slice_get, IsTrue}
use Rattle.std.proofs.lemmas.List.Elements.{Contains-append_left, Contains-append_right, Contains-append_cases}
use Rattle.java_tree.specs.View.{type_plain}
use Rattle.super_rules.specs.Looks.{NamesOneOf}
use Rattle.super_rules.proofs.generics.has_generic.Goals as goal

pub returns-then-names_generic : goal.returns-then-names_generic
returns-then-names_generic c = λ p at.
    let d = c.args.entry.now.decl.now in
    let extends = map type_plain d.extends in
    let says = subst (λ xs. IsTrue c.names_generic.result ↔ ((g : ℕ) × NamesOneOf p (map type_plain xs) g × (slice_get c.args.generic.now g ≡ Some true))) c.as_slice.ensures (c.names_generic.ensures p at) in
    let found = says.0 c.if-names_generic.true in
    (λ e. (c.if-entry.true, (found.0, (found.1.0, Contains-append_left extends (map type_plain d.implements) found.1.0 found.1.1, found.1.2), found.2)), λ h. c.if-names_generic.true)

pub returns-else-names_generic : goal.returns-else-names_generic
returns-else-names_generic c = λ p at.
    let d = c.args.entry.now.decl.now in
    let extends = map type_plain d.extends in
    let implements = map type_plain d.implements in
    let first = subst (λ xs. IsTrue c.names_generic.result ↔ ((g : ℕ) × NamesOneOf p (map type_plain xs) g × (slice_get c.args.generic.now g ≡ Some true))) c.as_slice.ensures (c.names_generic.ensures p at) in
    let r = c.names_generic-else-names_generic.result in
    let says = subst (λ xs. IsTrue r ↔ ((g : ℕ) × NamesOneOf p (map type_plain xs) g × (slice_get c.args.generic.now g ≡ Some true))) c.as_slice-else-names_generic.ensures
    (c.names_generic-else-names_generic.ensures p at) in (
      λ e. let found = says.0 e in (c.if-entry.true, (found.0, (found.1.0, Contains-append_right extends implements found.1.0 found.1.1, found.1.2), found.2)),
      λ h. elim (Contains-append_cases extends implements h.1.1.0 h.1.1.1) [
        | inl front ↦
            let yes = first.1 (h.1.0, (h.1.1.0, front, h.1.1.2), h.1.2) in
            let never : true ≡ false = sym yes ∙ c.if-names_generic.false in
            absurd (cc never)
        | inr back ↦ says.1 (h.1.0, (h.1.1.0, back, h.1.1.2), h.1.2)
      ],
    )
