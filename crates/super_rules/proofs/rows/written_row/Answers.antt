use Rattle.std.proofs.Common.{◌++◌, ◌⊎◌, inl, inr, map, subst}
use Rattle.std.specs.Prelude.{Contains}
use Rattle.std.proofs.lemmas.List.Elements.{Contains-append_left, Contains-append_right, Contains-append_cases}
use Rattle.java_tree.specs.View.{type_plain}
use Rattle.super_rules.specs.Looks.{IsRow, NamesOneOf}
use Rattle.super_rules.proofs.Edged.{row_empty, row_alike}
use Rattle.super_rules.proofs.rows.written_row.Goals as goal

pub returns : goal.returns
returns c = λ p at.
    let d = c.args.entry.now.decl.now in
    let extends = map type_plain d.extends in
    let implements = map type_plain d.implements in
    let a = c.push_named.new.row in
    let r = c.push_named-2.new.row in
    let one = subst (λ xs. IsRow a (λ g. Contains c.new-row.result g ⊎ NamesOneOf p (map type_plain xs) g)) c.as_slice.ensures (c.in_ok-push_named.ensures p at) in
    let two = subst (λ xs. IsRow r (λ g. Contains a g ⊎ NamesOneOf p (map type_plain xs) g)) c.as_slice-2.ensures (c.in_ok-push_named-2.ensures p at) in
    let none = row_empty c.new-row.result c.new-row.ensures in
    row_alike r (λ g. Contains a g ⊎ NamesOneOf p implements g) (NamesOneOf p (extends ++ implements)) (λ g. (
      λ h. elim h [
        | inl first ↦ elim ((one g).0 first) [ inl new ↦ absurd ((none g).0 new) | inr s ↦ (s.0, Contains-append_left extends implements s.0 s.1, s.2) ]
        | inr s ↦ (s.0, Contains-append_right extends implements s.0 s.1, s.2)
      ],
      λ s. elim (Contains-append_cases extends implements s.0 s.1) [
        | inl front ↦ inl ((one g).1 (inr (s.0, front, s.2)))
        | inr back ↦ inr (s.0, back, s.2)
      ],
    )) two
