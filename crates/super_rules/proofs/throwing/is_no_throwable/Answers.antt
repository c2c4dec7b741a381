use Rattle.std.proofs.Common.{◌≡◌, ℕ, inl, inr, refl, sym, ◌∙◌}
use Rattle.written_types.specs.declared.scope.Named.TheVariants as named
use Rattle.type_headers.specs.Declared.{place_of}
use Rattle.super_rules.proofs.Thrown.{thrown_variable, thrown_type, thrown_other}
use Rattle.super_rules.proofs.throwing.is_no_throwable.Goals as goal

pub returns-in-Variable : goal.returns-in-Variable
returns-in-Variable c = λ java fs types x at set.
    (λ e. thrown_variable java fs types x c.args.y.now c.head_named.result (c.head_named.ensures (place_of java fs types x) at) c.in-Variable.field-0 c.in-Variable.is, λ h. refl)

pub returns-in-Type : goal.returns-in-Type
returns-in-Type c = λ java fs types x at set.
    thrown_type java fs types x c.args.y.now c.head_named.result (c.head_named.ensures (place_of java fs types x) at) c.args.throwable.now c.in-Type.number c.is_set.result set c.in-Type.is c.is_set.ensures

pub returns-in-Primitive : goal.returns-in-Primitive
returns-in-Primitive c = λ java fs types x at set.
    let m = c.head_named.result in
    let variable : (k : ℕ) → m ≡ named.Variable k → ⊥ =
    λ k is. elim c.in-Primitive.is [
      | inl other ↦ let both : named.Primitive other.0 ≡ named.Variable k = sym other.1 ∙ is in cc both
      | inr other ↦ let both : named.Nothing ≡ named.Variable k = sym other ∙ is in cc both
    ] in
    let ty : (n : ℕ) → m ≡ named.Type n → ⊥ =
    λ n is. elim c.in-Primitive.is [
      | inl other ↦ let both : named.Primitive other.0 ≡ named.Type n = sym other.1 ∙ is in cc both
      | inr other ↦ let both : named.Nothing ≡ named.Type n = sym other ∙ is in cc both
    ] in
    (λ e. absurd (cc e), λ h. absurd (thrown_other java fs types x c.args.y.now m (c.head_named.ensures (place_of java fs types x) at) variable ty h))
