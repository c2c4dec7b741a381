use Rattle.std.proofs.Common.{◌≡◌, ◌<◌, ℕ, List, [], ◌∷◌, length, refl, sym, ◌∙◌, ◌↔◌, subst, arith}
use Rattle.std.specs.List.{Contains}
use Rattle.class_world.proofs.Places.{empty_yes, empty_no}
use Rattle.method_ties.proofs.Firsts.{none_in}
use Rattle.inherited_rules.specs.Parts.{IsTop}
use Rattle.inherited_rules.proofs.Judged.{unresolved_alike}
use Rattle.inherited_rules.proofs.Named.{has_item}
use Rattle.inherited_rules.proofs.unresolved.has_unresolved.Goals as goal

some_in : (xs : List ℕ) → (xs ≡ [] → ⊥) → 0 < length xs
some_in [] none = absurd (none refl)
some_in (x ∷ xs) none = omega arith

pub returns-then-not-branch : goal.returns-then-not-branch
returns-then-not-branch c = (λ h. absurd (cc h), λ h. let yes = c.in_ok-has_unlike.ensures.1 (h.0, h.1, h.2, h.3, h.4.0) in absurd (cc (yes, c.if-not-branch.true)))

pub returns-then-is_empty : goal.returns-then-is_empty
returns-then-is_empty c =
    let w = c.args.w.now in
    let ms = c.args.methods.now in
    let tops = c.as_slice-tops.result.now in
    let has = subst (λ (l : List ℕ). (t : ℕ) → Contains l t ↔ IsTop w ms t) (sym c.as_slice-tops.ensures.value) c.in_ok-tops.ensures in
    let unlike = c.in_ok-has_unlike.ensures.0 (cc c.if-not-branch.false) in
    let none : tops ≡ [] = empty_yes tops (sym c.if-is_empty.true ∙ c.is_empty.ensures) in
    (λ h. (unlike.0, unlike.1, unlike.2, unlike.3, (unlike.4, λ o. none_in tops o.0 none ((has o.0).1 o.1))), λ h. refl)

pub is_any_unresolved-requires-clause-first : goal.is_any_unresolved-requires-clause-first
is_any_unresolved-requires-clause-first c =
    let tops = c.as_slice-tops.result.now in
    has_item tops 0 (some_in tops (empty_no tops (sym c.if-is_empty.false ∙ c.is_empty.ensures)))

pub returns : goal.returns
returns c =
    let w = c.args.w.now in
    let ms = c.args.methods.now in
    let tops = c.as_slice-tops.result.now in
    let has = subst (λ (l : List ℕ). (t : ℕ) → Contains l t ↔ IsTop w ms t) (sym c.as_slice-tops.ensures.value) c.in_ok-tops.ensures in
    let same = unresolved_alike w c.args.c (Contains tops) (IsTop w ms) ms has in
    let told = c.in_ok-found.ensures in
    (λ h. same.0 (told.0 h), λ h. told.1 (same.1 h))
