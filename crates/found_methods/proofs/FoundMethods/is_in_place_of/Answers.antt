use Rattle.std.proofs.Common.{inl, inr, refl, sym, ◌∙◌}
use Rattle.std.proofs.lemmas.Bool.{true≢false}
use Rattle.found_methods.proofs.FoundMethods.is_in_place_of.Goals as goal
use Rattle.found_methods.proofs.FoundMethods.is_in_place_of.Goals.{then-overrides-via-then-overrides, then-overrides-via-else-overrides+then-have_one_number}

pub returns-then-overrides : goal.returns-then-overrides
returns-then-overrides c w h o lists = (
  λ is. elim c.then-overrides.branch [
    | then-overrides-via-then-overrides v ↦ inr (inl ((c.overrides.ensures w o).0 v.if-overrides.true))
    | then-overrides-via-else-overrides+then-have_one_number v ↦ inr (inr (inl ((h.callees.params c.args.k c.args.m).0 (v.have_one_number.ensures.0 v.if-have_one_number.true))))
  ],
  λ is. refl,
)

pub returns : goal.returns
returns c w h o lists = (
  λ is. inr (inr (inr ((c.overrides_for.ensures w h o lists).0 is))),
  λ is. elim is [
    | inl same ↦ absurd (c.if-k-m.false same)
    | inr (inl over) ↦ absurd (true≢false (sym ((c.overrides.ensures w o).1 over) ∙ c.if-overrides.false))
    | inr (inr (inl one)) ↦ absurd (true≢false (sym (c.have_one_number.ensures.1 ((h.callees.params c.args.k c.args.m).1 one)) ∙ c.if-have_one_number.false))
    | inr (inr (inr for)) ↦ (c.overrides_for.ensures w h o lists).1 for
  ],
)
