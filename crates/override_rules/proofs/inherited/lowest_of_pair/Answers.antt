use Rattle.std.proofs.Common.{◌≡◌, true, false, inl, inr, sym, subst, ◌∙◌}
use Rattle.std.proofs.lemmas.Bool.{eq-eqb}
use Rattle.class_world.specs.Signatures.{AgreeBelow}
use Rattle.override_rules.specs.Rules.{Breaks}
use Rattle.override_rules.specs.Judged.{IsLowest}
use Rattle.override_rules.proofs.Judging.{not_told, pair_some, pair_differs}
use Rattle.override_rules.proofs.inherited.lowest_of_pair.Goals as goal
use Rattle.override_rules.proofs.inherited.lowest_of_pair.Goals.{then-rule-eq17, else-rule-eq17+in_ok-agree_below-in-Some}

pub returns-then-branch : goal.returns-then-branch
returns-then-branch c =
    let low = subst (IsLowest (Breaks c.args.w.now c.args.c c.args.m c.args.k)) c.in-Some.is c.in_ok-lowest_broken.ensures in
    pair_some c.args.w.now c.args.c c.args.m c.args.k c.in-Some.rule low (elim c.if-rule-eq17.branch [
      | then-rule-eq17 w ↦ inl w.if-rule-eq17.true
      | else-rule-eq17+in_ok-agree_below-in-Some w ↦ inr (w.in_ok-agree_below-in-Some.ensures.0 (sym w.value-is ∙ c.if-branch.true))
    ])

pub returns-else-branch : goal.returns-else-branch
returns-else-branch c =
    let low = subst (IsLowest (Breaks c.args.w.now c.args.c c.args.m c.args.k)) c.in-Some.is c.in_ok-lowest_broken.ensures in
    elim c.if-rule-eq17.branch [
      | then-rule-eq17 w ↦ let never : true ≡ false = sym (eq-eqb c.in-Some.rule 17 w.if-rule-eq17.true) ∙ sym w.value-is ∙ c.if-branch.false in absurd (cc never)
      | else-rule-eq17+in_ok-agree_below-in-Some w ↦
          pair_differs c.args.w.now c.args.c c.args.m c.args.k c.in-Some.rule low w.if-rule-eq17.false
          (not_told w.in_ok-agree_below-in-Some.field-0 (AgreeBelow c.args.w.now c.args.m c.args.k) w.in_ok-agree_below-in-Some.ensures (sym w.value-is ∙ c.if-branch.false))
    ]
