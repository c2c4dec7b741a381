use Rattle.std.proofs.Common.{ℕ, List, inl, inr, ◌↔◌, sym, subst}
use Rattle.std.specs.List.{Contains}
use Rattle.std.specs.List.Sorted.{IsStrictlyIncreasing}
use Rattle.method_ties.proofs.Firsts.{once_rising}
use Rattle.inherited_rules.specs.Rules.{IsInherited}
use Rattle.inherited_rules.proofs.Judged.{none_unlike, pair_of}
use Rattle.inherited_rules.proofs.results.has_unlike_results.Goals as goal

pub returns-then-not-branch : goal.returns-then-not-branch
returns-then-not-branch c = (
  λ h. absurd (cc h),
  λ h. absurd (none_unlike c.args.w.now c.args.c c.requires.sound (λ m k in_m in_k one. elim (c.in_ok-may_meet.ensures m k in_m in_k one) [ inl same ↦ same | inr met ↦ absurd (cc (met, c.if-not-branch.true)) ]) h),
)

pub of-requires-clause-once : goal.of-requires-clause-once
of-requires-clause-once c = once_rising c.as_slice-inherited.result.now (subst IsStrictlyIncreasing (sym c.as_slice-inherited.ensures.value) c.in_ok-inherited.ensures.ascending)

pub has_unresolved_pair-requires-clause-table : goal.has_unresolved_pair-requires-clause-table
has_unresolved_pair-requires-clause-table c =
    let has = subst (λ (l : List ℕ). (k : ℕ) → Contains l k ↔ IsInherited c.args.w.now c.args.c k) (sym c.as_slice-inherited.ensures.value) c.in_ok-inherited.ensures.has in
    (c.in_ok-table.ensures, λ k h. ((has k).0 h).0)

pub returns : goal.returns
returns c =
    let w = c.args.w.now in
    let ms = c.as_slice-inherited.result.now in
    let has = subst (λ (l : List ℕ). (k : ℕ) → Contains l k ↔ IsInherited w c.args.c k) (sym c.as_slice-inherited.ensures.value) c.in_ok-inherited.ensures.has in
    let pair = pair_of w c.args.c ms has in
    let told = c.in_ok-found.ensures in
    (λ h. pair.0 (told.0 h), λ h. told.1 (pair.1 h))
