use Rattle.std.proofs.Common.{◌≡◌, ◌<◌, ◌≤◌, ◌∙◌, ◌++◌, ◌∷◌, [], List, ℕ, Some, ◌⊎◌, inl, inr, refl, sym, ap, subst, length, arith}
use Rattle.std.specs.Prelude.{slice_get}
use Rattle.std.proofs.lemmas.Option.{slice_get_within}
use Rattle.std.proofs.lemmas.List.{length_push, length-append}
use Rattle.type_reach.specs.declared.search.Stage.TheVariants as stage
use Rattle.type_reach.specs.declared.search.Part.{Part}
use Rattle.type_reach.specs.declared.search.Search.{Search}
use Rattle.type_reach.specs.Spread.{left}
use Rattle.type_reach.specs.Paths.{IsSearch, IsDone, is_new}
use Rattle.type_reach.proofs.Lists.{there_is, left_set}
use Rattle.type_reach.proofs.Steps.{not_past}
use Rattle.type_reach.proofs.Steps as by
use Rattle.type_reach.proofs.search.Search.follow.Goals as goal
use Rattle.type_reach.proofs.search.Search.follow.Goals.{in_default-stage_of-via-in-Open+else-at-part, in_default-stage_of-via-in_default-stage_of}

low : (old targets : List ℕ) (b n len : ℕ) → old ≡ targets ++ b ∷ [] → n < len → len ≡ length old → n ≤ length targets
low old targets b n len is lt size = let long = ap length is ∙ length_push targets b in omega (arith, long, lt, size)

abbrev Before : List (List ℕ) → Search → Part → List ℕ → ℕ → Type 0
Before g s part targets b = IsSearch g s.stages.items s.path.items (targets ++ b ∷ []) (s.parts.items ++ part ∷ [])

before : (g : List (List ℕ)) (s : Search) (part : Part) (targets : List ℕ) (b : ℕ) → IsSearch g s.stages.items s.path.items s.targets.items (s.parts.items ++ part ∷ [])
    → s.targets.items ≡ targets ++ b ∷ [] → Before g s part targets b
before g s part targets b h is = subst (λ ts. IsSearch g s.stages.items s.path.items ts (s.parts.items ++ part ∷ [])) is h

pub returns-in_ok-enter-in-New-clause-search : goal.returns-in_ok-enter-in-New-clause-search
returns-in_ok-enter-in-New-clause-search c =
    let g = c.args.graph.now in
    let s = c.args.self.now in
    let b = c.in-Some.target in
    let targets = c.pop.new.self.items in
    let h = before g s c.args.part targets b c.requires c.in-Some.ensures.items in
    let new = not_past s.stages.items b c.stage_of.result stage.New c.stage_of.ensures c.in-New.is (λ e. cc e) in
    let row = there_is g b (subst (λ n. b < n) h.size (slice_get_within s.stages.items b stage.New new)) in
    let after = by.search_follows g s.stages.items s.path.items targets row.0 b s.parts.items c.args.part h
    (low s.targets.items targets b c.args.part.target c.len.result c.in-Some.ensures.items c.if-len-part.false (c.len.ensures ∙ s.targets.ok.0)) new row.1 in
    rw (c.in_ok-enter-in-New.ensures.stages, c.in_ok-enter-in-New.ensures.path, c.in_ok-enter-in-New.ensures.targets row.0 row.1, c.in_ok-enter-in-New.ensures.parts, c.in_ok-push-in-New.ensures.items) after

pub returns-in_ok-enter-in-New-clause-kept : goal.returns-in_ok-enter-in-New-clause-kept
returns-in_ok-enter-in-New-clause-kept c =
    let s = c.args.self.now in
    let new = not_past s.stages.items c.in-Some.target c.stage_of.result stage.New c.stage_of.ensures c.in-New.is (λ e. cc e) in
    λ a is. by.opened_kept s.stages.items c.in-Some.target (length s.path.items) a (ap (λ xs. slice_get xs a) (sym c.in_ok-enter-in-New.ensures.stages) ∙ is) (slice_get_within s.stages.items c.in-Some.target stage.New new)

pub returns-in_ok-enter-in-New-clause-less : goal.returns-in_ok-enter-in-New-clause-less
returns-in_ok-enter-in-New-clause-less c =
    let g = c.args.graph.now in
    let s = c.args.self.now in
    let b = c.in-Some.target in
    let new = not_past s.stages.items b c.stage_of.result stage.New c.stage_of.ensures c.in-New.is (λ e. cc e) in
    let row = there_is g b (subst (λ n. b < n) c.requires.size (slice_get_within s.stages.items b stage.New new)) in
    let fewer = left_set is_new s.stages.items g b stage.New (stage.Open (length s.path.items)) row.0 new refl refl row.1 in
    let is = c.in_ok-enter-in-New.ensures in
    let stages = ap (λ xs. left is_new xs g) is.stages in
    let targets = ap length (is.targets row.0 row.1) ∙ length-append c.pop.new.self.items row.0 in
    let parts = ap length is.parts ∙ length_push c.push.new.self.items _ in
    let part = ap length c.in_ok-push-in-New.ensures.items ∙ length_push s.parts.items c.args.part in
    let popped = ap length c.in-Some.ensures.items ∙ length_push c.pop.new.self.items b in
    omega (arith, fewer, stages, targets, parts, part, popped)

pub returns-in_ok-push-in-Open-clause-search : goal.returns-in_ok-push-in-Open-clause-search
returns-in_ok-push-in-Open-clause-search c =
    let g = c.args.graph.now in
    let s = c.args.self.now in
    let b = c.in-Some.target in
    let targets = c.pop.new.self.items in
    rw c.in_ok-push-in-Open.ensures.items (by.search_joins g s.stages.items s.path.items targets b c.in-Open.at s.parts.items c.args.part (before g s c.args.part targets b c.requires c.in-Some.ensures.items)
    (low s.targets.items targets b c.args.part.target c.len.result c.in-Some.ensures.items c.if-len-part.false (c.len.ensures ∙ s.targets.ok.0))
    (not_past s.stages.items b c.stage_of.result (stage.Open c.in-Open.at) c.stage_of.ensures c.in-Open.is (λ e. cc e)) c.if-at-part.true)

pub returns-in_ok-push-in_default-stage_of-clause-search : goal.returns-in_ok-push-in_default-stage_of-clause-search
returns-in_ok-push-in_default-stage_of-clause-search c =
    let g = c.args.graph.now in
    let s = c.args.self.now in
    let b = c.in-Some.target in
    let targets = c.pop.new.self.items in
    let h = before g s c.args.part targets b c.requires c.in-Some.ensures.items in
    let all = s.parts.items ++ c.args.part ∷ [] in
    let top : (k : ℕ) (p : Part) → slice_get all k ≡ Some p → (p.node ≤ c.args.part.node) × (p.target ≤ c.args.part.target) = by.under_last g s.stages.items s.path.items (targets ++ b ∷ []) s.parts.items c.args.part h in
    let short = low s.targets.items targets b c.args.part.target c.len.result c.in-Some.ensures.items c.if-len-part.false (c.len.ensures ∙ s.targets.ok.0) in
    let passed : b < length g → IsDone s.stages.items b ⊎ ((j : ℕ) × (slice_get s.stages.items b ≡ Some (stage.Open j)) × ((k : ℕ) (p : Part) → slice_get all k ≡ Some p → p.node ≤ j)) =
    elim c.in_default-stage_of.branch [
      | in_default-stage_of-via-in-Open+else-at-part w ↦ λ lt. inr (
        w.in-Open.at,
        not_past s.stages.items b c.stage_of.result (stage.Open w.in-Open.at) c.stage_of.ensures w.in-Open.is (λ e. cc e),
        λ k p at. let most = (top k p at).0 in omega (arith, most, w.if-at-part.false),
      )
      | in_default-stage_of-via-in_default-stage_of w ↦ λ lt. elim c.stage_of.ensures [
        | inl is ↦ inl (w.in_default-stage_of.field-0, is ∙ ap Some w.in_default-stage_of.is)
        | inr past ↦ let none = past.0 in let size = h.size in absurd (omega (arith, none, size, lt))
      ]
    ] in
    rw c.in_ok-push-in_default-stage_of.ensures.items
    (by.search_skips g s.stages.items s.path.items targets b all h (λ k p at. let most = (top k p at).1 in omega (arith, most, short)) passed)
