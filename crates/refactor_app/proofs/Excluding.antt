-- The answers of the call exclude each other.
use Rattle.std.proofs.Common.{◌≡◌, ℕ, ◌<◌, ◌≤◌, ◌⊎◌, inl, inr, List, Option, Some, length, refl, sym, ap, subst, arith}
use Rattle.tool_files.specs.Told.{Look}
use Rattle.changed_files.specs.declared.files.NewFiles.{NewFiles}
use Rattle.extract_interface.specs.declared.command.Extracted.{Extracted}
use Rattle.refactor_app.specs.Words.{ExtractRequest, Files, Request, inputs, AsksSteps, Uses, AskOther}
use Rattle.refactor_app.specs.Writes.{Writing}
use Rattle.refactor_app.specs.Refusals.{most_files, most_steps, AsksFew}
use Rattle.core_meaning.specs.declared.values.End.{End}
use Rattle.core_meaning.specs.declared.values.End.TheVariants as end
use Rattle.refactor_app.specs.Answers.{IsAsked, IsBound, IsChange, IsDone, IsChangeDone, IsExtractDone, IsExtraction, IsRefused, IsRunEnded, IsThrew, IsUsage, IsMissing, IsReadFault, IsWriteFault}
use Rattle.refactor_app.specs.Answers as answers
use Rattle.refactor_app.specs.Outcomes.{Outcome, Misused, Absent, Refused, Changed, Listed, Drawn, Judged, Ended, ComesTo, AreTreeless, IsOfTypes, Excludes}
use Rattle.refactor_app.proofs.Asking.{one_files}
use Rattle.refactor_app.proofs.OneSense.{change_or_run, lowest_or_asks, other_or_asks, run_or_extraction}
use Rattle.refactor_app.proofs.OneOutcome.{one_outcome}

-- what sort of outcome it is
abbrev sort : Outcome → ℕ
sort (Misused rule) = 0
sort (Absent name) = 1
sort (Refused line) = 2
sort (Changed q made) = 3
sort (Judged report) = 4
sort (Ended report how) = 5
sort (Listed q types) = 6
sort (Drawn q made) = 7

both_refused : (words : List (List ℕ)) (old : Option Look) (a b : Outcome) → AreTreeless words old a b → sort a ≡ sort b
both_refused words old (Refused x) (Refused y) t = refl
both_refused words old a b t = absurd t

-- an outcome of another sort is nothing that a check says of types
abbrev IsBefore : Outcome → Type 0
IsBefore (Refused line) = ⊥
IsBefore (Changed q made) = ⊥
IsBefore (Listed q types) = ⊥
IsBefore (Drawn q made) = ⊥
IsBefore (Judged report) = ⊥
IsBefore (Ended report how) = ⊥
IsBefore _ = Unit {0}

no_types : (words : List (List ℕ)) (old : Option Look) (a : Outcome) → IsBefore a → IsOfTypes words old a → ⊥
no_types words old (Misused rule) is h = h
no_types words old (Absent name) is h = h
no_types words old (Refused line) is h = is
no_types words old (Changed q made) is h = is
no_types words old (Listed q types) is h = is
no_types words old (Drawn q made) is h = is
no_types words old (Judged report) is h = is
no_types words old (Ended report how) is h = is

module _ (words : List (List ℕ)) (look : Look) where
  -- one of them is before the rules on types
  differ : (a b : Outcome) → ComesTo words (Some look) a → ComesTo words (Some look) b → IsBefore a ⊎ IsBefore b → (sort a ≡ sort b → ⊥) → ⊥
  differ a b x y before other = elim (one_outcome words look a b x y) [
    | inl e ↦ other (ap sort e)
    | inr (inl t) ↦ other (both_refused words (Some look) a b t)
    | inr (inr h) ↦ elim before [
      | inl is ↦ no_types words (Some look) a is h.0
      | inr is ↦ no_types words (Some look) b is h.1
    ]
  ]

  -- so is one before what is to be written
  before_writing : (a : Outcome) → ComesTo words (Some look) a → IsBefore a → sort a < 3 → (x : Writing) → IsAsked words (Some look) x → ⊥
  before_writing a is before low x (answers.IsAsked.change q made h) = differ a (Changed q made) is h (inl before) (λ e. omega (arith, low, e))
  before_writing a is before low x (answers.IsAsked.extraction q made h) = differ a (Drawn q made) is h (inl before) (λ e. omega (arith, low, e))

  module _ (new now : Option Look) (before after front back : Option (List ℕ)) where
    absent : (u : IsMissing words (Some look) new before after) → ComesTo words (Some look) (Absent u.name)
    absent u = record { fs = u.fs; file = u.file; asks = u.asks; named = u.named; absent = u.absent }

    usage_done : IsUsage words (Some look) new before after → IsDone words (Some look) now front back → ⊥
    usage_done u (inl v) = differ (Misused u.rule) (Changed v.q v.made) u.lowest v.change (inl tt) (λ e. omega (arith, e))
    usage_done u (inr (inl v)) = differ (Misused u.rule) (Judged v.line) u.lowest v.passes (inl tt) (λ e. omega (arith, e))
    usage_done u (inr (inr (inl v))) = differ (Misused u.rule) (Ended v.line _) u.lowest v.runs (inl tt) (λ e. omega (arith, e))
    usage_done u (inr (inr (inr (inl v)))) = differ (Misused u.rule) (Listed v.q v.types) u.lowest v.are (inl tt) (λ e. omega (arith, e))
    usage_done u (inr (inr (inr (inr v)))) = differ (Misused u.rule) (Drawn v.q v.made) u.lowest v.extraction (inl tt) (λ e. omega (arith, e))

    usage_refused : IsUsage words (Some look) new before after → IsRefused words (Some look) now front back → ⊥
    usage_refused u v = differ (Misused u.rule) (Refused v.line) u.lowest v.refusal (inl tt) (λ e. omega (arith, e))

    usage_read_fault : IsUsage words (Some look) new before after → IsReadFault words (Some look) now front back → ⊥
    usage_read_fault u v = lowest_or_asks words u.rule v.fs u.lowest v.asks.uses

    usage_write_fault : IsUsage words (Some look) new before after → IsWriteFault words (Some look) now front back → ⊥
    usage_write_fault u v = before_writing (Misused u.rule) u.lowest tt (omega arith) v.writing v.asked

    missing_done : IsMissing words (Some look) new before after → IsDone words (Some look) now front back → ⊥
    missing_done u (inl v) = differ (Absent u.name) (Changed v.q v.made) (absent u) v.change (inl tt) (λ e. omega (arith, e))
    missing_done u (inr (inl v)) = differ (Absent u.name) (Judged v.line) (absent u) v.passes (inl tt) (λ e. omega (arith, e))
    missing_done u (inr (inr (inl v))) = differ (Absent u.name) (Ended v.line _) (absent u) v.runs (inl tt) (λ e. omega (arith, e))
    missing_done u (inr (inr (inr (inl v)))) = differ (Absent u.name) (Listed v.q v.types) (absent u) v.are (inl tt) (λ e. omega (arith, e))
    missing_done u (inr (inr (inr (inr v)))) = differ (Absent u.name) (Drawn v.q v.made) (absent u) v.extraction (inl tt) (λ e. omega (arith, e))

    missing_usage : IsMissing words (Some look) new before after → IsUsage words (Some look) now front back → ⊥
    missing_usage u v = differ (Absent u.name) (Misused v.rule) (absent u) v.lowest (inl tt) (λ e. omega (arith, e))

    missing_refused : IsMissing words (Some look) new before after → IsRefused words (Some look) now front back → ⊥
    missing_refused u v = differ (Absent u.name) (Refused v.line) (absent u) v.refusal (inl tt) (λ e. omega (arith, e))

    missing_write_fault : IsMissing words (Some look) new before after → IsWriteFault words (Some look) now front back → ⊥
    missing_write_fault u v = before_writing (Absent u.name) (absent u) tt (omega arith) v.writing v.asked

    module _ (how : End) (u : IsRunEnded words (Some look) new before after how) where
      ended_usage : IsUsage words (Some look) now front back → ⊥
      ended_usage v = differ (Ended u.line how) (Misused v.rule) u.runs v.lowest (inr tt) (λ e. omega (arith, e))

      ended_missing : (v : IsMissing words (Some look) now front back) → ComesTo words (Some look) (Absent v.name) → ⊥
      ended_missing v is = differ (Ended u.line how) (Absent v.name) u.runs is (inr tt) (λ e. omega (arith, e))

      -- words that ask for a run ask for no change
      no_change : (q : Request) (made : NewFiles) → IsChange words (Some look) q made → ⊥
      no_change q made c = change_or_run words q u.runs.steps u.runs.fs c.asks (record { class = u.runs.class; args = u.runs.args; asks = u.runs.asks })

      -- nor for an extraction
      no_extraction : (q : ExtractRequest) (made : Extracted) → IsExtraction words (Some look) q made → ⊥
      no_extraction q made h = run_or_extraction words u.runs.steps u.runs.fs q (record { class = u.runs.class; args = u.runs.args; asks = u.runs.asks }) h.asks

      no_writing : (x : Writing) → IsAsked words (Some look) x → ⊥
      no_writing x (answers.IsAsked.change q made h) = no_change q made h
      no_writing x (answers.IsAsked.extraction q made h) = no_extraction q made h

      ended_extraction : IsExtractDone words (Some look) now front back → ⊥
      ended_extraction v = no_extraction v.q v.made v.extraction

      ended_change : IsChangeDone words (Some look) now front back → ⊥
      ended_change v = no_change v.q v.made v.change

      ended_write_fault : IsWriteFault words (Some look) now front back → ⊥
      ended_write_fault v = no_writing v.writing v.asked

-- ---- a read fault

pub fault_words : (words : List (List ℕ)) (fs gs : Files) → AsksFew words fs
    → (AskOther words → ⊥) × (Uses words gs → length (inputs gs) ≤ most_files) × ((n : ℕ) → AsksSteps words gs n → n ≤ most_steps)
fault_words words fs gs few = (
  λ other. other_or_asks words fs other few.uses,
  λ h. subst (λ (fs : Files). length (inputs fs) ≤ most_files) (one_files words fs gs few.uses h) few.few,
  λ n h. few.short n (subst (λ (fs : Files). AsksSteps words fs n) (sym (one_files words fs gs few.uses (inr (inr (inl (n, h)))))) h),
)

-- ---- in the words of the law

pub usage : Excludes IsUsage IsDone × Excludes IsUsage IsRefused × Excludes IsUsage IsMissing × Excludes IsUsage IsReadFault × Excludes IsUsage IsWriteFault
usage = (usage_done, usage_refused, (λ words look new now before after front back u v. missing_usage words look now new front back before after v u), usage_read_fault, usage_write_fault)

pub missing : Excludes IsMissing IsDone × Excludes IsMissing IsRefused × Excludes IsMissing IsWriteFault
missing = (missing_done, missing_refused, missing_write_fault)

-- a run that ended so
module _ (how : End) where
  abbrev EndedSo : List (List ℕ) → Option Look → Option Look → Option (List ℕ) → Option (List ℕ) → Type 0
  EndedSo words old new before after = IsRunEnded words old new before after how

  ended : Excludes EndedSo IsUsage × Excludes EndedSo IsMissing × Excludes EndedSo IsChangeDone × Excludes EndedSo IsExtractDone × Excludes EndedSo IsWriteFault
  ended = (
    λ words look new now before after front back u v. ended_usage words look new now before after front back how u v,
    λ words look new now before after front back u v. ended_missing words look new now before after front back how u v (absent words look now new front back before after v),
    λ words look new now before after front back u v. ended_change words look new now before after front back how u v,
    λ words look new now before after front back u v. ended_extraction words look new now before after front back how u v,
    λ words look new now before after front back u v. ended_write_fault words look new now before after front back how u v,
  )

pub threw : Excludes IsThrew IsUsage × Excludes IsThrew IsMissing × Excludes IsThrew IsChangeDone × Excludes IsThrew IsExtractDone × Excludes IsThrew IsWriteFault
threw = (
  λ words look new now before after front back u v. (ended (end.Threw u.class)).0 words look new now before after front back u.ended v,
  λ words look new now before after front back u v. (ended (end.Threw u.class)).1 words look new now before after front back u.ended v,
  λ words look new now before after front back u v. (ended (end.Threw u.class)).2 words look new now before after front back u.ended v,
  λ words look new now before after front back u v. (ended (end.Threw u.class)).3 words look new now before after front back u.ended v,
  λ words look new now before after front back u v. (ended (end.Threw u.class)).4 words look new now before after front back u.ended v,
)

pub bound : Excludes IsBound IsUsage × Excludes IsBound IsMissing × Excludes IsBound IsChangeDone × Excludes IsBound IsExtractDone × Excludes IsBound IsWriteFault
bound = ended end.AtBound
