use Rattle.std.proofs.Common.{◌<◌, length, arith, refl, below_more}
use Rattle.std.proofs.lemmas.Bool.{true≢false, both_ways}
use Rattle.std.proofs.lemmas.Bool.Decides.{Decides-eqb}
use Rattle.std.proofs.lemmas.Slice.Eq.{slice_eq-Decides}
use Rattle.tool_files.proofs.Laid.{IsPlaceOf-some, look_up-nowhere, named_at, unnamed_at}
use Rattle.tool_files.proofs.mem.place_of.Goals as goal

pub returns-clause-none : goal.returns-clause-none
returns-clause-none c = (λ _. look_up-nowhere _ _ _ (λ k d l. c.loop-i.invariant k (omega arith) d), λ _. refl)

pub returns-then-eq-clause-none : goal.returns-then-eq-clause-none
returns-then-eq-clause-none c =
    let within : c.loop-i.i < length c.args.entries.now = omega arith in
    let same = (slice_eq-Decides Decides-eqb _ _ _ c.eq.ensures).0 c.if-eq.true in (
      λ e. absurd (true≢false e),
      λ none. absurd (IsPlaceOf-some _ _ _ c.loop-i.i (within, named_at _ _ _ _ _ _ within c.of.ensures same, c.loop-i.invariant) none),
    )

pub returns-then-eq-clause-some : goal.returns-then-eq-clause-some
returns-then-eq-clause-some c =
    let within : c.loop-i.i < length c.args.entries.now = omega arith in
    let same = (slice_eq-Decides Decides-eqb _ _ _ c.eq.ensures).0 c.if-eq.true in
    (within, named_at _ _ _ _ _ _ within c.of.ensures same, c.loop-i.invariant)

pub loop-i-preserved : goal.loop-i-preserved
loop-i-preserved c =
    let within : c.loop-i.i < length c.args.entries.now = omega arith in
    below_more _ _ c.loop-i.invariant (unnamed_at _ _ _ _ _ _ within c.of.ensures
    (λ same. both_ways _ c.if-eq.false ((slice_eq-Decides Decides-eqb _ _ _ c.eq.ensures).1 same)))
