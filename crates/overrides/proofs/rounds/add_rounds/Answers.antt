use Rattle.std.proofs.Common.{◌≡◌, sym, ap, ◌∙◌, subst, length, rules}
use Rattle.overrides.specs.Rounds.{AreTaken}
use Rattle.overrides.proofs.Gains.{same_size}
use Rattle.overrides.proofs.Gaps.{fewer_left}
use Rattle.overrides.proofs.Taken.{none_length, none_taken, taken_begins}
use Rattle.overrides.proofs.rounds.add_rounds.Goals as goal

pub returns-then-not-branch-clause-followed : goal.returns-then-not-branch-clause-followed
returns-then-not-branch-clause-followed c = c.in_ok-add_round.ensures.closed c.if-not-branch.true

pub rounds-smaller : goal.rounds-smaller
rounds-smaller c =
    let round = c.in_ok-add_round.ensures in
    fewer_left c.rounds.table c.add_round.new.table (same_size c.rounds.invariant.derived.size round.table.size) round.step.grows (round.step.gains c.if-not-branch.false)

pub rounds-init : goal.rounds-init
rounds-init c =
    let links = c.args.links.now in
    let is : c.in_ok-taken.taken.items ≡ none_taken (length links) = c.in_ok-taken.ensures.items_if_clones_equal (λ y e. search rules) in
    record {
      derived = c.requires.table;
      size = ap length is ∙ none_length (length links);
      taken = subst (AreTaken c.args.w.now c.args.table.now links) (sym is) (taken_begins c.args.w.now c.args.table.now links (length links));
    }
