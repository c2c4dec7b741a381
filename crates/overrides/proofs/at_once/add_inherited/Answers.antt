use Rattle.std.proofs.Common.{ℕ, arith}
use Rattle.class_world.specs.Signatures.{AgreeBelow}
use Rattle.class_world.specs.Overriding.{AreInstanceMethods, MeetIn}
use Rattle.overrides.specs.AtOnce.{IsTied}
use Rattle.overrides.proofs.Places.{numbers_more}
use Rattle.overrides.proofs.Edges.{meet_within}
use Rattle.overrides.proofs.at_once.add_inherited.Goals as goal

pub add_meetings-requires-clause-met : goal.add_meetings-requires-clause-met
add_meetings-requires-clause-met c p has = (c.loop-c.c, (c.meetings.ensures c.args.w.now c.requires.ties p.lower p.upper).0 has)

pub loop-c-preserved : goal.loop-c-preserved
loop-c-preserved c =
    let w = c.args.w.now in
    let h = c.loop-c.invariant in
    let added = c.in_ok-add_meetings.ensures in
    record {
      ties = added.table;
      kept = λ a b tied. added.kept a b (h.kept a b tied);
      all = numbers_more (λ own. (m k : ℕ) → MeetIn w own m k → AreInstanceMethods w m k → AgreeBelow w m k → IsTied c.add_meetings.new.table m k) c.loop-c.c
          (λ own lt m k meet are agree. added.kept m k (h.all own lt m k meet are agree))
          (λ m k meet. added.all (record { lower = m; upper = k }) ((c.meetings.ensures w c.requires.ties m k).1 meet));
    }

pub returns-clause-all : goal.returns-clause-all
returns-clause-all c own m k meet =
    let lt = meet_within c.args.w.now own m k meet in
    c.loop-c.invariant.all own (omega (arith, lt, c.requires.types, c.loop-c-test.false)) m k meet
