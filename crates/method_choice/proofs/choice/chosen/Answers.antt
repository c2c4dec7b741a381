use Rattle.std.proofs.Common.{◌∙◌, sym, map}
use Rattle.java_core.specs.View.{plain}
use Rattle.type_kinds.specs.Kinds.{ty_of}
use Rattle.method_choice.specs.Choice.{is_best}
use Rattle.method_choice.proofs.Steps.{first_best, another_best, not_best}
use Rattle.method_choice.proofs.choice.chosen.Goals as goal
use Rattle.method_choice.proofs.choice.chosen.Goals.{then-is_best+else-is_some, else-is_best}

pub returns-then-is_some-clause-is : goal.returns-then-is_some-clause-is
returns-then-is_some-clause-is c = λ f h.
    another_best (is_best f (map ty_of (map plain c.args.args.now)) c.args.candidates.now) c.args.candidates.now c.loop-at.at c.index-candidates-at.result c.loop-at.found _
    c.loop-at-test.true c.index-candidates-at.is (sym (c.is_best.ensures f h) ∙ c.if-is_best.true) (sym c.is_some.ensures ∙ c.if-is_some.true) c.loop-at.invariant.within (c.loop-at.invariant.rest f h)

pub loop-at-preserved : goal.loop-at-preserved
loop-at-preserved c =
    elim c.if-is_best.branch [
      | then-is_best+else-is_some w ↦ record {
        rest = λ f h. first_best (is_best f (map ty_of (map plain c.args.args.now)) c.args.candidates.now) c.args.candidates.now c.loop-at.at c.index-candidates-at.result c.loop-at.found _ _
            c.loop-at-test.true c.index-candidates-at.is (sym (c.is_best.ensures f h) ∙ w.if-is_best.true) (sym w.is_some.ensures ∙ w.if-is_some.false) w.found-is (c.loop-at.invariant.rest f h);
        within = rw w.found-is c.loop-at-test.true;
      }
      | else-is_best w ↦ record {
        rest = λ f h. not_best (is_best f (map ty_of (map plain c.args.args.now)) c.args.candidates.now) c.args.candidates.now c.loop-at.at c.index-candidates-at.result c.loop-at.found _ _
            c.loop-at-test.true c.index-candidates-at.is (sym (c.is_best.ensures f h) ∙ w.if-is_best.false) w.found-is (c.loop-at.invariant.rest f h);
        within = rw w.found-is c.loop-at.invariant.within;
      }
    ]
