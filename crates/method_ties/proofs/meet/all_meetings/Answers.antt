use Rattle.std.proofs.Common.{ℕ, List}
use Rattle.method_ties.specs.declared.Meeting.{Meeting}
use Rattle.method_ties.specs.Sides.{IsOnce}
use Rattle.method_ties.specs.Ties.{AreMeetings}
use Rattle.method_ties.proofs.Firsts.{all_push}
use Rattle.method_ties.proofs.meet.all_meetings.Goals as goal

pub loop-c-preserved : goal.loop-c-preserved
loop-c-preserved c =
    all_push (λ (d : ℕ) (ps : List Meeting). AreMeetings c.args.w.now d ps × IsOnce ps) c.loop-c.all.items c.push.new.self.items c.loop-c.c c.in_ok-meetings_of.field-0 c.loop-c.invariant
    c.in_ok-meetings_of.ensures c.in_ok-push.ensures.items
