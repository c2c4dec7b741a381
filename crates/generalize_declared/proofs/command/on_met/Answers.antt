use Rattle.std.proofs.Common.{sym, subst, arith}
use Rattle.std.specs.Prelude.{IfSome}
use Rattle.running_code.specs.Running.{IsMadeOf}
use Rattle.kept_behaviour.specs.Kept.{Keeps}
use Rattle.generalize_declared.specs.Plans.{HasEdits}
use Rattle.generalize_declared.proofs.command.on_met.Goals as goal

pub returns-then-keeps : goal.returns-then-keeps
returns-then-keeps c =
    λ fs are met.
    let s = c.args.source.now in
    let world = (are 0 (omega (arith, c.requires.file))).world in
    record {
      place = c.args.place.now;
      target = c.args.target;
      changes = c.args.changes.now;
      met = met;
      edits = subst (λ o. IfSome o (HasEdits fs s c.args.wish c.args.word.now c.args.place.now c.args.target c.args.changes.now)) c.in-Some.is (c.in_ok-made.ensures fs are);
      old = c.in_ok-old.old;
      members = c.args.q.now.members.now;
      made = subst (λ w. IsMadeOf c.in_ok-old.old w s.names.now s.core.now c.args.q.now.members.now) (sym world) c.in_ok-old.ensures.same;
      keeps = subst (λ texts. Keeps c.in_ok-old.old texts s.users) c.as_slice.ensures (c.in_ok-keeps.ensures c.if-keeps.true);
    }
