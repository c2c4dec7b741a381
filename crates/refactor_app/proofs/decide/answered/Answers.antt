use Rattle.std.proofs.Common.{sym, ap, subst}
use Rattle.refactor_app.specs.Asked.{aim_of, request_of}
use Rattle.refactor_app.specs.Changes.{Says, said_of}
use Rattle.refactor_app.proofs.Decisions.{as_said, says_so}
use Rattle.refactor_app.proofs.decide.answered.Goals as goal

pub returns-in_ok-answer-in-Become : goal.returns-in_ok-answer-in-Become
returns-in_ok-answer-in-Become c =
    let s = c.args.source.now in
    let a = c.in_ok-answer-in-Become.answer in
    says_so c.verdict_of.result (request_of c.args.q.now) s c.args.wish _ (said_of a)
    (λ fs are. subst (λ aim. Says fs s c.args.wish aim (said_of a)) (sym (ap aim_of c.in-Become.is))
    (as_said fs s c.args.wish c.in-Become.out.now c.in-Become.ty.now a (c.in_ok-answer-in-Become.ensures fs are)))
    c.verdict_of.ensures
