use Rattle.command_words.specs.Asked.{parts_in}
use Rattle.command_words.specs.Scan.{IsWritten, Spares}
use Rattle.command_words.proofs.RuleLemmas.{no_out, not_kept, no_new_name, keeps, fails, holds}
use Rattle.command_words.proofs.rules.keeps_inputs.Goals as goal

pub returns-in_default : goal.returns-in_default
returns-in_default c = no_out c.args.command (parts_in c.args.words.now) c.in_default.ensures.only

pub returns-then-not-written : goal.returns-then-not-written
returns-then-not-written c =
    not_kept c.args.command (parts_in c.args.words.now) c.in-Some.out.now c.in-Some.ensures.some
    (fails c.in_ok-written.written (Spares (IsWritten c.in-Some.out.now (parts_in c.args.words.now).users) (parts_in c.args.words.now)) c.if-not-written.true c.in_ok-written.ensures)

pub returns-in_default-new_name : goal.returns-in_default-new_name
returns-in_default-new_name c =
    no_new_name c.args.command (parts_in c.args.words.now) c.in-Some.out.now c.in-Some.ensures.only
    (holds c.in_ok-written.written (Spares (IsWritten c.in-Some.out.now (parts_in c.args.words.now).users) (parts_in c.args.words.now)) c.if-not-written.false c.in_ok-written.ensures)
    c.in_default-new_name.ensures.only

pub returns : goal.returns
returns c =
    keeps c.args.command (parts_in c.args.words.now) c.in-Some.out.now c.in-Some-new_name.new_name.now c.in_ok-spared.spared c.in-Some.ensures.some c.in-Some.ensures.only
    (holds c.in_ok-written.written (Spares (IsWritten c.in-Some.out.now (parts_in c.args.words.now).users) (parts_in c.args.words.now)) c.if-not-written.false c.in_ok-written.ensures)
    c.in-Some-new_name.ensures.some c.in-Some-new_name.ensures.only c.in_ok-spared.ensures
