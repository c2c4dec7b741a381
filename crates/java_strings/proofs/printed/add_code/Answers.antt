use Rattle.std.proofs.Common.{◌++◌, ◌∙◌, ap, sym}
use Rattle.java_strings.proofs.Bytes.{one_byte, two_bytes, three_bytes, four_bytes, two_pushed, three_pushed, four_pushed}
use Rattle.java_strings.proofs.printed.add_code.Goals as goal

pub returns-in_ok-push : goal.returns-in_ok-push
returns-in_ok-push c = c.in_ok-push.ensures.ok ∙ ap (λ bytes. c.args.to.now ++ bytes) (sym (one_byte c.args.code c.if-code-lt128.true))

pub returns-in_ok-push-3 : goal.returns-in_ok-push-3
returns-in_ok-push-3 c =
    two_pushed _ _ _ _ _ c.in_ok-push-2.ensures.ok c.in_ok-push-3.ensures.ok
    ∙ ap (λ bytes. c.args.to.now ++ bytes) (sym (two_bytes c.args.code c.if-code-lt128.false c.if-code-lt2048.true))

pub returns-in_ok-push-6 : goal.returns-in_ok-push-6
returns-in_ok-push-6 c =
    three_pushed _ _ _ _ _ _ _ c.in_ok-push-4.ensures.ok c.in_ok-push-5.ensures.ok c.in_ok-push-6.ensures.ok
    ∙ ap (λ bytes. c.args.to.now ++ bytes) (sym (three_bytes c.args.code c.if-code-lt2048.false c.if-code-lt65536.true))

pub returns-in_ok-push-10 : goal.returns-in_ok-push-10
returns-in_ok-push-10 c =
    four_pushed _ _ _ _ _ _ _ _ _ c.in_ok-push-7.ensures.ok c.in_ok-push-8.ensures.ok c.in_ok-push-9.ensures.ok c.in_ok-push-10.ensures.ok
    ∙ ap (λ bytes. c.args.to.now ++ bytes) (sym (four_bytes c.args.code c.if-code-lt65536.false))
