use Rattle.std.proofs.Common.{◌∙◌, ap, subst, Err}
use Rattle.java_lexer.specs.Lexing.{IsLexed}
use Rattle.changed_files.specs.FileEdits.{semicolon_end}
use Rattle.changed_files.proofs.import.package_end.Goals as goal

pub returns-in-Ok : goal.returns-in-Ok
returns-in-Ok c = λ ts lexes. c.semicolon_end.ensures ∙ ap (semicolon_end c.args.text.now) (c.as_slice.ensures ∙ c.in-Ok.ensures.only_tokens ts lexes)

pub returns-in-Err-Bad : goal.returns-in-Err-Bad
returns-in-Err-Bad c = λ ts lexes. absurd (subst (λ f. IsLexed (Err f) ts) c.in-Err-Bad.field-0-is (c.in-Err-Bad.ensures.only_tokens ts lexes))
