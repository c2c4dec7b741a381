use Rattle.std.proofs.Common.{arith}
use Rattle.java_tree.specs.View.{plain}
use Rattle.java_parse_term.specs.Parse.{parse, unary}
use Rattle.java_parse_term.specs.Seen.{seen}
use Rattle.java_parse_term.proofs.Past.{unary_past, refused}
use Rattle.java_parse_term.proofs.terms.Grammar.unary.Goals as goal

pub returns-then-at-self : goal.returns-then-at-self
returns-then-at-self g c =
    let s = c.args.self.now in
    refused (seen plain) (unary s.text.now s.toks.now s.limit (parse s.text.now s.toks.now s.limit) c.args.at) c.refuse.result
    (unary_past s.text.now s.toks.now s.limit (parse s.text.now s.toks.now s.limit) c.args.at (omega arith)) c.refuse.ensures
