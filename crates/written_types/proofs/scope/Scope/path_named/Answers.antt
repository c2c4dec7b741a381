use Rattle.std.proofs.Common.{◌∙◌, sym, arith}
use Rattle.written_types.proofs.Places.{path_one}
use Rattle.written_types.proofs.scope.Scope.path_named.Goals as goal

pub returns-in-len1 : goal.returns-in-len1
returns-in-len1 c = λ p at. c.named.ensures p at ∙ sym (path_one p c.args.path.now _ (omega (arith, c.in-len1.len_at_least, c.in-len1.len_below)))
