use Rattle.std.proofs.Common.{◌≡◌, false}
use Rattle.std.specs.Prelude.{is_some}
use Rattle.java_core.specs.View.{plain}
use Rattle.core_meaning.specs.Code as code
use Rattle.running_code.proofs.Joins.{none_of}
use Rattle.running_code.proofs.literals.joined_literal.Goals as goal

pub returns-else-has_joined : goal.returns-else-has_joined
returns-else-has_joined c =
    let joined = code.joined_literal c.args.op c.args.kind (plain c.args.left.now) (plain c.args.right.now) in
    let none : false ≡ is_some joined = cc (c.has_joined.ensures, c.if-has_joined.false) in
    none_of joined none
