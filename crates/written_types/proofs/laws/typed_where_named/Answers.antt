use Rattle.written_types.proofs.Typing.{typed_where_named}
use Rattle.written_types.proofs.laws.typed_where_named.Goals as goal

pub returns : goal.returns
returns c = typed_where_named
