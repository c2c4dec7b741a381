-- The types directly above a type, together.
use Rattle.std.specs.Prelude.{ℕ, List, ◌++◌}
use Rattle.member_methods.specs.declared.above.TypesAbove.{TypesAbove}

abbrev pub all_above : TypesAbove → List ℕ
all_above above = above.interfaces.items ++ above.others.items
