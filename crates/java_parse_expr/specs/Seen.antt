-- What specs see of what a function that parses answers.
use Rattle.java_parse_expr.specs.declared.got.Got.{Got}
use Rattle.java_parse_expr.specs.Parse.{Part}

abbrev pub seen : {X A : Type 0} → (X → A) → Got X → Part A
seen view g = record { tree = view g.tree; next = g.next }
