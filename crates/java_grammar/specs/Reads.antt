-- Tokens by their places: past the end there is `End`.
use Rattle.std.specs.Prelude.{ℕ, ◌-◌, List, Option, Some, None, slice_get}
use Rattle.java_tree.specs.declared.tree.Span.{Span}
use Rattle.java_grammar.specs.declared.token.Tok.{Tok}
use Rattle.java_grammar.specs.declared.token.Sort.{Sort}
use Rattle.java_grammar.specs.declared.token.Sort.TheVariants as s

abbrev pub sort_in : Option Tok → Sort
sort_in None = s.End
sort_in (Some t) = t.sort

abbrev pub name_in : Option Tok → ℕ
name_in None = 0
name_in (Some t) = t.name

abbrev pub from_in : Option Tok → ℕ
from_in None = 0
from_in (Some t) = t.span.from

abbrev pub to_in : Option Tok → ℕ
to_in None = 0
to_in (Some t) = t.span.to

unfoldable pub sort_at : List Tok → ℕ → Sort
sort_at ts i = sort_in (slice_get ts i)

unfoldable pub name_at : List Tok → ℕ → ℕ
name_at ts i = name_in (slice_get ts i)

unfoldable pub from_at : List Tok → ℕ → ℕ
from_at ts i = from_in (slice_get ts i)

unfoldable pub to_at : List Tok → ℕ → ℕ
to_at ts i = to_in (slice_get ts i)

-- from the first byte of the token at a place to the end of the one before another place
unfoldable pub span_of : List Tok → ℕ → ℕ → Span
span_of ts i next = record { from = from_at ts i; to = to_at ts (next - 1) }
