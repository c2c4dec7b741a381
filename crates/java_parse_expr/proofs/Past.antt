-- What there is past the end.
use Rattle.std.proofs.Common.{◌≡◌, ℕ, ◌+◌, ◌≤◌, List, length, ap, arith}
use Rattle.std.proofs.lemmas.Option.{slice_get_past}
use Rattle.java_grammar.specs.declared.token.Tok.{Tok}
use Rattle.java_grammar.specs.declared.token.Sort.TheVariants as s
use Rattle.java_grammar.specs.Reads.{sort_at, sort_in}

pub nothing_past : (ts : List Tok) (i : ℕ) → length ts ≤ i → sort_at ts i ≡ s.End
unfolding sort_at
nothing_past ts i h = ap sort_in (slice_get_past ts i h)

pub nothing_past_next : (ts : List Tok) (i : ℕ) → length ts ≤ i → sort_at ts (i + 1) ≡ s.End
nothing_past_next ts i h = nothing_past ts (i + 1) (omega arith)
