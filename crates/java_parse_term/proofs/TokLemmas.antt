-- What there is past the end.
use Rattle.std.proofs.Common.{◌≡◌, ℕ, ◌≤◌, List, length, ap}
use Rattle.std.proofs.lemmas.Option.{slice_get_past}
use Rattle.java_grammar.specs.declared.token.Tok.{Tok}
use Rattle.java_grammar.specs.declared.token.Sort.TheVariants.{End}
use Rattle.java_grammar.specs.Reads.{sort_at, sort_in}

pub nothing_past : (ts : List Tok) (i : ℕ) → length ts ≤ i → sort_at ts i ≡ End
unfolding sort_at
nothing_past ts i h = ap sort_in (slice_get_past ts i h)
