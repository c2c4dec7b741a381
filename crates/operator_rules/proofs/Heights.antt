-- How deep a variable stands in brackets and casts, a measure.
use Rattle.std.proofs.Common.{ℕ, ◌+◌}
use Rattle.java_core.specs.Plain as p

abbrev mutual
  pub height : p.Expr → ℕ
  height (p.At n t x) = form_height x + 1

  pub form_height : p.Form → ℕ
  form_height (p.Paren x) = height x
  form_height (p.Implied x) = height x
  form_height _ = 0
