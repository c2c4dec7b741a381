-- A measure of cores, as far as types are read from them.
use Rattle.std.specs.Prelude.{ℕ, ◌+◌}
use Rattle.java_core.specs.Plain as p

abbrev mutual
  pub height : p.Expr → ℕ
  height (p.At n t x) = form_height x + 1

  pub form_height : p.Form → ℕ
  form_height (p.Implied x) = height x
  form_height (p.Paren x) = height x
  form_height (p.Field x simple k) = height x
  form_height (p.Index x y) = height x
  form_height (p.Call x simple k xs) = height x
  form_height (p.Cond x y z) = height y + height z
  form_height (p.Assign x y) = height x
  form_height (p.Compound op kind x y) = height x
  form_height _ = 0
