-- Forms of expressions and statements, read by their parts.
use Rattle.std.proofs.Common.{◌≡◌, ℕ, inl, inr, List, ◌∷◌, Option, Some, None, map, refl, sym, ap, ◌∙◌}
use Rattle.std.specs.Option.{option_map}
use Rattle.java_tree.specs.declared.tree.Node.{Node}
use Rattle.java_core.specs.declared.expr.Before.{Before}
use Rattle.java_core.specs.declared.expr.CoreExpr.{CoreExpr}
use Rattle.java_core.specs.declared.expr.CoreForm.{CoreForm, out-CoreForm}
use Rattle.java_core.specs.declared.expr.CoreForm.TheOpen as f
use Rattle.java_core.specs.declared.expr.CoreForm.TheVariants as v
use Rattle.java_core.specs.declared.stmt.CoreStmt.{CoreStmt}
use Rattle.java_core.specs.declared.stmt.CoreStmtForm.{CoreStmtForm, out-CoreStmtForm}
use Rattle.java_core.specs.declared.stmt.CoreStmtForm.TheVariants as w
use Rattle.java_core.specs.declared.stmt.CoreStmtForm.TheOpen as o
use Rattle.java_core.specs.declared.stmt.CoreGroup.{CoreGroup, out-CoreGroup}
use Rattle.java_core.specs.declared.stmt.CoreCatch.{CoreCatch, out-CoreCatch}
use Rattle.java_core.specs.Plain as p
use Rattle.java_core.specs.View.{catch_plain, catch_row, group_plain, group_row, maybe, plain, plains, stmt_maybe, stmt_plain, stmts_plain}
use Rattle.thrown_exceptions.proofs.Forms.{IsLeaf, level, shaped}
use Rattle.thrown_exceptions.proofs.Statements.{IsIdle, catch_at, group_at, stmt_level, stmt_shaped}
use Rattle.type_constraints.specs.declared.unmet.Unmet.{Unmet}
use Rattle.type_constraints.specs.Arguments.{static_arguments}
use Rattle.type_constraints.specs.Asked.{Asked}
use Rattle.type_constraints.specs.Uses.{maybe_field_use, maybe_method_use}
use Rattle.type_constraints.specs.Constraints as spec

module _ (a : Asked) where
  -- where an option is inside
  pub static_field : (e : CoreExpr) (b : Before) (of : Option CoreExpr) (k : ℕ) (s : Option Unmet)
      → maybe_field_use a e.node (maybe (option_map plain of)) k (spec.maybe_value a (maybe (option_map plain of)) s)
      ≡ spec.value a (p.At e.node e.ty (level (f.StaticField b of k))) s
  static_field e b None k s = refl
  static_field e b (Some x) k s = refl

  pub static_call : (e : CoreExpr) (b : Before) (of : Option CoreExpr) (k : ℕ) (xs : List CoreExpr) (s : Option Unmet)
      → static_arguments a b (maybe (option_map plain of)) k (plains xs)
      (maybe_method_use a e.node (maybe (option_map plain of)) k (spec.values a (plains xs) (spec.maybe_value a (maybe (option_map plain of)) s)))
      ≡ spec.value a (p.At e.node e.ty (level (f.StaticCall b of k xs))) s
  static_call e b None k xs s = refl
  static_call e b (Some x) k xs s = refl

  none_of : (e : CoreExpr) (y : CoreForm) (L : f.CoreForm-F CoreForm CoreExpr) (s : Option Unmet) → e.form ≡ y → out-CoreForm y ≡ L
      → spec.value a (p.At e.node e.ty (level L)) s ≡ s → s ≡ spec.value a (plain e) s
  none_of e y L s is out none = sym (ap (λ x. spec.value a x s) (shaped e y L is out) ∙ none)

  pub leaf : (e : CoreExpr) (s : Option Unmet) → IsLeaf e.form → s ≡ spec.value a (plain e) s
  leaf e s (inl i) = none_of e (v.Int i.0) (f.Int i.0) s i.1 (v.outs-Int i.0) refl
  leaf e s (inr (inl i)) = none_of e (v.Long i.0) (f.Long i.0) s i.1 (v.outs-Long i.0) refl
  leaf e s (inr (inr (inl i))) = none_of e (v.Char i.0) (f.Char i.0) s i.1 (v.outs-Char i.0) refl
  leaf e s (inr (inr (inr (inl i)))) = none_of e (v.Text i.0) (f.Text i.0) s i.1 (v.outs-Text i.0) refl
  leaf e s (inr (inr (inr (inr (inl i))))) = none_of e (v.Truth i.0) (f.Truth i.0) s i.1 (v.outs-Truth i.0) refl
  leaf e s (inr (inr (inr (inr (inr (inl i)))))) = none_of e v.Null f.Null s i v.outs-Null refl
  leaf e s (inr (inr (inr (inr (inr (inr (inl i))))))) = none_of e v.This f.This s i v.outs-This refl
  leaf e s (inr (inr (inr (inr (inr (inr (inr (inl i)))))))) = none_of e (v.Local i.0) (f.Local i.0) s i.1 (v.outs-Local i.0) refl
  leaf e s (inr (inr (inr (inr (inr (inr (inr (inr i)))))))) = none_of e (v.SuperField i.0) (f.SuperField i.0) s i.1 (v.outs-SuperField i.0) refl

  -- ---- statements

  pub if_parts : (n : Node) (x : CoreExpr) (y : CoreStmt) (z : Option CoreStmt) (s : Option Unmet)
      → spec.maybe_walk a (stmt_maybe (option_map stmt_plain z)) (spec.walk a (stmt_plain y) (spec.value a (plain x) s)) ≡ spec.walk a (stmt_level (o.If x y z) n) s
  if_parts n x y None s = refl
  if_parts n x y (Some z) s = refl

  pub try_parts : (n : Node) (y : CoreStmt) (cs : List CoreCatch) (z : Option CoreStmt) (s : Option Unmet)
      → spec.maybe_walk a (stmt_maybe (option_map stmt_plain z)) (spec.catches a (catch_row (map catch_plain cs)) (spec.walk a (stmt_plain y) s)) ≡ spec.walk a (stmt_level (o.Try y cs z) n) s
  try_parts n y cs None s = refl
  try_parts n y cs (Some z) s = refl

  pub group_first : (x : CoreGroup) (xs : List CoreGroup) (s : Option Unmet)
      → spec.groups a (group_row (map group_plain (x ∷ xs))) s ≡ spec.groups a (group_row (map group_plain xs)) (spec.walks a (stmts_plain (out-CoreGroup x).body) s)
  group_first x xs s = ap (λ y. spec.groups a (p.AndGroup y (group_row (map group_plain xs))) s) (group_at x)

  pub catch_first : (x : CoreCatch) (xs : List CoreCatch) (s : Option Unmet)
      → spec.catches a (catch_row (map catch_plain (x ∷ xs))) s ≡ spec.catches a (catch_row (map catch_plain xs)) (spec.walk a (stmt_plain (out-CoreCatch x).body) s)
  catch_first x xs s = ap (λ y. spec.catches a (p.AndCatch y (catch_row (map catch_plain xs))) s) (catch_at x)

  idle_of : (x : CoreStmt) (y : CoreStmtForm) (L : o.CoreStmtForm-F CoreStmtForm CoreCatch CoreGroup CoreStmt) (s : Option Unmet) → x.form ≡ y → out-CoreStmtForm y ≡ L
      → spec.walk a (stmt_level L x.node) s ≡ s → s ≡ spec.walk a (stmt_plain x) s
  idle_of x y L s is out none = sym (ap (λ x. spec.walk a x s) (stmt_shaped x y L is out) ∙ none)

  pub idle : (x : CoreStmt) (s : Option Unmet) → IsIdle x.form → s ≡ spec.walk a (stmt_plain x) s
  idle x s (inl i) = idle_of x w.Empty o.Empty s i w.outs-Empty refl
  idle x s (inr (inl i)) = idle_of x w.Break o.Break s i w.outs-Break refl
  idle x s (inr (inr i)) = idle_of x w.Continue o.Continue s i w.outs-Continue refl
