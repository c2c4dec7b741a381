-- Forms of expressions, read by their parts.
use Rattle.std.proofs.Common.{◌≡◌, ℕ, ℤ, ◌⊎◌, inl, inr, Bool, List, Option, Some, None, refl, sym, ap, ◌∙◌}
use Rattle.std.specs.Option.{option_map}
use Rattle.class_world.specs.declared.world.World.{World}
use Rattle.class_world.specs.declared.world.JavaType.{JavaType}
use Rattle.java_core.specs.declared.expr.Before.{Before}
use Rattle.java_core.specs.declared.expr.CoreExpr.{CoreExpr}
use Rattle.java_core.specs.declared.expr.CoreForm.{CoreForm, out-CoreForm}
use Rattle.java_core.specs.declared.expr.CoreForm.TheOpen as f
use Rattle.java_core.specs.declared.expr.CoreForm.TheVariants as v
use Rattle.java_core.specs.declared.expr.CoreForm.TheFolds.{map-CoreForm}
use Rattle.java_core.specs.Plain as p
use Rattle.java_core.specs.View.{at_form, form_plain, maybe, plain, plains}
use Rattle.java_core.proofs.Views.{form_out, plain_at}
use Rattle.type_kinds.specs.Kinds.{ty_of}
use Rattle.thrown_exceptions.specs.declared.state.State.{State}
use Rattle.thrown_exceptions.specs.Thrown as spec

abbrev pub level : f.CoreForm-F CoreForm CoreExpr → p.Form
level L = at_form (map-CoreForm CoreForm CoreExpr p.Form p.Expr form_plain plain L)

-- x is a form whose parts L has
pub formed : (x y : CoreForm) (L : f.CoreForm-F CoreForm CoreExpr) → x ≡ y → out-CoreForm y ≡ L → form_plain x ≡ level L
formed x y L is e = ap form_plain is ∙ form_out y ∙ ap level e

pub shaped : (e : CoreExpr) (y : CoreForm) (L : f.CoreForm-F CoreForm CoreExpr) → e.form ≡ y → out-CoreForm y ≡ L → plain e ≡ p.At e.node e.ty (level L)
shaped e y L is o = plain_at e ∙ ap (p.At e.node e.ty) (formed e.form y L is o)

pub ty_at : (x : CoreExpr) → x.ty ≡ ty_of (plain x)
ty_at x = sym (ap ty_of (plain_at x))

-- a form without parts
abbrev pub IsLeaf : CoreForm → Type 0
IsLeaf x =
    ((k : ℤ) × (x ≡ v.Int k)) ⊎ ((k : ℤ) × (x ≡ v.Long k)) ⊎ ((k : ℕ) × (x ≡ v.Char k)) ⊎ ((ks : List ℕ) × (x ≡ v.Text ks)) ⊎ ((b : Bool) × (x ≡ v.Truth b))
    ⊎ (x ≡ v.Null) ⊎ (x ≡ v.This) ⊎ ((k : ℕ) × (x ≡ v.Local k)) ⊎ ((k : ℕ) × (x ≡ v.SuperField k))

module _ (w : World) (below : JavaType → JavaType → Bool) where
  -- where an option is inside
  pub static_field : (e : CoreExpr) (b : Before) (of : Option CoreExpr) (k : ℕ) (s : State)
      → spec.maybe_value w below (maybe (option_map plain of)) s ≡ spec.value w below (p.At e.node e.ty (level (f.StaticField b of k))) s
  static_field e b None k s = refl
  static_field e b (Some x) k s = refl

  pub static_call : (e : CoreExpr) (b : Before) (of : Option CoreExpr) (k : ℕ) (xs : List CoreExpr) (s : State)
      → spec.called w below e.node k (spec.values w below (plains xs) (spec.maybe_value w below (maybe (option_map plain of)) s))
      ≡ spec.value w below (p.At e.node e.ty (level (f.StaticCall b of k xs))) s
  static_call e b None k xs s = refl
  static_call e b (Some x) k xs s = refl

  none_of : (e : CoreExpr) (y : CoreForm) (L : f.CoreForm-F CoreForm CoreExpr) (s : State) → e.form ≡ y → out-CoreForm y ≡ L
      → spec.value w below (p.At e.node e.ty (level L)) s ≡ s → s ≡ spec.value w below (plain e) s
  none_of e y L s is out none = sym (ap (λ x. spec.value w below x s) (shaped e y L is out) ∙ none)

  pub leaf : (e : CoreExpr) (s : State) → IsLeaf e.form → s ≡ spec.value w below (plain e) s
  leaf e s (inl i) = none_of e (v.Int i.0) (f.Int i.0) s i.1 (v.outs-Int i.0) refl
  leaf e s (inr (inl i)) = none_of e (v.Long i.0) (f.Long i.0) s i.1 (v.outs-Long i.0) refl
  leaf e s (inr (inr (inl i))) = none_of e (v.Char i.0) (f.Char i.0) s i.1 (v.outs-Char i.0) refl
  leaf e s (inr (inr (inr (inl i)))) = none_of e (v.Text i.0) (f.Text i.0) s i.1 (v.outs-Text i.0) refl
  leaf e s (inr (inr (inr (inr (inl i))))) = none_of e (v.Truth i.0) (f.Truth i.0) s i.1 (v.outs-Truth i.0) refl
  leaf e s (inr (inr (inr (inr (inr (inl i)))))) = none_of e v.Null f.Null s i v.outs-Null refl
  leaf e s (inr (inr (inr (inr (inr (inr (inl i))))))) = none_of e v.This f.This s i v.outs-This refl
  leaf e s (inr (inr (inr (inr (inr (inr (inr (inl i)))))))) = none_of e (v.Local i.0) (f.Local i.0) s i.1 (v.outs-Local i.0) refl
  leaf e s (inr (inr (inr (inr (inr (inr (inr (inr i)))))))) = none_of e (v.SuperField i.0) (f.SuperField i.0) s i.1 (v.outs-SuperField i.0) refl
