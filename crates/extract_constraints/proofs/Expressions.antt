-- Forms of expressions, read by their parts.
use Rattle.std.proofs.Common.{◌≡◌, ℕ, ℤ, ◌⊎◌, inl, inr, Bool, List, Option, Some, None, refl, sym, ap, ◌∙◌}
use Rattle.std.specs.Option.{option_map}
use Rattle.class_world.specs.declared.world.JavaType.{JavaType}
use Rattle.java_core.specs.declared.expr.Before.{Before}
use Rattle.java_core.specs.declared.expr.CoreExpr.{CoreExpr}
use Rattle.java_core.specs.declared.expr.CoreForm.{CoreForm, out-CoreForm}
use Rattle.java_core.specs.declared.expr.CoreForm.TheOpen as f
use Rattle.java_core.specs.declared.expr.CoreForm.TheVariants as v
use Rattle.java_core.specs.Plain as p
use Rattle.java_core.specs.View.{maybe, plain, plains}
use Rattle.kept_places.specs.declared.links.Link.{Link}
use Rattle.extract_constraints.specs.Arguments as calls
use Rattle.extract_constraints.specs.Links as spec
use Rattle.extract_constraints.specs.Receivers.{maybe_field_use}
use Rattle.extract_constraints.specs.Told.{Told, Where}
use Rattle.marked_types.proofs.Forms.{level, shaped}

-- a form without parts
abbrev pub IsLeaf : CoreForm → Type 0
IsLeaf x =
    ((k : ℤ) × (x ≡ v.Int k)) ⊎ ((k : ℤ) × (x ≡ v.Long k)) ⊎ ((k : ℕ) × (x ≡ v.Char k)) ⊎ ((ks : List ℕ) × (x ≡ v.Text ks)) ⊎ ((b : Bool) × (x ≡ v.Truth b))
    ⊎ (x ≡ v.Null) ⊎ (x ≡ v.This) ⊎ ((k : ℕ) × (x ≡ v.Local k)) ⊎ ((k : ℕ) × (x ≡ v.SuperField k))

module _ (k : Told) (a : Where) (ls : List JavaType) where
  -- where an option is inside
  pub static_field : (e : CoreExpr) (b : Before) (of : Option CoreExpr) (field : ℕ) (s : List Link)
      → maybe_field_use k a ls (maybe (option_map plain of)) e.node.id (spec.maybe_value k a ls (maybe (option_map plain of)) s)
      ≡ spec.value k a ls (p.At e.node e.ty (level (f.StaticField b of field))) s
  static_field e b None field s = refl
  static_field e b (Some x) field s = refl

  pub static_call : (e : CoreExpr) (b : Before) (of : Option CoreExpr) (m : ℕ) (xs : List CoreExpr) (s : List Link)
      → calls.static_call k a ls e.node.id b (maybe (option_map plain of)) m (plains xs) (spec.values k a ls (plains xs) (spec.maybe_value k a ls (maybe (option_map plain of)) s))
      ≡ spec.value k a ls (p.At e.node e.ty (level (f.StaticCall b of m xs))) s
  static_call e b None m xs s = refl
  static_call e b (Some x) m xs s = refl

  none_of : (e : CoreExpr) (y : CoreForm) (L : f.CoreForm-F CoreForm CoreExpr) (s : List Link) → e.form ≡ y → out-CoreForm y ≡ L
      → spec.value k a ls (p.At e.node e.ty (level L)) s ≡ s → s ≡ spec.value k a ls (plain e) s
  none_of e y L s is out none = sym (ap (λ x. spec.value k a ls x s) (shaped e y L is out) ∙ none)

  pub leaf : (e : CoreExpr) (s : List Link) → IsLeaf e.form → s ≡ spec.value k a ls (plain e) s
  leaf e s (inl i) = none_of e (v.Int i.0) (f.Int i.0) s i.1 (v.outs-Int i.0) refl
  leaf e s (inr (inl i)) = none_of e (v.Long i.0) (f.Long i.0) s i.1 (v.outs-Long i.0) refl
  leaf e s (inr (inr (inl i))) = none_of e (v.Char i.0) (f.Char i.0) s i.1 (v.outs-Char i.0) refl
  leaf e s (inr (inr (inr (inl i)))) = none_of e (v.Text i.0) (f.Text i.0) s i.1 (v.outs-Text i.0) refl
  leaf e s (inr (inr (inr (inr (inl i))))) = none_of e (v.Truth i.0) (f.Truth i.0) s i.1 (v.outs-Truth i.0) refl
  leaf e s (inr (inr (inr (inr (inr (inl i)))))) = none_of e v.Null f.Null s i v.outs-Null refl
  leaf e s (inr (inr (inr (inr (inr (inr (inl i))))))) = none_of e v.This f.This s i v.outs-This refl
  leaf e s (inr (inr (inr (inr (inr (inr (inr (inl i)))))))) = none_of e (v.Local i.0) (f.Local i.0) s i.1 (v.outs-Local i.0) refl
  leaf e s (inr (inr (inr (inr (inr (inr (inr (inr i)))))))) = none_of e (v.SuperField i.0) (f.SuperField i.0) s i.1 (v.outs-SuperField i.0) refl
