-- The walk over a core: what is put on for a node and its parts.
use Rattle.std.proofs.Common.{◌≡◌, ℕ, ℤ, ◌≤◌, ◌⊎◌, inl, inr, zero, suc, Bool, false, List, [], ◌∷◌, ◌++◌, Option, Some, None, Result, Ok, Err, length, drop, refl, sym, ap, ◌∙◌, append_assoc, arith}
use Rattle.std.specs.Prelude.{OnOk}
use Rattle.std.specs.Option.{option_map}
use Rattle.std.proofs.lemmas.List.{append-nil}
use Rattle.java_tree.specs.declared.tree.Node.{Node}
use Rattle.class_world.specs.declared.world.JavaType.{JavaType}
use Rattle.java_core.specs.declared.expr.Before.{Before}
use Rattle.java_core.specs.declared.expr.CoreExpr.{CoreExpr}
use Rattle.java_core.specs.declared.expr.CoreForm.{CoreForm, out-CoreForm}
use Rattle.java_core.specs.declared.expr.CoreForm.TheOpen as o
use Rattle.java_core.specs.declared.expr.CoreForm.TheVariants as v
use Rattle.java_core.specs.Plain as p
use Rattle.java_core.specs.View.{form_plain, maybe, plain, plains}
use Rattle.java_core.proofs.Views.{plain_at}
use Rattle.type_kinds.specs.Kinds.{ty_of}
use Rattle.type_facts.specs.Facts.{Facts}
use Rattle.unchecked_ops.specs.Operations as spec
use Rattle.type_kinds.specs.Members.{method_at}
use Rattle.unchecked_ops.specs.Raw.{declared_params}
use Rattle.unchecked_ops.proofs.Forms.{formed, level}
use Rattle.unchecked_ops.proofs.Oks.{put_as}

-- the list is the one that was, with this put on
abbrev pub Adds : {Y : Type 0} → (new old more : List Y) → Type 0
Adds new old more = new ≡ old ++ more

pub then : {Y : Type 0} (old mid new a b : List Y) → Adds mid old a → Adds new mid b → Adds new old (a ++ b)
then old mid new a b h k = k ∙ ap (λ m. m ++ b) h ∙ append_assoc old a b

pub nothing_more : {Y : Type 0} (old : List Y) → Adds old old []
nothing_more old = sym (append-nil old)

-- the last of several calls
pub last : {A E Y : Type 0} (r : Result A E) (old mid new a b : List Y) → Adds mid old a → OnOk r (Adds new mid b) → OnOk r (Adds new old (a ++ b))
last (Ok x) old mid new a b h k = then old mid new a b h k
last (Err x) old mid new a b h k = k

-- a call that is the whole
pub whole : {A E Y : Type 0} (r : Result A E) (old new a b : List Y) → a ≡ b → OnOk r (Adds new old a) → OnOk r (Adds new old b)
whole r old new a b e = put_as r new (old ++ a) (old ++ b) (ap (λ l. old ++ l) e)

-- ---- a node and its parts

mark_parts : (f : Facts) (u : JavaType → JavaType → Bool) (above : JavaType) (here : Bool) (e : CoreExpr) (form : p.Form) (x : p.Expr) → x ≡ p.At e.node e.ty form
    → spec.own_mark f u here x ++ spec.parts f u above here e.ty form ≡ spec.ops f u above here x
mark_parts f u above here e form x is = ap (λ x. spec.own_mark f u here x ++ spec.parts f u above here e.ty form) is ∙ sym (ap (spec.ops f u above here) is)

pub node : {A E : Type 0} (f : Facts) (u : JavaType → JavaType → Bool) (above : JavaType) (here : Bool) (e : CoreExpr) (form : p.Form) (r : Result A E) (old mid new parts : List Node)
    → plain e ≡ p.At e.node e.ty form → Adds mid old (spec.own_mark f u here (plain e)) → parts ≡ spec.parts f u above here e.ty form → OnOk r (Adds new mid parts)
    → OnOk r (Adds new old (spec.ops f u above here (plain e)))
node f u above here e form r old mid new parts is marked are put =
    whole r old new (spec.own_mark f u here (plain e) ++ spec.parts f u above here e.ty form) (spec.ops f u above here (plain e)) (mark_parts f u above here e form (plain e) is)
    (last r old mid new (spec.own_mark f u here (plain e)) (spec.parts f u above here e.ty form) marked (whole r mid new parts (spec.parts f u above here e.ty form) are put))

-- a node without parts
pub leaf : (f : Facts) (u : JavaType → JavaType → Bool) (above : JavaType) (here : Bool) (e : CoreExpr) (form : p.Form) (old mid : List Node)
    → plain e ≡ p.At e.node e.ty form → Adds mid old (spec.own_mark f u here (plain e)) → spec.parts f u above here e.ty form ≡ [] → Adds mid old (spec.ops f u above here (plain e))
leaf f u above here e form old mid is marked none =
    then old mid mid (spec.own_mark f u here (plain e)) (spec.parts f u above here e.ty form) marked (nothing_more mid ∙ ap (λ l. mid ++ l) (sym none))
    ∙ ap (λ l. old ++ l) (mark_parts f u above here e form (plain e) is)

-- ---- parts

pub pair : {X Y Z : Type 0} (g : X → Y → Z) (x x' : X) (y y' : Y) → x ≡ x' → y ≡ y' → g x y ≡ g x' y'
pair g x x' y y' h k = ap (λ x. g x y) h ∙ ap (g x') k

pub ty_at : (x : CoreExpr) → x.ty ≡ ty_of (plain x)
ty_at x = sym (ap ty_of (plain_at x))

-- a form without parts
abbrev pub IsLeaf : CoreForm → Type 0
IsLeaf x =
    ((k : ℤ) × (x ≡ v.Int k)) ⊎ ((k : ℤ) × (x ≡ v.Long k)) ⊎ ((k : ℕ) × (x ≡ v.Char k)) ⊎ ((ks : List ℕ) × (x ≡ v.Text ks)) ⊎ ((b : Bool) × (x ≡ v.Truth b))
    ⊎ (x ≡ v.Null) ⊎ (x ≡ v.This) ⊎ ((k : ℕ) × (x ≡ v.Local k)) ⊎ ((k : ℕ) × (x ≡ v.SuperField k))

module _ (f : Facts) (u : JavaType → JavaType → Bool) (above : JavaType) where
  pub static_field : (here : Bool) (t : JavaType) (b : Before) (of : Option CoreExpr) (k : ℕ)
      → spec.maybe_ops f u above (maybe (option_map plain of)) ≡ spec.parts f u above here t (level (o.StaticField b of k))
  static_field here t b None k = refl
  static_field here t b (Some x) k = refl

  pub static_call : (here : Bool) (t : JavaType) (b : Before) (of : Option CoreExpr) (k : ℕ) (xs : List CoreExpr)
      → spec.maybe_ops f u above (maybe (option_map plain of)) ++ spec.args f u above (declared_params (method_at f.world k)) 0 (plains xs)
      ≡ spec.parts f u above here t (level (o.StaticCall b of k xs))
  static_call here t b None k xs = refl
  static_call here t b (Some x) k xs = refl

  pub maybe_some : (o : Option CoreExpr) (x : CoreExpr) → o ≡ Some x → spec.ops f u above false (plain x) ≡ spec.maybe_ops f u above (maybe (option_map plain o))
  maybe_some o x e = sym (ap (λ o. spec.maybe_ops f u above (maybe (option_map plain o))) e)

  none_of : (here : Bool) (t : JavaType) (x y : CoreForm) (L : o.CoreForm-F CoreForm CoreExpr) → x ≡ y → out-CoreForm y ≡ L → spec.parts f u above here t (level L) ≡ []
      → spec.parts f u above here t (form_plain x) ≡ []
  none_of here t x y L is out none = ap (spec.parts f u above here t) (formed x y L is out) ∙ none

  pub no_parts : (here : Bool) (t : JavaType) (x : CoreForm) → IsLeaf x → spec.parts f u above here t (form_plain x) ≡ []
  no_parts here t x (inl i) = none_of here t x (v.Int i.0) (o.Int i.0) i.1 (v.outs-Int i.0) refl
  no_parts here t x (inr (inl i)) = none_of here t x (v.Long i.0) (o.Long i.0) i.1 (v.outs-Long i.0) refl
  no_parts here t x (inr (inr (inl i))) = none_of here t x (v.Char i.0) (o.Char i.0) i.1 (v.outs-Char i.0) refl
  no_parts here t x (inr (inr (inr (inl i)))) = none_of here t x (v.Text i.0) (o.Text i.0) i.1 (v.outs-Text i.0) refl
  no_parts here t x (inr (inr (inr (inr (inl i))))) = none_of here t x (v.Truth i.0) (o.Truth i.0) i.1 (v.outs-Truth i.0) refl
  no_parts here t x (inr (inr (inr (inr (inr (inl i)))))) = none_of here t x v.Null o.Null i v.outs-Null refl
  no_parts here t x (inr (inr (inr (inr (inr (inr (inl i))))))) = none_of here t x v.This o.This i v.outs-This refl
  no_parts here t x (inr (inr (inr (inr (inr (inr (inr (inl i)))))))) = none_of here t x (v.Local i.0) (o.Local i.0) i.1 (v.outs-Local i.0) refl
  no_parts here t x (inr (inr (inr (inr (inr (inr (inr (inr i)))))))) = none_of here t x (v.SuperField i.0) (o.SuperField i.0) i.1 (v.outs-SuperField i.0) refl

-- at the end of a list
pub ended : {X Y : Type 0} (g : List X → List Y) → g [] ≡ [] → (xs : List X) (i : ℕ) (out rest : List Y) → length xs ≤ i → out ++ g (drop i xs) ≡ rest → out ≡ rest
ended {X = X} g none xs i out rest past is = sym (append-nil out) ∙ ap (λ l. out ++ l) (sym (ap g (dropped xs i past) ∙ none)) ∙ is
  where
    dropped : (xs : List X) (i : ℕ) → length xs ≤ i → drop i xs ≡ []
    dropped [] zero past = refl
    dropped [] (suc i) past = refl
    dropped (x ∷ xs) zero past = absurd (omega (arith, past))
    dropped (x ∷ xs) (suc i) past = dropped xs i (omega (arith, past))
