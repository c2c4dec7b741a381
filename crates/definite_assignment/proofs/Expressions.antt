-- Expressions of a form that is known.
use Rattle.std.proofs.Common.{◌≡◌, ℕ, ℤ, ◌⊎◌, inl, inr, Bool, List, Option, Some, None, sym, ap, refl, ◌∙◌}
use Rattle.std.specs.Option.{option_map}
use Rattle.java_tree.specs.declared.tree.Node.{Node}
use Rattle.class_world.specs.declared.world.World.{World}
use Rattle.java_core.specs.declared.expr.Before.{Before}
use Rattle.java_core.specs.declared.expr.CoreExpr.{CoreExpr}
use Rattle.java_core.specs.declared.expr.CoreForm.{CoreForm, out-CoreForm, roll-CoreForm, roll-out-CoreForm}
use Rattle.java_core.specs.declared.expr.CoreForm.TheOpen as o
use Rattle.java_core.specs.declared.expr.CoreForm.TheVariants as v
use Rattle.java_core.specs.View.{maybe, plain, plains}
use Rattle.definite_assignment.specs.declared.state.State.{State}
use Rattle.definite_assignment.specs.Assigned as spec
use Rattle.java_core.specs.Plain as p
use Rattle.java_core.proofs.Views.{form_out, plain_at}
use Rattle.java_tree.specs.declared.tree.UnOp.{UnOp}
use Rattle.definite_assignment.proofs.Forms.{level, shaped}

-- a form whose parts are those of another
rolled : (x y : CoreForm) (L : o.CoreForm-F CoreForm CoreExpr) → out-CoreForm x ≡ L → roll-CoreForm L ≡ y → x ≡ y
rolled x y L is same = sym (roll-out-CoreForm x) ∙ ap roll-CoreForm is ∙ same

opened : (x : CoreExpr) → plain x ≡ p.At x.node x.ty (level (out-CoreForm x.form))
opened x = plain_at x ∙ ap (p.At x.node x.ty) (form_out x.form)

pub assigned_known : (x : CoreExpr) (y : CoreForm) (L : o.CoreForm-F CoreForm CoreExpr) (s : State) → x.form ≡ y → out-CoreForm y ≡ L
    → spec.assigned_form (level L) s ≡ spec.assigned (plain x) s
assigned_known x y L s is out = ap (λ a. spec.assigned a s) (sym (shaped x y L is out))

-- a form without parts
abbrev pub IsIdle : CoreForm → Type 0
IsIdle x =
    ((k : ℤ) × (x ≡ v.Int k)) ⊎ ((k : ℤ) × (x ≡ v.Long k)) ⊎ ((k : ℕ) × (x ≡ v.Char k)) ⊎ ((ks : List ℕ) × (x ≡ v.Text ks)) ⊎ ((b : Bool) × (x ≡ v.Truth b))
    ⊎ (x ≡ v.Null) ⊎ (x ≡ v.This) ⊎ ((k : ℕ) × (x ≡ v.SuperField k))

module _ (w : World) (home : Option ℕ) where
  pub value_known : (x : CoreExpr) (y : CoreForm) (L : o.CoreForm-F CoreForm CoreExpr) (s : State) → x.form ≡ y → out-CoreForm y ≡ L
      → spec.value_form w home x.node (level L) s ≡ spec.value w home (plain x) s
  value_known x y L s is out = ap (λ a. spec.value w home a s) (sym (shaped x y L is out))

  pub target_known : (x : CoreExpr) (y : CoreForm) (L : o.CoreForm-F CoreForm CoreExpr) (s : State) → x.form ≡ y → out-CoreForm y ≡ L
      → spec.target_form w home (level L) (spec.value_form w home x.node (level L)) s ≡ spec.target w home (plain x) s
  target_known x y L s is out = ap (λ a. spec.target w home a s) (sym (shaped x y L is out))

  pub test_known : (x : CoreExpr) (y : CoreForm) (L : o.CoreForm-F CoreForm CoreExpr) (s : State) → x.form ≡ y → out-CoreForm y ≡ L
      → spec.test_form w home (level L) (spec.value_form w home x.node (level L)) s ≡ spec.test w home (plain x) s
  test_known x y L s is out = ap (λ a. spec.test w home a s) (sym (shaped x y L is out))

  pub static_field : (n : Node) (b : Before) (of : Option CoreExpr) (k : ℕ) (s : State)
      → spec.static_value w home n b (maybe (option_map plain of)) k s ≡ spec.value_form w home n (level (o.StaticField b of k)) s
  static_field n b None k s = refl
  static_field n b (Some x) k s = refl

  pub static_call : (n : Node) (b : Before) (of : Option CoreExpr) (k : ℕ) (xs : List CoreExpr) (s : State)
      → spec.values w home (plains xs) (spec.maybe_value w home (maybe (option_map plain of)) s) ≡ spec.value_form w home n (level (o.StaticCall b of k xs)) s
  static_call n b None k xs s = refl
  static_call n b (Some x) k xs s = refl

  pub static_target : (b : Before) (of : Option CoreExpr) (k : ℕ) (used : State → State) (s : State)
      → spec.maybe_value w home (maybe (option_map plain of)) s ≡ spec.target_form w home (level (o.StaticField b of k)) used s
  static_target b None k used s = refl
  static_target b (Some x) k used s = refl

  unused : (x : CoreExpr) (y : CoreForm) (L : o.CoreForm-F CoreForm CoreExpr) (s : State) → x.form ≡ y → out-CoreForm y ≡ L → spec.value_form w home x.node (level L) s ≡ s
      → s ≡ spec.value w home (plain x) s
  unused x y L s is out none = sym none ∙ value_known x y L s is out

  -- a form without parts that are used
  pub idle : (x : CoreExpr) (s : State) → IsIdle x.form → s ≡ spec.value w home (plain x) s
  idle x s (inl i) = unused x (v.Int i.0) (o.Int i.0) s i.1 (v.outs-Int i.0) refl
  idle x s (inr (inl i)) = unused x (v.Long i.0) (o.Long i.0) s i.1 (v.outs-Long i.0) refl
  idle x s (inr (inr (inl i))) = unused x (v.Char i.0) (o.Char i.0) s i.1 (v.outs-Char i.0) refl
  idle x s (inr (inr (inr (inl i)))) = unused x (v.Text i.0) (o.Text i.0) s i.1 (v.outs-Text i.0) refl
  idle x s (inr (inr (inr (inr (inl i))))) = unused x (v.Truth i.0) (o.Truth i.0) s i.1 (v.outs-Truth i.0) refl
  idle x s (inr (inr (inr (inr (inr (inl i)))))) = unused x v.Null o.Null s i v.outs-Null refl
  idle x s (inr (inr (inr (inr (inr (inr (inl i))))))) = unused x v.This o.This s i v.outs-This refl
  idle x s (inr (inr (inr (inr (inr (inr (inr i))))))) = unused x (v.SuperField i.0) (o.SuperField i.0) s i.1 (v.outs-SuperField i.0) refl

  level_target : (L : o.CoreForm-F CoreForm CoreExpr) (used : State → State) (s : State) → ((k : ℕ) → L ≡ o.Local k → ⊥) → ((x : CoreExpr) → L ≡ o.Paren x → ⊥)
      → ((x : CoreExpr) (b : Bool) (k : ℕ) → L ≡ o.Field x b k → ⊥) → ((b : Before) (x : Option CoreExpr) (k : ℕ) → L ≡ o.StaticField b x k → ⊥)
      → spec.target_form w home (level L) used s ≡ used s
  level_target (o.Local k) used s no_local no_paren no_field no_static = absurd (no_local k refl)
  level_target (o.Paren x) used s no_local no_paren no_field no_static = absurd (no_paren x refl)
  level_target (o.Field x b k) used s no_local no_paren no_field no_static = absurd (no_field x b k refl)
  level_target (o.StaticField b x k) used s no_local no_paren no_field no_static = absurd (no_static b x k refl)
  level_target _ used s no_local no_paren no_field no_static = refl

  -- what is assigned and no variable is used
  pub other_target : (e : CoreExpr) (s : State) → ((k : ℕ) → e.form ≡ v.Local k → ⊥) → ((x : CoreExpr) → e.form ≡ v.Paren x → ⊥)
      → ((x : CoreExpr) (b : Bool) (k : ℕ) → e.form ≡ v.Field x b k → ⊥) → ((b : Before) (x : Option CoreExpr) (k : ℕ) → e.form ≡ v.StaticField b x k → ⊥)
      → spec.value w home (plain e) s ≡ spec.target w home (plain e) s
  other_target e s no_local no_paren no_field no_static =
      let L = out-CoreForm e.form in
      ap (λ x. spec.value w home x s) (opened e)
      ∙ sym (level_target L (spec.value_form w home e.node (level L)) s (λ k i. no_local k (rolled e.form (v.Local k) (o.Local k) i (v.rolls-Local k)))
      (λ x i. no_paren x (rolled e.form (v.Paren x) (o.Paren x) i (v.rolls-Paren x))) (λ x b k i. no_field x b k (rolled e.form (v.Field x b k) (o.Field x b k) i (v.rolls-Field x b k)))
      (λ b x k i. no_static b x k (rolled e.form (v.StaticField b x k) (o.StaticField b x k) i (v.rolls-StaticField b x k))))
      ∙ sym (ap (λ x. spec.target w home x s) (opened e))

  level_test : (L : o.CoreForm-F CoreForm CoreExpr) (used : State → State) (s : State) → ((b : Bool) → L ≡ o.Truth b → ⊥) → ((x : CoreExpr) → L ≡ o.Paren x → ⊥)
      → ((op : UnOp) (x : CoreExpr) → L ≡ o.Unary op x → ⊥) → ((b : Bool) (x y : CoreExpr) → L ≡ o.Logic b x y → ⊥) → ((x y z : CoreExpr) → L ≡ o.Cond x y z → ⊥)
      → spec.test_form w home (level L) used s ≡ spec.told_alike (used s)
  level_test (o.Truth b) used s no_truth no_paren no_unary no_logic no_cond = absurd (no_truth b refl)
  level_test (o.Paren x) used s no_truth no_paren no_unary no_logic no_cond = absurd (no_paren x refl)
  level_test (o.Unary op x) used s no_truth no_paren no_unary no_logic no_cond = absurd (no_unary op x refl)
  level_test (o.Logic b x y) used s no_truth no_paren no_unary no_logic no_cond = absurd (no_logic b x y refl)
  level_test (o.Cond x y z) used s no_truth no_paren no_unary no_logic no_cond = absurd (no_cond x y z refl)
  level_test _ used s no_truth no_paren no_unary no_logic no_cond = refl

  -- a test of another form is used as a value
  pub other_test : (e : CoreExpr) (s : State) → ((b : Bool) → e.form ≡ v.Truth b → ⊥) → ((x : CoreExpr) → e.form ≡ v.Paren x → ⊥) → ((op : UnOp) (x : CoreExpr) → e.form ≡ v.Unary op x → ⊥)
      → ((b : Bool) (x y : CoreExpr) → e.form ≡ v.Logic b x y → ⊥) → ((x y z : CoreExpr) → e.form ≡ v.Cond x y z → ⊥)
      → spec.told_alike (spec.value w home (plain e) s) ≡ spec.test w home (plain e) s
  other_test e s no_truth no_paren no_unary no_logic no_cond =
      let L = out-CoreForm e.form in
      ap (λ x. spec.told_alike (spec.value w home x s)) (opened e)
      ∙ sym (level_test L (spec.value_form w home e.node (level L)) s (λ b i. no_truth b (rolled e.form (v.Truth b) (o.Truth b) i (v.rolls-Truth b)))
      (λ x i. no_paren x (rolled e.form (v.Paren x) (o.Paren x) i (v.rolls-Paren x))) (λ op x i. no_unary op x (rolled e.form (v.Unary op x) (o.Unary op x) i (v.rolls-Unary op x)))
      (λ b x y i. no_logic b x y (rolled e.form (v.Logic b x y) (o.Logic b x y) i (v.rolls-Logic b x y))) (λ x y z i. no_cond x y z (rolled e.form (v.Cond x y z) (o.Cond x y z) i (v.rolls-Cond x y z))))
      ∙ sym (ap (λ x. spec.test w home x s) (opened e))
