-- Unchecked casts, step by step.
use Rattle.std.proofs.Common.{◌≡◌, ℕ, ◌<◌, ◌≤◌, Bool, true, false, List, [], length, Option, Some, None, ◌↔◌, refl, sym, ap, ◌∙◌, subst, arith}
use Rattle.std.specs.Prelude.{IsTrue, not, slice_get}
use Rattle.std.proofs.lemmas.Option.{slice_get_within}
use Rattle.class_world.specs.declared.world.World.{World}
use Rattle.class_world.specs.declared.world.TypeInfo.{TypeInfo}
use Rattle.class_world.specs.declared.world.JavaType.{JavaType}
use Rattle.class_world.specs.declared.world.JavaType.TheVariants as ty
use Rattle.class_world.specs.Subtypes.{IsSuperAs, Subtype}
use Rattle.class_world.specs.Types.{IsTypeOver, substitute, variables, with_own}
use Rattle.class_world.proofs.Forms.{null_kind, class_kind, same_class}
use Rattle.class_world.proofs.Orders.{own_over}
use Rattle.class_world.proofs.Substs.{there_is}
use Rattle.type_kinds.specs.OfWorld.{HasSupers}
use Rattle.unchecked_ops.specs.Casting.{Determines, DeterminesBy, Hold, IsToArguments}
use Rattle.unchecked_ops.specs.Bases.{BaseIs, HasArgs, HasParams, IsLed}

-- the supertype of a class, where it has arguments

pub base_kept : (w : World) (s u : JavaType) (h : ℕ) → HasArgs u → IsSuperAs w s h (Some u) → BaseIs w s h (Some u)
base_kept w s u h has up =
    let same = same_class has.0 h has.1.0 up.1.0 (sym has.1.1 ∙ up.1.1) in
    ((up.1.0, up.1.1, λ e. has.1.2 (same.1 ∙ e)), up.0, up.2)

pub base_dropped : (w : World) (s u : JavaType) (h : ℕ) → (HasArgs u → ⊥) → IsSuperAs w s h (Some u) → BaseIs w s h None
base_dropped w s u h none up v p below = none (h, (p.0, sym (up.2 v p below) ∙ p.1, p.2))

pub base_none : (w : World) (s : JavaType) (h : ℕ) → IsSuperAs w s h None → BaseIs w s h None
base_none w s h none v p below = none p.0 (subst (Subtype w s) p.1 below)

-- what is led to determines

pub led_some : (r holds : Bool) (o p : Option JavaType) (a x : JavaType) (n : ℕ) (args : List JavaType) → o ≡ Some a → p ≡ Some x → holds ≡ true → IsTrue holds ↔ Hold n x
    → IsTrue r ↔ (substitute args x ≡ a) → IsTrue r ↔ IsLed o p n args
led_some r holds o p a x n args e i are all put =
    let told : IsTrue r ↔ IsLed (Some a) (Some x) n args = (λ h. (all.0 are, put.0 h), λ h. put.1 h.1) in
    subst (λ o. IsTrue r ↔ IsLed o p n args) (sym e) (subst (λ p. IsTrue r ↔ IsLed (Some a) p n args) (sym i) told)

led_to : (w : World) (s own : JavaType) (g h n : ℕ) (args : List JavaType) (info : TypeInfo) (a f : Option JavaType) → slice_get w.types g ≡ Some info → info.params ≡ n
    → own ≡ with_own g n → BaseIs w s h a → BaseIs w own h f → IsLed a f n args → DeterminesBy w s g args h
led_to w s own g h n args info None f at count is b c l = absurd l
led_to w s own g h n args info (Some a) None at count is b c l = absurd l
led_to w s own g h n args info (Some a) (Some x) at count is b c l = record {
  above = a;
  parameterizes = b.0;
  operand = b.1;
  info = info;
  known = at;
  form = x;
  generic = c.0;
  target = subst (λ o. Subtype w o x) (is ∙ ap (with_own g) (sym count)) c.1;
  each = subst (λ n. Hold n x) (sym count) l.0;
  same = l.1;
}

led_from : (w : World) (s own : JavaType) (g h n : ℕ) (args : List JavaType) (info : TypeInfo) (a f : Option JavaType) → slice_get w.types g ≡ Some info → info.params ≡ n
    → own ≡ with_own g n → BaseIs w s h a → BaseIs w own h f → DeterminesBy w s g args h → IsLed a f n args
led_from w s own g h n args info None f at count is b c d = b d.above d.parameterizes d.operand
led_from w s own g h n args info (Some a) None at count is b c d =
    let one : d.info ≡ info = let e : Some d.info ≡ Some info = sym d.known ∙ at in cc e in
    let own_is : with_own g d.info.params ≡ own = ap (with_own g) (ap (λ (i : TypeInfo). i.params) one ∙ count) ∙ sym is in
    c d.form d.generic (subst (λ o. Subtype w o d.form) own_is d.target)
led_from w s own g h n args info (Some a) (Some x) at count is b c d =
    let one : d.info ≡ info = let e : Some d.info ≡ Some info = sym d.known ∙ at in cc e in
    let number : d.info.params ≡ n = ap (λ (i : TypeInfo). i.params) one ∙ count in
    let own_is : with_own g d.info.params ≡ own = ap (with_own g) number ∙ sym is in
    let high : d.above ≡ a = b.2 d.above d.parameterizes d.operand in
    let form : d.form ≡ x = c.2 d.form d.generic (subst (λ o. Subtype w o d.form) own_is d.target) in
    (subst (λ n. Hold n x) number (subst (Hold d.info.params) form d.each), ap (substitute args) (sym form) ∙ d.same ∙ high)

pub led_told : (w : World) (r : Bool) (s own : JavaType) (g h n : ℕ) (args : List JavaType) (a f : Option JavaType) → HasParams w g n
    → own ≡ with_own g n → BaseIs w s h a → BaseIs w own h f → IsTrue r ↔ IsLed a f n args → IsTrue r ↔ DeterminesBy w s g args h
led_told w r s own g h n args a f has is b c told = (
  λ i. led_to w s own g h n args has.0 a f has.1 has.2 is b c (told.0 i),
  λ d. told.1 (led_from w s own g h n args has.0 a f has.1 has.2 is b c d),
)

-- a class with its own variables is of the world

pub own_supers : (w : World) (own : JavaType) (g n : ℕ) → HasParams w g n → own ≡ with_own g n → HasSupers w own
own_supers w own g n has is =
    let shape : with_own g has.0.params ≡ own = ap (with_own g) has.2 ∙ sym is in (
      (has.0.params, subst (λ t. IsTypeOver w has.0.params t) shape (own_over w g has.0 has.1)),
      λ null. cc (class_kind g (variables 0 n), null_kind, sym is ∙ null),
    )

-- past the last class
pub never_past : (w : World) (s : JavaType) (g n : ℕ) (args : List JavaType) → length w.types ≤ n → ((k : ℕ) → k < n → DeterminesBy w s g args k → ⊥) → Determines w s g args → ⊥
never_past w s g n args count none d =
    let low : d.0 < length w.types = slice_get_within w.types d.0 d.1.0 d.1.1 in
    none d.0 (omega (arith, low)) d.2

pub found_by : (w : World) (s : JavaType) (g h : ℕ) (args : List JavaType) → h < length w.types → DeterminesBy w s g args h → Determines w s g args
found_by w s g h args low d = (h, there_is w.types h low, d)

-- casts

pub arguments_told : (w : World) (r : Bool) (s t : JavaType) (c : ℕ) (xs : List JavaType) → t ≡ ty.Class c xs → (xs ≡ [] → ⊥) → (s ≡ ty.Null → ⊥) → IsTrue r ↔ Determines w s c xs
    → IsTrue (not r) ↔ IsToArguments w s t
arguments_told w true s t c xs is some null told = (
  λ h. absurd (cc h),
  λ to.
      let same = same_class c to.0 xs to.1.0 (sym is ∙ to.1.1) in
      absurd (to.3 (subst (λ c. Determines w s c to.1.0) same.0 (subst (Determines w s c) same.1 (told.0 refl)))),
)
arguments_told w false s t c xs is some null told = (λ h. (c, (xs, is, some), null, λ d. cc (told.1 d)), λ to. refl)
