-- Methods with the numbers of their parameter types.
use Rattle.std.proofs.Common.{◌≡◌, ℕ, ◌+◌, ◌≤◌, false, List, [], ◌∷◌, ◌++◌, Option, Some, None, inl, inr, refl, sym, ap, ◌∙◌, subst, length, arith}
use Rattle.std.specs.Prelude.{slice_get}
use Rattle.std.proofs.lemmas.Bool.{cases_lt}
use Rattle.std.proofs.lemmas.Option.{slice_get_within}
use Rattle.class_world.specs.declared.world.World.{World}
use Rattle.class_world.specs.declared.world.MethodInfo.{MethodInfo}
use Rattle.class_world.specs.Overriding.{HaveOneParameterList}
use Rattle.class_world.proofs.Substs.{there_is}
use Rattle.method_ties.proofs.Firsts.{all_none, all_push}
use Rattle.seen_methods.specs.Closed.{AreClosed}
use Rattle.signature_numbers.specs.Steps.{Steps}
use Rattle.signature_numbers.specs.Numbers.{number_in, AreApart}
use Rattle.found_methods.specs.declared.callees.Callee.{Callee}
use Rattle.found_methods.specs.Callees.{IsFixedBy, IsNumbered, KeepsNumbers, IsCallee, AreCalleesFirst, ShareNumber, AreCallees, params_of, no_name}

abbrev CalleeAt : World → Steps → ℕ → Callee → Type 0
CalleeAt w numbers m x = (info : MethodInfo) × (slice_get w.methods m ≡ Some info) × IsCallee numbers info x

pub callees_begin : (w : World) (numbers : Steps) (callees : List Callee) → callees ≡ [] → AreCalleesFirst w numbers callees 0
callees_begin w numbers callees empty = all_none (CalleeAt w numbers) callees empty

numbered_kept : (old new : Steps) (info : MethodInfo) (o : Option ℕ) → KeepsNumbers old new → IsNumbered old info o → IsNumbered new info o
numbered_kept old new info None kept h = h
numbered_kept old new info (Some n) kept h = (h.0, h.1, kept no_name info.params n h.2)

callee_kept : (old new : Steps) (info : MethodInfo) (x : Callee) → KeepsNumbers old new → IsCallee old info x → IsCallee new info x
callee_kept old new info x kept h = record { owner = h.owner; name = h.name; arity = h.arity; fixed = h.fixed; params = numbered_kept old new info x.params kept h.params }

pub callees_next : (w : World) (old new : Steps) (callees out : List Callee) (i : ℕ) (info : MethodInfo) (x : Callee) → AreCalleesFirst w old callees i → KeepsNumbers old new
    → slice_get w.methods i ≡ Some info → IsCallee new info x → out ≡ callees ++ x ∷ [] → AreCalleesFirst w new out (i + 1)
callees_next w old new callees out i info x before kept at here made =
    all_push (CalleeAt w new) callees out i x
    (before.0, λ m y there. let h = before.1 m y there in (h.0, h.1, callee_kept old new h.0 y kept h.2))
    (info, at, here) made

module _ (w : World) (numbers : Steps) (callees : List Callee) (i : ℕ) (apart : AreApart numbers) (past : length w.methods ≤ i) (all : AreCalleesFirst w numbers callees i) where
  size : length callees ≡ length w.methods
  size = elim (cases_lt (length w.methods) i) [
    | inl more ↦
        let len = all.0 in
        let x = there_is callees (length w.methods) (omega (arith, more, len)) in
        let info = all.1 (length w.methods) x.0 x.1 in
        let lt = slice_get_within w.methods (length w.methods) info.0 info.1 in
        absurd (omega (arith, lt))
    | inr le ↦ let len = all.0 in omega (arith, le, past, len)
  ]

  same_info : (m : ℕ) (i j : MethodInfo) → slice_get w.methods m ≡ Some i → slice_get w.methods m ≡ Some j → i ≡ j
  same_info m i j a b = cc (a, b)

  -- the number that a method has
  number_of : (m n : ℕ) → params_of (slice_get callees m) ≡ Some n
      → (info : MethodInfo) × (slice_get w.methods m ≡ Some info) × (info.constructor ≡ false) × AreClosed info.params × (number_in numbers no_name info.params ≡ Some n)
  number_of m n is = go (slice_get callees m) refl is
    where
      go : (o : Option Callee) → slice_get callees m ≡ o → params_of o ≡ Some n
          → (info : MethodInfo) × (slice_get w.methods m ≡ Some info) × (info.constructor ≡ false) × AreClosed info.params × (number_in numbers no_name info.params ≡ Some n)
      go None at is = absurd (cc is)
      go (Some x) at is =
          let h = all.1 m x at in
          let p : IsNumbered numbers h.0 (Some n) = subst (IsNumbered numbers h.0) is h.2.params in
          (h.0, h.1, p.0, p.1, p.2)

  -- it has one, where its parameter types hold no type variable
  has_number : (m : ℕ) (info : MethodInfo) → slice_get w.methods m ≡ Some info → info.constructor ≡ false → AreClosed info.params
      → (n : ℕ) × (params_of (slice_get callees m) ≡ Some n) × (number_in numbers no_name info.params ≡ Some n)
  has_number m info at plain closed =
      let lt = slice_get_within w.methods m info at in
      let x = there_is callees m (omega (arith, lt, size)) in
      let h = all.1 m x.0 x.1 in
      let numbered : IsNumbered numbers info x.0.params = subst (λ (j : MethodInfo). IsNumbered numbers j x.0.params) (same_info m h.0 info h.1 at) h.2.params in
      go x.0 x.1 x.0.params refl numbered
    where
      go : (x : Callee) → slice_get callees m ≡ Some x → (o : Option ℕ) → x.params ≡ o → IsNumbered numbers info o
          → (n : ℕ) × (params_of (slice_get callees m) ≡ Some n) × (number_in numbers no_name info.params ≡ Some n)
      go x there None is h = absurd (h plain closed)
      go x there (Some n) is h = (n, ap params_of there ∙ is, h.2)

  pub callees_hold : AreCallees w callees
  callees_hold = record {
    size = size;
    owner = λ m x info at there. let h = all.1 m x at in h.2.owner ∙ ap (λ (i : MethodInfo). i.owner) (same_info m h.0 info h.1 there);
    called = λ m x info at there.
        let h = all.1 m x at in
        let same = same_info m h.0 info h.1 there in
        (h.2.name ∙ ap (λ (i : MethodInfo). i.name) same, h.2.arity ∙ ap (λ (i : MethodInfo). length i.params) same);
    fixed = λ m x at.
        let h = all.1 m x at in (
          λ is. (h.0, h.1, h.2.fixed.0 is),
          λ is. h.2.fixed.1 (subst IsFixedBy (same_info m is.0 h.0 is.1 h.1) is.2),
        );
    params = λ m k. (λ h. one_list m k h, λ h. one_number m k h);
  }
    where
      one_list : (m k : ℕ) → ShareNumber callees m k → HaveOneParameterList w m k
      one_list m k h =
          let a = number_of m h.0 h.1 in
          let b = number_of k h.0 h.2 in
          (a.0, b.0, (a.1, a.2), (b.1, b.2), (apart no_name no_name a.0.params b.0.params h.0 a.4 b.4).1, a.3)

      one_number : (m k : ℕ) → HaveOneParameterList w m k → ShareNumber callees m k
      one_number m k (i, j, is_m, is_k, same, closed) =
          let a = has_number m i is_m.0 is_m.1 closed in
          let b = has_number k j is_k.0 is_k.1 (subst AreClosed same closed) in
          let one : Some a.0 ≡ Some b.0 = sym a.2 ∙ ap (number_in numbers no_name) same ∙ b.2 in
          (a.0, a.1, b.1 ∙ sym one)
