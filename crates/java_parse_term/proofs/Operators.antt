-- Operators that are found are such.
use Rattle.std.proofs.Common.{◌≡◌, ◌≢◌, ℕ, ◌+◌, ◌≤◌, Bool, true, false, List, Option, Some, None, refl, ap, subst, arith, ◌==◌}
use Rattle.std.proofs.lemmas.Bool.Decides.{nat_tests}
use Rattle.java_tree.specs.declared.tree.UnOp.{UnOp}
use Rattle.java_tree.specs.declared.tree.UnOp.TheVariants as un
use Rattle.java_tree.specs.declared.tree.BinOp.{BinOp}
use Rattle.java_tree.specs.declared.tree.BinOp.TheVariants as op
use Rattle.java_grammar.specs.declared.token.Tok.{Tok}
use Rattle.java_grammar.specs.declared.token.Sort.{Sort}
use Rattle.java_grammar.specs.declared.token.Sort.TheVariants as s
use Rattle.java_grammar.specs.declared.token.Keyword.TheVariants as word
use Rattle.java_grammar.specs.declared.token.Mark.TheVariants as m
use Rattle.java_grammar.specs.Reads.{sort_at, from_at, to_at}
use Rattle.java_grammar.specs.Expressions.{level_of, prefix_sort, Stands, Joined, IsInfix, IsAssignment, IsSign}
use Rattle.java_parse_term.specs.declared.signs.Standing.{Standing}
use Rattle.java_parse_term.specs.Marks.{is_infix, is_keyword}
use Rattle.java_parse_term.specs.Signs.{standing, prefix_of, step_of, is_sign, joins, right_at, infix_of, infix_at, right_assign, assign_of, assign_at, level_in, level_at}
use Rattle.java_parse_term.proofs.Steps.{both_true, not_true, is_infix_says, is_infix_has, is_keyword_has, step_either, step_unless, step_if}

pub prefix_says : (x : Sort) (u : UnOp) → prefix_of x ≡ Some u → x ≡ prefix_sort u
prefix_says (s.Infix op.Add) u e = let is : un.Plus ≡ u = cc in rw (← is) refl
prefix_says (s.Infix op.Sub) u e = let is : un.Minus ≡ u = cc in rw (← is) refl
prefix_says (s.Mark m.Invert) u e = let is : un.Invert ≡ u = cc in rw (← is) refl
prefix_says (s.Mark m.Not) u e = let is : un.Not ≡ u = cc in rw (← is) refl
prefix_says _ u e = absurd (cc)

pub step_says : (x : Sort) (up : Bool) → step_of x ≡ Some up → x ≡ s.Step up
step_says (s.Step b) up e = let is : b ≡ up = cc in ap s.Step is
step_says _ up e = absurd (cc)

pub tightest : (x : BinOp) → (3 ≤ level_of x) × (level_of x ≤ 12)
tightest op.LogicOr = (omega arith, omega arith)
tightest _ = (omega arith, omega arith)

module _ (text : List ℕ) (ts : List Tok) where
  pub no_sign : (x : Sort) → is_sign x ≡ false → IsSign text ts x → ⊥
  no_sign (s.Infix op.Add) e h = cc
  no_sign (s.Infix op.Sub) e h = cc
  no_sign (s.Step up) e h = cc
  no_sign _ e h = h

  pub no_sign_has : (x : Sort) → (IsSign text ts x → ⊥) → is_sign x ≡ false
  no_sign_has (s.Infix op.Add) h = absurd (h tt)
  no_sign_has (s.Infix op.Sub) h = absurd (h tt)
  no_sign_has (s.Step up) h = absurd (h tt)
  no_sign_has _ h = refl

  pub joins_says : {Z : Type 0} (x : BinOp) (i : ℕ) → joins ts x i ≡ true → (Joined text ts i → Stands text ts (s.Infix x) (i + 1) → Z) → Z
  unfolding joins
  joins_says x i e use_it =
      both_true (to_at ts i == from_at ts (i + 1)) (is_infix ts x (i + 1)) e (λ a b.
      let same : to_at ts i ≡ from_at ts (i + 1) = grind (arith, nat_tests) in
      use_it same (is_infix_says ts x (i + 1) b))

  pub joins_has : (x : BinOp) (i : ℕ) → Joined text ts i → Stands text ts (s.Infix x) (i + 1) → joins ts x i ≡ true
  unfolding joins
  joins_has x i join is =
      let same : (to_at ts i == from_at ts (i + 1)) ≡ true = grind (arith, nat_tests) in
      rw (same, is_infix_has ts x (i + 1) is) refl

  pub joins_not : (x : BinOp) (i : ℕ) → sort_at ts (i + 1) ≢ s.Infix x → joins ts x i ≡ false
  joins_not x i other = not_true _ (λ e. joins_says x i e (λ join is. other is))

  infix_same : (x : BinOp) (i next : ℕ) (y : Standing BinOp) → Some (standing x next) ≡ Some y → IsInfix text ts x i next → IsInfix text ts y.is i y.next
  infix_same x i next y e h = let same : standing x next ≡ y = cc in subst (λ (y : Standing BinOp). IsInfix text ts y.is i y.next) same h

  right_fine : (i : ℕ) (y : Standing BinOp) → Stands text ts (s.Infix op.Greater) i → right_at ts i ≡ Some y → IsInfix text ts y.is i y.next
  unfolding right_at
  right_fine i y is e =
      step_either (joins ts op.Greater i) _ _ y e
      (λ one e1. joins_says op.Greater i one (λ join second.
      step_either (joins ts op.Greater (i + 1)) _ _ y e1
      (λ two e2. joins_says op.Greater (i + 1) two (λ join' third.
      let place : i + 1 + 1 ≡ i + 2 = omega arith in
      infix_same op.ShiftRightZero i (i + 3) y e2 (is, join, second, join', rw place at third, refl)))
      (λ two e2. step_unless (joins ts op.GreaterEqual (i + 1)) _ y e2 (λ none e3. infix_same op.ShiftRight i (i + 2) y e3 (is, join, second, refl)))))
      (λ one e1. step_unless (joins ts op.GreaterEqual i) _ y e1 (λ none e2. infix_same op.Greater i (i + 1) y e2 (is, refl)))

  pub infix_fine : (i : ℕ) (y : Standing BinOp) → infix_at ts i ≡ Some y → IsInfix text ts y.is i y.next
  unfolding infix_at
  infix_fine i y e = by_sort (sort_at ts i) refl e
    where
      by_sort : (x : Sort) → sort_at ts i ≡ x → infix_of ts x i ≡ Some y → IsInfix text ts y.is i y.next
      by_sort (s.Infix op.Greater) is e = right_fine i y is e
      by_sort (s.Infix op.ShiftRight) is e = absurd (cc)
      by_sort (s.Infix op.ShiftRightZero) is e = absurd (cc)
      by_sort (s.Infix op.LogicOr) is e = infix_same op.LogicOr i (i + 1) y e (is, refl)
      by_sort (s.Infix op.LogicAnd) is e = infix_same op.LogicAnd i (i + 1) y e (is, refl)
      by_sort (s.Infix op.BitOr) is e = infix_same op.BitOr i (i + 1) y e (is, refl)
      by_sort (s.Infix op.BitXor) is e = infix_same op.BitXor i (i + 1) y e (is, refl)
      by_sort (s.Infix op.BitAnd) is e = infix_same op.BitAnd i (i + 1) y e (is, refl)
      by_sort (s.Infix op.Equal) is e = infix_same op.Equal i (i + 1) y e (is, refl)
      by_sort (s.Infix op.NotEqual) is e = infix_same op.NotEqual i (i + 1) y e (is, refl)
      by_sort (s.Infix op.Less) is e = infix_same op.Less i (i + 1) y e (is, refl)
      by_sort (s.Infix op.LessEqual) is e = infix_same op.LessEqual i (i + 1) y e (is, refl)
      by_sort (s.Infix op.GreaterEqual) is e = infix_same op.GreaterEqual i (i + 1) y e (is, refl)
      by_sort (s.Infix op.ShiftLeft) is e = infix_same op.ShiftLeft i (i + 1) y e (is, refl)
      by_sort (s.Infix op.Add) is e = infix_same op.Add i (i + 1) y e (is, refl)
      by_sort (s.Infix op.Sub) is e = infix_same op.Sub i (i + 1) y e (is, refl)
      by_sort (s.Infix op.Mul) is e = infix_same op.Mul i (i + 1) y e (is, refl)
      by_sort (s.Infix op.Div) is e = infix_same op.Div i (i + 1) y e (is, refl)
      by_sort (s.Infix op.Rem) is e = infix_same op.Rem i (i + 1) y e (is, refl)
      by_sort _ is e = absurd (cc)

  assign_same : (x : Option BinOp) (i next : ℕ) (y : Standing (Option BinOp)) → Some (standing x next) ≡ Some y → IsAssignment text ts x i next → IsAssignment text ts y.is i y.next
  assign_same x i next y e h = let same : standing x next ≡ y = cc in subst (λ (y : Standing (Option BinOp)). IsAssignment text ts y.is i y.next) same h

  right_assign_fine : (i : ℕ) (y : Standing (Option BinOp)) → Stands text ts (s.Infix op.Greater) i → right_assign ts i ≡ Some y → IsAssignment text ts y.is i y.next
  unfolding right_assign
  right_assign_fine i y is e =
      step_either (joins ts op.Greater i) _ _ y e
      (λ one e1. joins_says op.Greater i one (λ join second.
      step_unless (joins ts op.Greater (i + 1)) _ y e1 (λ none e2.
      step_if (joins ts op.GreaterEqual (i + 1)) _ y e2 (λ two e3. joins_says op.GreaterEqual (i + 1) two (λ join' third.
      let place : i + 1 + 1 ≡ i + 2 = omega arith in
      assign_same (Some op.ShiftRightZero) i (i + 3) y e3 (is, join, second, join', rw place at third, refl))))))
      (λ one e1. step_if (joins ts op.GreaterEqual i) _ y e1 (λ two e2. joins_says op.GreaterEqual i two (λ join second.
      assign_same (Some op.ShiftRight) i (i + 2) y e2 (is, join, second, refl))))

  pub assign_fine : (i : ℕ) (y : Standing (Option BinOp)) → assign_at ts i ≡ Some y → IsAssignment text ts y.is i y.next
  unfolding assign_at
  assign_fine i y e = by_sort (sort_at ts i) refl e
    where
      by_op : (x : Option BinOp) → sort_at ts i ≡ s.Assign x → assign_of ts (s.Assign x) i ≡ Some y → IsAssignment text ts y.is i y.next
      by_op None is e = assign_same None i (i + 1) y e (is, refl)
      by_op (Some op.ShiftRight) is e = absurd (cc)
      by_op (Some op.ShiftRightZero) is e = absurd (cc)
      by_op (Some op.LogicOr) is e = assign_same (Some op.LogicOr) i (i + 1) y e (is, refl)
      by_op (Some op.LogicAnd) is e = assign_same (Some op.LogicAnd) i (i + 1) y e (is, refl)
      by_op (Some op.BitOr) is e = assign_same (Some op.BitOr) i (i + 1) y e (is, refl)
      by_op (Some op.BitXor) is e = assign_same (Some op.BitXor) i (i + 1) y e (is, refl)
      by_op (Some op.BitAnd) is e = assign_same (Some op.BitAnd) i (i + 1) y e (is, refl)
      by_op (Some op.Equal) is e = assign_same (Some op.Equal) i (i + 1) y e (is, refl)
      by_op (Some op.NotEqual) is e = assign_same (Some op.NotEqual) i (i + 1) y e (is, refl)
      by_op (Some op.Less) is e = assign_same (Some op.Less) i (i + 1) y e (is, refl)
      by_op (Some op.Greater) is e = assign_same (Some op.Greater) i (i + 1) y e (is, refl)
      by_op (Some op.LessEqual) is e = assign_same (Some op.LessEqual) i (i + 1) y e (is, refl)
      by_op (Some op.GreaterEqual) is e = assign_same (Some op.GreaterEqual) i (i + 1) y e (is, refl)
      by_op (Some op.ShiftLeft) is e = assign_same (Some op.ShiftLeft) i (i + 1) y e (is, refl)
      by_op (Some op.Add) is e = assign_same (Some op.Add) i (i + 1) y e (is, refl)
      by_op (Some op.Sub) is e = assign_same (Some op.Sub) i (i + 1) y e (is, refl)
      by_op (Some op.Mul) is e = assign_same (Some op.Mul) i (i + 1) y e (is, refl)
      by_op (Some op.Div) is e = assign_same (Some op.Div) i (i + 1) y e (is, refl)
      by_op (Some op.Rem) is e = assign_same (Some op.Rem) i (i + 1) y e (is, refl)

      by_sort : (x : Sort) → sort_at ts i ≡ x → assign_of ts x i ≡ Some y → IsAssignment text ts y.is i y.next
      by_sort (s.Infix op.Greater) is e = right_assign_fine i y is e
      by_sort (s.Assign x) is e = by_op x is e
      by_sort _ is e = absurd (cc)

  pub level_least : (i : ℕ) → 3 ≤ level_at ts i
  unfolding level_at
  level_least i = by_infix (infix_at ts i) (is_keyword ts word.InstanceOf i)
    where
      by_infix : (o : Option (Standing BinOp)) (b : Bool) → 3 ≤ level_in ts o b
      by_infix (Some x) b = (tightest x.is).0
      by_infix None true = omega arith
      by_infix None false = omega arith

  pub level_infix : (i : ℕ) (y : Standing BinOp) → infix_at ts i ≡ Some y → level_at ts i ≡ level_of y.is
  unfolding level_at
  level_infix i y e = rw e refl

  pub level_asked : (i : ℕ) → infix_at ts i ≡ None → Stands text ts (s.Keyword word.InstanceOf) i → level_at ts i ≡ 6
  unfolding level_at
  level_asked i none is = rw (none, is_keyword_has ts word.InstanceOf i is) refl
