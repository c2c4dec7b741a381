-- What may stand behind an expression, and how one begins.
use Rattle.std.proofs.Common.{◌≡◌, ◌≢◌, ℕ, ◌+◌, ◌-◌, ◌<◌, ◌≤◌, Bool, true, false, ◌||◌, cond, List, Option, Some, None, refl, sym, ap, ◌∙◌, arith, inl, inr}
use Rattle.java_tree.specs.declared.tree.UnOp.{UnOp}
use Rattle.java_tree.specs.declared.tree.UnOp.TheVariants as un
use Rattle.java_tree.specs.declared.tree.BinOp.{BinOp}
use Rattle.java_tree.specs.declared.tree.BinOp.TheVariants as op
use Rattle.java_tree.specs.Plain as t
use Rattle.java_tree.specs.Plain.{TypeExpr, TypeExprs, Expr, Exprs}
use Rattle.java_grammar.specs.declared.token.Tok.{Tok}
use Rattle.java_grammar.specs.declared.token.Sort.{Sort}
use Rattle.java_grammar.specs.declared.token.Sort.TheVariants as s
use Rattle.java_grammar.specs.declared.token.Keyword.TheVariants as word
use Rattle.java_grammar.specs.declared.token.Mark.TheVariants as m
use Rattle.java_grammar.specs.Reads.{sort_at}
use Rattle.java_grammar.specs.Expressions.{level_of, prefix_sort, Stands, IsInfix, IsAssignment, EndsItems, Spells, AreValues, AreMoreValues, AreSizes, AreItems, AreMoreItems, EndsAt}
use Rattle.java_parse_term.specs.declared.signs.Standing.{Standing}
use Rattle.java_parse_term.specs.Marks.{is_keyword}
use Rattle.java_parse_term.specs.Signs.{standing, step_of, is_sign, is_begin, joins, right_at, infix_of, infix_at, right_assign, assign_of, assign_at, level_in, level_at}
use Rattle.java_parse_term.proofs.Steps.{is_keyword_says}
use Rattle.java_parse_term.proofs.TypesComplete.{SpellsType-on, AreBrackets-on}
use Rattle.java_parse_term.proofs.Operators.{tightest, joins_has, joins_not}

-- how loose what stands there would be, as a part of the expression before it
abbrev pub loose_of : Sort → ℕ
loose_of s.Word = 0
loose_of (s.Number long) = 0
loose_of s.Char = 0
loose_of s.Text = 0
loose_of (s.Keyword word.True) = 0
loose_of (s.Keyword word.False) = 0
loose_of (s.Keyword word.Null) = 0
loose_of (s.Keyword word.This) = 0
loose_of (s.Keyword word.Super) = 0
loose_of (s.Keyword word.New) = 0
loose_of (s.Keyword word.InstanceOf) = 6
loose_of (s.Mark m.Open) = 0
loose_of (s.Mark m.Invert) = 0
loose_of (s.Mark m.Not) = 0
loose_of (s.Mark m.Dot) = 0
loose_of (s.Mark m.LeftBracket) = 0
loose_of (s.Mark m.Question) = 13
loose_of (s.Step up) = 1
loose_of (s.Infix x) = 0
loose_of (s.Assign x) = 0
loose_of _ = 16

abbrev pub loose_in : Option (Standing BinOp) → Option (Standing (Option BinOp)) → Sort → ℕ
loose_in (Some x) a k = level_of x.is
loose_in None (Some a) k = 14
loose_in None None k = loose_of k

unfoldable pub loose_at : List Tok → ℕ → ℕ
loose_at ts j = loose_in (infix_at ts j) (assign_at ts j) (sort_at ts j)

pub loose_is : (ts : List Tok) (j : ℕ) (x : Sort) → sort_at ts j ≡ x → loose_at ts j ≡ loose_in (infix_of ts x j) (assign_of ts x j) x
unfolding loose_at infix_at assign_at
loose_is ts j x is = rw is refl

-- an operand begins so, or a sign does
abbrev pub starts : Sort → Bool
starts x = is_begin x || is_sign x

pub ends_loose : (text : List ℕ) (ts : List Tok) (j : ℕ) → EndsAt text ts (sort_at ts j) → loose_at ts j ≡ 16
ends_loose text ts j ends = loose_is ts j (sort_at ts j) refl ∙ by_sort (sort_at ts j) ends
  where
    by_sort : (x : Sort) → EndsAt text ts x → loose_in (infix_of ts x j) (assign_of ts x j) x ≡ 16
    by_sort s.End h = refl
    by_sort (s.Mark m.Close) h = refl
    by_sort (s.Mark m.RightBracket) h = refl
    by_sort (s.Mark m.RightBrace) h = refl
    by_sort (s.Mark m.Comma) h = refl
    by_sort (s.Mark m.Semicolon) h = refl
    by_sort (s.Mark m.Colon) h = refl
    by_sort _ h = absurd h

pub not_begin : (ts : List Tok) (j : ℕ) → 0 < loose_at ts j → is_begin (sort_at ts j) ≡ false
not_begin ts j h = by_sort (sort_at ts j) (rw (loose_is ts j (sort_at ts j) refl) at h)
  where
    by_sort : (x : Sort) → 0 < loose_in (infix_of ts x j) (assign_of ts x j) x → is_begin x ≡ false
    by_sort s.Word h = absurd (omega arith)
    by_sort (s.Number long) h = absurd (omega arith)
    by_sort s.Char h = absurd (omega arith)
    by_sort s.Text h = absurd (omega arith)
    by_sort (s.Keyword word.True) h = absurd (omega arith)
    by_sort (s.Keyword word.False) h = absurd (omega arith)
    by_sort (s.Keyword word.Null) h = absurd (omega arith)
    by_sort (s.Keyword word.This) h = absurd (omega arith)
    by_sort (s.Keyword word.Super) h = absurd (omega arith)
    by_sort (s.Keyword word.New) h = absurd (omega arith)
    by_sort (s.Mark m.Open) h = absurd (omega arith)
    by_sort (s.Mark m.Invert) h = absurd (omega arith)
    by_sort (s.Mark m.Not) h = absurd (omega arith)
    by_sort _ h = refl

pub not_dot : (ts : List Tok) (j : ℕ) → 0 < loose_at ts j → sort_at ts j ≢ s.Mark m.Dot
not_dot ts j h e = let none = loose_is ts j (s.Mark m.Dot) e in omega (arith, none)

pub not_bracket : (ts : List Tok) (j : ℕ) → 0 < loose_at ts j → sort_at ts j ≢ s.Mark m.LeftBracket
not_bracket ts j h e = let none = loose_is ts j (s.Mark m.LeftBracket) e in omega (arith, none)

pub not_question : (ts : List Tok) (j : ℕ) → 13 < loose_at ts j → sort_at ts j ≢ s.Mark m.Question
not_question ts j h e = let none = loose_is ts j (s.Mark m.Question) e in omega (arith, none)

pub not_step : (ts : List Tok) (j : ℕ) → 1 < loose_at ts j → step_of (sort_at ts j) ≡ None
not_step ts j h = by_sort (sort_at ts j) (rw (loose_is ts j (sort_at ts j) refl) at h)
  where
    by_sort : (x : Sort) → 1 < loose_in (infix_of ts x j) (assign_of ts x j) x → step_of x ≡ None
    by_sort (s.Step up) h = absurd (omega arith)
    by_sort _ h = refl

pub not_assign : (ts : List Tok) (j : ℕ) → 14 < loose_at ts j → assign_at ts j ≡ None
unfolding loose_at
not_assign ts j h = by_signs (infix_at ts j) (assign_at ts j) h
  where
    by_signs : (o : Option (Standing BinOp)) (a : Option (Standing (Option BinOp))) → 14 < loose_in o a (sort_at ts j) → a ≡ None
    by_signs (Some x) a h = absurd (omega (arith, (tightest x.is).1))
    by_signs None (Some a) h = absurd (omega arith)
    by_signs None None h = refl

pub loose_infix : (ts : List Tok) (j : ℕ) (y : Standing BinOp) → infix_at ts j ≡ Some y → loose_at ts j ≡ level_of y.is
unfolding loose_at
loose_infix ts j y e = rw e refl

pub loose_assign : (ts : List Tok) (j : ℕ) (y : Standing (Option BinOp)) → infix_at ts j ≡ None → assign_at ts j ≡ Some y → loose_at ts j ≡ 14
unfolding loose_at
loose_assign ts j y none e = rw (none, e) refl

pub loose_level : (ts : List Tok) (k j : ℕ) → k ≤ 12 → k < loose_at ts j → k < level_at ts j
unfolding level_at
loose_level ts k j le h = by_infix (infix_at ts j) refl
  where
    by_asked : (b : Bool) → is_keyword ts word.InstanceOf j ≡ b → k < level_in ts None b
    by_asked true is = let six = loose_is ts j (s.Keyword word.InstanceOf) (is_keyword_says ts word.InstanceOf j is) in omega (arith, six)
    by_asked false is = omega arith

    by_infix : (o : Option (Standing BinOp)) → infix_at ts j ≡ o → k < level_in ts o (is_keyword ts word.InstanceOf j)
    by_infix None is = by_asked (is_keyword ts word.InstanceOf j) refl
    by_infix (Some y) is = let same = loose_infix ts j y is in omega (arith, same)

module _ (text : List ℕ) (ts : List Tok) where
  no_start : (x : Sort) (b : ℕ) → starts x ≡ false → starts (sort_at ts b) ≡ true → sort_at ts b ≢ x
  no_start x b off on e = let both = sym on ∙ ap starts e ∙ off in cc

  -- the operator before an operand is found
  pub infix_has : (x : BinOp) (a b : ℕ) → IsInfix text ts x a b → starts (sort_at ts b) ≡ true → infix_at ts a ≡ Some (standing x b)
  unfolding infix_at right_at
  infix_has op.Greater a b (is, next) h =
      let h' : starts (sort_at ts (a + 1)) ≡ true = rw next at h in
      rw (is, joins_not text ts op.Greater a (no_start _ (a + 1) refl h'), joins_not text ts op.GreaterEqual a (no_start _ (a + 1) refl h'), next) refl
  infix_has op.ShiftRight a b (is, join, second, next) h =
      let two : a + 1 + 1 ≡ b = omega arith in
      let h' : starts (sort_at ts (a + 1 + 1)) ≡ true = rw two h in
      rw (is, joins_has text ts op.Greater a join second, joins_not text ts op.Greater (a + 1) (no_start _ (a + 1 + 1) refl h'), joins_not text ts op.GreaterEqual (a + 1) (no_start _ (a + 1 + 1) refl h'), next) refl
  infix_has op.ShiftRightZero a b (is, join, second, join', third, next) h =
      let two : a + 1 + 1 ≡ a + 2 = omega arith in
      let third' : Stands text ts (s.Infix op.Greater) (a + 1 + 1) = rw two third in
      rw (is, joins_has text ts op.Greater a join second, joins_has text ts op.Greater (a + 1) join' third', next) refl
  infix_has op.LogicOr a b (is, next) h = rw (is, next) refl
  infix_has op.LogicAnd a b (is, next) h = rw (is, next) refl
  infix_has op.BitOr a b (is, next) h = rw (is, next) refl
  infix_has op.BitXor a b (is, next) h = rw (is, next) refl
  infix_has op.BitAnd a b (is, next) h = rw (is, next) refl
  infix_has op.Equal a b (is, next) h = rw (is, next) refl
  infix_has op.NotEqual a b (is, next) h = rw (is, next) refl
  infix_has op.Less a b (is, next) h = rw (is, next) refl
  infix_has op.LessEqual a b (is, next) h = rw (is, next) refl
  infix_has op.GreaterEqual a b (is, next) h = rw (is, next) refl
  infix_has op.ShiftLeft a b (is, next) h = rw (is, next) refl
  infix_has op.Add a b (is, next) h = rw (is, next) refl
  infix_has op.Sub a b (is, next) h = rw (is, next) refl
  infix_has op.Mul a b (is, next) h = rw (is, next) refl
  infix_has op.Div a b (is, next) h = rw (is, next) refl
  infix_has op.Rem a b (is, next) h = rw (is, next) refl

  pub infix_no_assign : (x : BinOp) (a b : ℕ) → IsInfix text ts x a b → starts (sort_at ts b) ≡ true → assign_at ts a ≡ None
  unfolding assign_at right_assign
  infix_no_assign op.Greater a b (is, next) h =
      let h' : starts (sort_at ts (a + 1)) ≡ true = rw next at h in
      rw (is, joins_not text ts op.Greater a (no_start _ (a + 1) refl h'), joins_not text ts op.GreaterEqual a (no_start _ (a + 1) refl h')) refl
  infix_no_assign op.ShiftRight a b (is, join, second, next) h =
      let two : a + 1 + 1 ≡ b = omega arith in
      let h' : starts (sort_at ts (a + 1 + 1)) ≡ true = rw two h in
      rw (is, joins_has text ts op.Greater a join second, joins_not text ts op.Greater (a + 1) (no_start _ (a + 1 + 1) refl h'), joins_not text ts op.GreaterEqual (a + 1) (no_start _ (a + 1 + 1) refl h')) refl
  infix_no_assign op.ShiftRightZero a b (is, join, second, join', third, next) h =
      let two : a + 1 + 1 ≡ a + 2 = omega arith in
      let third' : Stands text ts (s.Infix op.Greater) (a + 1 + 1) = rw two third in
      rw (is, joins_has text ts op.Greater a join second, joins_has text ts op.Greater (a + 1) join' third') refl
  infix_no_assign op.LogicOr a b (is, next) h = rw is refl
  infix_no_assign op.LogicAnd a b (is, next) h = rw is refl
  infix_no_assign op.BitOr a b (is, next) h = rw is refl
  infix_no_assign op.BitXor a b (is, next) h = rw is refl
  infix_no_assign op.BitAnd a b (is, next) h = rw is refl
  infix_no_assign op.Equal a b (is, next) h = rw is refl
  infix_no_assign op.NotEqual a b (is, next) h = rw is refl
  infix_no_assign op.Less a b (is, next) h = rw is refl
  infix_no_assign op.LessEqual a b (is, next) h = rw is refl
  infix_no_assign op.GreaterEqual a b (is, next) h = rw is refl
  infix_no_assign op.ShiftLeft a b (is, next) h = rw is refl
  infix_no_assign op.Add a b (is, next) h = rw is refl
  infix_no_assign op.Sub a b (is, next) h = rw is refl
  infix_no_assign op.Mul a b (is, next) h = rw is refl
  infix_no_assign op.Div a b (is, next) h = rw is refl
  infix_no_assign op.Rem a b (is, next) h = rw is refl

  pub assign_has : (x : Option BinOp) (a b : ℕ) → IsAssignment text ts x a b → starts (sort_at ts b) ≡ true → (assign_at ts a ≡ Some (standing x b)) × (infix_at ts a ≡ None)
  unfolding infix_at right_at assign_at right_assign
  assign_has (Some op.ShiftRight) a b (is, join, second, next) h =
      let apart : joins ts op.Greater a ≡ false = joins_not text ts op.Greater a (λ e. let both = sym second ∙ e in cc) in
      (rw (is, apart, joins_has text ts op.GreaterEqual a join second, next) refl, rw (is, apart, joins_has text ts op.GreaterEqual a join second) refl)
  assign_has (Some op.ShiftRightZero) a b (is, join, second, join', third, next) h =
      let two : a + 1 + 1 ≡ a + 2 = omega arith in
      let third' : Stands text ts (s.Infix op.GreaterEqual) (a + 1 + 1) = rw two third in
      let apart : joins ts op.Greater (a + 1) ≡ false = joins_not text ts op.Greater (a + 1) (λ e. let both = sym third' ∙ e in cc) in (
        rw (is, joins_has text ts op.Greater a join second, apart, joins_has text ts op.GreaterEqual (a + 1) join' third', next) refl,
        rw (is, joins_has text ts op.Greater a join second, apart, joins_has text ts op.GreaterEqual (a + 1) join' third') refl,
      )
  assign_has None a b (is, next) h = (rw (is, next) refl, rw is refl)
  assign_has (Some op.LogicOr) a b (is, next) h = (rw (is, next) refl, rw is refl)
  assign_has (Some op.LogicAnd) a b (is, next) h = (rw (is, next) refl, rw is refl)
  assign_has (Some op.BitOr) a b (is, next) h = (rw (is, next) refl, rw is refl)
  assign_has (Some op.BitXor) a b (is, next) h = (rw (is, next) refl, rw is refl)
  assign_has (Some op.BitAnd) a b (is, next) h = (rw (is, next) refl, rw is refl)
  assign_has (Some op.Equal) a b (is, next) h = (rw (is, next) refl, rw is refl)
  assign_has (Some op.NotEqual) a b (is, next) h = (rw (is, next) refl, rw is refl)
  assign_has (Some op.Less) a b (is, next) h = (rw (is, next) refl, rw is refl)
  assign_has (Some op.LessEqual) a b (is, next) h = (rw (is, next) refl, rw is refl)
  assign_has (Some op.GreaterEqual) a b (is, next) h = (rw (is, next) refl, rw is refl)
  assign_has (Some op.ShiftLeft) a b (is, next) h = (rw (is, next) refl, rw is refl)
  assign_has (Some op.Add) a b (is, next) h = (rw (is, next) refl, rw is refl)
  assign_has (Some op.Sub) a b (is, next) h = (rw (is, next) refl, rw is refl)
  assign_has (Some op.Mul) a b (is, next) h = (rw (is, next) refl, rw is refl)
  assign_has (Some op.Div) a b (is, next) h = (rw (is, next) refl, rw is refl)
  assign_has (Some op.Rem) a b (is, next) h = (rw (is, next) refl, rw is refl)
  assign_has (Some op.Greater) a b (is, next) h = (rw (is, next) refl, rw is refl)

  prefix_starts : (x : UnOp) → starts (prefix_sort x) ≡ true
  prefix_starts un.Plus = refl
  prefix_starts un.Minus = refl
  prefix_starts un.Invert = refl
  prefix_starts un.Not = refl

  truth_starts : (b : Bool) (i : ℕ) → Stands text ts (s.Keyword (cond b word.True word.False)) i → starts (sort_at ts i) ≡ true
  truth_starts true i is = rw is refl
  truth_starts false i is = rw is refl

  -- an expression begins with an operand or a sign
  pub Spells-starts : (k : ℕ) (e : Expr) (i j : ℕ) → k ≤ 14 → Spells text ts k e i j → starts (sort_at ts i) ≡ true
  Spells-starts k (t.Number n v d b) i j le (node, is, p, q, next) = rw is refl
  Spells-starts k (t.Char n c) i j le (node, is, p, next) = rw is refl
  Spells-starts k (t.Text n us) i j le (node, is, p, next) = rw is refl
  Spells-starts k (t.Truth n b) i j le (node, is, next) = truth_starts b i is
  Spells-starts k (t.Null n) i j le (node, is, next) = rw is refl
  Spells-starts k (t.This n) i j le (node, is, next) = rw is refl
  Spells-starts k (t.Name n x) i j le (node, (is, name), next) = rw is refl
  Spells-starts k (t.Field n e x) i j le (node, a, p, dot, id, next) = Spells-starts 0 e i a (omega arith) p
  Spells-starts k (t.SuperField n x) i j le (node, is, dot, id, next) = rw is refl
  Spells-starts k (t.Index n a b) i j le (node, apart, c, p, o, d, q, o', next) = Spells-starts 0 a i c (omega arith) p
  Spells-starts k (t.Call n t.NoExpr x es) i j le (node, (is, name), o, vs) = rw is refl
  Spells-starts k (t.Call n (t.AnExpr e) x es) i j le (node, a, p, dot, id, o, vs) = Spells-starts 0 e i a (omega arith) p
  Spells-starts k (t.SuperMethod n x es) i j le (node, is, dot, id, o, vs) = rw is refl
  Spells-starts k (t.New n ty es) i j le (node, is, class, a, p, o, vs) = rw is refl
  Spells-starts k (t.NewArray n ty es d) i j le (node, is, class, a, p, some, b, q, w) = rw is refl
  Spells-starts k (t.NewFilled n ty e) i j le (node, is, class, row_is, a, p, q) = rw is refl
  Spells-starts k (t.Items n es) i j le (node, low, o, p) = absurd (omega arith)
  Spells-starts k (t.Paren n e) i j le (node, is, a, p, o, next) = rw is refl
  Spells-starts k (t.Unary n x e) i j le (node, low, is, p) = rw is (prefix_starts x)
  Spells-starts k (t.Step n up true e) i j le (node, low, is, q, p) = rw is refl
  Spells-starts k (t.Step n up false e) i j le (node, low, q, a, p, o, next) = Spells-starts 0 e i a (omega arith) p
  Spells-starts k (t.Cast n ty c e) i j le (node, low, is, a, p, close, from, may, q) = rw is refl
  Spells-starts k (t.Binary n x a b) i j le (node, low, c, p, d, o, q) = Spells-starts (level_of x) a i c (omega (arith, (tightest x).1)) p
  Spells-starts k (t.InstanceOf n e ty) i j le (node, low, a, p, o, none, q) = Spells-starts 6 e i a (omega arith) p
  Spells-starts k (t.Cond n a b c) i j le (node, low, d, p, o, f, q, o', q') = Spells-starts 12 a i d (omega arith) p
  Spells-starts k (t.Assign n x a b) i j le (node, low, q, c, p, d, o, w) = Spells-starts 2 a i c (omega arith) p

  pub infix_on : (x : BinOp) (a b : ℕ) → IsInfix text ts x a b → a < b
  infix_on op.ShiftRight a b (is, join, second, next) = omega arith
  infix_on op.ShiftRightZero a b (is, join, second, join', third, next) = omega arith
  infix_on op.LogicOr a b (is, next) = omega arith
  infix_on op.LogicAnd a b (is, next) = omega arith
  infix_on op.BitOr a b (is, next) = omega arith
  infix_on op.BitXor a b (is, next) = omega arith
  infix_on op.BitAnd a b (is, next) = omega arith
  infix_on op.Equal a b (is, next) = omega arith
  infix_on op.NotEqual a b (is, next) = omega arith
  infix_on op.Less a b (is, next) = omega arith
  infix_on op.LessEqual a b (is, next) = omega arith
  infix_on op.GreaterEqual a b (is, next) = omega arith
  infix_on op.ShiftLeft a b (is, next) = omega arith
  infix_on op.Add a b (is, next) = omega arith
  infix_on op.Sub a b (is, next) = omega arith
  infix_on op.Mul a b (is, next) = omega arith
  infix_on op.Div a b (is, next) = omega arith
  infix_on op.Rem a b (is, next) = omega arith
  infix_on op.Greater a b (is, next) = omega arith

  pub assign_on : (x : Option BinOp) (a b : ℕ) → IsAssignment text ts x a b → a < b
  assign_on (Some op.ShiftRight) a b (is, join, second, next) = omega arith
  assign_on (Some op.ShiftRightZero) a b (is, join, second, join', third, next) = omega arith
  assign_on None a b (is, next) = omega arith
  assign_on (Some op.LogicOr) a b (is, next) = omega arith
  assign_on (Some op.LogicAnd) a b (is, next) = omega arith
  assign_on (Some op.BitOr) a b (is, next) = omega arith
  assign_on (Some op.BitXor) a b (is, next) = omega arith
  assign_on (Some op.BitAnd) a b (is, next) = omega arith
  assign_on (Some op.Equal) a b (is, next) = omega arith
  assign_on (Some op.NotEqual) a b (is, next) = omega arith
  assign_on (Some op.Less) a b (is, next) = omega arith
  assign_on (Some op.LessEqual) a b (is, next) = omega arith
  assign_on (Some op.GreaterEqual) a b (is, next) = omega arith
  assign_on (Some op.ShiftLeft) a b (is, next) = omega arith
  assign_on (Some op.Add) a b (is, next) = omega arith
  assign_on (Some op.Sub) a b (is, next) = omega arith
  assign_on (Some op.Mul) a b (is, next) = omega arith
  assign_on (Some op.Div) a b (is, next) = omega arith
  assign_on (Some op.Rem) a b (is, next) = omega arith
  assign_on (Some op.Greater) a b (is, next) = omega arith

  items_on : (i j : ℕ) → EndsItems text ts i j → i < j
  items_on i j (inl (a, b)) = omega arith
  items_on i j (inr (a, b, c)) = omega arith

  mutual
    pub Spells-on : (k : ℕ) (e : Expr) (i j : ℕ) → Spells text ts k e i j → i < j
    Spells-on k (t.Number n v d b) i j (node, is, p, q, next) = omega arith
    Spells-on k (t.Char n c) i j (node, is, p, next) = omega arith
    Spells-on k (t.Text n us) i j (node, is, p, next) = omega arith
    Spells-on k (t.Truth n b) i j (node, is, next) = omega arith
    Spells-on k (t.Null n) i j (node, is, next) = omega arith
    Spells-on k (t.This n) i j (node, is, next) = omega arith
    Spells-on k (t.Name n x) i j (node, id, next) = omega arith
    Spells-on k (t.Field n e x) i j (node, a, p, dot, id, next) = let on = Spells-on 0 e i a p in omega arith
    Spells-on k (t.SuperField n x) i j (node, is, dot, id, next) = omega arith
    Spells-on k (t.Index n a b) i j (node, apart, c, p, o, d, q, o', next) = let on = Spells-on 0 a i c p in let on' = Spells-on 14 b (c + 1) d q in omega arith
    Spells-on k (t.Call n t.NoExpr x es) i j (node, id, o, vs) = let on = AreValues-on es (i + 2) j vs in omega arith
    Spells-on k (t.Call n (t.AnExpr e) x es) i j (node, a, p, dot, id, o, vs) = let on = Spells-on 0 e i a p in let on' = AreValues-on es (a + 3) j vs in omega arith
    Spells-on k (t.SuperMethod n x es) i j (node, is, dot, id, o, vs) = let on = AreValues-on es (i + 4) j vs in omega arith
    Spells-on k (t.New n ty es) i j (node, is, class, a, p, o, vs) = let on = SpellsType-on text ts ty (i + 1) a p in let on' = AreValues-on es (a + 1) j vs in omega arith
    Spells-on k (t.NewArray n ty es d) i j (node, is, class, a, p, some, b, q, w) =
        let on = SpellsType-on text ts ty (i + 1) a p in
        let on' = AreSizes-on es a b q in
        let on'' = AreBrackets-on text ts d b j w in
        omega arith
    Spells-on k (t.NewFilled n ty e) i j (node, is, class, row_is, a, p, q) = let on = SpellsType-on text ts ty (i + 1) a p in let on' = Spells-on 15 e a j q in omega arith
    Spells-on k (t.Items n es) i j (node, low, o, p) = let on = AreItems-on es (i + 1) j p in omega arith
    Spells-on k (t.Paren n e) i j (node, is, a, p, o, next) = let on = Spells-on 14 e (i + 1) a p in omega arith
    Spells-on k (t.Unary n x e) i j (node, low, is, p) = let on = Spells-on 2 e (i + 1) j p in omega arith
    Spells-on k (t.Step n up true e) i j (node, low, is, q, p) = let on = Spells-on 2 e (i + 1) j p in omega arith
    Spells-on k (t.Step n up false e) i j (node, low, q, a, p, o, next) = let on = Spells-on 0 e i a p in omega arith
    Spells-on k (t.Cast n ty c e) i j (node, low, is, a, p, close, from, may, q) = let on = SpellsType-on text ts ty (i + 1) a p in let on' = Spells-on 2 e (a + 1) j q in omega arith
    Spells-on k (t.Binary n x a b) i j (node, low, c, p, d, o, q) =
        let on = Spells-on (level_of x) a i c p in
        let on' = infix_on x c d o in
        let on'' = Spells-on (level_of x - 1) b d j q in
        omega arith
    Spells-on k (t.InstanceOf n e ty) i j (node, low, a, p, o, none, q) = let on = Spells-on 6 e i a p in let on' = SpellsType-on text ts ty (a + 1) j q in omega arith
    Spells-on k (t.Cond n a b c) i j (node, low, d, p, o, f, q, o', q') =
        let on = Spells-on 12 a i d p in
        let on' = Spells-on 14 b (d + 1) f q in
        let on'' = Spells-on 13 c (f + 1) j q' in
        omega arith
    Spells-on k (t.Assign n x a b) i j (node, low, q, c, p, d, o, w) =
        let on = Spells-on 2 a i c p in
        let on' = assign_on x c d o in
        let on'' = Spells-on 14 b d j w in
        omega arith

    pub AreValues-on : (es : Exprs) (i j : ℕ) → AreValues text ts es i j → i < j
    AreValues-on t.End i j (is, next) = omega arith
    AreValues-on (t.Also e es) i j (a, p, more) = let on = Spells-on 14 e i a p in let on' = AreMoreValues-on es a j more in omega arith

    AreMoreValues-on : (es : Exprs) (i j : ℕ) → AreMoreValues text ts es i j → i < j
    AreMoreValues-on t.End i j (is, next) = omega arith
    AreMoreValues-on (t.Also e es) i j (is, a, p, more) = let on = Spells-on 14 e (i + 1) a p in let on' = AreMoreValues-on es a j more in omega arith

    AreSizes-on : (es : Exprs) (i j : ℕ) → AreSizes text ts es i j → i ≤ j
    AreSizes-on t.End i j next = omega arith
    AreSizes-on (t.Also e es) i j (is, a, p, o, more) = let on = Spells-on 14 e (i + 1) a p in let on' = AreSizes-on es (a + 1) j more in omega arith

    AreItems-on : (es : Exprs) (i j : ℕ) → AreItems text ts es i j → i < j
    AreItems-on t.End i j h = items_on i j h
    AreItems-on (t.Also e es) i j (a, p, more) = let on = Spells-on 15 e i a p in let on' = AreMoreItems-on es a j more in omega arith

    AreMoreItems-on : (es : Exprs) (i j : ℕ) → AreMoreItems text ts es i j → i < j
    AreMoreItems-on t.End i j h = items_on i j h
    AreMoreItems-on (t.Also e es) i j (is, a, p, more) = let on = Spells-on 15 e (i + 1) a p in let on' = AreMoreItems-on es a j more in omega arith
