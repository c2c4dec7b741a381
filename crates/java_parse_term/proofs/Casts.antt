-- A `(` is that of a cast or of an expression in brackets.
use Rattle.std.proofs.Common.{◌≡◌, ◌≢◌, ℕ, zero, suc, ◌+◌, ◌-◌, ◌<◌, ◌≤◌, Bool, true, false, ◌&&◌, ◌||◌, cond, List, [], ◌∷◌, Option, Some, None, refl, sym, ap, subst, ◌∙◌, arith, ◌==◌, ◌⊎◌, inl, inr}
use Rattle.std.proofs.lemmas.Bool.Decides.{nat_tests}
use Rattle.java_tree.specs.declared.tree.Name.{Name}
use Rattle.java_tree.specs.declared.tree.Head.{Head}
use Rattle.java_tree.specs.declared.tree.Head.TheVariants as head
use Rattle.java_tree.specs.declared.tree.Primitive.{Primitive}
use Rattle.java_tree.specs.declared.tree.UnOp.{UnOp}
use Rattle.java_tree.specs.declared.tree.UnOp.TheVariants as un
use Rattle.java_tree.specs.declared.tree.BinOp.{BinOp}
use Rattle.java_tree.specs.declared.tree.BinOp.TheVariants as op
use Rattle.java_tree.specs.Plain as t
use Rattle.java_tree.specs.Plain.{TypeExpr, TypeExprs, Expr, Exprs}
use Rattle.java_grammar.specs.declared.token.Tok.{Tok}
use Rattle.java_grammar.specs.declared.token.Sort.{Sort}
use Rattle.java_grammar.specs.declared.token.Sort.TheVariants as s
use Rattle.java_grammar.specs.declared.token.Keyword.TheVariants as word
use Rattle.java_grammar.specs.declared.token.Mark.TheVariants as m
use Rattle.java_grammar.specs.Reads.{sort_at}
use Rattle.java_grammar.specs.Expressions.{word_of, level_of, prefix_sort, IsPrimitive, MayBeCast, Stands, AreBrackets, IsPath, IsHead, IsInfix, IsAssignment, SpellsType, AreArguments, AreMoreTypes, EndsItems, Spells, AreSizes, AreItems, AreMoreItems}
use Rattle.java_parse_term.specs.Marks.{given, is_mark}
use Rattle.java_parse_term.specs.Signs.{is_sign, is_begin}
use Rattle.java_parse_term.specs.Types.{primitive_of, type_end}
use Rattle.java_parse_term.specs.Parse.{casts_primitive, casts_to, is_cast}
use Rattle.java_parse_term.proofs.Steps.{no_and, is_mark_says, is_mark_has}
use Rattle.java_parse_term.proofs.TypesComplete.{primitive_has, SpellsType-on}
use Rattle.java_parse_term.proofs.Scans.{Type_end, type_end_fine, type_end_again}
use Rattle.java_parse_term.proofs.Operators.{no_sign_has}
use Rattle.java_parse_term.proofs.Follows.{starts, infix_on, assign_on, Spells-starts, Spells-on}

pub below_or_not : (p a : ℕ) → (p < a) ⊎ (a ≤ p)
below_or_not p a = grind arith

pub start_no_primitive : (x : Sort) → starts x ≡ true → primitive_of x ≡ None
start_no_primitive (s.Keyword word.Int) e = cc
start_no_primitive (s.Keyword word.Long) e = cc
start_no_primitive (s.Keyword word.Char) e = cc
start_no_primitive (s.Keyword word.Boolean) e = cc
start_no_primitive _ e = refl

module _ (text : List ℕ) (ts : List Tok) where
  -- ---- a type has no parentheses

  record NoParen (i j : ℕ) : Type 0 where
    no_open : (p : ℕ) → i ≤ p → p < j → sort_at ts p ≢ s.Mark m.Open
    no_close : (p : ℕ) → i ≤ p → p < j → sort_at ts p ≢ s.Mark m.Close

  none_in : (i j : ℕ) → j ≤ i → NoParen i j
  none_in i j le = record { no_open = λ p a b. absurd (omega arith); no_close = λ p a b. absurd (omega arith) }

  one_in : (i : ℕ) (x : Sort) → sort_at ts i ≡ x → x ≢ s.Mark m.Open → x ≢ s.Mark m.Close → NoParen i (i + 1)
  one_in i x is a b = record {
    no_open = λ p low high e. let same : p ≡ i = omega arith in a (sym is ∙ (rw same at e));
    no_close = λ p low high e. let same : p ≡ i = omega arith in b (sym is ∙ (rw same at e));
  }

  join_in : (i a j : ℕ) → NoParen i a → NoParen a j → NoParen i j
  join_in i a j first second = record {
    no_open = λ p low high. by_place (below_or_not p a) (λ h. first.no_open p low h) (λ h. second.no_open p h high);
    no_close = λ p low high. by_place (below_or_not p a) (λ h. first.no_close p low h) (λ h. second.no_close p h high);
  }
    where
      by_place : {Z : Type 0} {p : ℕ} → (p < a) ⊎ (a ≤ p) → (p < a → Z) → (a ≤ p → Z) → Z
      by_place (inl h) f g = f h
      by_place (inr h) f g = g h

  to_in : (i j k : ℕ) → j ≡ k → NoParen i j → NoParen i k
  to_in i j k e h = subst (NoParen i) e h

  path_plain : (xs : List Name) (i j : ℕ) → IsPath text ts xs i j → NoParen i j
  path_plain [] i j h = absurd h
  path_plain (x ∷ []) i j ((is, name), next) = to_in i (i + 1) j (sym next) (one_in i s.Word is (λ e. cc) (λ e. cc))
  path_plain (x ∷ y ∷ xs) i j ((is, name), dot, h) =
      let two : i + 1 + 1 ≡ i + 2 = omega arith in
      join_in i (i + 1) j (one_in i s.Word is (λ e. cc) (λ e. cc))
      (join_in (i + 1) (i + 2) j (to_in (i + 1) (i + 1 + 1) (i + 2) two (one_in (i + 1) _ dot (λ e. cc) (λ e. cc))) (path_plain (y ∷ xs) (i + 2) j h))

  word_apart : (p : Primitive) → (s.Keyword (word_of p) ≢ s.Mark m.Open) × (s.Keyword (word_of p) ≢ s.Mark m.Close)
  word_apart p = (λ e. cc, λ e. cc)

  head_plain : (h : Head) (i j : ℕ) → IsHead text ts h i j → NoParen i j
  head_plain (head.Prim p) i j (is, next) = to_in i (i + 1) j (sym next) (one_in i (s.Keyword (word_of p)) is (word_apart p).0 (word_apart p).1)
  head_plain (head.Path xs) i j h = path_plain xs i j h

  brackets_plain : (d i j : ℕ) → AreBrackets text ts d i j → NoParen i j
  brackets_plain zero i j e = none_in i j (omega arith)
  brackets_plain (suc d) i j (a, b, h) =
      let two : i + 1 + 1 ≡ i + 2 = omega arith in
      join_in i (i + 1) j (one_in i _ a (λ e. cc) (λ e. cc))
      (join_in (i + 1) (i + 2) j (to_in (i + 1) (i + 1 + 1) (i + 2) two (one_in (i + 1) _ b (λ e. cc) (λ e. cc))) (brackets_plain d (i + 2) j h))

  mutual
    type_plain_in : (x : TypeExpr) (i j : ℕ) → SpellsType text ts x i j → NoParen i j
    type_plain_in (t.Written n h span args d) i j (node, a, p, q, b, r, w) =
        join_in i a j (head_plain h i a p) (join_in a b j (arguments_plain h args a b r) (brackets_plain d b j w))

    arguments_plain : (h : Head) (xs : TypeExprs) (i j : ℕ) → AreArguments text ts h xs i j → NoParen i j
    arguments_plain h t.NoTypes i j e = none_in i j (omega arith)
    arguments_plain (head.Prim p) (t.AndType x rest) i j e = absurd e
    arguments_plain (head.Path xs) (t.AndType x rest) i j (less, a, p, no_prim, more) =
        join_in i (i + 1) j (one_in i _ less (λ e. cc) (λ e. cc)) (join_in (i + 1) a j (type_plain_in x (i + 1) a p) (more_plain rest a j more))

    more_plain : (xs : TypeExprs) (i j : ℕ) → AreMoreTypes text ts xs i j → NoParen i j
    more_plain t.NoTypes i j (is, next) = to_in i (i + 1) j (sym next) (one_in i _ is (λ e. cc) (λ e. cc))
    more_plain (t.AndType x rest) i j (is, a, p, no_prim, more) =
        join_in i (i + 1) j (one_in i _ is (λ e. cc) (λ e. cc)) (join_in (i + 1) a j (type_plain_in x (i + 1) a p) (more_plain rest a j more))

  -- ---- an expression does not go past a `)` before which no `(` stands

  module _ (begin a : ℕ) (close : sort_at ts a ≡ s.Mark m.Close) (free : (p : ℕ) → begin ≤ p → p < a → sort_at ts p ≢ s.Mark m.Open) where
    past : (p : ℕ) (x : Sort) → sort_at ts p ≡ x → x ≢ s.Mark m.Close → p ≤ a → p + 1 ≤ a
    past p x is other le = by_place (below_or_not p a)
      where
        by_place : (p < a) ⊎ (a ≤ p) → p + 1 ≤ a
        by_place (inl h) = omega arith
        by_place (inr h) = let same : p ≡ a = omega arith in absurd (other (sym is ∙ ap (λ q. sort_at ts q) same ∙ close))

    never : (p : ℕ) → begin ≤ p → p ≤ a → sort_at ts p ≡ s.Mark m.Open → ⊥
    never p low le is = let on = past p (s.Mark m.Open) is (λ e. cc) le in free p low (omega arith) is

    type_past : (x : TypeExpr) (i j : ℕ) → i ≤ a → SpellsType text ts x i j → j ≤ a
    type_past x i j le p = by_place (below_or_not a j)
      where
        by_place : (a < j) ⊎ (j ≤ a) → j ≤ a
        by_place (inl h) = absurd ((type_plain_in x i j p).no_close a le h close)
        by_place (inr h) = h

    brackets_past : (d i j : ℕ) → i ≤ a → AreBrackets text ts d i j → j ≤ a
    brackets_past d i j le p = by_place (below_or_not a j)
      where
        by_place : (a < j) ⊎ (j ≤ a) → j ≤ a
        by_place (inl h) = absurd ((brackets_plain d i j p).no_close a le h close)
        by_place (inr h) = h

    infix_past : (x : BinOp) (i j : ℕ) → i ≤ a → IsInfix text ts x i j → j ≤ a
    infix_past op.ShiftRight i j le (is, join, second, next) =
        let one = past i _ is (λ e. cc) le in
        let two = past (i + 1) _ second (λ e. cc) one in
        omega arith
    infix_past op.ShiftRightZero i j le (is, join, second, join', third, next) =
        let one = past i _ is (λ e. cc) le in
        let two = past (i + 1) _ second (λ e. cc) one in
        let three = past (i + 2) _ third (λ e. cc) (omega arith) in
        omega arith
    infix_past op.LogicOr i j le (is, next) = let one = past i _ is (λ e. cc) le in omega arith
    infix_past op.LogicAnd i j le (is, next) = let one = past i _ is (λ e. cc) le in omega arith
    infix_past op.BitOr i j le (is, next) = let one = past i _ is (λ e. cc) le in omega arith
    infix_past op.BitXor i j le (is, next) = let one = past i _ is (λ e. cc) le in omega arith
    infix_past op.BitAnd i j le (is, next) = let one = past i _ is (λ e. cc) le in omega arith
    infix_past op.Equal i j le (is, next) = let one = past i _ is (λ e. cc) le in omega arith
    infix_past op.NotEqual i j le (is, next) = let one = past i _ is (λ e. cc) le in omega arith
    infix_past op.Less i j le (is, next) = let one = past i _ is (λ e. cc) le in omega arith
    infix_past op.Greater i j le (is, next) = let one = past i _ is (λ e. cc) le in omega arith
    infix_past op.LessEqual i j le (is, next) = let one = past i _ is (λ e. cc) le in omega arith
    infix_past op.GreaterEqual i j le (is, next) = let one = past i _ is (λ e. cc) le in omega arith
    infix_past op.ShiftLeft i j le (is, next) = let one = past i _ is (λ e. cc) le in omega arith
    infix_past op.Add i j le (is, next) = let one = past i _ is (λ e. cc) le in omega arith
    infix_past op.Sub i j le (is, next) = let one = past i _ is (λ e. cc) le in omega arith
    infix_past op.Mul i j le (is, next) = let one = past i _ is (λ e. cc) le in omega arith
    infix_past op.Div i j le (is, next) = let one = past i _ is (λ e. cc) le in omega arith
    infix_past op.Rem i j le (is, next) = let one = past i _ is (λ e. cc) le in omega arith

    assign_past : (x : Option BinOp) (i j : ℕ) → i ≤ a → IsAssignment text ts x i j → j ≤ a
    assign_past (Some op.ShiftRight) i j le (is, join, second, next) =
        let one = past i _ is (λ e. cc) le in
        let two = past (i + 1) _ second (λ e. cc) one in
        omega arith
    assign_past (Some op.ShiftRightZero) i j le (is, join, second, join', third, next) =
        let one = past i _ is (λ e. cc) le in
        let two = past (i + 1) _ second (λ e. cc) one in
        let three = past (i + 2) _ third (λ e. cc) (omega arith) in
        omega arith
    assign_past None i j le (is, next) = let one = past i _ is (λ e. cc) le in omega arith
    assign_past (Some op.LogicOr) i j le (is, next) = let one = past i _ is (λ e. cc) le in omega arith
    assign_past (Some op.LogicAnd) i j le (is, next) = let one = past i _ is (λ e. cc) le in omega arith
    assign_past (Some op.BitOr) i j le (is, next) = let one = past i _ is (λ e. cc) le in omega arith
    assign_past (Some op.BitXor) i j le (is, next) = let one = past i _ is (λ e. cc) le in omega arith
    assign_past (Some op.BitAnd) i j le (is, next) = let one = past i _ is (λ e. cc) le in omega arith
    assign_past (Some op.Equal) i j le (is, next) = let one = past i _ is (λ e. cc) le in omega arith
    assign_past (Some op.NotEqual) i j le (is, next) = let one = past i _ is (λ e. cc) le in omega arith
    assign_past (Some op.Less) i j le (is, next) = let one = past i _ is (λ e. cc) le in omega arith
    assign_past (Some op.Greater) i j le (is, next) = let one = past i _ is (λ e. cc) le in omega arith
    assign_past (Some op.LessEqual) i j le (is, next) = let one = past i _ is (λ e. cc) le in omega arith
    assign_past (Some op.GreaterEqual) i j le (is, next) = let one = past i _ is (λ e. cc) le in omega arith
    assign_past (Some op.ShiftLeft) i j le (is, next) = let one = past i _ is (λ e. cc) le in omega arith
    assign_past (Some op.Add) i j le (is, next) = let one = past i _ is (λ e. cc) le in omega arith
    assign_past (Some op.Sub) i j le (is, next) = let one = past i _ is (λ e. cc) le in omega arith
    assign_past (Some op.Mul) i j le (is, next) = let one = past i _ is (λ e. cc) le in omega arith
    assign_past (Some op.Div) i j le (is, next) = let one = past i _ is (λ e. cc) le in omega arith
    assign_past (Some op.Rem) i j le (is, next) = let one = past i _ is (λ e. cc) le in omega arith

    prefix_past : (x : UnOp) (i : ℕ) → i ≤ a → Stands text ts (prefix_sort x) i → i + 1 ≤ a
    prefix_past un.Plus i le is = past i _ is (λ e. cc) le
    prefix_past un.Minus i le is = past i _ is (λ e. cc) le
    prefix_past un.Invert i le is = past i _ is (λ e. cc) le
    prefix_past un.Not i le is = past i _ is (λ e. cc) le

    truth_past : (b : Bool) (i : ℕ) → i ≤ a → Stands text ts (s.Keyword (cond b word.True word.False)) i → i + 1 ≤ a
    truth_past true i le is = past i _ is (λ e. cc) le
    truth_past false i le is = past i _ is (λ e. cc) le

    items_past : (i j : ℕ) → i ≤ a → EndsItems text ts i j → j ≤ a
    items_past i j le (inl (is, next)) = let one = past i _ is (λ e. cc) le in omega arith
    items_past i j le (inr (is, second, next)) = let one = past i _ is (λ e. cc) le in let two = past (i + 1) _ second (λ e. cc) one in omega arith

    mutual
      pub expr_past : (k : ℕ) (e : Expr) (i j : ℕ) → begin ≤ i → i ≤ a → Spells text ts k e i j → j ≤ a
      expr_past k (t.Number n v d b) i j low le (node, is, p, q, next) = let one = past i _ is (λ e. cc) le in omega arith
      expr_past k (t.Char n c) i j low le (node, is, p, next) = let one = past i _ is (λ e. cc) le in omega arith
      expr_past k (t.Text n us) i j low le (node, is, p, next) = let one = past i _ is (λ e. cc) le in omega arith
      expr_past k (t.Truth n b) i j low le (node, is, next) = let one = truth_past b i le is in omega arith
      expr_past k (t.Null n) i j low le (node, is, next) = let one = past i _ is (λ e. cc) le in omega arith
      expr_past k (t.This n) i j low le (node, is, next) = let one = past i _ is (λ e. cc) le in omega arith
      expr_past k (t.Name n x) i j low le (node, (is, name), next) = let one = past i _ is (λ e. cc) le in omega arith
      expr_past k (t.Field n e x) i j low le (node, c, p, dot, (is, name), next) =
          let one = expr_past 0 e i c low le p in
          let two = past c _ dot (λ e. cc) one in
          let three = past (c + 1) _ is (λ e. cc) two in
          omega arith
      expr_past k (t.SuperField n x) i j low le (node, is, dot, (id, name), next) =
          let one = past i _ is (λ e. cc) le in
          let two = past (i + 1) _ dot (λ e. cc) one in
          let three = past (i + 2) _ id (λ e. cc) (omega arith) in
          omega arith
      expr_past k (t.Index n x y) i j low le (node, apart, c, p, o, d, q, o', next) =
          let on = Spells-on text ts 0 x i c p in
          let one = expr_past 0 x i c low le p in
          let two = past c _ o (λ e. cc) one in
          let three = expr_past 14 y (c + 1) d (omega arith) two q in
          let four = past d _ o' (λ e. cc) three in
          omega arith
      expr_past k (t.Call n t.NoExpr x es) i j low le (node, (is, name), o, vs) =
          let one = past i _ is (λ e. cc) le in
          absurd (never (i + 1) (omega arith) one o)
      expr_past k (t.Call n (t.AnExpr e) x es) i j low le (node, c, p, dot, (is, name), o, vs) =
          let on = Spells-on text ts 0 e i c p in
          let one = expr_past 0 e i c low le p in
          let two = past c _ dot (λ e. cc) one in
          let three = past (c + 1) _ is (λ e. cc) two in
          absurd (never (c + 2) (omega arith) (omega arith) o)
      expr_past k (t.SuperMethod n x es) i j low le (node, is, dot, (id, name), o, vs) =
          let one = past i _ is (λ e. cc) le in
          let two = past (i + 1) _ dot (λ e. cc) one in
          let three = past (i + 2) _ id (λ e. cc) (omega arith) in
          absurd (never (i + 3) (omega arith) (omega arith) o)
      expr_past k (t.New n ty es) i j low le (node, is, class, c, p, o, vs) =
          let on = SpellsType-on text ts ty (i + 1) c p in
          let one = past i _ is (λ e. cc) le in
          let two = type_past ty (i + 1) c one p in
          absurd (never c (omega arith) two o)
      expr_past k (t.NewArray n ty es d) i j low le (node, is, class, c, p, some, b, q, w) =
          let on = SpellsType-on text ts ty (i + 1) c p in
          let one = past i _ is (λ e. cc) le in
          let two = type_past ty (i + 1) c one p in
          let three = sizes_past es c b (omega arith) two q in
          brackets_past d b j three w
      expr_past k (t.NewFilled n ty e) i j low le (node, is, class, row_is, c, p, q) =
          let on = SpellsType-on text ts ty (i + 1) c p in
          let one = past i _ is (λ e. cc) le in
          let two = type_past ty (i + 1) c one p in
          expr_past 15 e c j (omega arith) two q
      expr_past k (t.Items n es) i j low le (node, loose, is, p) =
          let one = past i _ is (λ e. cc) le in
          all_items_past es (i + 1) j (omega arith) one p
      expr_past k (t.Paren n e) i j low le (node, is, c, p, o, next) = absurd (never i low le is)
      expr_past k (t.Unary n x e) i j low le (node, loose, is, p) = let one = prefix_past x i le is in expr_past 2 e (i + 1) j (omega arith) one p
      expr_past k (t.Step n up true e) i j low le (node, loose, is, q, p) = let one = past i _ is (λ e. cc) le in expr_past 2 e (i + 1) j (omega arith) one p
      expr_past k (t.Step n up false e) i j low le (node, loose, q, c, p, o, next) =
          let one = expr_past 0 e i c low le p in
          let two = past c _ o (λ e. cc) one in
          omega arith
      expr_past k (t.Cast n ty c e) i j low le (node, loose, is, d, p, o, from, may, q) = absurd (never i low le is)
      expr_past k (t.Binary n x e f) i j low le (node, loose, c, p, d, o, q) =
          let on = Spells-on text ts (level_of x) e i c p in
          let one = expr_past (level_of x) e i c low le p in
          let two = infix_past x c d one o in
          let on' = infix_on text ts x c d o in
          expr_past (level_of x - 1) f d j (omega arith) two q
      expr_past k (t.InstanceOf n e ty) i j low le (node, loose, c, p, o, none, q) =
          let one = expr_past 6 e i c low le p in
          let two = past c _ o (λ e. cc) one in
          type_past ty (c + 1) j two q
      expr_past k (t.Cond n e f g) i j low le (node, loose, c, p, o, d, q, o', q') =
          let on = Spells-on text ts 12 e i c p in
          let on' = Spells-on text ts 14 f (c + 1) d q in
          let one = expr_past 12 e i c low le p in
          let two = past c _ o (λ e. cc) one in
          let three = expr_past 14 f (c + 1) d (omega arith) two q in
          let four = past d _ o' (λ e. cc) three in
          expr_past 13 g (d + 1) j (omega arith) four q'
      expr_past k (t.Assign n x e f) i j low le (node, loose, v, c, p, d, o, q) =
          let on = Spells-on text ts 2 e i c p in
          let one = expr_past 2 e i c low le p in
          let two = assign_past x c d one o in
          let on' = assign_on text ts x c d o in
          expr_past 14 f d j (omega arith) two q

      sizes_past : (es : Exprs) (i j : ℕ) → begin ≤ i → i ≤ a → AreSizes text ts es i j → j ≤ a
      sizes_past t.End i j low le e = omega arith
      sizes_past (t.Also e es) i j low le (is, c, p, o, more) =
          let on = Spells-on text ts 14 e (i + 1) c p in
          let one = past i _ is (λ e. cc) le in
          let two = expr_past 14 e (i + 1) c (omega arith) one p in
          let three = past c _ o (λ e. cc) two in
          sizes_past es (c + 1) j (omega arith) three more

      all_items_past : (es : Exprs) (i j : ℕ) → begin ≤ i → i ≤ a → AreItems text ts es i j → j ≤ a
      all_items_past t.End i j low le h = items_past i j le h
      all_items_past (t.Also e es) i j low le (c, p, more) =
          let on = Spells-on text ts 15 e i c p in
          let one = expr_past 15 e i c low le p in
          more_items_past es c j (omega arith) one more

      more_items_past : (es : Exprs) (i j : ℕ) → begin ≤ i → i ≤ a → AreMoreItems text ts es i j → j ≤ a
      more_items_past t.End i j low le h = items_past i j le h
      more_items_past (t.Also e es) i j low le (is, c, p, more) =
          let on = Spells-on text ts 15 e (i + 1) c p in
          let one = past i _ is (λ e. cc) le in
          let two = expr_past 15 e (i + 1) c (omega arith) one p in
          more_items_past es c j (omega arith) two more

  -- ---- which it is

  primitive_end : (ty : TypeExpr) (i a : ℕ) → IsPrimitive ty → SpellsType text ts ty (i + 1) a → casts_primitive text ts i a ≡ true
  primitive_end (t.Written n (head.Path xs) span args d) i a prim h = absurd prim
  primitive_end (t.Written n (head.Prim p) span (t.AndType x rest) d) i a prim (node, b, (is, next), q, c, r, w) = absurd r
  primitive_end (t.Written n (head.Prim p) span t.NoTypes zero) i a prim (node, b, (is, next), q, c, r, w) =
      let test : (a == i + 2) ≡ true = let same : a ≡ i + 2 = omega arith in grind (arith, nat_tests) in
      rw (is, primitive_has p) test
  primitive_end (t.Written n (head.Prim p) span t.NoTypes (suc d)) i a prim h = absurd (omega arith)

  begin_only : (x : Sort) → starts x ≡ true → is_sign x ≡ false → is_begin x ≡ true
  begin_only x on off = by_begin (is_begin x) (is_sign x) on off
    where
      by_begin : (b c : Bool) → (b || c) ≡ true → c ≡ false → b ≡ true
      by_begin true c on off = refl
      by_begin false c on off = let both = sym on ∙ off in cc

  or_right : (b : Bool) → (b || true) ≡ true
  or_right true = refl
  or_right false = refl

  pub cast_has : (ty : TypeExpr) (e : Expr) (i a j : ℕ) → Stands text ts (s.Mark m.Open) i → SpellsType text ts ty (i + 1) a → Stands text ts (s.Mark m.Close) a → MayBeCast text ts ty (a + 1)
      → Spells text ts 2 e (a + 1) j → is_cast text ts i ≡ true
  unfolding is_cast
  cast_has ty e i a j opened p closed may q =
      let found : type_end ts (i + 1) ≡ Some a = type_end_again text ts ty (i + 1) a p (λ h. rw closed at h) in
      rw (is_mark_has ts m.Open i opened, found, is_mark_has ts m.Close a closed) (by_may may)
    where
      by_may : MayBeCast text ts ty (a + 1) → (casts_primitive text ts i a || is_begin (sort_at ts (a + 1))) ≡ true
      by_may (inl prim) = rw (primitive_end ty i a prim p) refl
      by_may (inr apart) =
          let on = Spells-starts text ts 2 e (a + 1) j (omega arith) q in
          rw (begin_only (sort_at ts (a + 1)) on (no_sign_has text ts (sort_at ts (a + 1)) apart)) (or_right (casts_primitive text ts i a))

  pub cast_not : (e : Expr) (i c : ℕ) → Stands text ts (s.Mark m.Open) i → Spells text ts 14 e (i + 1) c → Stands text ts (s.Mark m.Close) c → is_begin (sort_at ts (c + 1)) ≡ false
      → is_cast text ts i ≡ false
  unfolding is_cast
  cast_not e i c opened p closed off = no_and (is_mark ts m.Open i) _ (by_end (type_end ts (i + 1)) refl)
    where
      at_end : (a : ℕ) → Type_end text ts (i + 1) a → Stands text ts (s.Mark m.Close) a → a ≡ c
      at_end a found close =
          let plain = type_plain_in found.tree (i + 1) a found.spells in
          let on = SpellsType-on text ts found.tree (i + 1) a found.spells in
          let le = expr_past (i + 1) a close plain.no_open 14 e (i + 1) c (omega arith) (omega arith) p in
          let on' = Spells-on text ts 14 e (i + 1) c p in
          by_place (below_or_not c a) plain le on'
        where
          by_place : (c < a) ⊎ (a ≤ c) → NoParen (i + 1) a → c ≤ a → i + 1 < c → a ≡ c
          by_place (inl h) plain le on = absurd (plain.no_close c (omega arith) h closed)
          by_place (inr h) plain le on = omega arith

      by_close : (a : ℕ) → Type_end text ts (i + 1) a → (b : Bool) → is_mark ts m.Close a ≡ b → (b && (casts_primitive text ts i a || is_begin (sort_at ts (a + 1)))) ≡ false
      by_close a found false is = refl
      by_close a found true is =
          let same = at_end a found (is_mark_says ts m.Close a is) in
          let on = Spells-starts text ts 14 e (i + 1) c (omega arith) p in
          rw (start_no_primitive (sort_at ts (i + 1)) on, same) off

      by_end : (o : Option ℕ) → type_end ts (i + 1) ≡ o → given o (casts_to text ts i) false ≡ false
      by_end None is = refl
      by_end (Some a) is = by_close a (type_end_fine text ts (i + 1) a is) (is_mark ts m.Close a) refl
