-- What is spelled in one place is spelled where the same tokens stand.
use Rattle.std.proofs.Common.{◌≡◌, ◌≢◌, ◌≤◌, ◌<◌, inl, inr, ℕ, zero, suc, ◌+◌, ◌-◌, Bool, true, false, List, [], ◌∷◌, Option, Some, None, refl, sym, ap, subst, ◌∙◌, nat_lt, arith}
use Rattle.std.proofs.lemmas.Bool.Decides.{nat_tests}
use Rattle.java_tree.specs.declared.tree.Node.{Node}
use Rattle.java_tree.specs.declared.tree.Span.{Span}
use Rattle.java_tree.specs.declared.tree.Name.{Name}
use Rattle.java_tree.specs.declared.tree.Head.{Head}
use Rattle.java_tree.specs.declared.tree.Head.TheVariants as head
use Rattle.java_tree.specs.declared.tree.BinOp.{BinOp}
use Rattle.java_tree.specs.declared.tree.BinOp.TheVariants as op
use Rattle.java_tree.specs.declared.tree.UnOp.TheVariants as un
use Rattle.java_tree.specs.Plain as t
use Rattle.java_tree.specs.Plain.{TypeExpr, TypeExprs, Expr, Exprs, Var, Param, Stmt, MaybeStmt, Stmts, Group, Groups, Catch, Catches}
use Rattle.java_lexer.specs.Values.{integer_value, in_u64, is_decimal, char_unit, text_units}
use Rattle.java_grammar.specs.declared.token.Tok.{Tok}
use Rattle.java_grammar.specs.declared.token.Sort.{Sort}
use Rattle.java_grammar.specs.declared.token.Sort.TheVariants as s
use Rattle.java_grammar.specs.Reads.{sort_at, from_at, to_at, span_of}
use Rattle.java_grammar.specs.Expressions as g
use Rattle.java_grammar.specs.Statements as st
use Rattle.java_grammar.specs.Carried as c
use Rattle.java_grammar.specs.Carried.{Agrees}
use Rattle.java_grammar.proofs.Extents as x

-- ---- what trees are, does not turn on their places

array_back : (f : ℕ → ℕ) (e : Expr) → g.IsArrayCreation (c.expr f e) → g.IsArrayCreation e
array_back f (t.NewArray n ty es d) h = h
array_back f (t.NewFilled n ty e) h = h
array_back f (t.Call n t.NoExpr x es) h = h
array_back f (t.Call n (t.AnExpr e) x es) h = h
array_back f e h = h

variable_on : (f : ℕ → ℕ) (e : Expr) → g.IsVariable e → g.IsVariable (c.expr f e)
variable_on f (t.Name n x) h = h
variable_on f (t.Field n e x) h = h
variable_on f (t.SuperField n x) h = h
variable_on f (t.Index n a b) h = h
variable_on f (t.Paren n e) h = variable_on f e h
variable_on f e h = absurd h

items_on : (f : ℕ → ℕ) (e : Expr) → g.IsItems e → g.IsItems (c.expr f e)
items_on f (t.Items n es) h = h
items_on f e h = absurd h

primitive_on : (f : ℕ → ℕ) (ty : TypeExpr) → g.IsPrimitive ty → g.IsPrimitive (c.type f ty)
primitive_on f (t.Written n (head.Prim p) span args d) h = h
primitive_on f (t.Written n (head.Path xs) span args d) h = h

primitive_back : (f : ℕ → ℕ) (ty : TypeExpr) → g.IsPrimitive (c.type f ty) → g.IsPrimitive ty
primitive_back f (t.Written n (head.Prim p) span args d) h = h
primitive_back f (t.Written n (head.Path xs) span args d) h = h

class_on : (f : ℕ → ℕ) (ty : TypeExpr) → g.NamesClass ty → g.NamesClass (c.type f ty)
class_on f (t.Written n (head.Prim p) span args d) h = h
class_on f (t.Written n (head.Path xs) span args d) h = h

brackets_on : (f : ℕ → ℕ) (d : ℕ) (ty : TypeExpr) → g.HasBrackets d ty → g.HasBrackets d (c.type f ty)
brackets_on f d (t.Written n h span args e) x = x

brackets_back : (f : ℕ → ℕ) (d : ℕ) (ty : TypeExpr) → g.HasBrackets d (c.type f ty) → g.HasBrackets d ty
brackets_back f d (t.Written n h span args e) x = x

no_arguments_on : (f : ℕ → ℕ) (ty : TypeExpr) → g.HasNoArguments ty → g.HasNoArguments (c.type f ty)
no_arguments_on f (t.Written n h span args d) e = ap (c.types f) e

some_on : (f : ℕ → ℕ) (es : Exprs) → es ≢ t.End → c.exprs f es ≢ t.End
some_on f t.End some = absurd (some refl)
some_on f (t.Also e es) some = λ z. cc

module _ (f : ℕ → ℕ) (text : List ℕ) (ts : List Tok) (other : List ℕ) (us : List Tok) (lo hi at : ℕ) (same : Agrees f text ts other us lo hi at) where
  -- ---- tokens

  -- where a token stands
  moved : (p : ℕ) → lo ≤ p → (q : ℕ) × (p + at ≡ q + lo)
  moved p l = (p + at - lo, omega arith)

  stands : (x : Sort) (p q : ℕ) → p + at ≡ q + lo → lo ≤ p → p < hi → g.Stands text ts x p → g.Stands other us x q
  stands x p q e l h is = same.sort p q e l h ∙ is

  id_moves : (x : Name) (p q : ℕ) → p + at ≡ q + lo → lo ≤ p → p < hi → g.IsId text ts x p → g.IsId other us x q
  id_moves x p q e l h is = (stands s.Word p q e l h is.0, is.1 ∙ sym (same.name p q e l h))

  joined_moves : (p q : ℕ) → p + at ≡ q + lo → lo ≤ p → p + 1 < hi → g.Joined text ts p → g.Joined other us q
  joined_moves p q e l h is = same.to p q e l (omega arith) ∙ ap f is ∙ sym (same.from (p + 1) (q + 1) (omega arith) (omega arith) (omega arith))

  span_moves : (x : Span) (i j u v : ℕ) → i + at ≡ u + lo → j + at ≡ v + lo → lo ≤ i → i < j → j ≤ hi → x ≡ span_of ts i j → c.span f x ≡ span_of us u v
  unfolding span_of
  span_moves x i j u v ei ej l m h e =
      let from : from_at us u ≡ f (from_at ts i) = same.from i u ei l (omega arith) in
      let to : to_at us (v - 1) ≡ f (to_at ts (j - 1)) = same.to (j - 1) (v - 1) (omega arith) (omega arith) (omega arith) in
      rw (e, from, to) refl

  node_moves : (n : Node) (i j u v : ℕ) → i + at ≡ u + lo → j + at ≡ v + lo → lo ≤ i → i < j → j ≤ hi → n ≡ g.node_of text ts i j → c.node f n ≡ g.node_of other us u v
  node_moves n i j u v ei ej l m h e =
      let span : c.span f (span_of ts i j) ≡ span_of us u v = span_moves (span_of ts i j) i j u v ei ej l m h refl in
      rw e (ap (λ (x : Span). record { id = 0; span = x }) span)

  -- ---- types

  brackets_move : (d i j u v : ℕ) → i + at ≡ u + lo → j + at ≡ v + lo → lo ≤ i → j ≤ hi → g.AreBrackets text ts d i j → g.AreBrackets other us d u v
  brackets_move zero i j u v ei ej l h e = (omega arith)
  brackets_move (suc d) i j u v ei ej l h (opens, closes, rest) =
      let r = x.brackets_rise text ts d (i + 2) j rest in
      (stands _ i u (omega arith) (omega arith) (omega arith) opens, stands _ (i + 1) (u + 1) (omega arith) (omega arith) (omega arith) closes, brackets_move d (i + 2) j (u + 2) v (omega arith) (omega arith) (omega arith) (omega arith) rest)

  path_moves : (xs : List Name) (i j u v : ℕ) → i + at ≡ u + lo → j + at ≡ v + lo → lo ≤ i → j ≤ hi → g.IsPath text ts xs i j → g.IsPath other us xs u v
  path_moves [] i j u v ei ej l h is = absurd is
  path_moves (y ∷ []) i j u v ei ej l h (id, e) = (id_moves y i u (omega arith) (omega arith) (omega arith) id, (omega arith))
  path_moves (y ∷ z ∷ xs) i j u v ei ej l h (id, dot, rest) =
      let r = x.path_rises text ts (z ∷ xs) (i + 2) j rest in
      (id_moves y i u (omega arith) (omega arith) (omega arith) id, stands _ (i + 1) (u + 1) (omega arith) (omega arith) (omega arith) dot, path_moves (z ∷ xs) (i + 2) j (u + 2) v (omega arith) (omega arith) (omega arith) (omega arith) rest)

  head_moves : (y : Head) (i j u v : ℕ) → i + at ≡ u + lo → j + at ≡ v + lo → lo ≤ i → j ≤ hi → g.IsHead text ts y i j → g.IsHead other us y u v
  head_moves (head.Prim p) i j u v ei ej l h (is, e) = (stands _ i u (omega arith) (omega arith) (omega arith) is, (omega arith))
  head_moves (head.Path xs) i j u v ei ej l h is = path_moves xs i j u v ei ej l h is

  mutual
    pub type_moves : (ty : TypeExpr) (i j u v : ℕ) → i + at ≡ u + lo → j + at ≡ v + lo → lo ≤ i → j ≤ hi → g.SpellsType text ts ty i j → g.SpellsType other us (c.type f ty) u v
    type_moves (t.Written n y span xs d) i j u v ei ej l h (node, a, is, place, b, args, brackets) =
        let r = x.head_rises text ts y i a is in
        let z = x.arguments_span text ts y xs a b args in
        let w = x.brackets_rise text ts d b j brackets in
        let ma = moved a (omega arith) in
        let mb = moved b (omega arith) in (
          node_moves n i j u v (omega arith) (omega arith) (omega arith) (omega arith) (omega arith) node,
          ma.0,
          head_moves y i a u ma.0 (omega arith) (omega arith) (omega arith) (omega arith) is,
          span_moves span i a u ma.0 (omega arith) (omega arith) (omega arith) (omega arith) (omega arith) place,
          mb.0,
          arguments_move y xs a b ma.0 mb.0 (omega arith) (omega arith) (omega arith) (omega arith) args,
          brackets_move d b j mb.0 v (omega arith) (omega arith) (omega arith) (omega arith) brackets,
        )

    arguments_move : (y : Head) (xs : TypeExprs) (i j u v : ℕ) → i + at ≡ u + lo → j + at ≡ v + lo → lo ≤ i → j ≤ hi → g.AreArguments text ts y xs i j → g.AreArguments other us y (c.types f xs) u v
    arguments_move (head.Path ps) t.NoTypes i j u v ei ej l h e = (omega arith)
    arguments_move (head.Prim p) t.NoTypes i j u v ei ej l h e = (omega arith)
    arguments_move (head.Path ps) (t.AndType ty xs) i j u v ei ej l h (less, a, p, no_prim, rest) =
        let r = x.type_rises text ts ty (i + 1) a p in
        let z = x.more_types_span text ts xs a j rest in
        let ma = moved a (omega arith) in
        (stands _ i u (omega arith) (omega arith) (omega arith) less, ma.0, type_moves ty (i + 1) a (u + 1) ma.0 (omega arith) (omega arith) (omega arith) (omega arith) p, λ w. no_prim (primitive_back f ty w), more_types_move xs a j ma.0 v (omega arith) (omega arith) (omega arith) (omega arith) rest)
    arguments_move (head.Prim p) (t.AndType ty xs) i j u v ei ej l h is = absurd is

    more_types_move : (xs : TypeExprs) (i j u v : ℕ) → i + at ≡ u + lo → j + at ≡ v + lo → lo ≤ i → j ≤ hi → g.AreMoreTypes text ts xs i j → g.AreMoreTypes other us (c.types f xs) u v
    more_types_move t.NoTypes i j u v ei ej l h (greater, e) = (stands _ i u (omega arith) (omega arith) (omega arith) greater, (omega arith))
    more_types_move (t.AndType ty xs) i j u v ei ej l h (comma, a, p, no_prim, rest) =
        let r = x.type_rises text ts ty (i + 1) a p in
        let z = x.more_types_span text ts xs a j rest in
        let ma = moved a (omega arith) in
        (stands _ i u (omega arith) (omega arith) (omega arith) comma, ma.0, type_moves ty (i + 1) a (u + 1) ma.0 (omega arith) (omega arith) (omega arith) (omega arith) p, λ w. no_prim (primitive_back f ty w), more_types_move xs a j ma.0 v (omega arith) (omega arith) (omega arith) (omega arith) rest)

  -- ---- expressions

  infix_moves : (o : BinOp) (i j u v : ℕ) → i + at ≡ u + lo → j + at ≡ v + lo → lo ≤ i → j ≤ hi → g.IsInfix text ts o i j → g.IsInfix other us o u v
  infix_moves op.ShiftRight i j u v ei ej l h (p, joined, q, e) = (stands _ i u (omega arith) (omega arith) (omega arith) p, joined_moves i u (omega arith) (omega arith) (omega arith) joined, stands _ (i + 1) (u + 1) (omega arith) (omega arith) (omega arith) q, (omega arith))
  infix_moves op.ShiftRightZero i j u v ei ej l h (p, joined, q, next, r, e) =
      (stands _ i u (omega arith) (omega arith) (omega arith) p, joined_moves i u (omega arith) (omega arith) (omega arith) joined, stands _ (i + 1) (u + 1) (omega arith) (omega arith) (omega arith) q, joined_moves (i + 1) (u + 1) (omega arith) (omega arith) (omega arith) next, stands _ (i + 2) (u + 2) (omega arith) (omega arith) (omega arith) r, (omega arith))
  infix_moves o i j u v ei ej l h is = (stands _ i u (omega arith) (omega arith) (omega arith) is.0, (omega arith))

  assignment_moves : (o : Option BinOp) (i j u v : ℕ) → i + at ≡ u + lo → j + at ≡ v + lo → lo ≤ i → j ≤ hi → g.IsAssignment text ts o i j → g.IsAssignment other us o u v
  assignment_moves (Some op.ShiftRight) i j u v ei ej l h (p, joined, q, e) = (stands _ i u (omega arith) (omega arith) (omega arith) p, joined_moves i u (omega arith) (omega arith) (omega arith) joined, stands _ (i + 1) (u + 1) (omega arith) (omega arith) (omega arith) q, (omega arith))
  assignment_moves (Some op.ShiftRightZero) i j u v ei ej l h (p, joined, q, next, r, e) =
      (stands _ i u (omega arith) (omega arith) (omega arith) p, joined_moves i u (omega arith) (omega arith) (omega arith) joined, stands _ (i + 1) (u + 1) (omega arith) (omega arith) (omega arith) q, joined_moves (i + 1) (u + 1) (omega arith) (omega arith) (omega arith) next, stands _ (i + 2) (u + 2) (omega arith) (omega arith) (omega arith) r, (omega arith))
  assignment_moves None i j u v ei ej l h is = (stands _ i u (omega arith) (omega arith) (omega arith) is.0, (omega arith))
  assignment_moves (Some o) i j u v ei ej l h is = (stands _ i u (omega arith) (omega arith) (omega arith) is.0, (omega arith))

  end_moves : (i j u v : ℕ) → i + at ≡ u + lo → j + at ≡ v + lo → lo ≤ i → j ≤ hi → g.EndsItems text ts i j → g.EndsItems other us u v
  end_moves i j u v ei ej l h (inl is) = let e = is.1 in inl (stands _ i u (omega arith) (omega arith) (omega arith) is.0, (omega arith))
  end_moves i j u v ei ej l h (inr is) = let e = is.2 in inr (stands _ i u (omega arith) (omega arith) (omega arith) is.0, stands _ (i + 1) (u + 1) (omega arith) (omega arith) (omega arith) is.1, (omega arith))

  cast_moves : (ty : TypeExpr) (p q : ℕ) → p + at ≡ q + lo → lo ≤ p → p < hi → g.MayBeCast text ts ty p → g.MayBeCast other us (c.type f ty) q
  cast_moves ty p q e l h (inl is) = inl (primitive_on f ty is)
  cast_moves ty p q e l h (inr other_sort) = inr (λ z. other_sort (subst (λ (x : Sort). g.IsSign text ts x) (same.sort p q e l h) z))

  mutual
    pub expr_moves : (k : ℕ) (e : Expr) (i j u v : ℕ) → i + at ≡ u + lo → j + at ≡ v + lo → lo ≤ i → j ≤ hi → g.Spells text ts k e i j → g.Spells other us k (c.expr f e) u v
    expr_moves k (t.Number n w decimal long) i j u v ei ej l h (node, is, value, base, e) =
        let same_bytes = same.bytes i u (omega arith) (omega arith) (omega arith) in
        (node_moves n i j u v (omega arith) (omega arith) (omega arith) (omega arith) (omega arith) node, stands _ i u (omega arith) (omega arith) (omega arith) is, ap (λ (w : List ℕ). in_u64 (integer_value w)) same_bytes ∙ value, base ∙ ap is_decimal (sym same_bytes), (omega arith))
    expr_moves k (t.Char n w) i j u v ei ej l h (node, is, value, e) =
        let same_bytes = same.bytes i u (omega arith) (omega arith) (omega arith) in
        (node_moves n i j u v (omega arith) (omega arith) (omega arith) (omega arith) (omega arith) node, stands _ i u (omega arith) (omega arith) (omega arith) is, value ∙ ap char_unit (sym same_bytes), (omega arith))
    expr_moves k (t.Text n w) i j u v ei ej l h (node, is, value, e) =
        let same_bytes = same.bytes i u (omega arith) (omega arith) (omega arith) in
        (node_moves n i j u v (omega arith) (omega arith) (omega arith) (omega arith) (omega arith) node, stands _ i u (omega arith) (omega arith) (omega arith) is, value ∙ ap text_units (sym same_bytes), (omega arith))
    expr_moves k (t.Truth n w) i j u v ei ej l h (node, is, e) = (node_moves n i j u v (omega arith) (omega arith) (omega arith) (omega arith) (omega arith) node, stands _ i u (omega arith) (omega arith) (omega arith) is, (omega arith))
    expr_moves k (t.Null n) i j u v ei ej l h (node, is, e) = (node_moves n i j u v (omega arith) (omega arith) (omega arith) (omega arith) (omega arith) node, stands _ i u (omega arith) (omega arith) (omega arith) is, (omega arith))
    expr_moves k (t.This n) i j u v ei ej l h (node, is, e) = (node_moves n i j u v (omega arith) (omega arith) (omega arith) (omega arith) (omega arith) node, stands _ i u (omega arith) (omega arith) (omega arith) is, (omega arith))
    expr_moves k (t.Name n y) i j u v ei ej l h (node, id, e) = (node_moves n i j u v (omega arith) (omega arith) (omega arith) (omega arith) (omega arith) node, id_moves y i u (omega arith) (omega arith) (omega arith) id, (omega arith))
    expr_moves k (t.Field n w y) i j u v ei ej l h (node, a, p, dot, id, e) =
        let r = x.expr_rises text ts 0 w i a p in
        let ma = moved a (omega arith) in
        (node_moves n i j u v (omega arith) (omega arith) (omega arith) (omega arith) (omega arith) node, ma.0, expr_moves 0 w i a u ma.0 (omega arith) (omega arith) (omega arith) (omega arith) p, stands _ a ma.0 (omega arith) (omega arith) (omega arith) dot, id_moves y (a + 1) (ma.0 + 1) (omega arith) (omega arith) (omega arith) id, (omega arith))
    expr_moves k (t.SuperField n y) i j u v ei ej l h (node, super, dot, id, e) =
        (node_moves n i j u v (omega arith) (omega arith) (omega arith) (omega arith) (omega arith) node, stands _ i u (omega arith) (omega arith) (omega arith) super, stands _ (i + 1) (u + 1) (omega arith) (omega arith) (omega arith) dot, id_moves y (i + 2) (u + 2) (omega arith) (omega arith) (omega arith) id, (omega arith))
    expr_moves k (t.Index n w y) i j u v ei ej l h (node, no_new, a, p, opens, b, q, closes, e) =
        let r = x.expr_rises text ts 0 w i a p in
        let z = x.expr_rises text ts 14 y (a + 1) b q in
        let ma = moved a (omega arith) in
        let mb = moved b (omega arith) in (
          node_moves n i j u v (omega arith) (omega arith) (omega arith) (omega arith) (omega arith) node,
          λ z. no_new (array_back f w z),
          ma.0,
          expr_moves 0 w i a u ma.0 (omega arith) (omega arith) (omega arith) (omega arith) p,
          stands _ a ma.0 (omega arith) (omega arith) (omega arith) opens,
          mb.0,
          expr_moves 14 y (a + 1) b (ma.0 + 1) mb.0 (omega arith) (omega arith) (omega arith) (omega arith) q,
          stands _ b mb.0 (omega arith) (omega arith) (omega arith) closes,
          (omega arith),
        )
    expr_moves k (t.Call n t.NoExpr y xs) i j u v ei ej l h (node, id, opens, values) =
        let r = x.values_span text ts xs (i + 2) j values in
        (node_moves n i j u v (omega arith) (omega arith) (omega arith) (omega arith) (omega arith) node, id_moves y i u (omega arith) (omega arith) (omega arith) id, stands _ (i + 1) (u + 1) (omega arith) (omega arith) (omega arith) opens, values_move xs (i + 2) j (u + 2) v (omega arith) (omega arith) (omega arith) (omega arith) values)
    expr_moves k (t.Call n (t.AnExpr w) y xs) i j u v ei ej l h (node, a, p, dot, id, opens, values) =
        let r = x.expr_rises text ts 0 w i a p in
        let z = x.values_span text ts xs (a + 3) j values in
        let ma = moved a (omega arith) in (
          node_moves n i j u v (omega arith) (omega arith) (omega arith) (omega arith) (omega arith) node,
          ma.0,
          expr_moves 0 w i a u ma.0 (omega arith) (omega arith) (omega arith) (omega arith) p,
          stands _ a ma.0 (omega arith) (omega arith) (omega arith) dot,
          id_moves y (a + 1) (ma.0 + 1) (omega arith) (omega arith) (omega arith) id,
          stands _ (a + 2) (ma.0 + 2) (omega arith) (omega arith) (omega arith) opens,
          values_move xs (a + 3) j (ma.0 + 3) v (omega arith) (omega arith) (omega arith) (omega arith) values,
        )
    expr_moves k (t.SuperMethod n y xs) i j u v ei ej l h (node, super, dot, id, opens, values) =
        let r = x.values_span text ts xs (i + 4) j values in (
          node_moves n i j u v (omega arith) (omega arith) (omega arith) (omega arith) (omega arith) node,
          stands _ i u (omega arith) (omega arith) (omega arith) super,
          stands _ (i + 1) (u + 1) (omega arith) (omega arith) (omega arith) dot,
          id_moves y (i + 2) (u + 2) (omega arith) (omega arith) (omega arith) id,
          stands _ (i + 3) (u + 3) (omega arith) (omega arith) (omega arith) opens,
          values_move xs (i + 4) j (u + 4) v (omega arith) (omega arith) (omega arith) (omega arith) values,
        )
    expr_moves k (t.New n ty xs) i j u v ei ej l h (node, new, class, a, p, opens, values) =
        let r = x.type_rises text ts ty (i + 1) a p in
        let z = x.values_span text ts xs (a + 1) j values in
        let ma = moved a (omega arith) in (
          node_moves n i j u v (omega arith) (omega arith) (omega arith) (omega arith) (omega arith) node,
          stands _ i u (omega arith) (omega arith) (omega arith) new,
          class_on f ty class,
          ma.0,
          type_moves ty (i + 1) a (u + 1) ma.0 (omega arith) (omega arith) (omega arith) (omega arith) p,
          stands _ a ma.0 (omega arith) (omega arith) (omega arith) opens,
          values_move xs (a + 1) j (ma.0 + 1) v (omega arith) (omega arith) (omega arith) (omega arith) values,
        )
    expr_moves k (t.NewArray n ty xs extra) i j u v ei ej l h (node, new, no_brackets, a, p, some, b, sizes, brackets) =
        let r = x.type_rises text ts ty (i + 1) a p in
        let z = x.sizes_span text ts xs a b sizes in
        let w = x.brackets_rise text ts extra b j brackets in
        let ma = moved a (omega arith) in
        let mb = moved b (omega arith) in (
          node_moves n i j u v (omega arith) (omega arith) (omega arith) (omega arith) (omega arith) node,
          stands _ i u (omega arith) (omega arith) (omega arith) new,
          brackets_on f 0 ty no_brackets,
          ma.0,
          type_moves ty (i + 1) a (u + 1) ma.0 (omega arith) (omega arith) (omega arith) (omega arith) p,
          some_on f xs some,
          mb.0,
          sizes_move xs a b ma.0 mb.0 (omega arith) (omega arith) (omega arith) (omega arith) sizes,
          brackets_move extra b j mb.0 v (omega arith) (omega arith) (omega arith) (omega arith) brackets,
        )
    expr_moves k (t.NewFilled n ty w) i j u v ei ej l h (node, new, brackets, items, a, p, q) =
        let r = x.type_rises text ts ty (i + 1) a p in
        let z = x.expr_rises text ts 15 w a j q in
        let ma = moved a (omega arith) in (
          node_moves n i j u v (omega arith) (omega arith) (omega arith) (omega arith) (omega arith) node,
          stands _ i u (omega arith) (omega arith) (omega arith) new,
          λ z. brackets (brackets_back f 0 ty z),
          items_on f w items,
          ma.0,
          type_moves ty (i + 1) a (u + 1) ma.0 (omega arith) (omega arith) (omega arith) (omega arith) p,
          expr_moves 15 w a j ma.0 v (omega arith) (omega arith) (omega arith) (omega arith) q,
        )
    expr_moves k (t.Items n xs) i j u v ei ej l h (node, level, opens, items) =
        let r = x.items_span text ts xs (i + 1) j items in
        (node_moves n i j u v (omega arith) (omega arith) (omega arith) (omega arith) (omega arith) node, level, stands _ i u (omega arith) (omega arith) (omega arith) opens, items_move xs (i + 1) j (u + 1) v (omega arith) (omega arith) (omega arith) (omega arith) items)
    expr_moves k (t.Paren n w) i j u v ei ej l h (node, opens, a, p, closes, e) =
        let r = x.expr_rises text ts 14 w (i + 1) a p in
        let ma = moved a (omega arith) in
        (node_moves n i j u v (omega arith) (omega arith) (omega arith) (omega arith) (omega arith) node, stands _ i u (omega arith) (omega arith) (omega arith) opens, ma.0, expr_moves 14 w (i + 1) a (u + 1) ma.0 (omega arith) (omega arith) (omega arith) (omega arith) p, stands _ a ma.0 (omega arith) (omega arith) (omega arith) closes, (omega arith))
    expr_moves k (t.Unary n y w) i j u v ei ej l h (node, level, sign, p) =
        let r = x.expr_rises text ts 2 w (i + 1) j p in
        (node_moves n i j u v (omega arith) (omega arith) (omega arith) (omega arith) (omega arith) node, level, stands _ i u (omega arith) (omega arith) (omega arith) sign, expr_moves 2 w (i + 1) j (u + 1) v (omega arith) (omega arith) (omega arith) (omega arith) p)
    expr_moves k (t.Step n up true w) i j u v ei ej l h (node, level, step, variable, p) =
        let r = x.expr_rises text ts 2 w (i + 1) j p in
        (node_moves n i j u v (omega arith) (omega arith) (omega arith) (omega arith) (omega arith) node, level, stands _ i u (omega arith) (omega arith) (omega arith) step, variable_on f w variable, expr_moves 2 w (i + 1) j (u + 1) v (omega arith) (omega arith) (omega arith) (omega arith) p)
    expr_moves k (t.Step n up false w) i j u v ei ej l h (node, level, variable, a, p, step, e) =
        let r = x.expr_rises text ts 0 w i a p in
        let ma = moved a (omega arith) in
        (node_moves n i j u v (omega arith) (omega arith) (omega arith) (omega arith) (omega arith) node, level, variable_on f w variable, ma.0, expr_moves 0 w i a u ma.0 (omega arith) (omega arith) (omega arith) (omega arith) p, stands _ a ma.0 (omega arith) (omega arith) (omega arith) step, (omega arith))
    expr_moves k (t.Cast n ty close w) i j u v ei ej l h (node, level, opens, a, p, closes, place, may, q) =
        let r = x.type_rises text ts ty (i + 1) a p in
        let z = x.expr_rises text ts 2 w (a + 1) j q in
        let ma = moved a (omega arith) in (
          node_moves n i j u v (omega arith) (omega arith) (omega arith) (omega arith) (omega arith) node,
          level,
          stands _ i u (omega arith) (omega arith) (omega arith) opens,
          ma.0,
          type_moves ty (i + 1) a (u + 1) ma.0 (omega arith) (omega arith) (omega arith) (omega arith) p,
          stands _ a ma.0 (omega arith) (omega arith) (omega arith) closes,
          ap f place ∙ sym (same.from a ma.0 (omega arith) (omega arith) (omega arith)),
          cast_moves ty (a + 1) (ma.0 + 1) (omega arith) (omega arith) (omega arith) may,
          expr_moves 2 w (a + 1) j (ma.0 + 1) v (omega arith) (omega arith) (omega arith) (omega arith) q,
        )
    expr_moves k (t.Binary n o w y) i j u v ei ej l h (node, level, a, p, b, is, q) =
        let r = x.expr_rises text ts (g.level_of o) w i a p in
        let m = x.infix_rises text ts o a b is in
        let z = x.expr_rises text ts (g.level_of o - 1) y b j q in
        let ma = moved a (omega arith) in
        let mb = moved b (omega arith) in (
          node_moves n i j u v (omega arith) (omega arith) (omega arith) (omega arith) (omega arith) node,
          level,
          ma.0,
          expr_moves (g.level_of o) w i a u ma.0 (omega arith) (omega arith) (omega arith) (omega arith) p,
          mb.0,
          infix_moves o a b ma.0 mb.0 (omega arith) (omega arith) (omega arith) (omega arith) is,
          expr_moves (g.level_of o - 1) y b j mb.0 v (omega arith) (omega arith) (omega arith) (omega arith) q,
        )
    expr_moves k (t.InstanceOf n w ty) i j u v ei ej l h (node, level, a, p, is, no_args, q) =
        let r = x.expr_rises text ts 6 w i a p in
        let z = x.type_rises text ts ty (a + 1) j q in
        let ma = moved a (omega arith) in (
          node_moves n i j u v (omega arith) (omega arith) (omega arith) (omega arith) (omega arith) node,
          level,
          ma.0,
          expr_moves 6 w i a u ma.0 (omega arith) (omega arith) (omega arith) (omega arith) p,
          stands _ a ma.0 (omega arith) (omega arith) (omega arith) is,
          no_arguments_on f ty no_args,
          type_moves ty (a + 1) j (ma.0 + 1) v (omega arith) (omega arith) (omega arith) (omega arith) q,
        )
    expr_moves k (t.Cond n w y z) i j u v ei ej l h (node, level, a, p, question, b, q, colon, o) =
        let r = x.expr_rises text ts 12 w i a p in
        let m = x.expr_rises text ts 14 y (a + 1) b q in
        let d = x.expr_rises text ts 13 z (b + 1) j o in
        let ma = moved a (omega arith) in
        let mb = moved b (omega arith) in (
          node_moves n i j u v (omega arith) (omega arith) (omega arith) (omega arith) (omega arith) node,
          level,
          ma.0,
          expr_moves 12 w i a u ma.0 (omega arith) (omega arith) (omega arith) (omega arith) p,
          stands _ a ma.0 (omega arith) (omega arith) (omega arith) question,
          mb.0,
          expr_moves 14 y (a + 1) b (ma.0 + 1) mb.0 (omega arith) (omega arith) (omega arith) (omega arith) q,
          stands _ b mb.0 (omega arith) (omega arith) (omega arith) colon,
          expr_moves 13 z (b + 1) j (mb.0 + 1) v (omega arith) (omega arith) (omega arith) (omega arith) o,
        )
    expr_moves k (t.Assign n o w y) i j u v ei ej l h (node, level, variable, a, p, b, is, q) =
        let r = x.expr_rises text ts 2 w i a p in
        let m = x.assignment_rises text ts o a b is in
        let z = x.expr_rises text ts 14 y b j q in
        let ma = moved a (omega arith) in
        let mb = moved b (omega arith) in (
          node_moves n i j u v (omega arith) (omega arith) (omega arith) (omega arith) (omega arith) node,
          level,
          variable_on f w variable,
          ma.0,
          expr_moves 2 w i a u ma.0 (omega arith) (omega arith) (omega arith) (omega arith) p,
          mb.0,
          assignment_moves o a b ma.0 mb.0 (omega arith) (omega arith) (omega arith) (omega arith) is,
          expr_moves 14 y b j mb.0 v (omega arith) (omega arith) (omega arith) (omega arith) q,
        )

    values_move : (es : Exprs) (i j u v : ℕ) → i + at ≡ u + lo → j + at ≡ v + lo → lo ≤ i → j ≤ hi → g.AreValues text ts es i j → g.AreValues other us (c.exprs f es) u v
    values_move t.End i j u v ei ej l h (closes, e) = (stands _ i u (omega arith) (omega arith) (omega arith) closes, (omega arith))
    values_move (t.Also w xs) i j u v ei ej l h (a, p, rest) =
        let r = x.expr_rises text ts 14 w i a p in
        let z = x.more_values_span text ts xs a j rest in
        let ma = moved a (omega arith) in
        (ma.0, expr_moves 14 w i a u ma.0 (omega arith) (omega arith) (omega arith) (omega arith) p, more_values_move xs a j ma.0 v (omega arith) (omega arith) (omega arith) (omega arith) rest)

    more_values_move : (es : Exprs) (i j u v : ℕ) → i + at ≡ u + lo → j + at ≡ v + lo → lo ≤ i → j ≤ hi → g.AreMoreValues text ts es i j → g.AreMoreValues other us (c.exprs f es) u v
    more_values_move t.End i j u v ei ej l h (closes, e) = (stands _ i u (omega arith) (omega arith) (omega arith) closes, (omega arith))
    more_values_move (t.Also w xs) i j u v ei ej l h (comma, a, p, rest) =
        let r = x.expr_rises text ts 14 w (i + 1) a p in
        let z = x.more_values_span text ts xs a j rest in
        let ma = moved a (omega arith) in
        (stands _ i u (omega arith) (omega arith) (omega arith) comma, ma.0, expr_moves 14 w (i + 1) a (u + 1) ma.0 (omega arith) (omega arith) (omega arith) (omega arith) p, more_values_move xs a j ma.0 v (omega arith) (omega arith) (omega arith) (omega arith) rest)

    sizes_move : (es : Exprs) (i j u v : ℕ) → i + at ≡ u + lo → j + at ≡ v + lo → lo ≤ i → j ≤ hi → g.AreSizes text ts es i j → g.AreSizes other us (c.exprs f es) u v
    sizes_move t.End i j u v ei ej l h e = (omega arith)
    sizes_move (t.Also w xs) i j u v ei ej l h (opens, a, p, closes, rest) =
        let r = x.expr_rises text ts 14 w (i + 1) a p in
        let z = x.sizes_span text ts xs (a + 1) j rest in
        let ma = moved a (omega arith) in
        (stands _ i u (omega arith) (omega arith) (omega arith) opens, ma.0, expr_moves 14 w (i + 1) a (u + 1) ma.0 (omega arith) (omega arith) (omega arith) (omega arith) p, stands _ a ma.0 (omega arith) (omega arith) (omega arith) closes, sizes_move xs (a + 1) j (ma.0 + 1) v (omega arith) (omega arith) (omega arith) (omega arith) rest)

    items_move : (es : Exprs) (i j u v : ℕ) → i + at ≡ u + lo → j + at ≡ v + lo → lo ≤ i → j ≤ hi → g.AreItems text ts es i j → g.AreItems other us (c.exprs f es) u v
    items_move t.End i j u v ei ej l h is = end_moves i j u v ei ej l h is
    items_move (t.Also w xs) i j u v ei ej l h (a, p, rest) =
        let r = x.expr_rises text ts 15 w i a p in
        let z = x.more_items_span text ts xs a j rest in
        let ma = moved a (omega arith) in
        (ma.0, expr_moves 15 w i a u ma.0 (omega arith) (omega arith) (omega arith) (omega arith) p, more_items_move xs a j ma.0 v (omega arith) (omega arith) (omega arith) (omega arith) rest)

    more_items_move : (es : Exprs) (i j u v : ℕ) → i + at ≡ u + lo → j + at ≡ v + lo → lo ≤ i → j ≤ hi → g.AreMoreItems text ts es i j → g.AreMoreItems other us (c.exprs f es) u v
    more_items_move t.End i j u v ei ej l h is = end_moves i j u v ei ej l h is
    more_items_move (t.Also w xs) i j u v ei ej l h (comma, a, p, rest) =
        let r = x.expr_rises text ts 15 w (i + 1) a p in
        let z = x.more_items_span text ts xs a j rest in
        let ma = moved a (omega arith) in
        (stands _ i u (omega arith) (omega arith) (omega arith) comma, ma.0, expr_moves 15 w (i + 1) a (u + 1) ma.0 (omega arith) (omega arith) (omega arith) (omega arith) p, more_items_move xs a j ma.0 v (omega arith) (omega arith) (omega arith) (omega arith) rest)

-- ---- what statements are

statement_on : (f : ℕ → ℕ) (e : Expr) → st.IsStatement e → st.IsStatement (c.expr f e)
statement_on f (t.Assign n o w y) h = h
statement_on f (t.Step n up before w) h = h
statement_on f (t.Call n t.NoExpr y xs) h = h
statement_on f (t.Call n (t.AnExpr w) y xs) h = h
statement_on f (t.SuperMethod n y xs) h = h
statement_on f (t.New n ty xs) h = h
statement_on f e h = absurd h

block_on : (f : ℕ → ℕ) (y : Stmt) → st.IsBlock y → st.IsBlock (c.stmt f y)
block_on f (t.Block n xs) h = h
block_on f y h = absurd h

constant_on : (f : ℕ → ℕ) (text : List ℕ) (ts : List Tok) (other : List ℕ) (us : List Tok) (e : Expr) → st.IsConstant text ts e → st.IsConstant other us (c.expr f e)
constant_on f text ts other us (t.Number n w decimal long) h = h
constant_on f text ts other us (t.Char n w) h = h
constant_on f text ts other us e h = absurd h

label_value_on : (f : ℕ → ℕ) (text : List ℕ) (ts : List Tok) (other : List ℕ) (us : List Tok) (e : Expr) → st.IsLabelValue text ts e → st.IsLabelValue other us (c.expr f e)
label_value_on f text ts other us (t.Unary n un.Minus e) h = constant_on f text ts other us e h
label_value_on f text ts other us (t.Call n of y xs) h = absurd h
label_value_on f text ts other us e h = constant_on f text ts other us e h

module _ (f : ℕ → ℕ) (text : List ℕ) (ts : List Tok) (other : List ℕ) (us : List Tok) (lo hi at : ℕ) (same : Agrees f text ts other us lo hi at)
    (wide : (p q : ℕ) → p + at ≡ q + lo → lo ≤ p → p ≤ hi → sort_at us q ≡ sort_at ts p) where
  place : (p : ℕ) → lo ≤ p → (q : ℕ) × (p + at ≡ q + lo)
  place p l = (p + at - lo, omega arith)

  sort_on : (y : Sort) (p q : ℕ) → p + at ≡ q + lo → lo ≤ p → p < hi → g.Stands text ts y p → g.Stands other us y q
  sort_on y p q e l h is = same.sort p q e l h ∙ is

  -- the token behind is of no such sort
  other_behind : (y : Sort) (p q : ℕ) → p + at ≡ q + lo → lo ≤ p → p ≤ hi → (g.Stands text ts y p → ⊥) → g.Stands other us y q → ⊥
  other_behind y p q e l h no_such is = no_such (sym (wide p q e l h) ∙ is)

  id_on : (y : Name) (p q : ℕ) → p + at ≡ q + lo → lo ≤ p → p < hi → g.IsId text ts y p → g.IsId other us y q
  id_on = id_moves f text ts other us lo hi at same

  node_on : (n : Node) (i j u v : ℕ) → i + at ≡ u + lo → j + at ≡ v + lo → lo ≤ i → i < j → j ≤ hi → n ≡ g.node_of text ts i j → c.node f n ≡ g.node_of other us u v
  node_on = node_moves f text ts other us lo hi at same

  brackets_go : (d i j u v : ℕ) → i + at ≡ u + lo → j + at ≡ v + lo → lo ≤ i → j ≤ hi → g.AreBrackets text ts d i j → g.AreBrackets other us d u v
  brackets_go = brackets_move f text ts other us lo hi at same

  type_on : (ty : TypeExpr) (i j u v : ℕ) → i + at ≡ u + lo → j + at ≡ v + lo → lo ≤ i → j ≤ hi → g.SpellsType text ts ty i j → g.SpellsType other us (c.type f ty) u v
  type_on = type_moves f text ts other us lo hi at same

  expr_on : (k : ℕ) (e : Expr) (i j u v : ℕ) → i + at ≡ u + lo → j + at ≡ v + lo → lo ≤ i → j ≤ hi → g.Spells text ts k e i j → g.Spells other us k (c.expr f e) u v
  expr_on = expr_moves f text ts other us lo hi at same

  values_on : (es : Exprs) (i j u v : ℕ) → i + at ≡ u + lo → j + at ≡ v + lo → lo ≤ i → j ≤ hi → g.AreValues text ts es i j → g.AreValues other us (c.exprs f es) u v
  values_on = values_move f text ts other us lo hi at same

  -- ---- variables and parameters

  final_moves : (w : Bool) (i j u v : ℕ) → i + at ≡ u + lo → j + at ≡ v + lo → lo ≤ i → j ≤ hi → st.IsFinal text ts w i j → st.IsFinal other us w u v
  final_moves true i j u v ei ej l h (is, e) = (sort_on _ i u (omega arith) (omega arith) (omega arith) is, (omega arith))
  final_moves false i j u v ei ej l h e = (omega arith)

  init_moves : (y : Option Expr) (i j u v : ℕ) → i + at ≡ u + lo → j + at ≡ v + lo → lo ≤ i → j ≤ hi → st.IsInit text ts y i j → st.IsInit other us (c.init f y) u v
  init_moves None i j u v ei ej l h e = (omega arith)
  init_moves (Some y) i j u v ei ej l h (equals, p) =
      let r = x.expr_rises text ts 15 y (i + 1) j p in
      (sort_on _ i u (omega arith) (omega arith) (omega arith) equals, expr_on 15 y (i + 1) j (u + 1) v (omega arith) (omega arith) (omega arith) (omega arith) p)

  var_moves : (y : Var) (i j u v : ℕ) → i + at ≡ u + lo → j + at ≡ v + lo → lo ≤ i → j ≤ hi → st.IsVar text ts y i j → st.IsVar other us (c.var f y) u v
  var_moves y i j u v ei ej l h p =
      let r = x.brackets_rise text ts y.dims (i + 1) p.end p.brackets in
      let z = x.init_spans text ts y.init p.end j p.init in
      let me = place p.end (omega arith) in
      record {
        node = node_on y.node i j u v (omega arith) (omega arith) (omega arith) (omega arith) (omega arith) p.node;
        name = id_on y.name i u (omega arith) (omega arith) (omega arith) p.name;
        end = me.0;
        brackets = brackets_go y.dims (i + 1) p.end (u + 1) me.0 (omega arith) (omega arith) (omega arith) (omega arith) p.brackets;
        init = init_moves y.init p.end j me.0 v (omega arith) (omega arith) (omega arith) (omega arith) p.init;
      }

  vars_move : (ys : List Var) (i j u v : ℕ) → i + at ≡ u + lo → j + at ≡ v + lo → lo ≤ i → j ≤ hi → st.AreVars text ts ys i j → st.AreVars other us (c.vars f ys) u v
  vars_move [] i j u v ei ej l h is = absurd is
  vars_move (y ∷ []) i j u v ei ej l h p = var_moves y i j u v ei ej l h p
  vars_move (y ∷ z ∷ ys) i j u v ei ej l h (a, p, comma, rest) =
      let r = x.var_spans text ts y i a p in
      let w = x.vars_span text ts (z ∷ ys) (a + 1) j rest in
      let ma = place a (omega arith) in
      (ma.0, var_moves y i a u ma.0 (omega arith) (omega arith) (omega arith) (omega arith) p, sort_on _ a ma.0 (omega arith) (omega arith) (omega arith) comma, vars_move (z ∷ ys) (a + 1) j (ma.0 + 1) v (omega arith) (omega arith) (omega arith) (omega arith) rest)

  param_moves : (y : Param) (i j u v : ℕ) → i + at ≡ u + lo → j + at ≡ v + lo → lo ≤ i → j ≤ hi → st.IsParam text ts y i j → st.IsParam other us (c.param f y) u v
  param_moves y i j u v ei ej l h p =
      let r = x.final_rises text ts y.is_final i p.begin p.final in
      let w = x.type_rises text ts y.ty p.begin p.name_at p.type in
      let z = x.brackets_rise text ts y.dims (p.name_at + 1) j p.brackets in
      let mb = place p.begin (omega arith) in
      let mn = place p.name_at (omega arith) in
      record {
        node = node_on y.node i j u v (omega arith) (omega arith) (omega arith) (omega arith) (omega arith) p.node;
        begin = mb.0;
        final = final_moves y.is_final i p.begin u mb.0 (omega arith) (omega arith) (omega arith) (omega arith) p.final;
        name_at = mn.0;
        type = type_on y.ty p.begin p.name_at mb.0 mn.0 (omega arith) (omega arith) (omega arith) (omega arith) p.type;
        name = id_on y.name p.name_at mn.0 (omega arith) (omega arith) (omega arith) p.name;
        brackets = brackets_go y.dims (p.name_at + 1) j (mn.0 + 1) v (omega arith) (omega arith) (omega arith) (omega arith) p.brackets;
      }

  local_moves : (w : Bool) (ty : TypeExpr) (ys : List Var) (i j u v : ℕ) → i + at ≡ u + lo → j + at ≡ v + lo → lo ≤ i → j ≤ hi → st.IsLocal text ts w ty ys i j
      → st.IsLocal other us w (c.type f ty) (c.vars f ys) u v
  local_moves w ty ys i j u v ei ej l h (a, final, d, p, rest) =
      let r = x.final_rises text ts w i a final in
      let m = x.type_rises text ts ty a d p in
      let z = x.vars_span text ts ys d j rest in
      let ma = place a (omega arith) in
      let md = place d (omega arith) in
      (ma.0, final_moves w i a u ma.0 (omega arith) (omega arith) (omega arith) (omega arith) final, md.0, type_on ty a d ma.0 md.0 (omega arith) (omega arith) (omega arith) (omega arith) p, vars_move ys d j md.0 v (omega arith) (omega arith) (omega arith) (omega arith) rest)

  -- ---- parts of statements

  test_moves : (e : Expr) (i j u v : ℕ) → i + at ≡ u + lo → j + at ≡ v + lo → lo ≤ i → j ≤ hi → st.IsTest text ts e i j → st.IsTest other us (c.expr f e) u v
  test_moves y i j u v ei ej l h (opens, a, p, closes, e) =
      let r = x.expr_rises text ts 14 y (i + 1) a p in
      let ma = place a (omega arith) in
      (sort_on _ i u (omega arith) (omega arith) (omega arith) opens, ma.0, expr_on 14 y (i + 1) a (u + 1) ma.0 (omega arith) (omega arith) (omega arith) (omega arith) p, sort_on _ a ma.0 (omega arith) (omega arith) (omega arith) closes, (omega arith))

  maybe_moves : (y : Option Expr) (i j u v : ℕ) → i + at ≡ u + lo → j + at ≡ v + lo → lo ≤ i → j ≤ hi → st.IsMaybe text ts y i j → st.IsMaybe other us (c.init f y) u v
  maybe_moves None i j u v ei ej l h e = (omega arith)
  maybe_moves (Some y) i j u v ei ej l h p = expr_on 14 y i j u v ei ej l h p

  performed_move : (es : Exprs) (i j u v : ℕ) → i + at ≡ u + lo → j + at ≡ v + lo → lo ≤ i → j ≤ hi → st.ArePerformed text ts es i j → st.ArePerformed other us (c.exprs f es) u v
  performed_move t.End i j u v ei ej l h is = absurd is
  performed_move (t.Also y t.End) i j u v ei ej l h (is, p) = (statement_on f y is, expr_on 14 y i j u v ei ej l h p)
  performed_move (t.Also y (t.Also z es)) i j u v ei ej l h (is, a, p, comma, rest) =
      let r = x.expr_rises text ts 14 y i a p in
      let w = x.performed_span text ts (t.Also z es) (a + 1) j rest in
      let ma = place a (omega arith) in
      (statement_on f y is, ma.0, expr_on 14 y i a u ma.0 (omega arith) (omega arith) (omega arith) (omega arith) p, sort_on _ a ma.0 (omega arith) (omega arith) (omega arith) comma, performed_move (t.Also z es) (a + 1) j (ma.0 + 1) v (omega arith) (omega arith) (omega arith) (omega arith) rest)

  first_moves : (ys : Stmts) (i j u v : ℕ) → i + at ≡ u + lo → j + at ≡ v + lo → lo ≤ i → j ≤ hi → st.ArePerformedFirst text ts ys i j → st.ArePerformedFirst other us (c.stmts f ys) u v
  first_moves (t.Then (t.Value n y) t.Last) i j u v ei ej l h (node, is, p) =
      let r = x.expr_rises text ts 14 y i j p in
      (node_on n i j u v (omega arith) (omega arith) (omega arith) (omega arith) (omega arith) node, statement_on f y is, expr_on 14 y i j u v ei ej l h p)
  first_moves (t.Then (t.Value n y) (t.Then z ys)) i j u v ei ej l h (a, node, is, p, comma, rest) =
      let r = x.expr_rises text ts 14 y i a p in
      let w = x.first_span text ts (t.Then z ys) (a + 1) j rest in
      let some = x.some_stmt z in
      let ma = place a (omega arith) in (
        ma.0,
        node_on n i a u ma.0 (omega arith) (omega arith) (omega arith) (omega arith) (omega arith) node,
        statement_on f y is,
        expr_on 14 y i a u ma.0 (omega arith) (omega arith) (omega arith) (omega arith) p,
        sort_on _ a ma.0 (omega arith) (omega arith) (omega arith) comma,
        first_moves (t.Then z ys) (a + 1) j (ma.0 + 1) v (omega arith) (omega arith) (omega arith) (omega arith) rest,
      )
  first_moves ys i j u v ei ej l h is = absurd is

  start_moves : (ys : Stmts) (i j u v : ℕ) → i + at ≡ u + lo → j + at ≡ v + lo → lo ≤ i → j ≤ hi → st.IsStart text ts ys i j → st.IsStart other us (c.stmts f ys) u v
  start_moves t.Last i j u v ei ej l h e = (omega arith)
  start_moves (t.Then (t.Local n w ty vs) t.Last) i j u v ei ej l h (node, p) =
      let r = x.local_spans text ts w ty vs i j p in
      let some = x.some_type ty in
      (node_on n i j u v (omega arith) (omega arith) (omega arith) (omega arith) (omega arith) node, local_moves w ty vs i j u v ei ej l h p)
  start_moves ys i j u v ei ej l h is = first_moves ys i j u v ei ej l h is

  update_moves : (es : Exprs) (i j u v : ℕ) → i + at ≡ u + lo → j + at ≡ v + lo → lo ≤ i → j ≤ hi → st.IsUpdate text ts es i j → st.IsUpdate other us (c.exprs f es) u v
  update_moves t.End i j u v ei ej l h e = (omega arith)
  update_moves (t.Also y es) i j u v ei ej l h is = performed_move (t.Also y es) i j u v ei ej l h is

  label_moves : (y : Option Expr) (i j u v : ℕ) → i + at ≡ u + lo → j + at ≡ v + lo → lo ≤ i → j ≤ hi → st.IsLabel text ts y i j → st.IsLabel other us (c.init f y) u v
  label_moves None i j u v ei ej l h (is, colon, e) = (sort_on _ i u (omega arith) (omega arith) (omega arith) is, sort_on _ (i + 1) (u + 1) (omega arith) (omega arith) (omega arith) colon, (omega arith))
  label_moves (Some y) i j u v ei ej l h (is, value, a, p, colon, e) =
      let r = x.expr_rises text ts 2 y (i + 1) a p in
      let ma = place a (omega arith) in
      (sort_on _ i u (omega arith) (omega arith) (omega arith) is, label_value_on f text ts other us y value, ma.0, expr_on 2 y (i + 1) a (u + 1) ma.0 (omega arith) (omega arith) (omega arith) (omega arith) p, sort_on _ a ma.0 (omega arith) (omega arith) (omega arith) colon, (omega arith))

  labels_move : (ys : List (Option Expr)) (i j u v : ℕ) → i + at ≡ u + lo → j + at ≡ v + lo → lo ≤ i → j ≤ hi → st.AreLabels text ts ys i j → st.AreLabels other us (c.labels f ys) u v
  labels_move [] i j u v ei ej l h is = absurd is
  labels_move (y ∷ []) i j u v ei ej l h p = label_moves y i j u v ei ej l h p
  labels_move (y ∷ z ∷ ys) i j u v ei ej l h (a, p, rest) =
      let r = x.label_spans text ts y i a p in
      let w = x.labels_span text ts (z ∷ ys) a j rest in
      let ma = place a (omega arith) in
      (ma.0, label_moves y i a u ma.0 (omega arith) (omega arith) (omega arith) (omega arith) p, labels_move (z ∷ ys) a j ma.0 v (omega arith) (omega arith) (omega arith) (omega arith) rest)

  -- ---- statements

  mutual
    pub stmt_moves : (w : Bool) (y : Stmt) (i j u v : ℕ) → i + at ≡ u + lo → j + at ≡ v + lo → lo ≤ i → j ≤ hi → st.SpellsStmt text ts w y i j → st.SpellsStmt other us w (c.stmt f y) u v
    stmt_moves w (t.Block n ys) i j u v ei ej l h (node, opens, a, p, closes, e) =
        let r = x.stmts_span text ts ys (i + 1) a p in
        let ma = place a (omega arith) in
        (node_on n i j u v (omega arith) (omega arith) (omega arith) (omega arith) (omega arith) node, sort_on _ i u (omega arith) (omega arith) (omega arith) opens, ma.0, stmts_move ys (i + 1) a (u + 1) ma.0 (omega arith) (omega arith) (omega arith) (omega arith) p, sort_on _ a ma.0 (omega arith) (omega arith) (omega arith) closes, (omega arith))
    stmt_moves true (t.Local n w ty vs) i j u v ei ej l h (node, a, p, ends, e) =
        let r = x.local_spans text ts w ty vs i a p in
        let ma = place a (omega arith) in
        (node_on n i j u v (omega arith) (omega arith) (omega arith) (omega arith) (omega arith) node, ma.0, local_moves w ty vs i a u ma.0 (omega arith) (omega arith) (omega arith) (omega arith) p, sort_on _ a ma.0 (omega arith) (omega arith) (omega arith) ends, (omega arith))
    stmt_moves false (t.Local n w ty vs) i j u v ei ej l h is = absurd is
    stmt_moves w (t.Empty n) i j u v ei ej l h (node, ends, e) = (node_on n i j u v (omega arith) (omega arith) (omega arith) (omega arith) (omega arith) node, sort_on _ i u (omega arith) (omega arith) (omega arith) ends, (omega arith))
    stmt_moves w (t.Value n y) i j u v ei ej l h (node, is, a, p, ends, e) =
        let r = x.expr_rises text ts 14 y i a p in
        let ma = place a (omega arith) in
        (node_on n i j u v (omega arith) (omega arith) (omega arith) (omega arith) (omega arith) node, statement_on f y is, ma.0, expr_on 14 y i a u ma.0 (omega arith) (omega arith) (omega arith) (omega arith) p, sort_on _ a ma.0 (omega arith) (omega arith) (omega arith) ends, (omega arith))
    stmt_moves w (t.If n e y t.NoStmt) i j u v ei ej l h (node, is, a, p, q, no_else) =
        let r = x.test_spans text ts e (i + 1) a p in
        let m = x.stmt_rises text ts false y a j q in
        let ma = place a (omega arith) in
        (node_on n i j u v (omega arith) (omega arith) (omega arith) (omega arith) (omega arith) node, sort_on _ i u (omega arith) (omega arith) (omega arith) is, ma.0, test_moves e (i + 1) a (u + 1) ma.0 (omega arith) (omega arith) (omega arith) (omega arith) p, stmt_moves false y a j ma.0 v (omega arith) (omega arith) (omega arith) (omega arith) q, other_behind _ j v (omega arith) (omega arith) (omega arith) no_else)
    stmt_moves w (t.If n e y (t.AStmt z)) i j u v ei ej l h (node, is, a, p, d, q, else_is, o) =
        let r = x.test_spans text ts e (i + 1) a p in
        let m = x.stmt_rises text ts false y a d q in
        let k = x.stmt_rises text ts false z (d + 1) j o in
        let ma = place a (omega arith) in
        let md = place d (omega arith) in (
          node_on n i j u v (omega arith) (omega arith) (omega arith) (omega arith) (omega arith) node,
          sort_on _ i u (omega arith) (omega arith) (omega arith) is,
          ma.0,
          test_moves e (i + 1) a (u + 1) ma.0 (omega arith) (omega arith) (omega arith) (omega arith) p,
          md.0,
          stmt_moves false y a d ma.0 md.0 (omega arith) (omega arith) (omega arith) (omega arith) q,
          sort_on _ d md.0 (omega arith) (omega arith) (omega arith) else_is,
          stmt_moves false z (d + 1) j (md.0 + 1) v (omega arith) (omega arith) (omega arith) (omega arith) o,
        )
    stmt_moves w (t.While n e y) i j u v ei ej l h (node, is, a, p, q) =
        let r = x.test_spans text ts e (i + 1) a p in
        let m = x.stmt_rises text ts false y a j q in
        let ma = place a (omega arith) in
        (node_on n i j u v (omega arith) (omega arith) (omega arith) (omega arith) (omega arith) node, sort_on _ i u (omega arith) (omega arith) (omega arith) is, ma.0, test_moves e (i + 1) a (u + 1) ma.0 (omega arith) (omega arith) (omega arith) (omega arith) p, stmt_moves false y a j ma.0 v (omega arith) (omega arith) (omega arith) (omega arith) q)
    stmt_moves w (t.Do n y e) i j u v ei ej l h (node, is, a, p, while_is, d, q, ends, last) =
        let r = x.stmt_rises text ts false y (i + 1) a p in
        let m = x.test_spans text ts e (a + 1) d q in
        let ma = place a (omega arith) in
        let md = place d (omega arith) in (
          node_on n i j u v (omega arith) (omega arith) (omega arith) (omega arith) (omega arith) node,
          sort_on _ i u (omega arith) (omega arith) (omega arith) is,
          ma.0,
          stmt_moves false y (i + 1) a (u + 1) ma.0 (omega arith) (omega arith) (omega arith) (omega arith) p,
          sort_on _ a ma.0 (omega arith) (omega arith) (omega arith) while_is,
          md.0,
          test_moves e (a + 1) d (ma.0 + 1) md.0 (omega arith) (omega arith) (omega arith) (omega arith) q,
          sort_on _ d md.0 (omega arith) (omega arith) (omega arith) ends,
          (omega arith),
        )
    stmt_moves w (t.For n ys e es y) i j u v ei ej l h (node, is, opens, a, p, semi, d, q, semis, m, o, closes, z) =
        let r1 = x.start_rises text ts ys (i + 2) a p in
        let r2 = x.maybe_spans text ts e (a + 1) d q in
        let r3 = x.update_spans text ts es (d + 1) m o in
        let r4 = x.stmt_rises text ts false y (m + 1) j z in
        let ma = place a (omega arith) in
        let md = place d (omega arith) in
        let mm = place m (omega arith) in (
          node_on n i j u v (omega arith) (omega arith) (omega arith) (omega arith) (omega arith) node,
          sort_on _ i u (omega arith) (omega arith) (omega arith) is,
          sort_on _ (i + 1) (u + 1) (omega arith) (omega arith) (omega arith) opens,
          ma.0,
          start_moves ys (i + 2) a (u + 2) ma.0 (omega arith) (omega arith) (omega arith) (omega arith) p,
          sort_on _ a ma.0 (omega arith) (omega arith) (omega arith) semi,
          md.0,
          maybe_moves e (a + 1) d (ma.0 + 1) md.0 (omega arith) (omega arith) (omega arith) (omega arith) q,
          sort_on _ d md.0 (omega arith) (omega arith) (omega arith) semis,
          mm.0,
          update_moves es (d + 1) m (md.0 + 1) mm.0 (omega arith) (omega arith) (omega arith) (omega arith) o,
          sort_on _ m mm.0 (omega arith) (omega arith) (omega arith) closes,
          stmt_moves false y (m + 1) j (mm.0 + 1) v (omega arith) (omega arith) (omega arith) (omega arith) z,
        )
    stmt_moves w (t.ForEach n final_is ty name e y) i j u v ei ej l h (node, is, opens, a, final, d, p, id, colon, m, q, closes, z) =
        let r1 = x.final_rises text ts final_is (i + 2) a final in
        let r2 = x.type_rises text ts ty a d p in
        let r3 = x.expr_rises text ts 14 e (d + 2) m q in
        let r4 = x.stmt_rises text ts false y (m + 1) j z in
        let ma = place a (omega arith) in
        let md = place d (omega arith) in
        let mm = place m (omega arith) in (
          node_on n i j u v (omega arith) (omega arith) (omega arith) (omega arith) (omega arith) node,
          sort_on _ i u (omega arith) (omega arith) (omega arith) is,
          sort_on _ (i + 1) (u + 1) (omega arith) (omega arith) (omega arith) opens,
          ma.0,
          final_moves final_is (i + 2) a (u + 2) ma.0 (omega arith) (omega arith) (omega arith) (omega arith) final,
          md.0,
          type_on ty a d ma.0 md.0 (omega arith) (omega arith) (omega arith) (omega arith) p,
          id_on name d md.0 (omega arith) (omega arith) (omega arith) id,
          sort_on _ (d + 1) (md.0 + 1) (omega arith) (omega arith) (omega arith) colon,
          mm.0,
          expr_on 14 e (d + 2) m (md.0 + 2) mm.0 (omega arith) (omega arith) (omega arith) (omega arith) q,
          sort_on _ m mm.0 (omega arith) (omega arith) (omega arith) closes,
          stmt_moves false y (m + 1) j (mm.0 + 1) v (omega arith) (omega arith) (omega arith) (omega arith) z,
        )
    stmt_moves w (t.Switch n e gs) i j u v ei ej l h (node, is, a, p, opens, d, q, closes, z) =
        let r = x.test_spans text ts e (i + 1) a p in
        let m = x.groups_span text ts gs (a + 1) d q in
        let ma = place a (omega arith) in
        let md = place d (omega arith) in (
          node_on n i j u v (omega arith) (omega arith) (omega arith) (omega arith) (omega arith) node,
          sort_on _ i u (omega arith) (omega arith) (omega arith) is,
          ma.0,
          test_moves e (i + 1) a (u + 1) ma.0 (omega arith) (omega arith) (omega arith) (omega arith) p,
          sort_on _ a ma.0 (omega arith) (omega arith) (omega arith) opens,
          md.0,
          groups_move gs (a + 1) d (ma.0 + 1) md.0 (omega arith) (omega arith) (omega arith) (omega arith) q,
          sort_on _ d md.0 (omega arith) (omega arith) (omega arith) closes,
          (omega arith),
        )
    stmt_moves w (t.Break n) i j u v ei ej l h (node, is, ends, e) = (node_on n i j u v (omega arith) (omega arith) (omega arith) (omega arith) (omega arith) node, sort_on _ i u (omega arith) (omega arith) (omega arith) is, sort_on _ (i + 1) (u + 1) (omega arith) (omega arith) (omega arith) ends, (omega arith))
    stmt_moves w (t.Continue n) i j u v ei ej l h (node, is, ends, e) = (node_on n i j u v (omega arith) (omega arith) (omega arith) (omega arith) (omega arith) node, sort_on _ i u (omega arith) (omega arith) (omega arith) is, sort_on _ (i + 1) (u + 1) (omega arith) (omega arith) (omega arith) ends, (omega arith))
    stmt_moves w (t.Return n y) i j u v ei ej l h (node, is, a, p, ends, e) =
        let r = x.maybe_spans text ts y (i + 1) a p in
        let ma = place a (omega arith) in
        (node_on n i j u v (omega arith) (omega arith) (omega arith) (omega arith) (omega arith) node, sort_on _ i u (omega arith) (omega arith) (omega arith) is, ma.0, maybe_moves y (i + 1) a (u + 1) ma.0 (omega arith) (omega arith) (omega arith) (omega arith) p, sort_on _ a ma.0 (omega arith) (omega arith) (omega arith) ends, (omega arith))
    stmt_moves w (t.Throw n y) i j u v ei ej l h (node, is, a, p, ends, e) =
        let r = x.expr_rises text ts 14 y (i + 1) a p in
        let ma = place a (omega arith) in
        (node_on n i j u v (omega arith) (omega arith) (omega arith) (omega arith) (omega arith) node, sort_on _ i u (omega arith) (omega arith) (omega arith) is, ma.0, expr_on 14 y (i + 1) a (u + 1) ma.0 (omega arith) (omega arith) (omega arith) (omega arith) p, sort_on _ a ma.0 (omega arith) (omega arith) (omega arith) ends, (omega arith))
    stmt_moves w (t.Try n y cs z) i j u v ei ej l h (node, is, block, a, p, d, q, o, no_catch, no_finally) =
        let r = x.stmt_rises text ts false y (i + 1) a p in
        let m = x.catches_span text ts cs a d q in
        let k = x.last_spans text ts cs z d j o in
        let ma = place a (omega arith) in
        let md = place d (omega arith) in (
          node_on n i j u v (omega arith) (omega arith) (omega arith) (omega arith) (omega arith) node,
          sort_on _ i u (omega arith) (omega arith) (omega arith) is,
          block_on f y block,
          ma.0,
          stmt_moves false y (i + 1) a (u + 1) ma.0 (omega arith) (omega arith) (omega arith) (omega arith) p,
          md.0,
          catches_move cs a d ma.0 md.0 (omega arith) (omega arith) (omega arith) (omega arith) q,
          last_moves cs z d j md.0 v (omega arith) (omega arith) (omega arith) (omega arith) o,
          other_behind _ j v (omega arith) (omega arith) (omega arith) no_catch,
          other_behind _ j v (omega arith) (omega arith) (omega arith) no_finally,
        )
    stmt_moves w (t.ThisCall n ys) i j u v ei ej l h (node, is, opens, a, p, ends, e) =
        let r = x.values_span text ts ys (i + 2) a p in
        let ma = place a (omega arith) in
        (node_on n i j u v (omega arith) (omega arith) (omega arith) (omega arith) (omega arith) node, sort_on _ i u (omega arith) (omega arith) (omega arith) is, sort_on _ (i + 1) (u + 1) (omega arith) (omega arith) (omega arith) opens, ma.0, values_on ys (i + 2) a (u + 2) ma.0 (omega arith) (omega arith) (omega arith) (omega arith) p, sort_on _ a ma.0 (omega arith) (omega arith) (omega arith) ends, (omega arith))
    stmt_moves w (t.SuperCall n ys) i j u v ei ej l h (node, is, opens, a, p, ends, e) =
        let r = x.values_span text ts ys (i + 2) a p in
        let ma = place a (omega arith) in
        (node_on n i j u v (omega arith) (omega arith) (omega arith) (omega arith) (omega arith) node, sort_on _ i u (omega arith) (omega arith) (omega arith) is, sort_on _ (i + 1) (u + 1) (omega arith) (omega arith) (omega arith) opens, ma.0, values_on ys (i + 2) a (u + 2) ma.0 (omega arith) (omega arith) (omega arith) (omega arith) p, sort_on _ a ma.0 (omega arith) (omega arith) (omega arith) ends, (omega arith))

    stmts_move : (ys : Stmts) (i j u v : ℕ) → i + at ≡ u + lo → j + at ≡ v + lo → lo ≤ i → j ≤ hi → st.AreStmts text ts ys i j → st.AreStmts other us (c.stmts f ys) u v
    stmts_move t.Last i j u v ei ej l h e = (omega arith)
    stmts_move (t.Then y ys) i j u v ei ej l h (a, p, rest) =
        let r = x.stmt_rises text ts true y i a p in
        let m = x.stmts_span text ts ys a j rest in
        let ma = place a (omega arith) in
        (ma.0, stmt_moves true y i a u ma.0 (omega arith) (omega arith) (omega arith) (omega arith) p, stmts_move ys a j ma.0 v (omega arith) (omega arith) (omega arith) (omega arith) rest)

    group_moves : (y : Group) (i j u v : ℕ) → i + at ≡ u + lo → j + at ≡ v + lo → lo ≤ i → j ≤ hi → st.IsGroup text ts y i j → st.IsGroup other us (c.group f y) u v
    group_moves (t.Labelled n ls t.Last) i j u v ei ej l h (node, p, closes) =
        let r = x.labels_span text ts ls i j p in
        (node_on n i j u v (omega arith) (omega arith) (omega arith) (omega arith) (omega arith) node, labels_move ls i j u v ei ej l h p, wide j v (omega arith) (omega arith) (omega arith) ∙ closes)
    group_moves (t.Labelled n ls (t.Then y ys)) i j u v ei ej l h (node, a, p, d, q, rest) =
        let r = x.labels_span text ts ls i a p in
        let m = x.stmt_rises text ts true y a d q in
        let k = x.stmts_span text ts ys d j rest in
        let ma = place a (omega arith) in
        let md = place d (omega arith) in
        (node_on n i j u v (omega arith) (omega arith) (omega arith) (omega arith) (omega arith) node, ma.0, labels_move ls i a u ma.0 (omega arith) (omega arith) (omega arith) (omega arith) p, md.0, stmt_moves true y a d ma.0 md.0 (omega arith) (omega arith) (omega arith) (omega arith) q, stmts_move ys d j md.0 v (omega arith) (omega arith) (omega arith) (omega arith) rest)

    groups_move : (ys : Groups) (i j u v : ℕ) → i + at ≡ u + lo → j + at ≡ v + lo → lo ≤ i → j ≤ hi → st.AreGroups text ts ys i j → st.AreGroups other us (c.groups f ys) u v
    groups_move t.NoGroup i j u v ei ej l h e = (omega arith)
    groups_move (t.AndGroup y ys) i j u v ei ej l h (a, p, rest) =
        let r = x.group_spans text ts y i a p in
        let m = x.groups_span text ts ys a j rest in
        let ma = place a (omega arith) in
        (ma.0, group_moves y i a u ma.0 (omega arith) (omega arith) (omega arith) (omega arith) p, groups_move ys a j ma.0 v (omega arith) (omega arith) (omega arith) (omega arith) rest)

    catch_moves : (y : Catch) (i j u v : ℕ) → i + at ≡ u + lo → j + at ≡ v + lo → lo ≤ i → j ≤ hi → st.IsCatch text ts y i j → st.IsCatch other us (c.catch f y) u v
    catch_moves (t.Caught n y z) i j u v ei ej l h (node, is, opens, a, p, closes, block, q) =
        let r = x.param_spans text ts y (i + 2) a p in
        let m = x.stmt_rises text ts false z (a + 1) j q in
        let ma = place a (omega arith) in (
          node_on n i j u v (omega arith) (omega arith) (omega arith) (omega arith) (omega arith) node,
          sort_on _ i u (omega arith) (omega arith) (omega arith) is,
          sort_on _ (i + 1) (u + 1) (omega arith) (omega arith) (omega arith) opens,
          ma.0,
          param_moves y (i + 2) a (u + 2) ma.0 (omega arith) (omega arith) (omega arith) (omega arith) p,
          sort_on _ a ma.0 (omega arith) (omega arith) (omega arith) closes,
          block_on f z block,
          stmt_moves false z (a + 1) j (ma.0 + 1) v (omega arith) (omega arith) (omega arith) (omega arith) q,
        )

    catches_move : (ys : Catches) (i j u v : ℕ) → i + at ≡ u + lo → j + at ≡ v + lo → lo ≤ i → j ≤ hi → st.AreCatches text ts ys i j → st.AreCatches other us (c.catches f ys) u v
    catches_move t.NoCatch i j u v ei ej l h e = (omega arith)
    catches_move (t.AndCatch y ys) i j u v ei ej l h (a, p, rest) =
        let r = x.catch_spans text ts y i a p in
        let m = x.catches_span text ts ys a j rest in
        let ma = place a (omega arith) in
        (ma.0, catch_moves y i a u ma.0 (omega arith) (omega arith) (omega arith) (omega arith) p, catches_move ys a j ma.0 v (omega arith) (omega arith) (omega arith) (omega arith) rest)

    last_moves : (cs : Catches) (y : MaybeStmt) (i j u v : ℕ) → i + at ≡ u + lo → j + at ≡ v + lo → lo ≤ i → j ≤ hi → st.IsLast text ts cs y i j → st.IsLast other us (c.catches f cs) (c.maybe_stmt f y) u v
    last_moves cs (t.AStmt y) i j u v ei ej l h (is, block, p) =
        let r = x.stmt_rises text ts false y (i + 1) j p in
        (sort_on _ i u (omega arith) (omega arith) (omega arith) is, block_on f y block, stmt_moves false y (i + 1) j (u + 1) v (omega arith) (omega arith) (omega arith) (omega arith) p)
    last_moves t.NoCatch t.NoStmt i j u v ei ej l h is = absurd is
    last_moves (t.AndCatch y cs) t.NoStmt i j u v ei ej l h e = (omega arith)

-- the tokens agree, and the one behind them is of one sort
pub sort_behind : (f : ℕ → ℕ) (text : List ℕ) (ts : List Tok) (other : List ℕ) (us : List Tok) (lo hi at : ℕ) → Agrees f text ts other us lo hi at → lo ≤ hi
    → sort_at us (at + (hi - lo)) ≡ sort_at ts hi → (p q : ℕ) → p + at ≡ q + lo → lo ≤ p → p ≤ hi → sort_at us q ≡ sort_at ts p
sort_behind f text ts other us lo hi at same le behind p q e l h = by_place (nat_lt p hi) refl
  where
    by_place : (b : Bool) → nat_lt p hi ≡ b → sort_at us q ≡ sort_at ts p
    by_place true is = let less : p < hi = grind (arith, nat_tests) in same.sort p q e l less
    by_place false is =
        let past : hi ≤ p = grind (arith, nat_tests) in
        let here : p ≡ hi = omega arith in
        let there : q ≡ at + (hi - lo) = omega arith in
        rw (here, there) behind
