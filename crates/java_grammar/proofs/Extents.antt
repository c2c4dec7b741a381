-- A tree has at most as many nodes as tokens.
use Rattle.std.proofs.Common.{◌≤◌, ◌<◌, inl, inr, ℕ, zero, suc, ◌+◌, Bool, true, false, List, [], ◌∷◌, Option, Some, None, arith}
use Rattle.java_tree.specs.declared.tree.Name.{Name}
use Rattle.java_tree.specs.declared.tree.Head.{Head}
use Rattle.java_tree.specs.declared.tree.Head.TheVariants as head
use Rattle.java_tree.specs.declared.tree.BinOp.{BinOp}
use Rattle.java_tree.specs.declared.tree.BinOp.TheVariants as op
use Rattle.java_tree.specs.Plain as t
use Rattle.java_tree.specs.Plain.{TypeExpr, TypeExprs, Expr, Exprs, Var, Param, Stmt, MaybeStmt, Stmts, Group, Groups, Catch, Catches}
use Rattle.tree_numbers.specs.Sizes as size
use Rattle.java_grammar.specs.declared.token.Tok.{Tok}
use Rattle.java_grammar.specs.Expressions as g
use Rattle.java_grammar.specs.Statements as b

-- ---- a tree has a node

pub some_type : (x : TypeExpr) → 1 ≤ size.type x
some_type (t.Written n h s xs d) = omega arith

pub some_expr : (e : Expr) → 1 ≤ size.expr e
some_expr (t.Number n x d l) = omega arith
some_expr (t.Char n x) = omega arith
some_expr (t.Text n x) = omega arith
some_expr (t.Truth n x) = omega arith
some_expr (t.Null n) = omega arith
some_expr (t.This n) = omega arith
some_expr (t.Name n x) = omega arith
some_expr (t.Field n x f) = omega arith
some_expr (t.SuperField n f) = omega arith
some_expr (t.Index n x y) = omega arith
some_expr (t.Call n of f xs) = omega arith
some_expr (t.SuperMethod n f xs) = omega arith
some_expr (t.New n ty xs) = omega arith
some_expr (t.NewArray n ty xs extra) = omega arith
some_expr (t.NewFilled n ty x) = omega arith
some_expr (t.Items n xs) = omega arith
some_expr (t.Paren n x) = omega arith
some_expr (t.Unary n op x) = omega arith
some_expr (t.Step n up before x) = omega arith
some_expr (t.Cast n ty close x) = omega arith
some_expr (t.Binary n op x y) = omega arith
some_expr (t.InstanceOf n x ty) = omega arith
some_expr (t.Cond n x y z) = omega arith
some_expr (t.Assign n op x y) = omega arith

pub some_stmt : (x : Stmt) → 1 ≤ size.stmt x
some_stmt (t.Block n xs) = omega arith
some_stmt (t.Local n f ty vs) = omega arith
some_stmt (t.Empty n) = omega arith
some_stmt (t.Value n x) = omega arith
some_stmt (t.If n x a b) = omega arith
some_stmt (t.While n x a) = omega arith
some_stmt (t.Do n a x) = omega arith
some_stmt (t.For n xs x ys a) = omega arith
some_stmt (t.ForEach n f ty v x a) = omega arith
some_stmt (t.Switch n x gs) = omega arith
some_stmt (t.Break n) = omega arith
some_stmt (t.Continue n) = omega arith
some_stmt (t.Return n x) = omega arith
some_stmt (t.Throw n x) = omega arith
some_stmt (t.Try n a cs b) = omega arith
some_stmt (t.ThisCall n xs) = omega arith
some_stmt (t.SuperCall n xs) = omega arith

module _ (text : List ℕ) (ts : List Tok) where
  -- ---- types

  pub brackets_rise : (d i j : ℕ) → g.AreBrackets text ts d i j → i ≤ j
  brackets_rise zero i j e = omega arith
  brackets_rise (suc d) i j (opens, close, rest) = let r = brackets_rise d (i + 2) j rest in omega arith

  pub path_rises : (xs : List Name) (i j : ℕ) → g.IsPath text ts xs i j → i < j
  path_rises [] i j h = absurd h
  path_rises (x ∷ []) i j (id, e) = omega arith
  path_rises (x ∷ y ∷ xs) i j (id, dot, rest) = let r = path_rises (y ∷ xs) (i + 2) j rest in omega arith

  pub head_rises : (h : Head) (i j : ℕ) → g.IsHead text ts h i j → i < j
  head_rises (head.Prim p) i j (word, e) = omega arith
  head_rises (head.Path xs) i j p = path_rises xs i j p

  mutual
    pub type_spans : (x : TypeExpr) (i j : ℕ) → g.SpellsType text ts x i j → i + size.type x ≤ j
    type_spans (t.Written n h s xs d) i j (node, a, is, span, b, args, brackets) =
        let r = head_rises h i a is in
        let u = arguments_span h xs a b args in
        let v = brackets_rise d b j brackets in
        omega arith

    pub arguments_span : (h : Head) (xs : TypeExprs) (i j : ℕ) → g.AreArguments text ts h xs i j → i + size.types xs ≤ j
    arguments_span (head.Path ps) t.NoTypes i j e = omega arith
    arguments_span (head.Prim p) t.NoTypes i j e = omega arith
    arguments_span (head.Path ps) (t.AndType x xs) i j (less, a, p, no_prim, rest) =
        let r = type_spans x (i + 1) a p in
        let u = more_types_span xs a j rest in
        omega arith
    arguments_span (head.Prim p) (t.AndType x xs) i j h = absurd h

    pub more_types_span : (xs : TypeExprs) (i j : ℕ) → g.AreMoreTypes text ts xs i j → i + size.types xs + 1 ≤ j
    more_types_span t.NoTypes i j (greater, e) = omega arith
    more_types_span (t.AndType x xs) i j (comma, a, p, no_prim, rest) =
        let r = type_spans x (i + 1) a p in
        let u = more_types_span xs a j rest in
        omega arith

  pub type_rises : (x : TypeExpr) (i j : ℕ) → g.SpellsType text ts x i j → i < j
  type_rises x i j p = let r = type_spans x i j p in let u = some_type x in omega arith

  -- ---- expressions

  pub infix_rises : (x : BinOp) (i j : ℕ) → g.IsInfix text ts x i j → i < j
  infix_rises op.ShiftRight i j (a, joined, b, e) = omega arith
  infix_rises op.ShiftRightZero i j (a, joined, b, next, c, e) = omega arith
  infix_rises x i j h = omega arith

  pub assignment_rises : (x : Option BinOp) (i j : ℕ) → g.IsAssignment text ts x i j → i < j
  assignment_rises (Some op.ShiftRight) i j (a, joined, b, e) = omega arith
  assignment_rises (Some op.ShiftRightZero) i j (a, joined, b, next, c, e) = omega arith
  assignment_rises None i j (a, e) = omega arith
  assignment_rises (Some x) i j h = omega arith

  pub end_rises : (i j : ℕ) → g.EndsItems text ts i j → i < j
  end_rises i j (inl h) = let e = h.1 in omega arith
  end_rises i j (inr h) = let e = h.2 in omega arith

  mutual
    pub expr_spans : (k : ℕ) (e : Expr) (i j : ℕ) → g.Spells text ts k e i j → i + size.expr e ≤ j
    expr_spans k (t.Number n v decimal long) i j (node, is, value, base, e) = omega arith
    expr_spans k (t.Char n c) i j (node, is, value, e) = omega arith
    expr_spans k (t.Text n us) i j (node, is, value, e) = omega arith
    expr_spans k (t.Truth n b) i j (node, is, e) = omega arith
    expr_spans k (t.Null n) i j (node, is, e) = omega arith
    expr_spans k (t.This n) i j (node, is, e) = omega arith
    expr_spans k (t.Name n x) i j (node, is, e) = omega arith
    expr_spans k (t.Field n x f) i j (node, a, p, dot, id, e) = let r = expr_spans 0 x i a p in omega arith
    expr_spans k (t.SuperField n f) i j (node, super, dot, id, e) = omega arith
    expr_spans k (t.Index n x y) i j (node, no_new, a, p, opens, b, q, closes, e) =
        let r = expr_spans 0 x i a p in
        let u = expr_spans 14 y (a + 1) b q in
        omega arith
    expr_spans k (t.Call n t.NoExpr f xs) i j (node, id, opens, values) = let r = values_span xs (i + 2) j values in omega arith
    expr_spans k (t.Call n (t.AnExpr x) f xs) i j (node, a, p, dot, id, opens, values) =
        let r = expr_spans 0 x i a p in
        let u = values_span xs (a + 3) j values in
        omega arith
    expr_spans k (t.SuperMethod n f xs) i j (node, super, dot, id, opens, values) = let r = values_span xs (i + 4) j values in omega arith
    expr_spans k (t.New n ty xs) i j (node, new, class, a, p, opens, values) =
        let r = type_spans ty (i + 1) a p in
        let u = values_span xs (a + 1) j values in
        omega arith
    expr_spans k (t.NewArray n ty xs extra) i j (node, new, no_brackets, a, p, some, b, sizes, brackets) =
        let r = type_spans ty (i + 1) a p in
        let u = sizes_span xs a b sizes in
        let v = brackets_rise extra b j brackets in
        omega arith
    expr_spans k (t.NewFilled n ty x) i j (node, new, brackets, items, a, p, q) =
        let r = type_spans ty (i + 1) a p in
        let u = expr_spans 15 x a j q in
        omega arith
    expr_spans k (t.Items n xs) i j (node, level, opens, items) = let r = items_span xs (i + 1) j items in omega arith
    expr_spans k (t.Paren n x) i j (node, opens, a, p, closes, e) = let r = expr_spans 14 x (i + 1) a p in omega arith
    expr_spans k (t.Unary n u x) i j (node, level, sign, p) = let r = expr_spans 2 x (i + 1) j p in omega arith
    expr_spans k (t.Step n up true x) i j (node, level, step, variable, p) = let r = expr_spans 2 x (i + 1) j p in omega arith
    expr_spans k (t.Step n up false x) i j (node, level, variable, a, p, step, e) = let r = expr_spans 0 x i a p in omega arith
    expr_spans k (t.Cast n ty close x) i j (node, level, opens, a, p, closes, place, may, q) =
        let r = type_spans ty (i + 1) a p in
        let u = expr_spans 2 x (a + 1) j q in
        omega arith
    expr_spans k (t.Binary n o x y) i j (node, level, a, p, b, is, q) =
        let r = expr_spans (g.level_of o) x i a p in
        let s = infix_rises o a b is in
        let u = expr_spans _ y b j q in
        omega arith
    expr_spans k (t.InstanceOf n x ty) i j (node, level, a, p, word, no_args, q) =
        let r = expr_spans 6 x i a p in
        let u = type_spans ty (a + 1) j q in
        omega arith
    expr_spans k (t.Cond n x y z) i j (node, level, a, p, question, b, q, colon, s) =
        let r = expr_spans 12 x i a p in
        let u = expr_spans 14 y (a + 1) b q in
        let v = expr_spans 13 z (b + 1) j s in
        omega arith
    expr_spans k (t.Assign n o x y) i j (node, level, variable, a, p, b, is, q) =
        let r = expr_spans 2 x i a p in
        let s = assignment_rises o a b is in
        let u = expr_spans 14 y b j q in
        omega arith

    pub values_span : (es : Exprs) (i j : ℕ) → g.AreValues text ts es i j → i + size.exprs es + 1 ≤ j
    values_span t.End i j (closes, e) = omega arith
    values_span (t.Also x xs) i j (a, p, rest) =
        let r = expr_spans 14 x i a p in
        let u = more_values_span xs a j rest in
        omega arith

    pub more_values_span : (es : Exprs) (i j : ℕ) → g.AreMoreValues text ts es i j → i + size.exprs es + 1 ≤ j
    more_values_span t.End i j (closes, e) = omega arith
    more_values_span (t.Also x xs) i j (comma, a, p, rest) =
        let r = expr_spans 14 x (i + 1) a p in
        let u = more_values_span xs a j rest in
        omega arith

    pub sizes_span : (es : Exprs) (i j : ℕ) → g.AreSizes text ts es i j → i + size.exprs es ≤ j
    sizes_span t.End i j e = omega arith
    sizes_span (t.Also x xs) i j (opens, a, p, close, rest) =
        let r = expr_spans 14 x (i + 1) a p in
        let u = sizes_span xs (a + 1) j rest in
        omega arith

    pub items_span : (es : Exprs) (i j : ℕ) → g.AreItems text ts es i j → i + size.exprs es + 1 ≤ j
    items_span t.End i j h = let r = end_rises i j h in omega arith
    items_span (t.Also x xs) i j (a, p, rest) =
        let r = expr_spans 15 x i a p in
        let u = more_items_span xs a j rest in
        omega arith

    pub more_items_span : (es : Exprs) (i j : ℕ) → g.AreMoreItems text ts es i j → i + size.exprs es + 1 ≤ j
    more_items_span t.End i j h = let r = end_rises i j h in omega arith
    more_items_span (t.Also x xs) i j (comma, a, p, rest) =
        let r = expr_spans 15 x (i + 1) a p in
        let u = more_items_span xs a j rest in
        omega arith

  pub expr_rises : (k : ℕ) (e : Expr) (i j : ℕ) → g.Spells text ts k e i j → i < j
  expr_rises k e i j p = let r = expr_spans k e i j p in let u = some_expr e in omega arith

  -- ---- variables and parameters

  pub final_rises : (f : Bool) (i a : ℕ) → b.IsFinal text ts f i a → i ≤ a
  final_rises true i a (word, e) = omega arith
  final_rises false i a e = omega arith

  pub init_spans : (x : Option Expr) (i j : ℕ) → b.IsInit text ts x i j → i + size.init x ≤ j
  init_spans None i j e = omega arith
  init_spans (Some x) i j (equals, p) = let r = expr_spans 15 x (i + 1) j p in omega arith

  pub var_spans : (v : Var) (i j : ℕ) → b.IsVar text ts v i j → i + size.var v ≤ j
  var_spans v i j p =
      let r = brackets_rise v.dims (i + 1) p.end p.brackets in
      let u = init_spans v.init p.end j p.init in
      omega arith

  pub vars_span : (vs : List Var) (i j : ℕ) → b.AreVars text ts vs i j → i + size.vars vs ≤ j
  vars_span [] i j h = absurd h
  vars_span (v ∷ []) i j p = let r = var_spans v i j p in omega arith
  vars_span (v ∷ w ∷ vs) i j (a, p, comma, rest) =
      let r = var_spans v i a p in
      let u = vars_span (w ∷ vs) (a + 1) j rest in
      omega arith

  pub param_spans : (x : Param) (i j : ℕ) → b.IsParam text ts x i j → i + size.param x ≤ j
  param_spans x i j p =
      let r = final_rises x.is_final i p.begin p.final in
      let u = type_spans x.ty p.begin p.name_at p.type in
      let v = brackets_rise x.dims (p.name_at + 1) j p.brackets in
      omega arith

  pub local_spans : (f : Bool) (ty : TypeExpr) (vs : List Var) (i j : ℕ) → b.IsLocal text ts f ty vs i j → i + size.type ty + size.vars vs ≤ j
  local_spans f ty vs i j (a, final, c, p, rest) =
      let r = final_rises f i a final in
      let u = type_spans ty a c p in
      let v = vars_span vs c j rest in
      omega arith

  -- ---- parts of statements

  pub test_spans : (e : Expr) (i j : ℕ) → b.IsTest text ts e i j → i + size.expr e + 2 ≤ j
  test_spans e i j (opens, a, p, closes, q) = let r = expr_spans 14 e (i + 1) a p in omega arith

  pub maybe_spans : (x : Option Expr) (i j : ℕ) → b.IsMaybe text ts x i j → i + size.init x ≤ j
  maybe_spans None i j e = omega arith
  maybe_spans (Some x) i j p = expr_spans 14 x i j p

  pub performed_span : (es : Exprs) (i j : ℕ) → b.ArePerformed text ts es i j → i + size.exprs es ≤ j
  performed_span t.End i j h = absurd h
  performed_span (t.Also e t.End) i j (is, p) = let r = expr_spans 14 e i j p in omega arith
  performed_span (t.Also e (t.Also f es)) i j (is, a, p, comma, rest) =
      let r = expr_spans 14 e i a p in
      let u = performed_span (t.Also f es) (a + 1) j rest in
      omega arith

  -- Such statements have no token of their own.
  pub first_span : (xs : Stmts) (i j : ℕ) → b.ArePerformedFirst text ts xs i j → i + size.stmts xs ≤ j + 1
  first_span (t.Then (t.Value n e) t.Last) i j (node, is, p) = let r = expr_spans 14 e i j p in omega arith
  first_span (t.Then (t.Value n e) (t.Then x xs)) i j (a, node, is, p, comma, rest) =
      let r = expr_spans 14 e i a p in
      let u = first_span (t.Then x xs) (a + 1) j rest in
      omega arith
  first_span xs i j h = absurd h

  pub start_spans : (xs : Stmts) (i j : ℕ) → b.IsStart text ts xs i j → i + size.stmts xs ≤ j + 1
  start_spans t.Last i j e = omega arith
  start_spans (t.Then (t.Local n f ty vs) t.Last) i j (node, p) = let r = local_spans f ty vs i j p in omega arith
  start_spans xs i j h = first_span xs i j h

  first_rises : (xs : Stmts) (i j : ℕ) → b.ArePerformedFirst text ts xs i j → i ≤ j
  first_rises (t.Then (t.Value n e) t.Last) i j (node, is, p) = let r = expr_spans 14 e i j p in omega arith
  first_rises (t.Then (t.Value n e) (t.Then x xs)) i j (a, node, is, p, comma, rest) =
      let r = expr_spans 14 e i a p in
      let u = first_rises (t.Then x xs) (a + 1) j rest in
      omega arith
  first_rises xs i j h = absurd h

  pub start_rises : (xs : Stmts) (i j : ℕ) → b.IsStart text ts xs i j → i ≤ j
  start_rises t.Last i j e = omega arith
  start_rises (t.Then (t.Local n f ty vs) t.Last) i j (node, p) = let r = local_spans f ty vs i j p in omega arith
  start_rises xs i j h = first_rises xs i j h

  pub update_spans : (es : Exprs) (i j : ℕ) → b.IsUpdate text ts es i j → i + size.exprs es ≤ j
  update_spans t.End i j e = omega arith
  update_spans (t.Also e es) i j h = performed_span (t.Also e es) i j h

  pub label_spans : (x : Option Expr) (i j : ℕ) → b.IsLabel text ts x i j → i + size.init x + 2 ≤ j
  label_spans None i j (word, colon, e) = omega arith
  label_spans (Some x) i j (word, value, a, p, colon, e) = let r = expr_spans 2 x (i + 1) a p in omega arith

  pub labels_span : (xs : List (Option Expr)) (i j : ℕ) → b.AreLabels text ts xs i j → i + size.labels xs + 2 ≤ j
  labels_span [] i j h = absurd h
  labels_span (x ∷ []) i j p = let r = label_spans x i j p in omega arith
  labels_span (x ∷ y ∷ ys) i j (a, p, rest) =
      let r = label_spans x i a p in
      let u = labels_span (y ∷ ys) a j rest in
      omega arith

  -- ---- statements

  mutual
    pub stmt_spans : (w : Bool) (x : Stmt) (i j : ℕ) → b.SpellsStmt text ts w x i j → i + size.stmt x ≤ j
    stmt_spans w (t.Block n xs) i j (node, opens, a, p, closes, e) = let r = stmts_span xs (i + 1) a p in omega arith
    stmt_spans true (t.Local n f ty vs) i j (node, a, p, ends, e) = let r = local_spans f ty vs i a p in omega arith
    stmt_spans false (t.Local n f ty vs) i j h = absurd h
    stmt_spans w (t.Empty n) i j (node, ends, e) = omega arith
    stmt_spans w (t.Value n x) i j (node, is, a, p, ends, e) = let r = expr_spans 14 x i a p in omega arith
    stmt_spans w (t.If n e x t.NoStmt) i j (node, word, a, p, q, no_else) =
        let r = test_spans e (i + 1) a p in
        let u = stmt_spans false x a j q in
        omega arith
    stmt_spans w (t.If n e x (t.AStmt y)) i j (node, word, a, p, c, q, else_word, s) =
        let r = test_spans e (i + 1) a p in
        let u = stmt_spans false x a c q in
        let v = stmt_spans false y (c + 1) j s in
        omega arith
    stmt_spans w (t.While n e x) i j (node, word, a, p, q) =
        let r = test_spans e (i + 1) a p in
        let u = stmt_spans false x a j q in
        omega arith
    stmt_spans w (t.Do n x e) i j (node, word, a, p, while_word, c, q, ends, last) =
        let r = stmt_spans false x (i + 1) a p in
        let u = test_spans e (a + 1) c q in
        omega arith
    stmt_spans w (t.For n xs e es x) i j (node, word, opens, a, p, semi, c, q, semis, d, s, closes, z) =
        let r = start_spans xs (i + 2) a p in
        let u = maybe_spans e (a + 1) c q in
        let v = update_spans es (c + 1) d s in
        let y = stmt_spans false x (d + 1) j z in
        omega arith
    stmt_spans w (t.ForEach n f ty v e x) i j (node, word, opens, a, final, c, p, id, colon, d, q, closes, s) =
        let o = final_rises f (i + 2) a final in
        let r = type_spans ty a c p in
        let u = expr_spans 14 e (c + 2) d q in
        let y = stmt_spans false x (d + 1) j s in
        omega arith
    stmt_spans w (t.Switch n e gs) i j (node, word, a, p, opens, c, q, closes, z) =
        let r = test_spans e (i + 1) a p in
        let u = groups_span gs (a + 1) c q in
        omega arith
    stmt_spans w (t.Break n) i j (node, word, ends, e) = omega arith
    stmt_spans w (t.Continue n) i j (node, word, ends, e) = omega arith
    stmt_spans w (t.Return n x) i j (node, word, a, p, ends, e) = let r = maybe_spans x (i + 1) a p in omega arith
    stmt_spans w (t.Throw n x) i j (node, word, a, p, ends, e) = let r = expr_spans 14 x (i + 1) a p in omega arith
    stmt_spans w (t.Try n x cs y) i j (node, word, block, a, p, c, q, s, no_catch, no_finally) =
        let r = stmt_spans false x (i + 1) a p in
        let u = catches_span cs a c q in
        let v = last_spans cs y c j s in
        omega arith
    stmt_spans w (t.ThisCall n xs) i j (node, word, opens, a, p, ends, e) = let r = values_span xs (i + 2) a p in omega arith
    stmt_spans w (t.SuperCall n xs) i j (node, word, opens, a, p, ends, e) = let r = values_span xs (i + 2) a p in omega arith

    pub stmts_span : (xs : Stmts) (i j : ℕ) → b.AreStmts text ts xs i j → i + size.stmts xs ≤ j
    stmts_span t.Last i j e = omega arith
    stmts_span (t.Then x xs) i j (a, p, rest) =
        let r = stmt_spans true x i a p in
        let u = stmts_span xs a j rest in
        omega arith

    pub group_spans : (x : Group) (i j : ℕ) → b.IsGroup text ts x i j → i + size.group x ≤ j
    group_spans (t.Labelled n ls t.Last) i j (node, p, closes) = let r = labels_span ls i j p in omega arith
    group_spans (t.Labelled n ls (t.Then x xs)) i j (node, a, p, c, q, rest) =
        let r = labels_span ls i a p in
        let u = stmt_spans true x a c q in
        let v = stmts_span xs c j rest in
        omega arith

    pub groups_span : (gs : Groups) (i j : ℕ) → b.AreGroups text ts gs i j → i + size.groups gs ≤ j
    groups_span t.NoGroup i j e = omega arith
    groups_span (t.AndGroup x xs) i j (a, p, rest) =
        let r = group_spans x i a p in
        let u = groups_span xs a j rest in
        omega arith

    pub catch_spans : (x : Catch) (i j : ℕ) → b.IsCatch text ts x i j → i + size.catch x ≤ j
    catch_spans (t.Caught n x y) i j (node, word, opens, a, p, closes, block, q) =
        let r = param_spans x (i + 2) a p in
        let u = stmt_spans false y (a + 1) j q in
        omega arith

    pub catches_span : (cs : Catches) (i j : ℕ) → b.AreCatches text ts cs i j → i + size.catches cs ≤ j
    catches_span t.NoCatch i j e = omega arith
    catches_span (t.AndCatch x xs) i j (a, p, rest) =
        let r = catch_spans x i a p in
        let u = catches_span xs a j rest in
        omega arith

    pub last_spans : (cs : Catches) (x : MaybeStmt) (i j : ℕ) → b.IsLast text ts cs x i j → i + size.maybe_stmt x ≤ j
    last_spans cs (t.AStmt x) i j (word, block, p) = let r = stmt_spans false x (i + 1) j p in omega arith
    last_spans t.NoCatch t.NoStmt i j h = absurd h
    last_spans (t.AndCatch c cs) t.NoStmt i j e = omega arith

  pub stmt_rises : (w : Bool) (x : Stmt) (i j : ℕ) → b.SpellsStmt text ts w x i j → i < j
  stmt_rises w x i j p = let r = stmt_spans w x i j p in let u = some_stmt x in omega arith
