-- How expressions and statements begin.
use Rattle.std.proofs.Common.{◌≡◌, ◌≢◌, ℕ, ◌≤◌, Bool, true, false, List, [], ◌∷◌, refl, sym, ◌∙◌, arith}
use Rattle.java_tree.specs.declared.tree.UnOp.{UnOp}
use Rattle.java_tree.specs.declared.tree.UnOp.TheVariants as un
use Rattle.java_tree.specs.declared.tree.BinOp.{BinOp}
use Rattle.java_tree.specs.declared.tree.BinOp.TheVariants as op
use Rattle.java_tree.specs.declared.tree.Head.TheVariants as head
use Rattle.java_tree.specs.declared.tree.Primitive.{Primitive}
use Rattle.java_tree.specs.declared.tree.Primitive.TheVariants as prim
use Rattle.java_tree.specs.Plain as t
use Rattle.java_tree.specs.Plain.{TypeExpr, Expr, Var, Stmt}
use Rattle.java_grammar.specs.declared.token.Tok.{Tok}
use Rattle.java_grammar.specs.declared.token.Sort.{Sort}
use Rattle.java_grammar.specs.declared.token.Sort.TheVariants as s
use Rattle.java_grammar.specs.declared.token.Keyword.{Keyword}
use Rattle.java_grammar.specs.declared.token.Keyword.TheVariants as kw
use Rattle.java_grammar.specs.declared.token.Mark.TheVariants as m
use Rattle.java_grammar.specs.Reads.{sort_at}
use Rattle.java_grammar.specs.Expressions.{SpellsType, Spells, level_of, prefix_sort, word_of}
use Rattle.java_grammar.specs.Statements.{SpellsStmt, IsBlock, IsLocal}

-- A token with which an expression may begin.
abbrev pub may_begin : Sort → Bool
may_begin s.Word = true
may_begin (s.Number long) = true
may_begin s.Char = true
may_begin s.Text = true
may_begin (s.Keyword kw.True) = true
may_begin (s.Keyword kw.False) = true
may_begin (s.Keyword kw.Null) = true
may_begin (s.Keyword kw.This) = true
may_begin (s.Keyword kw.Super) = true
may_begin (s.Keyword kw.New) = true
may_begin (s.Mark m.Open) = true
may_begin (s.Mark m.Invert) = true
may_begin (s.Mark m.Not) = true
may_begin (s.Step up) = true
may_begin (s.Infix op.Add) = true
may_begin (s.Infix op.Sub) = true
may_begin _ = false

prefix_begins : (x : UnOp) → may_begin (prefix_sort x) ≡ true
prefix_begins un.Plus = refl
prefix_begins un.Minus = refl
prefix_begins un.Invert = refl
prefix_begins un.Not = refl

loosest : (x : BinOp) → level_of x ≤ 14
loosest op.LogicOr = omega arith
loosest _ = omega arith

-- a type
abbrev pub type_begin : Sort → Bool
type_begin s.Word = true
type_begin (s.Keyword kw.Int) = true
type_begin (s.Keyword kw.Long) = true
type_begin (s.Keyword kw.Char) = true
type_begin (s.Keyword kw.Boolean) = true
type_begin _ = false

-- a declaration
abbrev pub local_begin : Sort → Bool
local_begin (s.Keyword kw.Final) = true
local_begin x = type_begin x

-- not past the statements of a block or a group
abbrev pub stmt_begin : Sort → Bool
stmt_begin (s.Mark m.RightBrace) = false
stmt_begin (s.Keyword kw.Case) = false
stmt_begin (s.Keyword kw.Default) = false
stmt_begin s.End = false
stmt_begin _ = true

primitive_begins : (p : Primitive) → type_begin (s.Keyword (word_of p)) ≡ true
primitive_begins prim.Int = refl
primitive_begins prim.Long = refl
primitive_begins prim.Char = refl
primitive_begins prim.Boolean = refl

no_brace : {Z : Type 0} (k : Keyword) → s.Mark m.LeftBrace ≡ s.Keyword k → Z
no_brace k e = absurd (cc)

module _ (text : List ℕ) (ts : List Tok) where
  pub begins : (k : ℕ) (e : Expr) (i j : ℕ) → k ≤ 14 → Spells text ts k e i j → may_begin (sort_at ts i) ≡ true
  begins k (t.Number n v d l) i j le (node, is, v1, v2, next) = rw is refl
  begins k (t.Char n c) i j le (node, is, v, next) = rw is refl
  begins k (t.Text n us) i j le (node, is, v, next) = rw is refl
  begins k (t.Truth n true) i j le (node, is, next) = rw is refl
  begins k (t.Truth n false) i j le (node, is, next) = rw is refl
  begins k (t.Null n) i j le (node, is, next) = rw is refl
  begins k (t.This n) i j le (node, is, next) = rw is refl
  begins k (t.Name n x) i j le (node, id, next) = rw id.0 refl
  begins k (t.Field n e x) i j le (node, a, p, dot, id, next) = begins 0 e i a (omega arith) p
  begins k (t.SuperField n x) i j le (node, is, dot, id, next) = rw is refl
  begins k (t.Index n e x) i j le (node, none, a, p, open_is, b, q, close_is, next) = begins 0 e i a (omega arith) p
  begins k (t.Call n t.NoExpr x es) i j le (node, id, open_is, args) = rw id.0 refl
  begins k (t.Call n (t.AnExpr e) x es) i j le (node, a, p, dot, id, open_is, args) = begins 0 e i a (omega arith) p
  begins k (t.SuperMethod n x es) i j le (node, is, dot, id, open_is, args) = rw is refl
  begins k (t.New n ty es) i j le (node, is, names, a, p, open_is, args) = rw is refl
  begins k (t.NewArray n ty es d) i j le (node, is, plain_is, a, p, some, b, q, r) = rw is refl
  begins k (t.NewFilled n ty e) i j le (node, is, plain_is, items, a, p, q) = rw is refl
  begins k (t.Items n es) i j le (node, level, is, r) = absurd (omega arith)
  begins k (t.Paren n e) i j le (node, is, a, p, close_is, next) = rw is refl
  begins k (t.Unary n x e) i j le (node, level, is, p) = rw is (prefix_begins x)
  begins k (t.Step n up true e) i j le (node, level, is, v, p) = rw is refl
  begins k (t.Step n up false e) i j le (node, level, v, a, p, is, next) = begins 0 e i a (omega arith) p
  begins k (t.Cast n ty c e) i j le (node, level, is, a, p, close_is, at, may, q) = rw is refl
  begins k (t.Binary n x e f) i j le (node, level, a, p, b, is, q) = begins (level_of x) e i a (loosest x) p
  begins k (t.InstanceOf n e ty) i j le (node, level, a, p, is, none, q) = begins 6 e i a (omega arith) p
  begins k (t.Cond n e f g) i j le (node, level, a, p, is, b, q, colon, r) = begins 12 e i a (omega arith) p
  begins k (t.Assign n x e f) i j le (node, level, v, a, p, b, is, q) = begins 2 e i a (omega arith) p

  -- no expression begins with such a token
  pub no_begin : (k : ℕ) (e : Expr) (i j : ℕ) (x : Sort) → k ≤ 14 → Spells text ts k e i j → sort_at ts i ≡ x → may_begin x ≡ false → ⊥
  no_begin k e i j x le p is other = let so : may_begin x ≡ true = rw (← is) (begins k e i j le p) in cc

  -- ---- types and statements

  pub type_begins : (x : TypeExpr) (i j : ℕ) → SpellsType text ts x i j → type_begin (sort_at ts i) ≡ true
  type_begins (t.Written n (head.Prim p) span args d) i j (node, a, h, q, b, r, w) = rw h.0 (primitive_begins p)
  type_begins (t.Written n (head.Path []) span args d) i j (node, a, h, q, b, r, w) = absurd h
  type_begins (t.Written n (head.Path (x ∷ [])) span args d) i j (node, a, h, q, b, r, w) = let id = h.0 in rw id.0 refl
  type_begins (t.Written n (head.Path (x ∷ y ∷ xs)) span args d) i j (node, a, h, q, b, r, w) = let id = h.0 in rw id.0 refl

  pub local_begins : (f : Bool) (ty : TypeExpr) (vs : List Var) (i j : ℕ) → IsLocal text ts f ty vs i j → local_begin (sort_at ts i) ≡ true
  local_begins true ty vs i j (a, final, b, p, q) = rw final.0 refl
  local_begins false ty vs i j (a, final, b, p, q) = by_type (sort_at ts i) (rw final at (type_begins ty a b p))
    where
      by_type : (x : Sort) → type_begin x ≡ true → local_begin x ≡ true
      by_type s.Word e = refl
      by_type (s.Keyword kw.Int) e = refl
      by_type (s.Keyword kw.Long) e = refl
      by_type (s.Keyword kw.Char) e = refl
      by_type (s.Keyword kw.Boolean) e = refl
      by_type _ e = absurd (cc)

  -- no statement begins with such a token
  pub goes : (w : Bool) (x : Stmt) (i j : ℕ) → SpellsStmt text ts w x i j → stmt_begin (sort_at ts i) ≡ true
  goes w (t.Block n xs) i j p = rw p.1 refl
  goes true (t.Local n f ty vs) i j (node, a, p, semi, next) = by_local (sort_at ts i) (local_begins f ty vs i a p)
    where
      by_local : (x : Sort) → local_begin x ≡ true → stmt_begin x ≡ true
      by_local (s.Mark m.RightBrace) e = absurd (cc)
      by_local (s.Keyword kw.Case) e = absurd (cc)
      by_local (s.Keyword kw.Default) e = absurd (cc)
      by_local s.End e = absurd (cc)
      by_local _ e = refl
  goes false (t.Local n f ty vs) i j p = absurd p
  goes w (t.Empty n) i j p = rw p.1 refl
  goes w (t.Value n e) i j (node, stmt, a, p, semi, next) = by_expr (sort_at ts i) (begins 14 e i a (omega arith) p)
    where
      by_expr : (x : Sort) → may_begin x ≡ true → stmt_begin x ≡ true
      by_expr (s.Mark m.RightBrace) e = absurd (cc)
      by_expr (s.Keyword kw.Case) e = absurd (cc)
      by_expr (s.Keyword kw.Default) e = absurd (cc)
      by_expr s.End e = absurd (cc)
      by_expr _ e = refl
  goes w (t.If n e x t.NoStmt) i j p = rw p.1 refl
  goes w (t.If n e x (t.AStmt y)) i j p = rw p.1 refl
  goes w (t.While n e x) i j p = rw p.1 refl
  goes w (t.Do n x e) i j p = rw p.1 refl
  goes w (t.For n xs e es x) i j p = rw p.1 refl
  goes w (t.ForEach n f ty v e x) i j p = rw p.1 refl
  goes w (t.Switch n e gs) i j p = rw p.1 refl
  goes w (t.Break n) i j p = rw p.1 refl
  goes w (t.Continue n) i j p = rw p.1 refl
  goes w (t.Return n e) i j p = rw p.1 refl
  goes w (t.Throw n e) i j p = rw p.1 refl
  goes w (t.Try n x cs y) i j p = rw p.1 refl
  goes w (t.ThisCall n es) i j p = rw p.1 refl
  goes w (t.SuperCall n es) i j p = rw p.1 refl

  pub no_stmt : (w : Bool) (x : Stmt) (i j : ℕ) (k : Sort) → SpellsStmt text ts w x i j → stmt_begin k ≡ false → sort_at ts i ≢ k
  no_stmt w x i j k p other is = let so : stmt_begin k ≡ true = rw (← is) (goes w x i j p) in cc

  -- what begins with a brace is a block
  pub block_is : (x : Stmt) (i j : ℕ) → SpellsStmt text ts false x i j → sort_at ts i ≡ s.Mark m.LeftBrace → IsBlock x
  block_is (t.Block n xs) i j p e = tt
  block_is (t.Local n f ty vs) i j p e = absurd p
  block_is (t.Empty n) i j p e = let both : s.Mark m.LeftBrace ≡ s.Mark m.Semicolon = sym e ∙ p.1 in absurd (cc)
  block_is (t.Value n x) i j (node, stmt, a, p, semi, next) e = absurd (no_begin 14 x i a (s.Mark m.LeftBrace) (omega arith) p e refl)
  block_is (t.If n e x t.NoStmt) i j p b = no_brace kw.If (sym b ∙ p.1)
  block_is (t.If n e x (t.AStmt y)) i j p b = no_brace kw.If (sym b ∙ p.1)
  block_is (t.While n e x) i j p b = no_brace kw.While (sym b ∙ p.1)
  block_is (t.Do n x e) i j p b = no_brace kw.Do (sym b ∙ p.1)
  block_is (t.For n xs e es x) i j p b = no_brace kw.For (sym b ∙ p.1)
  block_is (t.ForEach n f ty v e x) i j p b = no_brace kw.For (sym b ∙ p.1)
  block_is (t.Switch n e gs) i j p b = no_brace kw.Switch (sym b ∙ p.1)
  block_is (t.Break n) i j p b = no_brace kw.Break (sym b ∙ p.1)
  block_is (t.Continue n) i j p b = no_brace kw.Continue (sym b ∙ p.1)
  block_is (t.Return n e) i j p b = no_brace kw.Return (sym b ∙ p.1)
  block_is (t.Throw n e) i j p b = no_brace kw.Throw (sym b ∙ p.1)
  block_is (t.Try n x cs y) i j p b = no_brace kw.Try (sym b ∙ p.1)
  block_is (t.ThisCall n es) i j p b = no_brace kw.This (sym b ∙ p.1)
  block_is (t.SuperCall n es) i j p b = no_brace kw.Super (sym b ∙ p.1)

  pub block_begins : (x : Stmt) (i j : ℕ) → SpellsStmt text ts false x i j → IsBlock x → sort_at ts i ≡ s.Mark m.LeftBrace
  block_begins (t.Block n xs) i j p block = p.1
  block_begins _ i j p block = absurd block
