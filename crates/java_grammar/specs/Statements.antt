-- The grammar of statements (JLS 3rd edition, 14 and 18). A tree stands from token i to before token j.
use Rattle.std.specs.Prelude.{◌≡◌, ℕ, ◌+◌, Bool, true, false, List, [], ◌∷◌, Option, Some, None}
use Rattle.java_tree.specs.declared.tree.UnOp.TheVariants as un
use Rattle.java_tree.specs.Plain as t
use Rattle.java_tree.specs.Plain.{TypeExpr, Expr, Exprs, Var, Param, Stmt, MaybeStmt, Stmts, Group, Groups, Catch, Catches}
use Rattle.java_grammar.specs.declared.token.Tok.{Tok}
use Rattle.java_grammar.specs.declared.token.Sort.TheVariants as s
use Rattle.java_grammar.specs.declared.token.Keyword.{Keyword}
use Rattle.java_grammar.specs.declared.token.Keyword.TheVariants as word
use Rattle.java_grammar.specs.declared.token.Mark.{Mark}
use Rattle.java_grammar.specs.declared.token.Mark.TheVariants as m
use Rattle.java_grammar.specs.Expressions.{Stands, IsId, node_of, AreBrackets, SpellsType, Spells, AreValues}

-- an expression that is a statement with a `;` behind it (JLS 14.8)
abbrev pub IsStatement : Expr → Type 0
IsStatement (t.Assign n x e f) = Unit {0}
IsStatement (t.Step n up before e) = Unit {0}
IsStatement (t.Call n of x es) = Unit {0}
IsStatement (t.SuperMethod n x es) = Unit {0}
IsStatement (t.New n ty es) = Unit {0}
IsStatement _ = ⊥

abbrev pub IsBlock : Stmt → Type 0
IsBlock (t.Block n xs) = Unit {0}
IsBlock _ = ⊥

module _ (text : List ℕ) (ts : List Tok) where
  abbrev pub Mark_at : Mark → ℕ → Type 0
  Mark_at x i = Stands text ts (s.Mark x) i

  abbrev pub Word_at : Keyword → ℕ → Type 0
  Word_at x i = Stands text ts (s.Keyword x) i

  -- `final` stands there or not, and then something from a
  abbrev pub IsFinal : Bool → ℕ → ℕ → Type 0
  IsFinal true i a = Word_at word.Final i × (a ≡ i + 1)
  IsFinal false i a = a ≡ i

  -- ---- variables and parameters

  abbrev pub IsInit : Option Expr → ℕ → ℕ → Type 0
  IsInit None i j = j ≡ i
  IsInit (Some e) i j = Stands text ts (s.Assign None) i × Spells text ts 15 e (i + 1) j

  pub record IsVar (x : Var) (i j : ℕ) : Type 0 where
    pub node : x.node ≡ node_of text ts i j
    pub name : IsId text ts x.name i
    pub end : ℕ
    pub brackets : AreBrackets text ts x.dims (i + 1) end
    pub init : IsInit x.init end j

  -- one or more, with commas between them
  abbrev pub AreVars : List Var → ℕ → ℕ → Type 0
  AreVars [] i j = ⊥
  AreVars (x ∷ []) i j = IsVar x i j
  AreVars (x ∷ y ∷ ys) i j = (a : ℕ) × IsVar x i a × Mark_at m.Comma a × AreVars (y ∷ ys) (a + 1) j

  pub record IsParam (x : Param) (i j : ℕ) : Type 0 where
    pub node : x.node ≡ node_of text ts i j
    pub begin : ℕ
    pub final : IsFinal x.is_final i begin
    pub name_at : ℕ
    pub type : SpellsType text ts x.ty begin name_at
    pub name : IsId text ts x.name name_at
    pub brackets : AreBrackets text ts x.dims (name_at + 1) j

  -- a local variable declaration without its `;` (JLS 14.4)
  abbrev pub IsLocal : Bool → TypeExpr → List Var → ℕ → ℕ → Type 0
  IsLocal f ty vs i j = (a : ℕ) × IsFinal f i a × (b : ℕ) × SpellsType text ts ty a b × AreVars vs b j

  -- ---- parts of statements

  -- an expression in brackets
  abbrev pub IsTest : Expr → ℕ → ℕ → Type 0
  IsTest e i j = Mark_at m.Open i × (a : ℕ) × Spells text ts 14 e (i + 1) a × Mark_at m.Close a × (j ≡ a + 1)

  abbrev pub IsMaybe : Option Expr → ℕ → ℕ → Type 0
  IsMaybe None i j = j ≡ i
  IsMaybe (Some e) i j = Spells text ts 14 e i j

  -- one or more expressions that are statements, with commas between them
  abbrev pub ArePerformed : Exprs → ℕ → ℕ → Type 0
  ArePerformed t.End i j = ⊥
  ArePerformed (t.Also e t.End) i j = IsStatement e × Spells text ts 14 e i j
  ArePerformed (t.Also e (t.Also f es)) i j = IsStatement e × (a : ℕ) × Spells text ts 14 e i a × Mark_at m.Comma a × ArePerformed (t.Also f es) (a + 1) j

  -- the same as statements, each without a `;`
  abbrev pub ArePerformedFirst : Stmts → ℕ → ℕ → Type 0
  ArePerformedFirst (t.Then (t.Value n e) t.Last) i j = (n ≡ node_of text ts i j) × IsStatement e × Spells text ts 14 e i j
  ArePerformedFirst (t.Then (t.Value n e) (t.Then x xs)) i j =
      (a : ℕ) × (n ≡ node_of text ts i a) × IsStatement e × Spells text ts 14 e i a × Mark_at m.Comma a × ArePerformedFirst (t.Then x xs) (a + 1) j
  ArePerformedFirst _ i j = ⊥

  -- how a `for` begins: with nothing, a declaration, or expressions (JLS 14.14.1)
  abbrev pub IsStart : Stmts → ℕ → ℕ → Type 0
  IsStart t.Last i j = j ≡ i
  IsStart (t.Then (t.Local n f ty vs) t.Last) i j = (n ≡ node_of text ts i j) × IsLocal f ty vs i j
  IsStart xs i j = ArePerformedFirst xs i j

  -- what a `for` does after each turn
  abbrev pub IsUpdate : Exprs → ℕ → ℕ → Type 0
  IsUpdate t.End i j = j ≡ i
  IsUpdate es i j = ArePerformed es i j

  -- an int or char literal, perhaps with a minus
  abbrev pub IsConstant : Expr → Type 0
  IsConstant (t.Number n v decimal long) = long ≡ false
  IsConstant (t.Char n c) = Unit {0}
  IsConstant _ = ⊥

  abbrev pub IsLabelValue : Expr → Type 0
  IsLabelValue (t.Unary n un.Minus e) = IsConstant e
  IsLabelValue e = IsConstant e

  abbrev pub IsLabel : Option Expr → ℕ → ℕ → Type 0
  IsLabel None i j = Word_at word.Default i × Mark_at m.Colon (i + 1) × (j ≡ i + 2)
  IsLabel (Some e) i j = Word_at word.Case i × IsLabelValue e × (a : ℕ) × Spells text ts 2 e (i + 1) a × Mark_at m.Colon a × (j ≡ a + 1)

  -- one or more
  abbrev pub AreLabels : List (Option Expr) → ℕ → ℕ → Type 0
  AreLabels [] i j = ⊥
  AreLabels (x ∷ []) i j = IsLabel x i j
  AreLabels (x ∷ y ∷ ys) i j = (a : ℕ) × IsLabel x i a × AreLabels (y ∷ ys) a j

  -- ---- statements

  abbrev mutual
    -- In a block or a group a declaration may stand too, with its `;`.
    pub SpellsStmt : (in_block : Bool) → Stmt → ℕ → ℕ → Type 0
    SpellsStmt w (t.Block n xs) i j = (n ≡ node_of text ts i j) × Mark_at m.LeftBrace i × (a : ℕ) × AreStmts xs (i + 1) a × Mark_at m.RightBrace a × (j ≡ a + 1)
    SpellsStmt true (t.Local n f ty vs) i j = (n ≡ node_of text ts i j) × (a : ℕ) × IsLocal f ty vs i a × Mark_at m.Semicolon a × (j ≡ a + 1)
    SpellsStmt false (t.Local n f ty vs) i j = ⊥
    SpellsStmt w (t.Empty n) i j = (n ≡ node_of text ts i j) × Mark_at m.Semicolon i × (j ≡ i + 1)
    SpellsStmt w (t.Value n e) i j = (n ≡ node_of text ts i j) × IsStatement e × (a : ℕ) × Spells text ts 14 e i a × Mark_at m.Semicolon a × (j ≡ a + 1)
    -- An `if` without `else` is not directly followed by `else`.
    SpellsStmt w (t.If n e x t.NoStmt) i j =
        (n ≡ node_of text ts i j) × Word_at word.If i × (a : ℕ) × IsTest e (i + 1) a × SpellsStmt false x a j × (Word_at word.Else j → ⊥)
    SpellsStmt w (t.If n e x (t.AStmt y)) i j =
        (n ≡ node_of text ts i j) × Word_at word.If i × (a : ℕ) × IsTest e (i + 1) a × (b : ℕ) × SpellsStmt false x a b × Word_at word.Else b × SpellsStmt false y (b + 1) j
    SpellsStmt w (t.While n e x) i j = (n ≡ node_of text ts i j) × Word_at word.While i × (a : ℕ) × IsTest e (i + 1) a × SpellsStmt false x a j
    SpellsStmt w (t.Do n x e) i j =
        (n ≡ node_of text ts i j) × Word_at word.Do i × (a : ℕ) × SpellsStmt false x (i + 1) a × Word_at word.While a
        × (b : ℕ) × IsTest e (a + 1) b × Mark_at m.Semicolon b × (j ≡ b + 1)
    SpellsStmt w (t.For n xs e es x) i j =
        (n ≡ node_of text ts i j) × Word_at word.For i × Mark_at m.Open (i + 1) × (a : ℕ) × IsStart xs (i + 2) a × Mark_at m.Semicolon a
        × (b : ℕ) × IsMaybe e (a + 1) b × Mark_at m.Semicolon b × (c : ℕ) × IsUpdate es (b + 1) c × Mark_at m.Close c × SpellsStmt false x (c + 1) j
    SpellsStmt w (t.ForEach n f ty v e x) i j =
        (n ≡ node_of text ts i j) × Word_at word.For i × Mark_at m.Open (i + 1) × (a : ℕ) × IsFinal f (i + 2) a × (b : ℕ) × SpellsType text ts ty a b
        × IsId text ts v b × Mark_at m.Colon (b + 1) × (c : ℕ) × Spells text ts 14 e (b + 2) c × Mark_at m.Close c × SpellsStmt false x (c + 1) j
    SpellsStmt w (t.Switch n e gs) i j =
        (n ≡ node_of text ts i j) × Word_at word.Switch i × (a : ℕ) × IsTest e (i + 1) a × Mark_at m.LeftBrace a
        × (b : ℕ) × AreGroups gs (a + 1) b × Mark_at m.RightBrace b × (j ≡ b + 1)
    SpellsStmt w (t.Break n) i j = (n ≡ node_of text ts i j) × Word_at word.Break i × Mark_at m.Semicolon (i + 1) × (j ≡ i + 2)
    SpellsStmt w (t.Continue n) i j = (n ≡ node_of text ts i j) × Word_at word.Continue i × Mark_at m.Semicolon (i + 1) × (j ≡ i + 2)
    SpellsStmt w (t.Return n e) i j = (n ≡ node_of text ts i j) × Word_at word.Return i × (a : ℕ) × IsMaybe e (i + 1) a × Mark_at m.Semicolon a × (j ≡ a + 1)
    SpellsStmt w (t.Throw n e) i j = (n ≡ node_of text ts i j) × Word_at word.Throw i × (a : ℕ) × Spells text ts 14 e (i + 1) a × Mark_at m.Semicolon a × (j ≡ a + 1)
    -- A `try` is not directly followed by `catch` or `finally`.
    SpellsStmt w (t.Try n x cs last) i j =
        (n ≡ node_of text ts i j) × Word_at word.Try i × IsBlock x × (a : ℕ) × SpellsStmt false x (i + 1) a × (b : ℕ) × AreCatches cs a b × IsLast cs last b j
        × (Word_at word.Catch j → ⊥) × (Word_at word.Finally j → ⊥)
    SpellsStmt w (t.ThisCall n es) i j =
        (n ≡ node_of text ts i j) × Word_at word.This i × Mark_at m.Open (i + 1) × (a : ℕ) × AreValues text ts es (i + 2) a × Mark_at m.Semicolon a × (j ≡ a + 1)
    SpellsStmt w (t.SuperCall n es) i j =
        (n ≡ node_of text ts i j) × Word_at word.Super i × Mark_at m.Open (i + 1) × (a : ℕ) × AreValues text ts es (i + 2) a × Mark_at m.Semicolon a × (j ≡ a + 1)

    pub AreStmts : Stmts → ℕ → ℕ → Type 0
    AreStmts t.Last i j = j ≡ i
    AreStmts (t.Then x xs) i j = (a : ℕ) × SpellsStmt true x i a × AreStmts xs a j

    -- A group without statements is the last one.
    pub IsGroup : Group → ℕ → ℕ → Type 0
    IsGroup (t.Labelled n ls t.Last) i j = (n ≡ node_of text ts i j) × AreLabels ls i j × Mark_at m.RightBrace j
    IsGroup (t.Labelled n ls (t.Then x xs)) i j = (n ≡ node_of text ts i j) × (a : ℕ) × AreLabels ls i a × (b : ℕ) × SpellsStmt true x a b × AreStmts xs b j

    pub AreGroups : Groups → ℕ → ℕ → Type 0
    AreGroups t.NoGroup i j = j ≡ i
    AreGroups (t.AndGroup g gs) i j = (a : ℕ) × IsGroup g i a × AreGroups gs a j

    pub IsCatch : Catch → ℕ → ℕ → Type 0
    IsCatch (t.Caught n p x) i j =
        (n ≡ node_of text ts i j) × Word_at word.Catch i × Mark_at m.Open (i + 1) × (a : ℕ) × IsParam p (i + 2) a × Mark_at m.Close a × IsBlock x × SpellsStmt false x (a + 1) j

    pub AreCatches : Catches → ℕ → ℕ → Type 0
    AreCatches t.NoCatch i j = j ≡ i
    AreCatches (t.AndCatch c cs) i j = (a : ℕ) × IsCatch c i a × AreCatches cs a j

    -- `finally` with its block, or nothing behind a catch
    pub IsLast : Catches → MaybeStmt → ℕ → ℕ → Type 0
    IsLast cs (t.AStmt x) i j = Word_at word.Finally i × IsBlock x × SpellsStmt false x (i + 1) j
    IsLast t.NoCatch t.NoStmt i j = ⊥
    IsLast (t.AndCatch c cs) t.NoStmt i j = j ≡ i
