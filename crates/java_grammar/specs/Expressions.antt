-- The grammar of types and expressions (JLS 3rd edition, 4, 15 and 18): which tokens a tree spells. A tree stands from token i to before token j.
-- Nodes have the number 0 here; `numbered` gives them theirs.
use Rattle.std.specs.Prelude.{◌≡◌, ◌≢◌, ◌⊎◌, ℕ, zero, suc, ◌+◌, ◌-◌, ◌≤◌, true, false, if◌then◌else◌, List, [], ◌∷◌, Option, Some}
use Rattle.java_tree.specs.declared.tree.Node.{Node}
use Rattle.java_tree.specs.declared.tree.Name.{Name}
use Rattle.java_tree.specs.declared.tree.Head.{Head}
use Rattle.java_tree.specs.declared.tree.Head.TheVariants as head
use Rattle.java_tree.specs.declared.tree.Primitive.{Primitive}
use Rattle.java_tree.specs.declared.tree.Primitive.TheVariants as prim
use Rattle.java_tree.specs.declared.tree.UnOp.{UnOp}
use Rattle.java_tree.specs.declared.tree.UnOp.TheVariants as un
use Rattle.java_tree.specs.declared.tree.BinOp.{BinOp}
use Rattle.java_tree.specs.declared.tree.BinOp.TheVariants as op
use Rattle.java_tree.specs.Plain as t
use Rattle.java_tree.specs.Plain.{TypeExpr, TypeExprs, Expr, Exprs}
use Rattle.java_lexer.specs.Values.{integer_value, in_u64, is_decimal, char_unit, text_units}
use Rattle.java_grammar.specs.declared.token.Tok.{Tok}
use Rattle.java_grammar.specs.declared.token.Sort.{Sort}
use Rattle.java_grammar.specs.declared.token.Sort.TheVariants as s
use Rattle.java_grammar.specs.declared.token.Keyword.{Keyword}
use Rattle.java_grammar.specs.declared.token.Keyword.TheVariants as word
use Rattle.java_grammar.specs.declared.token.Mark.TheVariants as m
use Rattle.java_grammar.specs.Sorts.{bytes_in}
use Rattle.java_grammar.specs.Reads.{sort_at, name_at, from_at, to_at, span_of}

-- ---- words of the grammar

abbrev pub word_of : Primitive → Keyword
word_of prim.Int = word.Int
word_of prim.Long = word.Long
word_of prim.Char = word.Char
word_of prim.Boolean = word.Boolean

abbrev pub prefix_sort : UnOp → Sort
prefix_sort un.Plus = s.Infix op.Add
prefix_sort un.Minus = s.Infix op.Sub
prefix_sort un.Invert = s.Mark m.Invert
prefix_sort un.Not = s.Mark m.Not

-- How loose an expression may be: 0 a primary, 1 a postfix expression, 2 a unary expression, 3 to 12 the infix operators from the tightest to
-- the loosest, 13 a conditional, 14 an assignment, which is any expression (JLS 15 and 18), 15 an initialiser, which may be items (JLS 8.3, 10.6).
abbrev pub level_of : BinOp → ℕ
level_of op.LogicOr = 12
level_of op.LogicAnd = 11
level_of op.BitOr = 10
level_of op.BitXor = 9
level_of op.BitAnd = 8
level_of op.Equal = 7
level_of op.NotEqual = 7
level_of op.Less = 6
level_of op.Greater = 6
level_of op.LessEqual = 6
level_of op.GreaterEqual = 6
level_of op.ShiftLeft = 5
level_of op.ShiftRight = 5
level_of op.ShiftRightZero = 5
level_of op.Add = 4
level_of op.Sub = 4
level_of op.Mul = 3
level_of op.Div = 3
level_of op.Rem = 3

-- ---- what trees are

-- a name, a field or an element, also in brackets (JLS 15.14, 15.15, 15.26)
abbrev pub IsVariable : Expr → Type 0
IsVariable (t.Name n x) = Unit {0}
IsVariable (t.Field n e x) = Unit {0}
IsVariable (t.SuperField n x) = Unit {0}
IsVariable (t.Index n a b) = Unit {0}
IsVariable (t.Paren n e) = IsVariable e
IsVariable _ = ⊥

-- an array creation, behind which no index stands (JLS 15.13)
abbrev pub IsArrayCreation : Expr → Type 0
IsArrayCreation (t.NewArray n ty es d) = Unit {0}
IsArrayCreation (t.NewFilled n ty e) = Unit {0}
IsArrayCreation _ = ⊥

abbrev pub IsItems : Expr → Type 0
IsItems (t.Items n es) = Unit {0}
IsItems _ = ⊥

abbrev pub HasNoArguments : TypeExpr → Type 0
HasNoArguments (t.Written n h span args d) = args ≡ t.NoTypes

abbrev pub HasBrackets : ℕ → TypeExpr → Type 0
HasBrackets d (t.Written n h span args e) = e ≡ d

-- a class or interface, perhaps with arguments, and no array
abbrev pub NamesClass : TypeExpr → Type 0
NamesClass (t.Written n (head.Path xs) span args d) = d ≡ 0
NamesClass (t.Written n (head.Prim p) span args d) = ⊥

-- a primitive type, and no array
abbrev pub IsPrimitive : TypeExpr → Type 0
IsPrimitive (t.Written n (head.Prim p) span args d) = d ≡ 0
IsPrimitive _ = ⊥

module _ (text : List ℕ) (ts : List Tok) where
  -- ---- tokens

  abbrev pub Stands : Sort → ℕ → Type 0
  Stands x i = sort_at ts i ≡ x

  -- the identifier at token i
  abbrev pub IsId : Name → ℕ → Type 0
  IsId x i = Stands s.Word i × (x.0 ≡ name_at ts i)

  -- the next token begins where this one ends
  abbrev pub Joined : ℕ → Type 0
  Joined i = to_at ts i ≡ from_at ts (i + 1)

  abbrev pub word_at : ℕ → List ℕ
  word_at i = bytes_in text (span_of ts i (i + 1))

  abbrev pub node_of : ℕ → ℕ → Node
  node_of i j = record { id = 0; span = span_of ts i j }

  -- d pairs of brackets
  abbrev pub AreBrackets : ℕ → ℕ → ℕ → Type 0
  AreBrackets zero i j = j ≡ i
  AreBrackets (suc d) i j = Stands (s.Mark m.LeftBracket) i × Stands (s.Mark m.RightBracket) (i + 1) × AreBrackets d (i + 2) j

  -- identifiers with dots between them
  abbrev pub IsPath : List Name → ℕ → ℕ → Type 0
  IsPath [] i j = ⊥
  IsPath (x ∷ []) i j = IsId x i × (j ≡ i + 1)
  IsPath (x ∷ y ∷ xs) i j = IsId x i × Stands (s.Mark m.Dot) (i + 1) × IsPath (y ∷ xs) (i + 2) j

  -- The shifts to the right are made of adjacent tokens.
  abbrev pub IsInfix : BinOp → ℕ → ℕ → Type 0
  IsInfix op.ShiftRight i j = Stands (s.Infix op.Greater) i × Joined i × Stands (s.Infix op.Greater) (i + 1) × (j ≡ i + 2)
  IsInfix op.ShiftRightZero i j =
      Stands (s.Infix op.Greater) i × Joined i × Stands (s.Infix op.Greater) (i + 1) × Joined (i + 1) × Stands (s.Infix op.Greater) (i + 2) × (j ≡ i + 3)
  IsInfix x i j = Stands (s.Infix x) i × (j ≡ i + 1)

  abbrev pub IsAssignment : Option BinOp → ℕ → ℕ → Type 0
  IsAssignment (Some op.ShiftRight) i j = Stands (s.Infix op.Greater) i × Joined i × Stands (s.Infix op.GreaterEqual) (i + 1) × (j ≡ i + 2)
  IsAssignment (Some op.ShiftRightZero) i j =
      Stands (s.Infix op.Greater) i × Joined i × Stands (s.Infix op.Greater) (i + 1) × Joined (i + 1) × Stands (s.Infix op.GreaterEqual) (i + 2) × (j ≡ i + 3)
  IsAssignment x i j = Stands (s.Assign x) i × (j ≡ i + 1)

  -- ---- types

  abbrev pub IsHead : Head → ℕ → ℕ → Type 0
  IsHead (head.Prim p) i j = Stands (s.Keyword (word_of p)) i × (j ≡ i + 1)
  IsHead (head.Path xs) i j = IsPath xs i j

  abbrev mutual
    pub SpellsType : TypeExpr → ℕ → ℕ → Type 0
    SpellsType (t.Written n h span args d) i j =
        (n ≡ node_of i j) × (a : ℕ) × IsHead h i a × (span ≡ span_of ts i a) × (b : ℕ) × AreArguments h args a b × AreBrackets d b j

    -- behind the name of a class or interface
    pub AreArguments : Head → TypeExprs → ℕ → ℕ → Type 0
    AreArguments h t.NoTypes i j = j ≡ i
    AreArguments (head.Path xs) (t.AndType x rest) i j =
        Stands (s.Infix op.Less) i × (a : ℕ) × SpellsType x (i + 1) a × (IsPrimitive x → ⊥) × AreMoreTypes rest a j
    AreArguments (head.Prim p) (t.AndType x rest) i j = ⊥

    pub AreMoreTypes : TypeExprs → ℕ → ℕ → Type 0
    AreMoreTypes t.NoTypes i j = Stands (s.Infix op.Greater) i × (j ≡ i + 1)
    AreMoreTypes (t.AndType x rest) i j =
        Stands (s.Mark m.Comma) i × (a : ℕ) × SpellsType x (i + 1) a × (IsPrimitive x → ⊥) × AreMoreTypes rest a j

  -- ---- expressions

  -- `}`, with or without a comma before it
  abbrev pub EndsItems : ℕ → ℕ → Type 0
  EndsItems i j =
      (Stands (s.Mark m.RightBrace) i × (j ≡ i + 1)) ⊎ (Stands (s.Mark m.Comma) i × Stands (s.Mark m.RightBrace) (i + 1) × (j ≡ i + 2))

  -- `+`, `-`, `++` or `--`
  abbrev pub IsSign : Sort → Type 0
  IsSign (s.Infix op.Add) = Unit {0}
  IsSign (s.Infix op.Sub) = Unit {0}
  IsSign (s.Step up) = Unit {0}
  IsSign _ = ⊥

  -- behind a cast to anything but a primitive type no sign stands (JLS 15.16)
  abbrev pub MayBeCast : TypeExpr → ℕ → Type 0
  MayBeCast ty i = IsPrimitive ty ⊎ (IsSign (sort_at ts i) → ⊥)

  abbrev mutual
    -- at a looseness
    pub Spells : ℕ → Expr → ℕ → ℕ → Type 0
    Spells k (t.Number n v decimal long) i j =
        (n ≡ node_of i j) × Stands (s.Number long) i × (in_u64 (integer_value (word_at i)) ≡ Some v) × (decimal ≡ is_decimal (word_at i)) × (j ≡ i + 1)
    Spells k (t.Char n c) i j = (n ≡ node_of i j) × Stands s.Char i × (c ≡ char_unit (word_at i)) × (j ≡ i + 1)
    Spells k (t.Text n us) i j = (n ≡ node_of i j) × Stands s.Text i × (us ≡ text_units (word_at i)) × (j ≡ i + 1)
    Spells k (t.Truth n b) i j = (n ≡ node_of i j) × Stands (s.Keyword (if b then word.True else word.False)) i × (j ≡ i + 1)
    Spells k (t.Null n) i j = (n ≡ node_of i j) × Stands (s.Keyword word.Null) i × (j ≡ i + 1)
    Spells k (t.This n) i j = (n ≡ node_of i j) × Stands (s.Keyword word.This) i × (j ≡ i + 1)
    Spells k (t.Name n x) i j = (n ≡ node_of i j) × IsId x i × (j ≡ i + 1)
    Spells k (t.Field n e x) i j = (n ≡ node_of i j) × (a : ℕ) × Spells 0 e i a × Stands (s.Mark m.Dot) a × IsId x (a + 1) × (j ≡ a + 2)
    Spells k (t.SuperField n x) i j = (n ≡ node_of i j) × Stands (s.Keyword word.Super) i × Stands (s.Mark m.Dot) (i + 1) × IsId x (i + 2) × (j ≡ i + 3)
    Spells k (t.Index n e x) i j =
        (n ≡ node_of i j) × (IsArrayCreation e → ⊥) × (a : ℕ) × Spells 0 e i a × Stands (s.Mark m.LeftBracket) a
        × (b : ℕ) × Spells 14 x (a + 1) b × Stands (s.Mark m.RightBracket) b × (j ≡ b + 1)
    Spells k (t.Call n t.NoExpr x es) i j = (n ≡ node_of i j) × IsId x i × Stands (s.Mark m.Open) (i + 1) × AreValues es (i + 2) j
    Spells k (t.Call n (t.AnExpr e) x es) i j =
        (n ≡ node_of i j) × (a : ℕ) × Spells 0 e i a × Stands (s.Mark m.Dot) a × IsId x (a + 1) × Stands (s.Mark m.Open) (a + 2) × AreValues es (a + 3) j
    Spells k (t.SuperMethod n x es) i j =
        (n ≡ node_of i j) × Stands (s.Keyword word.Super) i × Stands (s.Mark m.Dot) (i + 1) × IsId x (i + 2) × Stands (s.Mark m.Open) (i + 3) × AreValues es (i + 4) j
    Spells k (t.New n ty es) i j =
        (n ≡ node_of i j) × Stands (s.Keyword word.New) i × NamesClass ty × (a : ℕ) × SpellsType ty (i + 1) a × Stands (s.Mark m.Open) a × AreValues es (a + 1) j
    Spells k (t.NewArray n ty es d) i j =
        (n ≡ node_of i j) × Stands (s.Keyword word.New) i × HasBrackets 0 ty × (a : ℕ) × SpellsType ty (i + 1) a
        × (es ≢ t.End) × (b : ℕ) × AreSizes es a b × AreBrackets d b j
    Spells k (t.NewFilled n ty e) i j =
        (n ≡ node_of i j) × Stands (s.Keyword word.New) i × (HasBrackets 0 ty → ⊥) × IsItems e × (a : ℕ) × SpellsType ty (i + 1) a × Spells 15 e a j
    Spells k (t.Items n es) i j = (n ≡ node_of i j) × (15 ≤ k) × Stands (s.Mark m.LeftBrace) i × AreItems es (i + 1) j
    Spells k (t.Paren n e) i j = (n ≡ node_of i j) × Stands (s.Mark m.Open) i × (a : ℕ) × Spells 14 e (i + 1) a × Stands (s.Mark m.Close) a × (j ≡ a + 1)
    Spells k (t.Unary n x e) i j = (n ≡ node_of i j) × (2 ≤ k) × Stands (prefix_sort x) i × Spells 2 e (i + 1) j
    Spells k (t.Step n up true e) i j = (n ≡ node_of i j) × (2 ≤ k) × Stands (s.Step up) i × IsVariable e × Spells 2 e (i + 1) j
    Spells k (t.Step n up false e) i j = (n ≡ node_of i j) × (1 ≤ k) × IsVariable e × (a : ℕ) × Spells 0 e i a × Stands (s.Step up) a × (j ≡ a + 1)
    Spells k (t.Cast n ty close e) i j =
        (n ≡ node_of i j) × (2 ≤ k) × Stands (s.Mark m.Open) i × (a : ℕ) × SpellsType ty (i + 1) a × Stands (s.Mark m.Close) a
        × (close ≡ from_at ts a) × MayBeCast ty (a + 1) × Spells 2 e (a + 1) j
    Spells k (t.Binary n x e f) i j =
        (n ≡ node_of i j) × (level_of x ≤ k) × (a : ℕ) × Spells (level_of x) e i a × (b : ℕ) × IsInfix x a b × Spells (level_of x - 1) f b j
    Spells k (t.InstanceOf n e ty) i j =
        (n ≡ node_of i j) × (6 ≤ k) × (a : ℕ) × Spells 6 e i a × Stands (s.Keyword word.InstanceOf) a × HasNoArguments ty × SpellsType ty (a + 1) j
    Spells k (t.Cond n e f g) i j =
        (n ≡ node_of i j) × (13 ≤ k) × (a : ℕ) × Spells 12 e i a × Stands (s.Mark m.Question) a
        × (b : ℕ) × Spells 14 f (a + 1) b × Stands (s.Mark m.Colon) b × Spells 13 g (b + 1) j
    Spells k (t.Assign n x e f) i j =
        (n ≡ node_of i j) × (14 ≤ k) × IsVariable e × (a : ℕ) × Spells 2 e i a × (b : ℕ) × IsAssignment x a b × Spells 14 f b j

    -- the arguments of a call behind `(`, up to and with `)`
    pub AreValues : Exprs → ℕ → ℕ → Type 0
    AreValues t.End i j = Stands (s.Mark m.Close) i × (j ≡ i + 1)
    AreValues (t.Also e es) i j = (a : ℕ) × Spells 14 e i a × AreMoreValues es a j

    pub AreMoreValues : Exprs → ℕ → ℕ → Type 0
    AreMoreValues t.End i j = Stands (s.Mark m.Close) i × (j ≡ i + 1)
    AreMoreValues (t.Also e es) i j = Stands (s.Mark m.Comma) i × (a : ℕ) × Spells 14 e (i + 1) a × AreMoreValues es a j

    -- the sizes of an array, each in brackets
    pub AreSizes : Exprs → ℕ → ℕ → Type 0
    AreSizes t.End i j = j ≡ i
    AreSizes (t.Also e es) i j =
        Stands (s.Mark m.LeftBracket) i × (a : ℕ) × Spells 14 e (i + 1) a × Stands (s.Mark m.RightBracket) a × AreSizes es (a + 1) j

    -- items behind `{`, up to and with `}`; a comma may stand before it
    pub AreItems : Exprs → ℕ → ℕ → Type 0
    AreItems t.End i j = EndsItems i j
    AreItems (t.Also e es) i j = (a : ℕ) × Spells 15 e i a × AreMoreItems es a j

    pub AreMoreItems : Exprs → ℕ → ℕ → Type 0
    AreMoreItems t.End i j = EndsItems i j
    AreMoreItems (t.Also e es) i j = Stands (s.Mark m.Comma) i × (a : ℕ) × Spells 15 e (i + 1) a × AreMoreItems es a j

  -- ---- where they end

  -- an expression or initialiser ends at such a token, or at the end
  abbrev pub EndsAt : Sort → Type 0
  EndsAt s.End = Unit {0}
  EndsAt (s.Mark m.Close) = Unit {0}
  EndsAt (s.Mark m.RightBracket) = Unit {0}
  EndsAt (s.Mark m.RightBrace) = Unit {0}
  EndsAt (s.Mark m.Comma) = Unit {0}
  EndsAt (s.Mark m.Semicolon) = Unit {0}
  EndsAt (s.Mark m.Colon) = Unit {0}
  EndsAt _ = ⊥

  -- a type does not end before such a token
  abbrev pub GoesOn : Sort → Type 0
  GoesOn (s.Mark m.Dot) = Unit {0}
  GoesOn (s.Mark m.LeftBracket) = Unit {0}
  GoesOn (s.Infix op.Less) = Unit {0}
  GoesOn _ = ⊥
