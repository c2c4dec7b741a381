-- Parsing statements, as a function.
use Rattle.std.specs.Prelude.{ℕ, zero, suc, ◌+◌, ◌-◌, Bool, true, false, not, ◌&&◌, ◌||◌, if◌then◌else◌, List, [], ◌∷◌, ◌++◌, length, Option, Some, None}
use Rattle.java_tree.specs.declared.tree.Node.{Node}
use Rattle.java_tree.specs.declared.tree.UnOp.TheVariants as un
use Rattle.java_tree.specs.Plain as t
use Rattle.java_tree.specs.Plain.{TypeExpr, Expr, Var, Param, Stmt, Group, Catch}
use Rattle.java_tree.specs.View.{row, stmt_row, group_row, catch_row}
use Rattle.java_grammar.specs.declared.token.Tok.{Tok}
use Rattle.java_grammar.specs.declared.token.Sort.{Sort}
use Rattle.java_grammar.specs.declared.token.Sort.TheVariants as s
use Rattle.java_grammar.specs.declared.token.Keyword.TheVariants as kw
use Rattle.java_grammar.specs.declared.token.Mark.TheVariants as m
use Rattle.java_grammar.specs.Reads.{sort_at}
use Rattle.java_grammar.specs.Expressions.{node_of}
use Rattle.java_parse_term.specs.declared.signs.Standing.{Standing}
use Rattle.java_parse_term.specs.Marks.{◌>>=◌, given, is_mark, is_keyword, after_mark, after_keyword, after_word}
use Rattle.java_parse_term.specs.Types.{Read, id_at, brackets, read_type, type_end}
use Rattle.java_parse_term.specs.Parse.{parse}

-- what is read, and the place after it
pub record Part (A : Type 0) : Type 0 where
  pub tree : A
  pub next : ℕ

abbrev pub part_of : {A : Type 0} → Option (Read A) → Option (Part A)
part_of None = None
part_of (Some x) = Some (record { tree = x.tree; next = x.next })

-- ---- tests of a tree

unfoldable pub is_statement : Expr → Bool
is_statement (t.Assign n x e f) = true
is_statement (t.Step n up before e) = true
is_statement (t.Call n of x es) = true
is_statement (t.SuperMethod n x es) = true
is_statement (t.New n ty es) = true
is_statement _ = false

unfoldable pub is_constant : Expr → Bool
is_constant (t.Number n v decimal long) = not long
is_constant (t.Char n c) = true
is_constant _ = false

unfoldable pub is_label_value : Expr → Bool
is_label_value (t.Unary n un.Minus e) = is_constant e
is_label_value e = is_constant e

unfoldable pub is_empty : {A : Type 0} → List A → Bool
is_empty [] = true
is_empty (x ∷ xs) = false

-- `=`
abbrev pub equals_in : Sort → Bool
equals_in (s.Assign None) = true
equals_in _ = false

-- An expression or initialiser ends before such a token.
abbrev pub ends_at : Sort → Bool
ends_at s.End = true
ends_at (s.Mark m.Close) = true
ends_at (s.Mark m.RightBracket) = true
ends_at (s.Mark m.RightBrace) = true
ends_at (s.Mark m.Comma) = true
ends_at (s.Mark m.Semicolon) = true
ends_at (s.Mark m.Colon) = true
ends_at _ = false

module _ (text : List ℕ) (ts : List Tok) where
  -- ---- tokens

  unfoldable pub after_equals : ℕ → Option ℕ
  after_equals i = if equals_in (sort_at ts i) then Some (i + 1) else None

  -- Labels begin here.
  unfoldable pub is_label : ℕ → Bool
  is_label i = is_keyword ts kw.Case i || is_keyword ts kw.Default i

  unfoldable pub is_no_label : ℕ → Bool
  is_no_label i = not (is_label i)

  unfoldable pub is_no_catch : ℕ → Bool
  is_no_catch i = not (is_keyword ts kw.Catch i)

  -- `catch` or `finally`
  unfoldable pub is_try_part : ℕ → Bool
  is_try_part i = is_keyword ts kw.Catch i || is_keyword ts kw.Finally i

  -- The statements of a block or a group end here.
  unfoldable pub is_stop : ℕ → Bool
  is_stop i = is_mark ts m.RightBrace i || is_label i

  -- behind `final`, if it stands there
  unfoldable pub after_final : ℕ → ℕ
  after_final i = given (after_keyword ts kw.Final i) (λ a. a) i

  -- behind the type and the name with which a declaration begins
  unfoldable pub after_name : ℕ → Option ℕ
  after_name i = type_end ts (after_final i) >>= after_word ts

  unfoldable pub is_declared : ℕ → Bool
  is_declared i = given (after_name i) (λ a. true) false

  unfoldable pub is_each : ℕ → Bool
  is_each i = given (after_name i) (is_mark ts m.Colon) false

  -- ---- types and expressions, of depth less than the first number

  unfoldable pub type_under : ℕ → ℕ → Option (Part TypeExpr)
  type_under d i = part_of (read_type ts d i)

  unfoldable pub expr_under : ℕ → ℕ → ℕ → Option (Part Expr)
  expr_under d k i = part_of (parse text ts d k i)

  -- ---- lists; `xs` stand before

  -- up to a token where they end
  unfoldable pub many : {A : Type 0} → (ℕ → Bool) → (ℕ → Option (Part A)) → ℕ → List A → ℕ → Option (Part (List A))
  many ends item zero xs i = None
  many ends item (suc n) xs i =
      if ends i then Some (record { tree = xs; next = i })
      else (item i >>= (λ g. many ends item n (xs ++ g.tree ∷ []) g.next))

  -- as long as there are commas
  unfoldable pub more : {A : Type 0} → (ℕ → Option (Part A)) → ℕ → List A → ℕ → Option (Part (List A))
  more item zero xs i = None
  more item (suc n) xs i =
      given (after_mark ts m.Comma i) (λ a. item a >>= (λ g. more item n (xs ++ g.tree ∷ []) g.next)) (Some (record { tree = xs; next = i }))

  unfoldable pub list_of : {A : Type 0} → (ℕ → Option (Part A)) → ℕ → Option (Part (List A))
  list_of item i = item i >>= (λ g. more item (length ts) (g.tree ∷ []) g.next)

  abbrev pub dims_at : ℕ → Standing ℕ
  dims_at i = brackets ts (length ts) 0 i

  -- ---- parts of statements; d is the greatest depth with the node itself

  unfoldable pub values : ℕ → ℕ → Option (Part (List Expr))
  values d i =
      given (after_mark ts m.Close i) (λ next. Some (record { tree = []; next = next }))
      (list_of (expr_under d 14) i >>= (λ g. after_mark ts m.Close g.next >>= (λ next. Some (record { tree = g.tree; next = next }))))

  unfoldable pub init : ℕ → ℕ → Option (Part (Option Expr))
  init d i =
      given (after_equals i) (λ a. expr_under d 15 a >>= (λ g. Some (record { tree = Some g.tree; next = g.next }))) (Some (record { tree = None; next = i }))

  unfoldable pub var : ℕ → ℕ → Option (Part Var)
  var d i = do
    a ← after_word ts i
    g ← init (d - 1) (dims_at a).next
    Some (record { tree = record { node = node_of text ts i g.next; name = id_at ts i; dims = (dims_at a).is; init = g.tree }; next = g.next })

  unfoldable pub vars : ℕ → ℕ → Option (Part (List Var))
  vars d i = list_of (var d) i

  unfoldable pub local : ℕ → ℕ → Option (Part (Node → Stmt))
  local d i = do
    ty ← type_under d (after_final i)
    vs ← vars d ty.next
    Some (record { tree = λ n. t.Local n (is_keyword ts kw.Final i) ty.tree vs.tree; next = vs.next })

  unfoldable pub param : ℕ → ℕ → Option (Part Param)
  param d i = do
    ty ← type_under d (after_final i)
    a ← after_word ts ty.next
    Some (record {
      tree = record { node = node_of text ts i (dims_at a).next; is_final = is_keyword ts kw.Final i; ty = ty.tree; name = id_at ts ty.next; dims = (dims_at a).is };
      next = (dims_at a).next;
    })

  unfoldable pub performed : ℕ → ℕ → Option (Part Expr)
  performed d i = do
    g ← expr_under d 14 i
    if is_statement g.tree then Some g else None

  unfoldable pub first : ℕ → ℕ → Option (Part Stmt)
  first d i = do
    g ← performed d i
    Some (record { tree = t.Value (node_of text ts i g.next) g.tree; next = g.next })

  abbrev pub made : (Node → Stmt) → ℕ → ℕ → Part Stmt
  made form i next = record { tree = form (node_of text ts i next); next = next }

  -- `below inner in_block i` reads a statement of depth less than h, or one of depth less than h - 1 if it is for an inner node.
  module _ (h : ℕ) (below : Bool → Bool → ℕ → Option (Part Stmt)) where
    unfoldable pub parenthesized : ℕ → Option (Part Expr)
    parenthesized i = do
      a ← after_mark ts m.Open i
      g ← expr_under h 14 a
      next ← after_mark ts m.Close g.next
      Some (record { tree = g.tree; next = next })

    -- an expression or nothing before `;`
    unfoldable pub perhaps : ℕ → Option (Part (Option Expr))
    perhaps i =
        if is_mark ts m.Semicolon i then Some (record { tree = None; next = i })
        else (expr_under h 14 i >>= (λ g. Some (record { tree = Some g.tree; next = g.next })))

    unfoldable pub stmts : Bool → ℕ → Option (Part (List Stmt))
    stmts inner i = many is_stop (below inner true) (length ts) [] i

    -- a block as a part of a statement
    unfoldable pub block_in : Bool → ℕ → Option (Part Stmt)
    block_in inner i = if is_mark ts m.LeftBrace i then below inner false i else None

    -- ---- labels, groups and catches

    unfoldable pub case_label : ℕ → Option (Part (Option Expr))
    case_label a = do
      g ← expr_under (h - 1) 2 a
      next ← after_mark ts m.Colon g.next
      if is_label_value g.tree then Some (record { tree = Some g.tree; next = next }) else None

    unfoldable pub default_label : ℕ → Option (Part (Option Expr))
    default_label i = do
      a ← after_keyword ts kw.Default i
      next ← after_mark ts m.Colon a
      Some (record { tree = None; next = next })

    unfoldable pub label : ℕ → Option (Part (Option Expr))
    label i = given (after_keyword ts kw.Case i) case_label (default_label i)

    unfoldable pub more_labels : Option Expr → ℕ → Option (Part (List (Option Expr)))
    more_labels x i = many is_no_label label (length ts) (x ∷ []) i

    unfoldable pub labels : ℕ → Option (Part (List (Option Expr)))
    labels i = label i >>= (λ g. more_labels g.tree g.next)

    unfoldable pub group : ℕ → Option (Part Group)
    group i = do
      ls ← labels i
      xs ← stmts true ls.next
      Some (record { tree = t.Labelled (node_of text ts i xs.next) ls.tree (stmt_row xs.tree); next = xs.next })

    unfoldable pub groups : ℕ → Option (Part (List Group))
    groups i = many (is_mark ts m.RightBrace) group (length ts) [] i

    unfoldable pub caught : ℕ → Option (Part Catch)
    caught i = do
      a ← after_keyword ts kw.Catch i
      b ← after_mark ts m.Open a
      p ← param (h - 2) b
      c ← after_mark ts m.Close p.next
      x ← block_in true c
      Some (record { tree = t.Caught (node_of text ts i x.next) p.tree x.tree; next = x.next })

    unfoldable pub catches : ℕ → Option (Part (List Catch))
    catches i = many is_no_catch caught (length ts) [] i

    -- ---- the forms

    unfoldable pub block : ℕ → Option (Part Stmt)
    block i = do
      a ← after_mark ts m.LeftBrace i
      g ← stmts false a
      next ← after_mark ts m.RightBrace g.next
      Some (made (λ n. t.Block n (stmt_row g.tree)) i next)

    unfoldable pub empty : ℕ → Option (Part Stmt)
    empty i = do
      next ← after_mark ts m.Semicolon i
      Some (made t.Empty i next)

    unfoldable pub local_stmt : ℕ → Option (Part Stmt)
    local_stmt i = do
      g ← local h i
      next ← after_mark ts m.Semicolon g.next
      Some (made g.tree i next)

    unfoldable pub value : ℕ → Option (Part Stmt)
    value i = do
      g ← performed h i
      next ← after_mark ts m.Semicolon g.next
      Some (made (λ n. t.Value n g.tree) i next)

    unfoldable pub otherwise : ℕ → Part Expr → Part Stmt → ℕ → Option (Part Stmt)
    otherwise i e x a = do
      y ← below false false a
      Some (made (λ n. t.If n e.tree x.tree (t.AStmt y.tree)) i y.next)

    unfoldable pub choice : ℕ → Option (Part Stmt)
    choice i = do
      a ← after_keyword ts kw.If i
      e ← parenthesized a
      x ← below false false e.next
      given (after_keyword ts kw.Else x.next) (otherwise i e x) (Some (made (λ n. t.If n e.tree x.tree t.NoStmt) i x.next))

    unfoldable pub while_stmt : ℕ → Option (Part Stmt)
    while_stmt i = do
      a ← after_keyword ts kw.While i
      e ← parenthesized a
      x ← below false false e.next
      Some (made (λ n. t.While n e.tree x.tree) i x.next)

    unfoldable pub do_while : ℕ → Option (Part Stmt)
    do_while i = do
      a ← after_keyword ts kw.Do i
      x ← below false false a
      b ← after_keyword ts kw.While x.next
      e ← parenthesized b
      next ← after_mark ts m.Semicolon e.next
      Some (made (λ n. t.Do n x.tree e.tree) i next)

    unfoldable pub start : ℕ → Option (Part (List Stmt))
    start i =
        if is_mark ts m.Semicolon i then Some (record { tree = []; next = i })
        else if is_declared i then (local (h - 1) i >>= (λ g. Some (record { tree = g.tree (node_of text ts i g.next) ∷ []; next = g.next })))
        else list_of (first (h - 1)) i

    unfoldable pub update : ℕ → Option (Part (List Expr))
    update i = if is_mark ts m.Close i then Some (record { tree = []; next = i }) else list_of (performed h) i

    unfoldable pub counted_end : ℕ → Part (List Stmt) → Part (Option Expr) → ℕ → Option (Part Stmt)
    counted_end i xs e d = do
      es ← update d
      a ← after_mark ts m.Close es.next
      x ← below false false a
      Some (made (λ n. t.For n (stmt_row xs.tree) e.tree (row es.tree) x.tree) i x.next)

    unfoldable pub counted : ℕ → ℕ → Option (Part Stmt)
    counted i b = do
      xs ← start b
      c ← after_mark ts m.Semicolon xs.next
      e ← perhaps c
      d ← after_mark ts m.Semicolon e.next
      counted_end i xs e d

    unfoldable pub each_end : ℕ → ℕ → Part TypeExpr → ℕ → Option (Part Stmt)
    each_end i b ty c = do
      e ← expr_under h 14 c
      a ← after_mark ts m.Close e.next
      x ← below false false a
      Some (made (λ n. t.ForEach n (is_keyword ts kw.Final b) ty.tree (id_at ts ty.next) e.tree x.tree) i x.next)

    unfoldable pub each : ℕ → ℕ → Option (Part Stmt)
    each i b = do
      ty ← type_under h (after_final b)
      a ← after_word ts ty.next
      c ← after_mark ts m.Colon a
      each_end i b ty c

    unfoldable pub for_stmt : ℕ → Option (Part Stmt)
    for_stmt i = do
      a ← after_keyword ts kw.For i
      b ← after_mark ts m.Open a
      if is_each b then each i b else counted i b

    unfoldable pub switch_stmt : ℕ → Option (Part Stmt)
    switch_stmt i = do
      a ← after_keyword ts kw.Switch i
      e ← parenthesized a
      b ← after_mark ts m.LeftBrace e.next
      gs ← groups b
      next ← after_mark ts m.RightBrace gs.next
      Some (made (λ n. t.Switch n e.tree (group_row gs.tree)) i next)

    unfoldable pub break_stmt : ℕ → Option (Part Stmt)
    break_stmt i = do
      a ← after_keyword ts kw.Break i
      next ← after_mark ts m.Semicolon a
      Some (made t.Break i next)

    unfoldable pub continue_stmt : ℕ → Option (Part Stmt)
    continue_stmt i = do
      a ← after_keyword ts kw.Continue i
      next ← after_mark ts m.Semicolon a
      Some (made t.Continue i next)

    unfoldable pub return_stmt : ℕ → Option (Part Stmt)
    return_stmt i = do
      a ← after_keyword ts kw.Return i
      e ← perhaps a
      next ← after_mark ts m.Semicolon e.next
      Some (made (λ n. t.Return n e.tree) i next)

    unfoldable pub throw_stmt : ℕ → Option (Part Stmt)
    throw_stmt i = do
      a ← after_keyword ts kw.Throw i
      e ← expr_under h 14 a
      next ← after_mark ts m.Semicolon e.next
      Some (made (λ n. t.Throw n e.tree) i next)

    unfoldable pub with_last : ℕ → Part Stmt → Part (List Catch) → ℕ → Option (Part Stmt)
    with_last i x cs a = do
      y ← block_in false a
      (if is_try_part y.next then None
          else Some (made (λ n. t.Try n x.tree (catch_row cs.tree) (t.AStmt y.tree)) i y.next))

    unfoldable pub without_last : ℕ → Part Stmt → Part (List Catch) → Option (Part Stmt)
    without_last i x cs = if is_empty cs.tree then None else Some (made (λ n. t.Try n x.tree (catch_row cs.tree) t.NoStmt) i cs.next)

    unfoldable pub try_stmt : ℕ → Option (Part Stmt)
    try_stmt i = do
      a ← after_keyword ts kw.Try i
      x ← block_in false a
      cs ← catches x.next
      given (after_keyword ts kw.Finally cs.next) (with_last i x cs) (without_last i x cs)

    unfoldable pub this_call : ℕ → Option (Part Stmt)
    this_call i = do
      a ← after_keyword ts kw.This i
      b ← after_mark ts m.Open a
      es ← values h b
      next ← after_mark ts m.Semicolon es.next
      Some (made (λ n. t.ThisCall n (row es.tree)) i next)

    unfoldable pub super_call : ℕ → Option (Part Stmt)
    super_call i = do
      a ← after_keyword ts kw.Super i
      b ← after_mark ts m.Open a
      es ← values h b
      next ← after_mark ts m.Semicolon es.next
      Some (made (λ n. t.SuperCall n (row es.tree)) i next)

    unfoldable pub this_stmt : ℕ → Option (Part Stmt)
    this_stmt i = if is_mark ts m.Open (i + 1) then this_call i else value i

    unfoldable pub super_stmt : ℕ → Option (Part Stmt)
    super_stmt i = if is_mark ts m.Open (i + 1) then super_call i else value i

    unfoldable pub other : Bool → ℕ → Option (Part Stmt)
    other w i = if w && is_declared i then local_stmt i else value i

    abbrev pub by_sort : Bool → Sort → ℕ → Option (Part Stmt)
    by_sort w (s.Mark m.LeftBrace) i = block i
    by_sort w (s.Mark m.Semicolon) i = empty i
    by_sort w (s.Keyword kw.If) i = choice i
    by_sort w (s.Keyword kw.While) i = while_stmt i
    by_sort w (s.Keyword kw.Do) i = do_while i
    by_sort w (s.Keyword kw.For) i = for_stmt i
    by_sort w (s.Keyword kw.Switch) i = switch_stmt i
    by_sort w (s.Keyword kw.Break) i = break_stmt i
    by_sort w (s.Keyword kw.Continue) i = continue_stmt i
    by_sort w (s.Keyword kw.Return) i = return_stmt i
    by_sort w (s.Keyword kw.Throw) i = throw_stmt i
    by_sort w (s.Keyword kw.Try) i = try_stmt i
    by_sort w (s.Keyword kw.This) i = this_stmt i
    by_sort w (s.Keyword kw.Super) i = super_stmt i
    by_sort w _ i = other w i

    unfoldable pub level : Bool → ℕ → Option (Part Stmt)
    level w i = by_sort w (sort_at ts i) i

  -- statements of depth less than the number, and for an inner node of one less
  unfoldable pub under : ℕ → Bool → Bool → ℕ → Option (Part Stmt)
  under zero inner w i = None
  under (suc h) true w i = under h false w i
  under (suc h) false w i = level h (under h) w i

-- a rule at a depth: with what is below it
abbrev pub at_depth : {A : Type 0} → (List ℕ → List Tok → ℕ → (Bool → Bool → ℕ → Option (Part Stmt)) → A) → List ℕ → List Tok → ℕ → A
at_depth rule text ts h = rule text ts h (under text ts h)
