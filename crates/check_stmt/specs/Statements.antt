-- The typing of statements, a clause a form: the core of a statement, or the first rule that it breaks (JLS 14). What a statement declares is in scope behind it, up to
-- the end of its block.
use Rattle.std.specs.Prelude.{ℤ, Bool, false, List, [], ◌∷◌, ◌++◌, map, Option, Some, None}
use Rattle.java_tree.specs.declared.tree.Node.{Node}
use Rattle.java_tree.specs.Plain as t
use Rattle.class_world.specs.declared.world.JavaType.{JavaType}
use Rattle.java_core.specs.Plain as p
use Rattle.checked.specs.Checked.{Checked, Fine, and_then, also}
use Rattle.type_kinds.specs.Kinds.{ty_of}
use Rattle.type_facts.specs.Facts.{Facts}
use Rattle.type_facts.specs.declared.scope.LocalVar.{LocalVar}
use Rattle.type_facts.specs.declared.scope.Place.{Place}
use Rattle.written_types.specs.Types.{arrays}
use Rattle.operator_rules.specs.declared.uses.Use.TheVariants as use_
use Rattle.operator_rules.specs.Writtens.{type_said, written}
use Rattle.check_expr.specs.Typed.{typed, typeds, initial}
use Rattle.check_stmt.specs.declared.jumps.Jumps.{Jumps}
use Rattle.check_stmt.specs.Labels.{labels, value_of}
use Rattle.check_stmt.specs.Pieces as piece
use Rattle.check_stmt.specs.Pieces.{declared, with_vars, with_typed, with_one, is_char, spot_of, statement_use, before_this, group_of, in_loop, in_switch}

module _ (f : Facts) (g : Place) where
  -- ---- locals

  abbrev pub var_of : List LocalVar → JavaType → (is_final : Bool) → t.Var → Option t.Expr → Checked p.Var
  var_of ls ty is_final v None = piece.var_unset (spot_of ls v.name) v.node v.name ty
  var_of ls ty is_final v (Some e) = piece.var_set f (spot_of ls v.name) v.node v.name ty (initial f g (declared ls v.name ty is_final) ty e)

  -- each is in scope in its own value, and behind it
  abbrev pub vars_of : List LocalVar → JavaType → (is_final : Bool) → List t.Var → Checked (List p.Var)
  vars_of ls ty is_final [] = Fine []
  vars_of ls ty is_final (v ∷ vs) = and_then (var_of ls (arrays v.dims ty) is_final v v.init) (λ x. also x (vars_of (declared ls v.name (arrays v.dims ty) is_final) ty is_final vs))

  abbrev pub local_of : Node → (is_final : Bool) → List LocalVar → List t.Var → Checked p.Written → Checked p.Stmt
  local_of n is_final ls vs a = and_then a (λ w. and_then (vars_of ls (type_said w) is_final vs) (λ xs. Fine (p.Locals n is_final w xs)))

  -- the scope behind a statement
  abbrev pub after : List LocalVar → t.Stmt → List LocalVar
  after ls (t.Local n is_final x vs) = with_typed ls is_final vs (written f g x)
  after ls _ = ls

  abbrev pub after_all : List LocalVar → t.Stmts → List LocalVar
  after_all ls t.Last = ls
  after_all ls (t.Then s ss) = after_all (after ls s) ss

  -- ---- expressions one behind the other, each performed

  abbrev pub performed : List LocalVar → t.Exprs → Checked (List p.Expr)
  performed ls t.End = Fine []
  performed ls (t.Also e es) = and_then (typed f g ls use_.Perform e) (λ x. also x (performed ls es))

  abbrev pub block : Node → Checked (List p.Stmt) → Checked p.Stmt
  block n ss = piece.block n ss

  -- ---- the forms

  abbrev mutual
    -- `first` says that the statement stands directly in the body of a constructor that begins with no this(..).
    pub typed_stmt : Jumps → (first : Bool) → List LocalVar → t.Stmt → Checked p.Stmt
    typed_stmt j first ls (t.Block n ss) = piece.block n (typed_stmts j false ls ss)
    typed_stmt j first ls (t.Local n is_final x vs) = local_of n is_final ls vs (written f g x)
    typed_stmt j first ls (t.Empty n) = Fine (p.Empty n)
    typed_stmt j first ls (t.Value n e) = piece.value_of_stmt n (typed f g ls (statement_use first) e)
    typed_stmt j first ls (t.If n e a t.NoStmt) = piece.if_of n (typed f g ls use_.Read e) (typed_stmt j false ls a)
    typed_stmt j first ls (t.If n e a (t.AStmt b)) = piece.if_else n (typed f g ls use_.Read e) (typed_stmt j false ls a) (typed_stmt j false ls b)
    typed_stmt j first ls (t.While n e a) = piece.while_of n (typed f g ls use_.Read e) (typed_stmt in_loop false ls a)
    typed_stmt j first ls (t.Do n a e) = piece.do_of n (typed_stmt in_loop false ls a) (typed f g ls use_.Read e)
    typed_stmt j first ls (t.For n ss None es a) = piece.for_ever n (typed_stmts j false ls ss) (performed (after_all ls ss) es) (typed_stmt in_loop false (after_all ls ss) a)
    typed_stmt j first ls (t.For n ss (Some e) es a) =
        piece.for_of n (typed_stmts j false ls ss) (typed f g (after_all ls ss) use_.Read e) (performed (after_all ls ss) es) (typed_stmt in_loop false (after_all ls ss) a)
    typed_stmt j first ls (t.ForEach n is_final x name e a) =
        piece.foreach f n is_final name (spot_of ls name) (written f g x) (typed f g ls use_.Read e) (typed_stmt in_loop false (with_one ls is_final 0 name (written f g x)) a)
    typed_stmt j first ls (t.Switch n e gs) = and_then (typed f g ls use_.Read e) (λ x. piece.switch n x (groups j ls (is_char (ty_of x)) [] gs))
    typed_stmt j first ls (t.Break n) = piece.break_of j n
    typed_stmt j first ls (t.Continue n) = piece.continue_of j n
    typed_stmt j first ls (t.Return n None) = piece.return_void n g.result
    typed_stmt j first ls (t.Return n (Some e)) = piece.return_of f n g.result (typed f g ls use_.Read e)
    typed_stmt j first ls (t.Throw n e) = piece.throw_of f n (typed f g ls use_.Read e)
    typed_stmt j first ls (t.Try n a cs t.NoStmt) = piece.try_of n (typed_stmt j false ls a) (catches j ls cs)
    typed_stmt j first ls (t.Try n a cs (t.AStmt b)) = piece.try_finally n (typed_stmt j false ls a) (catches j ls cs) (typed_stmt j false ls b)
    typed_stmt j first ls (t.ThisCall n es) = piece.this_call f g n (typeds f (before_this g) ls es)
    typed_stmt j first ls (t.SuperCall n es) = piece.super_call f g n (typeds f (before_this g) ls es)

    pub typed_stmts : Jumps → (first : Bool) → List LocalVar → t.Stmts → Checked (List p.Stmt)
    typed_stmts j first ls t.Last = Fine []
    typed_stmts j first ls (t.Then s ss) = and_then (typed_stmt j first ls s) (λ x. also x (typed_stmts j first (after ls s) ss))

    -- the groups of a switch are one block; `seen` are the labels before
    pub groups : Jumps → List LocalVar → (on_char : Bool) → (seen : List (Option ℤ)) → t.Groups → Checked (List p.Group)
    groups j ls on_char seen t.NoGroup = Fine []
    groups j ls on_char seen (t.AndGroup (t.Labelled n es ss) gs) = and_then (labels es) (λ xs.
        and_then (group_of n xs on_char seen (typed_stmts (in_switch j) false ls ss)) (λ x. also x (groups j (after_all ls ss) on_char (seen ++ map value_of xs) gs)))

    pub catches : Jumps → List LocalVar → t.Catches → Checked (List p.Catch)
    catches j ls t.NoCatch = Fine []
    catches j ls (t.AndCatch (t.Caught n x s) cs) =
        and_then (piece.catch_of f (spot_of ls x.name) n x (written f g x.ty) (typed_stmt j false (with_one ls x.is_final x.dims x.name (written f g x.ty)) s)) (λ y. also y (catches j ls cs))

  -- ---- parts of these

  -- a for, in the scope of what its first part declares
  abbrev pub loop_of : List LocalVar → Node → Checked (List p.Stmt) → Option t.Expr → t.Exprs → t.Stmt → Checked p.Stmt
  loop_of ls n xs None es a = piece.for_ever n xs (performed ls es) (typed_stmt in_loop false ls a)
  loop_of ls n xs (Some e) es a = piece.for_of n xs (typed f g ls use_.Read e) (performed ls es) (typed_stmt in_loop false ls a)

  abbrev pub one_catch : Jumps → List LocalVar → t.Catch → Checked p.Catch
  one_catch j ls (t.Caught n x s) = piece.catch_of f (spot_of ls x.name) n x (written f g x.ty) (typed_stmt j false (with_one ls x.is_final x.dims x.name (written f g x.ty)) s)
