-- Parsing files and declarations, as functions. `d` is the greatest depth, with what is said of it.
use Rattle.std.specs.Prelude.{ℕ, zero, suc, ◌+◌, ◌-◌, Bool, true, false, not, ◌&&◌, ◌==◌, if◌then◌else◌, List, [], ◌∷◌, ◌++◌, length, Option, Some, None}
use Rattle.java_tree.specs.declared.tree.Name.{Name}
use Rattle.java_tree.specs.declared.tree.Mod.{Mod}
use Rattle.java_tree.specs.declared.tree.Mod.TheVariants as mods
use Rattle.java_tree.specs.declared.tree.Import.{Import}
use Rattle.java_tree.specs.declared.tree.BinOp.TheVariants as op
use Rattle.java_tree.specs.Plain as t
use Rattle.java_tree.specs.Plain.{TypeExpr, Param, Stmt, MaybeStmt, Stmts, Groups, Catches, Member, TypeDecl, SourceUnit}
use Rattle.java_grammar.specs.declared.token.Tok.{Tok}
use Rattle.java_grammar.specs.declared.token.Sort.{Sort}
use Rattle.java_grammar.specs.declared.token.Sort.TheVariants as s
use Rattle.java_grammar.specs.declared.token.Keyword.{Keyword}
use Rattle.java_grammar.specs.declared.token.Keyword.TheVariants as kw
use Rattle.java_grammar.specs.declared.token.Mark.{Mark}
use Rattle.java_grammar.specs.declared.token.Mark.TheVariants as m
use Rattle.java_grammar.specs.Reads.{sort_at, to_at}
use Rattle.java_grammar.specs.Expressions.{node_of}
use Rattle.java_parse_term.specs.Marks.{◌>>=◌, given, is_mark, is_keyword, is_infix, is_word, after_mark, after_keyword, after_infix, after_word}
use Rattle.java_parse_term.specs.Types.{id_at, names_class}
use Rattle.java_parse_expr.specs.Parse.{Part, many, list_of, type_under, vars, param, under}

abbrev pub mod_of : Sort → Option Mod
mod_of (s.Keyword kw.Public) = Some mods.Public
mod_of (s.Keyword kw.Protected) = Some mods.Protected
mod_of (s.Keyword kw.Private) = Some mods.Private
mod_of (s.Keyword kw.Static) = Some mods.Static
mod_of (s.Keyword kw.Abstract) = Some mods.Abstract
mod_of (s.Keyword kw.Final) = Some mods.Final
mod_of _ = None

-- ---- calls of this(..) and super(..)

abbrev mutual
  pub calls_none : Stmt → Bool
  calls_none (t.Block n xs) = all_call_none xs
  calls_none (t.If n e x y) = calls_none x && maybe_calls_none y
  calls_none (t.While n e x) = calls_none x
  calls_none (t.Do n x e) = calls_none x
  calls_none (t.For n xs e es x) = all_call_none xs && calls_none x
  calls_none (t.ForEach n f ty v e x) = calls_none x
  calls_none (t.Switch n e gs) = groups_call_none gs
  calls_none (t.Try n x cs last) = calls_none x && (catches_call_none cs && maybe_calls_none last)
  calls_none (t.ThisCall n es) = false
  calls_none (t.SuperCall n es) = false
  calls_none (t.Local n f ty vs) = true
  calls_none (t.Empty n) = true
  calls_none (t.Value n e) = true
  calls_none (t.Break n) = true
  calls_none (t.Continue n) = true
  calls_none (t.Return n e) = true
  calls_none (t.Throw n e) = true

  pub maybe_calls_none : MaybeStmt → Bool
  maybe_calls_none t.NoStmt = true
  maybe_calls_none (t.AStmt x) = calls_none x

  pub all_call_none : Stmts → Bool
  all_call_none t.Last = true
  all_call_none (t.Then x xs) = calls_none x && all_call_none xs

  pub groups_call_none : Groups → Bool
  groups_call_none t.NoGroup = true
  groups_call_none (t.AndGroup (t.Labelled n ls xs) gs) = all_call_none xs && groups_call_none gs

  pub catches_call_none : Catches → Bool
  catches_call_none t.NoCatch = true
  catches_call_none (t.AndCatch (t.Caught n p x) cs) = calls_none x && catches_call_none cs

-- as the first statement of a constructor
abbrev pub may_be_first : Stmt → Bool
may_be_first (t.ThisCall n es) = true
may_be_first (t.SuperCall n es) = true
may_be_first x = calls_none x

abbrev pub starts_in_place : Stmts → Bool
starts_in_place t.Last = true
starts_in_place (t.Then x xs) = may_be_first x && all_call_none xs

-- in the body of a constructor, or of a method
abbrev pub calls_in_place : Bool → Stmt → Bool
calls_in_place true (t.Block n xs) = starts_in_place xs
calls_in_place true x = calls_none x
calls_in_place false x = calls_none x

module _ (text : List ℕ) (ts : List Tok) where
  -- ---- words

  -- modifiers, as many as stand there
  unfoldable pub mods_at : ℕ → List Mod → ℕ → Part (List Mod)
  mods_at zero xs i = record { tree = xs; next = i }
  mods_at (suc n) xs i = given (mod_of (sort_at ts i)) (λ x. mods_at n (xs ++ x ∷ []) (i + 1)) (record { tree = xs; next = i })

  abbrev pub mods_from : ℕ → Part (List Mod)
  mods_from i = mods_at (length ts) [] i

  -- past all `;`
  unfoldable pub past : ℕ → ℕ → ℕ
  past zero i = i
  past (suc n) i = given (after_mark ts m.Semicolon i) (past n) i

  abbrev pub past_from : ℕ → ℕ
  past_from i = past (length ts) i

  -- the place of the identifier behind a separator
  unfoldable pub separated : Mark → ℕ → Option ℕ
  separated x i = after_mark ts x i >>= (λ a. if is_word ts a then Some a else None)

  -- one or more identifiers with separators between them, behind those that were read
  unfoldable pub ids : Mark → ℕ → List Name → ℕ → Option (Part (List Name))
  ids x zero xs i = None
  ids x (suc n) xs i =
      after_word ts i
      >>= (λ next. given (separated x next) (ids x n (xs ++ id_at ts i ∷ [])) (Some (record { tree = xs ++ id_at ts i ∷ []; next = next })))

  abbrev pub ids_from : Mark → ℕ → Option (Part (List Name))
  ids_from x i = ids x (length ts) [] i

  unfoldable pub type_params : ℕ → Option (Part (List Name))
  type_params i =
      given (after_infix ts op.Less i)
      (λ a. ids_from m.Comma a >>= (λ g. after_infix ts op.Greater g.next >>= (λ next. Some (record { tree = g.tree; next = next }))))
      (Some (record { tree = []; next = i }))

  -- ---- types that name classes, each of depth less than d

  unfoldable pub class_under : ℕ → ℕ → Option (Part TypeExpr)
  class_under d i = type_under text ts d i >>= (λ g. if names_class g.tree then Some g else None)

  unfoldable pub classes : ℕ → ℕ → Option (Part (List TypeExpr))
  classes d i = list_of text ts (class_under d) i

  unfoldable pub behind : Keyword → ℕ → ℕ → Option (Part (List TypeExpr))
  behind w d i = given (after_keyword ts w i) (classes d) (Some (record { tree = []; next = i }))

  -- ---- members of a depth of at most d

  -- parameters behind `(`, up to and with `)`, with types of depth less than d
  unfoldable pub params : ℕ → ℕ → Option (Part (List Param))
  params d i =
      given (after_mark ts m.Close i) (λ next. Some (record { tree = []; next = next }))
      (list_of text ts (param text ts d) i >>= (λ g. after_mark ts m.Close g.next >>= (λ next. Some (record { tree = g.tree; next = next }))))

  unfoldable pub block : Bool → ℕ → ℕ → Option (Part (Option Stmt))
  block constructor d i =
      if is_mark ts m.LeftBrace i then
      (under text ts d false false i >>= (λ g. if calls_in_place constructor g.tree then Some (record { tree = Some g.tree; next = g.next }) else None))
      else None

  unfoldable pub body : Bool → ℕ → ℕ → Option (Part (Option Stmt))
  body constructor d i =
      given (after_mark ts m.Semicolon i) (λ next. if constructor then None else Some (record { tree = None; next = next })) (block constructor d i)

  -- from the name on, behind its result
  unfoldable pub method : ℕ → ℕ → List Mod → Bool → Part (Option TypeExpr) → Option (Part Member)
  method d i ms constructor result = do
    a ← after_word ts result.next
    b ← after_mark ts m.Open a
    ps ← params (d - 1) b
    es ← behind kw.Throws d ps.next
    x ← body constructor d es.next
    Some (record {
      tree = t.AMethod (record {
        node = node_of text ts i x.next;
        mods = ms;
        result = result.tree;
        constructor = constructor;
        name = id_at ts result.next;
        params = ps.tree;
        throws = es.tree;
        body = x.tree;
      });
      next = x.next;
    })

  -- from the first variable on, behind the type
  unfoldable pub field : ℕ → ℕ → List Mod → Part TypeExpr → Option (Part Member)
  field d i ms ty = do
    vs ← vars text ts d ty.next
    next ← after_mark ts m.Semicolon vs.next
    Some (record { tree = t.AField (record { node = node_of text ts i next; mods = ms; ty = ty.tree; vars = vs.tree }); next = next })

  -- a name with `(` behind it
  unfoldable pub is_called : ℕ → Bool
  is_called i = is_word ts i && is_mark ts m.Open (i + 1)

  unfoldable pub typed : ℕ → ℕ → Part (List Mod) → Option (Part Member)
  typed d i ms = do
    ty ← type_under text ts d ms.next
    if is_called ty.next then method d i ms.tree false (record { tree = Some ty.tree; next = ty.next }) else field d i ms.tree ty

  unfoldable pub member_behind : ℕ → ℕ → Part (List Mod) → Option (Part Member)
  member_behind d i ms =
      if is_called ms.next then method d i ms.tree true (record { tree = None; next = ms.next })
      else given (after_keyword ts kw.Void ms.next) (λ a. method d i ms.tree false (record { tree = None; next = a })) (typed d i ms)

  unfoldable pub member : ℕ → ℕ → Option (Part Member)
  member d i = member_behind d i (mods_from i)

  -- ---- types

  unfoldable pub members_end : ℕ → Bool
  members_end i = is_mark ts m.RightBrace (past_from i)

  unfoldable pub next_member : ℕ → ℕ → Option (Part Member)
  next_member d i = member d (past_from i)

  unfoldable pub members : ℕ → ℕ → Option (Part (List Member))
  members d i = many text ts members_end (next_member d) (length ts + 1) [] i

  -- in braces, up to and with `}`
  unfoldable pub members_in : ℕ → ℕ → Option (Part (List Member))
  members_in d i = do
    a ← after_mark ts m.LeftBrace i
    g ← members d a
    next ← after_mark ts m.RightBrace (past_from g.next)
    Some (record { tree = g.tree; next = next })

  -- whether an interface is declared, and the place behind the word
  unfoldable pub kind : ℕ → Option (Part Bool)
  kind i =
      given (after_keyword ts kw.Interface i) (λ a. Some (record { tree = true; next = a }))
      (after_keyword ts kw.Class i >>= (λ a. Some (record { tree = false; next = a })))

  -- the class above a class, if one is named
  unfoldable pub parent : ℕ → ℕ → Option (Part (List TypeExpr))
  parent d i =
      given (after_keyword ts kw.Extends i) (λ a. class_under d a >>= (λ g. Some (record { tree = g.tree ∷ []; next = g.next })))
      (Some (record { tree = []; next = i }))

  unfoldable pub extends : Bool → ℕ → ℕ → Option (Part (List TypeExpr))
  extends interface d i = if interface then behind kw.Extends d i else parent d i

  unfoldable pub implements : Bool → ℕ → ℕ → Option (Part (List TypeExpr))
  implements interface d i = if interface then Some (record { tree = []; next = i }) else behind kw.Implements d i

  -- from the name on, behind the word
  unfoldable pub decl_behind : ℕ → ℕ → List Mod → Part Bool → Option (Part TypeDecl)
  decl_behind d i ms k = do
    a ← after_word ts k.next
    ps ← type_params a
    up ← extends k.tree d ps.next
    over ← implements k.tree d up.next
    g ← members_in (d - 1) over.next
    Some (record {
      tree = record {
        node = node_of text ts i g.next;
        mods = ms;
        interface = k.tree;
        name = id_at ts k.next;
        name_end = to_at ts k.next;
        params = ps.tree;
        extends = up.tree;
        implements = over.tree;
        members = g.tree;
      };
      next = g.next;
    })

  unfoldable pub decl : ℕ → ℕ → Option (Part TypeDecl)
  decl d i = kind (mods_from i).next >>= decl_behind d i (mods_from i).tree

  -- ---- files

  unfoldable pub decls_end : ℕ → Bool
  decls_end i = past_from i == length ts

  unfoldable pub next_decl : ℕ → ℕ → Option (Part TypeDecl)
  next_decl d i = decl d (past_from i)

  unfoldable pub decls : ℕ → ℕ → Option (Part (List TypeDecl))
  decls d i = many text ts decls_end (next_decl d) (length ts + 1) [] i

  -- whether `.*` stands there, and the place behind it
  unfoldable pub all_at : ℕ → Part Bool
  all_at i = if is_mark ts m.Dot i && is_infix ts op.Mul (i + 1) then record { tree = true; next = i + 2 } else record { tree = false; next = i }

  unfoldable pub one_import : ℕ → Option (Part Import)
  one_import i = do
    a ← after_keyword ts kw.Import i
    p ← ids_from m.Dot a
    next ← after_mark ts m.Semicolon (all_at p.next).next
    Some (record { tree = record { node = node_of text ts i next; path = p.tree; all = (all_at p.next).tree }; next = next })

  unfoldable pub imports_end : ℕ → Bool
  imports_end i = not (is_keyword ts kw.Import i)

  unfoldable pub imports : ℕ → Option (Part (List Import))
  imports i = many text ts imports_end one_import (length ts + 1) [] i

  unfoldable pub package_name : ℕ → Option (Part (List Name))
  package_name i =
      given (after_keyword ts kw.Package i) (λ a. ids_from m.Dot a >>= (λ p. after_mark ts m.Semicolon p.next >>= (λ next. Some (record { tree = p.tree; next = next }))))
      (Some (record { tree = []; next = i }))

  unfoldable pub unit : ℕ → Option SourceUnit
  unit d = do
    p ← package_name 0
    is ← imports p.next
    ds ← decls (d - 1) is.next
    Some (record { node = node_of text ts 0 (length ts); «package» = p.tree; imports = is.tree; types = ds.tree })
