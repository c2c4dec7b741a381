-- Types, as functions: what is read, and how far one goes.
use Rattle.std.specs.Prelude.{ℕ, zero, suc, ◌+◌, ◌-◌, max, Bool, true, false, not, ◌&&◌, ◌==◌, nat_lt, if◌then◌else◌, List, [], ◌∷◌, ◌++◌, length, Option, Some, None}
use Rattle.java_tree.specs.declared.tree.Name.{Name}
use Rattle.java_tree.specs.declared.tree.Head.{Head}
use Rattle.java_tree.specs.declared.tree.Head.TheVariants as head
use Rattle.java_tree.specs.declared.tree.Primitive.{Primitive}
use Rattle.java_tree.specs.declared.tree.Primitive.TheVariants as prim
use Rattle.java_tree.specs.declared.tree.BinOp.TheVariants as op
use Rattle.java_tree.specs.Plain as t
use Rattle.java_tree.specs.Plain.{TypeExpr}
use Rattle.java_tree.specs.View.{types}
use Rattle.java_grammar.specs.declared.token.Tok.{Tok}
use Rattle.java_grammar.specs.declared.token.Sort.{Sort}
use Rattle.java_grammar.specs.declared.token.Sort.TheVariants as s
use Rattle.java_grammar.specs.declared.token.Keyword.TheVariants as word
use Rattle.java_grammar.specs.declared.token.Mark.TheVariants as m
use Rattle.java_grammar.specs.Reads.{sort_at, name_at, span_of}
use Rattle.java_parse_term.specs.declared.signs.Standing.{Standing}
use Rattle.java_parse_term.specs.declared.types.Scan.{Scan}
use Rattle.java_parse_term.specs.Marks.{◌>>=◌, given, after_mark, after_infix, after_word, dotted}
use Rattle.java_parse_term.specs.Signs.{standing}

-- a tree, its depth, and the token after its tokens; of a list the depth that it gives to what holds it
pub record Read (A : Type 0) : Type 0 where
  pub tree : A
  pub depth : ℕ
  pub next : ℕ

-- the depth of what stands above, if it is within the limit
unfoldable pub rise : ℕ → ℕ → Option ℕ
rise limit depth = if nat_lt depth limit then Some (depth + 1) else None

-- the same tree, with the depth that it gives to what holds it
abbrev pub raised : {A : Type 0} → ℕ → Read A → Option (Read A)
raised limit x = rise limit x.depth >>= (λ depth. Some (record { tree = x.tree; depth = depth; next = x.next }))

abbrev pub primitive_of : Sort → Option Primitive
primitive_of (s.Keyword word.Int) = Some prim.Int
primitive_of (s.Keyword word.Long) = Some prim.Long
primitive_of (s.Keyword word.Char) = Some prim.Char
primitive_of (s.Keyword word.Boolean) = Some prim.Boolean
primitive_of _ = None

-- no type ends before such a token
abbrev pub goes_on : Sort → Bool
goes_on (s.Mark m.Dot) = true
goes_on (s.Mark m.LeftBracket) = true
goes_on (s.Infix op.Less) = true
goes_on _ = false

abbrev pub is_path : Head → Bool
is_path (head.Path xs) = true
is_path (head.Prim p) = false

-- a primitive type, and no array
abbrev pub is_primitive : TypeExpr → Bool
is_primitive (t.Written n (head.Prim p) span args d) = d == 0
is_primitive (t.Written n (head.Path xs) span args d) = false

abbrev pub has_brackets : TypeExpr → Bool
has_brackets (t.Written n h span args d) = nat_lt 0 d

-- a class or interface, and no array
abbrev pub names_class : TypeExpr → Bool
names_class (t.Written n (head.Path xs) span args d) = d == 0
names_class (t.Written n (head.Prim p) span args d) = false

-- behind a head without arguments; an argument is no primitive type
unfoldable pub head_only : ℕ → Bool → Standing ℕ → Option Scan
head_only nesting path b =
    if nat_lt 0 nesting && (not path && (b.is == 0)) then None else Some (record { nesting = nesting; is_whole = true; at = b.next })

module _ (ts : List Tok) where
  abbrev pub id_at : ℕ → Name
  id_at i = record { 0 = name_at ts i }

  -- identifiers with dots between them, behind those that were read
  unfoldable pub path : ℕ → List Name → ℕ → Option (Read (List Name))
  path zero names i = None
  path (suc turns) names i =
      after_word ts i
      >>= (λ next. given (dotted ts next) (path turns (names ++ id_at i ∷ [])) (Some (record { tree = names ++ id_at i ∷ []; depth = 0; next = next })))

  unfoldable pub type_head : ℕ → Option (Read Head)
  type_head i =
      given (primitive_of (sort_at ts i)) (λ p. Some (record { tree = head.Prim p; depth = 0; next = i + 1 }))
      (path (length ts) [] i >>= (λ x. Some (record { tree = head.Path x.tree; depth = 0; next = x.next })))

  -- the place behind a pair of brackets
  unfoldable pub pair_end : ℕ → Option ℕ
  pair_end i = after_mark ts m.LeftBracket i >>= after_mark ts m.RightBracket

  -- pairs of brackets
  unfoldable pub brackets : ℕ → ℕ → ℕ → Standing ℕ
  brackets zero dims i = standing dims i
  brackets (suc turns) dims i = given (pair_end i) (brackets turns (dims + 1)) (standing dims i)

  -- a type that begins at i, by its head, its arguments, and the brackets behind them
  abbrev pub written : ℕ → Read Head → Read (List TypeExpr) → Standing ℕ → Read TypeExpr
  written i h args b = record {
    tree = t.Written (record { id = 0; span = span_of ts i b.next }) h.tree (span_of ts i h.next) (types args.tree) b.is;
    depth = args.depth;
    next = b.next;
  }

  abbrev pub no_types : ℕ → Read (List TypeExpr)
  no_types i = record { tree = []; depth = 0; next = i }

  -- a type without arguments
  unfoldable pub bare_type : ℕ → Option (Read TypeExpr)
  bare_type i = type_head i >>= (λ h. Some (written i h (no_types h.next) (brackets (length ts) 0 h.next)))

  -- where the arguments of a type begin, behind its head
  unfoldable pub first_argument : Bool → ℕ → Option ℕ
  first_argument path i = if path then after_infix ts op.Less i else None

  -- `below` reads a type of less than the limit's depth
  module _ (limit : ℕ) (below : ℕ → Option (Read TypeExpr)) where
    unfoldable pub argument : ℕ → Option (Read TypeExpr)
    argument i = below i >>= (λ x. if is_primitive x.tree then None else raised limit x)

    unfoldable pub more_types : ℕ → List TypeExpr → ℕ → ℕ → Option (Read (List TypeExpr))
    more_types zero xs depth i = None
    more_types (suc turns) xs depth i =
        given (after_infix ts op.Greater i) (λ next. Some (record { tree = xs; depth = depth; next = next }))
        (after_mark ts m.Comma i >>= argument >>= (λ x. more_types turns (xs ++ x.tree ∷ []) (max depth x.depth) x.next))

    unfoldable pub arguments : Bool → ℕ → Option (Read (List TypeExpr))
    arguments path i =
        given (first_argument path i) (λ first. argument first >>= (λ x. more_types (length ts) (x.tree ∷ []) x.depth x.next)) (Some (no_types i))

    unfoldable pub type_rule : ℕ → Option (Read TypeExpr)
    type_rule i =
        type_head i
        >>= (λ h. arguments (is_path h.tree) h.next
        >>= (λ args. Some (written i h args (brackets (length ts) 0 args.next))))

  -- of less than the depth
  unfoldable pub read_type : ℕ → ℕ → Option (Read TypeExpr)
  read_type zero i = None
  read_type (suc limit) i = type_rule limit (read_type limit) i

  -- ---- how far a type goes

  unfoldable pub path_end : ℕ → ℕ → Option ℕ
  path_end zero i = None
  path_end (suc turns) i = after_word ts i >>= (λ next. given (dotted ts next) (path_end turns) (Some next))

  -- whether a head is a path, and its end
  unfoldable pub head_end : ℕ → Option (Standing Bool)
  head_end i = given (primitive_of (sort_at ts i)) (λ p. Some (standing false (i + 1))) (path_end (length ts) i >>= (λ next. Some (standing true next)))

  -- from the front of a type
  unfoldable pub scan_type : ℕ → ℕ → Option Scan
  scan_type nesting i =
      head_end i
      >>= (λ h. given (first_argument h.is h.next) (λ first. Some (record { nesting = nesting + 1; is_whole = false; at = first }))
      (head_only nesting h.is (brackets (length ts) 0 h.next)))

  -- behind an argument
  unfoldable pub scan_on : ℕ → ℕ → Option Scan
  scan_on nesting i =
      given (after_mark ts m.Comma i) (λ first. Some (record { nesting = nesting; is_whole = false; at = first }))
      (after_infix ts op.Greater i >>= (λ next. Some (record { nesting = nesting - 1; is_whole = true; at = (brackets (length ts) 0 next).next })))

  unfoldable pub scan_step : Scan → Option Scan
  scan_step x = if x.is_whole then scan_on x.nesting x.at else scan_type x.nesting x.at

  unfoldable pub scan : ℕ → Scan → Option ℕ
  scan zero x = None
  scan (suc turns) x =
      if x.is_whole && (x.nesting == 0) then (if goes_on (sort_at ts x.at) then None else Some x.at)
      else (scan_step x >>= scan turns)

  abbrev pub from_start : ℕ → Scan
  from_start i = record { nesting = 0; is_whole = false; at = i }

  -- where the longest type from i on ends
  unfoldable pub type_end : ℕ → Option ℕ
  type_end i = scan (length ts + 2) (from_start i)
