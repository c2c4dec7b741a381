-- Parsing of expressions, as a function: each rule by a definition of its own.
use Rattle.std.specs.Prelude.{ℕ, zero, suc, ◌+◌, ◌-◌, max, min, Bool, true, false, not, ◌&&◌, ◌||◌, ◌==◌, nat_lt, if◌then◌else◌, List, [], ◌∷◌, ◌++◌, length, Option, Some, None}
use Rattle.java_tree.specs.declared.tree.Node.{Node}
use Rattle.java_tree.specs.declared.tree.UnOp.{UnOp}
use Rattle.java_tree.specs.declared.tree.BinOp.{BinOp}
use Rattle.java_tree.specs.Plain as t
use Rattle.java_tree.specs.Plain.{TypeExpr, Expr, Exprs}
use Rattle.java_tree.specs.View.{row}
use Rattle.java_lexer.specs.Values.{integer_value, in_u64, is_decimal, char_unit, text_units}
use Rattle.java_grammar.specs.declared.token.Tok.{Tok}
use Rattle.java_grammar.specs.declared.token.Sort.{Sort}
use Rattle.java_grammar.specs.declared.token.Sort.TheVariants as s
use Rattle.java_grammar.specs.declared.token.Keyword.{Keyword}
use Rattle.java_grammar.specs.declared.token.Keyword.TheVariants as word
use Rattle.java_grammar.specs.declared.token.Mark.{Mark}
use Rattle.java_grammar.specs.declared.token.Mark.TheVariants as m
use Rattle.java_grammar.specs.Reads.{sort_at, from_at}
use Rattle.java_grammar.specs.Expressions.{level_of, word_at, node_of}
use Rattle.java_parse_term.specs.declared.signs.Standing.{Standing}
use Rattle.java_parse_term.specs.declared.terms.Row.{Row}
use Rattle.java_parse_term.specs.declared.terms.Row.TheVariants as r
use Rattle.java_parse_term.specs.Marks.{◌>>=◌, given, is_mark, after_mark, after_keyword, after_word}
use Rattle.java_parse_term.specs.Signs.{prefix_of, step_of, is_sign, is_begin, infix_at, assign_at, level_at}
use Rattle.java_parse_term.specs.Types.{Read, rise, raised, primitive_of, is_primitive, has_brackets, names_class, id_at, brackets, bare_type, type_rule, read_type, type_end}

-- a name, a field or an element, also in brackets
abbrev pub is_variable : Expr → Bool
is_variable (t.Name n x) = true
is_variable (t.Field n e x) = true
is_variable (t.SuperField n x) = true
is_variable (t.Index n a b) = true
is_variable (t.Paren n e) = is_variable e
is_variable _ = false

abbrev pub is_creation : Expr → Bool
is_creation (t.NewArray n ty es d) = true
is_creation (t.NewFilled n ty e) = true
is_creation _ = false

abbrev pub is_items : Expr → Bool
is_items (t.Items n es) = true
is_items _ = false

-- ---- what stands in a row: values up to `)`, or items up to `}`

abbrev pub closing : Row → Mark
closing r.Values = m.Close
closing r.Items = m.RightBrace

abbrev pub level_in_row : Row → ℕ
level_in_row r.Values = 14
level_in_row r.Items = 15

module _ (text : List ℕ) (ts : List Tok) where
  abbrev pub made : (Node → Expr) → ℕ → ℕ → ℕ → Read Expr
  made form depth i next = record { tree = form (node_of text ts i next); depth = depth; next = next }

  -- ---- casts

  -- a primitive type is in the brackets before a
  abbrev pub casts_primitive : ℕ → ℕ → Bool
  casts_primitive i a = given (primitive_of (sort_at ts (i + 1))) (λ p. a == i + 2) false

  -- `(` at i is that of a cast: a type stands before its `)`, and an operand behind it, without a sign unless the type is primitive
  abbrev pub casts_to : ℕ → ℕ → Bool
  casts_to i a = is_mark ts m.Close a && (casts_primitive i a || is_begin (sort_at ts (a + 1)))

  unfoldable pub is_cast : ℕ → Bool
  is_cast i = is_mark ts m.Open i && given (type_end ts (i + 1)) (casts_to i) false

  abbrev pub may_be_cast : TypeExpr → ℕ → Bool
  may_be_cast ty i = is_primitive ty || not (is_sign (sort_at ts i))

  -- a comma before the `}` of items
  abbrev pub trailing : Row → ℕ → Option ℕ
  trailing r.Values i = None
  trailing r.Items i = after_mark ts m.Comma i >>= after_mark ts m.RightBrace

  unfoldable pub row_end : Row → ℕ → Option ℕ
  row_end x i = given (after_mark ts (closing x) i) (λ next. Some next) (trailing x i)

  -- where the first choice begins
  unfoldable pub asks : ℕ → ℕ → Option ℕ
  asks k i = if nat_lt 12 k then after_mark ts m.Question i else None

  -- the assignment behind what was read
  unfoldable pub assigns : ℕ → Read Expr → Option (Standing (Option BinOp))
  assigns k left = if nat_lt 13 k then (assign_at ts left.next >>= (λ x. if is_variable left.tree then Some x else None)) else None

  -- where items begin
  unfoldable pub opens : ℕ → ℕ → Option ℕ
  opens k i = if nat_lt 14 k then after_mark ts m.LeftBrace i else None

  -- A size of an array begins with a bracket, which is none of a pair.
  unfoldable pub opens_size : ℕ → Bool
  opens_size i = is_mark ts m.LeftBracket i && not (is_mark ts m.RightBracket (i + 1))

  -- what goes on with a primary
  unfoldable pub is_link : ℕ → Bool
  is_link i = is_mark ts m.Dot i || is_mark ts m.LeftBracket i

  -- Trees have at most the depth `limit`, and `below k i` reads one of less at looseness k.
  module _ (limit : ℕ) (below : ℕ → ℕ → Option (Read Expr)) where
    unfoldable pub member : Row → ℕ → Option (Read Expr)
    member x i = below (level_in_row x) i >>= raised limit

    unfoldable pub more : Row → ℕ → List Expr → ℕ → ℕ → Option (Read (List Expr))
    more x zero es depth i = None
    more x (suc turns) es depth i =
        given (row_end x i) (λ next. Some (record { tree = es; depth = depth; next = next }))
        (after_mark ts m.Comma i >>= member x >>= (λ e. more x turns (es ++ e.tree ∷ []) (max depth e.depth) e.next))

    unfoldable pub all_in : Row → ℕ → Option (Read (List Expr))
    all_in x i =
        given (row_end x i) (λ next. Some (record { tree = []; depth = 0; next = next }))
        (member x i >>= (λ e. more x (length ts) (e.tree ∷ []) e.depth e.next))

    -- ---- operands

    unfoldable pub number : Bool → ℕ → Option (Read Expr)
    number long i = in_u64 (integer_value (word_at text ts i)) >>= (λ v. Some (made (λ n. t.Number n v (is_decimal (word_at text ts i)) long) 0 i (i + 1)))

    -- a call without a target, whose values begin at `first`
    unfoldable pub call : ℕ → ℕ → Option (Read Expr)
    call i first = all_in r.Values first >>= (λ es. Some (made (λ n. t.Call n t.NoExpr (id_at ts i) (row es.tree)) es.depth i es.next))

    unfoldable pub named : ℕ → Option (Read Expr)
    named i = given (after_mark ts m.Open (i + 1)) (call i) (Some (made (λ n. t.Name n (id_at ts i)) 0 i (i + 1)))

    unfoldable pub super_call : ℕ → ℕ → ℕ → Option (Read Expr)
    super_call i name first = all_in r.Values first >>= (λ es. Some (made (λ n. t.SuperMethod n (id_at ts name) (row es.tree)) es.depth i es.next))

    unfoldable pub super_member : ℕ → Option (Read Expr)
    super_member i =
        after_mark ts m.Dot (i + 1)
        >>= (λ name. after_word ts name
        >>= (λ next. given (after_mark ts m.Open next) (super_call i name) (Some (made (λ n. t.SuperField n (id_at ts name)) 0 i next))))

    unfoldable pub paren : ℕ → Option (Read Expr)
    paren i =
        below 14 (i + 1)
        >>= (λ x. after_mark ts m.Close x.next
        >>= (λ next. rise limit x.depth
        >>= (λ depth. Some (made (λ n. t.Paren n x.tree) depth i next))))

    unfoldable pub new_object : ℕ → Read TypeExpr → ℕ → Option (Read Expr)
    new_object i ty first =
        if names_class ty.tree
        then (all_in r.Values first
        >>= (λ es. rise limit ty.depth
        >>= (λ depth. Some (made (λ n. t.New n ty.tree (row es.tree)) (max depth es.depth) i es.next))))
        else None

    unfoldable pub new_filled : ℕ → Read TypeExpr → Option (Read Expr)
    new_filled i ty =
        if has_brackets ty.tree
        then (below 15 ty.next
        >>= (λ x. if is_items x.tree
        then (rise limit (max ty.depth x.depth) >>= (λ depth. Some (made (λ n. t.NewFilled n ty.tree x.tree) depth i x.next)))
        else None))
        else None

    unfoldable pub size : ℕ → Option (Read Expr)
    size i =
        after_mark ts m.LeftBracket i
        >>= (λ first. below 14 first
        >>= (λ x. after_mark ts m.RightBracket x.next
        >>= (λ next. rise limit x.depth
        >>= (λ depth. Some (record { tree = x.tree; depth = depth; next = next })))))

    unfoldable pub more_sizes : ℕ → List Expr → ℕ → ℕ → Option (Read (List Expr))
    more_sizes zero es depth i = None
    more_sizes (suc turns) es depth i =
        if opens_size i
        then (size i >>= (λ e. more_sizes turns (es ++ e.tree ∷ []) (max depth e.depth) e.next))
        else Some (record { tree = es; depth = depth; next = i })

    unfoldable pub sizes : ℕ → Option (Read (List Expr))
    sizes i = size i >>= (λ e. more_sizes (length ts) (e.tree ∷ []) e.depth e.next)

    -- an array with its sizes, and the pairs of brackets behind them
    abbrev pub sized : ℕ → TypeExpr → Read (List Expr) → ℕ → Standing ℕ → Read Expr
    sized i ty es depth b = made (λ n. t.NewArray n ty (row es.tree) b.is) (max depth es.depth) i b.next

    unfoldable pub new_array : ℕ → Read TypeExpr → Option (Read Expr)
    new_array i ty =
        if has_brackets ty.tree
        then None
        else (sizes ty.next
        >>= (λ es. rise limit ty.depth
        >>= (λ depth. Some (sized i ty.tree es depth (brackets ts (length ts) 0 es.next)))))

    unfoldable pub creation : ℕ → Option (Read Expr)
    creation i =
        read_type ts limit (i + 1)
        >>= (λ ty. given (after_mark ts m.Open ty.next) (new_object i ty) (if is_mark ts m.LeftBrace ty.next then new_filled i ty else new_array i ty))

    abbrev pub keyword_operand : Keyword → ℕ → Option (Read Expr)
    keyword_operand word.True i = Some (made (λ n. t.Truth n true) 0 i (i + 1))
    keyword_operand word.False i = Some (made (λ n. t.Truth n false) 0 i (i + 1))
    keyword_operand word.Null i = Some (made (λ n. t.Null n) 0 i (i + 1))
    keyword_operand word.This i = Some (made (λ n. t.This n) 0 i (i + 1))
    keyword_operand word.Super i = super_member i
    keyword_operand word.New i = creation i
    keyword_operand _ i = None

    abbrev pub operand_by : Sort → ℕ → Option (Read Expr)
    operand_by s.Word i = named i
    operand_by (s.Number long) i = number long i
    operand_by s.Char i = Some (made (λ n. t.Char n (char_unit (word_at text ts i))) 0 i (i + 1))
    operand_by s.Text i = Some (made (λ n. t.Text n (text_units (word_at text ts i))) 0 i (i + 1))
    operand_by (s.Keyword w) i = keyword_operand w i
    operand_by (s.Mark m.Open) i = paren i
    operand_by _ i = None

    unfoldable pub operand : ℕ → Option (Read Expr)
    operand i = operand_by (sort_at ts i) i

    -- ---- what goes on with a primary

    -- a call on what was read, whose values begin at `first`
    unfoldable pub call_on : ℕ → Read Expr → ℕ → ℕ → Option (Read Expr)
    call_on i left name first =
        all_in r.Values first
        >>= (λ es. rise limit left.depth
        >>= (λ depth. Some (made (λ n. t.Call n (t.AnExpr left.tree) (id_at ts name) (row es.tree)) (max depth es.depth) i es.next)))

    unfoldable pub field_of : ℕ → Read Expr → ℕ → ℕ → Option (Read Expr)
    field_of i left name next = rise limit left.depth >>= (λ depth. Some (made (λ n. t.Field n left.tree (id_at ts name)) depth i next))

    unfoldable pub selected : ℕ → Read Expr → Option (Read Expr)
    selected i left =
        after_mark ts m.Dot left.next
        >>= (λ name. after_word ts name
        >>= (λ next. given (after_mark ts m.Open next) (call_on i left name) (field_of i left name next)))

    unfoldable pub index : ℕ → Read Expr → Option (Read Expr)
    index i left =
        if is_creation left.tree
        then None
        else (after_mark ts m.LeftBracket left.next
        >>= (λ first. below 14 first
        >>= (λ x. after_mark ts m.RightBracket x.next
        >>= (λ next. rise limit (max left.depth x.depth)
        >>= (λ depth. Some (made (λ n. t.Index n left.tree x.tree) depth i next))))))

    unfoldable pub link : ℕ → Read Expr → Option (Read Expr)
    link i left = if is_mark ts m.Dot left.next then selected i left else index i left

    unfoldable pub chain : ℕ → ℕ → Read Expr → Option (Read Expr)
    chain zero i left = None
    chain (suc turns) i left =
        if is_link left.next then (link i left >>= chain turns i) else Some left

    unfoldable pub primary : ℕ → Option (Read Expr)
    primary i = operand i >>= chain (limit + 1) i

    unfoldable pub stepped : ℕ → Read Expr → Bool → Option (Read Expr)
    stepped i left up =
        if is_variable left.tree
        then (rise limit left.depth >>= (λ depth. Some (made (λ n. t.Step n up false left.tree) depth i (left.next + 1))))
        else None

    unfoldable pub postfix : ℕ → Option (Read Expr)
    postfix i = primary i >>= (λ left. given (step_of (sort_at ts left.next)) (stepped i left) (Some left))

    -- ---- what stands before an operand

    unfoldable pub signed : ℕ → UnOp → Option (Read Expr)
    signed i x = below 2 (i + 1) >>= (λ e. rise limit e.depth >>= (λ depth. Some (made (λ n. t.Unary n x e.tree) depth i e.next)))

    unfoldable pub stepping : ℕ → Bool → Option (Read Expr)
    stepping i up =
        below 2 (i + 1)
        >>= (λ e. if is_variable e.tree
        then (rise limit e.depth >>= (λ depth. Some (made (λ n. t.Step n up true e.tree) depth i e.next)))
        else None)

    -- a cast, by its type
    unfoldable pub cast_to : ℕ → Read TypeExpr → Option (Read Expr)
    cast_to i ty =
        after_mark ts m.Close ty.next
        >>= (λ first. if may_be_cast ty.tree first
        then (below 2 first
        >>= (λ e. rise limit (max ty.depth e.depth)
        >>= (λ depth. Some (made (λ n. t.Cast n ty.tree (from_at ts ty.next) e.tree) depth i e.next))))
        else None)

    unfoldable pub cast : ℕ → Option (Read Expr)
    cast i = read_type ts limit (i + 1) >>= cast_to i

    unfoldable pub unary : ℕ → Option (Read Expr)
    unary i =
        given (prefix_of (sort_at ts i)) (signed i)
        (given (step_of (sort_at ts i)) (stepping i) (if is_cast i then cast i else postfix i))

    -- ---- infix operators

    -- with what is right of the operator
    unfoldable pub joined : ℕ → Read Expr → Standing BinOp → Option (Read Expr)
    joined i left x =
        below (level_of x.is - 1) x.next
        >>= (λ right. rise limit (max left.depth right.depth)
        >>= (λ depth. Some (made (λ n. t.Binary n x.is left.tree right.tree) depth i right.next)))

    -- No tighter operator stands behind the type.
    unfoldable pub asked : ℕ → Read Expr → Option (Read Expr)
    asked i left =
        after_keyword ts word.InstanceOf left.next
        >>= (λ first. bare_type ts first
        >>= (λ ty. if nat_lt (level_at ts ty.next) 6
        then None
        else (rise limit (max left.depth ty.depth)
        >>= (λ depth. Some (made (λ n. t.InstanceOf n left.tree ty.tree) depth i ty.next)))))

    unfoldable pub tied : ℕ → Read Expr → Option (Read Expr)
    tied i left = given (infix_at ts left.next) (joined i left) (asked i left)

    unfoldable pub climb : ℕ → ℕ → ℕ → Read Expr → Option (Read Expr)
    climb k zero i left = None
    climb k (suc turns) i left = if nat_lt k (level_at ts left.next) then Some left else (tied i left >>= climb k turns i)

    -- ---- conditionals, assignments and items

    -- what `:` and what is behind it complete
    unfoldable pub chosen_else : ℕ → Read Expr → Read Expr → Option (Read Expr)
    chosen_else i test yes_part =
        after_mark ts m.Colon yes_part.next
        >>= (λ first. below 13 first
        >>= (λ no_part. rise limit (max test.depth (max yes_part.depth no_part.depth))
        >>= (λ depth. Some (made (λ n. t.Cond n test.tree yes_part.tree no_part.tree) depth i no_part.next))))

    unfoldable pub chosen : ℕ → Read Expr → ℕ → Option (Read Expr)
    chosen i test first = below 14 first >>= chosen_else i test

    unfoldable pub conditional : ℕ → ℕ → Read Expr → Option (Read Expr)
    conditional k i left = climb (min k 12) (limit + 1) i left >>= (λ test. given (asks k test.next) (chosen i test) (Some test))

    unfoldable pub assigned : ℕ → Read Expr → Standing (Option BinOp) → Option (Read Expr)
    assigned i left x =
        below 14 x.next
        >>= (λ right. rise limit (max left.depth right.depth)
        >>= (λ depth. Some (made (λ n. t.Assign n x.is left.tree right.tree) depth i right.next)))

    unfoldable pub expression : ℕ → ℕ → Option (Read Expr)
    expression k i = unary i >>= (λ left. given (assigns k left) (assigned i left) (conditional k i left))

    unfoldable pub items : ℕ → ℕ → Option (Read Expr)
    items i first = all_in r.Items first >>= (λ es. Some (made (λ n. t.Items n (row es.tree)) es.depth i es.next))

    unfoldable pub level : ℕ → ℕ → Option (Read Expr)
    level k i = given (opens k i) (items i) (expression k i)

  -- of less than the depth, at a looseness
  unfoldable pub parse : ℕ → ℕ → ℕ → Option (Read Expr)
  parse zero k i = None
  parse (suc limit) k i = level limit (parse limit) k i

-- ---- what other crates read: a type or an expression of at most a depth

abbrev pub type_read : List Tok → ℕ → ℕ → Option (Read TypeExpr)
type_read ts depth i = type_rule ts depth (read_type ts depth) i

abbrev pub expr_read : List ℕ → List Tok → ℕ → ℕ → ℕ → Option (Read Expr)
expr_read text ts k depth i = level text ts depth (parse text ts depth) k i
