-- A declaration against an expression that is a statement, and calls of `this` and `super` against expressions.
use Rattle.std.proofs.Common.{◌≡◌, ◌≢◌, ℕ, zero, suc, ◌+◌, ◌≤◌, Bool, true, false, List, [], ◌∷◌, ◌++◌, Option, Some, None, refl, sym, subst, ◌∙◌, arith, ◌⊎◌, inl, inr}
use Rattle.java_tree.specs.declared.tree.Name.{Name}
use Rattle.java_tree.specs.declared.tree.Head.TheVariants as head
use Rattle.java_tree.specs.declared.tree.BinOp.{BinOp}
use Rattle.java_tree.specs.declared.tree.BinOp.TheVariants as op
use Rattle.java_tree.specs.declared.tree.Primitive.{Primitive}
use Rattle.java_tree.specs.declared.tree.Primitive.TheVariants as prim
use Rattle.java_tree.specs.Plain as t
use Rattle.java_tree.specs.Plain.{TypeExpr, TypeExprs, Expr, Exprs}
use Rattle.java_grammar.specs.declared.token.Tok.{Tok}
use Rattle.java_grammar.specs.declared.token.Sort.{Sort}
use Rattle.java_grammar.specs.declared.token.Sort.TheVariants as s
use Rattle.java_grammar.specs.declared.token.Keyword.TheVariants as kw
use Rattle.java_grammar.specs.declared.token.Mark.TheVariants as m
use Rattle.java_grammar.specs.Reads.{sort_at}
use Rattle.java_grammar.specs.Expressions.{IsId, IsPath, IsVariable, IsAssignment, SpellsType, AreArguments, AreBrackets, Spells, EndsAt, level_of, word_of}
use Rattle.java_grammar.specs.Statements.{IsStatement}
use Rattle.java_parse_expr.proofs.Begins.{no_begin}

-- A token that neither goes on with a path of names or a call, nor is a name.
abbrev pub is_quiet : Sort → Bool
is_quiet s.Word = false
is_quiet (s.Mark m.Dot) = false
is_quiet (s.Mark m.LeftBracket) = false
is_quiet (s.Mark m.Open) = false
is_quiet (s.Infix op.Less) = false
is_quiet _ = true

abbrev pub is_self : Sort → Bool
is_self (s.Keyword kw.This) = true
is_self (s.Keyword kw.Super) = true
is_self _ = false

module _ (text : List ℕ) (ts : List Tok) where
  pub ends_quiet : (x : Sort) → EndsAt text ts x → is_quiet x ≡ true
  ends_quiet s.End e = refl
  ends_quiet (s.Mark m.Close) e = refl
  ends_quiet (s.Mark m.RightBracket) e = refl
  ends_quiet (s.Mark m.RightBrace) e = refl
  ends_quiet (s.Mark m.Comma) e = refl
  ends_quiet (s.Mark m.Semicolon) e = refl
  ends_quiet (s.Mark m.Colon) e = refl
  ends_quiet _ e = absurd e

  assign_quiet : (x : Option BinOp) (a b : ℕ) → IsAssignment text ts x a b → is_quiet (sort_at ts a) ≡ true
  assign_quiet (Some op.ShiftRight) a b p = rw p.0 refl
  assign_quiet (Some op.ShiftRightZero) a b p = rw p.0 refl
  assign_quiet None a b p = rw p.0 refl
  assign_quiet (Some _) a b p = rw p.0 refl

  quiet_not : (i : ℕ) (x : Sort) → is_quiet (sort_at ts i) ≡ true → is_quiet x ≡ false → sort_at ts i ≢ x
  quiet_not i x quiet loud is = let so : is_quiet x ≡ true = rw (← is) quiet in cc

  -- ---- an expression that begins with a path of names

  -- no index or call, but what begins one
  abbrev Bars : ℕ → Type 0
  Bars i = (sort_at ts i ≡ s.Mark m.Open) ⊎ ((sort_at ts i ≡ s.Mark m.LeftBracket) × (sort_at ts (i + 1) ≢ s.Mark m.RightBracket))

  record Fronts (i j : ℕ) : Type 0 where
    names : List Name
    end : ℕ
    path : IsPath text ts names i end
    behind : (end ≡ j) ⊎ Bars end

  path_snoc : (xs : List Name) (x : Name) (i a : ℕ) → IsPath text ts xs i a → sort_at ts a ≡ s.Mark m.Dot → IsId text ts x (a + 1) → IsPath text ts (xs ++ x ∷ []) i (a + 2)
  path_snoc [] x i a p dot id = absurd p
  path_snoc (y ∷ []) x i a (is, next) dot id =
      let two : i + 1 + 1 ≡ i + 2 = omega arith in
      (is, rw (← next) dot, (subst (λ b. IsId text ts x b) two (subst (λ b. IsId text ts x (b + 1)) next id), omega arith))
  path_snoc (y ∷ z ∷ xs) x i a (is, first, p) dot id = (is, first, path_snoc (z ∷ xs) x (i + 2) a p dot id)

  front_on : (x : Name) (i a : ℕ) → Fronts i a → sort_at ts a ≡ s.Mark m.Dot → IsId text ts x (a + 1) → Fronts i (a + 2)
  front_on x i a f dot id = by_end f.behind
    where
      by_end : (f.end ≡ a) ⊎ Bars f.end → Fronts i (a + 2)
      by_end (inl same) = record { names = f.names ++ x ∷ []; end = a + 2; path = path_snoc f.names x i a (rw same at f.path) dot id; behind = inl refl }
      by_end (inr bars) = record { names = f.names; end = f.end; path = f.path; behind = inr bars }

  front_bars : (i a j : ℕ) → Fronts i a → Bars a → Fronts i j
  front_bars i a j f here = by_end f.behind
    where
      by_end : (f.end ≡ a) ⊎ Bars f.end → Fronts i j
      by_end (inl same) = record { names = f.names; end = a; path = rw same at f.path; behind = inr here }
      by_end (inr bars) = record { names = f.names; end = f.end; path = f.path; behind = inr bars }

  no_word : {Z : Type 0} (i : ℕ) (x : Sort) → sort_at ts i ≡ s.Word → sort_at ts i ≡ x → is_quiet x ≡ true → Z
  no_word i x word is quiet = let so : false ≡ true = subst (λ y. is_quiet y ≡ true) (sym is ∙ word) quiet in absurd (cc)

  front : (e : Expr) (i j : ℕ) → sort_at ts i ≡ s.Word → Spells text ts 0 e i j → Fronts i j
  front (t.Number n v d l) i j word (node, is, v1, v2, next) = no_word i (s.Number l) word is refl
  front (t.Char n c) i j word (node, is, v, next) = no_word i s.Char word is refl
  front (t.Text n us) i j word (node, is, v, next) = no_word i s.Text word is refl
  front (t.Truth n true) i j word (node, is, next) = no_word i (s.Keyword kw.True) word is refl
  front (t.Truth n false) i j word (node, is, next) = no_word i (s.Keyword kw.False) word is refl
  front (t.Null n) i j word (node, is, next) = no_word i (s.Keyword kw.Null) word is refl
  front (t.This n) i j word (node, is, next) = no_word i (s.Keyword kw.This) word is refl
  front (t.Name n x) i j word (node, id, next) = record { names = x ∷ []; end = j; path = (id, next); behind = inl refl }
  front (t.Field n e x) i j word (node, a, p, dot, id, next) = subst (λ b. Fronts i b) (sym next) (front_on x i a (front e i a word p) dot id)
  front (t.SuperField n x) i j word (node, is, dot, id, next) = no_word i (s.Keyword kw.Super) word is refl
  front (t.Index n e x) i j word (node, none, a, p, open_is, b, q, close_is, next) =
      front_bars i a j (front e i a word p) (inr (open_is, λ is. no_begin text ts 14 x (a + 1) b (s.Mark m.RightBracket) (omega arith) q is refl))
  front (t.Call n t.NoExpr x es) i j word (node, id, open_is, args) = record { names = x ∷ []; end = i + 1; path = (id, refl); behind = inr (inl open_is) }
  front (t.Call n (t.AnExpr e) x es) i j word (node, a, p, dot, id, open_is, args) = front_bars i (a + 2) j (front_on x i a (front e i a word p) dot id) (inl open_is)
  front (t.SuperMethod n x es) i j word (node, is, dot, id, open_is, args) = no_word i (s.Keyword kw.Super) word is refl
  front (t.New n ty es) i j word (node, is, names, a, p, open_is, args) = no_word i (s.Keyword kw.New) word is refl
  front (t.NewArray n ty es d) i j word (node, is, plain_is, a, p, some, b, q, r) = no_word i (s.Keyword kw.New) word is refl
  front (t.NewFilled n ty e) i j word (node, is, plain_is, items, a, p, q) = no_word i (s.Keyword kw.New) word is refl
  front (t.Items n es) i j word (node, level, is, r) = absurd (omega arith)
  front (t.Paren n e) i j word (node, is, a, p, close_is, next) = let both : s.Word ≡ s.Mark m.Open = sym word ∙ is in absurd (cc)
  front (t.Unary n x e) i j word (node, level, is, p) = absurd (omega arith)
  front (t.Step n up true e) i j word (node, level, is, v, p) = absurd (omega arith)
  front (t.Step n up false e) i j word (node, level, v, a, p, is, next) = absurd (omega arith)
  front (t.Cast n ty c e) i j word (node, level, is, a, p, close_is, at, may, q) = absurd (omega arith)
  front (t.Binary n x e f) i j word (node, level, a, p, b, is, q) = absurd (tight x level)
    where
      tight : (x : BinOp) → level_of x ≤ 0 → ⊥
      tight op.LogicOr h = omega arith
      tight _ h = omega arith
  front (t.InstanceOf n e ty) i j word (node, level, a, p, is, none, q) = absurd (omega arith)
  front (t.Cond n e f g) i j word (node, level, a, p, is, b, q, colon, r) = absurd (omega arith)
  front (t.Assign n x e f) i j word (node, level, v, a, p, b, is, q) = absurd (omega arith)

  -- a variable is as tight as any
  variable_tight : (e : Expr) (i j : ℕ) → IsVariable e → Spells text ts 2 e i j → Spells text ts 0 e i j
  variable_tight (t.Name n x) i j v p = p
  variable_tight (t.Field n e x) i j v p = p
  variable_tight (t.SuperField n x) i j v p = p
  variable_tight (t.Index n e x) i j v p = p
  variable_tight (t.Paren n e) i j v p = p
  variable_tight _ i j v p = absurd v

  -- a path of names, and no type behind it with a name
  record Ended (i : ℕ) : Type 0 where
    names : List Name
    end : ℕ
    path : IsPath text ts names i end
    behind : (is_quiet (sort_at ts end) ≡ true) ⊎ Bars end

  ended_at : (i j : ℕ) → Fronts i j → is_quiet (sort_at ts j) ≡ true → Ended i
  ended_at i j f quiet = by_end f.behind
    where
      by_end : (f.end ≡ j) ⊎ Bars f.end → Ended i
      by_end (inl same) = record { names = f.names; end = f.end; path = f.path; behind = inl (rw same quiet) }
      by_end (inr bars) = record { names = f.names; end = f.end; path = f.path; behind = inr bars }

  statement_front : (e : Expr) (i j : ℕ) → IsStatement e → Spells text ts 14 e i j → EndsAt text ts (sort_at ts j) → sort_at ts i ≡ s.Word → Ended i
  statement_front (t.Assign n x e f) i j stmt (node, level, v, a, p, b, is, q) ends word =
      ended_at i a (front e i a word (variable_tight e i a v p)) (assign_quiet x a b is)
  statement_front (t.Step n up true e) i j stmt (node, level, is, v, p) ends word = no_word i (s.Step up) word is refl
  statement_front (t.Step n up false e) i j stmt (node, level, v, a, p, is, next) ends word = ended_at i a (front e i a word p) (rw is refl)
  statement_front (t.Call n t.NoExpr x es) i j stmt p ends word = ended_at i j (front (t.Call n t.NoExpr x es) i j word p) (ends_quiet (sort_at ts j) ends)
  statement_front (t.Call n (t.AnExpr e) x es) i j stmt p ends word = ended_at i j (front (t.Call n (t.AnExpr e) x es) i j word p) (ends_quiet (sort_at ts j) ends)
  statement_front (t.SuperMethod n x es) i j stmt p ends word = no_word i (s.Keyword kw.Super) word p.1 refl
  statement_front (t.New n ty es) i j stmt p ends word = no_word i (s.Keyword kw.New) word p.1 refl
  statement_front _ i j stmt p ends word = absurd stmt

  -- paths from one place, behind which no dot stands, end at one place
  path_end_one : (xs ys : List Name) (i a b : ℕ) → IsPath text ts xs i a → IsPath text ts ys i b → sort_at ts a ≢ s.Mark m.Dot → sort_at ts b ≢ s.Mark m.Dot → a ≡ b
  path_end_one [] ys i a b p q nod nod' = absurd p
  path_end_one (x ∷ xs) [] i a b p q nod nod' = absurd q
  path_end_one (x ∷ []) (y ∷ []) i a b p q nod nod' = omega (arith, p.1, q.1)
  path_end_one (x ∷ []) (y ∷ z ∷ ys) i a b p q nod nod' = absurd (nod (rw p.1 q.1))
  path_end_one (x ∷ y ∷ xs) (z ∷ []) i a b p q nod nod' = absurd (nod' (rw q.1 p.1))
  path_end_one (x ∷ y ∷ xs) (z ∷ w ∷ ys) i a b p q nod nod' = path_end_one (y ∷ xs) (w ∷ ys) (i + 2) a b p.2 q.2 nod nod'

  -- ---- no declaration

  arguments_on : (ys : List Name) (args : TypeExprs) (d b c j : ℕ) → AreArguments text ts (head.Path ys) args b c → AreBrackets text ts d c j → sort_at ts j ≡ s.Word
      → (sort_at ts b ≡ s.Word) ⊎ (sort_at ts b ≡ s.Infix op.Less) ⊎ ((sort_at ts b ≡ s.Mark m.LeftBracket) × (sort_at ts (b + 1) ≡ s.Mark m.RightBracket))
  arguments_on ys t.NoTypes zero b c j p q word = inl (rw (← p, ← q) word)
  arguments_on ys t.NoTypes (suc d) b c j p q word = inr (inr (rw p at q.0, rw p at q.1))
  arguments_on ys (t.AndType x xs) d b c j p q word = inr (inl p.0)

  no_type : (ty : TypeExpr) (i j : ℕ) → Ended i → SpellsType text ts ty i j → sort_at ts j ≡ s.Word → sort_at ts i ≡ s.Word → ⊥
  no_type (t.Written n (head.Prim p) span args d) i j f (node, a, h, q, b, r, w) word first = let both : s.Word ≡ s.Keyword (word_of p) = sym first ∙ h.0 in cc
  no_type (t.Written n (head.Path ys) span args d) i j f (node, a, h, q, b, r, w) word first = by_front f.behind (arguments_on ys args d a b j r w word)
    where
      dot_behind : (sort_at ts a ≡ s.Word) ⊎ (sort_at ts a ≡ s.Infix op.Less) ⊎ ((sort_at ts a ≡ s.Mark m.LeftBracket) × (sort_at ts (a + 1) ≡ s.Mark m.RightBracket)) → sort_at ts a ≢ s.Mark m.Dot
      dot_behind (inl is) e = cc
      dot_behind (inr (inl is)) e = cc
      dot_behind (inr (inr is)) e = let here = is.0 in cc

      dot_front : (is_quiet (sort_at ts f.end) ≡ true) ⊎ Bars f.end → sort_at ts f.end ≢ s.Mark m.Dot
      dot_front (inl quiet) e = quiet_not f.end (s.Mark m.Dot) quiet refl e
      dot_front (inr (inl is)) e = cc
      dot_front (inr (inr is)) e = let here = is.0 in cc

      at_one : (is_quiet (sort_at ts a) ≡ true) ⊎ Bars a
          → (sort_at ts a ≡ s.Word) ⊎ (sort_at ts a ≡ s.Infix op.Less) ⊎ ((sort_at ts a ≡ s.Mark m.LeftBracket) × (sort_at ts (a + 1) ≡ s.Mark m.RightBracket)) → ⊥
      at_one (inl quiet) (inl is) = quiet_not a s.Word quiet refl is
      at_one (inl quiet) (inr (inl is)) = quiet_not a (s.Infix op.Less) quiet refl is
      at_one (inl quiet) (inr (inr is)) = quiet_not a (s.Mark m.LeftBracket) quiet refl is.0
      at_one (inr (inl here)) (inl is) = cc
      at_one (inr (inl here)) (inr (inl is)) = cc
      at_one (inr (inl here)) (inr (inr is)) = let there = is.0 in cc
      at_one (inr (inr here)) (inl is) = let there = here.0 in cc
      at_one (inr (inr here)) (inr (inl is)) = let there = here.0 in cc
      at_one (inr (inr here)) (inr (inr is)) = here.1 is.1

      by_front : (is_quiet (sort_at ts f.end) ≡ true) ⊎ Bars f.end
          → (sort_at ts a ≡ s.Word) ⊎ (sort_at ts a ≡ s.Infix op.Less) ⊎ ((sort_at ts a ≡ s.Mark m.LeftBracket) × (sort_at ts (a + 1) ≡ s.Mark m.RightBracket)) → ⊥
      by_front behind there =
          let one = path_end_one f.names ys i f.end a f.path h (dot_front behind) (dot_behind there) in
          at_one (subst (λ b. (is_quiet (sort_at ts b) ≡ true) ⊎ Bars b) one behind) there

  -- an expression that is a statement begins as no declaration does
  pub statement_no_type : (e : Expr) (i a : ℕ) (ty : TypeExpr) (j : ℕ) → IsStatement e → Spells text ts 14 e i a → EndsAt text ts (sort_at ts a) → SpellsType text ts ty i j
      → sort_at ts j ≡ s.Word → ⊥
  statement_no_type e i a (t.Written n (head.Prim p) span args d) j stmt spelled ends (node, b, h, q, c, r, w) word = by_primitive p h.0
    where
      by_primitive : (p : Primitive) → sort_at ts i ≡ s.Keyword (word_of p) → ⊥
      by_primitive prim.Int is = no_begin text ts 14 e i a (s.Keyword kw.Int) (omega arith) spelled is refl
      by_primitive prim.Long is = no_begin text ts 14 e i a (s.Keyword kw.Long) (omega arith) spelled is refl
      by_primitive prim.Char is = no_begin text ts 14 e i a (s.Keyword kw.Char) (omega arith) spelled is refl
      by_primitive prim.Boolean is = no_begin text ts 14 e i a (s.Keyword kw.Boolean) (omega arith) spelled is refl
  statement_no_type e i a (t.Written n (head.Path []) span args d) j stmt spelled ends (node, b, h, q, c, r, w) word = h
  statement_no_type e i a (t.Written n (head.Path (x ∷ [])) span args d) j stmt spelled ends (node, b, h, q, c, r, w) word =
      let id = h.0 in
      no_type (t.Written n (head.Path (x ∷ [])) span args d) i j (statement_front e i a stmt spelled ends id.0) (node, b, h, q, c, r, w) word id.0
  statement_no_type e i a (t.Written n (head.Path (x ∷ y ∷ xs)) span args d) j stmt spelled ends (node, b, h, q, c, r, w) word =
      let id = h.0 in
      no_type (t.Written n (head.Path (x ∷ y ∷ xs)) span args d) i j (statement_front e i a stmt spelled ends id.0) (node, b, h, q, c, r, w) word id.0

  -- ---- no call of `this` or `super`

  no_self : {Z : Type 0} (i : ℕ) (x : Sort) → is_self (sort_at ts i) ≡ true → sort_at ts i ≡ x → is_self x ≡ false → Z
  no_self i x self is other = let so : is_self x ≡ true = rw (← is) self in absurd (cc)

  -- behind the first token stands no `(`
  self_next : (e : Expr) (i j : ℕ) → is_self (sort_at ts i) ≡ true → Spells text ts 0 e i j → (j ≡ i + 1) ⊎ (sort_at ts (i + 1) ≢ s.Mark m.Open)
  self_next (t.Number n v d l) i j self (node, is, v1, v2, next) = no_self i (s.Number l) self is refl
  self_next (t.Char n c) i j self (node, is, v, next) = no_self i s.Char self is refl
  self_next (t.Text n us) i j self (node, is, v, next) = no_self i s.Text self is refl
  self_next (t.Truth n true) i j self (node, is, next) = no_self i (s.Keyword kw.True) self is refl
  self_next (t.Truth n false) i j self (node, is, next) = no_self i (s.Keyword kw.False) self is refl
  self_next (t.Null n) i j self (node, is, next) = no_self i (s.Keyword kw.Null) self is refl
  self_next (t.This n) i j self (node, is, next) = inl next
  self_next (t.Name n x) i j self (node, id, next) = no_self i s.Word self id.0 refl
  self_next (t.Field n e x) i j self (node, a, p, dot, id, next) = self_dot a (self_next e i a self p) dot
    where
      self_dot : (a : ℕ) → (a ≡ i + 1) ⊎ (sort_at ts (i + 1) ≢ s.Mark m.Open) → sort_at ts a ≡ s.Mark m.Dot → (j ≡ i + 1) ⊎ (sort_at ts (i + 1) ≢ s.Mark m.Open)
      self_dot a (inl same) dot = inr (λ e. let both : s.Mark m.Dot ≡ s.Mark m.Open = sym (rw same at dot) ∙ e in cc)
      self_dot a (inr other) dot = inr other
  self_next (t.SuperField n x) i j self (node, is, dot, id, next) = inr (λ e. cc)
  self_next (t.Index n e x) i j self (node, none, a, p, open_is, b, q, close_is, next) = self_index a (self_next e i a self p) open_is
    where
      self_index : (a : ℕ) → (a ≡ i + 1) ⊎ (sort_at ts (i + 1) ≢ s.Mark m.Open) → sort_at ts a ≡ s.Mark m.LeftBracket → (j ≡ i + 1) ⊎ (sort_at ts (i + 1) ≢ s.Mark m.Open)
      self_index a (inl same) dot = inr (λ e. let both : s.Mark m.LeftBracket ≡ s.Mark m.Open = sym (rw same at dot) ∙ e in cc)
      self_index a (inr other) dot = inr other
  self_next (t.Call n t.NoExpr x es) i j self (node, id, open_is, args) = no_self i s.Word self id.0 refl
  self_next (t.Call n (t.AnExpr e) x es) i j self (node, a, p, dot, id, open_is, args) = self_call a (self_next e i a self p) dot
    where
      self_call : (a : ℕ) → (a ≡ i + 1) ⊎ (sort_at ts (i + 1) ≢ s.Mark m.Open) → sort_at ts a ≡ s.Mark m.Dot → (j ≡ i + 1) ⊎ (sort_at ts (i + 1) ≢ s.Mark m.Open)
      self_call a (inl same) dot = inr (λ e. let both : s.Mark m.Dot ≡ s.Mark m.Open = sym (rw same at dot) ∙ e in cc)
      self_call a (inr other) dot = inr other
  self_next (t.SuperMethod n x es) i j self (node, is, dot, id, open_is, args) = inr (λ e. cc)
  self_next (t.New n ty es) i j self (node, is, names, a, p, open_is, args) = no_self i (s.Keyword kw.New) self is refl
  self_next (t.NewArray n ty es d) i j self (node, is, plain_is, a, p, some, b, q, r) = no_self i (s.Keyword kw.New) self is refl
  self_next (t.NewFilled n ty e) i j self (node, is, plain_is, items, a, p, q) = no_self i (s.Keyword kw.New) self is refl
  self_next (t.Items n es) i j self (node, level, is, r) = absurd (omega arith)
  self_next (t.Paren n e) i j self (node, is, a, p, close_is, next) = no_self i (s.Mark m.Open) self is refl
  self_next (t.Unary n x e) i j self (node, level, is, p) = absurd (omega arith)
  self_next (t.Step n up true e) i j self (node, level, is, v, p) = absurd (omega arith)
  self_next (t.Step n up false e) i j self (node, level, v, a, p, is, next) = absurd (omega arith)
  self_next (t.Cast n ty c e) i j self (node, level, is, a, p, close_is, at, may, q) = absurd (omega arith)
  self_next (t.Binary n x e f) i j self (node, level, a, p, b, is, q) = absurd (tight x level)
    where
      tight : (x : BinOp) → level_of x ≤ 0 → ⊥
      tight op.LogicOr h = omega arith
      tight _ h = omega arith
  self_next (t.InstanceOf n e ty) i j self (node, level, a, p, is, none, q) = absurd (omega arith)
  self_next (t.Cond n e f g) i j self (node, level, a, p, is, b, q, colon, r) = absurd (omega arith)
  self_next (t.Assign n x e f) i j self (node, level, v, a, p, b, is, q) = absurd (omega arith)

  quiet_next : (i a : ℕ) → (a ≡ i + 1) ⊎ (sort_at ts (i + 1) ≢ s.Mark m.Open) → is_quiet (sort_at ts a) ≡ true → sort_at ts (i + 1) ≢ s.Mark m.Open
  quiet_next i a (inl same) quiet = quiet_not (i + 1) (s.Mark m.Open) (rw same at quiet) refl
  quiet_next i a (inr other) quiet = other

  -- an expression that is a statement begins as no call of `this` or `super` does
  pub statement_no_call : (e : Expr) (i a : ℕ) → IsStatement e → Spells text ts 14 e i a → EndsAt text ts (sort_at ts a) → is_self (sort_at ts i) ≡ true
      → sort_at ts (i + 1) ≢ s.Mark m.Open
  statement_no_call (t.Assign n x e f) i j stmt (node, level, v, a, p, b, is, q) ends self =
      quiet_next i a (self_next e i a self (variable_tight e i a v p)) (assign_quiet x a b is)
  statement_no_call (t.Step n up true e) i j stmt (node, level, is, v, p) ends self = no_self i (s.Step up) self is refl
  statement_no_call (t.Step n up false e) i j stmt (node, level, v, a, p, is, next) ends self = quiet_next i a (self_next e i a self p) (rw is refl)
  statement_no_call (t.Call n t.NoExpr x es) i j stmt p ends self = quiet_next i j (self_next (t.Call n t.NoExpr x es) i j self p) (ends_quiet (sort_at ts j) ends)
  statement_no_call (t.Call n (t.AnExpr e) x es) i j stmt p ends self = quiet_next i j (self_next (t.Call n (t.AnExpr e) x es) i j self p) (ends_quiet (sort_at ts j) ends)
  statement_no_call (t.SuperMethod n x es) i j stmt (node, is, dot, id, open_is, args) ends self = λ e. cc
  statement_no_call (t.New n ty es) i j stmt p ends self = no_self i (s.Keyword kw.New) self p.1 refl
  statement_no_call _ i j stmt p ends self = absurd stmt
