-- What is in the grammar is read.
use Rattle.std.proofs.Common.{◌≡◌, ◌≢◌, ◌⊎◌, inl, inr, ℕ, zero, suc, ◌+◌, ◌-◌, ◌<◌, ◌≤◌, Bool, true, false, if◌then◌else◌, ◌&&◌, List, [], ◌∷◌, ◌++◌, length, Option, Some, None, refl, sym, ap, subst, ◌∙◌, arith, append_assoc, append-nil}
use Rattle.std.proofs.lemmas.Bool.Decides.{nat_tests}
use Rattle.java_tree.specs.declared.tree.Node.{Node}
use Rattle.java_tree.specs.declared.tree.Name.{Name}
use Rattle.java_tree.specs.declared.tree.Head.TheVariants as head
use Rattle.java_tree.specs.declared.tree.Mod.{Mod}
use Rattle.java_tree.specs.declared.tree.Mod.TheVariants as mods
use Rattle.java_tree.specs.declared.tree.Import.{Import}
use Rattle.java_tree.specs.declared.tree.BinOp.TheVariants as op
use Rattle.java_tree.specs.Plain as t
use Rattle.java_tree.specs.Plain.{TypeExpr, TypeExprs, Expr, Var, Param, Stmt, MaybeStmt, Stmts, Groups, Catches, FieldDecl, MethodDecl, Member, TypeDecl, SourceUnit}
use Rattle.java_grammar.specs.declared.token.Tok.{Tok}
use Rattle.java_grammar.specs.declared.token.Sort.{Sort}
use Rattle.java_grammar.specs.declared.token.Sort.TheVariants as s
use Rattle.java_grammar.specs.declared.token.Keyword.{Keyword}
use Rattle.java_grammar.specs.declared.token.Keyword.TheVariants as kw
use Rattle.java_grammar.specs.declared.token.Mark.{Mark}
use Rattle.java_grammar.specs.declared.token.Mark.TheVariants as m
use Rattle.java_grammar.specs.Reads.{sort_at, name_at, to_at}
use Rattle.java_grammar.specs.Heights.{type_depth, param_depth, stmt_depth}
use Rattle.java_grammar.specs.Expressions.{IsId, node_of, AreBrackets, IsPath, IsHead, SpellsType, AreArguments, EndsAt}
use Rattle.java_grammar.specs.Expressions as terms
use Rattle.java_grammar.specs.Statements.{IsFinal, IsInit, IsVar, AreVars, IsParam, SpellsStmt}
use Rattle.java_grammar.proofs.Extents.{type_rises, expr_rises, stmt_rises, path_rises, vars_span}
use Rattle.unit_grammar.specs.Calls.{CallsNone, MaybeCallsNone, AllCallNone, GroupsCallNone, CatchesCallNone, IsConstructorCall, CallsInPlace}
use Rattle.unit_grammar.specs.Declarations.{word_of, AreMods, AreIds, AreTypeParams, IsRef, AreRefs, AreBehind, AreMoreParams, AreParams, IsResult, IsBody, IsField, IsMethod, IsMember, AreSemicolons, AreMembers, AreAbove, IsDecl, AreDecls, IsPackage, IsAll, IsImport, AreImports, SpellsUnit}
use Rattle.unit_grammar.specs.Depths.{below_list, below_result, below_params, below_body, field_depth, method_depth, member_depth, below_members, decl_depth, below_decls, unit_depth}
use Rattle.java_parse_term.specs.Marks.{is_keyword, is_word}
use Rattle.java_parse_term.specs.Types.{id_at, pair_end}
use Rattle.java_parse_term.proofs.TokLemmas.{nothing_past}
use Rattle.java_parse_term.proofs.Steps.{not_true, no_and, is_mark_has, is_mark_not, is_keyword_has, is_keyword_not, is_infix_has, is_word_says, is_word_has, after_mark_has, after_mark_not, after_keyword_has, after_keyword_not, after_infix_has, after_infix_not, after_word_has}
use Rattle.java_parse_term.proofs.TypesSound.{names_class_has}
use Rattle.java_parse_term.proofs.TypesComplete.{within, Closed, closed_at, brackets_from, name_is, type_again}
use Rattle.java_parse_expr.specs.Parse.{many, type_under, vars, param, after_final, under}
use Rattle.java_parse_expr.proofs.Begins.{type_begin, type_begins, block_begins}
use Rattle.java_parse_expr.proofs.Lists.{Rest, Run, got, list_again, many_again}
use Rattle.java_parse_expr.proofs.Complete.{final_again, no_pair, vars_again, vars_word, under_again}
use Rattle.java_parse_expr.proofs.Answered.{types_again, scans, scanned, exprs_again}
use Rattle.java_parse_decl.proofs.Sound.{AreSeparated, Spaced}
use Rattle.java_parse_decl.specs.Parse.{mod_of, calls_none, maybe_calls_none, all_call_none, groups_call_none, catches_call_none, may_be_first, calls_in_place, mods_at, mods_from, past, past_from, separated, ids, ids_from, type_params, class_under, classes, behind, params, block, body, method, field, is_called, typed, member_behind, member, members_end, next_member, members, members_in, kind, parent, extends, implements, decl_behind, decl, decls_end, next_decl, decls, all_at, one_import, imports_end, imports, package_name, unit}

-- ---- calls of this(..) and super(..)

both : (a b : Bool) → a ≡ true → b ≡ true → (a && b) ≡ true
both a b p q = rw (p, q) refl

mutual
  none_has : (x : Stmt) → CallsNone x → calls_none x ≡ true
  none_has (t.Block n xs) h = all_have xs h
  none_has (t.If n e x y) h = both _ _ (none_has x h.0) (maybe_has y h.1)
  none_has (t.While n e x) h = none_has x h
  none_has (t.Do n x e) h = none_has x h
  none_has (t.For n xs e es x) h = both _ _ (all_have xs h.0) (none_has x h.1)
  none_has (t.ForEach n f ty v e x) h = none_has x h
  none_has (t.Switch n e gs) h = groups_have gs h
  none_has (t.Try n x cs last) (p, q, r) = both _ _ (none_has x p) (both _ _ (catches_have cs q) (maybe_has last r))
  none_has (t.ThisCall n es) h = absurd h
  none_has (t.SuperCall n es) h = absurd h
  none_has (t.Local n f ty vs) h = refl
  none_has (t.Empty n) h = refl
  none_has (t.Value n e) h = refl
  none_has (t.Break n) h = refl
  none_has (t.Continue n) h = refl
  none_has (t.Return n e) h = refl
  none_has (t.Throw n e) h = refl

  maybe_has : (x : MaybeStmt) → MaybeCallsNone x → maybe_calls_none x ≡ true
  maybe_has t.NoStmt h = refl
  maybe_has (t.AStmt x) h = none_has x h

  all_have : (xs : Stmts) → AllCallNone xs → all_call_none xs ≡ true
  all_have t.Last h = refl
  all_have (t.Then x xs) h = both _ _ (none_has x h.0) (all_have xs h.1)

  groups_have : (gs : Groups) → GroupsCallNone gs → groups_call_none gs ≡ true
  groups_have t.NoGroup h = refl
  groups_have (t.AndGroup (t.Labelled n ls xs) gs) h = both _ _ (all_have xs h.0) (groups_have gs h.1)

  catches_have : (cs : Catches) → CatchesCallNone cs → catches_call_none cs ≡ true
  catches_have t.NoCatch h = refl
  catches_have (t.AndCatch (t.Caught n k x) cs) h = both _ _ (none_has x h.0) (catches_have cs h.1)

first_has : (x : Stmt) → IsConstructorCall x ⊎ CallsNone x → may_be_first x ≡ true
first_has (t.ThisCall n es) h = refl
first_has (t.SuperCall n es) h = refl
first_has x (inl h) = absurd h
first_has x (inr h) = none_has x h

place_has : (constructor : Bool) (x : Stmt) → CallsInPlace constructor x → calls_in_place constructor x ≡ true
place_has true (t.Block n t.Last) h = refl
place_has true (t.Block n (t.Then x xs)) h = both _ _ (first_has x h.0) (all_have xs h.1)
place_has true x h = none_has x h
place_has false x h = none_has x h

-- ---- tokens

mod_has : (w : Mod) → mod_of (s.Keyword (word_of w)) ≡ Some w
mod_has mods.Public = refl
mod_has mods.Protected = refl
mod_has mods.Private = refl
mod_has mods.Static = refl
mod_has mods.Abstract = refl
mod_has mods.Final = refl

type_no_mod : (x : Sort) → type_begin x ≡ true → mod_of x ≡ None
type_no_mod s.Word e = refl
type_no_mod (s.Keyword kw.Int) e = refl
type_no_mod (s.Keyword kw.Long) e = refl
type_no_mod (s.Keyword kw.Char) e = refl
type_no_mod (s.Keyword kw.Boolean) e = refl
type_no_mod _ e = absurd (cc)

-- a mark, as which no member and no type begins
abbrev is_mark_sort : Sort → Bool
is_mark_sort (s.Mark x) = true
is_mark_sort _ = false

type_no_mark : (x : Sort) → type_begin x ≡ true → is_mark_sort x ≡ false
type_no_mark s.Word e = refl
type_no_mark (s.Keyword k) e = refl
type_no_mark _ e = absurd (cc)

-- no import and no package
abbrev is_late : Sort → Bool
is_late (s.Keyword kw.Import) = false
is_late (s.Keyword kw.Package) = false
is_late _ = true

mod_late : (w : Mod) → is_late (s.Keyword (word_of w)) ≡ true
mod_late mods.Public = refl
mod_late mods.Protected = refl
mod_late mods.Private = refl
mod_late mods.Static = refl
mod_late mods.Abstract = refl
mod_late mods.Final = refl

module _ (text : List ℕ) (ts : List Tok) where
  differ : {Z : Type 0} (i : ℕ) (x y : Sort) → sort_at ts i ≡ x → sort_at ts i ≡ y → (x ≢ y) → Z
  differ i x y a b other = absurd (other (sym a ∙ b))

  word_not : (i : ℕ) → sort_at ts i ≢ s.Word → is_word ts i ≡ false
  word_not i other = not_true _ (λ e. other (is_word_says ts i e))

  no_mark_at : (i : ℕ) (x : Mark) → is_mark_sort (sort_at ts i) ≡ false → sort_at ts i ≢ s.Mark x
  no_mark_at i x e is = let so : true ≡ false = subst (λ y. is_mark_sort y ≡ false) is e in cc

  late_not : (i : ℕ) (k : Keyword) → is_late (sort_at ts i) ≡ true → is_late (s.Keyword k) ≡ false → sort_at ts i ≢ s.Keyword k
  late_not i k e other is = let so : is_late (s.Keyword k) ≡ true = subst (λ y. is_late y ≡ true) is e in cc

  -- ---- words

  mods_again : (n : ℕ) (before xs : List Mod) (i j : ℕ) → AreMods text ts xs i j → mod_of (sort_at ts j) ≡ None → length ts ≤ n + i → mods_at text ts n before i ≡ record { tree = before ++ xs; next = j }
  unfolding mods_at
  mods_again zero before [] i j h none turns = rw (h, append-nil before) refl
  mods_again zero before (x ∷ xs) i j (is, h) none turns = absurd (let here = within ts i (s.Keyword (word_of x)) is (λ e. cc) in omega (arith, here))
  mods_again (suc n) before [] i j h none turns = let here : mod_of (sort_at ts i) ≡ None = rw (← h) none in rw (here, h, append-nil before) refl
  mods_again (suc n) before (x ∷ xs) i j (is, h) none turns =
      let here : mod_of (sort_at ts i) ≡ Some x = rw is (mod_has x) in
      rw here (mods_again n (before ++ x ∷ []) xs (i + 1) j h none (omega arith) ∙ ap (λ (zs : List Mod). record { tree = zs; next = j }) (append_assoc before (x ∷ []) xs))

  mods_is : (xs : List Mod) (i j : ℕ) → AreMods text ts xs i j → mod_of (sort_at ts j) ≡ None → mods_from text ts i ≡ record { tree = xs; next = j }
  mods_is xs i j h none = mods_again (length ts) [] xs i j h none (omega arith)

  mods_on : (xs : List Mod) (i j : ℕ) → AreMods text ts xs i j → i ≤ j
  mods_on [] i j h = omega arith
  mods_on (x ∷ xs) i j (is, h) = omega (arith, mods_on xs (i + 1) j h)

  past_again : (n k i j : ℕ) → AreSemicolons text ts k i j → sort_at ts j ≢ s.Mark m.Semicolon → length ts ≤ n + i → past text ts n i ≡ j
  unfolding past
  past_again zero zero i j h other turns = sym h
  past_again zero (suc k) i j (is, h) other turns = absurd (let here = within ts i (s.Mark m.Semicolon) is (λ e. cc) in omega (arith, here))
  past_again (suc n) zero i j h other turns = rw (after_mark_not ts m.Semicolon i (λ e. other (rw h e))) (sym h)
  past_again (suc n) (suc k) i j (is, h) other turns = rw (after_mark_has ts m.Semicolon i is) (past_again n k (i + 1) j h other (omega arith))

  past_to : (k i j : ℕ) → AreSemicolons text ts k i j → sort_at ts j ≢ s.Mark m.Semicolon → past_from text ts i ≡ j
  past_to k i j h other = past_again (length ts) k i j h other (omega arith)

  semicolons_on : (k i j : ℕ) → AreSemicolons text ts k i j → i ≤ j
  semicolons_on zero i j h = omega arith
  semicolons_on (suc k) i j (is, h) = omega (arith, semicolons_on k (i + 1) j h)

  separated_has : (x : Mark) (i : ℕ) → sort_at ts i ≡ s.Mark x → sort_at ts (i + 1) ≡ s.Word → separated text ts x i ≡ Some (i + 1)
  unfolding separated
  separated_has x i mark word = rw (after_mark_has ts x i mark, is_word_has ts (i + 1) word) refl

  separated_not : (x : Mark) (i : ℕ) → sort_at ts i ≢ s.Mark x → separated text ts x i ≡ None
  unfolding separated
  separated_not x i other = rw (after_mark_not ts x i other) refl

  separated_end : (x : Mark) (i : ℕ) → sort_at ts i ≡ s.Mark x → sort_at ts (i + 1) ≢ s.Word → separated text ts x i ≡ None
  unfolding separated
  separated_end x i mark other = rw (after_mark_has ts x i mark, word_not (i + 1) other) refl

  separated_word : (x : Mark) (ys : List Name) (i j : ℕ) → AreSeparated text ts x ys i j → sort_at ts i ≡ s.Word
  separated_word x [] i j h = absurd h
  separated_word x (y ∷ []) i j (id, h) = id.0
  separated_word x (y ∷ z ∷ zs) i j (id, mark, h) = id.0

  ids_again : (x : Mark) (n : ℕ) (before ys : List Name) (i j : ℕ) → AreSeparated text ts x ys i j → separated text ts x j ≡ None → length ts ≤ n + i → ids text ts x n before i ≡ got (before ++ ys) j
  unfolding ids
  ids_again x zero before ys i j h none turns = absurd (let here = within ts i s.Word (separated_word x ys i j h) (λ e. cc) in omega (arith, here))
  ids_again x (suc n) before [] i j h none turns = absurd h
  ids_again x (suc n) before (y ∷ []) i j ((is, name), next) none turns =
      let here : separated text ts x (i + 1) ≡ None = rw (← next) none in
      rw (after_word_has ts i is, here, next, name_is y (name_at ts i) name) refl
  ids_again x (suc n) before (y ∷ z ∷ zs) i j ((is, name), mark, h) none turns =
      let two : i + 1 + 1 ≡ i + 2 = omega arith in
      let second = separated_word x (z ∷ zs) (i + 2) j h in
      let first : ids text ts x n (before ++ id_at ts i ∷ []) (i + 1 + 1) ≡ ids text ts x n (before ++ y ∷ []) (i + 2) = rw (two, name_is y (name_at ts i) name) refl in
      rw (after_word_has ts i is, separated_has x (i + 1) mark (rw two second))
      (first ∙ ids_again x n (before ++ y ∷ []) (z ∷ zs) (i + 2) j h none (omega arith) ∙ ap (λ zs. got zs j) (append_assoc before (y ∷ []) (z ∷ zs)))

  ids_is : (x : Mark) (ys : List Name) (i j : ℕ) → AreSeparated text ts x ys i j → separated text ts x j ≡ None → ids_from text ts x i ≡ got ys j
  ids_is x ys i j h none = ids_again x (length ts) [] ys i j h none (omega arith)

  commas : (xs : List Name) (i j : ℕ) → AreIds text ts xs i j → AreSeparated text ts m.Comma xs i j
  commas [] i j h = h
  commas (x ∷ []) i j h = h
  commas (x ∷ y ∷ ys) i j (id, mark, h) = (id, mark, commas (y ∷ ys) (i + 2) j h)

  dots : (xs : List Name) (i j : ℕ) → IsPath text ts xs i j → AreSeparated text ts m.Dot xs i j
  dots [] i j h = h
  dots (x ∷ []) i j h = h
  dots (x ∷ y ∷ ys) i j (id, mark, h) = (id, mark, dots (y ∷ ys) (i + 2) j h)

  type_params_again : (xs : List Name) (i j : ℕ) → AreTypeParams text ts xs i j → sort_at ts j ≢ s.Infix op.Less → type_params text ts i ≡ got xs j
  unfolding type_params
  type_params_again [] i j h other = rw (after_infix_not ts op.Less i (λ e. other (rw h e)), h) refl
  type_params_again (x ∷ xs) i j (less, a, h, greater, next) other =
      rw (
        after_infix_has ts op.Less i less,
        ids_is m.Comma (x ∷ xs) (i + 1) a (commas (x ∷ xs) (i + 1) a h) (separated_not m.Comma a (λ is. differ a (s.Infix op.Greater) (s.Mark m.Comma) greater is (λ e. cc))),
        after_infix_has ts op.Greater a greater,
        next,
      ) refl

  ids_on : (xs : List Name) (i j : ℕ) → AreIds text ts xs i j → i ≤ j
  ids_on [] i j h = absurd h
  ids_on (x ∷ []) i j (id, next) = omega arith
  ids_on (x ∷ y ∷ ys) i j (id, mark, h) = omega (arith, ids_on (y ∷ ys) (i + 2) j h)

  type_params_on : (xs : List Name) (i j : ℕ) → AreTypeParams text ts xs i j → i ≤ j
  type_params_on [] i j h = omega arith
  type_params_on (x ∷ xs) i j (less, a, h, greater, next) = omega (arith, ids_on (x ∷ xs) (i + 1) a h)

  -- ---- types that name classes

  -- such types end before j
  record Stops (j : ℕ) : Type 0 where
    closed : Closed ts j
    no_comma : sort_at ts j ≢ s.Mark m.Comma
    inside : j ≤ length ts

  stops_at : (j : ℕ) (x : Sort) → sort_at ts j ≡ x → x ≢ s.Mark m.Dot → x ≢ s.Infix op.Less → x ≢ s.Mark m.LeftBracket → x ≢ s.Mark m.Comma → x ≢ s.End → Stops j
  stops_at j x is a b c d e = let here = within ts j x is e in record { closed = closed_at ts j x is a b c; no_comma = λ f. differ j x (s.Mark m.Comma) is f d; inside = omega (arith, here) }

  types_closed : (d : ℕ) (x : TypeExpr) (i j : ℕ) → SpellsType text ts x i j → type_depth x < d → Closed ts j → type_under text ts d i ≡ got x j
  unfolding type_under
  types_closed d x i j p low closed = rw (type_again text ts d x i j low p closed) refl

  IsClass : ℕ → TypeExpr → ℕ → ℕ → Type 0
  IsClass d x i j = IsRef text ts x i j × (type_depth x < d) × Closed ts j

  class_again : (d : ℕ) (x : TypeExpr) (i j : ℕ) → IsClass d x i j → class_under text ts d i ≡ got x j
  unfolding class_under IsClass
  class_again d x i j ((names, p), low, closed) = rw (types_closed d x i j p low closed, names_class_has x names) refl

  refs_rest : (d : ℕ) (x : TypeExpr) (xs : List TypeExpr) (i j : ℕ) → AreRefs text ts (x ∷ xs) i j → below_list (x ∷ xs) ≤ d → Stops j
      → (a : ℕ) × IsClass d x i a × Rest text ts (IsClass d) xs a j
  unfolding IsClass
  refs_rest d x [] i j p low stops = (j, (p, omega arith, stops.closed), refl)
  refs_rest d x (y ∷ ys) i j (a, p, comma, r) low stops =
      let v = refs_rest d y ys (a + 1) j r (omega arith) stops in
      (a, (p, omega arith, closed_at ts a (s.Mark m.Comma) comma (λ e. cc) (λ e. cc) (λ e. cc)), (comma, v.0, v.1, v.2))

  classes_again : (d : ℕ) (x : TypeExpr) (xs : List TypeExpr) (i j : ℕ) → AreRefs text ts (x ∷ xs) i j → below_list (x ∷ xs) ≤ d → Stops j → classes text ts d i ≡ got (x ∷ xs) j
  unfolding classes IsClass
  classes_again d x xs i j p low stops =
      let v = refs_rest d x xs i j p low stops in
      list_again text ts (IsClass d) (class_under text ts d) (class_again d) (λ x i j p. let q = p.0 in type_rises text ts x i j q.1) x xs i v.0 j v.1 v.2 stops.no_comma stops.inside

  behind_again : (w : Keyword) (d : ℕ) (xs : List TypeExpr) (i j : ℕ) → AreBehind text ts w xs i j → below_list xs ≤ d → Stops j → sort_at ts j ≢ s.Keyword w → behind text ts w d i ≡ got xs j
  unfolding behind
  behind_again w d [] i j h low stops other = rw (after_keyword_not ts w i (λ e. other (rw h e)), h) refl
  behind_again w d (x ∷ xs) i j (is, h) low stops other = rw (after_keyword_has ts w i is) (classes_again d x xs (i + 1) j h low stops)

  refs_on : (xs : List TypeExpr) (i j : ℕ) → AreRefs text ts xs i j → i < j
  refs_on [] i j h = absurd h
  refs_on (x ∷ []) i j h = type_rises text ts x i j h.1
  refs_on (x ∷ y ∷ ys) i j (a, p, comma, r) = omega (arith, type_rises text ts x i a p.1, refs_on (y ∷ ys) (a + 1) j r)

  behind_on : (w : Keyword) (xs : List TypeExpr) (i j : ℕ) → AreBehind text ts w xs i j → i ≤ j
  behind_on w [] i j h = omega arith
  behind_on w (x ∷ xs) i j (is, h) = omega (arith, refs_on (x ∷ xs) (i + 1) j h)

  -- ---- parameters and bodies

  final_is : (f : Bool) (i a : ℕ) → IsFinal text ts f i a → type_begin (sort_at ts a) ≡ true → (is_keyword ts kw.Final i ≡ f) × (after_final text ts i ≡ a)
  final_is f i a h ty = final_again text ts (types_again text ts) (scans text ts) (scanned text ts) (exprs_again text ts) (type_rises text ts) (expr_rises text ts) f i a h ty

  no_pair_at : (j : ℕ) → EndsAt text ts (sort_at ts j) → pair_end ts j ≡ None
  no_pair_at j ends = no_pair text ts (types_again text ts) (scans text ts) (scanned text ts) (exprs_again text ts) (type_rises text ts) (expr_rises text ts) j (inr ends)

  same_param : (x : Param) (n : Node) (y : Name) → x.node ≡ n → x.name ≡ y → record { node = n; is_final = x.is_final; ty = x.ty; name = y; dims = x.dims } ≡ x
  same_param x n y a b = rw (← a, ← b) refl

  IsParamBelow : ℕ → Param → ℕ → ℕ → Type 0
  IsParamBelow d x i j = IsParam text ts x i j × (param_depth x + 1 ≤ d) × EndsAt text ts (sort_at ts j)

  param_is : (d : ℕ) (x : Param) (i j : ℕ) → IsParamBelow d x i j → param text ts (d - 1) i ≡ got x j
  unfolding param IsParamBelow
  param_is d x i j (p, low, ends) =
      let fin = final_is x.is_final i p.begin p.final (type_begins text ts x.ty p.begin p.name_at p.type) in
      let dims = brackets_from text ts x.dims (p.name_at + 1) j p.brackets (no_pair_at j ends) in
      let name : x.name ≡ record { 0 = name_at ts p.name_at } = name_is x.name (name_at ts p.name_at) p.name.1 in
      rw (fin.1, types_again text ts (d - 1) x.ty p.begin p.name_at p.type (omega (arith, low)) p.name.0, after_word_has ts p.name_at p.name.0, dims, fin.0)
      (ap (λ (v : Param). got v j) (same_param x (node_of text ts i j) (record { 0 = name_at ts p.name_at }) p.node name))

  param_on : (x : Param) (i j : ℕ) → IsParam text ts x i j → i < j
  param_on x i j p = omega (arith, final_on x.is_final i p.begin p.final, type_rises text ts x.ty p.begin p.name_at p.type, terms_brackets x.dims (p.name_at + 1) j p.brackets)
    where
      final_on : (f : Bool) (i a : ℕ) → IsFinal text ts f i a → i ≤ a
      final_on true i a h = omega (arith, h.1)
      final_on false i a h = omega arith

      terms_brackets : (d i j : ℕ) → AreBrackets text ts d i j → i ≤ j
      terms_brackets zero i j h = omega arith
      terms_brackets (suc d) i j (a, b, h) = omega (arith, terms_brackets d (i + 2) j h)

  param_no_mark : (x : Param) (i j : ℕ) (k : Mark) → IsParam text ts x i j → sort_at ts i ≢ s.Mark k
  param_no_mark x i j k p = by_final x.is_final p.final
    where
      by_final : (f : Bool) → IsFinal text ts f i p.begin → sort_at ts i ≢ s.Mark k
      by_final true h = λ e. differ i (s.Keyword kw.Final) (s.Mark k) h.0 e (λ e. cc)
      by_final false h = let begins : type_begin (sort_at ts i) ≡ true = rw (← h) (type_begins text ts x.ty p.begin p.name_at p.type) in no_mark_at i k (type_no_mark (sort_at ts i) begins)

  params_end : (xs : List Param) (i j : ℕ) → AreMoreParams text ts xs i j → EndsAt text ts (sort_at ts i)
  params_end [] i j h = rw h.0 tt
  params_end (x ∷ xs) i j h = rw h.0 tt

  params_rest : (d : ℕ) (xs : List Param) (i j : ℕ) → AreMoreParams text ts xs i j → below_params xs ≤ d → (b : ℕ) × Rest text ts (IsParamBelow d) xs i b × (sort_at ts b ≡ s.Mark m.Close) × (j ≡ b + 1)
  unfolding IsParamBelow
  params_rest d [] i j p low = (i, refl, p.0, p.1)
  params_rest d (x ∷ xs) i j (comma, a, p, r) low =
      let v = params_rest d xs a j r (omega arith) in
      (v.0, (comma, a, (p, omega arith, params_end xs a j r), v.1), v.2, v.3)

  params_again : (d : ℕ) (xs : List Param) (i j : ℕ) → AreParams text ts xs i j → below_params xs ≤ d → params text ts (d - 1) i ≡ got xs j
  unfolding params IsParamBelow
  params_again d [] i j (close_is, next) low = rw (after_mark_has ts m.Close i close_is, next) refl
  params_again d (x ∷ xs) i j (a, p, r) low =
      let v = params_rest d xs a j r (omega arith) in
      from_rest a v.0 p (omega arith) (params_end xs a j r) v.1 v.2 v.3
    where
      from_rest : (a b : ℕ) → IsParam text ts x i a → param_depth x + 1 ≤ d → EndsAt text ts (sort_at ts a)
          → Rest text ts (λ x i j. IsParam text ts x i j × (param_depth x + 1 ≤ d) × EndsAt text ts (sort_at ts j)) xs a b → sort_at ts b ≡ s.Mark m.Close → j ≡ b + 1
          → params text ts (d - 1) i ≡ got (x ∷ xs) j
      from_rest a b p low ends r close_is next =
          let here = within ts b (s.Mark m.Close) close_is (λ e. cc) in
          let all = list_again text ts (IsParamBelow d) (param text ts (d - 1)) (param_is d) (λ x i j p. param_on x i j p.0) x xs i a b
          (p, low, ends) r (λ is. differ b (s.Mark m.Close) (s.Mark m.Comma) close_is is (λ e. cc)) (omega (arith, here)) in
          rw (after_mark_not ts m.Close i (param_no_mark x i a m.Close p), all, after_mark_has ts m.Close b close_is, next) refl

  stmt_is : (d : ℕ) (x : Stmt) (i j : ℕ) → SpellsStmt text ts false x i j → stmt_depth x < d → under text ts d false false i ≡ got x j
  stmt_is d x i j p low =
      under_again text ts (types_again text ts) (scans text ts) (scanned text ts) (exprs_again text ts) (type_rises text ts) (expr_rises text ts) d false false x i j p low

  body_again : (c : Bool) (d : ℕ) (x : Option Stmt) (i j : ℕ) → IsBody text ts c x i j → below_body x ≤ d → body text ts c d i ≡ got x j
  unfolding body block
  body_again true d None i j (other, semi, next) low = absurd (cc)
  body_again false d None i j (other, semi, next) low = rw (after_mark_has ts m.Semicolon i semi, next) refl
  body_again c d (Some x) i j (is, place, p) low =
      let brace = block_begins text ts x i j p is in
      rw (after_mark_not ts m.Semicolon i (λ e. differ i (s.Mark m.LeftBrace) (s.Mark m.Semicolon) brace e (λ e. cc)), is_mark_has ts m.LeftBrace i brace, stmt_is d x i j p (omega arith), place_has c x place) refl

  body_stops : (c : Bool) (x : Option Stmt) (i j : ℕ) → IsBody text ts c x i j → Stops i
  body_stops c None i j (other, semi, next) = stops_at i (s.Mark m.Semicolon) semi (λ e. cc) (λ e. cc) (λ e. cc) (λ e. cc) (λ e. cc)
  body_stops c (Some x) i j (is, place, p) = stops_at i (s.Mark m.LeftBrace) (block_begins text ts x i j p is) (λ e. cc) (λ e. cc) (λ e. cc) (λ e. cc) (λ e. cc)

  body_no_word : (c : Bool) (x : Option Stmt) (i j : ℕ) (k : Keyword) → IsBody text ts c x i j → sort_at ts i ≢ s.Keyword k
  body_no_word c None i j k (other, semi, next) e = differ i (s.Mark m.Semicolon) (s.Keyword k) semi e (λ e. cc)
  body_no_word c (Some x) i j k (is, place, p) e = differ i (s.Mark m.LeftBrace) (s.Keyword k) (block_begins text ts x i j p is) e (λ e. cc)

  body_on : (c : Bool) (x : Option Stmt) (i j : ℕ) → IsBody text ts c x i j → i < j
  body_on c None i j (other, semi, next) = omega arith
  body_on c (Some x) i j (is, place, p) = stmt_rises text ts false x i j p

  -- ---- members

  called_has : (i : ℕ) → sort_at ts i ≡ s.Word → sort_at ts (i + 1) ≡ s.Mark m.Open → is_called text ts i ≡ true
  unfolding is_called
  called_has i word open_is = rw (is_word_has ts i word, is_mark_has ts m.Open (i + 1) open_is) refl

  called_not : (i : ℕ) → sort_at ts (i + 1) ≢ s.Mark m.Open → is_called text ts i ≡ false
  unfolding is_called
  called_not i other = no_and (is_word ts i) _ (is_mark_not ts m.Open (i + 1) other)

  no_word_called : (i : ℕ) → sort_at ts i ≢ s.Word → is_called text ts i ≡ false
  unfolding is_called
  no_word_called i other = rw (word_not i other) refl

  same_method : (x : MethodDecl) (n : Node) (y : Name) → x.node ≡ n → x.name ≡ y
      → record { node = n; mods = x.mods; result = x.result; constructor = x.constructor; name = y; params = x.params; throws = x.throws; body = x.body } ≡ x
  same_method x n y a b = rw (← a, ← b) refl

  method_again : (d : ℕ) (x : MethodDecl) (i j : ℕ) (p : IsMethod text ts x i j) → method_depth x ≤ d
      → method text ts d i x.mods x.constructor (record { tree = x.result; next = p.name_at }) ≡ got (t.AMethod x) j
  unfolding method
  method_again d x i j p low =
      let two : p.name_at + 1 + 1 ≡ p.name_at + 2 = omega arith in
      let name : x.name ≡ record { 0 = name_at ts p.name_at } = name_is x.name (name_at ts p.name_at) p.name.1 in
      rw (
        after_word_has ts p.name_at p.name.0,
        after_mark_has ts m.Open (p.name_at + 1) p.opens,
        two,
        params_again d x.params (p.name_at + 2) p.throws_at p.params (omega (arith, low)),
        behind_again kw.Throws d x.throws p.throws_at p.body_at p.throws (omega (arith, low)) (body_stops x.constructor x.body p.body_at j p.body) (body_no_word x.constructor x.body p.body_at j kw.Throws p.body),
        body_again x.constructor d x.body p.body_at j p.body (omega (arith, low)),
      )
      (ap (λ (y : MethodDecl). got (t.AMethod y) j) (same_method x (node_of text ts i j) (record { 0 = name_at ts p.name_at }) p.node name))

  method_with : (d : ℕ) (x : MethodDecl) (i j : ℕ) (p : IsMethod text ts x i j) → method_depth x ≤ d → (c : Bool) (r : Option TypeExpr) (a : ℕ) → x.constructor ≡ c → x.result ≡ r → p.name_at ≡ a
      → method text ts d i x.mods c (record { tree = r; next = a }) ≡ got (t.AMethod x) j
  method_with d x i j p low c r a ec er ea = rw (← ec, ← er, ← ea) (method_again d x i j p low)

  same_field : (x : FieldDecl) (n : Node) → x.node ≡ n → record { node = n; mods = x.mods; ty = x.ty; vars = x.vars } ≡ x
  same_field x n a = rw (← a) refl

  field_again : (d : ℕ) (x : FieldDecl) (i j : ℕ) (p : IsField text ts x i j) → field_depth x ≤ d → field text ts d i x.mods (record { tree = x.ty; next = p.vars_at }) ≡ got (t.AField x) j
  unfolding field
  field_again d x i j p low =
      let next = p.next in
      let all : vars text ts d p.vars_at ≡ got x.vars p.end =
      vars_again text ts (types_again text ts) (scans text ts) (scanned text ts) (exprs_again text ts) (type_rises text ts) (expr_rises text ts) d x.vars p.vars_at p.end p.vars (omega (arith, low)) p.semicolon in
      rw (all, after_mark_has ts m.Semicolon p.end p.semicolon, ← next) (ap (λ (y : FieldDecl). got (t.AField y) j) (same_field x (node_of text ts i j) p.node))

  -- no `(` stands behind the first name of a type with a name behind it
  type_no_call : (x : TypeExpr) (i j : ℕ) → SpellsType text ts x i j → sort_at ts j ≡ s.Word → is_called text ts i ≡ false
  type_no_call (t.Written n (head.Prim p) span args d) i j (node, a, h, q, b, r, w) word = no_word_called i (λ e. differ i (s.Keyword (terms.word_of p)) s.Word h.0 e (λ e. cc))
  type_no_call (t.Written n (head.Path []) span args d) i j (node, a, h, q, b, r, w) word = absurd h
  type_no_call (t.Written n (head.Path (y ∷ [])) span args d) i j (node, a, h, q, b, r, w) word = called_not i (λ e. by_arguments args d b j r w word (rw h.1 e))
    where
      by_brackets : (d b j : ℕ) → AreBrackets text ts d b j → sort_at ts j ≡ s.Word → sort_at ts b ≡ s.Mark m.Open → ⊥
      by_brackets zero b j h word e = differ b (s.Mark m.Open) s.Word e (rw (← h) word) (λ e. cc)
      by_brackets (suc d) b j h word e = differ b (s.Mark m.Open) (s.Mark m.LeftBracket) e h.0 (λ e. cc)

      by_arguments : (args : TypeExprs) (d b j : ℕ) → AreArguments text ts (head.Path (y ∷ [])) args a b → AreBrackets text ts d b j → sort_at ts j ≡ s.Word → sort_at ts a ≡ s.Mark m.Open → ⊥
      by_arguments t.NoTypes d b j r w word e = by_brackets d b j w word (rw r e)
      by_arguments (t.AndType x xs) d b j r w word e = differ a (s.Mark m.Open) (s.Infix op.Less) e r.0 (λ e. cc)
  type_no_call (t.Written n (head.Path (y ∷ z ∷ zs)) span args d) i j (node, a, h, q, b, r, w) word = called_not i (λ e. differ (i + 1) (s.Mark m.Open) (s.Mark m.Dot) e h.1 (λ e. cc))

  var_no_call : (x : Var) (i j : ℕ) → IsVar text ts x i j → sort_at ts j ≢ s.Mark m.Open → sort_at ts (i + 1) ≢ s.Mark m.Open
  var_no_call x i j p other e = by_brackets x.dims p.brackets
    where
      by_init : (v : Option Expr) → IsInit text ts v p.end j → sort_at ts p.end ≡ s.Mark m.Open → ⊥
      by_init None h is = other (rw h is)
      by_init (Some v) h is = differ p.end (s.Mark m.Open) (s.Assign None) is h.0 (λ e. cc)

      by_brackets : (d : ℕ) → AreBrackets text ts d (i + 1) p.end → ⊥
      by_brackets zero h = by_init x.init p.init (rw h e)
      by_brackets (suc d) h = differ (i + 1) (s.Mark m.Open) (s.Mark m.LeftBracket) e h.0 (λ e. cc)

  vars_no_call : (xs : List Var) (i j : ℕ) → AreVars text ts xs i j → sort_at ts j ≡ s.Mark m.Semicolon → sort_at ts (i + 1) ≢ s.Mark m.Open
  vars_no_call [] i j h semi = absurd h
  vars_no_call (x ∷ []) i j h semi = var_no_call x i j h (λ e. differ j (s.Mark m.Semicolon) (s.Mark m.Open) semi e (λ e. cc))
  vars_no_call (x ∷ y ∷ ys) i j (a, p, comma, r) semi = var_no_call x i a p (λ e. differ a (s.Mark m.Comma) (s.Mark m.Open) comma e (λ e. cc))

  no_void : (i : ℕ) → type_begin (sort_at ts i) ≡ true → sort_at ts i ≢ s.Keyword kw.Void
  no_void i e is = let so : false ≡ true = subst (λ x. type_begin x ≡ true) is e in cc

  -- a method or field behind its modifiers
  behind_mods : (d : ℕ) (x : MethodDecl) (i j : ℕ) (p : IsMethod text ts x i j) → method_depth x ≤ d → (c : Bool) (r : Option TypeExpr) → x.constructor ≡ c → x.result ≡ r
      → IsResult text ts c r p.result_at p.name_at → member_behind text ts d i (record { tree = x.mods; next = p.result_at }) ≡ got (t.AMethod x) j
  unfolding member_behind typed
  behind_mods d x i j p low true None ec er place =
      let opens : sort_at ts (p.result_at + 1) ≡ s.Mark m.Open = rw (← place) p.opens in
      let word : sort_at ts p.result_at ≡ s.Word = rw (← place) p.name.0 in
      rw (called_has p.result_at word opens) (method_with d x i j p low true None p.result_at ec er place)
  behind_mods d x i j p low true (Some ty) ec er place = absurd place
  behind_mods d x i j p low false None ec er (void, place) =
      rw (no_word_called p.result_at (λ e. differ p.result_at (s.Keyword kw.Void) s.Word void e (λ e. cc)), after_keyword_has ts kw.Void p.result_at void)
      (method_with d x i j p low false None (p.result_at + 1) ec er place)
  behind_mods d x i j p low false (Some ty) ec er spelled =
      let begins = type_begins text ts ty p.result_at p.name_at spelled in
      let depth : type_depth ty < d = (let same : below_result x.result ≡ type_depth ty + 1 = rw er refl in omega (arith, low, same)) in
      rw (
        type_no_call ty p.result_at p.name_at spelled p.name.0,
        after_keyword_not ts kw.Void p.result_at (no_void p.result_at begins),
        types_again text ts d ty p.result_at p.name_at spelled depth p.name.0,
        called_has p.name_at p.name.0 p.opens,
      )
      (method_with d x i j p low false (Some ty) p.name_at ec er refl)

  result_no_mod : (c : Bool) (r : Option TypeExpr) (a b : ℕ) → IsResult text ts c r a b → sort_at ts b ≡ s.Word → mod_of (sort_at ts a) ≡ None
  result_no_mod true None a b h word = let here : sort_at ts a ≡ s.Word = rw (← h) word in rw here refl
  result_no_mod true (Some ty) a b h word = absurd h
  result_no_mod false None a b h word = rw h.0 refl
  result_no_mod false (Some ty) a b h word = type_no_mod (sort_at ts a) (type_begins text ts ty a b h)

  IsMemberBelow : ℕ → Member → ℕ → ℕ → Type 0
  IsMemberBelow d x i j = IsMember text ts x i j × (member_depth x ≤ d)

  member_again : (d : ℕ) (x : Member) (i j : ℕ) → IsMemberBelow d x i j → member text ts d i ≡ got x j
  unfolding member IsMemberBelow member_behind typed
  member_again d (t.AMethod x) i j (p, low) =
      rw (mods_is x.mods i p.result_at p.mods (result_no_mod x.constructor x.result p.result_at p.name_at p.result p.name.0)) (behind_mods d x i j p low x.constructor x.result refl refl p.result)
  member_again d (t.AField x) i j (p, low) =
      let begins = type_begins text ts x.ty p.type_at p.vars_at p.type in
      let word = vars_word text ts (types_again text ts) (scans text ts) (scanned text ts) (exprs_again text ts) (type_rises text ts) (expr_rises text ts) x.vars p.vars_at p.end p.vars in
      rw (
        mods_is x.mods i p.type_at p.mods (type_no_mod (sort_at ts p.type_at) begins),
        type_no_call x.ty p.type_at p.vars_at p.type word,
        after_keyword_not ts kw.Void p.type_at (no_void p.type_at begins),
        types_again text ts d x.ty p.type_at p.vars_at p.type (omega (arith, low)) word,
        called_not p.vars_at (vars_no_call x.vars p.vars_at p.end p.vars p.semicolon),
      ) (field_again d x i j p low)

  mods_no_mark : (xs : List Mod) (i a : ℕ) → AreMods text ts xs i a → is_mark_sort (sort_at ts a) ≡ false → is_mark_sort (sort_at ts i) ≡ false
  mods_no_mark [] i a h other = rw (← h) other
  mods_no_mark (x ∷ xs) i a h other = rw h.0 refl

  result_no_mark : (c : Bool) (r : Option TypeExpr) (a b : ℕ) → IsResult text ts c r a b → sort_at ts b ≡ s.Word → is_mark_sort (sort_at ts a) ≡ false
  result_no_mark true None a b h word = let here : sort_at ts a ≡ s.Word = rw (← h) word in rw here refl
  result_no_mark true (Some ty) a b h word = absurd h
  result_no_mark false None a b h word = rw h.0 refl
  result_no_mark false (Some ty) a b h word = type_no_mark (sort_at ts a) (type_begins text ts ty a b h)

  member_no_mark : (x : Member) (i j : ℕ) → IsMember text ts x i j → is_mark_sort (sort_at ts i) ≡ false
  member_no_mark (t.AMethod x) i j p = mods_no_mark x.mods i p.result_at p.mods (result_no_mark x.constructor x.result p.result_at p.name_at p.result p.name.0)
  member_no_mark (t.AField x) i j p = mods_no_mark x.mods i p.type_at p.mods (type_no_mark (sort_at ts p.type_at) (type_begins text ts x.ty p.type_at p.vars_at p.type))

  result_on : (c : Bool) (r : Option TypeExpr) (a b : ℕ) → IsResult text ts c r a b → a ≤ b
  result_on true None a b h = omega arith
  result_on true (Some ty) a b h = absurd h
  result_on false None a b h = omega (arith, h.1)
  result_on false (Some ty) a b h = omega (arith, type_rises text ts ty a b h)

  more_params_on : (xs : List Param) (i j : ℕ) → AreMoreParams text ts xs i j → i ≤ j
  more_params_on [] i j h = omega (arith, h.1)
  more_params_on (x ∷ xs) i j (comma, a, p, r) = omega (arith, param_on x (i + 1) a p, more_params_on xs a j r)

  params_on : (xs : List Param) (i j : ℕ) → AreParams text ts xs i j → i ≤ j
  params_on [] i j h = omega (arith, h.1)
  params_on (x ∷ xs) i j (a, p, r) = omega (arith, param_on x i a p, more_params_on xs a j r)

  member_on : (x : Member) (i j : ℕ) → IsMember text ts x i j → i < j
  member_on (t.AMethod x) i j p =
      omega (
        arith,
        mods_on x.mods i p.result_at p.mods,
        result_on x.constructor x.result p.result_at p.name_at p.result,
        params_on x.params (p.name_at + 2) p.throws_at p.params,
        behind_on kw.Throws x.throws p.throws_at p.body_at p.throws,
        body_on x.constructor x.body p.body_at j p.body,
      )
  member_on (t.AField x) i j p = omega (arith, mods_on x.mods i p.type_at p.mods, type_rises text ts x.ty p.type_at p.vars_at p.type, vars_span text ts x.vars p.vars_at p.end p.vars, p.next)

  -- ---- types

  next_member_again : (d : ℕ) (x : Member) (i j : ℕ) → Spaced text ts (IsMemberBelow d) x i j → next_member text ts d i ≡ got x j
  unfolding next_member IsMemberBelow
  next_member_again d x i j p =
      let q = p.is in
      rw (past_to p.many i p.begin p.semicolons (no_mark_at p.begin m.Semicolon (member_no_mark x p.begin j q.0))) (member_again d x p.begin j p.is)

  member_opens : (d : ℕ) (x : Member) (i j : ℕ) → Spaced text ts (IsMemberBelow d) x i j → members_end text ts i ≡ false
  unfolding members_end IsMemberBelow
  member_opens d x i j p =
      let q = p.is in
      let none = member_no_mark x p.begin j q.0 in
      rw (past_to p.many i p.begin p.semicolons (no_mark_at p.begin m.Semicolon none)) (is_mark_not ts m.RightBrace p.begin (no_mark_at p.begin m.RightBrace none))

  spaced_member_on : (d : ℕ) (x : Member) (i j : ℕ) → Spaced text ts (IsMemberBelow d) x i j → i < j
  unfolding IsMemberBelow
  spaced_member_on d x i j p = let q = p.is in omega (arith, semicolons_on p.many i p.begin p.semicolons, member_on x p.begin j q.0)

  record Runs {A : Type 0} (P : A → ℕ → ℕ → Type 0) (xs : List A) (i e : ℕ) : Type 0 where
    end : ℕ
    run : Run text ts (Spaced text ts P) xs i end
    many : ℕ
    semicolons : AreSemicolons text ts many end e

  members_run : (d : ℕ) (xs : List Member) (i e : ℕ) → AreMembers text ts xs i e → below_members xs ≤ d → Runs (IsMemberBelow (d - 1)) xs i e
  unfolding IsMemberBelow
  members_run d [] i e (n, semis) low = record { end = i; run = refl; many = n; semicolons = semis }
  members_run d (x ∷ xs) i e (n, a, semis, b, p, r) low =
      let v = members_run d xs b e r (omega arith) in
      record { end = v.end; run = (b, record { many = n; begin = a; semicolons = semis; is = (p, omega arith) }, v.run); many = v.many; semicolons = v.semicolons }

  members_end_has : (a e : ℕ) → past_from text ts a ≡ e → sort_at ts e ≡ s.Mark m.RightBrace → members_end text ts a ≡ true
  unfolding members_end
  members_end_has a e after close_is = rw after (is_mark_has ts m.RightBrace e close_is)

  members_in_again : (d : ℕ) (xs : List Member) (i e : ℕ) → sort_at ts i ≡ s.Mark m.LeftBrace → AreMembers text ts xs (i + 1) e → sort_at ts e ≡ s.Mark m.RightBrace → below_members xs ≤ d
      → members_in text ts (d - 1) i ≡ got xs (e + 1)
  unfolding members_in members
  members_in_again d xs i e open_is h close_is low =
      let r = members_run d xs (i + 1) e h low in
      let after : past_from text ts r.end ≡ e = past_to r.many r.end e r.semicolons (λ is. differ e (s.Mark m.RightBrace) (s.Mark m.Semicolon) close_is is (λ e. cc)) in
      let here = within ts e (s.Mark m.RightBrace) close_is (λ e. cc) in
      let all : many text ts (members_end text ts) (next_member text ts (d - 1)) (length ts + 1) [] (i + 1) ≡ got xs r.end =
      many_again text ts (Spaced text ts (IsMemberBelow (d - 1))) (next_member text ts (d - 1)) (next_member_again (d - 1)) (spaced_member_on (d - 1)) (members_end text ts) (member_opens (d - 1))
      xs [] (length ts + 1) (i + 1) r.end r.run (members_end_has r.end e after close_is) (omega (arith, here, semicolons_on r.many r.end e r.semicolons)) (omega arith) in
      rw (after_mark_has ts m.LeftBrace i open_is, all, after, after_mark_has ts m.RightBrace e close_is) refl

  kind_again : (k : Bool) (i : ℕ) → sort_at ts i ≡ s.Keyword (if k then kw.Interface else kw.Class) → kind text ts i ≡ got k (i + 1)
  unfolding kind
  kind_again true i is = rw (after_keyword_has ts kw.Interface i is) refl
  kind_again false i is = rw (after_keyword_not ts kw.Interface i (λ e. differ i (s.Keyword kw.Class) (s.Keyword kw.Interface) is e (λ e. cc)), after_keyword_has ts kw.Class i is) refl

  word_no_mod : (k : Bool) (i : ℕ) → sort_at ts i ≡ s.Keyword (if k then kw.Interface else kw.Class) → mod_of (sort_at ts i) ≡ None
  word_no_mod true i is = rw is refl
  word_no_mod false i is = rw is refl

  brace_stops : (i : ℕ) → sort_at ts i ≡ s.Mark m.LeftBrace → Stops i
  brace_stops i is = stops_at i (s.Mark m.LeftBrace) is (λ e. cc) (λ e. cc) (λ e. cc) (λ e. cc) (λ e. cc)

  brace_no_word : (i : ℕ) (k : Keyword) → sort_at ts i ≡ s.Mark m.LeftBrace → sort_at ts i ≢ s.Keyword k
  brace_no_word i k is e = differ i (s.Mark m.LeftBrace) (s.Keyword k) is e (λ e. cc)

  -- what stands behind the class above
  over_stops : (over : List TypeExpr) (a j : ℕ) → AreBehind text ts kw.Implements over a j → sort_at ts j ≡ s.Mark m.LeftBrace → Stops a
  over_stops [] a j h brace = brace_stops a (rw (← h) brace)
  over_stops (x ∷ xs) a j h brace = stops_at a (s.Keyword kw.Implements) h.0 (λ e. cc) (λ e. cc) (λ e. cc) (λ e. cc) (λ e. cc)

  over_no_word : (over : List TypeExpr) (a j : ℕ) → AreBehind text ts kw.Implements over a j → sort_at ts j ≡ s.Mark m.LeftBrace → sort_at ts a ≢ s.Keyword kw.Extends
  over_no_word [] a j h brace = brace_no_word a kw.Extends (rw (← h) brace)
  over_no_word (x ∷ xs) a j h brace = λ e. differ a (s.Keyword kw.Implements) (s.Keyword kw.Extends) h.0 e (λ e. cc)

  -- the types above, read one list after the other
  record Above (k : Bool) (d : ℕ) (up over : List TypeExpr) (i j : ℕ) : Type 0 where
    end : ℕ
    up_is : extends text ts k d i ≡ got up end
    over_is : implements text ts k d end ≡ got over j

  above_again : (k : Bool) (d : ℕ) (up over : List TypeExpr) (i j : ℕ) → AreAbove text ts k up over i j → below_list up ≤ d → below_list over ≤ d → sort_at ts j ≡ s.Mark m.LeftBrace → Above k d up over i j
  unfolding extends implements parent IsClass
  above_again true d up [] i j h low low' brace =
      record { end = j; up_is = behind_again kw.Extends d up i j h low (brace_stops j brace) (brace_no_word j kw.Extends brace); over_is = refl }
  above_again true d up (y ∷ ys) i j h low low' brace = absurd h
  above_again false d [] over i j (a, p, q) low low' brace =
      let none = over_no_word over a j q brace in
      record {
        end = a;
        up_is = rw (after_keyword_not ts kw.Extends i (λ e. none (rw p e)), p) refl;
        over_is = behind_again kw.Implements d over a j q low' (brace_stops j brace) (brace_no_word j kw.Implements brace);
      }
  above_again false d (x ∷ []) over i j (a, p, q) low low' brace =
      let stops = over_stops over a j q brace in
      record {
        end = a;
        up_is = rw (after_keyword_has ts kw.Extends i p.0, class_again d x (i + 1) a (p.1, omega arith, stops.closed)) refl;
        over_is = behind_again kw.Implements d over a j q low' (brace_stops j brace) (brace_no_word j kw.Implements brace);
      }
  above_again false d (x ∷ y ∷ ys) over i j h low low' brace = absurd h

  -- no `<` stands behind the type parameters
  above_no_less : (k : Bool) (up over : List TypeExpr) (i j : ℕ) → AreAbove text ts k up over i j → sort_at ts j ≡ s.Mark m.LeftBrace → sort_at ts i ≢ s.Infix op.Less
  above_no_less true up [] i j h brace = no_less up h
    where
      no_less : (up : List TypeExpr) → AreBehind text ts kw.Extends up i j → sort_at ts i ≢ s.Infix op.Less
      no_less [] h = λ e. differ i (s.Mark m.LeftBrace) (s.Infix op.Less) (rw (← h) brace) e (λ e. cc)
      no_less (x ∷ xs) h = λ e. differ i (s.Keyword kw.Extends) (s.Infix op.Less) h.0 e (λ e. cc)
  above_no_less true up (y ∷ ys) i j h brace = absurd h
  above_no_less false [] over i j (a, p, q) brace = λ e. let stops = over_stops over a j q brace in let closed = stops.closed in closed.no_less (rw p e)
  above_no_less false (x ∷ []) over i j (a, p, q) brace = λ e. differ i (s.Keyword kw.Extends) (s.Infix op.Less) p.0 e (λ e. cc)
  above_no_less false (x ∷ y ∷ ys) over i j h brace = absurd h

  same_decl : (x : TypeDecl) (n : Node) (y : Name) (b : ℕ) → x.node ≡ n → x.name ≡ y → x.name_end ≡ b
      → record { node = n; mods = x.mods; interface = x.interface; name = y; name_end = b; params = x.params; extends = x.extends; implements = x.implements; members = x.members } ≡ x
  same_decl x n y b p q r = rw (← p, ← q, ← r) refl

  IsDeclBelow : ℕ → TypeDecl → ℕ → ℕ → Type 0
  IsDeclBelow d x i j = IsDecl text ts x i j × (decl_depth x ≤ d)

  decl_again : (d : ℕ) (x : TypeDecl) (i j : ℕ) → IsDeclBelow d x i j → decl text ts d i ≡ got x j
  unfolding decl decl_behind IsDeclBelow
  decl_again d x i j (p, low) =
      let next = p.next in
      let two : p.word_at + 1 + 1 ≡ p.word_at + 2 = omega arith in
      let name : x.name ≡ record { 0 = name_at ts (p.word_at + 1) } = name_is x.name (name_at ts (p.word_at + 1)) p.name.1 in
      let above = above_again x.interface d x.extends x.implements p.above_at p.brace_at p.above (omega (arith, low)) (omega (arith, low)) p.brace in
      rw (
        mods_is x.mods i p.word_at p.mods (word_no_mod x.interface p.word_at p.word),
        kind_again x.interface p.word_at p.word,
        after_word_has ts (p.word_at + 1) p.name.0,
        two,
        type_params_again x.params (p.word_at + 2) p.above_at p.params (above_no_less x.interface x.extends x.implements p.above_at p.brace_at p.above p.brace),
        above.up_is,
        above.over_is,
        members_in_again d x.members p.brace_at p.end p.brace p.members p.close (omega (arith, low)),
        ← next,
      )
      (ap (λ (y : TypeDecl). got y j) (same_decl x (node_of text ts i j) (record { 0 = name_at ts (p.word_at + 1) }) (to_at ts (p.word_at + 1)) p.node name p.name_end))

  word_no_mark : (k : Bool) (i : ℕ) → sort_at ts i ≡ s.Keyword (if k then kw.Interface else kw.Class) → is_mark_sort (sort_at ts i) ≡ false
  word_no_mark true i is = rw is refl
  word_no_mark false i is = rw is refl

  decl_no_mark : (x : TypeDecl) (i j : ℕ) → IsDecl text ts x i j → is_mark_sort (sort_at ts i) ≡ false
  decl_no_mark x i j p = mods_no_mark x.mods i p.word_at p.mods (word_no_mark x.interface p.word_at p.word)

  above_on : (k : Bool) (up over : List TypeExpr) (i j : ℕ) → AreAbove text ts k up over i j → i ≤ j
  above_on true up [] i j h = behind_on kw.Extends up i j h
  above_on true up (y ∷ ys) i j h = absurd h
  above_on false [] over i j (a, p, q) = omega (arith, behind_on kw.Implements over a j q)
  above_on false (x ∷ []) over i j (a, p, q) = omega (arith, behind_on kw.Extends (x ∷ []) i a p, behind_on kw.Implements over a j q)
  above_on false (x ∷ y ∷ ys) over i j h = absurd h

  members_on : (xs : List Member) (i j : ℕ) → AreMembers text ts xs i j → i ≤ j
  members_on [] i j (n, semis) = semicolons_on n i j semis
  members_on (x ∷ xs) i j (n, a, semis, b, p, r) = omega (arith, semicolons_on n i a semis, member_on x a b p, members_on xs b j r)

  decl_on : (x : TypeDecl) (i j : ℕ) → IsDecl text ts x i j → i < j
  decl_on x i j p =
      omega (
        arith,
        mods_on x.mods i p.word_at p.mods,
        type_params_on x.params (p.word_at + 2) p.above_at p.params,
        above_on x.interface x.extends x.implements p.above_at p.brace_at p.above,
        members_on x.members (p.brace_at + 1) p.end p.members,
        p.next,
      )

  -- ---- files

  next_decl_again : (d : ℕ) (x : TypeDecl) (i j : ℕ) → Spaced text ts (IsDeclBelow d) x i j → next_decl text ts d i ≡ got x j
  unfolding next_decl IsDeclBelow
  next_decl_again d x i j p =
      let q = p.is in
      rw (past_to p.many i p.begin p.semicolons (no_mark_at p.begin m.Semicolon (decl_no_mark x p.begin j q.0))) (decl_again d x p.begin j p.is)

  spaced_decl_on : (d : ℕ) (x : TypeDecl) (i j : ℕ) → Spaced text ts (IsDeclBelow d) x i j → i < j
  unfolding IsDeclBelow
  spaced_decl_on d x i j p = let q = p.is in omega (arith, semicolons_on p.many i p.begin p.semicolons, decl_on x p.begin j q.0)

  word_inside : (k : Bool) (i : ℕ) → sort_at ts i ≡ s.Keyword (if k then kw.Interface else kw.Class) → i < length ts
  word_inside true i is = within ts i (s.Keyword kw.Interface) is (λ e. cc)
  word_inside false i is = within ts i (s.Keyword kw.Class) is (λ e. cc)

  decl_opens : (d : ℕ) (x : TypeDecl) (i j : ℕ) → Spaced text ts (IsDeclBelow d) x i j → decls_end text ts i ≡ false
  unfolding decls_end IsDeclBelow
  decl_opens d x i j p =
      let q = p.is in
      let r = q.0 in
      let below : p.begin < length ts = omega (arith, mods_on x.mods p.begin r.word_at r.mods, word_inside x.interface r.word_at r.word) in
      rw (past_to p.many i p.begin p.semicolons (no_mark_at p.begin m.Semicolon (decl_no_mark x p.begin j q.0))) (grind (arith, nat_tests))

  decls_run : (d : ℕ) (xs : List TypeDecl) (i e : ℕ) → AreDecls text ts xs i e → below_decls xs ≤ d → Runs (IsDeclBelow (d - 1)) xs i e
  unfolding IsDeclBelow
  decls_run d [] i e (n, semis) low = record { end = i; run = refl; many = n; semicolons = semis }
  decls_run d (x ∷ xs) i e (n, a, semis, b, p, r) low =
      let v = decls_run d xs b e r (omega arith) in
      record { end = v.end; run = (b, record { many = n; begin = a; semicolons = semis; is = (p, omega arith) }, v.run); many = v.many; semicolons = v.semicolons }

  no_last : sort_at ts (length ts) ≢ s.Mark m.Semicolon
  no_last e = differ (length ts) s.End (s.Mark m.Semicolon) (nothing_past ts (length ts) (omega arith)) e (λ e. cc)

  decls_end_has : (a : ℕ) → past_from text ts a ≡ length ts → decls_end text ts a ≡ true
  unfolding decls_end
  decls_end_has a after = grind (arith, nat_tests)

  decls_again : (d : ℕ) (xs : List TypeDecl) (i : ℕ) → AreDecls text ts xs i (length ts) → below_decls xs ≤ d → (j : ℕ) × (decls text ts (d - 1) i ≡ got xs j)
  unfolding decls
  decls_again d xs i h low =
      let r = decls_run d xs i (length ts) h low in
      let after : past_from text ts r.end ≡ length ts = past_to r.many r.end (length ts) r.semicolons no_last in (
        r.end,
        many_again text ts (Spaced text ts (IsDeclBelow (d - 1))) (next_decl text ts (d - 1)) (next_decl_again (d - 1)) (spaced_decl_on (d - 1)) (decls_end text ts) (decl_opens (d - 1))
            xs [] (length ts + 1) i r.end r.run (decls_end_has r.end after) (semicolons_on r.many r.end (length ts) r.semicolons) (omega arith),
      )

  all_again : (b : Bool) (i j : ℕ) → IsAll text ts b i j → sort_at ts j ≡ s.Mark m.Semicolon → all_at text ts i ≡ record { tree = b; next = j }
  unfolding all_at
  all_again true i j (dot, all, next) semi = rw (is_mark_has ts m.Dot i dot, is_infix_has ts op.Mul (i + 1) all, next) refl
  all_again false i j next semi = rw (is_mark_not ts m.Dot i (λ e. differ i (s.Mark m.Semicolon) (s.Mark m.Dot) (rw (← next) semi) e (λ e. cc)), next) refl

  all_ends : (b : Bool) (i j : ℕ) → IsAll text ts b i j → sort_at ts j ≡ s.Mark m.Semicolon → separated text ts m.Dot i ≡ None
  all_ends true i j (dot, all, next) semi = separated_end m.Dot i dot (λ e. differ (i + 1) (s.Infix op.Mul) s.Word all e (λ e. cc))
  all_ends false i j next semi = separated_not m.Dot i (λ e. differ i (s.Mark m.Semicolon) (s.Mark m.Dot) (rw (← next) semi) e (λ e. cc))

  same_import : (x : Import) (n : Node) → x.node ≡ n → record { node = n; path = x.path; all = x.all } ≡ x
  same_import x n a = rw (← a) refl

  import_again : (x : Import) (i j : ℕ) → IsImport text ts x i j → one_import text ts i ≡ got x j
  unfolding one_import
  import_again x i j p =
      let next = p.next in
      rw (
        after_keyword_has ts kw.Import i p.word,
        ids_is m.Dot x.path (i + 1) p.path_end (dots x.path (i + 1) p.path_end p.path) (all_ends x.all p.path_end p.end p.all p.semicolon),
        all_again x.all p.path_end p.end p.all p.semicolon,
        after_mark_has ts m.Semicolon p.end p.semicolon,
        ← next,
      ) (ap (λ (y : Import). got y j) (same_import x (node_of text ts i j) p.node))

  all_on : (b : Bool) (i j : ℕ) → IsAll text ts b i j → i ≤ j
  all_on true i j (dot, all, next) = omega arith
  all_on false i j next = omega arith

  import_on : (x : Import) (i j : ℕ) → IsImport text ts x i j → i < j
  import_on x i j p = omega (arith, path_rises text ts x.path (i + 1) p.path_end p.path, all_on x.all p.path_end p.end p.all, p.next)

  import_opens : (x : Import) (i j : ℕ) → IsImport text ts x i j → imports_end text ts i ≡ false
  unfolding imports_end
  import_opens x i j p = rw (is_keyword_has ts kw.Import i p.word) refl

  imports_run : (xs : List Import) (i j : ℕ) → AreImports text ts xs i j → Run text ts (IsImport text ts) xs i j
  imports_run [] i j h = h
  imports_run (x ∷ xs) i j (a, p, r) = (a, p, imports_run xs a j r)

  imports_end_has : (j : ℕ) → sort_at ts j ≢ s.Keyword kw.Import → imports_end text ts j ≡ true
  unfolding imports_end
  imports_end_has j other = rw (is_keyword_not ts kw.Import j other) refl

  imports_again : (xs : List Import) (i j : ℕ) → AreImports text ts xs i j → sort_at ts j ≢ s.Keyword kw.Import → j ≤ length ts → imports text ts i ≡ got xs j
  unfolding imports
  imports_again xs i j h other low =
      many_again text ts (IsImport text ts) (one_import text ts) import_again import_on (imports_end text ts) import_opens xs [] (length ts + 1) i j (imports_run xs i j h) (imports_end_has j other) low (omega arith)

  package_again : (xs : List Name) (i j : ℕ) → IsPackage text ts xs i j → sort_at ts j ≢ s.Keyword kw.Package → package_name text ts i ≡ got xs j
  unfolding package_name
  package_again [] i j next other = rw (after_keyword_not ts kw.Package i (λ e. other (rw next e)), next) refl
  package_again (x ∷ xs) i j (word, a, p, semi, next) other =
      rw (
        after_keyword_has ts kw.Package i word,
        ids_is m.Dot (x ∷ xs) (i + 1) a (dots (x ∷ xs) (i + 1) a p) (separated_not m.Dot a (λ e. differ a (s.Mark m.Semicolon) (s.Mark m.Dot) semi e (λ e. cc))),
        after_mark_has ts m.Semicolon a semi,
        next,
      ) refl

  mods_late : (xs : List Mod) (i a : ℕ) → AreMods text ts xs i a → is_late (sort_at ts a) ≡ true → is_late (sort_at ts i) ≡ true
  mods_late [] i a h late = rw (← h) late
  mods_late (x ∷ xs) i a h late = rw h.0 (mod_late x)

  word_late : (k : Bool) (i : ℕ) → sort_at ts i ≡ s.Keyword (if k then kw.Interface else kw.Class) → is_late (sort_at ts i) ≡ true
  word_late true i is = rw is refl
  word_late false i is = rw is refl

  semicolons_late : (n i a : ℕ) → AreSemicolons text ts n i a → is_late (sort_at ts a) ≡ true → is_late (sort_at ts i) ≡ true
  semicolons_late zero i a h late = rw (← h) late
  semicolons_late (suc n) i a h late = rw h.0 refl

  decls_late : (xs : List TypeDecl) (i : ℕ) → AreDecls text ts xs i (length ts) → is_late (sort_at ts i) ≡ true
  decls_late [] i (n, semis) = semicolons_late n i (length ts) semis (rw (nothing_past ts (length ts) (omega arith)) refl)
  decls_late (x ∷ xs) i (n, a, semis, b, p, r) = semicolons_late n i a semis (mods_late x.mods a p.word_at p.mods (word_late x.interface p.word_at p.word))

  imports_no_package : (xs : List Import) (i j : ℕ) → AreImports text ts xs i j → is_late (sort_at ts j) ≡ true → sort_at ts i ≢ s.Keyword kw.Package
  imports_no_package [] i j h late = late_not i kw.Package (rw (← h) late) refl
  imports_no_package (x ∷ xs) i j (a, p, r) late = λ e. differ i (s.Keyword kw.Import) (s.Keyword kw.Package) p.word e (λ e. cc)

  decls_on : (xs : List TypeDecl) (i j : ℕ) → AreDecls text ts xs i j → i ≤ j
  decls_on [] i j (n, semis) = semicolons_on n i j semis
  decls_on (x ∷ xs) i j (n, a, semis, b, p, r) = omega (arith, semicolons_on n i a semis, decl_on x a b p, decls_on xs b j r)

  same_unit : (x : SourceUnit) (n : Node) → x.node ≡ n → record { node = n; «package» = x.«package»; imports = x.imports; types = x.types } ≡ x
  same_unit x n a = rw (← a) refl

  pub unit_again : (d : ℕ) (x : SourceUnit) → SpellsUnit text ts x → unit_depth x ≤ d → unit text ts d ≡ Some x
  unfolding unit
  unit_again d x p low =
      let late = decls_late x.types p.types_at p.types in
      let all = decls_again d x.types p.types_at p.types (omega (arith, low)) in
      rw (
        package_again x.«package» 0 p.imports_at p.named (imports_no_package x.imports p.imports_at p.types_at p.imports late),
        imports_again x.imports p.imports_at p.types_at p.imports (late_not p.types_at kw.Import late refl) (decls_on x.types p.types_at (length ts) p.types),
        all.1,
      )
      (ap Some (same_unit x (node_of text ts 0 (length ts)) p.node))
