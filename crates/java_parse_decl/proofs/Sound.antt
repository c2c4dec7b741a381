-- What is read is in the grammar.
use Rattle.std.proofs.Common.{◌≡◌, ◌⊎◌, inl, inr, ℕ, zero, suc, ◌+◌, ◌-◌, ◌<◌, ◌≤◌, Bool, true, false, cond, if◌then◌else◌, ◌&&◌, List, [], ◌∷◌, ◌++◌, length, Option, Some, None, refl, sym, subst, ◌∙◌, arith, append_assoc, append-nil}
use Rattle.std.proofs.lemmas.Bool.Decides.{nat_tests}
use Rattle.java_tree.specs.declared.tree.Name.{Name}
use Rattle.java_tree.specs.declared.tree.Mod.{Mod}
use Rattle.java_tree.specs.declared.tree.Mod.TheVariants as mods
use Rattle.java_tree.specs.declared.tree.Import.{Import}
use Rattle.java_tree.specs.declared.tree.BinOp.TheVariants as op
use Rattle.java_tree.specs.Plain as t
use Rattle.java_tree.specs.Plain.{TypeExpr, Param, Stmt, MaybeStmt, Stmts, Groups, Catches, Member, TypeDecl, SourceUnit}
use Rattle.java_grammar.specs.declared.token.Tok.{Tok}
use Rattle.java_grammar.specs.declared.token.Sort.{Sort}
use Rattle.java_grammar.specs.declared.token.Sort.TheVariants as s
use Rattle.java_grammar.specs.declared.token.Keyword.{Keyword}
use Rattle.java_grammar.specs.declared.token.Keyword.TheVariants as kw
use Rattle.java_grammar.specs.declared.token.Mark.{Mark}
use Rattle.java_grammar.specs.declared.token.Mark.TheVariants as m
use Rattle.java_grammar.specs.Reads.{sort_at, to_at}
use Rattle.java_grammar.specs.Heights.{type_depth, param_depth}
use Rattle.java_grammar.specs.Expressions.{Stands, IsId, node_of, IsPath, SpellsType}
use Rattle.java_grammar.specs.Statements.{IsParam}
use Rattle.unit_grammar.specs.Calls.{CallsNone, MaybeCallsNone, AllCallNone, GroupsCallNone, CatchesCallNone, IsConstructorCall, CallsInPlace}
use Rattle.unit_grammar.specs.Declarations.{word_of, AreMods, AreIds, AreTypeParams, IsRef, AreRefs, AreBehind, AreMoreParams, AreParams, IsResult, IsBody, IsMember, AreSemicolons, AreMembers, AreAbove, IsDecl, AreDecls, IsPackage, IsAll, IsImport, AreImports, SpellsUnit}
use Rattle.unit_grammar.specs.Depths.{below_list, below_result, below_params, below_body, member_depth, below_members, decl_depth, below_decls, below_imports, unit_depth}
use Rattle.java_parse_term.specs.Marks.{◌>>=◌, given, is_mark, is_infix, is_word, after_mark, after_keyword, after_infix, after_word}
use Rattle.java_parse_term.specs.Types.{id_at, names_class}
use Rattle.java_parse_term.proofs.Steps.{step, both_true, step_mark, step_keyword, step_infix, step_word, step_if, step_unless, step_either, step_given, is_mark_says, is_infix_says, after_mark_says, after_keyword_says, after_infix_says}
use Rattle.java_parse_term.proofs.TypesSound.{names_class_says}
use Rattle.java_parse_expr.specs.Parse.{Part, many, list_of, type_under, vars, param, under}
use Rattle.java_parse_expr.proofs.Begins.{block_is}
use Rattle.java_parse_expr.proofs.Lists.{Rest, Run, list_fine, many_fine}
use Rattle.java_parse_expr.proofs.Sound.{vars_fine, param_fine, under_fine}
use Rattle.java_parse_expr.proofs.Answered.{types_fine, exprs_fine}
use Rattle.java_parse_decl.specs.Parse.{mod_of, calls_none, maybe_calls_none, all_call_none, groups_call_none, catches_call_none, may_be_first, calls_in_place, mods_at, mods_from, past, past_from, separated, ids, ids_from, type_params, class_under, classes, behind, params, block, body, method, field, is_called, typed, member_behind, member, members_end, next_member, members, members_in, kind, parent, extends, implements, decl_behind, decl, decls_end, next_decl, decls, all_at, one_import, imports_end, imports, package_name, unit}

mod_says : (x : Sort) (w : Mod) → mod_of x ≡ Some w → x ≡ s.Keyword (word_of w)
mod_says (s.Keyword kw.Public) w e = let is : mods.Public ≡ w = cc in rw (← is) refl
mod_says (s.Keyword kw.Protected) w e = let is : mods.Protected ≡ w = cc in rw (← is) refl
mod_says (s.Keyword kw.Private) w e = let is : mods.Private ≡ w = cc in rw (← is) refl
mod_says (s.Keyword kw.Static) w e = let is : mods.Static ≡ w = cc in rw (← is) refl
mod_says (s.Keyword kw.Abstract) w e = let is : mods.Abstract ≡ w = cc in rw (← is) refl
mod_says (s.Keyword kw.Final) w e = let is : mods.Final ≡ w = cc in rw (← is) refl
mod_says _ w e = absurd (cc)

-- ---- calls of this(..) and super(..)

mutual
  none_says : (x : Stmt) → calls_none x ≡ true → CallsNone x
  none_says (t.Block n xs) h = all_says xs h
  none_says (t.If n e x y) h = both_true _ _ h (λ p q. (none_says x p, maybe_says y q))
  none_says (t.While n e x) h = none_says x h
  none_says (t.Do n x e) h = none_says x h
  none_says (t.For n xs e es x) h = both_true _ _ h (λ p q. (all_says xs p, none_says x q))
  none_says (t.ForEach n f ty v e x) h = none_says x h
  none_says (t.Switch n e gs) h = groups_say gs h
  none_says (t.Try n x cs last) h = both_true _ _ h (λ p r. both_true _ _ r (λ q r. (none_says x p, catches_say cs q, maybe_says last r)))
  none_says (t.ThisCall n es) h = absurd (cc)
  none_says (t.SuperCall n es) h = absurd (cc)
  none_says (t.Local n f ty vs) h = tt
  none_says (t.Empty n) h = tt
  none_says (t.Value n e) h = tt
  none_says (t.Break n) h = tt
  none_says (t.Continue n) h = tt
  none_says (t.Return n e) h = tt
  none_says (t.Throw n e) h = tt

  maybe_says : (x : MaybeStmt) → maybe_calls_none x ≡ true → MaybeCallsNone x
  maybe_says t.NoStmt h = tt
  maybe_says (t.AStmt x) h = none_says x h

  all_says : (xs : Stmts) → all_call_none xs ≡ true → AllCallNone xs
  all_says t.Last h = tt
  all_says (t.Then x xs) h = both_true _ _ h (λ p q. (none_says x p, all_says xs q))

  groups_say : (gs : Groups) → groups_call_none gs ≡ true → GroupsCallNone gs
  groups_say t.NoGroup h = tt
  groups_say (t.AndGroup (t.Labelled n ls xs) gs) h = both_true _ _ h (λ p q. (all_says xs p, groups_say gs q))

  catches_say : (cs : Catches) → catches_call_none cs ≡ true → CatchesCallNone cs
  catches_say t.NoCatch h = tt
  catches_say (t.AndCatch (t.Caught n k x) cs) h = both_true _ _ h (λ p q. (none_says x p, catches_say cs q))

first_says : (x : Stmt) → may_be_first x ≡ true → IsConstructorCall x ⊎ CallsNone x
first_says (t.ThisCall n es) h = inl tt
first_says (t.SuperCall n es) h = inl tt
first_says x h = inr (none_says x h)

place_says : (constructor : Bool) (x : Stmt) → calls_in_place constructor x ≡ true → CallsInPlace constructor x
place_says true (t.Block n t.Last) h = tt
place_says true (t.Block n (t.Then x xs)) h = both_true _ _ h (λ p q. (first_says x p, all_says xs q))
place_says true x h = none_says x h
place_says false x h = none_says x h

module _ (text : List ℕ) (ts : List Tok) where
  -- ---- words

  mods_fine : (n : ℕ) (xs : List Mod) (i : ℕ) → (ys : List Mod) × ((mods_at text ts n xs i).tree ≡ xs ++ ys) × AreMods text ts ys i (mods_at text ts n xs i).next
  unfolding mods_at
  mods_fine zero xs i = ([], sym (append-nil xs), refl)
  mods_fine (suc n) xs i = by_mod (λ ys j. mods_fine n ys j) (mod_of (sort_at ts i)) refl
    where
      by_mod : ((ys : List Mod) (j : ℕ) → (zs : List Mod) × ((mods_at text ts n ys j).tree ≡ ys ++ zs) × AreMods text ts zs j (mods_at text ts n ys j).next)
          → (o : Option Mod) → mod_of (sort_at ts i) ≡ o
          → (zs : List Mod) × ((given o (λ x. mods_at text ts n (xs ++ x ∷ []) (i + 1)) (record { tree = xs; next = i })).tree ≡ xs ++ zs)
          × AreMods text ts zs i (given o (λ x. mods_at text ts n (xs ++ x ∷ []) (i + 1)) (record { tree = xs; next = i })).next
      by_mod again None none = ([], sym (append-nil xs), refl)
      by_mod again (Some x) is = let r = again (xs ++ x ∷ []) (i + 1) in (x ∷ r.0, r.1 ∙ append_assoc xs (x ∷ []) r.0, (mod_says _ x is, r.2))

  mods_are : (i : ℕ) → AreMods text ts (mods_from text ts i).tree i (mods_from text ts i).next
  mods_are i = let r = mods_fine (length ts) [] i in rw r.1 r.2

  past_fine : (n i : ℕ) → (k : ℕ) × AreSemicolons text ts k i (past text ts n i)
  unfolding past
  past_fine zero i = (0, refl)
  past_fine (suc n) i = by_mark (λ j. past_fine n j) (after_mark ts m.Semicolon i) refl
    where
      by_mark : ((j : ℕ) → (k : ℕ) × AreSemicolons text ts k j (past text ts n j)) → (o : Option ℕ) → after_mark ts m.Semicolon i ≡ o
          → (k : ℕ) × AreSemicolons text ts k i (given o (past text ts n) i)
      by_mark again None none = (0, refl)
      by_mark again (Some j) is =
          let p = after_mark_says ts m.Semicolon i j is in
          let r = again j in
          (suc r.0, (p.0, subst (λ q. AreSemicolons text ts r.0 q (past text ts n j)) p.1 r.1))

  past_is : (i : ℕ) → (k : ℕ) × AreSemicolons text ts k i (past_from text ts i)
  past_is i = past_fine (length ts) i

  -- identifiers with separators between them
  abbrev pub AreSeparated : Mark → List Name → ℕ → ℕ → Type 0
  AreSeparated x [] i j = ⊥
  AreSeparated x (y ∷ []) i j = IsId text ts y i × (j ≡ i + 1)
  AreSeparated x (y ∷ z ∷ zs) i j = IsId text ts y i × (sort_at ts (i + 1) ≡ s.Mark x) × AreSeparated x (z ∷ zs) (i + 2) j

  separated_longer : (x : Mark) (y : Name) (ys : List Name) (i j : ℕ) → IsId text ts y i → sort_at ts (i + 1) ≡ s.Mark x → AreSeparated x ys (i + 2) j → AreSeparated x (y ∷ ys) i j
  separated_longer x y [] i j id mark h = absurd h
  separated_longer x y (z ∷ zs) i j id mark h = (id, mark, h)

  comma_ids : (xs : List Name) (i j : ℕ) → AreSeparated m.Comma xs i j → AreIds text ts xs i j
  comma_ids [] i j h = h
  comma_ids (x ∷ []) i j h = h
  comma_ids (x ∷ y ∷ ys) i j (id, mark, h) = (id, mark, comma_ids (y ∷ ys) (i + 2) j h)

  dot_ids : (xs : List Name) (i j : ℕ) → AreSeparated m.Dot xs i j → IsPath text ts xs i j
  dot_ids [] i j h = h
  dot_ids (x ∷ []) i j h = h
  dot_ids (x ∷ y ∷ ys) i j (id, mark, h) = (id, mark, dot_ids (y ∷ ys) (i + 2) j h)

  separated_says : (x : Mark) (i j : ℕ) → separated text ts x i ≡ Some j → (sort_at ts i ≡ s.Mark x) × (j ≡ i + 1)
  unfolding separated
  separated_says x i j e =
      step_mark ts x i _ j e (λ mark e1.
      step_if (is_word ts (i + 1)) (Some (i + 1)) j e1 (λ word same. (mark, cc)))

  record FineIds (x : Mark) (before : List Name) (i : ℕ) (g : Part (List Name)) : Type 0 where
    rest : List Name
    names : g.tree ≡ before ++ rest
    is : AreSeparated x rest i g.next

  ids_fine : (x : Mark) (n : ℕ) (before : List Name) (i : ℕ) (g : Part (List Name)) → ids text ts x n before i ≡ Some g → FineIds x before i g
  unfolding ids
  ids_fine x zero before i g e = absurd (cc)
  ids_fine x (suc n) before i g e = by_mark (λ j e. ids_fine x n (before ++ id_at ts i ∷ []) j g e) e
    where
      by_mark : ((j : ℕ) → ids text ts x n (before ++ id_at ts i ∷ []) j ≡ Some g → FineIds x (before ++ id_at ts i ∷ []) j g)
          → (after_word ts i >>= (λ next. given (separated text ts x next) (ids text ts x n (before ++ id_at ts i ∷ [])) (Some (record { tree = before ++ id_at ts i ∷ []; next = next })))) ≡ Some g
          → FineIds x before i g
      by_mark again e =
          step_word ts i _ g e (λ word e1.
          step_given (separated text ts x (i + 1)) _ _ g e1
          (λ j is e2.
          let d = separated_says x (i + 1) j is in
          let r = again j e2 in
          let two : j ≡ i + 2 = omega (arith, d.1) in
          record {
            rest = id_at ts i ∷ r.rest;
            names = r.names ∙ append_assoc before (id_at ts i ∷ []) r.rest;
            is = separated_longer x (id_at ts i) r.rest i g.next (word, refl) d.0 (subst (λ p. AreSeparated x r.rest p g.next) two r.is);
          })
          (λ none e2.
          let is : record { tree = before ++ id_at ts i ∷ []; next = i + 1 } ≡ g = cc in
          subst (FineIds x before i) is (record { rest = id_at ts i ∷ []; names = refl; is = ((word, refl), refl) })))

  ids_are : (x : Mark) (i : ℕ) (g : Part (List Name)) → ids_from text ts x i ≡ Some g → AreSeparated x g.tree i g.next
  ids_are x i g e = let r = ids_fine x (length ts) [] i g e in rw r.names r.is

  type_params_from : (xs : List Name) (i a : ℕ) → Stands text ts (s.Infix op.Less) i → AreSeparated m.Comma xs (i + 1) a → Stands text ts (s.Infix op.Greater) a → AreTypeParams text ts xs i (a + 1)
  type_params_from [] i a less h greater = absurd h
  type_params_from (x ∷ xs) i a less h greater = (less, a, comma_ids (x ∷ xs) (i + 1) a h, greater, refl)

  type_params_fine : (i : ℕ) (g : Part (List Name)) → type_params text ts i ≡ Some g → AreTypeParams text ts g.tree i g.next
  unfolding type_params
  type_params_fine i g e =
      step_given (after_infix ts op.Less i) _ _ g e
      (λ a is e1.
      let less = after_infix_says ts op.Less i a is in
      step (ids_from text ts m.Comma a) _ g e1 (λ xs got e2.
      step_infix ts op.Greater xs.next _ g e2 (λ greater same.
      let made : record { tree = xs.tree; next = xs.next + 1 } ≡ g = cc in
      let p = subst (λ b. AreSeparated m.Comma xs.tree b xs.next) less.1 (ids_are m.Comma a xs got) in
      subst (λ (x : Part (List Name)). AreTypeParams text ts x.tree i x.next) made (type_params_from xs.tree i xs.next less.0 p greater))))
      (λ none same.
      let made : record { tree = []; next = i } ≡ g = cc in
      subst (λ (x : Part (List Name)). AreTypeParams text ts x.tree i x.next) made refl)

  -- ---- types that name classes

  IsClass : ℕ → TypeExpr → ℕ → ℕ → Type 0
  IsClass d x i j = IsRef text ts x i j × (type_depth x < d)

  class_fine : (d i : ℕ) (g : Part TypeExpr) → class_under text ts d i ≡ Some g → IsClass d g.tree i g.next
  unfolding class_under IsClass
  class_fine d i g e =
      step (type_under text ts d i) _ g e (λ x got e1.
      step_if (names_class x.tree) (Some x) g e1 (λ names same.
      let is : x ≡ g = cc in
      let p = types_fine text ts d i x got in
      subst (λ (y : Part TypeExpr). IsRef text ts y.tree i y.next × (type_depth y.tree < d)) is ((names_class_says x.tree names, p.0), p.1)))

  refs_are : (d : ℕ) (x : TypeExpr) (xs : List TypeExpr) (i a j : ℕ) → IsClass d x i a → Rest text ts (IsClass d) xs a j → AreRefs text ts (x ∷ xs) i j × (below_list (x ∷ xs) ≤ d)
  unfolding IsClass
  refs_are d x [] i a j p r = (rw r p.0, omega (arith, p.1))
  refs_are d x (y ∷ ys) i a j p (comma, b, q, r) =
      let v = refs_are d y ys (a + 1) b j q r in
      ((a, p.0, comma, v.0), omega (arith, p.1, v.1))

  behind_from : (w : Keyword) (x : TypeExpr) (xs : List TypeExpr) (i j : ℕ) → sort_at ts i ≡ s.Keyword w → AreRefs text ts (x ∷ xs) (i + 1) j → AreBehind text ts w (x ∷ xs) i j
  behind_from w x xs i j is p = (is, p)

  behind_fine : (w : Keyword) (d i : ℕ) (g : Part (List TypeExpr)) → behind text ts w d i ≡ Some g → AreBehind text ts w g.tree i g.next × (below_list g.tree ≤ d)
  unfolding behind classes
  behind_fine w d i g e =
      step_given (after_keyword ts w i) _ _ g e
      (λ a is e1.
      let at = after_keyword_says ts w i a is in
      let r = list_fine text ts (IsClass d) (class_under text ts d) (class_fine d) a g e1 in
      let p = refs_are d r.0 r.1 a r.2 g.next r.4 r.5 in
      rw r.3 (behind_from w r.0 r.1 i g.next at.0 (subst (λ b. AreRefs text ts (r.0 ∷ r.1) b g.next) at.1 p.0), p.1))
      (λ none same.
      let made : record { tree = []; next = i } ≡ g = cc in
      subst (λ (x : Part (List TypeExpr)). AreBehind text ts w x.tree i x.next × (below_list x.tree ≤ d)) made (refl, omega arith))

  -- ---- members

  IsParamBelow : ℕ → Param → ℕ → ℕ → Type 0
  IsParamBelow d x i j = IsParam text ts x i j × (param_depth x + 1 ≤ d)

  param_below : (d i : ℕ) (g : Part Param) → param text ts (d - 1) i ≡ Some g → IsParamBelow d g.tree i g.next
  unfolding IsParamBelow
  param_below d i g e = let p = param_fine text ts (types_fine text ts) (exprs_fine text ts) (d - 1) i g e in (p.0, omega (arith, p.1))

  params_are : (d : ℕ) (xs : List Param) (i j : ℕ) → Rest text ts (IsParamBelow d) xs i j → sort_at ts j ≡ s.Mark m.Close → AreMoreParams text ts xs i (j + 1) × (below_params xs ≤ d)
  unfolding IsParamBelow
  params_are d [] i j r close_is = (rw r (rw r at close_is, refl), omega arith)
  params_are d (x ∷ xs) i j (comma, a, p, r) close_is =
      let v = params_are d xs a j r close_is in
      ((comma, a, p.0, v.0), omega (arith, p.1, v.1))

  params_fine : (d i : ℕ) (g : Part (List Param)) → params text ts (d - 1) i ≡ Some g → AreParams text ts g.tree i g.next × (below_params g.tree ≤ d)
  unfolding params IsParamBelow
  params_fine d i g e =
      step_given (after_mark ts m.Close i) _ _ g e
      (λ a close_is same.
      let at = after_mark_says ts m.Close i a close_is in
      let is : record { tree = []; next = a } ≡ g = cc in
      subst (λ (x : Part (List Param)). AreParams text ts x.tree i x.next × (below_params x.tree ≤ d)) is ((at.0, at.1), omega arith))
      (λ none e1.
      step (list_of text ts (param text ts (d - 1)) i) _ g e1 (λ found got e2.
      step_mark ts m.Close found.next _ g e2 (λ close_is same.
      let is : record { tree = found.tree; next = found.next + 1 } ≡ g = cc in
      let r = list_fine text ts (IsParamBelow d) (param text ts (d - 1)) (param_below d) i found got in
      let v = params_are d r.1 r.2 found.next r.5 close_is in
      subst (λ (x : Part (List Param)). AreParams text ts x.tree i x.next × (below_params x.tree ≤ d)) is
      (rw r.3 ((r.2, r.4.0, v.0), omega (arith, r.4.1, v.1))))))

  block_fine : (c : Bool) (d i : ℕ) (g : Part (Option Stmt)) → block text ts c d i ≡ Some g → IsBody text ts c g.tree i g.next × (below_body g.tree ≤ d)
  unfolding block
  block_fine c d i g e =
      step_if (is_mark ts m.LeftBrace i) _ g e (λ brace e1.
      step (under text ts d false false i) _ g e1 (λ x got e2.
      step_if (calls_in_place c x.tree) _ g e2 (λ place same.
      let is : record { tree = Some x.tree; next = x.next } ≡ g = cc in
      let p = under_fine text ts (types_fine text ts) (exprs_fine text ts) d false false i x got in
      subst (λ (y : Part (Option Stmt)). IsBody text ts c y.tree i y.next × (below_body y.tree ≤ d)) is
      ((block_is text ts x.tree i x.next p.0 (is_mark_says ts m.LeftBrace i brace), place_says c x.tree place, p.0), omega (arith, p.1)))))

  body_fine : (c : Bool) (d i : ℕ) (g : Part (Option Stmt)) → body text ts c d i ≡ Some g → IsBody text ts c g.tree i g.next × (below_body g.tree ≤ d)
  unfolding body
  body_fine c d i g e =
      step_given (after_mark ts m.Semicolon i) _ _ g e
      (λ a is e1.
      let at = after_mark_says ts m.Semicolon i a is in
      step_unless c (Some (record { tree = None; next = a })) g e1 (λ other same.
      let made : record { tree = None; next = a } ≡ g = cc in
      subst (λ (y : Part (Option Stmt)). IsBody text ts c y.tree i y.next × (below_body y.tree ≤ d)) made ((other, at.0, at.1), omega arith)))
      (λ none e1. block_fine c d i g e1)

  IsMemberBelow : ℕ → Member → ℕ → ℕ → Type 0
  IsMemberBelow d x i j = IsMember text ts x i j × (member_depth x ≤ d)

  method_fine : (d i : ℕ) (ms : List Mod) (c : Bool) (result : Part (Option TypeExpr)) (g : Part Member) (a : ℕ) → AreMods text ts ms i a → IsResult text ts c result.tree a result.next
      → below_result result.tree ≤ d → method text ts d i ms c result ≡ Some g → IsMemberBelow d g.tree i g.next
  unfolding method IsMemberBelow
  method_fine d i ms c result g a front is low e =
      step_word ts result.next _ g e (λ word e1.
      step_mark ts m.Open (result.next + 1) _ g e1 (λ open_is e2.
      step (params text ts (d - 1) (result.next + 1 + 1)) _ g e2 (λ ps got_ps e3.
      step (behind text ts kw.Throws d ps.next) _ g e3 (λ es got_es e4.
      step (body text ts c d es.next) _ g e4 (λ x got_x same.
      let made : record {
        tree = t.AMethod (record {
          node = node_of text ts i x.next;
          mods = ms;
          result = result.tree;
          constructor = c;
          name = id_at ts result.next;
          params = ps.tree;
          throws = es.tree;
          body = x.tree;
        });
        next = x.next;
      } ≡ g = cc in
      let two : result.next + 1 + 1 ≡ result.next + 2 = omega arith in
      let p = params_fine d (result.next + 1 + 1) ps got_ps in
      let q = behind_fine kw.Throws d ps.next es got_es in
      let r = body_fine c d es.next x got_x in
      subst (λ (y : Part Member). IsMember text ts y.tree i y.next × (member_depth y.tree ≤ d)) made (
        record {
          node = refl;
          result_at = a;
          mods = front;
          name_at = result.next;
          result = is;
          name = (word, refl);
          opens = open_is;
          throws_at = ps.next;
          params = subst (λ b. AreParams text ts ps.tree b ps.next) two p.0;
          body_at = es.next;
          throws = q.0;
          body = r.0;
        },
        omega (arith, low, p.1, q.1, r.1),
      ))))))

  field_fine : (d i : ℕ) (ms : List Mod) (ty : Part TypeExpr) (g : Part Member) (a : ℕ) → AreMods text ts ms i a → SpellsType text ts ty.tree a ty.next → type_depth ty.tree < d
      → field text ts d i ms ty ≡ Some g → IsMemberBelow d g.tree i g.next
  unfolding field IsMemberBelow
  field_fine d i ms ty g a front is low e =
      step (vars text ts d ty.next) _ g e (λ vs got e1.
      step_mark ts m.Semicolon vs.next _ g e1 (λ semi same.
      let made : record { tree = t.AField (record { node = node_of text ts i (vs.next + 1); mods = ms; ty = ty.tree; vars = vs.tree }); next = vs.next + 1 } ≡ g = cc in
      let p = vars_fine text ts (types_fine text ts) (exprs_fine text ts) d ty.next vs (omega (arith, low)) got in
      subst (λ (y : Part Member). IsMember text ts y.tree i y.next × (member_depth y.tree ≤ d)) made (
        record {
          node = refl;
          type_at = a;
          mods = front;
          vars_at = ty.next;
          type = is;
          end = vs.next;
          vars = p.0;
          semicolon = semi;
          next = refl;
        },
        omega (arith, low, p.1),
      )))

  typed_fine : (d i : ℕ) (ms : Part (List Mod)) (g : Part Member) → AreMods text ts ms.tree i ms.next → typed text ts d i ms ≡ Some g → IsMemberBelow d g.tree i g.next
  unfolding typed
  typed_fine d i ms g front e =
      step (type_under text ts d ms.next) _ g e (λ ty got e1.
      let p = types_fine text ts d ms.next ty got in
      step_either (is_called text ts ty.next) _ _ g e1
      (λ called e2. method_fine d i ms.tree false (record { tree = Some ty.tree; next = ty.next }) g ms.next front p.0 (omega (arith, p.1)) e2)
      (λ other e2. field_fine d i ms.tree ty g ms.next front p.0 p.1 e2))

  member_fine : (d i : ℕ) (g : Part Member) → member text ts d i ≡ Some g → IsMemberBelow d g.tree i g.next
  unfolding member member_behind
  member_fine d i g e =
      let ms = mods_from text ts i in
      step_either (is_called text ts (mods_from text ts i).next) _ _ g e
      (λ called e1. method_fine d i (mods_from text ts i).tree true (record { tree = None; next = (mods_from text ts i).next }) g (mods_from text ts i).next (mods_are i) refl (omega arith) e1)
      (λ other e1.
      step_given (after_keyword ts kw.Void (mods_from text ts i).next) _ _ g e1
      (λ a is e2.
      let at = after_keyword_says ts kw.Void (mods_from text ts i).next a is in
      method_fine d i (mods_from text ts i).tree false (record { tree = None; next = a }) g (mods_from text ts i).next (mods_are i) (at.0, at.1) (omega arith) e2)
      (λ none e2. typed_fine d i (mods_from text ts i) g (mods_are i) e2))

  -- ---- types

  -- with `;` before it
  pub record Spaced {A : Type 0} (P : A → ℕ → ℕ → Type 0) (x : A) (i j : ℕ) : Type 0 where
    pub many : ℕ
    pub begin : ℕ
    pub semicolons : AreSemicolons text ts many i begin
    pub is : P x begin j

  next_member_fine : (d i : ℕ) (g : Part Member) → next_member text ts d i ≡ Some g → Spaced (IsMemberBelow d) g.tree i g.next
  unfolding next_member
  next_member_fine d i g e =
      let k = past_is i in
      record { many = k.0; begin = past_from text ts i; semicolons = k.1; is = member_fine d (past_from text ts i) g e }

  members_are : (d : ℕ) (xs : List Member) (i j : ℕ) (n k : ℕ) → Run text ts (Spaced (IsMemberBelow d)) xs i j → AreSemicolons text ts n j k → AreMembers text ts xs i k × (below_members xs ≤ d + 1)
  unfolding IsMemberBelow
  members_are d [] i j n k r semis = ((n, subst (λ b. AreSemicolons text ts n b k) r semis), omega arith)
  members_are d (x ∷ xs) i j n k (a, p, r) semis =
      let v = members_are d xs a j n k r semis in
      let q = p.is in
      ((p.many, p.begin, p.semicolons, a, q.0, v.0), omega (arith, q.1, v.1))

  members_in_fine : (d i : ℕ) (g : Part (List Member)) → members_in text ts d i ≡ Some g
      → (end : ℕ) × (sort_at ts i ≡ s.Mark m.LeftBrace) × AreMembers text ts g.tree (i + 1) end × (sort_at ts end ≡ s.Mark m.RightBrace) × (g.next ≡ end + 1) × (below_members g.tree ≤ d + 1)
  unfolding members_in members
  members_in_fine d i g e =
      step_mark ts m.LeftBrace i _ g e (λ open_is e1.
      step (many text ts (members_end text ts) (next_member text ts d) (length ts + 1) [] (i + 1)) _ g e1 (λ xs got e2.
      step_mark ts m.RightBrace (past_from text ts xs.next) _ g e2 (λ close_is same.
      let made : record { tree = xs.tree; next = past_from text ts xs.next + 1 } ≡ g = cc in
      let r = many_fine text ts (Spaced (IsMemberBelow d)) (next_member text ts d) (next_member_fine d) (members_end text ts) (length ts + 1) [] (i + 1) xs got in
      let k = past_is xs.next in
      let v = members_are d r.run (i + 1) xs.next k.0 (past_from text ts xs.next) r.spells k.1 in
      subst (λ (y : Part (List Member)). (end : ℕ) × (sort_at ts i ≡ s.Mark m.LeftBrace) × AreMembers text ts y.tree (i + 1) end × (sort_at ts end ≡ s.Mark m.RightBrace) × (y.next ≡ end + 1) × (below_members y.tree ≤ d + 1)) made
      (rw r.trees (past_from text ts xs.next, open_is, v.0, close_is, refl, v.1)))))

  kind_fine : (i : ℕ) (g : Part Bool) → kind text ts i ≡ Some g → (sort_at ts i ≡ s.Keyword (if g.tree then kw.Interface else kw.Class)) × (g.next ≡ i + 1)
  unfolding kind
  kind_fine i g e =
      step_given (after_keyword ts kw.Interface i) _ _ g e
      (λ a is same.
      let at = after_keyword_says ts kw.Interface i a is in
      let made : record { tree = true; next = a } ≡ g = cc in
      subst (λ (y : Part Bool). (sort_at ts i ≡ s.Keyword (if y.tree then kw.Interface else kw.Class)) × (y.next ≡ i + 1)) made at)
      (λ none e1.
      step_keyword ts kw.Class i _ g e1 (λ is same.
      let made : record { tree = false; next = i + 1 } ≡ g = cc in
      subst (λ (y : Part Bool). (sort_at ts i ≡ s.Keyword (if y.tree then kw.Interface else kw.Class)) × (y.next ≡ i + 1)) made (is, refl)))

  record IsParent (d i : ℕ) (g : Part (List TypeExpr)) : Type 0 where
    behind : AreBehind text ts kw.Extends g.tree i g.next
    few : (x y : TypeExpr) (ys : List TypeExpr) → g.tree ≡ x ∷ y ∷ ys → ⊥
    low : below_list g.tree ≤ d

  parent_fine : (d i : ℕ) (g : Part (List TypeExpr)) → parent text ts d i ≡ Some g → IsParent d i g
  unfolding parent IsClass
  parent_fine d i g e =
      step_given (after_keyword ts kw.Extends i) _ _ g e
      (λ a is e1.
      let at = after_keyword_says ts kw.Extends i a is in
      step (class_under text ts d a) _ g e1 (λ x got same.
      let made : record { tree = x.tree ∷ []; next = x.next } ≡ g = cc in
      let p = class_fine d a x got in
      subst (IsParent d i) made
      (record { behind = (at.0, subst (λ b. IsRef text ts x.tree b x.next) at.1 p.0); few = λ x y ys e. cc; low = omega (arith, p.1) })))
      (λ none same.
      let made : record { tree = []; next = i } ≡ g = cc in
      subst (IsParent d i) made (record { behind = refl; few = λ x y ys e. cc; low = omega arith }))

  above_class : (up over : List TypeExpr) (i a j : ℕ) → ((x y : TypeExpr) (ys : List TypeExpr) → up ≡ x ∷ y ∷ ys → ⊥) → AreBehind text ts kw.Extends up i a → AreBehind text ts kw.Implements over a j
      → AreAbove text ts false up over i j
  above_class [] over i a j few p q = (a, p, q)
  above_class (x ∷ []) over i a j few p q = (a, p, q)
  above_class (x ∷ y ∷ ys) over i a j few p q = absurd (few x y ys refl)

  above_fine : (k : Bool) (d i : ℕ) (up over : Part (List TypeExpr)) → extends text ts k d i ≡ Some up → implements text ts k d up.next ≡ Some over
      → AreAbove text ts k up.tree over.tree i over.next × (below_list up.tree ≤ d) × (below_list over.tree ≤ d)
  unfolding extends implements
  above_fine true d i up over e e1 =
      let made : record { tree = []; next = up.next } ≡ over = cc in
      let p = behind_fine kw.Extends d i up e in
      subst (λ (y : Part (List TypeExpr)). AreAbove text ts true up.tree y.tree i y.next × (below_list up.tree ≤ d) × (below_list y.tree ≤ d)) made (p.0, p.1, omega arith)
  above_fine false d i up over e e1 =
      let p = parent_fine d i up e in
      let q = behind_fine kw.Implements d up.next over e1 in
      (above_class up.tree over.tree i up.next over.next p.few p.behind q.0, p.low, q.1)

  IsDeclBelow : ℕ → TypeDecl → ℕ → ℕ → Type 0
  IsDeclBelow d x i j = IsDecl text ts x i j × (decl_depth x ≤ d)

  decl_behind_fine : (d i : ℕ) (ms : List Mod) (k : Part Bool) (g : Part TypeDecl) (a : ℕ) → 0 < d → AreMods text ts ms i a → sort_at ts a ≡ s.Keyword (if k.tree then kw.Interface else kw.Class)
      → k.next ≡ a + 1 → decl_behind text ts d i ms k ≡ Some g → IsDeclBelow d g.tree i g.next
  unfolding decl_behind IsDeclBelow
  decl_behind_fine d i ms k g a some front word place e =
      step_word ts k.next _ g e (λ name e1.
      step (type_params text ts (k.next + 1)) _ g e1 (λ ps got_ps e2.
      step (extends text ts k.tree d ps.next) _ g e2 (λ up got_up e3.
      step (implements text ts k.tree d up.next) _ g e3 (λ over got_over e4.
      step (members_in text ts (d - 1) over.next) _ g e4 (λ xs got_xs same.
      let made : record {
        tree = record {
          node = node_of text ts i xs.next;
          mods = ms;
          interface = k.tree;
          name = id_at ts k.next;
          name_end = to_at ts k.next;
          params = ps.tree;
          extends = up.tree;
          implements = over.tree;
          members = xs.tree;
        };
        next = xs.next;
      } ≡ g = cc in
      let two : k.next + 1 ≡ a + 2 = omega (arith, place) in
      let p = type_params_fine (k.next + 1) ps got_ps in
      let q = above_fine k.tree d ps.next up over got_up got_over in
      let r = members_in_fine (d - 1) over.next xs got_xs in
      subst (λ (y : Part TypeDecl). IsDecl text ts y.tree i y.next × (decl_depth y.tree ≤ d)) made (
        record {
          node = refl;
          word_at = a;
          mods = front;
          word = word;
          name = rw (← place) (name, refl);
          name_end = rw place refl;
          above_at = ps.next;
          params = subst (λ b. AreTypeParams text ts ps.tree b ps.next) two p;
          brace_at = over.next;
          above = q.0;
          brace = r.1;
          end = r.0;
          members = r.2;
          close = r.3;
          next = r.4;
        },
        omega (arith, q.1, q.2, r.5),
      ))))))

  decl_fine : (d i : ℕ) (g : Part TypeDecl) → 0 < d → decl text ts d i ≡ Some g → IsDeclBelow d g.tree i g.next
  unfolding decl
  decl_fine d i g some e =
      step (kind text ts (mods_from text ts i).next) _ g e (λ k got e1.
      let p = kind_fine (mods_from text ts i).next k got in
      decl_behind_fine d i (mods_from text ts i).tree k g (mods_from text ts i).next some (mods_are i) p.0 p.1 e1)

  -- ---- files

  next_decl_fine : (d i : ℕ) (g : Part TypeDecl) → 0 < d → next_decl text ts d i ≡ Some g → Spaced (IsDeclBelow d) g.tree i g.next
  unfolding next_decl
  next_decl_fine d i g some e =
      let k = past_is i in
      record { many = k.0; begin = past_from text ts i; semicolons = k.1; is = decl_fine d (past_from text ts i) g some e }

  decls_are : (d : ℕ) (xs : List TypeDecl) (i j : ℕ) (n k : ℕ) → Run text ts (Spaced (IsDeclBelow d)) xs i j → AreSemicolons text ts n j k → AreDecls text ts xs i k × (below_decls xs ≤ d + 1)
  unfolding IsDeclBelow
  decls_are d [] i j n k r semis = ((n, subst (λ b. AreSemicolons text ts n b k) r semis), omega arith)
  decls_are d (x ∷ xs) i j n k (a, p, r) semis =
      let v = decls_are d xs a j n k r semis in
      let q = p.is in
      ((p.many, p.begin, p.semicolons, a, q.0, v.0), omega (arith, q.1, v.1))

  end_says : (i : ℕ) → decls_end text ts i ≡ true → past_from text ts i ≡ length ts
  unfolding decls_end
  end_says i e = grind (arith, nat_tests)

  decls_fine : (d i : ℕ) (g : Part (List TypeDecl)) → 0 < d → decls text ts d i ≡ Some g → AreDecls text ts g.tree i (length ts) × (below_decls g.tree ≤ d + 1)
  unfolding decls
  decls_fine d i g some e =
      let r = many_fine text ts (Spaced (IsDeclBelow d)) (next_decl text ts d) (λ i g e. next_decl_fine d i g some e) (decls_end text ts) (length ts + 1) [] i g e in
      let k = past_is g.next in
      let v = decls_are d r.run i g.next k.0 (length ts) r.spells (subst (λ b. AreSemicolons text ts k.0 g.next b) (end_says g.next r.stop) k.1) in
      rw r.trees v

  all_fine : (i : ℕ) → IsAll text ts (all_at text ts i).tree i (all_at text ts i).next
  unfolding all_at
  all_fine i = by_test (is_mark ts m.Dot i && is_infix ts op.Mul (i + 1)) refl
    where
      by_test : (b : Bool) → (is_mark ts m.Dot i && is_infix ts op.Mul (i + 1)) ≡ b
          → IsAll text ts (cond {A = Part Bool} b (record { tree = true; next = i + 2 }) (record { tree = false; next = i })).tree i (cond {A = Part Bool} b (record { tree = true; next = i + 2 }) (record { tree = false; next = i })).next
      by_test true e = both_true _ _ e (λ p q. (is_mark_says ts m.Dot i p, is_infix_says ts op.Mul (i + 1) q, refl))
      by_test false e = refl

  import_fine : (i : ℕ) (g : Part Import) → one_import text ts i ≡ Some g → IsImport text ts g.tree i g.next
  unfolding one_import
  import_fine i g e =
      step_keyword ts kw.Import i _ g e (λ word e1.
      step (ids_from text ts m.Dot (i + 1)) _ g e1 (λ p got e2.
      step_mark ts m.Semicolon (all_at text ts p.next).next _ g e2 (λ semi same.
      let made : record {
        tree = record { node = node_of text ts i ((all_at text ts p.next).next + 1); path = p.tree; all = (all_at text ts p.next).tree };
        next = (all_at text ts p.next).next + 1;
      } ≡ g = cc in
      subst (λ (y : Part Import). IsImport text ts y.tree i y.next) made
      (record {
        node = refl;
        word = word;
        path_end = p.next;
        path = dot_ids p.tree (i + 1) p.next (ids_are m.Dot (i + 1) p got);
        end = (all_at text ts p.next).next;
        all = all_fine p.next;
        semicolon = semi;
        next = refl;
      }))))

  imports_are : (xs : List Import) (i j : ℕ) → Run text ts (IsImport text ts) xs i j → AreImports text ts xs i j
  imports_are [] i j r = r
  imports_are (x ∷ xs) i j (a, p, r) = (a, p, imports_are xs a j r)

  imports_fine : (i : ℕ) (g : Part (List Import)) → imports text ts i ≡ Some g → AreImports text ts g.tree i g.next
  unfolding imports
  imports_fine i g e =
      let r = many_fine text ts (IsImport text ts) (one_import text ts) import_fine (imports_end text ts) (length ts + 1) [] i g e in
      rw r.trees (imports_are r.run i g.next r.spells)

  package_from : (xs : List Name) (i a : ℕ) → sort_at ts i ≡ s.Keyword kw.Package → IsPath text ts xs (i + 1) a → sort_at ts a ≡ s.Mark m.Semicolon → IsPackage text ts xs i (a + 1)
  package_from [] i a word p semi = absurd p
  package_from (x ∷ xs) i a word p semi = (word, a, p, semi, refl)

  package_fine : (i : ℕ) (g : Part (List Name)) → package_name text ts i ≡ Some g → IsPackage text ts g.tree i g.next
  unfolding package_name
  package_fine i g e =
      step_given (after_keyword ts kw.Package i) _ _ g e
      (λ a is e1.
      let at = after_keyword_says ts kw.Package i a is in
      step (ids_from text ts m.Dot a) _ g e1 (λ p got e2.
      step_mark ts m.Semicolon p.next _ g e2 (λ semi same.
      let made : record { tree = p.tree; next = p.next + 1 } ≡ g = cc in
      let path = subst (λ b. IsPath text ts p.tree b p.next) at.1 (dot_ids p.tree a p.next (ids_are m.Dot a p got)) in
      subst (λ (y : Part (List Name)). IsPackage text ts y.tree i y.next) made (package_from p.tree i p.next at.0 path semi))))
      (λ none same.
      let made : record { tree = []; next = i } ≡ g = cc in
      subst (λ (y : Part (List Name)). IsPackage text ts y.tree i y.next) made refl)

  imports_low : (xs : List Import) → below_imports xs ≤ 1
  imports_low [] = omega arith
  imports_low (x ∷ xs) = omega arith

  pub unit_fine : (d : ℕ) (x : SourceUnit) → 1 < d → unit text ts d ≡ Some x → SpellsUnit text ts x × (unit_depth x ≤ d)
  unfolding unit
  unit_fine d x some e =
      step (package_name text ts 0) _ x e (λ p got_p e1.
      step (imports text ts p.next) _ x e1 (λ is got_is e2.
      step (decls text ts (d - 1) is.next) _ x e2 (λ ds got_ds same.
      let made : record { node = node_of text ts 0 (length ts); «package» = p.tree; imports = is.tree; types = ds.tree } ≡ x = cc in
      let q = decls_fine (d - 1) is.next ds (omega arith) got_ds in
      subst (λ (y : SourceUnit). SpellsUnit text ts y × (unit_depth y ≤ d)) made (
        record {
          node = refl;
          imports_at = p.next;
          named = package_fine 0 p got_p;
          types_at = is.next;
          imports = imports_fine p.next is got_is;
          types = q.0;
        },
        omega (arith, imports_low is.tree, q.1),
      ))))
