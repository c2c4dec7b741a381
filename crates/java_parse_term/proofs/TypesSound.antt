-- What is read as a type is one.
use Rattle.std.proofs.Common.{◌≡◌, ℕ, zero, suc, ◌+◌, ◌<◌, ◌≤◌, max, Bool, true, false, List, [], ◌∷◌, ◌++◌, length, Option, Some, None, refl, sym, ap, subst, ◌∙◌, arith, nat_lt, ◌==◌, append_assoc, append-nil, add-one, add-zero}
use Rattle.std.proofs.lemmas.Bool.Decides.{nat_tests}
use Rattle.java_tree.specs.declared.tree.Name.{Name}
use Rattle.java_tree.specs.declared.tree.Head.{Head}
use Rattle.java_tree.specs.declared.tree.Head.TheVariants as head
use Rattle.java_tree.specs.declared.tree.Primitive.{Primitive}
use Rattle.java_tree.specs.declared.tree.Primitive.TheVariants as prim
use Rattle.java_tree.specs.declared.tree.BinOp.TheVariants as op
use Rattle.java_tree.specs.Plain as t
use Rattle.java_tree.specs.Plain.{TypeExpr, TypeExprs}
use Rattle.java_tree.specs.View.{types}
use Rattle.java_grammar.specs.declared.token.Tok.{Tok}
use Rattle.java_grammar.specs.declared.token.Sort.{Sort}
use Rattle.java_grammar.specs.declared.token.Sort.TheVariants as s
use Rattle.java_grammar.specs.declared.token.Keyword.TheVariants as word
use Rattle.java_grammar.specs.declared.token.Mark.TheVariants as m
use Rattle.java_grammar.specs.Reads.{sort_at}
use Rattle.java_grammar.specs.Heights.{type_depth, below_types}
use Rattle.java_grammar.specs.Expressions.{word_of, IsPrimitive, HasBrackets, HasNoArguments, NamesClass, Stands, IsId, AreBrackets, IsPath, IsHead, SpellsType, AreArguments, AreMoreTypes}
use Rattle.java_parse_term.specs.Marks.{◌>>=◌, given, after_mark, after_infix, after_word, dotted}
use Rattle.java_parse_term.specs.Signs.{standing}
use Rattle.java_parse_term.specs.Types.{Read, primitive_of, is_path, is_primitive, has_brackets, names_class, id_at, path, type_head, pair_end, brackets, written, no_types, bare_type, first_argument, argument, more_types, arguments, type_rule, read_type}
use Rattle.java_parse_term.proofs.Steps.{after_mark_says, after_infix_says, dotted_says, step, step_unless, step_given, step_mark, step_word, step_rise}

-- ---- tests of trees

pub primitive_says : (x : Sort) (p : Primitive) → primitive_of x ≡ Some p → x ≡ s.Keyword (word_of p)
primitive_says (s.Keyword word.Int) p e = let is : prim.Int ≡ p = cc in rw (← is) refl
primitive_says (s.Keyword word.Long) p e = let is : prim.Long ≡ p = cc in rw (← is) refl
primitive_says (s.Keyword word.Char) p e = let is : prim.Char ≡ p = cc in rw (← is) refl
primitive_says (s.Keyword word.Boolean) p e = let is : prim.Boolean ≡ p = cc in rw (← is) refl
primitive_says _ p e = absurd (cc)

pub zero_says : (d : ℕ) → (d == 0) ≡ true → d ≡ 0
zero_says d e = grind (arith, nat_tests)

pub zero_has : (d : ℕ) → d ≡ 0 → (d == 0) ≡ true
zero_has d e = grind (arith, nat_tests)

pub is_primitive_says : (x : TypeExpr) → is_primitive x ≡ true → IsPrimitive x
is_primitive_says (t.Written n (head.Prim p) span args d) e = zero_says d e
is_primitive_says (t.Written n (head.Path xs) span args d) e = absurd (cc)

pub is_primitive_has : (x : TypeExpr) → IsPrimitive x → is_primitive x ≡ true
is_primitive_has (t.Written n (head.Prim p) span args d) e = zero_has d e
is_primitive_has (t.Written n (head.Path xs) span args d) e = absurd e

pub no_primitive : (x : TypeExpr) → is_primitive x ≡ false → IsPrimitive x → ⊥
no_primitive x e h = let both = sym e ∙ is_primitive_has x h in cc

pub names_class_says : (x : TypeExpr) → names_class x ≡ true → NamesClass x
names_class_says (t.Written n (head.Path xs) span args d) e = zero_says d e
names_class_says (t.Written n (head.Prim p) span args d) e = absurd (cc)

pub names_class_has : (x : TypeExpr) → NamesClass x → names_class x ≡ true
names_class_has (t.Written n (head.Path xs) span args d) e = zero_has d e
names_class_has (t.Written n (head.Prim p) span args d) e = absurd e

pub has_brackets_says : (x : TypeExpr) → has_brackets x ≡ true → HasBrackets 0 x → ⊥
has_brackets_says (t.Written n h span args d) e none = let some : 0 < d = grind (arith, nat_tests) in omega arith

pub no_brackets_says : (x : TypeExpr) → has_brackets x ≡ false → HasBrackets 0 x
no_brackets_says (t.Written n h span args d) e = grind (arith, nat_tests)

pub has_brackets_has : (x : TypeExpr) → (HasBrackets 0 x → ⊥) → has_brackets x ≡ true
has_brackets_has (t.Written n h span args d) some = by_dims d some
  where
    by_dims : (d : ℕ) → (d ≡ 0 → ⊥) → nat_lt 0 d ≡ true
    by_dims zero some = absurd (some refl)
    by_dims (suc d) some = grind (arith, nat_tests)

pub no_brackets_has : (x : TypeExpr) → HasBrackets 0 x → has_brackets x ≡ false
no_brackets_has (t.Written n h span args d) e = grind (arith, nat_tests)

-- ---- what is read

module _ (text : List ℕ) (ts : List Tok) where
  pub path_longer : (x : Name) (rest : List Name) (i j : ℕ) → IsId text ts x i → Stands text ts (s.Mark m.Dot) (i + 1) → IsPath text ts rest (i + 2) j
      → IsPath text ts (x ∷ rest) i j
  path_longer x [] i j id dot h = absurd h
  path_longer x (y ∷ ys) i j id dot h = (id, dot, h)

  -- identifiers, of which some were read before
  record FinePath (before : List Name) (i : ℕ) (g : Read (List Name)) : Type 0 where
    rest : List Name
    names : g.tree ≡ before ++ rest
    is : IsPath text ts rest i g.next

  path_fine : (n : ℕ) (before : List Name) (i : ℕ) (g : Read (List Name)) → path ts n before i ≡ Some g → FinePath before i g
  unfolding path
  path_fine zero before i g e = absurd (cc)
  path_fine (suc n) before i g e = by_dot (λ j e. path_fine n (before ++ id_at ts i ∷ []) j g e) e
    where
      by_dot : ((j : ℕ) → path ts n (before ++ id_at ts i ∷ []) j ≡ Some g → FinePath (before ++ id_at ts i ∷ []) j g)
          → (after_word ts i >>= (λ next. given (dotted ts next) (path ts n (before ++ id_at ts i ∷ [])) (Some (record { tree = before ++ id_at ts i ∷ []; depth = 0; next = next })))) ≡ Some g
          → FinePath before i g
      by_dot again e =
          step_word ts i _ g e (λ word e1.
          step_given (dotted ts (i + 1)) _ _ g e1
          (λ j is e2.
          let d = dotted_says ts (i + 1) j is in
          let r = again j e2 in
          let two : j ≡ i + 2 = omega (arith, d.2) in
          let more : IsPath text ts r.rest (i + 2) g.next = subst (λ p. IsPath text ts r.rest p g.next) two r.is in
          record {
            rest = id_at ts i ∷ r.rest;
            names = r.names ∙ append_assoc before (id_at ts i ∷ []) r.rest;
            is = path_longer (id_at ts i) r.rest i g.next (word, refl) d.0 more;
          })
          (λ none e2.
          let is : record { tree = before ++ id_at ts i ∷ []; depth = 0; next = i + 1 } ≡ g = cc in
          subst (FinePath before i) is (record { rest = id_at ts i ∷ []; names = refl; is = ((word, refl), refl) })))

  pub head_fine : (i : ℕ) (g : Read Head) → type_head ts i ≡ Some g → IsHead text ts g.tree i g.next
  unfolding type_head
  head_fine i g e =
      step_given (primitive_of (sort_at ts i)) _ _ g e
      (λ p is e1.
      let same : record { tree = head.Prim p; depth = 0; next = i + 1 } ≡ g = cc in
      subst (λ (x : Read Head). IsHead text ts x.tree i x.next) same (primitive_says _ p is, refl))
      (λ none e1.
      step (path ts (length ts) [] i) _ g e1 (λ x read e2.
      let r = path_fine (length ts) [] i x read in
      let same : record { tree = head.Path x.tree; depth = 0; next = x.next } ≡ g = cc in
      let names : IsPath text ts x.tree i x.next = rw r.names r.is in
      subst (λ (x : Read Head). IsHead text ts x.tree i x.next) same names))

  pub pair_says : (i j : ℕ) → pair_end ts i ≡ Some j → Stands text ts (s.Mark m.LeftBracket) i × Stands text ts (s.Mark m.RightBracket) (i + 1) × (j ≡ i + 2)
  unfolding pair_end
  pair_says i j e =
      step_mark ts m.LeftBracket i _ j e (λ open_is e1.
      let p = after_mark_says ts m.RightBracket (i + 1) j e1 in
      (open_is, p.0, omega (arith, p.1)))

  pub brackets_fine : (n d i : ℕ) → (k : ℕ) × ((brackets ts n d i).is ≡ d + k) × AreBrackets text ts k i (brackets ts n d i).next
  unfolding brackets
  brackets_fine zero d i = (0, sym (add-zero d), refl)
  brackets_fine (suc n) d i = by_pair (λ j. brackets_fine n (d + 1) j) (pair_end ts i) refl
    where
      by_pair : ((j : ℕ) → (k : ℕ) × ((brackets ts n (d + 1) j).is ≡ d + 1 + k) × AreBrackets text ts k j (brackets ts n (d + 1) j).next)
          → (o : Option ℕ) → pair_end ts i ≡ o
          → (k : ℕ) × ((given o (brackets ts n (d + 1)) (standing d i)).is ≡ d + k) × AreBrackets text ts k i (given o (brackets ts n (d + 1)) (standing d i)).next
      by_pair again None none = (0, sym (add-zero d), refl)
      by_pair again (Some j) pair =
          let p = pair_says i j pair in
          let r = again j in
          (suc r.0, omega (arith, r.1), (p.0, p.1, subst (λ q. AreBrackets text ts r.0 q (brackets ts n (d + 1) j).next) p.2 r.2))

  -- how many brackets `brackets` finds from the start
  pub brackets_are : (i : ℕ) → AreBrackets text ts (brackets ts (length ts) 0 i).is i (brackets ts (length ts) 0 i).next
  brackets_are i =
      let r = brackets_fine (length ts) 0 i in
      let same : r.0 ≡ (brackets ts (length ts) 0 i).is = omega (arith, r.1) in
      subst (λ k. AreBrackets text ts k i (brackets ts (length ts) 0 i).next) same r.2

  -- what was read spells its tokens, and is as deep as is said and less than the limit
  pub record FineType (limit i : ℕ) (g : Read TypeExpr) : Type 0 where
    pub spells : SpellsType text ts g.tree i g.next
    pub deep : g.depth ≡ type_depth g.tree
    pub low : g.depth < limit

  pub bare_fine : (i : ℕ) (g : Read TypeExpr) → bare_type ts i ≡ Some g → SpellsType text ts g.tree i g.next × HasNoArguments g.tree × (g.depth ≡ type_depth g.tree)
  unfolding bare_type
  bare_fine i g e =
      step (type_head ts i) _ g e (λ h read e1.
      let b = brackets ts (length ts) 0 h.next in
      let same : written ts i h (no_types ts h.next) b ≡ g = cc in
      subst (λ (x : Read TypeExpr). SpellsType text ts x.tree i x.next × HasNoArguments x.tree × (x.depth ≡ type_depth x.tree)) same
      ((refl, h.next, head_fine i h read, refl, h.next, refl, brackets_are h.next), refl, refl))

  pub first_argument_says : (path_is : Bool) (i j : ℕ) → first_argument ts path_is i ≡ Some j → (path_is ≡ true) × Stands text ts (s.Infix op.Less) i × (j ≡ i + 1)
  unfolding first_argument
  first_argument_says true i j e = let p = after_infix_says ts op.Less i j e in (refl, p.0, p.1)
  first_argument_says false i j e = absurd (cc)

  -- no arguments, or the first and more behind the head that a path is
  pub arguments_from : (h : Head) (i j a : ℕ) (x : TypeExpr) (rest : TypeExprs) → is_path h ≡ true → Stands text ts (s.Infix op.Less) i → SpellsType text ts x (i + 1) a
      → (IsPrimitive x → ⊥) → AreMoreTypes text ts rest a j → AreArguments text ts h (t.AndType x rest) i j
  arguments_from (head.Path xs) i j a x rest is less p no_prim more = (less, a, p, no_prim, more)
  arguments_from (head.Prim q) i j a x rest is less p no_prim more = absurd (cc)

  pub no_arguments : (h : Head) (i : ℕ) → AreArguments text ts h t.NoTypes i i
  no_arguments h i = refl

  module _ (limit : ℕ) (below : ℕ → Option (Read TypeExpr)) (fine : (i : ℕ) (g : Read TypeExpr) → below i ≡ Some g → FineType limit i g) where
    record FineArgument (i : ℕ) (g : Read TypeExpr) : Type 0 where
      spells : SpellsType text ts g.tree i g.next
      array : IsPrimitive g.tree → ⊥
      deep : g.depth ≡ type_depth g.tree + 1
      low : g.depth ≤ limit

    argument_fine : (i : ℕ) (g : Read TypeExpr) → argument ts limit below i ≡ Some g → FineArgument i g
    unfolding argument
    argument_fine i g e =
        step (below i) _ g e (λ x read e1.
        step_unless (is_primitive x.tree) _ g e1 (λ other e2.
        step_rise limit x.depth _ g e2 (λ low e3.
        let ok = fine i x read in
        let same : record { tree = x.tree; depth = x.depth + 1; next = x.next } ≡ g = cc in
        subst (FineArgument i) same (record { spells = ok.spells; array = no_primitive x.tree other; deep = ap (λ d. d + 1) ok.deep; low = omega arith }))))

    record FineMore (top i : ℕ) (before : List TypeExpr) (g : Read (List TypeExpr)) : Type 0 where
      rest : List TypeExpr
      trees : g.tree ≡ before ++ rest
      spells : AreMoreTypes text ts (types rest) i g.next
      deep : g.depth ≡ max top (below_types (types rest))
      low : top ≤ limit → g.depth ≤ limit

    more_fine : (n : ℕ) (before : List TypeExpr) (top i : ℕ) (g : Read (List TypeExpr)) → more_types ts limit below n before top i ≡ Some g → FineMore top i before g
    unfolding more_types
    more_fine zero before top i g e = absurd (cc)
    more_fine (suc n) before top i g e = by_end (λ more high at e. more_fine n more high at g e) e
      where
        by_end : ((more : List TypeExpr) (high at : ℕ) → more_types ts limit below n more high at ≡ Some g → FineMore high at more g)
            → given (after_infix ts op.Greater i) (λ next. Some (record { tree = before; depth = top; next = next }))
            (after_mark ts m.Comma i >>= argument ts limit below >>= (λ x. more_types ts limit below n (before ++ x.tree ∷ []) (max top x.depth) x.next)) ≡ Some g
            → FineMore top i before g
        by_end again e =
            step_given (after_infix ts op.Greater i) _ _ g e
            (λ next is e1.
            let p = after_infix_says ts op.Greater i next is in
            let same : record { tree = before; depth = top; next = next } ≡ g = cc in
            subst (FineMore top i before) same (record { rest = []; trees = sym (append-nil before); spells = (p.0, p.1); deep = omega arith; low = λ le. le }))
            (λ none e1.
            step (after_mark ts m.Comma i >>= argument ts limit below) _ g e1 (λ x got e2.
            step_mark ts m.Comma i _ x got (λ comma read.
            let ok = argument_fine (i + 1) x read in
            let r = again (before ++ x.tree ∷ []) (max top x.depth) x.next e2 in
            record {
              rest = x.tree ∷ r.rest;
              trees = r.trees ∙ append_assoc before (x.tree ∷ []) r.rest;
              spells = (comma, x.next, ok.spells, ok.array, r.spells);
              deep = omega (arith, r.deep, ok.deep);
              low = λ le. r.low (omega (arith, ok.low));
            })))

    arguments_fine : (h : Head) (i : ℕ) (g : Read (List TypeExpr)) → arguments ts limit below (is_path h) i ≡ Some g
        → AreArguments text ts h (types g.tree) i g.next × (g.depth ≡ below_types (types g.tree)) × (g.depth ≤ limit)
    unfolding arguments
    arguments_fine h i g e =
        step_given (first_argument ts (is_path h) i) _ _ g e
        (λ first is e1.
        step (argument ts limit below first) _ g e1 (λ x read e2.
        let p = first_argument_says (is_path h) i first is in
        let ok = argument_fine first x read in
        let r = more_fine (length ts) (x.tree ∷ []) x.depth x.next g e2 in
        let spells : SpellsType text ts x.tree (i + 1) x.next = subst (λ q. SpellsType text ts x.tree q x.next) p.2 ok.spells in
        (rw r.trees (arguments_from h i g.next x.next x.tree (types r.rest) p.0 p.1 spells ok.array r.spells), rw r.trees (omega (arith, r.deep, ok.deep)), r.low ok.low)))
        (λ none e1.
        let same : no_types ts i ≡ g = cc in
        subst (λ (x : Read (List TypeExpr)). AreArguments text ts h (types x.tree) i x.next × (x.depth ≡ below_types (types x.tree)) × (x.depth ≤ limit)) same
        (no_arguments h i, refl, omega arith))

    pub rule_fine : (i : ℕ) (g : Read TypeExpr) → type_rule ts limit below i ≡ Some g → FineType (limit + 1) i g
    unfolding type_rule
    rule_fine i g e =
        step (type_head ts i) _ g e (λ h read e1.
        step (arguments ts limit below (is_path h.tree) h.next) _ g e1 (λ args found e2.
        let ok = arguments_fine h.tree h.next args found in
        let same : written ts i h args (brackets ts (length ts) 0 args.next) ≡ g = cc in
        subst (FineType (limit + 1) i) same (record {
          spells = (refl, h.next, head_fine i h read, refl, args.next, ok.0, brackets_are args.next);
          deep = ok.1;
          low = omega (arith, ok.2);
        })))

  pub type_fine : (limit i : ℕ) (g : Read TypeExpr) → read_type ts limit i ≡ Some g → FineType limit i g
  unfolding read_type
  type_fine zero i g e = absurd (cc)
  type_fine (suc limit) i g e = subst (λ n. FineType n i g) (add-one limit) (rule_fine limit (read_type ts limit) (type_fine limit) i g e)
