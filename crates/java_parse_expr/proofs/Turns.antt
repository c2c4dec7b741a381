-- Turns of loops that read lists.
use Rattle.std.proofs.Common.{◌≡◌, ℕ, suc, ◌+◌, ◌-◌, ◌<◌, Bool, true, false, List, [], ◌∷◌, ◌++◌, map, Option, Some, None, refl, sym, ap, ◌∙◌, arith}
use Rattle.std.proofs.lemmas.List.{map-append}
use Rattle.java_grammar.specs.declared.token.Tok.{Tok}
use Rattle.java_grammar.specs.declared.token.Mark.TheVariants as m
use Rattle.java_grammar.specs.declared.token.Keyword.TheVariants as kw
use Rattle.java_parse_term.specs.Marks.{after_mark, is_keyword}
use Rattle.java_parse_expr.specs.declared.got.Got.{Got}
use Rattle.java_parse_expr.specs.Parse.{Part, more, many, is_label, is_no_label, is_no_catch, level, under}
use Rattle.java_parse_expr.specs.Seen.{seen}

module _ (text : List ℕ) (ts : List Tok) where
  -- with one item more
  pub more_on : {A : Type 0} (item : ℕ → Option (Part A)) (n : ℕ) (xs : List A) (i a : ℕ) (g : Part A) → after_mark ts m.Comma i ≡ Some a → item a ≡ Some g
      → more text ts item (suc n) xs i ≡ more text ts item n (xs ++ g.tree ∷ []) g.next
  unfolding more
  more_on item n xs i a g comma read = rw (comma, read) refl

  pub more_end : {A : Type 0} (item : ℕ → Option (Part A)) (n : ℕ) (xs : List A) (i : ℕ) → after_mark ts m.Comma i ≡ None
      → more text ts item (suc n) xs i ≡ Some (record { tree = xs; next = i })
  unfolding more
  more_end item n xs i comma = rw comma refl

  pub many_on : {A : Type 0} (ends : ℕ → Bool) (item : ℕ → Option (Part A)) (n : ℕ) (xs : List A) (i : ℕ) (g : Part A) → ends i ≡ false → item i ≡ Some g
      → many text ts ends item (suc n) xs i ≡ many text ts ends item n (xs ++ g.tree ∷ []) g.next
  unfolding many
  many_on ends item n xs i g test read = rw (test, read) refl

  pub many_end : {A : Type 0} (ends : ℕ → Bool) (item : ℕ → Option (Part A)) (n : ℕ) (xs : List A) (i : ℕ) → ends i ≡ true
      → many text ts ends item (suc n) xs i ≡ Some (record { tree = xs; next = i })
  unfolding many
  many_end ends item n xs i test = rw test refl

  -- the same beside a loop that counts up
  module _ {X A : Type 0} (view : X → A) (item : ℕ → Option (Part A)) (n turn : ℕ) (below : turn < n) (whole : Option (Part (List A)))
      (done new : Got (List X)) (one : Got X) (grown : new ≡ record { tree = done.tree ++ one.tree ∷ []; next = one.next }) where
    pub more_turn : (a : ℕ) → whole ≡ more text ts item (n - turn) (map view done.tree) done.next → Some a ≡ after_mark ts m.Comma done.next → item a ≡ Some (seen view one)
        → whole ≡ more text ts item (n - (turn + 1)) (map view new.tree) new.next
    more_turn a e comma read =
        let left : n - turn ≡ suc (n - (turn + 1)) = omega arith in
        let trees : map view done.tree ++ view one.tree ∷ [] ≡ map view (done.tree ++ one.tree ∷ []) = sym (map-append view done.tree (one.tree ∷ [])) in
        e ∙ ap (λ k. more text ts item k (map view done.tree) done.next) left ∙ more_on item (n - (turn + 1)) (map view done.tree) done.next a (seen view one) (sym comma) read
        ∙ ap (λ xs. more text ts item (n - (turn + 1)) xs one.next) trees ∙ ap (λ (g : Got (List X)). more text ts item (n - (turn + 1)) (map view g.tree) g.next) (sym grown)

    pub many_turn : (ends : ℕ → Bool) → whole ≡ many text ts ends item (n - turn) (map view done.tree) done.next → ends done.next ≡ false → item done.next ≡ Some (seen view one)
        → whole ≡ many text ts ends item (n - (turn + 1)) (map view new.tree) new.next
    many_turn ends e test read =
        let left : n - turn ≡ suc (n - (turn + 1)) = omega arith in
        let trees : map view done.tree ++ view one.tree ∷ [] ≡ map view (done.tree ++ one.tree ∷ []) = sym (map-append view done.tree (one.tree ∷ [])) in
        e ∙ ap (λ k. many text ts ends item k (map view done.tree) done.next) left ∙ many_on ends item (n - (turn + 1)) (map view done.tree) done.next (seen view one) test read
        ∙ ap (λ xs. many text ts ends item (n - (turn + 1)) xs one.next) trees ∙ ap (λ (g : Got (List X)). many text ts ends item (n - (turn + 1)) (map view g.tree) g.next) (sym grown)

  pub labelled : (i : ℕ) (b : Bool) → b ≡ is_label text ts i → b ≡ true → is_no_label text ts i ≡ false
  unfolding is_no_label
  labelled i b e there = rw (← e, there) refl

  pub caught_there : (i : ℕ) (b : Bool) → b ≡ is_keyword ts kw.Catch i → b ≡ true → is_no_catch text ts i ≡ false
  unfolding is_no_catch
  caught_there i b e there = rw (← e, there) refl

  -- ---- one depth less

  pub under_inner : (n : ℕ) (inner w : Bool) (i : ℕ) → (n ≡ 0 → ⊥) → inner ≡ true → under text ts n inner w i ≡ under text ts (n - 1) false w i
  unfolding under
  under_inner n inner w i some there =
      let deeper : n ≡ suc (n - 1) = omega arith in
      ap (λ k. under text ts k inner w i) deeper ∙ ap (λ b. under text ts (suc (n - 1)) b w i) there

  pub under_level : (n : ℕ) (inner w : Bool) (i : ℕ) → (n ≡ 0 → ⊥) → inner ≡ false → under text ts n inner w i ≡ level text ts (n - 1) (under text ts (n - 1)) w i
  unfolding under
  under_level n inner w i some outer =
      let deeper : n ≡ suc (n - 1) = omega arith in
      ap (λ k. under text ts k inner w i) deeper ∙ ap (λ b. under text ts (suc (n - 1)) b w i) outer
