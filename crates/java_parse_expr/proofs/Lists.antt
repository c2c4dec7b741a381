-- Lists that loops read: what they say, and that they are read.
use Rattle.std.proofs.Common.{◌≡◌, ◌≢◌, ℕ, zero, suc, ◌+◌, ◌<◌, ◌≤◌, Bool, true, false, cond, List, [], ◌∷◌, ◌++◌, length, Option, Some, refl, sym, ap, subst, ◌∙◌, arith, append_assoc, append-nil}
use Rattle.java_grammar.specs.declared.token.Tok.{Tok}
use Rattle.java_grammar.specs.declared.token.Sort.TheVariants as s
use Rattle.java_grammar.specs.declared.token.Mark.TheVariants as m
use Rattle.java_grammar.specs.Reads.{sort_at}
use Rattle.java_parse_term.specs.Marks.{◌>>=◌, given, after_mark}
use Rattle.java_parse_term.proofs.Steps.{step, step_given, after_mark_says, after_mark_has, after_mark_not}
use Rattle.java_parse_term.proofs.TypesComplete.{within}
use Rattle.java_parse_expr.specs.Parse.{Part, many, more, list_of}
use Rattle.java_parse_expr.proofs.Turns.{more_on, more_end, many_on, many_end}

-- what is to be read of a tree that ends before j
abbrev pub got : {A : Type 0} → A → ℕ → Option (Part A)
got x j = Some (record { tree = x; next = j })

module _ (text : List ℕ) (ts : List Tok) where
  module _ {A : Type 0} (P : A → ℕ → ℕ → Type 0) where
    -- behind the first one
    abbrev pub Rest : List A → ℕ → ℕ → Type 0
    Rest [] i j = j ≡ i
    Rest (x ∷ xs) i j = (sort_at ts i ≡ s.Mark m.Comma) × (a : ℕ) × P x (i + 1) a × Rest xs a j

    -- one after the other
    abbrev pub Run : List A → ℕ → ℕ → Type 0
    Run [] i j = j ≡ i
    Run (x ∷ xs) i j = (a : ℕ) × P x i a × Run xs a j

    pub record FineRest (xs : List A) (i : ℕ) (g : Part (List A)) : Type 0 where
      pub rest : List A
      pub trees : g.tree ≡ xs ++ rest
      pub spells : Rest rest i g.next

    pub record FineRun (ends : ℕ → Bool) (xs : List A) (i : ℕ) (g : Part (List A)) : Type 0 where
      pub run : List A
      pub trees : g.tree ≡ xs ++ run
      pub spells : Run run i g.next
      pub stop : ends g.next ≡ true

    module _ (item : ℕ → Option (Part A)) (fine : (i : ℕ) (g : Part A) → item i ≡ Some g → P g.tree i g.next) where
      more_fine : (n : ℕ) (xs : List A) (i : ℕ) (g : Part (List A)) → more text ts item n xs i ≡ Some g → FineRest xs i g
      unfolding more
      more_fine zero xs i g e = absurd (cc)
      more_fine (suc n) xs i g e = by_comma (λ ys a x. more_fine n ys a g x) e
        where
          by_comma : ((ys : List A) (a : ℕ) → more text ts item n ys a ≡ Some g → FineRest ys a g)
              → given (after_mark ts m.Comma i) (λ a. item a >>= (λ one. more text ts item n (xs ++ one.tree ∷ []) one.next)) (Some (record { tree = xs; next = i })) ≡ Some g
              → FineRest xs i g
          by_comma again e =
              step_given (after_mark ts m.Comma i) _ _ g e
              (λ a comma e1.
              let at = after_mark_says ts m.Comma i a comma in
              step (item a) _ g e1 (λ one got e2.
              let r = again (xs ++ one.tree ∷ []) one.next e2 in
              record {
                rest = one.tree ∷ r.rest;
                trees = r.trees ∙ append_assoc xs (one.tree ∷ []) r.rest;
                spells = (at.0, one.next, subst (λ b. P one.tree b one.next) at.1 (fine a one got), r.spells);
              }))
              (λ none e1.
              let is : record { tree = xs; next = i } ≡ g = cc in
              subst (FineRest xs i) is (record { rest = []; trees = sym (append-nil xs); spells = refl }))

      pub list_fine : (i : ℕ) (g : Part (List A)) → list_of text ts item i ≡ Some g → (x : A) × (ys : List A) × (a : ℕ) × (g.tree ≡ x ∷ ys) × P x i a × Rest ys a g.next
      unfolding list_of
      list_fine i g e =
          step (item i) _ g e (λ one got e1.
          let r = more_fine (length ts) (one.tree ∷ []) one.next g e1 in
          (one.tree, r.rest, one.next, r.trees, fine i one got, r.spells))

      pub many_fine : (ends : ℕ → Bool) (n : ℕ) (xs : List A) (i : ℕ) (g : Part (List A)) → many text ts ends item n xs i ≡ Some g → FineRun ends xs i g
      unfolding many
      many_fine ends zero xs i g e = absurd (cc)
      many_fine ends (suc n) xs i g e = by_test (λ ys a x. many_fine ends n ys a g x) (ends i) refl e
        where
          by_test : ((ys : List A) (a : ℕ) → many text ts ends item n ys a ≡ Some g → FineRun ends ys a g) → (b : Bool) → ends i ≡ b
              → cond b (Some (record { tree = xs; next = i })) (item i >>= (λ one. many text ts ends item n (xs ++ one.tree ∷ []) one.next)) ≡ Some g → FineRun ends xs i g
          by_test again true stop e =
              let is : record { tree = xs; next = i } ≡ g = cc in
              subst (FineRun ends xs i) is (record { run = []; trees = sym (append-nil xs); spells = refl; stop = stop })
          by_test again false stop e =
              step (item i) _ g e (λ one got e1.
              let r = again (xs ++ one.tree ∷ []) one.next e1 in
              record {
                run = one.tree ∷ r.run;
                trees = r.trees ∙ append_assoc xs (one.tree ∷ []) r.run;
                spells = (one.next, fine i one got, r.spells);
                stop = r.stop;
              })

    module _ (item : ℕ → Option (Part A)) (again : (x : A) (i j : ℕ) → P x i j → item i ≡ got x j) (on : (x : A) (i j : ℕ) → P x i j → i < j) where
      more_again : (xs ys : List A) (n i j : ℕ) → Rest xs i j → sort_at ts j ≢ s.Mark m.Comma → j ≤ length ts → length ts < n + i
          → more text ts item n ys i ≡ got (ys ++ xs) j
      more_again [] ys zero i j r ends low turns = absurd (omega arith)
      more_again (x ∷ xs) ys zero i j (comma, a, p, r) ends low turns = absurd (let here = within ts i (s.Mark m.Comma) comma (λ e. cc) in omega (arith, here))
      more_again [] ys (suc n) i j r ends low turns =
          rw (r, append-nil ys) (more_end text ts item n ys i (after_mark_not ts m.Comma i (λ e. ends (rw r e))))
      more_again (x ∷ xs) ys (suc n) i j (comma, a, p, r) ends low turns =
          let step_on = on x (i + 1) a p in
          more_on text ts item n ys i (i + 1) (record { tree = x; next = a }) (after_mark_has ts m.Comma i comma) (again x (i + 1) a p)
          ∙ more_again xs (ys ++ x ∷ []) n a j r ends low (omega (arith, step_on)) ∙ ap (λ zs. got zs j) (append_assoc ys (x ∷ []) xs)

      pub list_again : (x : A) (xs : List A) (i a j : ℕ) → P x i a → Rest xs a j → sort_at ts j ≢ s.Mark m.Comma → j ≤ length ts → list_of text ts item i ≡ got (x ∷ xs) j
      unfolding list_of
      list_again x xs i a j p r ends low =
          let step_on = on x i a p in
          rw (again x i a p) (more_again xs (x ∷ []) (length ts) a j r ends low (omega (arith, step_on)))

      Run-on : (xs : List A) (i j : ℕ) → Run xs i j → i ≤ j
      Run-on [] i j r = omega arith
      Run-on (x ∷ xs) i j (a, p, r) = omega (arith, on x i a p, Run-on xs a j r)

      pub many_again : (ends : ℕ → Bool) → ((x : A) (i j : ℕ) → P x i j → ends i ≡ false) → (xs ys : List A) (n i j : ℕ) → Run xs i j → ends j ≡ true → j ≤ length ts → length ts < n + i
          → many text ts ends item n ys i ≡ got (ys ++ xs) j
      many_again ends opens [] ys zero i j r stop low turns = absurd (omega arith)
      many_again ends opens (x ∷ xs) ys zero i j (a, p, r) stop low turns = absurd (omega (arith, on x i a p, Run-on xs a j r))
      many_again ends opens [] ys (suc n) i j r stop low turns = rw (r, append-nil ys) (many_end text ts ends item n ys i (rw (← r) stop))
      many_again ends opens (x ∷ xs) ys (suc n) i j (a, p, r) stop low turns =
          let step_on = on x i a p in
          many_on text ts ends item n ys i (record { tree = x; next = a }) (opens x i a p) (again x i a p)
          ∙ many_again ends opens xs (ys ++ x ∷ []) n a j r stop low (omega (arith, step_on)) ∙ ap (λ zs. got zs j) (append_assoc ys (x ∷ []) xs)
