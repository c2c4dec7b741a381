-- What tests of tokens say, and what a step that succeeded says.
use Rattle.std.proofs.Common.{◌≡◌, ◌≢◌, ℕ, ◌+◌, ◌<◌, Bool, true, false, cond, ◌&&◌, ◌||◌, List, Option, Some, None, refl, ap, arith, nat_lt, rules}
use Rattle.std.proofs.lemmas.Bool.Decides.{nat_tests}
use denote.Enum.Bare.{same_true}
use Rattle.java_tree.specs.contracts.tree.BinOp as op_type
use Rattle.java_tree.specs.declared.tree.BinOp.{BinOp}
use Rattle.java_tree.specs.declared.tree.BinOp.TheVariants as op
use Rattle.java_grammar.specs.contracts.token.Mark as mark_type
use Rattle.java_grammar.specs.contracts.token.Keyword as keyword_type
use Rattle.java_grammar.specs.declared.token.Tok.{Tok}
use Rattle.java_grammar.specs.declared.token.Sort.{Sort}
use Rattle.java_grammar.specs.declared.token.Sort.TheVariants as s
use Rattle.java_grammar.specs.declared.token.Keyword.{Keyword}
use Rattle.java_grammar.specs.declared.token.Keyword.TheVariants as word
use Rattle.java_grammar.specs.declared.token.Mark.{Mark}
use Rattle.java_grammar.specs.declared.token.Mark.TheVariants as m
use Rattle.java_grammar.specs.Reads.{sort_at}
use Rattle.java_parse_term.specs.Marks.{◌>>=◌, given, same_mark, same_keyword, same_op, mark_in, keyword_in, infix_in, word_in, is_mark, is_keyword, is_infix, is_word, after_mark, after_keyword, after_infix, after_word, dotted}
use Rattle.java_parse_term.specs.Types.{rise}

-- ---- tests

pub step : {A B Z : Type 0} (o : Option A) (f : A → Option B) (y : B) → (o >>= f) ≡ Some y → ((x : A) → o ≡ Some x → f x ≡ Some y → Z) → Z
step None f y e use_it = absurd (cc)
step (Some x) f y e use_it = use_it x refl e

pub both_true : {Z : Type 0} (a b : Bool) → (a && b) ≡ true → (a ≡ true → b ≡ true → Z) → Z
both_true true b e use_it = use_it refl e
both_true false b e use_it = absurd (cc)

pub some_true : {Z : Type 0} (a b : Bool) → (a || b) ≡ true → (a ≡ true → Z) → (b ≡ true → Z) → Z
some_true true b e first second = first refl
some_true false b e first second = second e

pub none_true : {Z : Type 0} (a b : Bool) → (a || b) ≡ false → (a ≡ false → b ≡ false → Z) → Z
none_true true b e use_it = absurd (cc)
none_true false b e use_it = use_it refl e

pub not_true : (b : Bool) → (b ≡ true → ⊥) → b ≡ false
not_true true no_true = absurd (no_true refl)
not_true false no_true = refl

pub no_and : (a b : Bool) → b ≡ false → (a && b) ≡ false
no_and true b e = e
no_and false b e = refl

pub mark_is : (a b : Mark) → same_mark a b ≡ true → a ≡ b
unfolding same_mark
mark_is a b e = same_true mark_type.the_type (search rules) a b e

pub mark_refl : (a : Mark) → same_mark a a ≡ true
unfolding same_mark
mark_refl m.Open = refl
mark_refl _ = refl

pub mark_in_says : (x : Mark) (t : Sort) → mark_in x t ≡ true → t ≡ s.Mark x
mark_in_says x (s.Mark y) e = ap s.Mark (mark_is y x e)
mark_in_says x _ e = absurd (cc)

pub keyword_is : (a b : Keyword) → same_keyword a b ≡ true → a ≡ b
unfolding same_keyword
keyword_is a b e = same_true keyword_type.the_type (search rules) a b e

pub keyword_refl : (a : Keyword) → same_keyword a a ≡ true
unfolding same_keyword
keyword_refl word.Abstract = refl
keyword_refl _ = refl

pub keyword_in_says : (x : Keyword) (t : Sort) → keyword_in x t ≡ true → t ≡ s.Keyword x
keyword_in_says x (s.Keyword y) e = ap s.Keyword (keyword_is y x e)
keyword_in_says x _ e = absurd (cc)

pub op_is : (a b : BinOp) → same_op a b ≡ true → a ≡ b
unfolding same_op
op_is a b e = same_true op_type.the_type (search rules) a b e

pub op_refl : (a : BinOp) → same_op a a ≡ true
unfolding same_op
op_refl op.LogicOr = refl
op_refl _ = refl

pub infix_in_says : (x : BinOp) (t : Sort) → infix_in x t ≡ true → t ≡ s.Infix x
infix_in_says x (s.Infix y) e = ap s.Infix (op_is y x e)
infix_in_says x _ e = absurd (cc)

pub word_in_says : (t : Sort) → word_in t ≡ true → t ≡ s.Word
word_in_says s.Word e = refl
word_in_says _ e = absurd (cc)

module _ (ts : List Tok) where
  pub is_mark_says : (x : Mark) (i : ℕ) → is_mark ts x i ≡ true → sort_at ts i ≡ s.Mark x
  unfolding is_mark
  is_mark_says x i e = mark_in_says x (sort_at ts i) e

  pub is_mark_has : (x : Mark) (i : ℕ) → sort_at ts i ≡ s.Mark x → is_mark ts x i ≡ true
  unfolding is_mark
  is_mark_has x i e = rw e (mark_refl x)

  pub is_mark_not : (x : Mark) (i : ℕ) → sort_at ts i ≢ s.Mark x → is_mark ts x i ≡ false
  is_mark_not x i other = not_true _ (λ e. other (is_mark_says x i e))

  pub after_mark_says : (x : Mark) (i j : ℕ) → after_mark ts x i ≡ Some j → (sort_at ts i ≡ s.Mark x) × (j ≡ i + 1)
  unfolding after_mark
  after_mark_says x i j e = by_test (is_mark ts x i) refl e
    where
      by_test : (b : Bool) → is_mark ts x i ≡ b → cond b (Some (i + 1)) None ≡ Some j → (sort_at ts i ≡ s.Mark x) × (j ≡ i + 1)
      by_test true is e = (is_mark_says x i is, cc)
      by_test false is e = absurd (cc)

  pub after_mark_has : (x : Mark) (i : ℕ) → sort_at ts i ≡ s.Mark x → after_mark ts x i ≡ Some (i + 1)
  unfolding after_mark
  after_mark_has x i e = rw (is_mark_has x i e) refl

  pub after_mark_not : (x : Mark) (i : ℕ) → sort_at ts i ≢ s.Mark x → after_mark ts x i ≡ None
  unfolding after_mark
  after_mark_not x i other = rw (is_mark_not x i other) refl

  pub step_mark : {B Z : Type 0} (x : Mark) (i : ℕ) (f : ℕ → Option B) (y : B) → (after_mark ts x i >>= f) ≡ Some y → (sort_at ts i ≡ s.Mark x → f (i + 1) ≡ Some y → Z) → Z
  step_mark x i f y e use_it = step (after_mark ts x i) f y e (λ j is e1. let p = after_mark_says x i j is in use_it p.0 (rw (← p.1) e1))

  pub is_keyword_says : (x : Keyword) (i : ℕ) → is_keyword ts x i ≡ true → sort_at ts i ≡ s.Keyword x
  unfolding is_keyword
  is_keyword_says x i e = keyword_in_says x (sort_at ts i) e

  pub is_keyword_has : (x : Keyword) (i : ℕ) → sort_at ts i ≡ s.Keyword x → is_keyword ts x i ≡ true
  unfolding is_keyword
  is_keyword_has x i e = rw e (keyword_refl x)

  pub is_keyword_not : (x : Keyword) (i : ℕ) → sort_at ts i ≢ s.Keyword x → is_keyword ts x i ≡ false
  is_keyword_not x i other = not_true _ (λ e. other (is_keyword_says x i e))

  pub after_keyword_says : (x : Keyword) (i j : ℕ) → after_keyword ts x i ≡ Some j → (sort_at ts i ≡ s.Keyword x) × (j ≡ i + 1)
  unfolding after_keyword
  after_keyword_says x i j e = by_test (is_keyword ts x i) refl e
    where
      by_test : (b : Bool) → is_keyword ts x i ≡ b → cond b (Some (i + 1)) None ≡ Some j → (sort_at ts i ≡ s.Keyword x) × (j ≡ i + 1)
      by_test true is e = (is_keyword_says x i is, cc)
      by_test false is e = absurd (cc)

  pub after_keyword_has : (x : Keyword) (i : ℕ) → sort_at ts i ≡ s.Keyword x → after_keyword ts x i ≡ Some (i + 1)
  unfolding after_keyword
  after_keyword_has x i e = rw (is_keyword_has x i e) refl

  pub after_keyword_not : (x : Keyword) (i : ℕ) → sort_at ts i ≢ s.Keyword x → after_keyword ts x i ≡ None
  unfolding after_keyword
  after_keyword_not x i other = rw (is_keyword_not x i other) refl

  pub step_keyword : {B Z : Type 0} (x : Keyword) (i : ℕ) (f : ℕ → Option B) (y : B) → (after_keyword ts x i >>= f) ≡ Some y → (sort_at ts i ≡ s.Keyword x → f (i + 1) ≡ Some y → Z) → Z
  step_keyword x i f y e use_it = step (after_keyword ts x i) f y e (λ j is e1. let p = after_keyword_says x i j is in use_it p.0 (rw (← p.1) e1))

  pub is_infix_says : (x : BinOp) (i : ℕ) → is_infix ts x i ≡ true → sort_at ts i ≡ s.Infix x
  unfolding is_infix
  is_infix_says x i e = infix_in_says x (sort_at ts i) e

  pub is_infix_has : (x : BinOp) (i : ℕ) → sort_at ts i ≡ s.Infix x → is_infix ts x i ≡ true
  unfolding is_infix
  is_infix_has x i e = rw e (op_refl x)

  pub is_infix_not : (x : BinOp) (i : ℕ) → sort_at ts i ≢ s.Infix x → is_infix ts x i ≡ false
  is_infix_not x i other = not_true _ (λ e. other (is_infix_says x i e))

  pub after_infix_says : (x : BinOp) (i j : ℕ) → after_infix ts x i ≡ Some j → (sort_at ts i ≡ s.Infix x) × (j ≡ i + 1)
  unfolding after_infix
  after_infix_says x i j e = by_test (is_infix ts x i) refl e
    where
      by_test : (b : Bool) → is_infix ts x i ≡ b → cond b (Some (i + 1)) None ≡ Some j → (sort_at ts i ≡ s.Infix x) × (j ≡ i + 1)
      by_test true is e = (is_infix_says x i is, cc)
      by_test false is e = absurd (cc)

  pub after_infix_has : (x : BinOp) (i : ℕ) → sort_at ts i ≡ s.Infix x → after_infix ts x i ≡ Some (i + 1)
  unfolding after_infix
  after_infix_has x i e = rw (is_infix_has x i e) refl

  pub after_infix_not : (x : BinOp) (i : ℕ) → sort_at ts i ≢ s.Infix x → after_infix ts x i ≡ None
  unfolding after_infix
  after_infix_not x i other = rw (is_infix_not x i other) refl

  pub step_infix : {B Z : Type 0} (x : BinOp) (i : ℕ) (f : ℕ → Option B) (y : B) → (after_infix ts x i >>= f) ≡ Some y → (sort_at ts i ≡ s.Infix x → f (i + 1) ≡ Some y → Z) → Z
  step_infix x i f y e use_it = step (after_infix ts x i) f y e (λ j is e1. let p = after_infix_says x i j is in use_it p.0 (rw (← p.1) e1))

  pub is_word_says : (i : ℕ) → is_word ts i ≡ true → sort_at ts i ≡ s.Word
  unfolding is_word
  is_word_says i e = word_in_says (sort_at ts i) e

  pub is_word_has : (i : ℕ) → sort_at ts i ≡ s.Word → is_word ts i ≡ true
  unfolding is_word
  is_word_has i e = rw e refl

  pub after_word_says : (i j : ℕ) → after_word ts i ≡ Some j → (sort_at ts i ≡ s.Word) × (j ≡ i + 1)
  unfolding after_word
  after_word_says i j e = by_test (is_word ts i) refl e
    where
      by_test : (b : Bool) → is_word ts i ≡ b → cond b (Some (i + 1)) None ≡ Some j → (sort_at ts i ≡ s.Word) × (j ≡ i + 1)
      by_test true is e = (is_word_says i is, cc)
      by_test false is e = absurd (cc)

  pub after_word_has : (i : ℕ) → sort_at ts i ≡ s.Word → after_word ts i ≡ Some (i + 1)
  unfolding after_word
  after_word_has i e = rw (is_word_has i e) refl

  pub step_word : {B Z : Type 0} (i : ℕ) (f : ℕ → Option B) (y : B) → (after_word ts i >>= f) ≡ Some y → (sort_at ts i ≡ s.Word → f (i + 1) ≡ Some y → Z) → Z
  step_word i f y e use_it = step (after_word ts i) f y e (λ j is e1. let p = after_word_says i j is in use_it p.0 (rw (← p.1) e1))

  pub dotted_says : (i j : ℕ) → dotted ts i ≡ Some j → (sort_at ts i ≡ s.Mark m.Dot) × (sort_at ts (i + 1) ≡ s.Word) × (j ≡ i + 1)
  unfolding dotted
  dotted_says i j e = by_test (is_mark ts m.Dot i && is_word ts (i + 1)) refl e
    where
      by_test : (b : Bool) → (is_mark ts m.Dot i && is_word ts (i + 1)) ≡ b → cond b (Some (i + 1)) None ≡ Some j
          → (sort_at ts i ≡ s.Mark m.Dot) × (sort_at ts (i + 1) ≡ s.Word) × (j ≡ i + 1)
      by_test true is e = both_true _ _ is (λ a b. (is_mark_says m.Dot i a, is_word_says (i + 1) b, cc))
      by_test false is e = absurd (cc)

  pub dotted_has : (i : ℕ) → sort_at ts i ≡ s.Mark m.Dot → sort_at ts (i + 1) ≡ s.Word → dotted ts i ≡ Some (i + 1)
  unfolding dotted
  dotted_has i dot word = rw (is_mark_has m.Dot i dot, is_word_has (i + 1) word) refl

  pub dotted_not : (i : ℕ) → sort_at ts i ≢ s.Mark m.Dot → dotted ts i ≡ None
  unfolding dotted
  dotted_not i other = rw (is_mark_not m.Dot i other) refl

-- ---- steps that succeeded, for what follows from it

pub step_if : {B Z : Type 0} (b : Bool) (o : Option B) (y : B) → cond b o None ≡ Some y → (b ≡ true → o ≡ Some y → Z) → Z
step_if true o y e use_it = use_it refl e
step_if false o y e use_it = absurd (cc)

pub step_unless : {B Z : Type 0} (b : Bool) (o : Option B) (y : B) → cond b None o ≡ Some y → (b ≡ false → o ≡ Some y → Z) → Z
step_unless true o y e use_it = absurd (cc)
step_unless false o y e use_it = use_it refl e

pub step_either : {B Z : Type 0} (b : Bool) (o p : Option B) (y : B) → cond b o p ≡ Some y → (b ≡ true → o ≡ Some y → Z) → (b ≡ false → p ≡ Some y → Z) → Z
step_either true o p y e first second = first refl e
step_either false o p y e first second = second refl e

pub step_given : {A B Z : Type 0} (o : Option A) (f : A → Option B) (d : Option B) (y : B) → given o f d ≡ Some y
    → ((x : A) → o ≡ Some x → f x ≡ Some y → Z) → (o ≡ None → d ≡ Some y → Z) → Z
step_given None f d y e first second = second refl e
step_given (Some x) f d y e first second = first x refl e

pub rise_says : (limit h n : ℕ) → rise limit h ≡ Some n → (h < limit) × (n ≡ h + 1)
unfolding rise
rise_says limit h n e = by_test (nat_lt h limit) refl e
  where
    by_test : (b : Bool) → nat_lt h limit ≡ b → cond b (Some (h + 1)) None ≡ Some n → (h < limit) × (n ≡ h + 1)
    by_test true is e = (grind (arith, nat_tests), cc)
    by_test false is e = absurd (cc)

pub rise_has : (limit h : ℕ) → h < limit → rise limit h ≡ Some (h + 1)
unfolding rise
rise_has limit h low = let test : nat_lt h limit ≡ true = grind (arith, nat_tests) in rw test refl

pub step_rise : {B Z : Type 0} (limit h : ℕ) (f : ℕ → Option B) (y : B) → (rise limit h >>= f) ≡ Some y → (h < limit → f (h + 1) ≡ Some y → Z) → Z
step_rise limit h f y e use_it = step (rise limit h) f y e (λ n a b. let p = rise_says limit h n a in use_it p.0 (rw (← p.1) b))
