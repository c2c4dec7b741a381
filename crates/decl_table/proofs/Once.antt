-- A program is refused by one rule at most, and then has no world.
use Rattle.std.proofs.Common.{◌≡◌, ℕ, ◌≤◌, List, Option, Some, inl, inr, sym, ap, ◌∙◌, arith}
use Rattle.java_tree.specs.declared.fault.Broken.{Broken}
use Rattle.java_tree.specs.declared.fault.Family.{Family}
use Rattle.java_tree.specs.Names.{AreDistinct}
use Rattle.java_tree.specs.Plain.{SourceUnit}
use Rattle.rule_order.specs.declared.Breach.{Breach}
use Rattle.rule_order.specs.First.{Breaches, IsBefore, IsNone, IsFirstOf}
use Rattle.class_world.specs.declared.world.World.{World}
use Rattle.built_in_types.specs.declared.words.Words.{Words}
use Rattle.built_in_types.proofs.Once.{words_once}
use Rattle.decl_table.specs.Program.{Program, ScopeBreaches, DeclarationBreaches, type_count, method_count, IsLimit, IsEarlyRefusal, IsRefusal, IsProgramWorld}
use Rattle.decl_table.specs.Judged.{IsProgram}

-- ---- one program

program_is : (u v : List SourceUnit) (k l : List SourceUnit) (w x : Words) → u ≡ v → k ≡ l → w ≡ x
    → ◌≡◌ {A = Program} (record { words = w; user = u; lib = k }) (record { words = x; user = v; lib = l })
program_is u v k l w x a b c =
    ap (λ (w : Words). record { words = w; user = u; lib = k }) c
    ∙ ap (λ (u : List SourceUnit). record { words = x; user = u; lib = k }) a
    ∙ ap (λ (k : List SourceUnit). record { words = x; user = v; lib = k }) b

pub one_program : (names : List (List ℕ)) (user lib : List SourceUnit) (p q : Program) → AreDistinct names → IsProgram names user lib p → IsProgram names user lib q → p ≡ q
one_program names user lib p q d a b =
    program_is p.user q.user p.lib q.lib p.words q.words (a.0 ∙ sym b.0) (a.1 ∙ sym b.1) (words_once names p.words q.words d a.2 b.2)

-- ---- one rule of each kind

broken_is : (f g : Family) (m n : ℕ) (x y : Option ℕ) → f ≡ g → m ≡ n → x ≡ y
    → ◌≡◌ {A = Broken} (record { family = f; number = m; node = x }) (record { family = g; number = n; node = y })
broken_is f g m n x y a b c =
    ap (λ (f : Family). record { family = f; number = m; node = x }) a
    ∙ ap (λ (m : ℕ). record { family = g; number = m; node = x }) b
    ∙ ap (λ (x : Option ℕ). record { family = g; number = n; node = x }) c

both_before : (a b : Breach) → IsBefore a b → IsBefore b a → (a.node ≡ b.node) × (a.rule ≡ b.rule)
both_before a b (inl x) (inl y) = absurd (omega (arith, x, y))
both_before a b (inl x) (inr y) = absurd (omega (arith, x, y.0))
both_before a b (inr x) (inl y) = absurd (omega (arith, x.0, y))
both_before a b (inr x) (inr y) = (x.0, omega (arith, x.1, y.1))

same_first : (f : Family) (S : Breaches) (b c : Broken) → IsFirstOf f S b → IsFirstOf f S c → b ≡ c
same_first f S b c x y =
    let m = x.1.0 in
    let n = y.1.0 in
    let first = x.1.2 in
    let other = y.1.2 in
    let a : Breach = record { node = m; rule = b.number } in
    let d : Breach = record { node = n; rule = c.number } in
    let same = both_before a d (first.1 d other.0) (other.1 a first.0) in
    broken_is b.family c.family b.number c.number b.node c.node (x.0 ∙ sym y.0) same.1 (x.1.1 ∙ ap Some same.0 ∙ sym y.1.1)

same_limit : (rule : ℕ) (b c : Broken) → IsLimit rule b → IsLimit rule c → b ≡ c
same_limit rule b c x y = broken_is b.family c.family b.number c.number b.node c.node (x.0 ∙ sym y.0) (x.1 ∙ sym y.1) (x.2 ∙ sym y.2)

not_none : (f : Family) (S : Breaches) (b : Broken) → IsFirstOf f S b → IsNone S → ⊥
not_none f S b x none = none (record { node = x.1.0; rule = b.number }) x.1.2.0

-- ---- the rules before the DR rules

-- no such rule is broken, and no limit is passed
abbrev IsAllowed : Breaches → (types methods : ℕ) → Type 0
IsAllowed S types methods = IsNone S × (types ≤ 4096) × (methods ≤ 65536)

not_early : (S : Breaches) (types methods : ℕ) (b : Broken) → IsEarlyRefusal S types methods b → IsAllowed S types methods → ⊥
not_early S types methods b (inl x) a = not_none _ S b x a.0
not_early S types methods b (inr (inl x)) a = omega (arith, x.1, a.1)
not_early S types methods b (inr (inr x)) a = omega (arith, x.2, a.2)

same_early : (S : Breaches) (types methods : ℕ) (b c : Broken) → IsEarlyRefusal S types methods b → IsEarlyRefusal S types methods c → b ≡ c
same_early S types methods b c (inl x) (inl y) = same_first _ S b c x y
same_early S types methods b c (inl x) (inr (inl y)) = absurd (not_none _ S b x y.0)
same_early S types methods b c (inl x) (inr (inr y)) = absurd (not_none _ S b x y.0)
same_early S types methods b c (inr (inl x)) (inl y) = absurd (not_none _ S c y x.0)
same_early S types methods b c (inr (inr x)) (inl y) = absurd (not_none _ S c y x.0)
same_early S types methods b c (inr (inl x)) (inr (inl y)) = same_limit 6 b c x.2 y.2
same_early S types methods b c (inr (inl x)) (inr (inr y)) = absurd (omega (arith, x.1, y.1))
same_early S types methods b c (inr (inr x)) (inr (inl y)) = absurd (omega (arith, x.1, y.1))
same_early S types methods b c (inr (inr x)) (inr (inr y)) = same_limit 7 b c x.3 y.3

-- ---- all rules

pub one_refusal : (names : List (List ℕ)) (p : Program) (b c : Broken) → IsRefusal names p b → IsRefusal names p c → b ≡ c
one_refusal names p b c (inl x) (inl y) = same_early (ScopeBreaches names p) (type_count p) (method_count p) b c x y
one_refusal names p b c (inl x) (inr y) = absurd (not_early (ScopeBreaches names p) (type_count p) (method_count p) b x (y.0, y.1, y.2))
one_refusal names p b c (inr x) (inl y) = absurd (not_early (ScopeBreaches names p) (type_count p) (method_count p) c y (x.0, x.1, x.2))
one_refusal names p b c (inr x) (inr y) = same_first _ (DeclarationBreaches p) b c x.3 y.3

pub refused_or_declared : (names : List (List ℕ)) (p : Program) (b : Broken) (w : World) → IsRefusal names p b → IsProgramWorld names p w → ⊥
refused_or_declared names p b w (inl x) h = not_early (ScopeBreaches names p) (type_count p) (method_count p) b x (h.scope, h.types, h.methods)
refused_or_declared names p b w (inr x) h = not_none _ (DeclarationBreaches p) b x.3 h.declared
