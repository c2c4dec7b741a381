-- What an answer says, by what was read.
use Rattle.std.proofs.Common.{◌≡◌, ℕ, ◌≤◌, max, List, Option, Some, None, Result, Ok, Err, IfOk, IfSome, sym, ap, ◌∙◌, arith}
use Rattle.java_tree.specs.Plain as t
use Rattle.java_tree.specs.View.{plain, type_plain}
use Rattle.java_tree.specs.declared.tree.TypeExpr.{TypeExpr}
use Rattle.java_tree.specs.declared.tree.Expr.{Expr}
use Rattle.java_grammar.specs.declared.token.Tok.{Tok}
use Rattle.java_grammar.specs.Reads.{sort_at}
use Rattle.java_grammar.specs.Heights.{type_depth, expr_depth}
use Rattle.java_grammar.specs.Expressions.{SpellsType, GoesOn, Spells, EndsAt}
use Rattle.java_parse_term.specs.declared.parsed.Parsed.{Parsed}
use Rattle.java_parse_term.specs.declared.fault.SyntaxFault.{SyntaxFault}
use Rattle.java_parse_term.specs.declared.fault.SyntaxFault.TheVariants.{Bad, NoMemory}
use Rattle.java_parse_term.specs.Types.{Read, type_end, read_type}
use Rattle.java_parse_term.specs.Parse.{expr_read, type_read}
use Rattle.java_parse_term.specs.Seen.{Reads, seen}
use Rattle.java_parse_term.specs.Found.{IsFound}
use Rattle.java_parse_term.proofs.TypesComplete.{goes_on_not, got_type, rule_again, type_again}
use Rattle.java_parse_term.proofs.Scans.{type_end_fine}
use Rattle.java_parse_term.proofs.Sound.{expr_sound, type_sound}
use Rattle.java_parse_term.proofs.Complete.{expr_complete}

same_read : {A : Type 0} (a b : Read A) → Some a ≡ Some b → (a.tree ≡ b.tree) × (a.next ≡ b.next)
same_read a b h = let is : a ≡ b = cc in (ap (λ g. g.tree) is, ap (λ g. g.next) is)

-- what is to be read is found
pub found_by : {X A : Type 0} (view : X → A) (o : Option (Read A)) (r : Result (Parsed X) SyntaxFault) (g : Read A) → Reads (seen view) o r → o ≡ Some g → IsFound view r g.tree g.next
found_by view o (Ok a) g reads is = same_read _ _ (sym reads ∙ is)
found_by view o (Err (Bad token)) g reads is = let both = sym reads ∙ is in cc
found_by view o (Err NoMemory) g reads is = tt

pub type_complete : (text : List ℕ) (ts : List Tok) (depth i j : ℕ) (x : t.TypeExpr) → SpellsType text ts x i j → type_depth x ≤ depth → (GoesOn text ts (sort_at ts j) → ⊥)
    → type_read ts depth i ≡ got_type text ts x j
type_complete text ts depth i j x p low ends = rule_again text ts depth (read_type ts depth) (type_again text ts depth) x i j low p (goes_on_not text ts j ends)

pub type_said : (text : List ℕ) (ts : List Tok) (depth i : ℕ) (r : Result (Parsed TypeExpr) SyntaxFault) → Reads (seen type_plain) (type_read ts depth i) r
    → IfOk r (λ r. SpellsType text ts (type_plain r.tree) i r.next × (type_depth (type_plain r.tree) ≤ depth))
type_said text ts depth i (Ok a) reads = let ok = type_sound text ts depth i (seen type_plain a) reads in (ok.0, omega (arith, ok.1, ok.2))
type_said text ts depth i (Err e) reads = tt

pub type_answered : (ts : List Tok) (depth i : ℕ) (r : Result (Parsed TypeExpr) SyntaxFault) → Reads (seen type_plain) (type_read ts depth i) r
    → IfOk r (λ r. (text : List ℕ) → SpellsType text ts (type_plain r.tree) i r.next × (type_depth (type_plain r.tree) ≤ depth))
type_answered ts depth i (Ok a) reads = λ text. type_said text ts depth i (Ok a) reads
type_answered ts depth i (Err e) reads = tt

pub type_only : (ts : List Tok) (depth i : ℕ) (r : Result (Parsed TypeExpr) SyntaxFault) → Reads (seen type_plain) (type_read ts depth i) r
    → (text : List ℕ) (x : t.TypeExpr) (j : ℕ) → SpellsType text ts x i j → type_depth x ≤ depth → (GoesOn text ts (sort_at ts j) → ⊥) → IsFound type_plain r x j
type_only ts depth i r reads text x j p low ends =
    found_by type_plain (type_read ts depth i) r (record { tree = x; depth = type_depth x; next = j }) reads (type_complete text ts depth i j x p low ends)

pub end_answered : (ts : List Tok) (i : ℕ) (o : Option ℕ) → o ≡ type_end ts i
    → IfSome o (λ j. (text : List ℕ) → (x : t.TypeExpr) × SpellsType text ts x i j × (GoesOn text ts (sort_at ts j) → ⊥))
end_answered ts i None e = tt
end_answered ts i (Some j) e = λ text. let r = type_end_fine text ts i j (sym e) in (r.tree, r.spells, r.ends)

pub expr_answered : (text : List ℕ) (ts : List Tok) (k depth i : ℕ) (r : Result (Parsed Expr) SyntaxFault) → 2 ≤ k → Reads (seen plain) (expr_read text ts k depth i) r
    → IfOk r (λ r. Spells text ts k (plain r.tree) i r.next × (expr_depth (plain r.tree) ≤ depth))
expr_answered text ts k depth i (Ok a) least reads = let ok = expr_sound text ts k depth i (seen plain a) least reads in (ok.0, omega (arith, ok.1, ok.2))
expr_answered text ts k depth i (Err e) least reads = tt

pub expr_only : (text : List ℕ) (ts : List Tok) (k depth i : ℕ) (r : Result (Parsed Expr) SyntaxFault) → 2 ≤ k → k ≤ 15 → Reads (seen plain) (expr_read text ts k depth i) r
    → (e : t.Expr) (j : ℕ) → Spells text ts k e i j → expr_depth e ≤ depth → EndsAt text ts (sort_at ts j) → IsFound plain r e j
expr_only text ts k depth i r least most reads e j p low ends =
    found_by plain (expr_read text ts k depth i) r (record { tree = e; depth = expr_depth e; next = j }) reads (expr_complete text ts depth k e i j least most low p ends)

-- ---- tokens have one tree

pub one_type : (text : List ℕ) (ts : List Tok) (x y : t.TypeExpr) (i j l : ℕ) → SpellsType text ts x i j → (GoesOn text ts (sort_at ts j) → ⊥) → SpellsType text ts y i l
    → (GoesOn text ts (sort_at ts l) → ⊥) → (x ≡ y) × (j ≡ l)
one_type text ts x y i j l p ends q ends' =
    let depth = max (type_depth x) (type_depth y) in
    same_read _ _ (sym (type_complete text ts depth i j x p (omega arith) ends) ∙ type_complete text ts depth i l y q (omega arith) ends')

pub one_expr : (text : List ℕ) (ts : List Tok) (k : ℕ) (e f : t.Expr) (i j l : ℕ) → 2 ≤ k → k ≤ 15 → Spells text ts k e i j → EndsAt text ts (sort_at ts j) → Spells text ts k f i l
    → EndsAt text ts (sort_at ts l) → (e ≡ f) × (j ≡ l)
one_expr text ts k e f i j l least most p ends q ends' =
    let depth = max (expr_depth e) (expr_depth f) in
    same_read _ _ (sym (expr_complete text ts depth k e i j least most (omega arith) p ends) ∙ expr_complete text ts depth k f i l least most (omega arith) q ends')
