-- What the answers of the parser of files say.
use Rattle.std.proofs.Common.{◌≡◌, ℕ, ◌+◌, ◌≤◌, max, List, Some, Result, Ok, Err, IfOk, length, sym, ap, subst, ◌∙◌, arith}
use Rattle.java_tree.specs.declared.tree.Token.{Token}
use Rattle.java_tree.specs.declared.tree.SourceUnit as declared
use Rattle.java_tree.specs.Plain.{SourceUnit}
use Rattle.java_tree.specs.View.{unit_plain}
use Rattle.java_grammar.specs.declared.token.Tok.{Tok}
use Rattle.java_grammar.specs.Sorts.{AreToks}
use Rattle.java_parse_term.specs.declared.fault.SyntaxFault.{SyntaxFault}
use Rattle.java_parse_term.specs.declared.fault.SyntaxFault.TheVariants.{Bad, NoMemory}
use Rattle.java_parse_term.specs.Seen.{Reads}
use Rattle.unit_grammar.specs.Declarations.{SpellsUnit}
use Rattle.unit_grammar.specs.Depths.{unit_depth}
use Rattle.unit_grammar.specs.Numbers as numbers
use Rattle.unit_grammar.specs.Sizes as size
use Rattle.unit_grammar.proofs.Extents.{unit_spans}
use Rattle.java_parse_decl.specs.Parse.{unit}
use Rattle.java_parse_decl.specs.Found.{IsUnit, IsAnswer, IsNoMemory, UnlessNoMemory}
use Rattle.java_parse_decl.proofs.Sound.{unit_fine}
use Rattle.java_parse_decl.proofs.Complete.{unit_again}

same_some : {A : Type 0} (a b : A) → Some a ≡ Some b → a ≡ b
same_some a b h = cc

pub one : (text : List ℕ) (ts : List Tok) (x y : SourceUnit) → SpellsUnit text ts x → SpellsUnit text ts y → x ≡ y
one text ts x y p q =
    let d = max (unit_depth x) (unit_depth y) in
    same_some _ _ (sym (unit_again text ts d x p (omega arith)) ∙ unit_again text ts d y q (omega arith))

module _ (text : List ℕ) (ts : List Tok) where
  pub said : (r : Result declared.SourceUnit SyntaxFault) → Reads unit_plain (unit text ts 256) r → IfOk r (λ u. SpellsUnit text ts (unit_plain u) × (unit_depth (unit_plain u) ≤ 256))
  said (Ok u) reads = unit_fine text ts 256 (unit_plain u) (omega arith) reads
  said (Err e) reads = tt

  pub few : (r : Result declared.SourceUnit SyntaxFault) → Reads unit_plain (unit text ts 256) r → IfOk r (λ u. size.unit (unit_plain u) ≤ length ts + 1)
  few (Ok u) reads = let p = unit_fine text ts 256 (unit_plain u) (omega arith) reads in unit_spans text ts (unit_plain u) p.0
  few (Err e) reads = tt

  pub only : (r : Result declared.SourceUnit SyntaxFault) → Reads unit_plain (unit text ts 256) r → (x : SourceUnit) → SpellsUnit text ts x → unit_depth x ≤ 256 → IsAnswer r x
  only (Ok u) reads x p low = same_some _ _ (sym reads ∙ unit_again text ts 256 x p low)
  only (Err (Bad token)) reads x p low = let both = sym reads ∙ unit_again text ts 256 x p low in cc
  only (Err NoMemory) reads x p low = tt

-- ---- what an answer over tokens says of a text

module _ (text : List ℕ) (names : List (List ℕ)) (tokens : List Token) (first : ℕ) (ts us : List Tok) (same : us ≡ ts) (are : AreToks text names tokens ts)
    (alone : (vs : List Tok) → AreToks text names tokens vs → vs ≡ ts) where
  pub unit_found : (y : SourceUnit) → SpellsUnit text us y × (unit_depth y ≤ 256) → (x : SourceUnit) → x ≡ (numbers.unit y first).0 → IsUnit text names tokens first x
  unit_found y p x tree = (ts, are, y, subst (λ vs. SpellsUnit text vs y) same p.0, p.1, tree)

  pub unit_found_one : (y : SourceUnit) → ((z : SourceUnit) → SpellsUnit text us z → unit_depth z ≤ 256 → y ≡ z) → (x : SourceUnit) → x ≡ (numbers.unit y first).0
      → (z : SourceUnit) → IsUnit text names tokens first z → x ≡ z
  unit_found_one y found x tree z (vs, there, w, p, low, made) =
      let q = found w (subst (λ vs. SpellsUnit text vs w) (alone vs there ∙ sym same) p) low in
      tree ∙ ap (λ y. (numbers.unit y first).0) q ∙ sym made

  pub unit_fault : (fault shown : SyntaxFault) → (IsNoMemory fault → IsNoMemory shown) → ((z : SourceUnit) → SpellsUnit text us z → unit_depth z ≤ 256 → IsAnswer (Err fault) z)
      → (z : SourceUnit) → IsUnit text names tokens first z → IsAnswer (Err shown) z
  unit_fault (Bad token) shown memory found z (vs, there, w, p, low, made) = absurd (found w (subst (λ vs. SpellsUnit text vs w) (alone vs there ∙ sym same) p) low)
  unit_fault NoMemory (Bad token) memory found z p = absurd (memory tt)
  unit_fault NoMemory NoMemory memory found z p = tt

pub table_after : (fault : SyntaxFault) (X : Type 0) → X → UnlessNoMemory (Err fault) X
table_after (Bad token) X x = x
table_after NoMemory X x = tt
