-- Turns of loops.
use Rattle.std.proofs.Common.{◌≡◌, ℕ, suc, ◌+◌, ◌-◌, ◌<◌, Bool, true, false, List, [], ◌∷◌, ◌++◌, Option, Some, refl, sym, ap, ◌∙◌, arith}
use Rattle.java_grammar.specs.declared.token.Tok.{Tok}
use Rattle.java_parse_term.specs.Seen.{same}
use Rattle.java_parse_expr.specs.declared.got.Got.{Got}
use Rattle.java_parse_expr.specs.Parse.{Part, many}
use Rattle.java_parse_expr.specs.Seen.{seen}
use Rattle.java_parse_expr.proofs.Turns.{many_on}
use Rattle.java_grammar.specs.declared.token.Keyword.TheVariants as kw
use Rattle.java_parse_term.specs.Marks.{is_keyword}
use Rattle.java_parse_decl.specs.Parse.{imports_end}

-- as `many_turn`, where the trees are what contracts see
pub many_same_turn : (text : List ℕ) (ts : List Tok) {A : Type 0} (item : ℕ → Option (Part A)) (n turn : ℕ) → turn < n → (whole : Option (Part (List A))) (done new : Got (List A)) (one : Got A)
    → new ≡ record { tree = done.tree ++ one.tree ∷ []; next = one.next } → (ends : ℕ → Bool) → whole ≡ many text ts ends item (n - turn) done.tree done.next → ends done.next ≡ false
    → item done.next ≡ Some (seen same one) → whole ≡ many text ts ends item (n - (turn + 1)) new.tree new.next
many_same_turn text ts item n turn below whole done new one grown ends e test read =
    let left : n - turn ≡ suc (n - (turn + 1)) = omega arith in
    e ∙ ap (λ k. many text ts ends item k done.tree done.next) left ∙ many_on text ts ends item (n - (turn + 1)) done.tree done.next (seen same one) test read
    ∙ ap (λ (g : Got (List _)). many text ts ends item (n - (turn + 1)) g.tree g.next) (sym grown)

pub import_there : (text : List ℕ) (ts : List Tok) (i : ℕ) (b : Bool) → b ≡ is_keyword ts kw.Import i → b ≡ true → imports_end text ts i ≡ false
unfolding imports_end
import_there text ts i b e there = rw (← e, there) refl
