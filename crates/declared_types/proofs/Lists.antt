-- Loops over lists that look for the first broken rule.
use Rattle.std.proofs.Common.{◌≡◌, ◌+◌, ◌<◌, ℕ, List, [], ◌∷◌, ◌++◌, map, take, length, get_or, Option, sym, ap, ◌∙◌, subst}
use Rattle.std.proofs.lemmas.List.{take_more, map-append}
use Rattle.rule_order.specs.declared.Breach.{Breach}
use Rattle.rule_order.specs.First.{Breaches, IsFirst, IsEarlier}
use Rattle.rule_order.specs.Noted.{SomeOf, Only, Adds}
use Rattle.rule_order.proofs.Firsts.{first_of_both}
use Rattle.rule_order.proofs.Adding.{first_only}
use Rattle.rule_order.proofs.Lists.{some_none, some_more, some_append}

-- a finished search
pub adds_first : (S : Breaches) (a b r : Option Breach) → IsEarlier a b r → IsFirst S b → Adds S a r
adds_first S a b r is first = first_of_both (Only a) S a b r is (first_only a) first

pub some_one : {A : Type 0} (F : A → Breaches) (x : A) (a r : Option Breach) → Adds (F x) a r → Adds (SomeOf (x ∷ []) F) a r
some_one F x a r f = some_more F x [] a r r f (some_none F r)

-- what is behind the first items, and then behind one more
pub some_next : {A : Type 0} (F : A → Breaches) (old more new : List A) (a m r : Option Breach) → new ≡ old ++ more → Adds (SomeOf old F) a m → Adds (SomeOf more F) m r → Adds (SomeOf new F) a r
some_next F old more new a m r is f g = subst (λ xs. Adds (SomeOf xs F) a r) (sym is) (some_append F old more a m r f g)

pub taken : {A B : Type 0} (v : A → B) (xs : List A) (i : ℕ) (x : A) → i < length xs → x ≡ get_or xs i x → map v (take (i + 1) xs) ≡ map v (take i xs) ++ v x ∷ []
taken v xs i x lt at = ap (map v) (take_more xs i x lt ∙ ap (λ y. take i xs ++ y ∷ []) (sym at)) ∙ map-append v (take i xs) (x ∷ [])
