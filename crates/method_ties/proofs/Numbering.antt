-- Lists that were numbered.
use Rattle.std.proofs.Common.{◌≡◌, ℕ, Bool, true, false, cond, nat_eq, List, Option, Some, None, ◌⊎◌, inl, inr, ◌↔◌, refl, sym, ap, ◌∙◌, subst}
use Rattle.std.specs.Prelude.{◌&&◌}
use Rattle.std.specs.List.{Contains}
use Rattle.std.specs.HashMap.{get}
use Rattle.std.proofs.lemmas.Bool.{and_parts, eqb-true}
use Rattle.class_world.specs.declared.world.World.{World}
use Rattle.class_world.specs.Signatures.{HaveOneSignatureIn}
use Rattle.numbered_methods.specs.declared.NumberedMethods.{NumberedMethods}
use Rattle.numbered_methods.specs.Alike.{AreAlike, IsNumbered}
use Rattle.method_ties.specs.declared.tables.Key.{Key}
use Rattle.method_ties.specs.declared.tables.Tables.{Tables}
use Rattle.method_ties.specs.declared.Meeting.{Meeting}
use Rattle.method_ties.specs.Sides.{IsOnce, Meets}
use Rattle.method_ties.specs.Tables.{HasAll, HoldTables, IsKeyed, IsKeyedLower, IsMade, same_key}

abbrev key : ℕ → ℕ → ℕ → Key
key c n arity = record { owner = c; name = n; arity = arity }

key_is : (k q : Key) → same_key k q ≡ true → k ≡ q
key_is k q e =
    let first = and_parts (nat_eq k.owner q.owner) (nat_eq k.name q.name && nat_eq k.arity q.arity) e in
    let second = and_parts (nat_eq k.name q.name) (nat_eq k.arity q.arity) first.1 in
    ap (λ x. key x k.name k.arity) (eqb-true k.owner q.owner first.0) ∙ ap (λ x. key q.owner x k.arity) (eqb-true k.name q.name second.0)
    ∙ ap (λ x. key q.owner q.name x) (eqb-true k.arity q.arity second.1)

pub tables_none : (w : World) (P : Key → ℕ → Type 0) (t : Tables) → ((q : Key) → get same_key t.made q ≡ None) → HoldTables w P t
tables_none w P t none q x at = let never : None ≡ Some x = sym (none q) ∙ at in absurd (cc never)

pub tables_turned : (w : World) (P : Key → ℕ → Type 0) (old new : Tables)
    → ((q : Key) → (get same_key new.made q ≡ None) ⊎ ((new.class ≡ old.class) × (get same_key new.made q ≡ get same_key old.made q))) → HoldTables w P old → HoldTables w P new
tables_turned w P old new lists holds q x at = elim (lists q) [
  | inl none ↦ let never : None ≡ Some x = sym none ∙ at in absurd (cc never)
  | inr same ↦ subst (λ c. HasAll w c (P q) x) (sym same.0) (holds q x (sym same.1 ∙ at))
]

pub tables_made : (w : World) (P : Key → ℕ → Type 0) (methods : List ℕ) (at_key : Key) (old new : Tables) → HoldTables w P old → IsMade w methods at_key old new → ((k : ℕ) → Contains methods k ↔ P at_key k)
    → HoldTables w P new
tables_made w P methods at_key old new holds made right q x at = subst (λ c. HasAll w c (P q) x) (sym made.class) (go (same_key at_key q) refl)
  where
    puts : (b : Bool) → same_key at_key q ≡ b → cond b (Some made.table) (get same_key old.made q) ≡ Some x
    puts b e = sym (made.puts q ∙ ap (λ b. cond b (Some made.table) (get same_key old.made q)) e) ∙ at

    go : (b : Bool) → same_key at_key q ≡ b → HasAll w old.class (P q) x
    go true e =
        let both : Some made.table ≡ Some x = puts true e in
        let is : made.table ≡ x = cc both in
        subst (λ q. HasAll w old.class (P q) x) (key_is at_key q e) (methods, right, subst (IsNumbered w old.class methods) is made.right)
    go false e = holds q x (puts false e)

-- of the methods of which P holds those that have one signature with m, each once
pub alike_of : (w : World) (P : ℕ → Type 0) (c m : ℕ) (xs : List ℕ) (x : NumberedMethods) → HasAll w c P x → ((d : ℕ) (ms : List ℕ) → IsNumbered w d ms x → AreAlike w d m ms xs)
    → ((k : ℕ) → Contains xs k ↔ (P k × HaveOneSignatureIn w c m k)) × IsOnce xs
alike_of w P c m xs x has told =
    let alike = told c has.0 has.2 in (
      λ k. (λ h. let r = (alike.0 k).0 h in ((has.1 k).0 r.0, r.1), λ h. (alike.0 k).1 ((has.1 k).1 h.0, h.1)),
      alike.1,
    )

-- the same of a list that the tables have for a key
pub alike_in : (w : World) (P : Key → ℕ → Type 0) (t : Tables) (q : Key) (c m : ℕ) (xs : List ℕ) (o : Option NumberedMethods) (x : NumberedMethods) → HoldTables w P t → t.class ≡ c → o ≡ get same_key t.made q → o ≡ Some x
    → ((d : ℕ) (ms : List ℕ) → IsNumbered w d ms x → AreAlike w d m ms xs) → ((k : ℕ) → Contains xs k ↔ (P q k × HaveOneSignatureIn w c m k)) × IsOnce xs
alike_in w P t q c m xs o x holds class found is told = alike_of w (P q) c m xs x (subst (λ c. HasAll w c (P q) x) class (holds q x (sym found ∙ is))) told

-- what has one signature with m, of a list of the methods of which P holds
pub alike_listed : (w : World) (P : ℕ → Type 0) (c m : ℕ) (out xs : List ℕ) → ((k : ℕ) → Contains xs k ↔ P k) → ((k : ℕ) → Contains out k ↔ (Contains xs k × HaveOneSignatureIn w c m k))
    → (k : ℕ) → Contains out k ↔ (P k × HaveOneSignatureIn w c m k)
alike_listed w P c m out xs listed has k = (
  λ h. let t = (has k).0 h in ((listed k).0 t.0, t.1),
  λ h. (has k).1 ((listed k).1 h.0, h.1),
)

one_turned : (w : World) (c m k : ℕ) → HaveOneSignatureIn w c m k → HaveOneSignatureIn w c k m
one_turned w c m k h = ((h.0.1, h.0.0, h.0.3, h.0.2, sym h.0.4), (h.1.0, h.1.2, h.1.1))

abbrev Pairs : World → Key → ℕ → (ℕ → Type 0) → Meeting → Type 0
Pairs w q k P p = (p.upper ≡ k) × P p.lower × Meets w q.owner p.lower k

pub pairs_alike : (w : World) (q : Key) (k : ℕ) (old new : List Meeting) (xs : List ℕ) → ((m : ℕ) → Contains xs m ↔ (IsKeyedLower w q m × HaveOneSignatureIn w q.owner k m))
    → ((p : Meeting) → Contains new p ↔ (Contains old p ⊎ Pairs w q k (Contains xs) p)) → (p : Meeting) → Contains new p ↔ (Contains old p ⊎ Pairs w q k (IsKeyed w q) p)
pairs_alike w q k old new xs alike has p = (
  λ h. elim ((has p).0 h) [ inl was ↦ inl was | inr t ↦ inr (t.0, ((alike p.lower).0 t.1).0.0, t.2) ],
  λ h. (has p).1 (elim h [ inl was ↦ inl was | inr t ↦ inr (t.0, (alike p.lower).1 ((t.1, t.2.0), one_turned w q.owner p.lower k t.2.2), t.2) ]),
)

pub pairs_listed : (w : World) (q : Key) (k : ℕ) (old new : List Meeting) (xs : List ℕ) → ((m : ℕ) → Contains xs m ↔ IsKeyed w q m)
    → ((p : Meeting) → Contains new p ↔ (Contains old p ⊎ Pairs w q k (Contains xs) p)) → (p : Meeting) → Contains new p ↔ (Contains old p ⊎ Pairs w q k (IsKeyed w q) p)
pairs_listed w q k old new xs listed has p = (
  λ h. elim ((has p).0 h) [ inl was ↦ inl was | inr t ↦ inr (t.0, (listed p.lower).0 t.1, t.2) ],
  λ h. (has p).1 (elim h [ inl was ↦ inl was | inr t ↦ inr (t.0, (listed p.lower).1 t.1, t.2) ]),
)
