-- The numbers of keys, as they are given.
use Rattle.std.proofs.Common.{◌≡◌, ℕ, ◌+◌, ◌<◌, Bool, true, false, cond, nat_eq, List, [], ◌∷◌, ◌++◌, Option, Some, None, ◌⊎◌, inl, inr, refl, sym, ap, ◌∙◌, length, arith}
use Rattle.std.specs.Prelude.{slice_get}
use Rattle.std.proofs.lemmas.Bool.{and_parts, eqb-true}
use Rattle.std.proofs.lemmas.List.{length_push}
use Rattle.std.proofs.lemmas.Option.{slice_get_within}
use Rattle.class_world.specs.declared.world.World.{World}
use Rattle.class_world.specs.declared.world.MethodInfo.{MethodInfo}
use Rattle.class_world.proofs.Ends.{at_last, at_first}
use Rattle.member_methods.specs.declared.keys.Key.{Key}
use Rattle.member_methods.specs.Keys.{key_of, same_key, AreKeys}
use Rattle.member_methods.proofs.Firsts.{low_or_last}

pub key_same : (k q : Key) → same_key k q ≡ true → k ≡ q
key_same k q e =
    let both = and_parts (nat_eq k.name q.name) (nat_eq k.arity q.arity) e in
    let names = eqb-true k.name q.name both.0 in
    let arities = eqb-true k.arity q.arity both.1 in
    ap (λ x. (λ (r : Key). r) (record { name = x; arity = k.arity })) names ∙ ap (λ x. (λ (r : Key). r) (record { name = q.name; arity = x })) arities

module _ (old new : Key → Option ℕ) (key : Key) (next : ℕ) (puts : (q : Key) → new q ≡ cond (same_key key q) (Some next) (old q)) (none : old key ≡ None) where
  pub number_kept : (q : Key) (k : ℕ) → old q ≡ Some k → new q ≡ Some k
  number_kept q k is = go (same_key key q) refl
    where
      go : (b : Bool) → same_key key q ≡ b → new q ≡ Some k
      go true e = let never : None ≡ Some k = sym none ∙ ap old (key_same key q e) ∙ is in absurd (cc never)
      go false e = puts q ∙ ap (λ b. cond b (Some next) (old q)) e ∙ is

  pub number_only : (q : Key) (k : ℕ) → new q ≡ Some k → (old q ≡ Some k) ⊎ ((q ≡ key) × (k ≡ next))
  number_only q k is = go (same_key key q) refl
    where
      go : (b : Bool) → same_key key q ≡ b → (old q ≡ Some k) ⊎ ((q ≡ key) × (k ≡ next))
      go true e =
          let here : Some next ≡ Some k = sym (puts q ∙ ap (λ b. cond b (Some next) (old q)) e) ∙ is in
          inr (sym (key_same key q e), cc here)
      go false e = inl (sym (puts q ∙ ap (λ b. cond b (Some next) (old q)) e) ∙ is)

-- the methods before the number i have their numbers
pub record AreBefore (w : World) (find : Key → Option ℕ) (keyed : List ℕ) (i : ℕ) : Type 0 where
  pub size : length keyed ≡ i
  pub found : (m : ℕ) (info : MethodInfo) → m < i → slice_get w.methods m ≡ Some info → (k : ℕ) × (find (key_of info) ≡ Some k) × (slice_get keyed m ≡ Some k)
  pub only : (q : Key) (k : ℕ) → find q ≡ Some k → (info : MethodInfo) × (slice_get w.methods k ≡ Some info) × (key_of info ≡ q)

pub next_before : (w : World) (old new : Key → Option ℕ) (keyed more : List ℕ) (i n next : ℕ) (key : Key) (info : MethodInfo) → AreBefore w old keyed i → slice_get w.methods i ≡ Some info → next ≡ i
    → key ≡ key_of info → new key ≡ Some n → ((q : Key) (k : ℕ) → old q ≡ Some k → new q ≡ Some k) → ((q : Key) (k : ℕ) → new q ≡ Some k → (old q ≡ Some k) ⊎ ((q ≡ key) × (k ≡ next)))
    → more ≡ keyed ++ n ∷ [] → AreBefore w new more (i + 1)
next_before w old new keyed more i n next key info h at is its_key found kept only made = record {
  size = ap length made ∙ length_push keyed n ∙ ap (λ x. x + 1) h.size;
  found = λ m mine lt there. elim (low_or_last m i lt) [
    | inl low ↦ let k = h.found m mine low there in (k.0, kept (key_of mine) k.0 k.1, ap (λ l. slice_get l m) made ∙ at_first keyed n k.0 m k.2)
    | inr last ↦
        let same : info ≡ mine = let both : Some info ≡ Some mine = sym at ∙ ap (slice_get w.methods) (sym last) ∙ there in cc both in
        (n, ap new (ap key_of (sym same) ∙ sym its_key) ∙ found, ap (λ l. slice_get l m) made ∙ ap (slice_get (keyed ++ n ∷ [])) (last ∙ sym h.size) ∙ at_last keyed n)
  ];
  only = λ q k e. elim (only q k e) [
    | inl was ↦ h.only q k was
    | inr first ↦ (info, ap (slice_get w.methods) (first.1 ∙ is) ∙ at, sym its_key ∙ sym first.0)
  ];
}

pub all_before : (w : World) (find : Key → Option ℕ) (keyed : List ℕ) (i : ℕ) → i ≡ length w.methods → AreBefore w find keyed i → AreKeys w find keyed
all_before w find keyed i all h = record {
  size = h.size ∙ all;
  found = λ m info at. h.found m info (let lt = slice_get_within w.methods m info at in omega (arith, lt, all)) at;
  only = h.only;
}
