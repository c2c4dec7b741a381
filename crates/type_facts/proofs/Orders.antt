-- Each fact has one answer.
use Rattle.std.proofs.Common.{◌≡◌, ℕ, ◌<◌, zero, suc, Bool, true, false, List, [], ◌∷◌, Option, Some, None, inl, inr, ◌↔◌, refl, sym, ap, ◌∙◌, subst, arith}
use Rattle.std.specs.Prelude.{IsTrue, slice_get, slice_index_or as get_or}
use Rattle.std.specs.List.{Contains}
use Rattle.std.specs.List.Sorted.{IsStrictlyIncreasing}
use Rattle.java_tree.specs.declared.tree.Name.{Name}
use Rattle.class_world.specs.declared.world.World.{World}
use Rattle.class_world.specs.declared.world.JavaType.{JavaType}
use Rattle.class_world.specs.declared.world.JavaType.TheVariants as ty
use Rattle.class_world.specs.Counted.{IsCountedNamed}
use Rattle.class_world.specs.Inheritance.{FieldIs}
use Rattle.class_world.specs.Sound.{IsKnown}
use Rattle.class_world.specs.Subtypes.{IsSuperAs, Subtype}
use Rattle.std.proofs.lemmas.List.Kept.{AllPairs-from_increasing}
use Rattle.std.proofs.lemmas.Option.{slice_get_within, slice_get-get_or, get_or_from_slice_get}
use Rattle.type_kinds.specs.OfWorld.{SuperIs, SuperTold}
use Rattle.type_facts.specs.Facts.{MethodsAre}

pub same_test : (a b : Bool) (P : Type 0) → (IsTrue a ↔ P) → (IsTrue b ↔ P) → a ≡ b
same_test true true P h k = refl
same_test false false P h k = refl
same_test true false P h k = sym (k.1 (h.0 refl))
same_test false true P h k = h.1 (k.0 refl)

pub same_field : (w : World) (t : JavaType) (x : Name) (a b : Option ℕ) → FieldIs w t x a → FieldIs w t x b → a ≡ b
same_field w t x None None h k = refl
same_field w t x (Some f) (Some g) h k = ap Some (k.1 f h.0)
same_field w t x None (Some g) h k = let m = h g k.0 in absurd (m.2 (k.1 m.0 m.1))
same_field w t x (Some f) None h k = let m = k f h.0 in absurd (m.2 (h.1 m.0 m.1))

-- supertypes of one class

named_alike : (w : World) (t : JavaType) (g : ℕ) (u v : JavaType) (xs ys : List JavaType) → u ≡ ty.Class g xs → v ≡ ty.Class g ys → IsSuperAs w t g (Some u) → IsSuperAs w t g (Some v) → u ≡ v
named_alike w t g u v [] [] p q h k = p ∙ sym q
named_alike w t g u v xs (y ∷ ys) p q h k = sym (h.2 v (y ∷ ys, q, λ e. cc e) k.0)
named_alike w t g u v (x ∷ xs) [] p q h k = k.2 u (x ∷ xs, p, λ e. cc e) h.0

one_super : (w : World) (t : JavaType) (g : ℕ) (a b : Option JavaType) → IsSuperAs w t g a → IsSuperAs w t g b → a ≡ b
one_super w t g None None h k = refl
one_super w t g None (Some v) h k = absurd (h k.1.0 (subst (Subtype w t) k.1.1 k.0))
one_super w t g (Some u) None h k = absurd (k h.1.0 (subst (Subtype w t) h.1.1 h.0))
one_super w t g (Some u) (Some v) h k = ap Some (named_alike w t g u v h.1.0 k.1.0 h.1.1 k.1.1 h k)

pub same_super : (w : World) (t : JavaType) (g : ℕ) (a b : Option JavaType) → SuperTold w t g a → SuperIs w t g b → a ≡ b
same_super w t g a b (inl h) k = one_super w t g a b h.1 (k.0 h.0)
same_super w t g a b (inr h) k = h.1 ∙ sym (k.1 h.0)

-- ascending lists of the same numbers

abbrev pub Has : List ℕ → ℕ → Type 0
Has xs m = (k : ℕ) × (slice_get xs k ≡ Some m)

abbrev pub Rises : List ℕ → Type 0
Rises xs = (i j x y : ℕ) → slice_get xs i ≡ Some x → slice_get xs j ≡ Some y → i < j → x < y

-- of ascending numbers a later one is greater
rises : (xs : List ℕ) → IsStrictlyIncreasing xs → Rises xs
rises xs up i j x y at_x at_y lt =
    let low : get_or xs i 0 < get_or xs j 0 = AllPairs-from_increasing xs up i j 0 lt (slice_get_within xs j y at_y) in
    let first : get_or xs i 0 ≡ x = get_or_from_slice_get xs i x 0 at_x in
    let second : get_or xs j 0 ≡ y = get_or_from_slice_get xs j y 0 at_y in
    omega (arith, low, first, second)

pub at_contains : (xs : List ℕ) (x : ℕ) → Has xs x → Contains xs x
at_contains xs x h = (h.0, slice_get_within xs h.0 x h.1, get_or_from_slice_get xs h.0 x x h.1)

pub contains_at : (xs : List ℕ) (x : ℕ) → Contains xs x → Has xs x
contains_at xs x h = (h.0, slice_get-get_or xs h.0 x h.1 ∙ ap Some h.2)

heads : (x y : ℕ) (xs ys : List ℕ) → Rises (x ∷ xs) → Rises (y ∷ ys) → (i : ℕ) → slice_get (y ∷ ys) i ≡ Some x → (j : ℕ) → slice_get (x ∷ xs) j ≡ Some y → x ≡ y
heads x y xs ys a b zero e j k = let h : y ≡ x = cc e in sym h
heads x y xs ys a b (suc i) e zero k = let h : x ≡ y = cc k in h
heads x y xs ys a b (suc i) e (suc j) k =
    let p : x < y = a zero (suc j) x y refl k (omega arith) in
    let q : y < x = b zero (suc i) y x refl e (omega arith) in
    absurd (omega (arith, p, q))

behind : (x m : ℕ) (xs ys : List ℕ) → Rises (x ∷ xs) → Has xs m → (k : ℕ) → slice_get (x ∷ ys) k ≡ Some m → Has ys m
behind x m xs ys a h zero e =
    let same : x ≡ m = cc e in
    let low : x < m = a zero (suc h.0) x m refl h.1 (omega arith) in
    absurd (omega (arith, same, low))
behind x m xs ys a h (suc k) e = (k, e)

tail_rises : (x : ℕ) (xs : List ℕ) → Rises (x ∷ xs) → Rises xs
tail_rises x xs a i j y z p q lt = a (suc i) (suc j) y z p q (omega (arith, lt))

same_rising : (xs ys : List ℕ) → Rises xs → Rises ys → ((m : ℕ) → Has xs m → Has ys m) → ((m : ℕ) → Has ys m → Has xs m) → xs ≡ ys
same_rising [] [] a b f g = refl
same_rising [] (y ∷ ys) a b f g = let h = g y (zero, refl) in absurd (cc h.1)
same_rising (x ∷ xs) [] a b f g = let h = f x (zero, refl) in absurd (cc h.1)
same_rising (x ∷ xs) (y ∷ ys) a b f g =
    let low = f x (zero, refl) in
    let high = g y (zero, refl) in
    let one : x ≡ y = heads x y xs ys a b low.0 low.1 high.0 high.1 in
    let rest : xs ≡ ys = same_rising xs ys (tail_rises x xs a) (tail_rises y ys b)
    (λ m h. let there = f m (suc h.0, h.1) in behind x m xs ys a h there.0 (subst (λ y. slice_get (y ∷ ys) there.0 ≡ Some m) (sym one) there.1))
    (λ m h. let there = g m (suc h.0, h.1) in behind y m ys xs b h there.0 (subst (λ x. slice_get (x ∷ xs) there.0 ≡ Some m) one there.1)) in
    cc (one, rest)

pub same_ascending : (xs ys : List ℕ) → IsStrictlyIncreasing xs → IsStrictlyIncreasing ys → ((m : ℕ) → Contains xs m ↔ Contains ys m) → xs ≡ ys
same_ascending xs ys a b h =
    same_rising xs ys (rises xs a) (rises ys b) (λ m at. contains_at ys m ((h m).0 (at_contains xs m at))) (λ m at. contains_at xs m ((h m).1 (at_contains ys m at)))

pub same_methods : (w : World) (c : ℕ) (x : Name) (n : ℕ) (ms ns : List ℕ) → IsKnown w c → ((m : ℕ) → Contains ms m ↔ IsCountedNamed w c x n m) × IsStrictlyIncreasing ms → MethodsAre w c x n ns → ms ≡ ns
same_methods w c x n ms ns known h are =
    let k = are.0 known in
    same_ascending ms ns h.1 k.1 (λ m. (λ i. (k.0 m).1 ((h.0 m).0 i), λ i. (h.0 m).1 ((k.0 m).0 i)))

pub no_methods : (w : World) (c : ℕ) (x : Name) (n : ℕ) (ms ns : List ℕ) → (IsKnown w c → ⊥) → ms ≡ [] → MethodsAre w c x n ns → ms ≡ ns
no_methods w c x n ms ns none empty are = empty ∙ sym (are.1 none)
