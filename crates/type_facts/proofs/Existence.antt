-- That there are facts of a ready program, by the excluded middle of what is asked.
use Rattle.std.proofs.Common.{◌≡◌, ℕ, ◌+◌, ◌<◌, ◌≤◌, zero, suc, Bool, true, false, List, [], ◌∷◌, Option, Some, None, ◌⊎◌, inl, inr, ◌↔◌, refl, subst, length, arith}
use Rattle.std.specs.Prelude.{IsTrue, slice_get, slice_index_or as get_or}
use Rattle.std.specs.List.Sorted.{IsStrictlyIncreasing}
use Rattle.std.proofs.lemmas.Bool.{cases_eq}
use Rattle.std.proofs.lemmas.Option.{slice_get_within, get_or_from_slice_get}
use Rattle.java_tree.specs.declared.tree.Name.{Name}
use Rattle.class_world.specs.declared.world.World.{World}
use Rattle.class_world.specs.declared.world.JavaType.{JavaType}
use Rattle.class_world.specs.declared.world.JavaType.TheVariants as ty
use Rattle.class_world.specs.Counted.{IsCountedNamed}
use Rattle.class_world.specs.Inheritance.{FieldIs, IsFieldNamed}
use Rattle.class_world.specs.Sound.{IsKnown, IsSound}
use Rattle.class_world.specs.Subtypes.{IsSuperAs, Parameterizes, Subtype, through, raw}
use Rattle.class_world.specs.Types.{IsTypeOver, a_primitive, the_null, a_class, a_variable, an_array}
use Rattle.class_world.proofs.Decides as by
use Rattle.class_world.proofs.Substs.{there_is}
use Rattle.type_kinds.specs.OfWorld.{HasSupers, SuperIs}
use Rattle.type_names.specs.Sees.{meant}
use Rattle.type_facts.specs.Facts.{MethodsAre}
use Rattle.type_facts.specs.Laws.{Decided, HasOther, HasParameterized, HaveFacts, IsDecided, IsOnlyField}
use Rattle.type_facts.proofs.Orders.{Has, Rises, at_contains, contains_at}

-- a test of what is decided
abbrev pub test : {P : Type 0} → Decided P → Bool
test (inl h) = true
test (inr h) = false

pub tells : {P : Type 0} (d : Decided P) → IsTrue (test d) ↔ P
tells (inl h) = (λ e. h, λ k. refl)
tells (inr h) = (λ e. absurd (cc e), λ k. absurd (h k))

-- ---- the field that a name means

abbrev pub field_by : (w : World) (t : JavaType) (x : Name) → Decided ((f : ℕ) × IsOnlyField w t x f) → Option ℕ
field_by w t x (inl h) = Some h.0
field_by w t x (inr h) = None

another : (w : World) (t : JavaType) (x : Name) (f : ℕ) → IsFieldNamed w t x f → (((f : ℕ) × IsOnlyField w t x f) → ⊥) → Decided (HasOther w t x f) → HasOther w t x f
another w t x f named many (inl k) = k
another w t x f named many (inr all) = absurd (many (f, (named, λ g k. elim (cases_eq g f) [ inl e ↦ e | inr e ↦ absurd (all (g, k, e)) ])))

pub field_is : (w : World) → IsDecided w → (t : JavaType) (x : Name) (d : Decided ((f : ℕ) × IsOnlyField w t x f)) → FieldIs w t x (field_by w t x d)
field_is w decided t x (inl h) = h.1
field_is w decided t x (inr h) = λ f named. another w t x f named h (decided.other t x f)

-- ---- the supertype of a class

only_super : (w : World) → IsSound w → (n : ℕ) (t : JavaType) (g : ℕ) (u : JavaType) → IsTypeOver w n t → (t ≡ ty.Null → ⊥) → Parameterizes g u → Subtype w t u
    → (v : JavaType) → Parameterizes g v → Subtype w t v → v ≡ u
only_super w sound n t g u (a_primitive p) some is up v q k = absurd (by.primitive_under w sound t p g is.0 refl (subst (Subtype w t) is.1 up))
only_super w sound n t g u the_null some is up v q k = absurd (some refl)
only_super w sound n t g u (a_class {c = c} {args = xs} at counts refs parts) some is up v q k =
    (by.super_parameterized w sound g t u ((n, a_class at counts refs parts), (c, xs, refl)) is up).2 v q k
only_super w sound n t g u (a_variable {k = j} lt) some is up v q k = absurd (by.none_parameterized w sound t g (by.variable_under w sound t j refl) u is up)
only_super w sound n t g u (an_array {element = x} some' part) some is up v q k = absurd (by.none_parameterized w sound t g (by.array_under w sound t x refl) u is up)

bare_super : (w : World) (t : JavaType) (g : ℕ) → (HasParameterized w t g → ⊥) → Decided (Subtype w t (ty.Class g [])) → (r : Option JavaType) × IsSuperAs w t g r
bare_super w t g alone (inl up) = (Some (ty.Class g []), (up, ([], refl), λ v p h. absurd (alone (v, p, h))))
bare_super w t g alone (inr never) = (None, λ args h. never (through h (raw g args)))

a_super : (w : World) → IsDecided w → IsSound w → (t : JavaType) (g : ℕ) → HasSupers w t → Decided (HasParameterized w t g) → (r : Option JavaType) × IsSuperAs w t g r
a_super w decided sound t g has (inl h) = (Some h.0, (h.2, (h.1.0, h.1.1), only_super w sound has.0.0 t g h.0 has.0.1 has.1 h.1 h.2))
a_super w decided sound t g has (inr h) = bare_super w t g h (decided.below t (ty.Class g []))

pub super_by : (w : World) → IsDecided w → IsSound w → (t : JavaType) (g : ℕ) → Decided (HasSupers w t) → (r : Option JavaType) × SuperIs w t g r
super_by w decided sound t g (inl has) = let r = a_super w decided sound t g has (decided.parameterized t g) in (r.0, (λ h. r.1, λ h. absurd (h has)))
super_by w decided sound t g (inr none) = (None, (λ h. absurd (none h), λ h. refl))

-- ---- the methods of a name, ascending

module _ (P : ℕ → Type 0) (decide : (m : ℕ) → Decided (P m)) where
  abbrev add : (k : ℕ) → Decided (P k) → List ℕ → List ℕ
  add k (inl h) xs = k ∷ xs
  add k (inr h) xs = xs

  -- of n numbers from k on, those that P holds of
  abbrev pub listed : (k n : ℕ) → List ℕ
  listed k zero = []
  listed k (suc n) = add k (decide k) (listed (suc k) n)

  abbrev IsFrom : ℕ → List ℕ → Type 0
  IsFrom k xs = (m : ℕ) → Has xs m → P m × (k ≤ m)

  more : (k m : ℕ) → suc k ≤ m → k ≤ m
  more k m h = omega arith

  in_more : (k m : ℕ) (xs : List ℕ) → P k → IsFrom (suc k) xs → (i : ℕ) → slice_get (k ∷ xs) i ≡ Some m → P m × (k ≤ m)
  in_more k m xs h from zero e = let same : k ≡ m = cc e in (subst P same h, omega (arith, same))
  in_more k m xs h from (suc i) e = let at = from m (i, e) in (at.0, more k m at.1)

  added_from : (k : ℕ) (d : Decided (P k)) (xs : List ℕ) → IsFrom (suc k) xs → IsFrom k (add k d xs)
  added_from k (inl h) xs from m at = in_more k m xs h from at.0 at.1
  added_from k (inr h) xs from m at = let there = from m at in (there.0, more k m there.1)

  pub listed_from : (k n : ℕ) → IsFrom k (listed k n)
  listed_from k zero m at = absurd (cc at.1)
  listed_from k (suc n) m at = added_from k (decide k) (listed (suc k) n) (listed_from (suc k) n) m at

  rises_more : (k : ℕ) (xs : List ℕ) → IsFrom (suc k) xs → Rises xs → Rises (k ∷ xs)
  rises_more k xs from up zero zero x y a b lt = absurd (omega (arith, lt))
  rises_more k xs from up zero (suc j) x y a b lt = let same : k ≡ x = cc a in let low : suc k ≤ y = (from y (j, b)).1 in omega (arith, same, low)
  rises_more k xs from up (suc i) zero x y a b lt = absurd (omega (arith, lt))
  rises_more k xs from up (suc i) (suc j) x y a b lt = up i j x y a b (omega (arith, lt))

  added_rises : (k : ℕ) (d : Decided (P k)) (xs : List ℕ) → IsFrom (suc k) xs → Rises xs → Rises (add k d xs)
  added_rises k (inl h) xs from up = rises_more k xs from up
  added_rises k (inr h) xs from up = up

  pub listed_rises : (k n : ℕ) → Rises (listed k n)
  listed_rises k zero i j x y a b lt = absurd (cc a)
  listed_rises k (suc n) i j x y a b lt = added_rises k (decide k) (listed (suc k) n) (listed_from (suc k) n) (listed_rises (suc k) n) i j x y a b lt

  has_first : (k : ℕ) (d : Decided (P k)) (xs : List ℕ) → P k → Has (add k d xs) k
  has_first k (inl h) xs holds = (zero, refl)
  has_first k (inr h) xs holds = absurd (h holds)

  has_later : (k m : ℕ) (d : Decided (P k)) (xs : List ℕ) → Has xs m → Has (add k d xs) m
  has_later k m (inl h) xs at = (suc at.0, at.1)
  has_later k m (inr h) xs at = at

  first_or_later : (k m : ℕ) → k ≤ m → (k ≡ m) ⊎ (suc k ≤ m)
  first_or_later k m h = grind (arith, h)

  pub is_listed : (k n m : ℕ) → P m → k ≤ m → m < k + n → Has (listed k n) m
  is_listed k zero m h low high = absurd (omega (arith, low, high))
  is_listed k (suc n) m h low high = elim (first_or_later k m low) [
    | inl same ↦ subst (λ m. Has (listed k (suc n)) m) same (has_first k (decide k) (listed (suc k) n) (subst P (let back : m ≡ k = omega (arith, same) in back) h))
    | inr later ↦ has_later k m (decide k) (listed (suc k) n) (is_listed (suc k) n m h later (omega (arith, high)))
  ]

ascending : (xs : List ℕ) → Rises xs → IsStrictlyIncreasing xs
ascending xs up k lt =
    let x = there_is xs k (omega (arith, lt)) in
    let y = there_is xs (k + 1) lt in
    let first : get_or xs k 0 ≡ x.0 = get_or_from_slice_get xs k x.0 0 x.1 in
    let second : get_or xs (k + 1) 0 ≡ y.0 = get_or_from_slice_get xs (k + 1) y.0 0 y.1 in
    let low : x.0 < y.0 = up k (k + 1) x.0 y.0 x.1 y.1 (omega arith) in
    omega (arith, first, second, low)

-- a method that counts has a number of the world
counted_within : (w : World) (c : ℕ) (x : Name) (n m : ℕ) → IsCountedNamed w c x n m → m < length w.methods
counted_within w c x n m h = slice_get_within w.methods m h.1.1.0 h.1.1.1.0

pub methods_by : (w : World) → IsDecided w → (c : ℕ) (x : Name) (n : ℕ) → Decided (IsKnown w c) → (ms : List ℕ) × MethodsAre w c x n ms
methods_by w decided c x n (inl known) =
    let P = λ (m : ℕ). IsCountedNamed w c x n m in
    let decide = λ (m : ℕ). decided.counted c x n m in
    let ms = listed P decide 0 (length w.methods) in (
      ms,
      (
        λ h. (
          λ m. (
            λ at. (listed_from P decide 0 (length w.methods) m (contains_at ms m at)).0,
            λ at. at_contains ms m (is_listed P decide 0 (length w.methods) m at (omega arith) (let lt = counted_within w c x n m at in omega (arith, lt))),
          ),
          ascending ms (listed_rises P decide 0 (length w.methods)),
        ),
        λ h. absurd (h known),
      ),
    )
methods_by w decided c x n (inr none) = ([], (λ h. absurd (none h), λ h. refl))

-- ---- all of them

pub facts : HaveFacts
facts q java files file decided ready stands at =
    let w = q.world.now in (
      record {
        world = w;
        length_name = q.length_name;
        mean = meant java files file;
        fits = λ s t. test (decided.fits s t);
        sub = λ s t. test (decided.sub s t);
        unchecked = λ s t. test (decided.unchecked s t);
        castable = λ s t. test (decided.castable s t);
        super_as = λ t g. (super_by w decided ready.sound t g (decided.has_supers t)).0;
        field = λ t x. field_by w t x (decided.only t x);
        methods = λ c x n. (methods_by w decided c x n (decided.known c)).0;
        sees = λ c d. test (decided.sees c d);
      },
      record {
        world = refl;
        length_name = refl;
        java = java;
        files = files;
        file = file;
        stands = stands;
        at = at;
        mean = λ x. refl;
        fits = λ s t. tells (decided.fits s t);
        sub = λ s t. tells (decided.sub s t);
        unchecked = λ s t. tells (decided.unchecked s t);
        castable = λ s t. tells (decided.castable s t);
        super_as = λ t g. (super_by w decided ready.sound t g (decided.has_supers t)).1;
        field = λ t x. field_is w decided t x (decided.only t x);
        methods = λ c x n. (methods_by w decided c x n (decided.known c)).1;
        sees = λ c d. tells (decided.sees c d);
      },
    )
