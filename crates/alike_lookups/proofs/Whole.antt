-- Families that are found as a whole.
use Rattle.std.proofs.Common.{◌≡◌, ℕ, true, Option, Some, None, inl, inr, refl, subst}
use Rattle.std.specs.Option.{option_map}
use Rattle.class_world.specs.declared.world.World.{World}
use Rattle.class_world.specs.Inheritance.{DeclaresMethod}
use Rattle.class_world.specs.Overriding as by
use Rattle.class_world.specs.Overriding.{IsClass, IsFamily, Answers, IsAnswer, IsFixed, IsFound, FoundIs, IsSuperclass}
use Rattle.running_code.specs.Running.{HaveOneSuperclass}
use Rattle.running_code.proofs.Lookups.{same_found}
use Rattle.alike_lookups.specs.Lookups.{Sides, FindsAlike, to_type, to_method}
use Rattle.alike_lookups.specs.Families.{IsFamilyAlike, AreUpsKept, IsStandIn}
use Rattle.alike_lookups.proofs.Found.{free_answer}
use Rattle.alike_lookups.proofs.Plains.{answers, answer_in, change, found_alike}

module _ (x : Sides) (m n : ℕ) (alike : IsFamilyAlike x m n) (kept : AreUpsKept x) (single : HaveOneSuperclass x.old) (single_new : HaveOneSuperclass x.new) where
  abbrev w : World
  w = x.old

  abbrev v : World
  v = x.new

  abbrev f : ℕ → ℕ
  f = to_type x

  abbrev g : ℕ → ℕ
  g = to_method x

  itself : IsFamily w m m
  itself = by.itself

  itself_new : IsFamily v n n
  itself_new = by.itself

  free : IsFixed w m → ⊥
  free = (alike.members m itself).free

  -- the method n itself is that to which m goes, or of its family
  in_new : (j : ℕ) → IsFamily w m j → IsFamily v n (g j)
  in_new j is = (alike.members j is).family

  forward : (free_n : IsFixed v n → ⊥) → {o a b c j : ℕ} → IsFamily w m a → IsFamily v n b → IsAnswer w o a c j → IsAnswer v (f o) b (f c) (g j)
  forward free_n {o} {a} {b} {c} {j} in_a in_b (by.here h least) =
      let there = (alike.members j (answer_in m alike.plain in_a h)).found c h.0 h.1 in
      let mine : IsFound w m c j = by.chosen free (change m alike.plain in_a itself (by.here h least)) in
      let one : Some j ≡ Some there.0 = same_found w single m c (Some j) (Some there.0) mine there.1 in
      let number : there.0 ≡ j = cc one in
      subst (λ j. IsAnswer v (f o) b (f c) (g j)) number (change n alike.plain_new itself_new in_b (free_answer v n (f c) (g there.0) free_n there.2))
  forward free_n {o} {a} {b} {c} {j} in_a in_b (by.further {s = s} none up rest) =
      by.further
      (λ k h.
      let own = alike.covered k (answer_in n alike.plain_new in_b h) c h.0 h.1 in
      none own.0 (answers m alike.plain in_a own.3 own.1 own.2))
      ((kept c single single_new).0 s up) (forward free_n in_a in_b rest)

  backward : (q : ℕ) → {o a b d k : ℕ} → IsFamily w m a → IsFamily v n b → IsAnswer v q b d k → (c : ℕ) → d ≡ f c → ((j : ℕ) → IsAnswer w o a c j → ⊥) → ⊥
  backward q {o} {a} {b} {d} {k} in_a in_b (by.here h least) c is none =
      let own = alike.covered k (answer_in n alike.plain_new in_b h) c (subst (IsClass v) is h.0) (subst (λ d. DeclaresMethod v d k) is h.1) in
      let there = (alike.members own.0 own.3).found c own.1 own.2 in
      none there.0 (change m alike.plain itself in_a (free_answer w m c there.0 free there.1))
  backward q {o} {a} {b} {d} {k} in_a in_b (by.further {s = t} none_new up rest) c is none =
      let below = (kept c single single_new).1 t (subst (λ d. IsSuperclass v d t) is up) in
      backward q in_a in_b rest below.0 below.1
      (λ j h. none j (by.further
      (λ i own.
      let there = (alike.members i (answer_in m alike.plain in_a own)).found c own.0 own.1 in
      none there.0 (change m alike.plain itself in_a (free_answer w m c there.0 free there.1)))
      below.2 h))

  found_on : (free_n : IsFixed v n → ⊥) (a b k : ℕ) (o p : Option ℕ) → IsFamily w m a → IsFamily v n b → (IsFixed w a → ⊥) → (IsFixed v b → ⊥) → FoundIs w a k o → FoundIs v b (f k) p → p ≡ option_map g o
  found_on free_n a b k (Some j) p in_a in_b free_a free_b h i =
      same_found v single_new b (f k) p (Some (g j)) i (by.chosen free_b (forward free_n in_a in_b (free_answer w a k j free_a h)))
  found_on free_n a b k None None in_a in_b free_a free_b h i = refl
  found_on free_n a b k None (Some q) in_a in_b free_a free_b h i =
      absurd (backward (f k) in_a in_b (free_answer v b (f k) q free_b i) k refl (λ j is. h j (by.chosen free_a is)))

-- each method of the family finds as the one that it goes to does
pub family_alike : (x : Sides) (m : ℕ) → IsFamilyAlike x m (to_method x m) → AreUpsKept x → (j : ℕ) → IsFamily x.old m j → FindsAlike x j (to_method x j)
family_alike x m alike kept j is k single single_new o p h i =
    let member = alike.members j is in
    inl (found_on x m (to_method x m) alike kept single single_new (alike.members m by.itself).free_new j (to_method x j) k o p is member.family member.free member.free_new h i)

-- a method of the same family finds the same
pub stand_in_alike : (x : Sides) (m n : ℕ) → IsStandIn x.new (to_method x m) n → FindsAlike x m (to_method x m) → FindsAlike x m n
stand_in_alike x m n is alike k single single_new o p h i =
    alike k single single_new o p h (found_alike n is.plain n (to_method x m) (to_type x k) p by.itself is.family is.free_other is.free i)

-- what is asked of all runs is enough for some
pub strictly : (x : Sides) (m n : ℕ) → FindsAlike (record x { strict = true }) m n → FindsAlike x m n
strictly x m n alike k single single_new o p h i = elim (alike k single single_new o p h i) [ inl e ↦ inl e | inr never ↦ absurd (let e = never.0 in cc e) ]
