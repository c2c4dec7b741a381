-- How many classes are above a class, by its bits in the table: fewer the further up.
use Rattle.std.proofs.Common.{◌≡◌, ℕ, ◌+◌, ◌/◌, ◌%◌, ◌<◌, ◌≤◌, zero, suc, Bool, true, false, List, [], Option, None, Some, ◌⊎◌, inl, inr, refl, sym, ap, ◌∙◌, subst, length, nat_eq, arith}
use Rattle.std.specs.Prelude.{slice_get}
use Rattle.std.specs.Int.{bit_at}
use Rattle.std.proofs.lemmas.Bool.{eq-eqb}
use Rattle.std.proofs.lemmas.Option.{slice_get_within}
use Rattle.class_world.specs.declared.world.World.{World}
use Rattle.class_world.specs.declared.world.TypeInfo.{TypeInfo}
use Rattle.class_world.specs.declared.world.Above.{Above}
use Rattle.class_world.specs.declared.world.JavaType.{JavaType, out-JavaType}
use Rattle.class_world.specs.declared.world.JavaType.TheVariants as ty
use Rattle.class_world.specs.declared.world.JavaType.TheOpen as f
use Rattle.class_world.specs.Types.{variables, IsTypeOver}
use Rattle.class_world.specs.DirectSupers.{IsDirectSuper}
use Rattle.class_world.specs.Subtypes.{Subtype, same, through}
use Rattle.class_world.specs.Sound.{HaveClassSupers, IsSet, IsSound}
use Rattle.class_world.proofs.Forms.{same_class}
use Rattle.class_world.proofs.Lifts.{bare, bare_alike}
use Rattle.class_world.proofs.Orders.{bare_over, class_above, class_parts, class_supers, object_above, seen_class}
use Rattle.class_world.proofs.Ranks.{not_above_itself}
use Rattle.class_world.proofs.Steps.{step_up}

one : Bool → ℕ
one true = 1
one false = 0

-- how many of the first n numbers pass
count : ℕ → (ℕ → Bool) → ℕ
count zero p = 0
count (suc n) p = count n p + one (p n)

one_less : (a b : Bool) → (a ≡ true → b ≡ true) → one a ≤ one b
unfolding one
one_less true true h = omega arith
one_less true false h = let never = h refl in absurd (cc never)
one_less false true h = omega arith
one_less false false h = omega arith

count_less : (n : ℕ) (p q : ℕ → Bool) → ((k : ℕ) → p k ≡ true → q k ≡ true) → count n p ≤ count n q
unfolding count
count_less zero p q h = omega arith
count_less (suc n) p q h =
    let before = count_less n p q h in
    let here = one_less (p n) (q n) (h n) in
    omega (arith, before, here)

count_fewer : (n : ℕ) (p q : ℕ → Bool) → ((k : ℕ) → p k ≡ true → q k ≡ true) → (k : ℕ) → k < n → p k ≡ false → q k ≡ true → count n p < count n q
unfolding count one
count_fewer zero p q h k lt fails holds = absurd (omega (arith, lt))
count_fewer (suc n) p q h k lt fails holds = elim (lower_or_last k n (omega (arith, lt))) [
  | inl low ↦
      let before = count_fewer n p q h k low fails holds in
      let here = one_less (p n) (q n) (h n) in
      omega (arith, before, here)
  | inr last ↦
      let before = count_less n p q h in
      let none : one (p n) ≡ 0 = ap one (ap p (sym last) ∙ fails) in
      let some : one (q n) ≡ 1 = ap one (ap q (sym last) ∙ holds) in
      omega (arith, before, none, some)
]
  where
    lower_or_last : (k i : ℕ) → k < i + 1 → (k < i) ⊎ (k ≡ i)
    lower_or_last k i h = grind (arith, h)

-- whether a bit is set

bit_of : Option ℕ → ℕ → Bool
bit_of None k = false
bit_of (Some word) k = nat_eq (bit_at word k) 1

has_bit : List ℕ → ℕ → Bool
has_bit words g = bit_of (slice_get words (g / 64)) (g % 64)

bit_told : (words : List ℕ) (g : ℕ) → has_bit words g ≡ true → IsSet words g
unfolding has_bit bit_of
bit_told words g h = go (slice_get words (g / 64)) refl h
  where
    from_test : (a b : ℕ) → nat_eq a b ≡ true → a ≡ b
    from_test a b h = grind (arith, h)

    go : (o : Option ℕ) → slice_get words (g / 64) ≡ o → bit_of o (g % 64) ≡ true → IsSet words g
    go None e h = absurd (cc h)
    go (Some word) e h = (word, e, from_test (bit_at word (g % 64)) 1 h)

bit_there : (words : List ℕ) (g : ℕ) → IsSet words g → has_bit words g ≡ true
unfolding has_bit bit_of
bit_there words g h = ap (λ o. bit_of o (g % 64)) h.1 ∙ eq-eqb (bit_at h.0 (g % 64)) 1 h.2

true_or_false : (b : Bool) → (b ≡ true) ⊎ (b ≡ false)
true_or_false true = inl refl
true_or_false false = inr refl

types_in : Option Above → List ℕ
types_in None = []
types_in (Some a) = a.types

pub height : World → ℕ → ℕ
height w c = count (length w.types) (has_bit (types_in (slice_get w.above c)))

number_in : f.JavaType-F JavaType → ℕ
number_in (f.Class c xs) = c
number_in _ = 0

-- the number of a class type
pub number : JavaType → ℕ
number t = number_in (out-JavaType t)

pub number_class : (t : JavaType) (c : ℕ) (xs : List JavaType) → t ≡ ty.Class c xs → number t ≡ c
unfolding number number_in
number_class t c xs e = ap (λ t. number_in (out-JavaType t)) e ∙ ap number_in (ty.outs-Class c xs)

module _ (w : World) (sound : IsSound w) where
  sups : HaveClassSupers w
  sups = class_supers w sound.declared

  above_told : (c : ℕ) (info : TypeInfo) (g : ℕ) → slice_get w.types c ≡ Some info → has_bit (types_in (slice_get w.above c)) g ≡ true → Subtype w (ty.Class c []) (ty.Class g [])
  unfolding types_in
  above_told c info g at h =
      let row = sound.rows c info at in
      let bit : has_bit row.0.types g ≡ true = ap (λ o. has_bit (types_in o) g) (sym row.1) ∙ h in
      bare_alike w sups c g (variables 0 info.params) [] ((row.2.types g).0 (bit_told row.0.types g bit))

  above_there : (c : ℕ) (info : TypeInfo) (g : ℕ) → slice_get w.types c ≡ Some info → Subtype w (ty.Class c []) (ty.Class g []) → has_bit (types_in (slice_get w.above c)) g ≡ true
  unfolding types_in
  above_there c info g at up =
      let row = sound.rows c info at in
      ap (λ o. has_bit (types_in o) g) row.1 ∙ bit_there row.0.types g ((row.2.types g).1 (bare_alike w sups c g [] (variables 0 info.params) up))

  -- no two classes are above each other
  apart : (c h : ℕ) (info : TypeInfo) → slice_get w.types c ≡ Some info → (h ≡ c → ⊥) → Subtype w (ty.Class c []) (ty.Class h []) → Subtype w (ty.Class h []) (ty.Class c []) → ⊥
  apart c h info at other up back = elim (step_up w sups (ty.Class c []) (ty.Class h []) up 0 c [] refl (bare_over w 0 c info at)) [
    | inl own ↦ other (same_class h c [] [] own).0
    | inr (inl flat) ↦ other (same_class h c [] [] flat).0
    | inr (inr (inl top)) ↦
        let zero_is = same_class c 0 [] [] (object_above w sups (ty.Class h []) (ty.Class c []) back top) in
        other ((same_class h 0 [] [] top).0 ∙ sym zero_is.0)
    | inr (inr (inr m)) ↦
        let k = m.1 in
        let direct : IsDirectSuper w c k.2 = (k.0, k.1, k.3, k.4) in
        let sup = (sups.supers c k.0 k.2 k.1 direct).1 in
        let shape = seen_class k.0.params [] k.2 m.0 sup.0 sup.1 sup.2 k.5 in
        let high : Subtype w (ty.Class sup.0 shape.0) (ty.Class c []) = subst (λ m. Subtype w m (ty.Class c [])) shape.1 (through m.2 back) in
        not_above_itself w sups sound.rank sound.falls c (sup.0, sup.1, subst (IsDirectSuper w c) sup.2 direct, bare w sups sup.0 c shape.0 [] high)
  ]

  -- a class above another is further up
  pub lower : (n c h : ℕ) (xs us : List JavaType) → IsTypeOver w n (ty.Class c xs) → Subtype w (ty.Class c xs) (ty.Class h us) → (h ≡ c → ⊥) → height w h < height w c
  unfolding height
  lower n c h xs us over below other =
      let mine_is = class_parts w n (ty.Class c xs) c xs over refl in
      let their_type = (class_above w sups n (ty.Class c xs) (ty.Class h us) below c xs refl over).1 in
      let theirs_is = class_parts w n (ty.Class h us) h us their_type refl in
      let up : Subtype w (ty.Class c []) (ty.Class h []) = bare w sups c h xs us below in
      let mine = has_bit (types_in (slice_get w.above c)) in
      let theirs = has_bit (types_in (slice_get w.above h)) in
      let never : theirs c ≡ true → ⊥ = λ holds. apart c h mine_is.0 mine_is.1 other up (above_told h theirs_is.0 c theirs_is.1 holds) in
      count_fewer (length w.types) theirs mine (λ g holds. above_there c mine_is.0 g mine_is.1 (through up (above_told h theirs_is.0 g theirs_is.1 holds))) c (slice_get_within w.types c mine_is.0 mine_is.1)
      (elim (true_or_false (theirs c)) [ inl holds ↦ absurd (never holds) | inr fails ↦ fails ]) (above_there c mine_is.0 c mine_is.1 same)
