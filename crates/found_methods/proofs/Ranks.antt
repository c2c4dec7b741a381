-- Superclasses, and classes by their places in a sequence.
use Rattle.std.proofs.Common.{◌≡◌, ℕ, ◌+◌, ◌<◌, ◌≤◌, false, List, [], ◌∷◌, ◌++◌, Some, ◌⊎◌, inl, inr, ◌↔◌, refl, sym, ap, ◌∙◌, subst, length, arith}
use Rattle.std.specs.Prelude.{slice_get}
use Rattle.std.specs.List.{Contains}
use Rattle.std.proofs.lemmas.Bool.{cases_lt}
use Rattle.std.proofs.lemmas.Option.{slice_get_within}
use Rattle.class_world.specs.declared.world.World.{World}
use Rattle.class_world.specs.declared.world.TypeInfo.{TypeInfo}
use Rattle.class_world.specs.declared.world.JavaType.{JavaType}
use Rattle.class_world.specs.declared.world.JavaType.TheVariants as ty
use Rattle.class_world.specs.Overriding.{IsSuperclass}
use Rattle.class_world.specs.Sequences.{IsSequence}
use Rattle.class_world.proofs.Forms.{same_class}
use Rattle.class_world.proofs.Substs.{there_is}
use Rattle.method_ties.specs.Sides.{AreAll}
use Rattle.method_ties.proofs.Firsts.{at_contains, contains_at, all_push}
use Rattle.found_methods.specs.Supers.{IsClassIn, IsDeclaredSuperclass, AreSuperclasses, AreRanked}

pub one_class_in : (w : World) (d : JavaType) (a b : ℕ) → IsClassIn w d a → IsClassIn w d b → a ≡ b
one_class_in w d a b x y = let left = x.0 in let right = y.0 in (same_class a b left.0 right.0 (sym left.1 ∙ right.1)).0

pub declared_superclasses : (w : World) (info : TypeInfo) (items : List JavaType) (above : List ℕ) → info.interface ≡ false → items ≡ info.supers
    → ((s : ℕ) → Contains above s ↔ ((d : JavaType) × Contains items d × IsClassIn w d s)) → (s : ℕ) → Contains above s ↔ IsDeclaredSuperclass w info s
declared_superclasses w info items above class are all s = (
  λ has.
      let h = (all s).0 has in
      let at = contains_at items h.0 h.1 in
      (class, (at.0, h.2.0.0, ap (λ xs. slice_get xs at.0) (sym are) ∙ at.1 ∙ ap (λ d. Some d) h.2.0.1), h.2.1),
  λ h.
      let k = h.1 in
      (all s).1 (ty.Class s k.1, at_contains items k.0 (ty.Class s k.1) (ap (λ xs. slice_get xs k.0) are ∙ k.2), ((k.1, refl), h.2)),
)

-- what the list of the type with this number has
abbrev pub HasSuperclasses : World → ℕ → List ℕ → Type 0
HasSuperclasses w c list = (info : TypeInfo) → slice_get w.types c ≡ Some info → (s : ℕ) → Contains list s ↔ IsDeclaredSuperclass w info s

pub superclasses_next : (w : World) (supers out : List (List ℕ)) (i : ℕ) (info : TypeInfo) (list : List ℕ) → slice_get w.types i ≡ Some info → ((s : ℕ) → Contains list s ↔ IsDeclaredSuperclass w info s)
    → out ≡ supers ++ list ∷ [] → AreAll (HasSuperclasses w) supers i → AreAll (HasSuperclasses w) out (i + 1)
superclasses_next w supers out i info list at has made before =
    all_push (HasSuperclasses w) supers out i list before
    (λ own there s. let same : info ≡ own = cc (at, there) in subst (λ (x : TypeInfo). Contains list s ↔ IsDeclaredSuperclass w x s) same (has s)) made

pub superclasses_hold : (w : World) (supers : List (List ℕ)) → AreAll (HasSuperclasses w) supers (length w.types) → AreSuperclasses w supers
superclasses_hold w supers all = record {
  size = all.0;
  each = λ c list at s.
      let info = there_is w.types c (let lt = slice_get_within supers c list at in let size = all.0 in omega (arith, lt, size)) in
      let of_info = all.1 c list at info.0 info.1 s in (
        λ has.
            let h = of_info.0 has in
            let k = h.1 in
            ((info.0, info.1, h.0), (k.1, (info.0, info.1, k.0, k.2)), h.2),
        λ h. of_info.1 (declared c s info.0 info.1 h),
      );
}
  where
    declared : (c s : ℕ) (info : TypeInfo) → slice_get w.types c ≡ Some info → IsSuperclass w c s → IsDeclaredSuperclass w info s
    declared c s info at (class, (args, (i, there, k, is)), above) =
        let same : i ≡ info = cc (there, at) in
        let own : class.0 ≡ info = let own_at = class.1 in cc (own_at, at) in
        (ap (λ (x : TypeInfo). x.interface) (sym own) ∙ class.2, (k, args, ap (λ (x : TypeInfo). slice_get x.supers k) (sym same) ∙ is), above)

module _ (w : World) (order : List ℕ) (seq : IsSequence w order) where
  spot : (c : ℕ) → (c < length w.types) ⊎ (length w.types ≤ c) → ℕ
  spot c (inl lt) = (seq.all c lt).0
  spot c (inr past) = 0

  spot_at : (c : ℕ) (d : (c < length w.types) ⊎ (length w.types ≤ c)) → c < length w.types → slice_get order (spot c d) ≡ Some c
  unfolding spot
  spot_at c (inl lt) known = (seq.all c lt).1
  spot_at c (inr past) known = absurd (omega (arith, past, known))

  place : ℕ → ℕ
  place c = spot c (cases_lt c (length w.types))

  place_at : (c : ℕ) → c < length w.types → slice_get order (place c) ≡ Some c
  unfolding place
  place_at c known = spot_at c (cases_lt c (length w.types)) known

  pub ranked : AreRanked w (length order)
  ranked = record {
    rank = place;
    falls = λ c s h.
        let direct = h.1 in
        let known = slice_get_within w.types c direct.1.0 direct.1.1 in
        let before = seq.before (place c) c s direct.0 (place_at c known) direct.1 in
        let same = seq.once (place s) before.0 s (place_at s (seq.known before.0 s before.2)) before.2 in
        let low = before.1 in
        omega (arith, same, low);
    few = λ c known. let lt = slice_get_within order (place c) c (place_at c known) in omega (arith, lt);
  }
