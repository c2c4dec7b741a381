-- Superclasses, by the types that a class declares above it.
use Rattle.std.proofs.Common.{◌≡◌, ℕ, ◌+◌, ◌<◌, Bool, true, false, List, Option, Some, None, inl, inr, refl, sym, ap, ◌∙◌, subst, length, arith}
use Rattle.std.specs.Prelude.{slice_get, IfNone, is_some, not}
use Rattle.std.proofs.lemmas.Bool.{cases_lt}
use Rattle.std.proofs.lemmas.Option.{slice_get_within}
use Rattle.class_world.specs.declared.world.World.{World}
use Rattle.class_world.specs.declared.world.TypeInfo.{TypeInfo}
use Rattle.class_world.specs.declared.world.JavaType.{JavaType}
use Rattle.class_world.specs.declared.world.JavaType.TheVariants as ty
use Rattle.class_world.specs.Overriding.{IsSuperclass}
use Rattle.alike_lookups.specs.Classes.{IsClassAmong, IsUpKept}
use Rattle.alike_lookups.specs.Families.{AreUpsKept}
use Rattle.alike_lookups.specs.Lookups.{Sides, IsWhole, to_type}
use Rattle.alike_lookups.proofs.Lists.{contains_at, at_contains}
use Rattle.alike_lookups.proofs.Alike.{goes_behind}

module _ (w : World) (c : ℕ) (info : TypeInfo) (at : slice_get w.types c ≡ Some info) (class : info.interface ≡ false) (ds : List JavaType) (same : ds ≡ info.supers) where
  pub among_up : (s : ℕ) → IsClassAmong w ds s → IsSuperclass w c s
  among_up s (d, has, ((args, shape), is)) =
      let place = contains_at ds d has in
      ((info, at, class), (args, (info, at, place.0, ap (λ l. slice_get l place.0) (sym same) ∙ place.1 ∙ ap (λ d. Some d) shape)), is)

  pub up_among : (s : ℕ) → IsSuperclass w c s → IsClassAmong w ds s
  up_among s (own, (args, (i, there, k, is)), above) =
      let one : i ≡ info = let e = there in cc (e, at) in
      let read : slice_get ds k ≡ Some (ty.Class s args) = ap (λ l. slice_get l k) same ∙ ap (λ (x : TypeInfo). slice_get x.supers k) (sym one) ∙ is in
      (ty.Class s args, at_contains ds k (ty.Class s args) read, ((args, refl), above))

pub no_interface_up : (w : World) (c s : ℕ) (info : TypeInfo) → slice_get w.types c ≡ Some info → (info.interface ≡ false → ⊥) → IsSuperclass w c s → ⊥
no_interface_up w c s info at other (own, above, is) =
    let one : own.0 ≡ info = let e = own.1 in cc (e, at) in
    other (ap (λ (i : TypeInfo). i.interface) (sym one) ∙ own.2)

pub no_type_up : (w : World) (c s : ℕ) → slice_get w.types c ≡ None → IsSuperclass w c s → ⊥
no_type_up w c s at (own, above, is) = let e = own.1 in cc (e, at)

-- both classes have a superclass, or none has

pub both_up : (w v : World) (f : ℕ → ℕ) (k s t : ℕ) → IsSuperclass w k s → IsSuperclass v (f k) t → t ≡ f s → IsUpKept w v f k
both_up w v f k s t was is goes single single_new = (
  λ u h. subst (IsSuperclass v (f k)) (goes ∙ ap f (single k s u was h)) is,
  λ u h. (s, single_new (f k) u t h is ∙ goes, was),
)

pub neither_up : (w v : World) (f : ℕ → ℕ) (k : ℕ) → ((s : ℕ) → IsSuperclass w k s → ⊥) → ((t : ℕ) → IsSuperclass v (f k) t → ⊥) → IsUpKept w v f k
neither_up w v f k none none_new single single_new = (λ u h. absurd (none u h), λ u h. absurd (none_new u h))

-- for all numbers, where it is so for those of the list
pub ups_kept : (x : Sides) → IsWhole x.old x.new x.map → ((k : ℕ) → k < length x.map.types.to → IsUpKept x.old x.new (to_type x) k) → AreUpsKept x
ups_kept x whole each k = elim (cases_lt k (length x.map.types.to)) [
  | inl low ↦ each k low
  | inr past ↦
      let behind = goes_behind x.map.types k past in
      let known = whole.types in
      let known_new = whole.types_back in
      neither_up x.old x.new (to_type x) k
      (λ s is. let class = is.0 in let lt = slice_get_within x.old.types k class.0 class.1 in omega (arith, lt, past, known))
      (λ t is. let class = is.0 in let lt = slice_get_within x.new.types (to_type x k) class.0 class.1 in omega (arith, lt, behind, known_new))
]

-- of one more type no class comes, where none came of those before
pub none_more : (P : JavaType → ℕ → Type 0) (ds : List JavaType) (i : ℕ) (d : JavaType) → ((j s : ℕ) (e : JavaType) → j < i → slice_get ds j ≡ Some e → P e s → ⊥) → slice_get ds i ≡ Some d
    → ((s : ℕ) → P d s → ⊥) → (j s : ℕ) (e : JavaType) → j < i + 1 → slice_get ds j ≡ Some e → P e s → ⊥
none_more P ds i d before at none j s e low there h = elim (cases_lt j i) [
  | inl lt ↦ before j s e lt there h
  | inr past ↦
      let last : j ≡ i = omega (arith, low, past) in
      let one : e ≡ d = let read = sym there ∙ ap (slice_get ds) last ∙ at in cc read in
      none s (subst (λ e. P e s) one h)
]

pub none_weaker : {P Q : Type 0} (o : Option ℕ) → IfNone o P → (P → Q) → IfNone o Q
none_weaker None h f = f h
none_weaker (Some x) h f = tt

pub none_said : {P : Type 0} (o : Option ℕ) (r : Bool) → is_some o ≡ not r → r ≡ true → IfNone o P → P
none_said None r is h p = p
none_said (Some x) true is h p = absurd (cc is)
none_said (Some x) false is h p = absurd (cc h)
