-- A type that is above itself in the world is above itself by what is written.
use Rattle.std.proofs.Common.{◌≡◌, ℕ, ◌<◌, List, [], map, length, Some, ◌⊎◌, inl, inr, refl, sym, ap, ◌∙◌, subst, arith, get_or}
use Rattle.std.specs.Prelude.{slice_get}
use Rattle.std.proofs.lemmas.Option.{slice_get_within, slice_get_read}
use Rattle.rule_order.specs.declared.Breach.{Breach}
use Rattle.class_world.specs.declared.world.TypeInfo.{TypeInfo}
use Rattle.class_world.specs.declared.world.JavaType.{JavaType}
use Rattle.class_world.specs.declared.world.JavaType.TheVariants as ty
use Rattle.class_world.specs.Types.{substitute, erased}
use Rattle.class_world.specs.Subtypes.{Subtype, same, through, declared, object, raw, null, arrays, char_int, int_long, IsSeenAs}
use Rattle.class_world.specs.DirectSupers.{IsDirectSuper}
use Rattle.class_world.specs.Merged as merged
use Rattle.class_world.proofs.Forms.{class_kind, array_kind, same_class}
use Rattle.class_world.proofs.Substs.{put_class, erased_class}
use Rattle.type_names.specs.declared.known.JavaNames.{JavaNames}
use Rattle.type_names.specs.Known.{File}
use Rattle.type_headers.specs.Declared.{headers}
use Rattle.super_rules.specs.Rules.{IsSuperOf, IsAbove, step, further, SuperBreaches}
use Rattle.built_in_types.specs.declared.types.BuiltIns.{BuiltIns}
use Rattle.program_world.specs.ProgramWorld.{place_among, world_of}
use Rattle.decl_table.specs.Bases.{AreBases}
use Rattle.decl_table.proofs.Listed.{get_front, get_either, contains_at}
use Rattle.decl_table.proofs.Supers.{type_at, super_at}
use Rattle.decl_table.proofs.Orders.{class_written, class_supers}

-- a declared supertype of the world is written, or it is Object
super_edge : (built : BuiltIns) (j : JavaNames) (fs : List File) → AreBases built.types → (c g : ℕ) (args : List JavaType) → IsDirectSuper (world_of built j fs) c (ty.Class g args)
    → IsSuperOf j fs (headers built.types fs) c g ⊎ (g ≡ 0)
super_edge built j fs bases c g args (info, at, k, there) =
    elim (type_at built j fs c info bases.count at) [
      | inl h ↦ inl (inl (let low = slice_get_within built.types c info h in omega (arith, low, bases.count), info, get_front built.types _ c info h, args, contains_at info.supers k (ty.Class g args) there))
      | inr h ↦ elim (super_at (place_among built j fs h.1) h.1.decl k (ty.Class g args) (sym (ap (λ (v : TypeInfo). slice_get v.supers k) h.4.3) ∙ there)) [
        | inl top ↦ inr (same_class g 0 args [] top).0
        | inr (i, y, here, says, super) ↦ inl (inr (h.1, (h.0, h.2, h.3), y, contains_at _ i y here, (class_written (place_among built j fs h.1) y g args says).0))
      ]
    ]

-- built-in types rise to lower numbers
edge_low : (built : BuiltIns) (j : JavaNames) (fs : List File) → AreBases built.types → (c g : ℕ) → c < 19 → IsSuperOf j fs (headers built.types fs) c g → g < c
edge_low built j fs bases c g lt (inr (x, (k, is, at), s, within, named)) = absurd (omega (arith, lt, is))
edge_low built j fs bases c g lt (inl (low, info, at, args, (k, within, there))) =
    elim (get_either built.types _ c info at) [
      | inl h ↦ (let p = (bases.each c info h).1 k (ty.Class g args) (at_place info.supers k (ty.Class g args) within there) in
          let is = same_class g p.0 args [] p.2 in
          omega (arith, p.1, is.0))
      | inr h ↦ absurd (omega (arith, lt, h.1, bases.count))
    ]
  where
    at_place : {A : Type 0} (xs : List A) (k : ℕ) (x : A) → k < length xs → get_or xs k x ≡ x → slice_get xs k ≡ Some x
    at_place xs k x lt e = slice_get_read xs (length xs) k x refl lt (sym e)

above_low : (built : BuiltIns) (j : JavaNames) (fs : List File) → AreBases built.types → (c g : ℕ) → c < 19 → IsAbove j fs (headers built.types fs) c g → g < c
above_low built j fs bases c g lt (step _ _ e) = edge_low built j fs bases c g lt e
above_low built j fs bases c g lt (further _ m _ e rest) =
    let low = edge_low built j fs bases c m lt e in
    let behind = above_low built j fs bases m g (omega (arith, low, lt)) rest in
    omega (arith, low, behind)

above_through : (j : JavaNames) (fs : List File) (ts : List TypeInfo) (c m g : ℕ) → IsAbove j fs ts c m → IsAbove j fs ts m g → IsAbove j fs ts c g
above_through j fs ts c m g (step _ _ e) rest = further c m g e rest
above_through j fs ts c m g (further _ n _ e behind) rest = further c n g e (above_through j fs ts n m g behind rest)

-- the same, Object, or above
abbrev IsUp : JavaNames → List File → List TypeInfo → ℕ → ℕ → Type 0
IsUp j fs ts c g = (g ≡ c) ⊎ (g ≡ 0) ⊎ IsAbove j fs ts c g

up_through : (built : BuiltIns) (j : JavaNames) (fs : List File) → AreBases built.types → (c m g : ℕ) → IsUp j fs (headers built.types fs) c m → IsUp j fs (headers built.types fs) m g
    → IsUp j fs (headers built.types fs) c g
up_through built j fs bases c m g (inl eq) rest = subst (λ n. IsUp j fs (headers built.types fs) n g) eq rest
up_through built j fs bases c m g (inr (inl top)) (inl eq) = inr (inl (eq ∙ top))
up_through built j fs bases c m g (inr (inl top)) (inr (inl low)) = inr (inl low)
up_through built j fs bases c m g (inr (inl top)) (inr (inr above)) = absurd (let low = above_low built j fs bases m g (omega (arith, top)) above in omega (arith, low, top))
up_through built j fs bases c m g (inr (inr above)) (inl eq) = inr (inr (subst (IsAbove j fs (headers built.types fs) c) (sym eq) above))
up_through built j fs bases c m g (inr (inr above)) (inr (inl low)) = inr (inl low)
up_through built j fs bases c m g (inr (inr above)) (inr (inr behind)) = inr (inr (above_through j fs (headers built.types fs) c m g above behind))

abbrev IsClassUp : JavaNames → List File → List TypeInfo → ℕ → JavaType → Type 0
IsClassUp j fs ts c t = (g : ℕ) × (args : List JavaType) × (t ≡ ty.Class g args) × IsUp j fs ts c g

seen_class : (n g : ℕ) (args xs : List JavaType) (d t : JavaType) → d ≡ ty.Class g xs → IsSeenAs n args d t → (ys : List JavaType) × (t ≡ ty.Class g ys)
seen_class n g args xs d t is (inl (count, e)) = (map (substitute args) xs, e ∙ ap (substitute args) is ∙ put_class args g xs)
seen_class n g args xs d t is (inr (bare, some, e)) = ([], e ∙ ap erased is ∙ erased_class g xs)

edge_up : (j : JavaNames) (fs : List File) (ts : List TypeInfo) (c g : ℕ) → IsSuperOf j fs ts c g ⊎ (g ≡ 0) → IsUp j fs ts c g
edge_up j fs ts c g (inl e) = inr (inr (step c g e))
edge_up j fs ts c g (inr top) = inr (inl top)

class_up : (built : BuiltIns) (j : JavaNames) (fs : List File) → AreBases built.types → (s t : JavaType) → Subtype (world_of built j fs) s t → (c : ℕ) (args : List JavaType) → s ≡ ty.Class c args
    → IsClassUp j fs (headers built.types fs) c t
class_up built j fs bases s t same c args e = (c, args, e, inl refl)
class_up built j fs bases s t (through {m = m} first rest) c args e =
    let mid = class_up built j fs bases s m first c args e in
    let end = class_up built j fs bases m t rest mid.0 mid.1 mid.2 in
    (end.0, end.1, end.2, up_through built j fs bases c mid.0 end.0 mid.3 end.3)
class_up built j fs bases s t (declared {c = d} {args = xs} (info, at, sup, k, there, seen)) c args e =
    let is = same_class d c xs args e in
    let form = ((class_supers built j fs bases).supers d info sup at (info, at, k, there)).1 in
    let seen_as = seen_class info.params form.0 xs form.1 sup t form.2 seen in
    let edge = super_edge built j fs bases d form.0 form.1 (info, at, k, there ∙ ap Some form.2) in
    (form.0, seen_as.0, seen_as.1, edge_up j fs (headers built.types fs) c form.0 (subst (λ n. IsSuperOf j fs (headers built.types fs) n form.0 ⊎ (form.0 ≡ 0)) is.0 edge))
class_up built j fs bases s t (object refers) c args e = (0, [], refl, inr (inl refl))
class_up built j fs bases s t (raw d xs) c args e = let is = same_class d c xs args e in (d, [], refl, inl is.0)
class_up built j fs bases s t (null refers) c args e = absurd (cc e)
class_up built j fs bases s t (arrays {s = x} f g h) c args e = absurd (cc (array_kind x, class_kind c args, e))
class_up built j fs bases s t char_int c args e = absurd (cc e)
class_up built j fs bases s t int_long c args e = absurd (cc e)

rises : (built : BuiltIns) (j : JavaNames) (fs : List File) → AreBases built.types → (c : ℕ) → merged.IsAboveItself (world_of built j fs) c → IsAbove j fs (headers built.types fs) c c
rises built j fs bases c (g, args, (info, at, k, there), up) =
    let end = class_up built j fs bases (ty.Class g []) (ty.Class c []) up g [] refl in
    let is = same_class c end.0 [] end.1 end.2 in
    round (super_edge built j fs bases c g args (info, at, k, there)) (subst (IsUp j fs (headers built.types fs) g) (sym is.0) end.3)
  where
    no_top : c ≡ 0 → ⊥
    no_top top =
        let supers = ((class_supers built j fs bases).top info (subst (λ n. slice_get (world_of built j fs).types n ≡ Some info) top at)).1 in
        cc (sym (ap (λ xs. slice_get xs k) supers) ∙ there)

    round : IsSuperOf j fs (headers built.types fs) c g ⊎ (g ≡ 0) → IsUp j fs (headers built.types fs) g c → IsAbove j fs (headers built.types fs) c c
    round (inl e) (inl eq) = step c c (subst (IsSuperOf j fs (headers built.types fs) c) (sym eq) e)
    round (inl e) (inr (inl top)) = absurd (no_top top)
    round (inl e) (inr (inr above)) = further c g c e above
    round (inr low) (inl eq) = absurd (no_top (eq ∙ low))
    round (inr low) (inr (inl top)) = absurd (no_top top)
    round (inr low) (inr (inr above)) = absurd (let down = above_low built j fs bases g c (omega (arith, low)) above in omega (arith, down, low))

-- where DR3 is broken nowhere, no class of the world is above itself
pub none_rises : (built : BuiltIns) (j : JavaNames) (fs : List File) → AreBases built.types → ((b : Breach) → SuperBreaches j fs (headers built.types fs) b → ⊥)
    → (c : ℕ) → merged.IsAboveItself (world_of built j fs) c → ⊥
none_rises built j fs bases none c itself =
    let above = rises built j fs bases c itself in
    elim (type_at built j fs c itself.2.0 bases.count itself.2.1) [
      | inl h ↦ (let lt = slice_get_within built.types c itself.2.0 h in
          let low = above_low built j fs bases c c (omega (arith, lt, bases.count)) above in
          omega (arith, low))
      | inr h ↦ none (record { node = h.1.decl.node.id; rule = 3 }) (inr (inl (c, h.1, (h.0, h.2, h.3), (refl, refl, above))))
    ]
