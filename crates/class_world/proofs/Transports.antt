-- The order of a world is that of another with the same types, and a world with all rows is sound.
use Rattle.std.proofs.Common.{◌≡◌, ℕ, ◌+◌, ◌<◌, ◌≤◌, zero, suc, List, [], ◌∷◌, Option, None, Some, ◌⊎◌, inl, inr, sym, ap, ◌∙◌, subst, length, arith}
use Rattle.std.specs.Prelude.{slice_get, slice_set, IfSome}
use Rattle.std.proofs.lemmas.Option.{slice_get_within}
use Rattle.class_world.specs.declared.world.World.{World}
use Rattle.class_world.specs.declared.world.TypeInfo.{TypeInfo}
use Rattle.class_world.specs.declared.world.Above.{Above}
use Rattle.class_world.specs.declared.world.JavaType.{JavaType}
use Rattle.class_world.specs.declared.world.JavaType.TheVariants as ty
use Rattle.class_world.specs.DirectSupers.{IsDirectSuper}
use Rattle.class_world.specs.Types.{IsTypeOver, a_primitive, the_null, a_class, a_variable, an_array}
use Rattle.class_world.specs.Subtypes.{Subtype, same, through, declared, object, raw, null, arrays, char_int, int_long}
use Rattle.class_world.specs.Sound.{AreSupers, IsRow, IsShortcut, IsSound, IsSuper}
use Rattle.class_world.specs.Merged.{HasRow, HaveShortcuts}
use Rattle.class_world.specs.Sequences.{IsSequence}
use Rattle.class_world.specs.Ordered.{IsSingleClass}
use Rattle.class_world.proofs.Words.{set_here, set_there, same_or_other}

-- a row that is written

pub row_written : (w : World) (rows : List Above) (c : ℕ) (info : TypeInfo) (row : Above) → slice_get w.types c ≡ Some info → IsRow w c info.params row → c < length rows → HasRow w (slice_set rows c row) c
row_written w rows c info row at is lt info' at' =
    let alike : info ≡ info' = cc (at, at') in
    (row, set_here rows c row lt, subst (λ (i : TypeInfo). IsRow w c i.params row) alike is)

pub row_kept : (w : World) (rows : List Above) (c g : ℕ) (info : TypeInfo) (row : Above) → slice_get w.types c ≡ Some info → IsRow w c info.params row → c < length rows
    → HasRow w rows g → HasRow w (slice_set rows c row) g
row_kept w rows c g info row at is lt has = elim (same_or_other c g) [
  | inl e ↦ subst (HasRow w (slice_set rows c row)) e (row_written w rows c info row at is lt)
  | inr other ↦ λ i there. let h = has i there in (h.0, set_there rows c g row other ∙ h.1, h.2)
]

pub shortcuts_written : (w : World) (rows : List Above) (c : ℕ) (info : TypeInfo) (row : Above) → slice_get w.types c ≡ Some info → IsRow w c info.params row → c < length rows
    → HaveShortcuts w rows → HaveShortcuts w (slice_set rows c row)
shortcuts_written w rows c info row at is lt have k i a at' there = elim (same_or_other c k) [
  | inl e ↦
      let alike : info ≡ i = cc (at, ap (slice_get w.types) e ∙ at') in
      let same_row : row ≡ a = cc (set_here rows c row lt, ap (slice_get (slice_set rows c row)) e ∙ there) in
      subst (λ (a : Above). IfSome a.shortcut (λ t. IsShortcut w k i.params t)) same_row
      (subst (λ (i : TypeInfo). IfSome row.shortcut (λ t. IsShortcut w k i.params t)) alike (subst (λ c. IfSome row.shortcut (λ t. IsShortcut w c info.params t)) e is.shortcut))
  | inr other ↦ have k i a at' (sym (set_there rows c k row other) ∙ there)
]

pub shortcuts_none : (w : World) (rows : List Above) → ((c : ℕ) (a : Above) → slice_get rows c ≡ Some a → a.shortcut ≡ None) → HaveShortcuts w rows
shortcuts_none w rows none c info a at there = subst (λ o. IfSome o (λ t. IsShortcut w c info.params t)) (sym (none c a there)) tt

lower_or_last : (k i : ℕ) → k < i + 1 → (k < i) ⊎ (k ≡ i)
lower_or_last k i h = grind (arith, h)

pub fill_next : (w : World) (listed : List ℕ) (old new : List Above) (i x : ℕ) → ((k c : ℕ) → k < i → slice_get listed k ≡ Some c → HasRow w old c) → ((g : ℕ) → HasRow w old g → HasRow w new g)
    → slice_get listed i ≡ Some x → HasRow w new x → (k c : ℕ) → k < i + 1 → slice_get listed k ≡ Some c → HasRow w new c
fill_next w listed old new i x before kept at here k c lt at' = elim (lower_or_last k i lt) [
  | inl low ↦ kept c (before k c low at')
  | inr last ↦
      let alike : x ≡ c = cc (at, ap (slice_get listed) (sym last) ∙ at') in
      subst (HasRow w new) alike here
]

pub all_next : {A : Type 0} (seen : List A) (b : A) (start : ℕ) → ((c : ℕ) → c < start → slice_get seen c ≡ Some b) → slice_get seen start ≡ Some b → (c : ℕ) → c < start + 1 → slice_get seen c ≡ Some b
all_next seen b start before here c lt = elim (lower_or_last c start lt) [ inl low ↦ before c low | inr last ↦ ap (slice_get seen) last ∙ here ]

-- the first place of a number in a list

pick : {P : Type 0} → P ⊎ (P → ⊥) → ℕ → ℕ
pick (inl e) n = 0
pick (inr other) n = suc n

pub place : List ℕ → ℕ → ℕ
place [] c = 0
place (x ∷ xs) c = pick (same_or_other x c) (place xs c)

place_at : (xs : List ℕ) (i c : ℕ) → slice_get xs i ≡ Some c → (place xs c ≤ i) × (slice_get xs (place xs c) ≡ Some c)
unfolding pick place
place_at [] i c e = absurd (cc e)
place_at (x ∷ xs) zero c e = go (same_or_other x c)
  where
    go : (d : (x ≡ c) ⊎ (x ≡ c → ⊥)) → (pick d (place xs c) ≤ 0) × (slice_get (x ∷ xs) (pick d (place xs c)) ≡ Some c)
    go (inl h) = (omega arith, ap (λ y. Some y) h)
    go (inr other) = let h : x ≡ c = cc e in absurd (other h)
place_at (x ∷ xs) (suc i) c e = go (same_or_other x c) (place_at xs i c e)
  where
    go : (d : (x ≡ c) ⊎ (x ≡ c → ⊥)) → (place xs c ≤ i) × (slice_get xs (place xs c) ≡ Some c) → (pick d (place xs c) ≤ suc i) × (slice_get (x ∷ xs) (pick d (place xs c)) ≡ Some c)
    go (inl h) low = (omega arith, ap (λ y. Some y) h)
    go (inr other) low = (omega (arith, low.0), low.1)

-- in a sequence the classes of declared supertypes come earlier
pub place_falls : (w : World) (listed : List ℕ) → IsSequence w listed → (c g : ℕ) (args : List JavaType) → IsDirectSuper w c (ty.Class g args) → place listed g < place listed c
place_falls w listed seq c g args h =
    let in_list = seq.all c (slice_get_within w.types c h.0 h.1) in
    let first = place_at listed in_list.0 c in_list.1 in
    let under = seq.before (place listed c) c g args first.1 h in
    let second = place_at listed under.0 g under.2 in
    omega (arith, second.0, under.1)

-- from a world to one with the same types

module _ (w v : World) (e : w.types ≡ v.types) where
  known : (c : ℕ) (info : TypeInfo) → slice_get w.types c ≡ Some info → slice_get v.types c ≡ Some info
  known c info h = ap (λ ts. slice_get ts c) (sym e) ∙ h

  direct : (c : ℕ) (d : JavaType) → IsDirectSuper w c d → IsDirectSuper v c d
  direct c d h = (h.0, known c h.0 h.1, h.2, h.3)

  ordered : (s t : JavaType) → Subtype w s t → Subtype v s t
  ordered s t same = same
  ordered s t (through {m = m} a b) = through (ordered s m a) (ordered m t b)
  ordered s t (declared {c = c} {args = xs} h) = declared (h.0, known c h.0 h.1, h.2, h.3, h.4, h.5)
  ordered s t (object r) = object r
  ordered s t (raw c xs) = raw c xs
  ordered s t (null r) = null r
  ordered s t (arrays {s = x} {t = y} r r' h) = arrays r r' (ordered x y h)
  ordered s t char_int = char_int
  ordered s t int_long = int_long

  over : (n : ℕ) (t : JavaType) → IsTypeOver w n t → IsTypeOver v n t
  over n t (a_primitive p) = a_primitive p
  over n t the_null = the_null
  over n t (a_class {c = c} {info = info} at counts refs parts) = a_class (known c info at) counts refs (λ k x h. over n x (parts k x h))
  over n t (a_variable lt) = a_variable lt
  over n t (an_array {element = x} some part) = an_array some (over n x part)

module _ (w v : World) (e : w.types ≡ v.types) where
  super_there : (n : ℕ) (d : JavaType) → IsSuper w n d → IsSuper v n d
  super_there n d s = (over w v e n d s.0, (s.1.0, s.1.1, s.1.2, s.1.3, known w v e s.1.0 s.1.2 s.1.4, s.1.5))

  supers_there : AreSupers w → AreSupers v
  supers_there sup = record {
    top = λ info at. sup.top info (known v w (sym e) 0 info at);
    supers = λ c info d at h.
        super_there info.params d (sup.supers c info d (known v w (sym e) c info at) (direct v w (sym e) c d h));
  }

  shortcut_there : (c n : ℕ) (o : Option JavaType) → IfSome o (λ t. IsShortcut w c n t) → IfSome o (λ t. IsShortcut v c n t)
  shortcut_there c n None h = tt
  shortcut_there c n (Some t) h = (super_there n t h.0, (h.1.0, direct w v e c h.1.0 h.1.1, ordered w v e h.1.0 t h.1.2))

  row_there : (c n : ℕ) (a : Above) → IsRow w c n a → IsRow v c n a
  row_there c n a r = record {
    types = λ g. (λ h. ordered w v e _ _ ((r.types g).0 h), λ h. (r.types g).1 (ordered v w (sym e) _ _ h));
    raw_bases = λ some g. (
      λ h. let k = (r.raw_bases some g).0 h in (k.0, k.1, ordered w v e _ _ k.2),
      λ h. (r.raw_bases some g).1 (h.0, h.1, ordered v w (sym e) _ _ h.2),
    );
    shortcut = shortcut_there c n a.shortcut r.shortcut;
  }

  pub sound_there : (listed : List ℕ) (rows : List Above) → AreSupers w → IsSequence w listed → ((c : ℕ) → HasRow w rows c) → ((c : ℕ) → IsSingleClass w c) → v.above ≡ rows → IsSound v
  sound_there listed rows sup seq filled singles above = record {
    declared = supers_there sup;
    rank = place listed;
    falls = λ c g args h. place_falls w listed seq c g args (direct v w (sym e) c (ty.Class g args) h);
    single = λ c info at g t u p q a b. singles c info (known v w (sym e) c info at) g t u p q (ordered v w (sym e) _ _ a) (ordered v w (sym e) _ _ b);
    rows = λ c info at.
        let h = filled c info (known v w (sym e) c info at) in
        (h.0, ap (λ rs. slice_get rs c) above ∙ h.1, row_there c info.params h.0 h.2);
  }
