-- The way up from a class type of a sound world to the parameterization of a class.
use Rattle.std.proofs.Common.{◌≡◌, ℕ, ◌+◌, ◌<◌, zero, suc, Bool, true, false, List, [], Option, Some, None, ◌⊎◌, ◌↔◌, inl, inr, map, refl, sym, ap, ◌∙◌, subst, length, arith}
use Rattle.std.specs.Prelude.{slice_get, IsTrue, IfSome}
use Rattle.class_world.specs.declared.world.World.{World}
use Rattle.class_world.specs.declared.world.TypeInfo.{TypeInfo}
use Rattle.class_world.specs.declared.world.Above.{Above}
use Rattle.class_world.specs.declared.world.JavaType.{JavaType}
use Rattle.class_world.specs.declared.world.JavaType.TheVariants as ty
use Rattle.class_world.specs.declared.seen.Seen.{Seen}
use Rattle.class_world.specs.Seen.{seen_as}
use Rattle.class_world.specs.Types.{substitute, erased, variables, IsTypeOver}
use Rattle.class_world.specs.DirectSupers.{IsDirectSuper}
use Rattle.class_world.specs.Subtypes.{Subtype, same, through, declared, raw, IsDeclaredSuper, IsSeenAs, Parameterizes}
use Rattle.class_world.specs.Sound.{HaveClassSupers, IsOfWorld, IsRow, IsSet, IsShortcut, IsSound, IsSuper}
use Rattle.class_world.specs.Climbs.{HasBase, IsClassType, IsGeneric, IsRaw, IsSaid, IsSuperBy, IsWayUp, LeadsTo}
use Rattle.class_world.proofs.Forms.{same_class}
use Rattle.class_world.proofs.Substs.{put_class, erased_class, length_map, none_left}
use Rattle.class_world.proofs.Orders.{bare_over, class_above, class_parts, class_supers, declared_over, seen_class}
use Rattle.class_world.proofs.Lifts.{bare, bare_alike, base_generic, one_base}
use Rattle.class_world.proofs.Steps.{step_up}
use Rattle.class_world.proofs.Bases.{IsFull, full_base}
use Rattle.class_world.proofs.Frames.{seen_put, seen_type}
use Rattle.class_world.proofs.Ranks.{not_above_itself}
use Rattle.class_world.proofs.Leaps.{past}
use Rattle.class_world.proofs.Heights.{height, lower, number, number_class}

not_flat : (g h : ℕ) (u : JavaType) → Parameterizes g u → u ≡ ty.Class h [] → ⊥
not_flat g h u is e = is.2 (same_class g h is.0 [] (sym is.1 ∙ e)).1

-- the declared supertype d is not below a parameterization of g
abbrev pub LeadsNowhere : World → ℕ → Bool → JavaType → ℕ → Type 0
LeadsNowhere w c said d g = (args : List JavaType) (u : JavaType) → IsSaid w c said args → IsSuperBy w (ty.Class c args) d u → HasBase w u g → ⊥

pub on_some : {A : Type 0} {P Q : A → Type 0} (o : Option A) → ((x : A) → P x → Q x) → IfSome o P → IfSome o Q
on_some None goes h = tt
on_some (Some x) goes h = goes x h

pub both_ways : {A B C : Type 0} → A ↔ B → B ↔ C → A ↔ C
both_ways f g = (λ a. g.0 (f.0 a), λ c. f.1 (g.1 c))

lower_or_last : (k i : ℕ) → k < i + 1 → (k < i) ⊎ (k ≡ i)
lower_or_last k i h = grind (arith, h)

pub nowhere_next : (w : World) (c g : ℕ) (said : Bool) (ds : List JavaType) (i : ℕ) (x : JavaType) → ((k : ℕ) (d : JavaType) → k < i → slice_get ds k ≡ Some d → LeadsNowhere w c said d g) → slice_get ds i ≡ Some x
    → LeadsNowhere w c said x g → (k : ℕ) (d : JavaType) → k < i + 1 → slice_get ds k ≡ Some d → LeadsNowhere w c said d g
nowhere_next w c g said ds i x before at here k d lt at' = elim (lower_or_last k i lt) [
  | inl low ↦ before k d low at'
  | inr last ↦ let alike : x ≡ d = cc (at, ap (slice_get ds) (sym last) ∙ at') in subst (λ d. LeadsNowhere w c said d g) alike here
]

module _ (w : World) (sound : IsSound w) where
  sups : HaveClassSupers w
  sups = class_supers w sound.declared

  -- the row of a class
  pub row_of : (c : ℕ) (info : TypeInfo) (row : Above) → slice_get w.types c ≡ Some info → slice_get w.above c ≡ Some row → IsRow w c info.params row
  row_of c info row at there =
      let has = sound.rows c info at in
      let is : has.0 ≡ row = cc (has.1, there) in
      subst (IsRow w c info.params) is has.2

  -- what the table says

  -- a type that is not raw has all its arguments
  full_args : (c : ℕ) (args : List JavaType) → IsOfWorld w (ty.Class c args) → (IsRaw w c args → ⊥) → IsFull w c args
  full_args c args over not_raw =
      let parts = class_parts w over.0 (ty.Class c args) c args over.1 refl in
      (parts.0, parts.1, elim parts.2 [ inl none ↦ all parts.0.params none (λ some. not_raw (none, (parts.0, parts.1, some))) | inr len ↦ len ])
    where
      all : (n : ℕ) → args ≡ [] → (0 < n → ⊥) → length args ≡ n
      all zero none some = ap length none
      all (suc n) none some = absurd (some (omega arith))

  pub raw_told : (r said : Bool) (c g : ℕ) (args : List JavaType) (row : Above) (words : List ℕ) → said ≡ true → IsSaid w c said args → slice_get w.above c ≡ Some row → words ≡ row.raw_bases → IsTrue r ↔ IsSet words g
      → IsTrue r ↔ HasBase w (ty.Class c args) g
  raw_told r said c g args row words holds is there same_words told =
      let flat = is.1.0 holds in
      let bits = (row_of c flat.1.0 row flat.1.1 there).raw_bases flat.1.2 g in (
        λ h. subst (λ args. HasBase w (ty.Class c args) g) (sym flat.0) (bits.0 (subst (λ ws. IsSet ws g) same_words (told.0 h))),
        λ h. told.1 (subst (λ ws. IsSet ws g) (sym same_words) (bits.1 (subst (λ args. HasBase w (ty.Class c args) g) flat.0 h))),
      )

  pub full_told : (c g : ℕ) (args : List JavaType) (said : Bool) (row : Above) → (IsTrue said → ⊥) → IsSaid w c said args → slice_get w.above c ≡ Some row
      → (IsGeneric w g × IsSet row.types g) ↔ HasBase w (ty.Class c args) g
  full_told c g args said row fails is there =
      let full = full_args c args is.0 (λ flat. fails (is.1.1 flat)) in
      let types = (row_of c full.0 row full.1 there).types g in
      let own = variables 0 full.0.params in (
        λ h. full_base w sound.declared c g args full h.0 (bare_alike w sups c g own args (types.0 h.1)),
        λ h. (
          base_generic w sups is.0.0 c g args is.0.1 h,
          types.1 (bare_alike w sups c g args own (through (subst (Subtype w (ty.Class c args)) h.1.1 h.2) (raw g h.1.0))),
        ),
      )

  pub no_row : (c : ℕ) (args : List JavaType) → IsOfWorld w (ty.Class c args) → slice_get w.above c ≡ None → ⊥
  no_row c args over none =
      let parts = class_parts w over.0 (ty.Class c args) c args over.1 refl in
      let has = sound.rows c parts.0 parts.1 in
      absurd (cc (has.1, none))

  -- the declared supertypes

  abbrev by_declared : (c : ℕ) (xs : List JavaType) (d u : JavaType) → IsDirectSuper w c d → IsSuperBy w (ty.Class c xs) d u → IsDeclaredSuper w c xs u
  by_declared c xs d u direct by =
      let alike = same_class c by.0 xs by.1 by.2 in
      let info : direct.0 ≡ by.3 = cc (direct.1, ap (slice_get w.types) alike.0 ∙ by.4) in
      (by.3, ap (slice_get w.types) alike.0 ∙ by.4, d, direct.2, ap (λ (i : TypeInfo). slice_get i.supers direct.2) (sym info) ∙ direct.3, subst (λ xs. IsSeenAs by.3.params xs d u) (sym alike.1) by.5)

  pub said_super : (c h g : ℕ) (said above : Bool) (d : JavaType) (ds : List JavaType) → IsDirectSuper w c d → d ≡ ty.Class h ds → IsTrue above ↔ (IsTrue said × IsGeneric w h)
      → (args : List JavaType) (u : JavaType) → IsSaid w c said args → IsSuperBy w (ty.Class c args) d u → (us : List JavaType) × (u ≡ ty.Class h us) × IsSaid w h above us
  said_super c h g said above d ds direct shape both args u is by =
      let up = by_declared c args d u direct by in
      let over = (declared_over w sups is.0.0 c args u is.0.1 up).0 in
      let sup = (sound.declared.supers c direct.0 d direct.1 direct).1 in
      let same_h = same_class h sup.0 ds sup.1 (sym shape ∙ sup.3) in
      let known : slice_get w.types h ≡ Some sup.2 = ap (slice_get w.types) same_h.0 ∙ sup.4 in
      elim up.5 [
        | inl plain ↦
            let us = map (substitute args) ds in
            let made : u ≡ ty.Class h us = plain.1 ∙ ap (substitute args) shape ∙ put_class args h ds in
            let not_raw : IsRaw w h us → ⊥ = λ flat.
            let none : length ds ≡ 0 = ap length (none_left (substitute args) ds flat.0) in
            let len : length ds ≡ sup.2.params = ap length same_h.1 ∙ sup.5 in
            let alike : sup.2 ≡ flat.1.0 = cc (known, flat.1.1) in
            let params : sup.2.params ≡ flat.1.0.params = ap (λ (i : TypeInfo). i.params) alike in
            omega (arith, none, len, params, flat.1.2) in
            let not_said : IsTrue said → ⊥ = λ holds.
            let flat = is.1.0 holds in
            let alike : up.0 ≡ flat.1.0 = cc (up.1, flat.1.1) in
            let params : up.0.params ≡ flat.1.0.params = ap (λ (i : TypeInfo). i.params) alike in
            let none : length args ≡ 0 = ap length flat.0 in
            omega (arith, none, plain.0, params, flat.1.2) in
            (us, made, ((is.0.0, subst (IsTypeOver w is.0.0) made over), (λ holds. absurd (not_said (both.0 holds).0), λ flat. absurd (not_raw flat))))
        | inr flat ↦
            let made : u ≡ ty.Class h [] = flat.2 ∙ ap erased shape ∙ erased_class h ds in
            let holds : IsTrue said = is.1.1 (flat.0, (up.0, up.1, flat.1)) in
            ([], made, ((is.0.0, subst (IsTypeOver w is.0.0) made over), (λ k. (refl, (both.0 k).1), λ k. both.1 (holds, k.1))))
      ]

  -- one whose bits say so leads to a parameterization of g, and one whose bits do not does not
  pub super_leads : (c h g : ℕ) (said above r : Bool) (d : JavaType) (ds : List JavaType) → IsDirectSuper w c d → d ≡ ty.Class h ds → IsTrue above ↔ (IsTrue said × IsGeneric w h)
      → ((args : List JavaType) → IsSaid w h above args → IsTrue r ↔ HasBase w (ty.Class h args) g) → (args : List JavaType) (u : JavaType) → IsSaid w c said args → IsSuperBy w (ty.Class c args) d u → IsTrue r ↔ HasBase w u g
  super_leads c h g said above r d ds direct shape both told args u is by =
      let up = said_super c h g said above d ds direct shape both args u is by in
      subst (λ u. IsTrue r ↔ HasBase w u g) (sym up.1) (told up.0 up.2)

  -- a parameterization of another class comes over a declared supertype
  pub none_leads : (c g : ℕ) (said : Bool) → ((d : JavaType) → IsDirectSuper w c d → LeadsNowhere w c said d g) → (args : List JavaType) → IsSaid w c said args → HasBase w (ty.Class c args) g → c ≡ g
  none_leads c g said none args is h = elim (step_up w sups (ty.Class c args) h.0 h.2 is.0.0 c args refl is.0.1) [
    | inl own ↦ (same_class c g args h.1.0 (sym own ∙ h.1.1)).0
    | inr (inl flat) ↦ absurd (not_flat g c h.0 h.1 flat)
    | inr (inr (inl top)) ↦ absurd (not_flat g 0 h.0 h.1 top)
    | inr (inr (inr m)) ↦
        let up = m.1 in
        absurd (none up.2 (up.0, up.1, up.3, up.4) args m.0 is (c, args, refl, up.0, up.1, up.5) (h.0, h.1, m.2))
  ]

  -- no parameterization of a class is above its raw type
  pub not_raw_own : (g : ℕ) (xs : List JavaType) → IsOfWorld w (ty.Class g xs) → HasBase w (ty.Class g xs) g → xs ≡ [] → ⊥
  not_raw_own g xs over h none =
      let parts = class_parts w over.0 (ty.Class g xs) g xs over.1 refl in
      let up : Subtype w (ty.Class g []) h.0 = subst (λ xs. Subtype w (ty.Class g xs) h.0) none h.2 in
      elim (step_up w sups (ty.Class g []) h.0 up 0 g [] refl (bare_over w 0 g parts.0 parts.1)) [
        | inl own ↦ not_flat g g h.0 h.1 own
        | inr (inl flat) ↦ not_flat g g h.0 h.1 flat
        | inr (inr (inl top)) ↦ not_flat g 0 h.0 h.1 top
        | inr (inr (inr m)) ↦
            let k = m.1 in
            let direct : IsDirectSuper w g k.2 = (k.0, k.1, k.3, k.4) in
            let sup = (sups.supers g k.0 k.2 k.1 direct).1 in
            let shape = seen_class k.0.params [] k.2 m.0 sup.0 sup.1 sup.2 k.5 in
            let high : Subtype w (ty.Class sup.0 shape.0) (ty.Class g h.1.0) = subst (λ m. Subtype w m (ty.Class g h.1.0)) shape.1 (subst (Subtype w m.0) h.1.1 m.2) in
            not_above_itself w sups sound.rank sound.falls g (sup.0, sup.1, subst (IsDirectSuper w g) sup.2 direct, bare w sups sup.0 g shape.0 h.1.0 high)
      ]

  -- a type that has a parameterization of its own class above is that one
  pub own_base : (g : ℕ) (xs : List JavaType) (t : JavaType) → IsOfWorld w (ty.Class g xs) → HasBase w (ty.Class g xs) g → Parameterizes g t → Subtype w (ty.Class g xs) t → ty.Class g xs ≡ t
  own_base g xs t over h is up = one_base w sups over.0 g g xs (ty.Class g xs) t (sound.single g) over.1 (xs, refl, not_raw_own g xs over h) is same up

  -- at the class itself, the arguments tell
  pub here_told : (r : Bool) (c g h : ℕ) (xs ts us : List JavaType) (t : JavaType) → IsOfWorld w (ty.Class c xs) → c ≡ h → h ≡ g → t ≡ ty.Class g ts → (ts ≡ [] → ⊥) → HasBase w (ty.Class c xs) g → us ≡ ts
      → IsTrue r ↔ (xs ≡ us) → IsTrue r ↔ Subtype w (ty.Class c xs) t
  here_told r c g h xs ts us t over first second shape some base alike told =
      let number : c ≡ g = first ∙ second in (
        λ k. subst (Subtype w (ty.Class c xs)) (ap (λ c. ty.Class c xs) number ∙ ap (λ xs. ty.Class g xs) (told.0 k ∙ alike) ∙ sym shape) same,
        λ up.
            let own = subst (λ c. ty.Class c xs ≡ t) (sym number)
            (own_base g xs t (subst (λ c. IsOfWorld w (ty.Class c xs)) number over) (subst (λ c. HasBase w (ty.Class c xs) g) number base) (ts, shape, some) (subst (λ c. Subtype w (ty.Class c xs) t) number up)) in
            told.1 ((same_class c g xs ts (own ∙ shape)).1 ∙ sym alike),
      )

  -- the steps of the way

  -- a declared supertype
  pub super_way : (c : ℕ) (said : Bool) (d : JavaType) → IsDirectSuper w c d → IsWayUp w c said d
  super_way c said d direct = (
    λ info at. sups.supers c info d at direct,
    λ args u is by. (
      declared (by_declared c args d u direct by),
      λ xs e.
          let sup = (sups.supers c direct.0 d direct.1 direct).1 in
          let shape = seen_class by.3.params by.1 d u sup.0 sup.1 sup.2 by.5 in
          let number : sup.0 ≡ c = (same_class sup.0 c shape.0 xs (sym shape.1 ∙ e)).0 in
          let low = subst (λ g. sound.rank g < sound.rank c) number (sound.falls c sup.0 sup.1 (subst (IsDirectSuper w c) sup.2 direct)) in
          absurd (omega (arith, low)),
    ),
  )

  -- no type of a class is above one of its declared supertypes
  no_return : (c : ℕ) (d t : JavaType) (ts : List JavaType) → IsDirectSuper w c d → Subtype w d t → t ≡ ty.Class c ts → ⊥
  no_return c d t ts direct up shape =
      let sup = (sups.supers c direct.0 d direct.1 direct).1 in
      let high : Subtype w (ty.Class sup.0 sup.1) (ty.Class c ts) = subst (λ d. Subtype w d (ty.Class c ts)) sup.2 (subst (Subtype w d) shape up) in
      not_above_itself w sups sound.rank sound.falls c (sup.0, sup.1, subst (IsDirectSuper w c) sup.2 direct, bare w sups sup.0 c sup.1 ts high)

  abbrev HasShortcut : ℕ → JavaType → Type 0
  HasShortcut c t = (info : TypeInfo) → slice_get w.types c ≡ Some info → IsShortcut w c info.params t

  -- what the shortcut is for a type with all its arguments
  shortcut_put : (c : ℕ) (said : Bool) (t : JavaType) → HasShortcut c t → (IsTrue said → ⊥) → (args : List JavaType) (u : JavaType) → (is : IsSaid w c said args) → IsSuperBy w (ty.Class c args) t u
      → IsSuper w is.0.0 u × Subtype w (ty.Class c args) u
  shortcut_put c said t short fails args u is by =
      let full = full_args c args is.0 (λ flat. fails (is.1.1 flat)) in
      let up = past w sound.declared c full.0 args (ty.Class c args) t refl full.1 (short full.0 full.1) is.0.0 (is.0.1, (c, args, full.0, refl, full.1, full.2)) in
      let alike = same_class c by.0 args by.1 by.2 in
      let made : u ≡ substitute args t = elim by.5 [
        | inl plain ↦ plain.1 ∙ ap (λ xs. substitute xs t) (sym alike.1)
        | inr flat ↦ absurd (fails (is.1.1 (alike.1 ∙ flat.0, (by.3, ap (slice_get w.types) alike.0 ∙ by.4, flat.1))))
      ] in
      (subst (IsSuper w is.0.0) (sym made) up.0, subst (Subtype w (ty.Class c args)) (sym made) up.1)

  -- a shortcut, for types that are not raw
  pub shortcut_way : (c : ℕ) (said : Bool) (t : JavaType) → HasShortcut c t → (IsTrue said → ⊥) → IsWayUp w c said t
  shortcut_way c said t short fails = (
    λ info at. let far = (short info at).0 in (far.0, (far.1.0, far.1.1, far.1.3)),
    λ args u is by. (
      (shortcut_put c said t short fails args u is by).1,
      λ xs e.
          let parts = class_parts w is.0.0 (ty.Class c args) c args is.0.1 refl in
          let far = short parts.0 parts.1 in
          let top = far.0.1 in
          let shape = seen_class by.3.params by.1 t u top.0 top.1 top.3 by.5 in
          let number : top.0 ≡ c = (same_class top.0 c shape.0 xs (sym shape.1 ∙ e)).0 in
          no_return c far.1.0 t top.1 far.1.1 far.1.2 (top.3 ∙ ap (λ g. ty.Class g top.1) number),
    ),
  )

  -- it leads to a parameterization of g where its class does
  pub shortcut_leads : (c h g : ℕ) (said r : Bool) (t : JavaType) → HasShortcut c t → (IsTrue said → ⊥) → ((k : ℕ) (args : List JavaType) → t ≡ ty.Class k args → h ≡ k)
      → ((args : List JavaType) → IsSaid w h false args → IsTrue r ↔ HasBase w (ty.Class h args) g) → IsTrue r → LeadsTo w c said t g
  shortcut_leads c h g said r t short fails read told holds args u is by =
      let up = (shortcut_put c said t short fails args u is by).0 in
      let us = up.1.1 in
      let parts = class_parts w is.0.0 (ty.Class c args) c args is.0.1 refl in
      let top = (short parts.0 parts.1).0.1 in
      let shape = seen_class by.3.params by.1 t u top.0 top.1 top.3 by.5 in
      let number : up.1.0 ≡ h = (same_class up.1.0 top.0 us shape.0 (sym up.1.3 ∙ shape.1)).0 ∙ sym (read top.0 top.1 top.3) in
      let made : u ≡ ty.Class h us = up.1.3 ∙ ap (λ k. ty.Class k us) number in
      let not_raw : IsRaw w h us → ⊥ = λ flat.
      let alike : up.1.2 ≡ flat.1.0 = cc (ap (slice_get w.types) (sym number) ∙ up.1.4, flat.1.1) in
      let params : up.1.2.params ≡ flat.1.0.params = ap (λ (i : TypeInfo). i.params) alike in
      let none : length us ≡ 0 = ap length flat.0 in
      omega (arith, none, up.1.5, params, flat.1.2) in
      subst (λ u. HasBase w u g) (sym made) ((told us ((is.0.0, subst (IsTypeOver w is.0.0) made up.0), (λ k. absurd (cc k), λ flat. absurd (not_raw flat)))).0 holds)

  -- a step up, after which the parameterizations of g above are the same
  step : (c g : ℕ) (said : Bool) (xs : List JavaType) (d u t : JavaType) → IsSaid w c said xs → IsWayUp w c said d → IsSuperBy w (ty.Class c xs) d u → HasBase w u g → Parameterizes g t
      → IsOfWorld w u × (Subtype w u t ↔ Subtype w (ty.Class c xs) t)
  step c g said xs d u t is way by h p =
      let low = (way.1 xs u is by).0 in (
        (is.0.0, (class_above w sups is.0.0 (ty.Class c xs) u low c xs refl is.0.1).1),
        (
          λ k. through low k,
          λ k. subst (Subtype w u) (one_base w sups is.0.0 c g xs h.0 t (sound.single c) is.0.1 h.1 p (through low h.2) k) h.2,
        ),
      )

  -- it leads further up
  falls : (c h : ℕ) (said : Bool) (xs us : List JavaType) (d u : JavaType) → IsSaid w c said xs → IsWayUp w c said d → IsSuperBy w (ty.Class c xs) d u → u ≡ ty.Class h us → height w h < height w c
  falls c h said xs us d u is way by shape =
      let up = way.1 xs u is by in
      lower w sound is.0.0 c h xs us is.0.1 (subst (Subtype w (ty.Class c xs)) shape up.0) (λ e. up.1 us (shape ∙ ap (λ k. ty.Class k us) e))

  -- what the class c is said to be with arguments, it is with these as they are seen
  pub said_seen : (c : ℕ) (said : Bool) (s : Seen) (args : List JavaType) → IsOfWorld w (ty.Class c (map (seen_as s) args)) → IsTrue said ↔ IsRaw w c args → IsSaid w c said (map (seen_as s) args)
  said_seen c said s args over told = (
    over,
    (
      λ holds. let flat = told.0 holds in (ap (map (seen_as s)) flat.0, flat.1),
      λ flat. told.1 (none_left (seen_as s) args flat.0, flat.1),
    ),
  )

  -- a declared supertype of a raw type
  pub raw_by : (c h : ℕ) (xs ds : List JavaType) (said : Bool) (d : JavaType) → said ≡ true → IsSaid w c said xs → d ≡ ty.Class h ds → IsSuperBy w (ty.Class c xs) d (ty.Class h [])
  raw_by c h xs ds said d holds is shape =
      let flat = is.1.0 holds in
      (c, xs, refl, flat.1.0, flat.1.1, inr (flat.0, flat.1.2, sym (ap erased shape ∙ erased_class h ds)))

  -- a declared supertype of a type with all its arguments, as it is seen
  pub full_by : (c h : ℕ) (args ds : List JavaType) (s new : Seen) (said : Bool) (d : JavaType) → (IsTrue said → ⊥) → IsSaid w c said (map (seen_as s) args) → IsWayUp w c said d → d ≡ ty.Class h ds
      → ((t : JavaType) → seen_as new t ≡ seen_as s (substitute args t)) → IsSuperBy w (ty.Class c (map (seen_as s) args)) d (ty.Class h (map (seen_as new) ds))
  full_by c h args ds s new said d fails is way shape sees =
      let full = full_args c (map (seen_as s) args) is.0 (λ flat. fails (is.1.1 flat)) in
      let over = (way.0 full.0 full.1).0 in
      let count : length args ≡ full.0.params = sym (length_map (seen_as s) args) ∙ full.2 in
      let made : ty.Class h (map (seen_as new) ds) ≡ substitute (map (seen_as s) args) d =
      sym (seen_type new h ds) ∙ sees (ty.Class h ds) ∙ ap (λ t. seen_as s (substitute args t)) (sym shape) ∙ seen_put w full.0.params s args d count over in
      (c, map (seen_as s) args, refl, full.0, full.1, inl (full.2, made))

  -- the form of a type on the way
  way_shape : (c : ℕ) (said : Bool) (xs : List JavaType) (d : JavaType) → IsSaid w c said xs → IsWayUp w c said d → (g : ℕ) × (ys : List JavaType) × (d ≡ ty.Class g ys)
  way_shape c said xs d is way = let parts = class_parts w is.0.0 (ty.Class c xs) c xs is.0.1 refl in (way.0 parts.0 parts.1).1

  -- the class and the arguments that are read of it
  pub read_shape : (c h : ℕ) (said : Bool) (xs : List JavaType) (d : JavaType) (us : List JavaType) → IsSaid w c said xs → IsWayUp w c said d → ((g : ℕ) (args : List JavaType) → d ≡ ty.Class g args → h ≡ g)
      → ((g : ℕ) (args : List JavaType) → d ≡ ty.Class g args → us ≡ args) → d ≡ ty.Class h us
  read_shape c h said xs d us is way read read' =
      let shape = way_shape c said xs d is way in
      shape.2 ∙ ap (λ g. ty.Class g shape.1) (sym (read shape.0 shape.1 shape.2)) ∙ ap (λ xs. ty.Class h xs) (sym (read' shape.0 shape.1 shape.2))

  -- up from a raw type
  pub raw_step : (c h g : ℕ) (said : Bool) (xs : List JavaType) (d t : JavaType) → said ≡ true → IsSaid w c said xs → IsWayUp w c said d → LeadsTo w c said d g → ((g : ℕ) (args : List JavaType) → d ≡ ty.Class g args → h ≡ g) → Parameterizes g t
      → IsOfWorld w (ty.Class h []) × HasBase w (ty.Class h []) g × (Subtype w (ty.Class h []) t ↔ Subtype w (ty.Class c xs) t) × (height w h < height w c)
  raw_step c h g said xs d t holds is way leads read p =
      let sup = way_shape c said xs d is way in
      let shape : d ≡ ty.Class h sup.1 = sup.2 ∙ ap (λ g. ty.Class g sup.1) (sym (read sup.0 sup.1 sup.2)) in
      let by = raw_by c h xs sup.1 said d holds is shape in
      let base = leads xs (ty.Class h []) is by in
      let high = step c g said xs d (ty.Class h []) t is way by base p in
      (high.0, base, high.1, falls c h said xs [] d (ty.Class h []) is way by refl)

  -- up from a type with all its arguments
  pub full_step : (c h g : ℕ) (said : Bool) (args ds : List JavaType) (s new : Seen) (d t : JavaType) → (IsTrue said → ⊥) → IsSaid w c said (map (seen_as s) args) → IsWayUp w c said d → LeadsTo w c said d g → d ≡ ty.Class h ds → Parameterizes g t
      → ((t : JavaType) → seen_as new t ≡ seen_as s (substitute args t))
      → IsOfWorld w (ty.Class h (map (seen_as new) ds)) × HasBase w (ty.Class h (map (seen_as new) ds)) g × (Subtype w (ty.Class h (map (seen_as new) ds)) t ↔ Subtype w (ty.Class c (map (seen_as s) args)) t)
      × (height w h < height w c)
  full_step c h g said args ds s new d t fails is way leads shape p sees =
      let by = full_by c h args ds s new said d fails is way shape sees in
      let base = leads (map (seen_as s) args) (ty.Class h (map (seen_as new) ds)) is by in
      let high = step c g said (map (seen_as s) args) d (ty.Class h (map (seen_as new) ds)) t is way by base p in
      (high.0, base, high.1, falls c h said (map (seen_as s) args) (map (seen_as new) ds) d (ty.Class h (map (seen_as new) ds)) is way by refl)

  -- a class type that is read

  pub said_read : (at : JavaType) (k : ℕ) (args : List JavaType) (said : Bool) → (is : IsClassType w at) → ((g : ℕ) (xs : List JavaType) → at ≡ ty.Class g xs → k ≡ g) → ((g : ℕ) (xs : List JavaType) → at ≡ ty.Class g xs → args ≡ xs)
      → IsTrue said ↔ IsRaw w k args → (at ≡ ty.Class k is.1.1) × IsSaid w k said is.1.1
  said_read at k args said is read read' told =
      let xs = is.1.1 in
      let alike : args ≡ xs = read' is.1.0 xs is.1.2 in
      let shape : at ≡ ty.Class k xs = is.1.2 ∙ ap (λ g. ty.Class g xs) (sym (read is.1.0 xs is.1.2)) in (
        shape,
        ((is.0.0, subst (IsTypeOver w is.0.0) shape is.0.1), (λ holds. let flat = told.0 holds in (sym alike ∙ flat.0, flat.1), λ flat. told.1 (alike ∙ flat.0, flat.1))),
      )

  -- the next type on the way up
  pub next_type : (t at : JavaType) (k g : ℕ) (said : Bool) (xs : List JavaType) (d u : JavaType) → at ≡ ty.Class k xs → IsSaid w k said xs → IsWayUp w k said d → LeadsTo w k said d g → IsSuperBy w at d u → Subtype w t at
      → IsClassType w u × Subtype w t u × HasBase w u g × (height w (number u) < height w (number at))
  next_type t at k g said xs d u shape is way leads by below =
      let by' : IsSuperBy w (ty.Class k xs) d u = subst (λ s. IsSuperBy w s d u) shape by in
      let up = (way.1 xs u is by').0 in
      let over = class_above w sups is.0.0 (ty.Class k xs) u up k xs refl is.0.1 in
      let high = falls k over.0.0 said xs over.0.1 d u is way by' over.0.2 in
      let from : number at ≡ k = number_class at k xs shape in
      let to : number u ≡ over.0.0 = number_class u over.0.0 over.0.1 over.0.2 in
      (((is.0.0, over.1), over.0), through below (subst (λ s. Subtype w s u) (sym shape) up), leads xs u is by', subst (λ n. height w n < height w (number at)) (sym to) (subst (λ n. height w over.0.0 < height w n) (sym from) high))

  -- the last one
  pub last_type : (at : JavaType) (k g : ℕ) → (is : IsClassType w at) → ((h : ℕ) (xs : List JavaType) → at ≡ ty.Class h xs → k ≡ h) → k ≡ g → HasBase w at g → Parameterizes g at
  last_type at k g is read number base =
      let xs = is.1.1 in
      let shape : at ≡ ty.Class g xs = is.1.2 ∙ ap (λ g. ty.Class g xs) (sym (read is.1.0 xs is.1.2) ∙ number) in
      (xs, shape, not_raw_own g xs (is.0.0, subst (IsTypeOver w is.0.0) shape is.0.1) (subst (λ s. HasBase w s g) shape base))
