-- A class's row, from the rows of its declared supertypes.
use Rattle.std.proofs.Common.{◌≡◌, ℕ, ◌+◌, ◌/◌, ◌<◌, ◌≤◌, zero, suc, List, [], Some, ◌⊎◌, ◌↔◌, inl, inr, refl, sym, ap, ◌∙◌, subst, length, arith}
use Rattle.std.specs.Prelude.{slice_get, slice_index_or as get_or, IfSome}
use Rattle.std.proofs.lemmas.Option.{slice_get_read, slice_get_within}
use Rattle.class_world.specs.declared.world.World.{World}
use Rattle.class_world.specs.declared.world.TypeInfo.{TypeInfo}
use Rattle.class_world.specs.declared.world.Above.{Above}
use Rattle.class_world.specs.declared.world.JavaType.{JavaType}
use Rattle.class_world.specs.declared.world.JavaType.TheVariants as ty
use Rattle.class_world.specs.Types.{erased, variables, with_own, of_class}
use Rattle.class_world.specs.Subtypes.{Subtype, through, declared, object, raw, IsDeclaredSuper, Parameterizes}
use Rattle.class_world.specs.Sound.{AreSupers, HaveClassSupers, IsSuper, IsSet, IsShortcut, IsRow}
use Rattle.class_world.specs.Climbs.{HasBase, IsGeneric, MarkGeneric}
use Rattle.class_world.specs.Merged.{Sets, AreWithin, HaveRows, AmongFirst}
use Rattle.class_world.proofs.Forms.{same_class}
use Rattle.class_world.proofs.Substs.{erased_class, variables_length}
use Rattle.class_world.proofs.Orders.{class_parts, class_supers, own_over, bare_over, class_above}
use Rattle.class_world.proofs.Lifts.{bare_alike, base_generic}
use Rattle.class_world.proofs.Bases.{IsFull, full_base}
use Rattle.class_world.proofs.Steps.{put_same, step_up}

-- the next of the types adds what it has
pub among_next : {A B S Q : Type 0} (P : JavaType → Type 0) (ts : List JavaType) (i : ℕ) (d : JavaType) → slice_get ts i ≡ Some d → B ↔ (A ⊎ Q) → A ↔ (S ⊎ AmongFirst P ts i) → Q ↔ P d
    → B ↔ (S ⊎ AmongFirst P ts (i + 1))
among_next P ts i d at step before one = (
  λ b. elim (step.0 b) [
    | inl a ↦ elim (before.0 a) [ inl s ↦ inl s | inr m ↦ inr (m.0, m.1, omega (arith, m.2), m.3, m.4) ]
    | inr q ↦ inr (i, d, omega arith, at, one.0 q)
  ],
  λ h. elim h [
    | inl s ↦ step.1 (inl (before.1 (inl s)))
    | inr m ↦ elim (lower_or_last m.0 i m.2) [
      | inl lt ↦ step.1 (inl (before.1 (inr (m.0, m.1, lt, m.3, m.4))))
      | inr e ↦
          let is : m.1 ≡ d = cc (ap (slice_get ts) (sym e) ∙ m.3, at) in
          step.1 (inr (one.1 (subst P is m.4)))
    ]
  ],
)
  where
    lower_or_last : (k i : ℕ) → k < i + 1 → (k < i) ⊎ (k ≡ i)
    lower_or_last k i h = grind (arith, h)

pub then_iff : {A B C : Type 0} → A ↔ B → B ↔ C → A ↔ C
then_iff f g = (λ a. g.0 (f.0 a), λ c. f.1 (g.1 c))

-- the bits of the generic classes among the first i

abbrev pub MarkFirst : World → List ℕ → ℕ → Type 0
MarkFirst w words i = (g : ℕ) → IsSet words g ↔ (IsGeneric w g × (g < i))

pub mark_none : (w : World) (words : List ℕ) → ((g : ℕ) → IsSet words g → ⊥) → MarkFirst w words 0
mark_none w words none g = (λ is. absurd (none g is), λ h. absurd (omega (arith, h.1)))

pub mark_next : (w : World) (words new : List ℕ) (i : ℕ) → MarkFirst w words i → IsGeneric w i → Sets words new i → MarkFirst w new (i + 1)
mark_next w words new i before generic sets g = (
  λ is. elim ((sets g).0 is) [
    | inl was ↦ let h = (before g).0 was in (h.0, omega (arith, h.1))
    | inr here ↦ (subst (IsGeneric w) (sym here) generic, omega (arith, here))
  ],
  λ h. (sets g).1 (elim (lower_or_last g i h.1) [ inl low ↦ inl ((before g).1 (h.0, low)) | inr last ↦ inr last ]),
)
  where
    lower_or_last : (k i : ℕ) → k < i + 1 → (k < i) ⊎ (k ≡ i)
    lower_or_last k i h = grind (arith, h)

pub mark_past : (w : World) (words : List ℕ) (i : ℕ) → MarkFirst w words i → (IsGeneric w i → ⊥) → MarkFirst w words (i + 1)
mark_past w words i before plain g = (
  λ is. let h = (before g).0 is in (h.0, omega (arith, h.1)),
  λ h. elim (lower_or_last g i h.1) [ inl low ↦ (before g).1 (h.0, low) | inr last ↦ absurd (plain (subst (IsGeneric w) last h.0)) ],
)
  where
    lower_or_last : (k i : ℕ) → k < i + 1 → (k < i) ⊎ (k ≡ i)
    lower_or_last k i h = grind (arith, h)

pub mark_end : (w : World) (words : List ℕ) (i : ℕ) → MarkFirst w words i → length w.types ≤ i → MarkGeneric w words
mark_end w words i all le g = (
  λ is. ((all g).0 is).0,
  λ generic. let lt = slice_get_within w.types g generic.0 generic.1 in (all g).1 (generic, omega (arith, lt, le)),
)

-- a loop's item is the list's
pub item_at : {A : Type 0} (xs ys : List A) (i : ℕ) (x : A) → xs ≡ ys → i < length xs → x ≡ get_or xs i x → slice_get ys i ≡ Some x
item_at xs ys i x alike lt e = ap (λ l. slice_get l i) (sym alike) ∙ slice_get_read xs (length xs) i x refl lt e

none_first : (P : JavaType → Type 0) (ts : List JavaType) → AmongFirst P ts 0 → ⊥
none_first P ts h = omega (arith, h.2)

pub none_raw : (P : JavaType → Type 0) (ts : List JavaType) → (⊥ ⊎ AmongFirst P ts 0) → ⊥
none_raw P ts (inl never) = never
none_raw P ts (inr m) = none_first P ts m

pub fill_start : (old one two : List ℕ) (c : ℕ) (ts : List JavaType) (P : ℕ → JavaType → Type 0) → ((g : ℕ) → IsSet old g → ⊥) → Sets old one 0 → Sets one two c
    → (h : ℕ) → IsSet two h ↔ (((h ≡ 0) ⊎ (h ≡ c)) ⊎ AmongFirst (P h) ts 0)
fill_start old one two c ts P none first second h = (
  λ is. elim ((second h).0 is) [
    | inl was ↦ elim ((first h).0 was) [ inl never ↦ absurd (none h never) | inr zero_is ↦ inl (inl zero_is) ]
    | inr self ↦ inl (inr self)
  ],
  λ is. elim is [
    | inl (inl zero_is) ↦ (second h).1 (inl ((first h).1 (inr zero_is)))
    | inl (inr self) ↦ (second h).1 (inr self)
    | inr never ↦ absurd (none_first (P h) ts never)
  ],
)

module _ (w : World) (sound : AreSupers w) where
  sups : HaveClassSupers w
  sups = class_supers w sound

  -- the class c, what it declares, and its declared supertypes
  module _ (c : ℕ) (info : TypeInfo) (at : slice_get w.types c ≡ Some info) where
    own : JavaType
    own = with_own c info.params

    super_is : (k : ℕ) (d : JavaType) → slice_get info.supers k ≡ Some d → IsSuper w info.params d
    super_is k d there = sound.supers c info d at (info, at, k, there)

    own_super : (k : ℕ) (d : JavaType) → slice_get info.supers k ≡ Some d → Subtype w (with_own c info.params) d
    own_super k d there = declared (info, at, d, k, there, inl (variables_length 0 info.params, sym (put_same w info.params d (super_is k d there).0)))

    raw_super : (k : ℕ) (d : JavaType) → 0 < info.params → slice_get info.supers k ≡ Some d → Subtype w (ty.Class c []) (erased d)
    raw_super k d some there = declared (info, at, d, k, there, inr (refl, some, refl))

    super_of_own : (m : JavaType) → IsDeclaredSuper w c (variables 0 info.params) m → (k : ℕ) × (slice_get info.supers k ≡ Some m)
    super_of_own m h =
        let is : h.0 ≡ info = cc (h.1, at) in
        let there : slice_get info.supers h.3 ≡ Some h.2 = ap (λ (i : TypeInfo). slice_get i.supers h.3) (sym is) ∙ h.4 in
        elim h.5 [
          | inl plain ↦ (h.3, there ∙ ap (λ x. Some x) (sym (plain.1 ∙ put_same w info.params h.2 (super_is h.3 h.2 there).0)))
          | inr bare ↦
              let len : length (variables 0 info.params) ≡ info.params = variables_length 0 info.params in
              let none : length (variables 0 info.params) ≡ 0 = ap length bare.0 in
              let some : 0 < info.params = subst (λ (i : TypeInfo). 0 < i.params) is bare.1 in
              absurd (omega (arith, len, none, some))
        ]

    super_of_raw : (m : JavaType) → 0 < info.params → IsDeclaredSuper w c [] m → (k : ℕ) × (d : JavaType) × (slice_get info.supers k ≡ Some d) × (m ≡ erased d)
    super_of_raw m some h =
        let is : h.0 ≡ info = cc (h.1, at) in
        elim h.5 [
          | inl plain ↦
              let none : 0 ≡ info.params = plain.0 ∙ ap (λ (i : TypeInfo). i.params) is in
              absurd (omega (arith, none, some))
          | inr bare ↦ (h.3, h.2, ap (λ (i : TypeInfo). slice_get i.supers h.3) (sym is) ∙ h.4, bare.2)
        ]

    all_of : (P : JavaType → Type 0) (i k : ℕ) (d : JavaType) → length info.supers ≤ i → slice_get info.supers k ≡ Some d → P d → AmongFirst P info.supers i
    all_of P i k d le there p = let lt = slice_get_within info.supers k d there in (k, d, omega (arith, lt, le), there, p)

    -- the classes without arguments above the class
    pub types_told : (h i : ℕ) → length info.supers ≤ i
        → (((h ≡ 0) ⊎ (h ≡ c)) ⊎ AmongFirst (λ d. Subtype w d (ty.Class h [])) info.supers i) ↔ Subtype w (with_own c info.params) (ty.Class h [])
    types_told h i le = (
      λ is. elim is [
        | inl (inl zero_is) ↦ subst (λ h. Subtype w (with_own c info.params) (ty.Class h [])) (sym zero_is) (object (of_class _ _))
        | inl (inr self) ↦ subst (λ h. Subtype w (with_own c info.params) (ty.Class h [])) (sym self) (raw _ _)
        | inr m ↦ through (own_super m.0 m.1 m.3) m.4
      ],
      λ up. elim (step_up w sups _ _ up info.params c (variables 0 info.params) refl (own_over w c info at)) [
        | inl e ↦ inl (inr (same_class h c [] _ e).0)
        | inr (inl e) ↦ inl (inr (same_class h c [] _ e).0)
        | inr (inr (inl e)) ↦ inl (inl (same_class h 0 [] [] e).0)
        | inr (inr (inr m)) ↦ let k = super_of_own m.0 m.1 in inr (all_of (λ d. Subtype w d (ty.Class h [])) i k.0 m.0 le k.1 m.2)
      ],
    )

    not_flat : (g h : ℕ) (u : JavaType) → Parameterizes g u → u ≡ ty.Class h [] → ⊥
    not_flat g h u is e = is.2 (same_class g h is.0 [] (sym is.1 ∙ e)).1

    -- the classes of which a parameterization is above the raw type
    pub raw_told : (g i : ℕ) → 0 < info.params → length info.supers ≤ i → (⊥ ⊎ AmongFirst (λ d. HasBase w (erased d) g) info.supers i) ↔ HasBase w (ty.Class c []) g
    raw_told g i some le = (
      λ is. elim is [ inl never ↦ absurd never | inr m ↦ (m.4.0, m.4.1, through (raw_super m.0 m.1 some m.3) m.4.2) ],
      λ up. elim (step_up w sups (ty.Class c []) up.0 up.2 0 c [] refl (bare_over w 0 c info at)) [
        | inl e ↦ absurd (not_flat g c up.0 up.1 e)
        | inr (inl e) ↦ absurd (not_flat g c up.0 up.1 e)
        | inr (inr (inl e)) ↦ absurd (not_flat g 0 up.0 up.1 e)
        | inr (inr (inr m)) ↦
            let k = super_of_raw m.0 some m.1 in
            inr (all_of (λ d. HasBase w (erased d) g) i k.0 k.1 le k.2 (up.0, up.1, subst (λ m. Subtype w m up.0) k.3 m.2))
      ],
    )

    -- what the row of a declared supertype's class has for it

    row_at : (rows : List Above) (k : ℕ) (d : JavaType) → HaveRows w rows info.supers → (there : slice_get info.supers k ≡ Some d)
        → (a : Above) × (slice_get rows (super_is k d there).1.0 ≡ Some a) × IsRow w (super_is k d there).1.0 (super_is k d there).1.2.params a
    row_at rows k d have there = let sup = (super_is k d there).1 in have k d there sup.0 sup.1 sup.3 sup.2 sup.4

    pub types_of_super : (rows : List Above) (k : ℕ) (d : JavaType) (words : List ℕ) → HaveRows w rows info.supers → slice_get info.supers k ≡ Some d
        → ((g : ℕ) (args : List JavaType) → d ≡ ty.Class g args → (a : Above) → slice_get rows g ≡ Some a → words ≡ a.types) → (h : ℕ) → IsSet words h ↔ Subtype w d (ty.Class h [])
    types_of_super rows k d words have there read h =
        let sup = (super_is k d there).1 in
        let row = row_at rows k d have there in
        let same_words = read sup.0 sup.1 sup.3 row.0 row.1 in
        let told = row.2.types h in (
          λ is. subst (λ d. Subtype w d (ty.Class h [])) (sym sup.3) (bare_alike w sups sup.0 h _ sup.1 (told.0 (subst (λ ws. IsSet ws h) same_words is))),
          λ up. subst (λ ws. IsSet ws h) (sym same_words) (told.1 (bare_alike w sups sup.0 h sup.1 _ (subst (λ d. Subtype w d (ty.Class h [])) sup.3 up))),
        )

    pub within : (k : ℕ) (d : JavaType) (words : List ℕ) → slice_get info.supers k ≡ Some d → ((h : ℕ) → IsSet words h ↔ Subtype w d (ty.Class h [])) → AreWithin words (length w.types / 64 + 1)
    within k d words there told h is =
        let sup = super_is k d there in
        let up = class_above w sups info.params d (ty.Class h []) ((told h).0 is) sup.1.0 sup.1.1 sup.1.3 sup.0 in
        let parts = class_parts w info.params (ty.Class h []) h [] up.1 refl in
        let lt : h < length w.types = slice_get_within w.types h parts.0 parts.1 in
        omega (arith, lt)

    -- the bits that a declared supertype without arguments adds, where its class is generic and where it is not

    bare_is : (k : ℕ) (d : JavaType) (there : slice_get info.supers k ≡ Some d) → erased d ≡ ty.Class (super_is k d there).1.0 []
    bare_is k d there = let sup = (super_is k d there).1 in ap erased sup.3 ∙ erased_class sup.0 sup.1

    pub raw_of_super : (rows : List Above) (k h : ℕ) (d : JavaType) (words : List ℕ) → HaveRows w rows info.supers → slice_get info.supers k ≡ Some d → ((g : ℕ) (args : List JavaType) → d ≡ ty.Class g args → h ≡ g)
        → IsGeneric w h → ((a : Above) → slice_get rows h ≡ Some a → words ≡ a.raw_bases) → (g : ℕ) → IsSet words g ↔ HasBase w (erased d) g
    raw_of_super rows k h d words have there read generic read' g =
        let sup = (super_is k d there).1 in
        let row = row_at rows k d have there in
        let number = read sup.0 sup.1 sup.3 in
        let same_words = read' row.0 (ap (slice_get rows) number ∙ row.1) in
        let alike : generic.0 ≡ sup.2 = cc (generic.1, ap (slice_get w.types) number ∙ sup.4) in
        let bits = row.2.raw_bases (subst (λ (i : TypeInfo). 0 < i.params) alike generic.2) g in (
          λ is. subst (λ t. HasBase w t g) (sym (bare_is k d there)) (bits.0 (subst (λ ws. IsSet ws g) same_words is)),
          λ up. subst (λ ws. IsSet ws g) (sym same_words) (bits.1 (subst (λ t. HasBase w t g) (bare_is k d there) up)),
        )

    pub raw_within : (rows : List Above) (k h : ℕ) (d : JavaType) (words : List ℕ) → HaveRows w rows info.supers → slice_get info.supers k ≡ Some d → ((g : ℕ) (args : List JavaType) → d ≡ ty.Class g args → h ≡ g)
        → IsGeneric w h → ((a : Above) → slice_get rows h ≡ Some a → words ≡ a.raw_bases) → AreWithin words (length w.types / 64 + 1)
    raw_within rows k h d words have there read generic read' g is =
        let sup = (super_is k d there).1 in
        let base = subst (λ t. HasBase w t g) (bare_is k d there) ((raw_of_super rows k h d words have there read generic read' g).0 is) in
        let known = base_generic w sups 0 sup.0 g [] (bare_over w 0 sup.0 sup.2 sup.4) base in
        let lt = slice_get_within w.types g known.0 known.1 in
        omega (arith, lt)

    pub full_of_super : (rows : List Above) (k h : ℕ) (d : JavaType) (words mask : List ℕ) → MarkGeneric w mask → HaveRows w rows info.supers → slice_get info.supers k ≡ Some d
        → ((g : ℕ) (args : List JavaType) → d ≡ ty.Class g args → h ≡ g) → (IsGeneric w h → ⊥) → ((a : Above) → slice_get rows h ≡ Some a → words ≡ a.types)
        → (g : ℕ) → (IsSet words g × IsSet mask g) ↔ HasBase w (erased d) g
    full_of_super rows k h d words mask marks have there read plain read' g =
        let sup = (super_is k d there).1 in
        let row = row_at rows k d have there in
        let number = read sup.0 sup.1 sup.3 in
        let same_words = read' row.0 (ap (slice_get rows) number ∙ row.1) in
        let bits = row.2.types g in
        let own = variables 0 sup.2.params in
        let full : IsFull w sup.0 [] = (sup.2, sup.4, sym (none sup.2.params (λ some. plain (sup.2, ap (slice_get w.types) number ∙ sup.4, some)))) in (
          λ is. subst (λ t. HasBase w t g) (sym (bare_is k d there))
              (full_base w sound sup.0 g [] full ((marks g).0 is.1) (bare_alike w sups sup.0 g own [] (bits.0 (subst (λ ws. IsSet ws g) same_words is.0)))),
          λ up.
              let base = subst (λ t. HasBase w t g) (bare_is k d there) up in (
                subst (λ ws. IsSet ws g) (sym same_words) (bits.1 (bare_alike w sups sup.0 g [] own (through (subst (Subtype w (ty.Class sup.0 [])) base.1.1 base.2) (raw g base.1.0)))),
                (marks g).1 (base_generic w sups 0 sup.0 g [] (bare_over w 0 sup.0 sup.2 sup.4) base),
              ),
        )
      where
        none : (n : ℕ) → (0 < n → ⊥) → n ≡ 0
        none zero some = refl
        none (suc n) some = absurd (some (omega arith))

pub row_of_parts : (w : World) (c n : ℕ) (a : Above) (words bits : List ℕ) → a.types ≡ words → a.raw_bases ≡ bits → ((g : ℕ) → IsSet words g ↔ Subtype w (with_own c n) (ty.Class g []))
    → (0 < n → (g : ℕ) → IsSet bits g ↔ HasBase w (ty.Class c []) g) → IfSome a.shortcut (λ t. IsShortcut w c n t) → IsRow w c n a
row_of_parts w c n a words bits e f types bases shortcut = record {
  types = subst (λ ws. (g : ℕ) → IsSet ws g ↔ Subtype w (with_own c n) (ty.Class g [])) (sym e) types;
  raw_bases = λ some. subst (λ ws. (g : ℕ) → IsSet ws g ↔ HasBase w (ty.Class c []) g) (sym f) (bases some);
  shortcut = shortcut;
}
