-- The types directly above a type.
use Rattle.std.proofs.Common.{◌≡◌, ℕ, ◌+◌, ◌≤◌, Bool, List, [], ◌∷◌, ◌++◌, Option, None, Some, ◌⊎◌, inl, inr, ◌↔◌, true, false, refl, sym, ap, ◌∙◌, subst, length, arith}
use Rattle.std.specs.Prelude.{slice_get}
use Rattle.std.specs.List.{Contains}
use Rattle.std.proofs.lemmas.Bool.{true≢false}
use Rattle.std.proofs.lemmas.Option.{slice_get_within}
use Rattle.std.proofs.lemmas.List.Elements.{Contains-append_left, Contains-append_right, Contains-append_cases, Contains-push, Contains-push_cases}
use Rattle.class_world.specs.declared.world.World.{World}
use Rattle.class_world.specs.declared.world.TypeInfo.{TypeInfo}
use Rattle.class_world.specs.declared.world.JavaType.{JavaType}
use Rattle.class_world.specs.declared.world.JavaType.TheVariants as ty
use Rattle.class_world.specs.Access.{IsInterface}
use Rattle.class_world.specs.DirectSupers.{IsDirectSuper}
use Rattle.class_world.specs.Inheritance.{IsDirectlyAbove}
use Rattle.class_world.specs.Overriding.{IsSuperinterface}
use Rattle.class_world.proofs.Forms.{same_class}
use Rattle.member_methods.proofs.Firsts.{Among, among_none, among_last, among_more, among_cases}

-- the classes of the first i supertypes, as far as P holds of them
abbrev pub AreAboveFirst : (ℕ → Type 0) → List JavaType → List ℕ → ℕ → Type 0
AreAboveFirst P items above i = (s : ℕ) → Contains above s ↔ (((args : List JavaType) × Among items i (ty.Class s args)) × P s)

pub above_none : (P : ℕ → Type 0) (items : List JavaType) (above : List ℕ) → above ≡ [] → AreAboveFirst P items above 0
above_none P items above empty s = (
  λ x. let h : Contains [] s = subst (λ l. Contains l s) empty x in absurd (omega (arith, h.1)),
  λ x. absurd (among_none items (ty.Class s x.0.0) x.0.1),
)

pub above_push : (P : ℕ → Type 0) (items : List JavaType) (above more : List ℕ) (i g : ℕ) (d : JavaType) (xs : List JavaType) → AreAboveFirst P items above i → slice_get items i ≡ Some d → d ≡ ty.Class g xs → P g
    → more ≡ above ++ g ∷ [] → AreAboveFirst P items more (i + 1)
above_push P items above more i g d xs h at is holds made s = subst (λ l. Contains l s ↔ (((args : List JavaType) × Among items (i + 1) (ty.Class s args)) × P s)) (sym made) (
  λ x. elim (Contains-push_cases above g s x) [
    | inl old ↦ let k = (h s).0 old in ((k.0.0, among_more items i (ty.Class s k.0.0) k.0.1), k.1)
    | inr same ↦ ((xs, among_last items i (ty.Class s xs) (at ∙ ap Some (is ∙ ap (λ n. ty.Class n xs) same))), subst P same holds)
  ],
  λ x. elim (among_cases items i (ty.Class s x.0.0) d at x.0.1) [
    | inl old ↦ Contains-append_left above (g ∷ []) s ((h s).1 ((x.0.0, old), x.1))
    | inr last ↦ let same = (same_class s g x.0.0 xs (last ∙ is)).0 in subst (Contains (above ++ g ∷ [])) (sym same) (Contains-push above g)
  ],
)

pub above_skip : (P : ℕ → Type 0) (items : List JavaType) (above : List ℕ) (i : ℕ) (d : JavaType) → AreAboveFirst P items above i → slice_get items i ≡ Some d
    → ((g : ℕ) (xs : List JavaType) → d ≡ ty.Class g xs → P g → ⊥) → AreAboveFirst P items above (i + 1)
above_skip P items above i d h at not s = (
  λ x. let k = (h s).0 x in ((k.0.0, among_more items i (ty.Class s k.0.0) k.0.1), k.1),
  λ x. elim (among_cases items i (ty.Class s x.0.0) d at x.0.1) [
    | inl old ↦ (h s).1 ((x.0.0, old), x.1)
    | inr last ↦ absurd (not s x.0.0 (sym last) x.1)
  ],
)

-- the class of a type, of which P does not hold
pub other_class : (P : ℕ → Type 0) (d : JavaType) (g : ℕ) (xs : List JavaType) → d ≡ ty.Class g xs → (P g → ⊥) → (s : ℕ) (ys : List JavaType) → d ≡ ty.Class s ys → P s → ⊥
other_class P d g xs is not s ys also holds = not (subst P (same_class s g ys xs (sym also ∙ is)).0 holds)

is_or_not : (w : World) (s : ℕ) → IsInterface w s ⊎ (IsInterface w s → ⊥)
is_or_not w s = by (slice_get w.types s) refl
  where
    marked : (info : TypeInfo) (b : Bool) → slice_get w.types s ≡ Some info → info.interface ≡ b → IsInterface w s ⊎ (IsInterface w s → ⊥)
    marked info true at is = inl (info, at, is)
    marked info false at is = inr (λ h. let same : h.0 ≡ info = cc (h.1, at) in true≢false (sym h.2 ∙ ap (λ (x : TypeInfo). x.interface) same ∙ is))

    by : (o : Option TypeInfo) → slice_get w.types s ≡ o → IsInterface w s ⊎ (IsInterface w s → ⊥)
    by None at = inr (λ h. let never : None ≡ Some h.0 = sym at ∙ h.1 in absurd (cc never))
    by (Some info) at = marked info info.interface at refl

module _ (w : World) (c : ℕ) (info : TypeInfo) (items : List JavaType) (i : ℕ) (known : slice_get w.types c ≡ Some info) (supers : items ≡ info.supers) (full : length items ≤ i) where
  module _ (P : ℕ → Type 0) (above : List ℕ) (h : AreAboveFirst P items above i) where
    direct : (s : ℕ) → Contains above s → ((args : List JavaType) × IsDirectSuper w c (ty.Class s args)) × P s
    direct s x = let k = (h s).0 x in ((k.0.0, (info, known, k.0.1.0, sym (ap (λ l. slice_get l k.0.1.0) supers) ∙ k.0.1.2)), k.1)

    listed : (s : ℕ) → (args : List JavaType) × IsDirectSuper w c (ty.Class s args) → P s → Contains above s
    listed s d holds =
        let same : d.1.0 ≡ info = cc (d.1.1, known) in
        let at : slice_get items d.1.2 ≡ Some (ty.Class s d.0) = ap (λ l. slice_get l d.1.2) (supers ∙ ap (λ (x : TypeInfo). x.supers) (sym same)) ∙ d.1.3 in
        (h s).1 ((d.0, (d.1.2, (let lt = slice_get_within items d.1.2 (ty.Class s d.0) at in omega (arith, lt, full)), at)), holds)

  pub superinterfaces : (above : List ℕ) → AreAboveFirst (IsInterface w) items above i → (s : ℕ) → Contains above s ↔ IsSuperinterface w c s
  superinterfaces above h s = (λ x. direct (IsInterface w) above h s x, λ x. listed (IsInterface w) above h s x.0 x.1)

  module _ (above others : List ℕ) (h : AreAboveFirst (IsInterface w) items above i) (h' : AreAboveFirst (λ s. IsInterface w s → ⊥) items others i) where
    both_direct : (s : ℕ) → Contains (above ++ others) s → (args : List JavaType) × IsDirectSuper w c (ty.Class s args)
    both_direct s x = elim (Contains-append_cases above others s x) [
      | inl y ↦ (direct (IsInterface w) above h s y).0
      | inr y ↦ (direct (λ s. IsInterface w s → ⊥) others h' s y).0
    ]

    both_listed : (s : ℕ) → (args : List JavaType) × IsDirectSuper w c (ty.Class s args) → Contains (above ++ others) s
    both_listed s d = elim (is_or_not w s) [
      | inl is ↦ Contains-append_left above others s (listed (IsInterface w) above h s d is)
      | inr not ↦ Contains-append_right above others s (listed (λ s. IsInterface w s → ⊥) others h' s d not)
    ]

    -- an interface without superinterfaces
    pub above_object : (more : List ℕ) → info.interface ≡ true → info.supers ≡ [] → more ≡ others ++ 0 ∷ [] → (s : ℕ) → Contains (above ++ more) s ↔ IsDirectlyAbove w c s
    above_object more interface none made s = subst (λ l. Contains (above ++ l) s ↔ IsDirectlyAbove w c s) (sym made) (
      λ x. elim (Contains-append_cases above (others ++ 0 ∷ []) s x) [
        | inl y ↦ inl (both_direct s (Contains-append_left above others s y))
        | inr y ↦ elim (Contains-push_cases others 0 s y) [
          | inl old ↦ inl (both_direct s (Contains-append_right above others s old))
          | inr same ↦ inr (sym same, (info, known, interface, none))
        ]
      ],
      λ x. elim x [
        | inl d ↦ elim (Contains-append_cases above others s (both_listed s d)) [
          | inl y ↦ Contains-append_left above (others ++ 0 ∷ []) s y
          | inr y ↦ Contains-append_right above (others ++ 0 ∷ []) s (Contains-append_left others (0 ∷ []) s y)
        ]
        | inr o ↦ Contains-append_right above (others ++ 0 ∷ []) s (subst (Contains (others ++ 0 ∷ [])) (sym o.0) (Contains-push others 0))
      ],
    )

    -- any other type
    pub above_plain : (info.interface ≡ false) ⊎ (info.supers ≡ [] → ⊥) → (s : ℕ) → Contains (above ++ others) s ↔ IsDirectlyAbove w c s
    above_plain not s = (
      λ x. inl (both_direct s x),
      λ x. elim x [
        | inl d ↦ both_listed s d
        | inr o ↦
            let same : o.1.0 ≡ info = cc (o.1.1, known) in
            absurd (elim not [
              | inl plain ↦ true≢false (sym o.1.2 ∙ ap (λ (y : TypeInfo). y.interface) same ∙ plain)
              | inr some ↦ some (ap (λ (y : TypeInfo). y.supers) (sym same) ∙ o.1.3)
            ])
      ],
    )
