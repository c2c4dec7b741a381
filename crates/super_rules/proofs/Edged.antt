-- Rows of supertypes.
use Rattle.std.proofs.Common.{◌≡◌, ℕ, ◌+◌, ◌<◌, ◌≤◌, ◌-◌, Bool, true, false, List, [], ◌∷◌, ◌++◌, Some, map, take, length, get_or, ◌⊎◌, inl, inr, ◌↔◌, refl, sym, ap, ◌∙◌, subst, arith}
use Rattle.std.specs.Prelude.{slice_get, Contains}
use Rattle.std.specs.Option.{option_map}
use Rattle.std.proofs.lemmas.Option.{slice_get_within, slice_get-map}
use Rattle.std.proofs.lemmas.List.Elements.{Contains-append_left, Contains-append_right, Contains-push_cases}
use Rattle.java_tree.specs.declared.tree.TypeExpr as code
use Rattle.java_tree.specs.declared.tree.TypeExpr.{out-TypeExpr}
use Rattle.java_tree.specs.Plain.{TypeDecl}
use Rattle.java_tree.specs.View.{type_plain, decl_plain}
use Rattle.java_tree.proofs.Views.{type_out}
use Rattle.class_world.specs.declared.world.TypeInfo.{TypeInfo}
use Rattle.class_world.specs.declared.world.JavaType.{JavaType}
use Rattle.class_world.specs.declared.world.JavaType.TheVariants as ty
use Rattle.class_world.proofs.Forms.{same_class}
use Rattle.type_names.specs.declared.known.JavaNames.{JavaNames}
use Rattle.type_names.specs.Known.{File}
use Rattle.type_reach.specs.Sources.{HasTarget}
use Rattle.type_reach.proofs.Lists.{at_front, at_last, last_cases, at_contains}
use Rattle.written_types.specs.Places.{Place}
use Rattle.written_types.specs.Breaks.{head_of, NamesType}
use Rattle.written_types.specs.declared.scope.Named.{Named}
use Rattle.written_types.specs.declared.scope.Named.TheVariants as named
use Rattle.written_types.specs.Walk.{head_named}
use Rattle.written_types.proofs.Heads.{named_type, type_named}
use Rattle.type_headers.specs.Declared.{Declaration, declarations, place_of, written_supers}
use Rattle.super_rules.specs.declared.entries.Entry.{Entry}
use Rattle.super_rules.specs.Rules.{Declares, IsBuiltInSuper}
use Rattle.super_rules.specs.Looks.{IsEntry, NamesOneOf, SaysOneOf, IsRow, IsLed}
use Rattle.super_rules.proofs.Files.{taken_next}

-- what holds of one of them and the number
abbrev pub OneOf : {A : Type 0} → (A → ℕ → Type 0) → List A → ℕ → Type 0
OneOf {A} Q xs g = (s : A) × Contains xs s × Q s g

one_before : {A : Type 0} (Q : A → ℕ → Type 0) (xs : List A) (y : A) (g : ℕ) → OneOf Q xs g → OneOf Q (xs ++ y ∷ []) g
one_before Q xs y g h = (h.0, Contains-append_left xs (y ∷ []) h.0 h.1, h.2)

one_last : {A : Type 0} (Q : A → ℕ → Type 0) (xs : List A) (y : A) (g : ℕ) → Q y g → OneOf Q (xs ++ y ∷ []) g
one_last Q xs y g h = (y, Contains-append_right xs (y ∷ []) y (0, omega arith, refl), h)

pub one_cases : {A : Type 0} (Q : A → ℕ → Type 0) (xs : List A) (y : A) (g : ℕ) → OneOf Q (xs ++ y ∷ []) g → OneOf Q xs g ⊎ Q y g
one_cases {A} Q xs y g h = elim (Contains-push_cases xs y h.0 h.1) [ inl old ↦ inl (h.0, old, h.2) | inr same ↦ inr (subst (λ (z : A). Q z g) (sym same) h.2) ]

-- by the item at a place
pub one_at : {A B : Type 0} (v : B → A) (Q : A → ℕ → Type 0) (xs : List B) (k : ℕ) (x : B) (g : ℕ) → slice_get xs k ≡ Some x → Q (v x) g → OneOf Q (map v xs) g
one_at v Q xs k x g at h = (v x, at_contains (map v xs) k (v x) (slice_get-map v xs k ∙ ap (option_map v) at), h)

pub row_begins : {A : Type 0} (Q : A → ℕ → Type 0) (Base : ℕ → Type 0) (row : List ℕ) → IsRow row Base → IsRow row (λ g. Base g ⊎ OneOf Q [] g)
row_begins Q Base row h g = (λ has. inl ((h g).0 has), λ e. elim e [ inl b ↦ (h g).1 b | inr none ↦ absurd (omega (arith, none.1.1)) ])

pub row_empty : (row : List ℕ) → row ≡ [] → IsRow row (λ g. ⊥)
row_empty row is g = (λ has. let none : Contains [] g = subst (λ r. Contains r g) is has in omega (arith, none.1), λ e. absurd e)

-- one more item, which gives one number or none
pub row_adds : {A B : Type 0} (v : B → A) (Q : A → ℕ → Type 0) (Base : ℕ → Type 0) (xs : List B) (i : ℕ) (x : B) (row : List ℕ) (n : ℕ) → i < length xs → x ≡ get_or xs i x
    → ((g : ℕ) → (n ≡ g) ↔ Q (v x) g) → IsRow row (λ g. Base g ⊎ OneOf Q (map v (take i xs)) g) → IsRow (row ++ n ∷ []) (λ g. Base g ⊎ OneOf Q (map v (take (i + 1) xs)) g)
row_adds {A} v Q Base xs i x row n lt is own so_far g =
    subst (λ (ys : List A). Contains (row ++ n ∷ []) g ↔ (Base g ⊎ OneOf Q ys g)) (sym (taken_next v xs i x lt is)) (to, from)
  where
    to : Contains (row ++ n ∷ []) g → Base g ⊎ OneOf Q (map v (take i xs) ++ v x ∷ []) g
    to has = elim (Contains-push_cases row n g has) [
      | inl old ↦ elim ((so_far g).0 old) [ inl b ↦ inl b | inr one ↦ inr (one_before Q (map v (take i xs)) (v x) g one) ]
      | inr same ↦ inr (one_last Q (map v (take i xs)) (v x) g ((own g).0 same))
    ]

    from : Base g ⊎ OneOf Q (map v (take i xs) ++ v x ∷ []) g → Contains (row ++ n ∷ []) g
    from (inl b) = Contains-append_left row (n ∷ []) g ((so_far g).1 (inl b))
    from (inr one) = elim (one_cases Q (map v (take i xs)) (v x) g one) [
      | inl old ↦ Contains-append_left row (n ∷ []) g ((so_far g).1 (inr old))
      | inr here ↦ Contains-append_right row (n ∷ []) g (0, omega arith, (own g).1 here)
    ]

pub row_keeps : {A B : Type 0} (v : B → A) (Q : A → ℕ → Type 0) (Base : ℕ → Type 0) (xs : List B) (i : ℕ) (x : B) (row : List ℕ) → i < length xs → x ≡ get_or xs i x
    → ((g : ℕ) → Q (v x) g → ⊥) → IsRow row (λ g. Base g ⊎ OneOf Q (map v (take i xs)) g) → IsRow row (λ g. Base g ⊎ OneOf Q (map v (take (i + 1) xs)) g)
row_keeps {A} v Q Base xs i x row lt is none so_far g =
    subst (λ (ys : List A). Contains row g ↔ (Base g ⊎ OneOf Q ys g)) (sym (taken_next v xs i x lt is)) (
      λ has. elim ((so_far g).0 has) [ inl b ↦ inl b | inr one ↦ inr (one_before Q (map v (take i xs)) (v x) g one) ],
      λ e. elim e [
        | inl b ↦ (so_far g).1 (inl b)
        | inr one ↦ elim (one_cases Q (map v (take i xs)) (v x) g one) [ inl old ↦ (so_far g).1 (inr old) | inr here ↦ absurd (none g here) ]
      ],
    )

pub row_alike : (row : List ℕ) (P Q : ℕ → Type 0) → ((g : ℕ) → P g ↔ Q g) → IsRow row P → IsRow row Q
row_alike row P Q same h g = (λ has. (same g).0 ((h g).0 has), λ q. (h g).1 ((same g).1 q))

-- ---- one supertype

-- a class type of this number
abbrev pub IsClassOf : JavaType → ℕ → Type 0
IsClassOf x g = (args : List JavaType) × (x ≡ ty.Class g args)

pub class_of : (x : JavaType) (n : ℕ) (args : List JavaType) → x ≡ ty.Class n args → (g : ℕ) → (n ≡ g) ↔ IsClassOf x g
class_of x n args is g = (
  λ same. (args, is ∙ ap (λ k. ty.Class k args) same),
  λ h. (same_class n g args h.0 (sym is ∙ h.1)).0,
)

pub head_is : (x : code.TypeExpr) → head_of (type_plain x) ≡ (out-TypeExpr x).head
head_is x = ap head_of (type_out x)

-- the type that a head names
pub names_one : (p : Place) (x : code.TypeExpr) (m : Named) (n : ℕ) → m ≡ head_named p (out-TypeExpr x).head → m ≡ named.Type n → (g : ℕ) → (n ≡ g) ↔ NamesType p (head_of (type_plain x)) g
names_one p x m n reads is g =
    let h = head_of (type_plain x) in
    let says : head_named p h ≡ named.Type n = ap (head_named p) (head_is x) ∙ sym reads ∙ is in
    (λ same. type_named p h g (says ∙ ap named.Type same), λ names. let both : named.Type n ≡ named.Type g = sym says ∙ named_type p h g names in cc both)

pub names_none : (p : Place) (x : code.TypeExpr) (m : Named) → m ≡ head_named p (out-TypeExpr x).head → ((n : ℕ) → m ≡ named.Type n → ⊥) → (g : ℕ) → NamesType p (head_of (type_plain x)) g → ⊥
names_none p x m reads not g names = not g (reads ∙ ap (head_named p) (sym (head_is x)) ∙ named_type p (head_of (type_plain x)) g names)

-- ---- the row of a type

module _ (j : JavaNames) (fs : List File) (types : List TypeInfo) where
  not_declared : (c : ℕ) (x : Declaration) → c < 19 → Declares fs c x → ⊥
  not_declared c x lt h = let e = h.1 in omega (arith, lt, e)

  not_built : (c g : ℕ) → 19 ≤ c → IsBuiltInSuper types c g → ⊥
  not_built c g le h = let lt = h.0 in omega (arith, le, lt)

  pub built_led : (classes : Bool) (c : ℕ) (info : TypeInfo) (row : List ℕ) → c < 19 → slice_get types c ≡ Some info → IsRow row (λ g. (args : List JavaType) × Contains info.supers (ty.Class g args))
      → IsRow row (IsLed j fs types classes c)
  built_led classes c info row lt is h g = by classes
    where
      own : Contains row g → IsBuiltInSuper types c g
      own has = let there = (h g).0 has in (lt, info, is, there.0, there.1)

      back : IsBuiltInSuper types c g → Contains row g
      back b = let same : b.1 ≡ info = cc (b.2, is) in (h g).1 (b.3, subst (λ (i : TypeInfo). Contains i.supers (ty.Class g b.3)) same b.4)

      by : (classes : Bool) → Contains row g ↔ IsLed j fs types classes c g
      by false = (λ has. inl (own has), λ e. elim e [ inl b ↦ back b | inr w ↦ absurd (not_declared c w.0 lt w.1) ])
      by true = (λ has. inl (own has), λ e. elim e [ inl b ↦ back b | inr w ↦ absurd (not_declared c w.0 lt w.1) ])

  -- a number that no declaration has
  pub none_led : (classes : Bool) (c : ℕ) (row : List ℕ) → row ≡ [] → 19 ≤ c → length (declarations fs) ≤ c - 19 → IsRow row (IsLed j fs types classes c)
  none_led classes c row empty le past g = by classes
    where
      beyond : (x : Declaration) → Declares fs c x → ⊥
      beyond x h = let lt = slice_get_within (declarations fs) h.0 x h.2 in let e = h.1 in omega (arith, lt, e, past)

      nothing : Contains row g → ⊥
      nothing has = (row_empty row empty g).0 has

      by : (classes : Bool) → Contains row g ↔ IsLed j fs types classes c g
      by false = (λ has. absurd (nothing has), λ e. elim e [ inl b ↦ absurd (not_built c g le b) | inr w ↦ absurd (beyond w.0 w.1) ])
      by true = (λ has. absurd (nothing has), λ e. elim e [ inl b ↦ absurd (not_built c g le b) | inr w ↦ absurd (beyond w.0 w.1) ])

  -- what the code says of an entry's superclass is of its declaration
  pub class_own : (x : Declaration) (e : Entry) → IsEntry j fs types e x → (row : List ℕ)
      → IsRow row (λ g. (e.decl.now.interface ≡ false) × SaysOneOf (place_of j fs types x) e.scope.types.now (decl_plain e.decl.now).extends g)
      → IsRow row (λ g. (x.decl.interface ≡ false) × SaysOneOf (place_of j fs types x) types x.decl.extends g)
  class_own x e is row h =
      let p = place_of j fs types x in
      subst (λ (d : TypeDecl). IsRow row (λ g. (d.interface ≡ false) × SaysOneOf p types d.extends g)) is.decl
      (subst (λ (ts : List TypeInfo). IsRow row (λ g. (e.decl.now.interface ≡ false) × SaysOneOf p ts (decl_plain e.decl.now).extends g)) is.types_are h)

  module _ (c : ℕ) (x : Declaration) (e : Entry) (le : 19 ≤ c) (at : slice_get (declarations fs) (c - 19) ≡ Some x) (is : IsEntry j fs types e x) where
    the_one : (y : Declaration) → Declares fs c y → y ≡ x
    the_one y h =
        let k : h.0 ≡ c - 19 = (let s = h.1 in omega (arith, s)) in
        let same : Some y ≡ Some x = sym h.2 ∙ ap (slice_get (declarations fs)) k ∙ at in
        cc same

    own : Declares fs c x
    own = (c - 19, omega (arith, le), at)

    pub written_led : (row : List ℕ) → IsRow row (NamesOneOf (place_of j fs types x) (written_supers x.decl)) → IsRow row (IsLed j fs types false c)
    written_led row h g = (
      λ has. let s = (h g).0 has in inr (x, own, s.0, s.1, s.2),
      λ e. elim e [
        | inl b ↦ absurd (not_built c g le b)
        | inr w ↦
            let s : NamesOneOf (place_of j fs types x) (written_supers x.decl) g =
            subst (λ (y : Declaration). NamesOneOf (place_of j fs types y) (written_supers y.decl) g) (the_one w.0 w.1) (w.2, w.3, w.4) in
            (h g).1 s
      ],
    )

    abbrev SaysOwn : Declaration → ℕ → Type 0
    SaysOwn y g = (y.decl.interface ≡ false) × SaysOneOf (place_of j fs types y) types y.decl.extends g

    pub class_led : (row : List ℕ) → IsRow row (SaysOwn x) → IsRow row (IsLed j fs types true c)
    class_led row h g = (
      λ has. let s = (h g).0 has in inr (x, own, s.0, s.1.0, s.1.1, s.1.2.0, s.1.2.1, s.1.2.2, s.1.2.3, s.1.2.4),
      λ e. elim e [
        | inl b ↦ absurd (not_built c g le b)
        | inr w ↦ (h g).1 (subst (λ (y : Declaration). SaysOwn y g) (the_one w.0 w.1) (w.2, (w.3, w.4, (w.5, w.6, w.7, w.8, w.9))))
      ],
    )

-- ---- the edges of all types

-- the graph has the rows of the first types
abbrev pub DrawnBelow : (ℕ → ℕ → Type 0) → List (List ℕ) → ℕ → Type 0
DrawnBelow R graph n = (c g : ℕ) → HasTarget graph c g ↔ ((c < n) × R c g)

pub drawn_none : (R : ℕ → ℕ → Type 0) (graph : List (List ℕ)) → graph ≡ [] → DrawnBelow R graph 0
drawn_none R graph is c g = (
  λ h. let none : slice_get [] c ≡ Some h.0 = ap (λ l. slice_get l c) (sym is) ∙ h.1 in absurd (cc none),
  λ h. absurd (omega (arith, h.0)),
)

pub drawn_more : (R : ℕ → ℕ → Type 0) (graph : List (List ℕ)) (n : ℕ) (row : List ℕ) → length graph ≡ n → IsRow row (R n) → DrawnBelow R graph n → DrawnBelow R (graph ++ row ∷ []) (n + 1)
drawn_more R graph n row size own so_far c g = (to, from)
  where
    to : HasTarget (graph ++ row ∷ []) c g → (c < n + 1) × R c g
    to h = elim (last_cases graph row h.0 c h.1) [
      | inl old ↦ let before = (so_far c g).0 (h.0, old, h.2) in (omega (arith, before.0), before.1)
      | inr last ↦
          let number : n ≡ c = sym size ∙ sym last.1 in
          (omega (arith, number), subst (λ k. R k g) number ((own g).0 (subst (λ r. Contains r g) last.0 h.2)))
    ]

    low_or_last : c < n + 1 → (c < n) ⊎ (n ≡ c)
    low_or_last lt = grind (arith, lt)

    from : (c < n + 1) × R c g → HasTarget (graph ++ row ∷ []) c g
    from h = elim (low_or_last h.0) [
      | inl lt ↦ let old = (so_far c g).1 (lt, h.1) in (old.0, at_front graph (row ∷ []) c old.0 old.1, old.2)
      | inr same ↦ (row, ap (slice_get (graph ++ row ∷ [])) (sym same ∙ sym size) ∙ at_last graph row, (own g).1 (subst (λ k. R k g) (sym same) h.1))
    ]
