-- What a type sees of the types above it: their arguments, which are one, and the parameter types of their methods.
use Rattle.std.proofs.Common.{◌≡◌, ℕ, ◌+◌, List, [], ◌∷◌, Option, None, Some, inl, inr, map, refl, sym, ap, ◌∙◌, subst, length, arith, ◌↔◌}
use Rattle.std.specs.Prelude.{slice_get, unwrap_or, IfSome, IfNone}
use Rattle.std.specs.List.{Contains}
use Rattle.class_world.specs.declared.world.World.{World}
use Rattle.class_world.specs.declared.world.TypeInfo.{TypeInfo}
use Rattle.class_world.specs.declared.world.MethodInfo.{MethodInfo}
use Rattle.class_world.specs.declared.world.JavaType.{JavaType, roll-JavaType}
use Rattle.class_world.specs.declared.world.JavaType.TheVariants as ty
use Rattle.class_world.specs.declared.world.JavaType.TheOpen as form
use Rattle.class_world.specs.declared.world.JavaType.TheOpen.{JavaType-F}
use Rattle.class_world.specs.declared.world.JavaType.TheFolds.{map-JavaType, ind-JavaType}
use Rattle.class_world.specs.Types.{substitute, variables, with_own, IsTypeOver}
use Rattle.class_world.specs.Subtypes.{Subtype, same, IsSuperAs}
use Rattle.class_world.specs.Sound.{IsSound, IsOfWorld}
use Rattle.class_world.specs.Signatures.{IsSeenWith, IsMethod, HasParams, HaveOneName, HaveOneSignatureIn}
use Rattle.class_world.specs.Inheritance.{DeclaresMethod}
use Rattle.class_world.proofs.Forms.{same_class}
use Rattle.class_world.proofs.Substs.{put_primitive, put_null, put_class, put_variable, put_array, variables_length, variables_at}
use Rattle.class_world.proofs.Orders.{class_parts, class_above, class_supers, own_over}
use Rattle.member_methods.specs.Signed.{HasCount, IsOwnType, AreSeen, AreOwnNamed, IsReplaced}

-- ---- own variables

abbrev IsSame : ℕ → JavaType → Type 0
IsSame n t = substitute (variables 0 n) t ≡ t

abbrev Parts : ℕ → Type 0
Parts n = (t : JavaType) × IsSame n t

same_variable : (n k : ℕ) → IsSame n (ty.Var k)
same_variable n k = put_variable (variables 0 n) k ∙ go (slice_get (variables 0 n) k) refl
  where
    go : (o : Option JavaType) → slice_get (variables 0 n) k ≡ o → unwrap_or o (ty.Var k) ≡ ty.Var k
    go None e = refl
    go (Some t) e =
        let zero_first : 0 + k ≡ k = omega arith in
        (variables_at 0 n k t e).0 ∙ ap ty.Var zero_first

all_same : (n : ℕ) (ys : List (Parts n)) → map (substitute (variables 0 n)) (map (λ e. e.0) ys) ≡ map (λ e. e.0) ys
all_same n [] = refl
all_same n (y ∷ ys) = ap (λ t. t ∷ map (substitute (variables 0 n)) (map (λ e. e.0) ys)) y.1 ∙ ap (λ l. y.0 ∷ l) (all_same n ys)

same_layer : (n : ℕ) (y : JavaType-F (Parts n)) → IsSame n (roll-JavaType (map-JavaType (Parts n) JavaType (λ e. e.0) y))
same_layer n (form.Prim p) = subst (IsSame n) (sym (ty.rolls-Prim p)) (put_primitive _ p)
same_layer n form.Null = subst (IsSame n) (sym ty.rolls-Null) (put_null _)
same_layer n (form.Class c ys) = subst (IsSame n) (sym (ty.rolls-Class c (map (λ e. e.0) ys))) (put_class _ c (map (λ e. e.0) ys) ∙ ap (ty.Class c) (all_same n ys))
same_layer n (form.Var k) = subst (IsSame n) (sym (ty.rolls-Var k)) (same_variable n k)
same_layer n (form.Array y) = subst (IsSame n) (sym (ty.rolls-Array y.0)) (put_array _ y.0 ∙ ap ty.Array y.1)

-- a type's own variables put for themselves leave each type as it is
pub own_put : (n : ℕ) (t : JavaType) → substitute (variables 0 n) t ≡ t
own_put n = ind-JavaType (IsSame n) (λ x y is. subst (λ z. IsSame n (roll-JavaType z)) is (same_layer n y))

pub own_puts : (n : ℕ) (ts : List JavaType) → map (substitute (variables 0 n)) ts ≡ ts
own_puts n [] = refl
own_puts n (t ∷ ts) = ap (λ x. x ∷ map (substitute (variables 0 n)) ts) (own_put n t) ∙ ap (λ l. t ∷ l) (own_puts n ts)

-- ---- the arguments of a type above

-- a type above another has one list of arguments there
pub seen_single : (w : World) → IsSound w → (c g : ℕ) (xs ys : List JavaType) → IsSeenWith w c g xs → IsSeenWith w c g ys → xs ≡ ys
seen_single w sound c g xs ys a b =
    let own : a.0 ≡ b.0 = cc (a.1, b.1) in
    let info : a.2 ≡ b.2 = cc (a.3, b.3) in
    let len : length xs ≡ length ys = a.4 ∙ ap (λ (i : TypeInfo). i.params) info ∙ sym b.4 in
    go xs ys len a.5 (subst (λ (i : TypeInfo). Subtype w (with_own c i.params) (ty.Class g ys)) (sym own) b.5)
  where
    go : (xs ys : List JavaType) → length xs ≡ length ys → Subtype w (with_own c a.0.params) (ty.Class g xs) → Subtype w (with_own c a.0.params) (ty.Class g ys) → xs ≡ ys
    go [] [] len p q = refl
    go [] (y ∷ ys) len p q = absurd (omega (arith, len))
    go (x ∷ xs) [] len p q = absurd (omega (arith, len))
    go (x ∷ xs) (y ∷ ys) len p q =
        (same_class g g (x ∷ xs) (y ∷ ys) (sound.single c a.0 a.1 g (ty.Class g (x ∷ xs)) (ty.Class g (y ∷ ys)) (x ∷ xs, refl, λ e. cc e) (y ∷ ys, refl, λ e. cc e) p q)).1

-- a type sees itself with its own variables
pub seen_own : (w : World) (c : ℕ) (info : TypeInfo) → slice_get w.types c ≡ Some info → IsSeenWith w c c (variables 0 info.params)
seen_own w c info at = (info, at, info, at, variables_length 0 info.params, same)

-- the parameter types of a method that the type declares
pub own_params : (w : World) → IsSound w → (c k : ℕ) (info : MethodInfo) (ps : List JavaType) → IsMethod w k info → info.owner ≡ c → HasParams w c k ps → ps ≡ info.params
own_params w sound c k info ps is owner has =
    let same_info : has.0 ≡ info = cc (has.1.0, is.0) in
    let own = has.3.0 in
    let here = seen_own w c own has.3.1 in
    let seen : IsSeenWith w c c has.2 = subst (λ g. IsSeenWith w c g has.2) (ap (λ (i : MethodInfo). i.owner) same_info ∙ owner) has.3 in
    let args = seen_single w sound c c has.2 (variables 0 own.params) seen here in
    has.4 ∙ ap (λ xs. map (substitute xs) has.0.params) args ∙ own_puts own.params has.0.params ∙ ap (λ (i : MethodInfo). i.params) same_info

-- and of one that a type above it declares
pub put_params : (w : World) → IsSound w → (c m : ℕ) (info : MethodInfo) (args ps : List JavaType) → IsMethod w m info → IsSeenWith w c info.owner args → HasParams w c m ps → ps ≡ map (substitute args) info.params
put_params w sound c m info args ps is seen has =
    let same_info : has.0 ≡ info = cc (has.1.0, is.0) in
    let there = subst (λ (i : MethodInfo). IsSeenWith w c i.owner has.2) same_info has.3 in
    let same_args = seen_single w sound c info.owner has.2 args there seen in
    has.4 ∙ ap (λ xs. map (substitute xs) has.0.params) same_args ∙ ap (λ (i : MethodInfo). map (substitute args) i.params) same_info

-- ---- one signature

-- A method that c declares has the signature of one that is seen with these arguments, if the arguments put make its parameters the own one's.
pub one_signature : (w : World) → IsSound w → (c k m : ℕ) (own info : MethodInfo) (args : List JavaType) → HaveOneName w k m → slice_get w.methods k ≡ Some own → own.owner ≡ c
    → slice_get w.methods m ≡ Some info → IsSeenWith w c info.owner args → (map (substitute args) info.params ≡ own.params) ↔ HaveOneSignatureIn w c k m
one_signature w sound c k m own info args named at owner at_m seen = (
  λ e.
      let is_k : IsMethod w k own = (at, ap (λ (i : MethodInfo). i.constructor) same_k ∙ named.2.1) in
      let is_m : IsMethod w m info = (at_m, ap (λ (i : MethodInfo). i.constructor) same_m ∙ named.3.1) in
      let here : IsSeenWith w c own.owner (variables 0 seen.0.params) = subst (λ g. IsSeenWith w c g (variables 0 seen.0.params)) (sym owner) (seen_own w c seen.0 seen.1) in
      (named, (own.params, (own, is_k, variables 0 seen.0.params, here, sym (own_puts seen.0.params own.params)), (info, is_m, args, seen, sym e))),
  λ h.
      let is_k : IsMethod w k own = (at, ap (λ (i : MethodInfo). i.constructor) same_k ∙ named.2.1) in
      let is_m : IsMethod w m info = (at_m, ap (λ (i : MethodInfo). i.constructor) same_m ∙ named.3.1) in
      sym (put_params w sound c m info args h.1.0 is_m seen h.1.2) ∙ own_params w sound c k own h.1.0 is_k owner h.1.1,
)
  where
    same_k : own ≡ named.0
    same_k = cc (at, named.2.0)

    same_m : info ≡ named.1
    same_m = cc (at_m, named.3.0)

-- what is not seen has no signature
pub unseen_signature : (w : World) (c k m : ℕ) (info : MethodInfo) → slice_get w.methods m ≡ Some info → ((args : List JavaType) → IsSeenWith w c info.owner args → ⊥) → HaveOneSignatureIn w c k m → ⊥
unseen_signature w c k m info at none h =
    let has = h.1.2 in
    let same_info : has.0 ≡ info = cc (has.1.0, at) in
    none has.2 (subst (λ (i : MethodInfo). IsSeenWith w c i.owner has.2) same_info has.3)

-- ---- what `super_as` answers

-- the own type of c is a type of the world
pub own_of_world : (w : World) (c : ℕ) (t : JavaType) → IsOwnType w c (Some t) → IsOfWorld w t
own_of_world w c t own = (own.0.params, subst (IsTypeOver w own.0.params) (sym own.2) (own_over w c own.0 own.1))

-- the arguments, as many as there are parameters
pub seen_from_super : (w : World) (c g h : ℕ) (t u : JavaType) (args : List JavaType) → IsOwnType w c (Some t) → IsSuperAs w t g (Some u) → u ≡ ty.Class h args → HasCount w g args → IsSeenWith w c g args
seen_from_super w c g h t u args own above is count =
    let same_args = (same_class h g args above.1.0 (sym is ∙ above.1.1)).1 in
    let up : Subtype w t (ty.Class g args) = subst (λ xs. Subtype w t (ty.Class g xs)) (sym same_args) (subst (Subtype w t) above.1.1 above.0) in
    (own.0, own.1, count.0, count.1, count.2, subst (λ s. Subtype w s (ty.Class g args)) own.2 up)

-- otherwise none
pub none_from_super : (w : World) → IsSound w → (c g h : ℕ) (t u : JavaType) (args : List JavaType) → IsOwnType w c (Some t) → IsSuperAs w t g (Some u) → u ≡ ty.Class h args
    → (HasCount w g args → ⊥) → (ys : List JavaType) → IsSeenWith w c g ys → ⊥
none_from_super w sound c g h t u args own above is other ys seen =
    let same_args = (same_class h g args above.1.0 (sym is ∙ above.1.1)).1 in
    let up : Subtype w t (ty.Class g args) = subst (λ xs. Subtype w t (ty.Class g xs)) (sym same_args) (subst (Subtype w t) above.1.1 above.0) in
    let over : IsTypeOver w own.0.params t = subst (IsTypeOver w own.0.params) (sym own.2) (own_over w c own.0 own.1) in
    let high = class_above w (class_supers w sound.declared) own.0.params t (ty.Class g args) up c (variables 0 own.0.params) own.2 over in
    let parts = class_parts w own.0.params (ty.Class g args) g args high.1 refl in
    elim parts.2 [
      | inl none ↦ bare none ys seen
      | inr count ↦ other (parts.0, parts.1, count)
    ]
  where
    bare : args ≡ [] → (ys : List JavaType) → IsSeenWith w c g ys → ⊥
    bare none [] s = other (s.2, s.3, ap length none ∙ s.4)
    bare none (y ∷ ys) s =
        let info : s.0 ≡ own.0 = cc (s.1, own.1) in
        let own_is : with_own c s.0.params ≡ t = ap (λ (i : TypeInfo). with_own c i.params) info ∙ sym own.2 in
        let v = above.2 (ty.Class g (y ∷ ys)) (y ∷ ys, refl, λ e. cc e) (subst (λ x. Subtype w x (ty.Class g (y ∷ ys))) own_is s.5) in
        let never = (same_class g h (y ∷ ys) args (v ∙ is)).1 ∙ none in
        cc never

-- what is read from the supertype
pub told_seen : (w : World) → IsSound w → (c g : ℕ) (t u : JavaType) (o : Option (List JavaType)) → IsOwnType w c (Some t) → IsSuperAs w t g (Some u)
    → IfSome o (λ args. HasCount w g args × ((h : ℕ) × (u ≡ ty.Class h args))) → IfNone o ((h : ℕ) (args : List JavaType) → u ≡ ty.Class h args → HasCount w g args → ⊥) → AreSeen w c g o
told_seen w sound c g t u (Some args) own above some none = seen_from_super w c g some.1.0 t u args own above some.1.1 some.0
told_seen w sound c g t u None own above some none = none_from_super w sound c g g t u above.1.0 own above above.1.1 (none g above.1.0 above.1.1)

-- ---- the test of one method against several

pub replaced_from : (w : World) → IsSound w → (c m : ℕ) (methods : List ℕ) (info : MethodInfo) (args : List JavaType) → slice_get w.methods m ≡ Some info → IsSeenWith w c info.owner args → AreOwnNamed w c methods m
    → ((k : ℕ) × Contains methods k × (own : MethodInfo) × (slice_get w.methods k ≡ Some own) × (map (substitute args) info.params ≡ own.params)) ↔ IsReplaced w c methods m
replaced_from w sound c m methods info args at seen own = (
  λ h. let mine = own h.0 h.1 in (h.0, h.1, (one_signature w sound c h.0 m h.2 info args mine.1 h.3 (owner h.0 h.2 h.3 mine.0) at seen).0 h.4),
  λ h. let mine = own h.0 h.1 in (h.0, h.1, mine.0.0, mine.0.1.0, (one_signature w sound c h.0 m mine.0.0 info args mine.1 mine.0.1.0 mine.0.2 at seen).1 h.2),
)
  where
    owner : (k : ℕ) (i : MethodInfo) → slice_get w.methods k ≡ Some i → DeclaresMethod w c k → i.owner ≡ c
    owner k i at' d = let e : i ≡ d.0 = cc (at', d.1.0) in ap (λ (x : MethodInfo). x.owner) e ∙ d.2
