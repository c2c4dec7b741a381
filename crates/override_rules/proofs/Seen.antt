-- What a type sees of the types above it, and the results of their methods.
use Rattle.std.proofs.Common.{◌≡◌, ℕ, List, [], ◌∷◌, Option, None, Some, inl, inr, map, refl, sym, ap, ◌∙◌, subst, length, arith}
use Rattle.std.specs.Prelude.{slice_get}
use Rattle.std.specs.Option.{option_map}
use Rattle.class_world.specs.declared.world.World.{World}
use Rattle.class_world.specs.declared.world.TypeInfo.{TypeInfo}
use Rattle.class_world.specs.declared.world.MethodInfo.{MethodInfo}
use Rattle.class_world.specs.declared.world.JavaType.{JavaType}
use Rattle.class_world.specs.declared.world.JavaType.TheVariants as ty
use Rattle.class_world.specs.Types.{substitute, variables, with_own, IsReference, AreReferences, IsTypeOver}
use Rattle.class_world.specs.Subtypes.{Subtype, same, through}
use Rattle.class_world.specs.Sound.{IsSound, IsOfWorld, IsKnown}
use Rattle.class_world.specs.Signatures.{IsMethod, IsSeenWith}
use Rattle.class_world.specs.Overriding.{Replaces}
use Rattle.seen_methods.specs.Seen.{HasResult}
use Rattle.seen_methods.specs.Closed.{IsDeclaredBelow}
use Rattle.class_world.proofs.Forms.{same_class}
use Rattle.class_world.proofs.Substs.{put_class, put_own, put_refers, put_twice, length_map, variables_length}
use Rattle.class_world.proofs.Orders.{class_parts, class_above, class_supers, own_over, put_over}
use Rattle.class_world.proofs.Lifts.{put_below}
use Rattle.class_world.proofs.Steps.{put_same}
use Rattle.override_rules.specs.Rules.{Suits, TakesPlace, at_once, further}
use Rattle.override_rules.specs.Judged.{HasKnownOwner, ResultIsOfWorld}
use Rattle.class_world.specs.Typed.{HaveTypes}

pub one_method : (w : World) (m : ℕ) (i j : MethodInfo) → IsMethod w m i → IsMethod w m j → i ≡ j
one_method w m i j a b = cc (a.0, b.0)

-- a type sees itself with its own variables
pub seen_own : (w : World) (c : ℕ) (info : TypeInfo) → slice_get w.types c ≡ Some info → IsSeenWith w c c (variables 0 info.params)
seen_own w c info at = (info, at, info, at, variables_length 0 info.params, same)

-- places are taken through a third
pub taken_on : (w : World) (m t k : ℕ) → TakesPlace w m t → TakesPlace w t k → TakesPlace w m k
taken_on w m t k (at_once h) up = further h up
taken_on w m t k (further {t = s} h rest) up = further h (taken_on w s t k rest up)

module _ (w : World) (sound : IsSound w) where
  -- a type above another has one list of arguments there
  pub seen_single : (c g : ℕ) (xs ys : List JavaType) → IsSeenWith w c g xs → IsSeenWith w c g ys → xs ≡ ys
  seen_single c g xs ys a b =
      let own : a.0 ≡ b.0 = cc (a.1, b.1) in
      let info : a.2 ≡ b.2 = cc (a.3, b.3) in
      let len : length xs ≡ length ys = a.4 ∙ ap (λ (i : TypeInfo). i.params) info ∙ sym b.4 in
      go xs ys len a.5 (subst (λ (i : TypeInfo). Subtype w (with_own c i.params) (ty.Class g ys)) (sym own) b.5)
    where
      go : (xs ys : List JavaType) → length xs ≡ length ys → Subtype w (with_own c a.0.params) (ty.Class g xs) → Subtype w (with_own c a.0.params) (ty.Class g ys) → xs ≡ ys
      go [] [] len p q = refl
      go [] (y ∷ ys) len p q = absurd (omega (arith, len))
      go (x ∷ xs) [] len p q = absurd (omega (arith, len))
      go (x ∷ xs) (y ∷ ys) len p q =
          (same_class g g (x ∷ xs) (y ∷ ys) (sound.single c a.0 a.1 g (ty.Class g (x ∷ xs)) (ty.Class g (y ∷ ys)) (x ∷ xs, refl, λ e. cc e) (y ∷ ys, refl, λ e. cc e) p q)).1

  -- the arguments of a type above, which are types over the variables of the lower one
  abbrev pub SeenParts : ℕ → ℕ → List JavaType → Type 0
  SeenParts c g xs =
      (own : TypeInfo) × (slice_get w.types c ≡ Some own) × AreReferences xs × ((k : ℕ) (a : JavaType) → slice_get xs k ≡ Some a → IsTypeOver w own.params a)

  pub seen_parts : (c g : ℕ) (xs : List JavaType) → IsSeenWith w c g xs → SeenParts c g xs
  seen_parts c g xs s =
      let above = class_above w (class_supers w sound.declared) s.0.params (with_own c s.0.params) (ty.Class g xs) s.5 c (variables 0 s.0.params) refl (own_over w c s.0 s.1) in
      let parts = class_parts w s.0.params (ty.Class g xs) g xs above.1 refl in
      (s.0, s.1, parts.3, parts.4)

  -- a type above one above
  pub seen_through : (c d g : ℕ) (xs ys : List JavaType) → IsSeenWith w c d xs → IsSeenWith w d g ys → IsSeenWith w c g (map (substitute xs) ys)
  seen_through c d g xs ys a b =
      let alike : a.2 ≡ b.0 = cc (a.3, b.1) in
      let len : length xs ≡ b.0.params = a.4 ∙ ap (λ (i : TypeInfo). i.params) alike in
      let low : Subtype w (substitute xs (with_own d b.0.params)) (substitute xs (ty.Class g ys)) =
      put_below w (class_supers w sound.declared) xs (seen_parts c d xs a).2 (with_own d b.0.params) (ty.Class g ys) b.5 in
      let made : Subtype w (substitute xs (with_own d b.0.params)) (ty.Class g (map (substitute xs) ys)) =
      subst (Subtype w (substitute xs (with_own d b.0.params))) (put_class xs g ys) low in
      let up : Subtype w (ty.Class d xs) (ty.Class g (map (substitute xs) ys)) = subst (λ s. Subtype w s (ty.Class g (map (substitute xs) ys))) (put_own xs d b.0.params len) made in
      (a.0, a.1, b.2, b.3, length_map (substitute xs) ys ∙ b.4, through a.5 up)

  -- ---- the types that declare methods

  pub below_on : (m t k : ℕ) → IsDeclaredBelow w m t → IsDeclaredBelow w t k → IsDeclaredBelow w m k
  below_on m t k a b =
      let alike : b.0 ≡ a.1 = one_method w t b.0 a.1 b.2 a.3 in
      let high : IsSeenWith w a.1.owner b.1.owner b.4.0 = subst (λ (i : MethodInfo). IsSeenWith w i.owner b.1.owner b.4.0) alike b.4.1 in
      (a.0, b.1, a.2, b.3, (_, seen_through a.0.owner a.1.owner b.1.owner a.4.0 b.4.0 a.4.1 high))

  pub replaced_below : (c m k : ℕ) → Replaces w c m k → IsDeclaredBelow w m k
  replaced_below c m k h =
      let has = h.3.1.2 in
      (h.0.0, has.0, h.0.1, has.1, (has.2, subst (λ c. IsSeenWith w c has.0.owner has.2) (sym h.0.2) has.3))

  pub taken_below : (m k : ℕ) → TakesPlace w m k → IsDeclaredBelow w m k
  taken_below m k (at_once {c = c} h) = replaced_below c m k h
  taken_below m k (further {c = c} {t = t} h rest) = below_on m t k (replaced_below c m t h) (taken_below t k rest)

  pub low_known : (m k : ℕ) → IsDeclaredBelow w m k → HasKnownOwner w m
  low_known m k h info is =
      let alike : h.0 ≡ info = one_method w m h.0 info h.2 is in
      let seen = h.4.1 in
      subst (λ (i : MethodInfo). IsKnown w i.owner) alike (seen.0, seen.1)

  pub high_known : (m k : ℕ) → IsDeclaredBelow w m k → HasKnownOwner w k
  high_known m k h info is =
      let alike : h.1 ≡ info = one_method w k h.1 info h.3 is in
      let seen = h.4.1 in
      subst (λ (i : MethodInfo). IsKnown w i.owner) alike (seen.2, seen.3)

  -- ---- results

  put_result : (args xs : List JavaType) (n : ℕ) (r : Option JavaType) → length xs ≡ n → ((t : JavaType) → r ≡ Some t → IsTypeOver w n t)
      → option_map (substitute args) (option_map (substitute xs) r) ≡ option_map (substitute (map (substitute args) xs)) r
  put_result args xs n None len over = refl
  put_result args xs n (Some t) len over = ap Some (put_twice w n args xs t len (over t refl))

  same_result : (n : ℕ) (r : Option JavaType) → ((t : JavaType) → r ≡ Some t → IsTypeOver w n t) → option_map (substitute (variables 0 n)) r ≡ r
  same_result n None over = refl
  same_result n (Some t) over = ap Some (put_same w n t (over t refl))

  -- what stands in the place of another does so with arguments put, and through a third
  pub suits_put : (xs : List JavaType) (s t : Option JavaType) → AreReferences xs → Suits w s t → Suits w (option_map (substitute xs) s) (option_map (substitute xs) t)
  suits_put xs None None refs h = tt
  suits_put xs None (Some t) refs h = absurd h
  suits_put xs (Some s) None refs h = absurd h
  suits_put xs (Some s) (Some t) refs (inl e) = inl (ap (substitute xs) e)
  suits_put xs (Some s) (Some t) refs (inr h) = inr (put_refers xs s refs h.0, put_below w (class_supers w sound.declared) xs refs s t h.1)

  pub suits_through : (s m t : Option JavaType) → Suits w s m → Suits w m t → Suits w s t
  suits_through None None None a b = tt
  suits_through None None (Some t) a b = absurd b
  suits_through None (Some m) t a b = absurd a
  suits_through (Some s) None t a b = absurd a
  suits_through (Some s) (Some m) None a b = absurd b
  suits_through (Some s) (Some m) (Some t) (inl e) (inl f) = inl (e ∙ f)
  suits_through (Some s) (Some m) (Some t) (inl e) (inr h) = inr (subst (λ x. IsReference x × Subtype w x t) (sym e) h)
  suits_through (Some s) (Some m) (Some t) (inr h) (inl f) = inr (h.0, subst (Subtype w s) f h.1)
  suits_through (Some s) (Some m) (Some t) (inr h) (inr k) = inr (h.0, through h.1 k.1)

module _ (w : World) (sound : IsSound w) (typed : HaveTypes w) where
  -- a result as a type sees it is a type of the world
  pub result_of_world : (c m : ℕ) (r : Option JavaType) → HasResult w c m r → ResultIsOfWorld w r
  result_of_world c m r has t e = go has.0.result refl
    where
      go : (q : Option JavaType) → has.0.result ≡ q → IsOfWorld w t
      go None none = let never : None ≡ Some t = sym (ap (option_map (substitute has.2)) none) ∙ sym has.4 ∙ e in absurd (cc never)
      go (Some s) some =
          let seen = has.3 in
          let parts = seen_parts w sound c has.0.owner has.2 seen in
          let over = put_over w seen.2.params parts.0.params has.2 s seen.4 parts.2 parts.3 (typed.results m has.0 seen.2 s has.1.0 seen.3 some) in
          let both : Some (substitute has.2 s) ≡ Some t = sym (ap (option_map (substitute has.2)) some) ∙ sym has.4 ∙ e in
          let made : substitute has.2 s ≡ t = cc both in
          (parts.0.params, subst (IsTypeOver w parts.0.params) made over)

  -- the result that c sees is the one that d sees, with the arguments of d
  pub result_through : (c d k : ℕ) (l : MethodInfo) (xs ys : List JavaType) (q : Option JavaType) → IsMethod w k l → IsSeenWith w c d xs → IsSeenWith w d l.owner ys → HasResult w c k q
      → q ≡ option_map (substitute xs) (option_map (substitute ys) l.result)
  result_through c d k l xs ys q is low high has =
      let alike : has.0 ≡ l = one_method w k has.0 l has.1 is in
      let there : IsSeenWith w c l.owner has.2 = subst (λ (i : MethodInfo). IsSeenWith w c i.owner has.2) alike has.3 in
      let args = seen_single w sound c l.owner has.2 (map (substitute xs) ys) there (seen_through w sound c d l.owner xs ys low high) in
      has.4 ∙ ap (λ (i : MethodInfo). option_map (substitute has.2) i.result) alike ∙ ap (λ zs. option_map (substitute zs) l.result) args
      ∙ sym (put_result w sound xs ys high.2.params l.result high.4 (λ t e. typed.results k l high.2 t is.0 high.3 e))

  -- of a method of d itself
  pub result_of_own : (c d t : ℕ) (j : MethodInfo) (xs : List JavaType) (info : TypeInfo) → IsMethod w t j → slice_get w.types d ≡ Some info → j.owner ≡ d
      → option_map (substitute xs) (option_map (substitute (variables 0 info.params)) j.result) ≡ option_map (substitute xs) j.result
  result_of_own c d t j xs info is at own =
      ap (option_map (substitute xs)) (same_result w sound info.params j.result (λ u e. typed.results t j info u is.0 (ap (slice_get w.types) own ∙ at) e))
