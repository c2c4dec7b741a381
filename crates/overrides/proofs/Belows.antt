-- A method and one whose place it takes have one signature in each type below both, where the parameter types are of the types that declare them.
use Rattle.std.proofs.Common.{◌≡◌, ℕ, ◌<◌, List, map, sym, ◌∙◌, subst, length}
use Rattle.std.proofs.lemmas.Option.{slice_get_within}
use Rattle.class_world.specs.declared.world.World.{World}
use Rattle.class_world.specs.declared.world.MethodInfo.{MethodInfo}
use Rattle.class_world.specs.declared.world.JavaType.{JavaType}
use Rattle.class_world.specs.Types.{substitute}
use Rattle.class_world.specs.Sound.{IsSound}
use Rattle.class_world.specs.Signatures.{IsSeenWith, HasParams, HaveOneName, HaveOneSignatureIn, AgreeBelow}
use Rattle.class_world.specs.Overriding as by
use Rattle.class_world.specs.Overriding.{Replaces, AreInstanceMethods, OverridesAtOnce, Overriding}
use Rattle.seen_methods.specs.Closed.{IsDeclaredBelow}
use Rattle.seen_methods.proofs.Belows.{lower_agrees, one_params, seen_on}
use Rattle.overrides.specs.Scopes.{AreScoped}
use Rattle.overrides.specs.AtOnce.{IsFree}

-- the methods are methods of the world

pub at_once_within : {w : World} {m k : ℕ} → OverridesAtOnce w m k → (m < length w.methods) × (k < length w.methods)
at_once_within {w = w} {m = m} {k = k} h = go h
  where
    both : AreInstanceMethods w m k → (m < length w.methods) × (k < length w.methods)
    both are = (slice_get_within w.methods m are.0.0 are.0.1.0, slice_get_within w.methods k are.1.0 are.1.1.0)

    go : OverridesAtOnce w m k → (m < length w.methods) × (k < length w.methods)
    go (by.declared r are) = both are
    go (by.inherited r are agree) = both are

pub overriding_within : {w : World} {m k : ℕ} → Overriding w m k → (m < length w.methods) × (k < length w.methods)
overriding_within (by.at_once e) = at_once_within e
overriding_within (by.through g h other agree) = ((overriding_within g).0, (overriding_within h).1)

module _ (w : World) (sound : IsSound w) where
  replaced_agrees : AreScoped w → (c m t : ℕ) → Replaces w c m t → AgreeBelow w m t
  replaced_agrees scoped c m t h = lower_agrees w sound m t h.0.0 h.0.1 (scoped m) (scoped t) (subst (λ g. HaveOneSignatureIn w g m t) (sym h.0.2) h.3)

  declared_below : (c m t : ℕ) → Replaces w c m t → IsDeclaredBelow w m t
  declared_below c m t h =
      let has = h.3.1.2 in
      (h.0.0, has.0, h.0.1, has.1, (has.2, subst (λ g. IsSeenWith w g has.0.owner has.2) (sym h.0.2) has.3))

  abbrev HaveOneList : ℕ → ℕ → ℕ → Type 0
  HaveOneList d m k = (ps : List JavaType) × HasParams w d m ps × HasParams w d k ps

  same_params : (d m t k : ℕ) → HaveOneList d m t → HaveOneList d t k → HaveOneList d m k
  same_params d m t k a b = (b.0, subst (HasParams w d m) (one_params w sound d t a.0 b.0 a.2 b.1) a.1, b.2)

  one_name : (m t k : ℕ) → HaveOneName w m t → HaveOneName w t k → HaveOneName w m k
  one_name m t k a b =
      let same : b.0 ≡ a.1 = cc (a.3.0, b.2.0) in
      (a.0, b.1, a.2, b.3, subst (λ (x : MethodInfo). a.0.name ≡ x.name) (sym same) a.4 ∙ b.4)

  -- what m has in common with t, and t with k, m has with k, where m's type is below t's
  agree_through : (m t k : ℕ) → IsDeclaredBelow w m t → AgreeBelow w m t → AgreeBelow w t k → AgreeBelow w m k
  agree_through m t k below low high d i j xs ys is_m is_k sees_m sees_k =
      let info : below.0 ≡ i = cc (below.2.0, is_m.0) in
      let sees = subst (λ (x : MethodInfo). IsSeenWith w x.owner below.1.owner below.4.0) info below.4.1 in
      let sees_t = seen_on w sound d i.owner below.1.owner xs below.4.0 sees_m sees in
      let one = low d i below.1 xs (map (substitute xs) below.4.0) is_m below.3 sees_m sees_t in
      let two = high d below.1 j (map (substitute xs) below.4.0) ys below.3 is_k sees_t sees_k in
      (one_name m t k one.0 two.0, same_params d m t k one.1 two.1)

  overriding_agrees : AreScoped w → (m k : ℕ) → Overriding w m k → AgreeBelow w m k
  overriding_agrees scoped m k (by.at_once (by.declared {c = c} r are)) = replaced_agrees scoped c m k r
  overriding_agrees scoped m k (by.at_once (by.inherited r are agree)) = agree
  overriding_agrees scoped m k (by.through g h other agree) = agree

  pub declared_free : AreScoped w → (c m t : ℕ) → Replaces w c m t → IsFree w m t
  declared_free scoped c m t r k h = agree_through m t k (declared_below c m t r) (replaced_agrees scoped c m t r) (overriding_agrees scoped t k h)
