-- Methods of a name whose methods have no type variables among their parameter types: what overriding ties together has one list of parameter types.
use Rattle.std.proofs.Common.{◌≡◌, ℕ, List, map, refl, sym, ap, ◌∙◌}
use Rattle.class_world.specs.declared.world.World.{World}
use Rattle.class_world.specs.declared.world.MethodInfo.{MethodInfo}
use Rattle.class_world.specs.declared.world.JavaType.{JavaType}
use Rattle.class_world.specs.Types.{substitute}
use Rattle.class_world.specs.Signatures.{IsMethod, HasParams, HaveOneSignatureIn}
use Rattle.class_world.specs.Overriding as by
use Rattle.class_world.specs.Overriding.{MeetIn, OverridesAtOnce, Overriding}
use Rattle.seen_methods.specs.Closed.{AreClosed}
use Rattle.seen_methods.proofs.Tells.{one_method, alike_agree}
use Rattle.overrides.specs.Scopes.{IsPlain}
use Rattle.overrides.specs.AtOnce.{IsFree}

module _ (w : World) where
  -- two methods of one name and one list of parameter types
  abbrev IsLikeIt : ℕ → ℕ → Type 0
  IsLikeIt m k = (i : MethodInfo) × (j : MethodInfo) × IsMethod w m i × IsMethod w k j × (i.name ≡ j.name) × (i.params ≡ j.params)

  seen_as_declared : (c m : ℕ) (info : MethodInfo) (ps : List JavaType) → IsMethod w m info → AreClosed info.params → HasParams w c m ps → ps ≡ info.params
  seen_as_declared c m info ps is closed h =
      let same = one_method w m h.0 info h.1 is in
      h.4 ∙ ap (λ (i : MethodInfo). map (substitute h.2) i.params) same ∙ closed h.2

  like_in : (c m k : ℕ) → IsPlain w m → HaveOneSignatureIn w c m k → IsLikeIt m k
  like_in c m k plain h =
      let i = h.0.0 in
      let j = h.0.1 in
      let first = seen_as_declared c m i h.1.0 h.0.2 (plain m i i h.0.2 h.0.2 refl) h.1.1 in
      let second = seen_as_declared c k j h.1.0 h.0.3 (plain k i j h.0.2 h.0.3 h.0.4) h.1.2 in
      (i, j, h.0.2, h.0.3, h.0.4, sym first ∙ second)

  like_on : (m t k : ℕ) → IsLikeIt m t → IsLikeIt t k → IsLikeIt m k
  like_on m t k a b =
      let same = one_method w t a.1 b.0 a.3 b.2 in
      (a.0, b.1, a.2, b.3, a.4 ∙ ap (λ (i : MethodInfo). i.name) same ∙ b.4, a.5 ∙ ap (λ (i : MethodInfo). i.params) same ∙ b.5)

  plain_on : (m t : ℕ) → IsPlain w m → IsLikeIt m t → IsPlain w t
  plain_on m t plain h k i j is_t is_k name =
      let same = one_method w t h.1 i h.3 is_t in
      plain k h.0 j h.2 is_k (h.4 ∙ ap (λ (x : MethodInfo). x.name) same ∙ name)

  at_once_like : (m k : ℕ) → IsPlain w m → OverridesAtOnce w m k → IsLikeIt m k
  at_once_like m k plain (by.declared {c = c} r are) = like_in c m k plain r.3
  at_once_like m k plain (by.inherited {c = c} r are agree) = like_in c m k plain r.2

  overriding_like : (m k : ℕ) → IsPlain w m → Overriding w m k → IsLikeIt m k
  overriding_like m k plain (by.at_once e) = at_once_like m k plain e
  overriding_like m k plain (by.through {t = t} g h other agree) =
      let first = overriding_like m t plain g in
      like_on m t k first (overriding_like t k (plain_on m t plain first) h)

  pub plain_free : (c m t : ℕ) → IsPlain w m → MeetIn w c m t → IsFree w m t
  plain_free c m t plain meet k up =
      let first = like_in c m t plain meet.2 in
      let all = like_on m t k first (overriding_like t k (plain_on m t plain first) up) in
      alike_agree w m k all.0 all.1 all.2 all.3 all.4 all.5 (plain m all.0 all.0 all.2 all.2 refl)
