-- What a type sees of methods, a type below it sees with arguments put.
use Rattle.std.proofs.Common.{◌≡◌, ℕ, ◌↔◌, List, map, refl, sym, ap, ◌∙◌, subst, length}
use Rattle.class_world.specs.declared.world.World.{World}
use Rattle.class_world.specs.declared.world.TypeInfo.{TypeInfo}
use Rattle.class_world.specs.declared.world.MethodInfo.{MethodInfo}
use Rattle.class_world.specs.declared.world.JavaType.{JavaType}
use Rattle.class_world.specs.declared.world.JavaType.TheVariants as ty
use Rattle.class_world.specs.Types.{substitute, variables, with_own}
use Rattle.class_world.specs.Subtypes as order
use Rattle.class_world.specs.Subtypes.{Subtype}
use Rattle.class_world.specs.Sound.{IsSound}
use Rattle.class_world.specs.Signatures.{IsSeenWith, IsMethod, HasParams, HaveOneSignatureIn, AgreeBelow}
use Rattle.class_world.proofs.Substs.{put_class, put_own, length_map, variables_length}
use Rattle.class_world.proofs.Orders.{class_parts, own_over, class_above, class_supers}
use Rattle.class_world.proofs.Lifts.{put_below}
use Rattle.seen_methods.specs.Scopes.{IsScoped}
use Rattle.seen_methods.specs.Closed.{IsSeen}
use Rattle.seen_methods.proofs.Fulls.{one_seen}
use Rattle.seen_methods.proofs.Tells.{not_agree, one_method}

-- a type sees itself
pub own_seen : (w : World) (c g : ℕ) (args : List JavaType) → IsSeenWith w c g args → (xs : List JavaType) × IsSeenWith w c c xs
own_seen w c g args h = (variables 0 h.0.params, (h.0, h.1, h.0, h.1, variables_length 0 h.0.params, order.same))

module _ (w : World) (sound : IsSound w) where
  -- what a type above sees is seen with the arguments that the type above has
  pub seen_on : (d c g : ℕ) (xs args : List JavaType) → IsSeenWith w d c xs → IsSeenWith w c g args → IsSeenWith w d g (map (substitute xs) args)
  seen_on d c g xs args a b =
      let up = class_above w (class_supers w sound.declared) a.0.params (with_own d a.0.params) (ty.Class c xs) a.5 d (variables 0 a.0.params) refl (own_over w d a.0 a.1) in
      let refs = (class_parts w a.0.params (ty.Class c xs) c xs up.1 refl).3 in
      let same : a.2 ≡ b.0 = cc (a.3, b.1) in
      let count : length xs ≡ b.0.params = a.4 ∙ ap (λ (i : TypeInfo). i.params) same in
      let put = put_below w (class_supers w sound.declared) xs refs (with_own c b.0.params) (ty.Class g args) b.5 in
      let on : Subtype w (ty.Class c xs) (ty.Class g (map (substitute xs) args)) =
      subst (λ t. Subtype w t (ty.Class g (map (substitute xs) args))) (put_own xs c b.0.params count) (subst (Subtype w (substitute xs (with_own c b.0.params))) (put_class xs g args) put) in
      (a.0, a.1, b.2, b.3, length_map (substitute xs) args ∙ b.4, order.through a.5 on)

  pub one_params : (d m : ℕ) (ps qs : List JavaType) → HasParams w d m ps → HasParams w d m qs → ps ≡ qs
  one_params d m ps qs a b =
      let info : b.0 ≡ a.0 = cc (a.1.0, b.1.0) in
      let args : b.2 ≡ a.2 = one_seen w sound d a.0.owner b.2 a.2 (subst (λ (i : MethodInfo). IsSeenWith w d i.owner b.2) info b.3) a.3 in
      a.4 ∙ sym (b.4 ∙ ap (λ (i : MethodInfo). map (substitute b.2) i.params) info ∙ ap (λ xs. map (substitute xs) a.0.params) args)

  -- the parameter types that c sees, as a type below c sees them
  pub params_on : (d c m : ℕ) (xs ps : List JavaType) → IsScoped w m → IsSeenWith w d c xs → HasParams w c m ps → HasParams w d m (map (substitute xs) ps)
  params_on d c m xs ps scoped sees h =
      let over = scoped h.0 h.3.2 h.1.0 h.3.3 in
      (h.0, h.1, map (substitute xs) h.2, seen_on d c h.0.owner xs h.2 sees h.3, ap (map (substitute xs)) h.4 ∙ over xs h.2 h.3.4)

  -- what the type of m sees of both, each type below both sees
  pub lower_agrees : (m k : ℕ) (info : MethodInfo) → IsMethod w m info → IsScoped w m → IsScoped w k → HaveOneSignatureIn w info.owner m k → AgreeBelow w m k
  lower_agrees m k info is scoped_m scoped_k h d i j xs ys is_m is_k sees_m sees_k =
      let sees = subst (λ (x : MethodInfo). IsSeenWith w d x.owner xs) (one_method w m i info is_m is) sees_m in
      let has = h.1 in
      (h.0, (map (substitute xs) has.0, params_on d info.owner m xs has.0 scoped_m sees has.1, params_on d info.owner k xs has.0 scoped_k sees has.2))

  -- the type of m is one of the types below both
  pub lower_tells : (m k : ℕ) (info : MethodInfo) → IsMethod w m info → IsSeen w info.owner k → (HaveOneSignatureIn w info.owner m k → ⊥) → AgreeBelow w m k → ⊥
  lower_tells m k info is seen none = not_agree w m k info.owner (info, is, own_seen w info.owner seen.0.owner seen.2.0 seen.2.1) seen none

agree_back : (w : World) (m k : ℕ) → AgreeBelow w m k → AgreeBelow w k m
agree_back w m k h d i j xs ys is_k is_m sees_k sees_m =
    let one = h d j i ys xs is_m is_k sees_m sees_k in
    ((one.0.1, one.0.0, one.0.3, one.0.2, sym one.0.4), (one.1.0, one.1.2, one.1.1))

pub agree_turned : (w : World) (m k : ℕ) → AgreeBelow w k m ↔ AgreeBelow w m k
agree_turned w m k = (agree_back w k m, agree_back w m k)
