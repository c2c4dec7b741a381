-- Where some type of a class is above a class with its own variables, one with all its arguments is, and just one.
use Rattle.std.proofs.Common.{◌≡◌, ℕ, zero, suc, List, [], ◌∷◌, Some, inl, map, refl, sym, ap, ◌∙◌, subst, length, arith}
use Rattle.std.specs.Prelude.{slice_get}
use Rattle.std.proofs.lemmas.Option.{slice_get_within}
use Rattle.java_tree.specs.declared.tree.Primitive.TheVariants as prim
use Rattle.class_world.specs.declared.world.World.{World}
use Rattle.class_world.specs.declared.world.TypeInfo.{TypeInfo}
use Rattle.class_world.specs.declared.world.JavaType.{JavaType}
use Rattle.class_world.specs.declared.world.JavaType.TheVariants as ty
use Rattle.class_world.specs.Types.{substitute, variables, with_own, of_class}
use Rattle.class_world.specs.Subtypes.{Subtype, same, through, declared, object, raw, null, arrays, char_int, int_long}
use Rattle.class_world.specs.Sound.{AreSupers, IsSound}
use Rattle.class_world.specs.Signatures.{IsSeenWith}
use Rattle.class_world.proofs.Forms.{primitive_kind, null_kind, class_kind, array_kind, same_class}
use Rattle.class_world.proofs.Substs.{put_class, length_map, there_is, variables_length}
use Rattle.class_world.proofs.Orders.{seen_class}

-- t is a type of the class g, and g with all its arguments is above s
pub record IsFull (w : World) (s : JavaType) (t : JavaType) : Type 0 where
  pub class : ℕ
  pub given : List JavaType
  pub shape : t ≡ ty.Class class given
  pub info : TypeInfo
  pub at : slice_get w.types class ≡ Some info
  pub args : List JavaType
  pub count : length args ≡ info.params
  pub above : Subtype w s (ty.Class class args)

module _ (w : World) (sound : AreSupers w) where
  full_declared : (s a t d : JavaType) (c : ℕ) (zs : List JavaType) (info : TypeInfo) (k : ℕ) → slice_get w.types c ≡ Some info → slice_get info.supers k ≡ Some d
      → ((us : List JavaType) (g : ℕ) (ys : List JavaType) → d ≡ ty.Class g ys → (vs : List JavaType) × (t ≡ ty.Class g vs)) → a ≡ ty.Class c zs → IsFull w s a → IsFull w s t
  full_declared s a t d c zs info k at at_k keeps e f =
      let number : f.class ≡ c = (same_class f.class c f.given zs (sym f.shape ∙ e)).0 in
      let alike : f.info ≡ info = cc (f.at, at, ap (slice_get w.types) number) in
      let sup = (sound.supers c info d at (info, at, k, at_k)).1 in
      let up = keeps f.args sup.0 sup.1 sup.3 in
      let put : substitute f.args d ≡ ty.Class sup.0 (map (substitute f.args) sup.1) = ap (substitute f.args) sup.3 ∙ put_class f.args sup.0 sup.1 in
      record {
        class = sup.0;
        given = up.0;
        shape = up.1;
        info = sup.2;
        at = sup.4;
        args = map (substitute f.args) sup.1;
        count = length_map (substitute f.args) sup.1 ∙ sup.5;
        above = through (subst (λ c. Subtype w s (ty.Class c f.args)) number f.above)
            (declared (info, at, d, k, at_k, inl (f.count ∙ ap (λ (i : TypeInfo). i.params) alike, sym put)));
      }

  top : (c : ℕ) (info : TypeInfo) → slice_get w.types c ≡ Some info → (i : TypeInfo) × (slice_get w.types 0 ≡ Some i)
  top c info at = let lt = slice_get_within w.types c info at in there_is w.types 0 (omega (arith, lt))

  pub full_on : (s a t : JavaType) → Subtype w a t → IsFull w s a → IsFull w s t
  full_on s a t same f = f
  full_on s a t (through {m = m} x y) f = full_on s m t y (full_on s a m x f)
  full_on s a t (declared {c = c} {args = zs} h) f =
      full_declared s a t h.2 c zs h.0 h.3 h.1 h.4 (λ us g ys e. seen_class h.0.params zs h.2 t g ys e h.5) refl f
  full_on s a t (object r) f =
      let i = top f.class f.info f.at in
      record {
        class = 0;
        given = [];
        shape = refl;
        info = i.0;
        at = i.1;
        args = [];
        count = sym (sound.top i.0 i.1).0;
        above = through f.above (object (of_class f.class f.args));
      }
  full_on s a t (raw c zs) f =
      let number : f.class ≡ c = (same_class f.class c f.given zs (sym f.shape)).0 in
      record {
        class = f.class;
        given = [];
        shape = ap (λ c. ty.Class c []) (sym number);
        info = f.info;
        at = f.at;
        args = f.args;
        count = f.count;
        above = f.above;
      }
  full_on s a t (null r) f = absurd (cc (null_kind, class_kind f.class f.given, f.shape))
  full_on s a t (arrays {s = x} r r' up) f = absurd (cc (array_kind x, class_kind f.class f.given, f.shape))
  full_on s a t char_int f = absurd (cc (primitive_kind prim.Char, class_kind f.class f.given, f.shape))
  full_on s a t int_long f = absurd (cc (primitive_kind prim.Int, class_kind f.class f.given, f.shape))

  -- where some type of g is above c with its own variables, c sees g with all its arguments
  pub seen_from : (c g : ℕ) (own : TypeInfo) (xs : List JavaType) → slice_get w.types c ≡ Some own → Subtype w (with_own c own.params) (ty.Class g xs) → (args : List JavaType) × IsSeenWith w c g args
  seen_from c g own xs at h =
      let start : IsFull w (with_own c own.params) (with_own c own.params) = record {
        class = c;
        given = variables 0 own.params;
        shape = refl;
        info = own;
        at = at;
        args = variables 0 own.params;
        count = variables_length 0 own.params;
        above = same;
      } in
      let f = full_on (with_own c own.params) (with_own c own.params) (ty.Class g xs) h start in
      let number : f.class ≡ g = (same_class f.class g f.given xs (sym f.shape)).0 in
      (f.args, (own, at, f.info, subst (λ g. slice_get w.types g ≡ Some f.info) number f.at, f.count, subst (λ g. Subtype w (with_own c own.params) (ty.Class g f.args)) number f.above))

pub nothing : {A : Type 0} (xs : List A) → length xs ≡ 0 → xs ≡ []
nothing [] e = refl
nothing (x ∷ xs) e = absurd (omega (arith, e))

something : {A : Type 0} (xs : List A) (n : ℕ) → length xs ≡ suc n → xs ≡ [] → ⊥
something xs n e none = let zero_is : length xs ≡ 0 = ap length none in omega (arith, e, zero_is)

-- a type sees another with one list of arguments
pub one_seen : (w : World) → IsSound w → (c g : ℕ) (xs ys : List JavaType) → IsSeenWith w c g xs → IsSeenWith w c g ys → xs ≡ ys
one_seen w sound c g xs ys a b = go a.2.params refl
  where
    own : a.0 ≡ b.0
    own = cc (a.1, b.1)

    count : length ys ≡ a.2.params
    count = let alike : b.2 ≡ a.2 = cc (a.3, b.3) in b.4 ∙ ap (λ (i : TypeInfo). i.params) alike

    go : (n : ℕ) → a.2.params ≡ n → xs ≡ ys
    go zero e = nothing xs (a.4 ∙ e) ∙ sym (nothing ys (count ∙ e))
    go (suc n) e =
        let alike = sound.single c a.0 a.1 g (ty.Class g xs) (ty.Class g ys) (xs, refl, something xs n (a.4 ∙ e)) (ys, refl, something ys n (count ∙ e))
        a.5 (subst (λ (i : TypeInfo). Subtype w (with_own c i.params) (ty.Class g ys)) (sym own) b.5) in
        (same_class g g xs ys alike).1
