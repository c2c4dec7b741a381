-- What the answers say, from what is above a type.
use Rattle.std.proofs.Common.{◌≡◌, ℕ, ◌<◌, ◌+◌, List, [], Option, Some, None, ◌⊎◌, ◌↔◌, inl, inr, map, refl, sym, ap, ◌∙◌, subst, length, arith}
use Rattle.std.specs.Prelude.{slice_get, IfSome, IfNone}
use Rattle.std.specs.Option.{option_map}
use Rattle.std.proofs.lemmas.Option.{slice_get_within}
use Rattle.class_world.specs.declared.world.World.{World}
use Rattle.class_world.specs.declared.world.TypeInfo.{TypeInfo}
use Rattle.class_world.specs.declared.world.MethodInfo.{MethodInfo}
use Rattle.class_world.specs.declared.world.Above.{Above}
use Rattle.class_world.specs.declared.world.JavaType.{JavaType}
use Rattle.class_world.specs.declared.world.JavaType.TheVariants as ty
use Rattle.class_world.specs.Types.{substitute, with_own}
use Rattle.class_world.specs.Subtypes.{Subtype, through, raw, IsSuperAs}
use Rattle.class_world.specs.Sound.{IsSound, IsSet}
use Rattle.class_world.specs.Signatures.{IsSeenWith, IsMethod, HasParams, HaveOneName, HaveOneSignatureIn, AgreeBelow}
use Rattle.class_world.proofs.Forms.{same_class}
use Rattle.seen_methods.specs.Seen.{HasResult, TellsParams, TellsResult}
use Rattle.seen_methods.specs.Closed.{IsSeen, AreClosed}
use Rattle.seen_methods.proofs.Fulls.{seen_from, one_seen}

pub some_of : {A : Type 0} (o : Option A) (x : A) (P : A → Type 0) → o ≡ Some x → IfSome o P → P x
some_of o x P e h = subst (λ o. IfSome o P) e h

pub none_of : {A : Type 0} (o : Option A) (P : Type 0) → o ≡ None → IfNone o P → P
none_of o P e h = subst (λ o. IfNone o P) e h

pub one_method : (w : World) (m : ℕ) (i j : MethodInfo) → IsMethod w m i → IsMethod w m j → i ≡ j
one_method w m i j a b = cc (a.0, b.0)

module _ (w : World) (sound : IsSound w) where
  -- the table's bit
  pub above_told : (c g : ℕ) (own : TypeInfo) (row : Above) → slice_get w.types c ≡ Some own → slice_get w.above c ≡ Some row → IsSet row.types g ↔ ((args : List JavaType) × IsSeenWith w c g args)
  above_told c g own row at there =
      let has = sound.rows c own at in
      let alike : has.0 ≡ row = cc (has.1, there) in
      let types = has.2.types g in (
        λ h. seen_from w sound.declared c g own [] at (types.0 (subst (λ (a : Above). IsSet a.types g) (sym alike) h)),
        λ h.
            let seen = h.1 in
            let same_own : seen.0 ≡ own = cc (seen.1, at) in
            let up : Subtype w (with_own c own.params) (ty.Class g h.0) = subst (λ (i : TypeInfo). Subtype w (with_own c i.params) (ty.Class g h.0)) same_own seen.5 in
            subst (λ (a : Above). IsSet a.types g) alike (types.1 (through up (raw g h.0))),
      )

  pub none_above : (c g : ℕ) (own : TypeInfo) → slice_get w.types c ≡ Some own → slice_get w.above c ≡ None → (args : List JavaType) × IsSeenWith w c g args → ⊥
  none_above c g own at none h = let has = sound.rows c own at in absurd (cc (has.1, none))

  -- what `super_as` answers for the type with its own variables
  pub super_seen : (c g h : ℕ) (own : TypeInfo) (t u : JavaType) (args zs : List JavaType) → slice_get w.types c ≡ Some own → t ≡ with_own c own.params → IsSuperAs w t g (Some u)
      → u ≡ ty.Class h args → IsSeenWith w c g zs → (zs ≡ [] → ⊥) → IsSeenWith w c g args
  super_seen c g h own t u args zs at is told shape seen some =
      let same_own : seen.0 ≡ own = cc (seen.1, at) in
      let up : Subtype w t (ty.Class g zs) = subst (λ t. Subtype w t (ty.Class g zs)) (sym is)
      (subst (λ (i : TypeInfo). Subtype w (with_own c i.params) (ty.Class g zs)) same_own seen.5) in
      let alike = same_class g h zs args (told.2 (ty.Class g zs) (zs, refl, some) up ∙ shape) in
      subst (IsSeenWith w c g) alike.1 seen

  -- the parameter types and the result
  pub params_told : (c m : ℕ) (info : MethodInfo) (args ps : List JavaType) → IsMethod w m info → IsSeenWith w c info.owner args → ps ≡ map (substitute args) info.params → TellsParams w c m (Some ps)
  params_told c m info args ps is seen made = ((info, is, args, seen, made), λ qs other. same_as qs other)
    where
      same_as : (qs : List JavaType) → HasParams w c m qs → qs ≡ ps
      same_as qs other =
          let alike : other.0 ≡ info = one_method w m other.0 info other.1 is in
          let list : other.2 ≡ args = one_seen w sound c info.owner other.2 args (subst (λ (i : MethodInfo). IsSeenWith w c i.owner other.2) alike other.3) seen in
          other.4 ∙ ap (λ (i : MethodInfo). map (substitute other.2) i.params) alike ∙ ap (λ xs. map (substitute xs) info.params) list ∙ sym made

  pub result_told : (c m : ℕ) (info : MethodInfo) (args : List JavaType) (r : Option JavaType) → IsMethod w m info → IsSeenWith w c info.owner args → r ≡ option_map (substitute args) info.result → TellsResult w c m (Some r)
  result_told c m info args r is seen made = ((info, is, args, seen, made), λ q other. same_as q other)
    where
      same_as : (q : Option JavaType) → HasResult w c m q → q ≡ r
      same_as q other =
          let alike : other.0 ≡ info = one_method w m other.0 info other.1 is in
          let list : other.2 ≡ args = one_seen w sound c info.owner other.2 args (subst (λ (i : MethodInfo). IsSeenWith w c i.owner other.2) alike other.3) seen in
          other.4 ∙ ap (λ (i : MethodInfo). option_map (substitute other.2) i.result) alike ∙ ap (λ xs. option_map (substitute xs) info.result) list ∙ sym made

-- none of both, where the type that declares the method is not above
pub no_params : (w : World) (c m : ℕ) (info : MethodInfo) → IsMethod w m info → ((xs : List JavaType) → IsSeenWith w c info.owner xs → ⊥) → (ps : List JavaType) → HasParams w c m ps → ⊥
no_params w c m info is none ps h =
    let alike : h.0 ≡ info = one_method w m h.0 info h.1 is in
    none h.2 (subst (λ (i : MethodInfo). IsSeenWith w c i.owner h.2) alike h.3)

pub no_result : (w : World) (c m : ℕ) (info : MethodInfo) → IsMethod w m info → ((xs : List JavaType) → IsSeenWith w c info.owner xs → ⊥) → (r : Option JavaType) → HasResult w c m r → ⊥
no_result w c m info is none r h =
    let alike : h.0 ≡ info = one_method w m h.0 info h.1 is in
    none h.2 (subst (λ (i : MethodInfo). IsSeenWith w c i.owner h.2) alike h.3)

-- one signature

pub signature_told : (w : World) (c m k : ℕ) (xs ys : List JavaType) → HaveOneName w m k → TellsParams w c m (Some xs) → TellsParams w c k (Some ys) → (xs ≡ ys) ↔ HaveOneSignatureIn w c m k
signature_told w c m k xs ys name first second = (
  λ e. (name, (xs, first.0, subst (HasParams w c k) (sym e) second.0)),
  λ h. sym (first.1 h.1.0 h.1.1) ∙ second.1 h.1.0 h.1.2,
)

pub alike_agree : (w : World) (m k : ℕ) (i j : MethodInfo) → IsMethod w m i → IsMethod w k j → i.name ≡ j.name → i.params ≡ j.params → AreClosed i.params → AgreeBelow w m k
alike_agree w m k i j mi kj name list closed c i' j' xs ys mi' kj' sx sy =
    let first : i' ≡ i = one_method w m i' i mi' mi in
    let second : j' ≡ j = one_method w k j' j kj' kj in (
      (i, j, mi, kj, name),
      (
        i.params,
        (i, mi, xs, subst (λ (x : MethodInfo). IsSeenWith w c x.owner xs) first sx, sym (closed xs)),
        (j, kj, ys, subst (λ (x : MethodInfo). IsSeenWith w c x.owner ys) second sy, sym (closed ys) ∙ ap (map (substitute ys)) list),
      ),
    )

-- in each type below both
abbrev pub AgreeAt : World → ℕ → ℕ → ℕ → Type 0
AgreeAt w m k c = IsSeen w c m → IsSeen w c k → HaveOneSignatureIn w c m k

pub agree_all : (w : World) (m k n : ℕ) → ((c : ℕ) → c < n → AgreeAt w m k c) → ((c : ℕ) → c < length w.types → c < n) → AgreeBelow w m k
agree_all w m k n each all c i j xs ys mi kj sx sy = each c (all c (slice_get_within w.types c sx.0 sx.1)) (i, mi, (xs, sx)) (j, kj, (ys, sy))

pub not_agree : (w : World) (m k c : ℕ) → IsSeen w c m → IsSeen w c k → (HaveOneSignatureIn w c m k → ⊥) → AgreeBelow w m k → ⊥
not_agree w m k c a b none all = none (all c a.0 b.0 a.2.0 b.2.0 a.1 b.1 a.2.1 b.2.1)

lower_or_last : (k i : ℕ) → k < i + 1 → (k < i) ⊎ (k ≡ i)
lower_or_last k i h = grind (arith, h)

pub agree_next : (w : World) (m k i : ℕ) → ((c : ℕ) → c < i → AgreeAt w m k c) → AgreeAt w m k i → (c : ℕ) → c < i + 1 → AgreeAt w m k c
agree_next w m k i before here c lt = elim (lower_or_last c i lt) [ inl low ↦ before c low | inr last ↦ subst (AgreeAt w m k) (sym last) here ]
