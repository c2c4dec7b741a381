-- What a method breaks over one whose place it takes through a third, it breaks over the third, or the third breaks a rule itself.
use Rattle.std.proofs.Common.{◌≡◌, ℕ, ◌<◌, ◌≤◌, List, Some, ◌⊎◌, inl, inr, refl, sym, ap, ◌∙◌, subst, arith}
use Rattle.std.specs.Prelude.{slice_get}
use Rattle.std.specs.Option.{option_map}
use Rattle.class_world.specs.declared.world.World.{World}
use Rattle.class_world.specs.declared.world.MethodInfo.{MethodInfo}
use Rattle.class_world.specs.declared.world.JavaType.{JavaType}
use Rattle.class_world.specs.Types.{substitute, variables}
use Rattle.class_world.specs.Subtypes.{through}
use Rattle.class_world.specs.Sound.{IsSound}
use Rattle.class_world.specs.Signatures.{IsMethod, IsSeenWith}
use Rattle.class_world.specs.Inheritance.{DeclaresMethod}
use Rattle.seen_methods.specs.Closed.{IsDeclaredBelow}
use Rattle.seen_methods.specs.Seen.{HasResult}
use Rattle.override_rules.specs.Rules.{Suits, BreaksResult, access, IsWeaker, ThrowsMore, AreOfOneKind, Breaks, result, access_of, throws, final, static}
use Rattle.class_world.specs.Typed.{HaveTypes}
use Rattle.override_rules.proofs.Seen.{one_method, seen_own, seen_parts, suits_put, suits_through, result_through, result_of_own}

-- of three methods of which two pairs are of one kind, the third pair is too

pub kind_through : (w : World) (m t k : ℕ) → AreOfOneKind w m t → AreOfOneKind w t k → AreOfOneKind w m k
kind_through w m t k (inl a) (inl b) = inl (a.0, b.1)
kind_through w m t k (inl a) (inr b) = absurd (b.0 a.1)
kind_through w m t k (inr a) (inl b) = absurd (a.1 b.0)
kind_through w m t k (inr a) (inr b) = inr (a.0, b.1)

pub kind_back : (w : World) (m t k : ℕ) → AreOfOneKind w m k → AreOfOneKind w t k → AreOfOneKind w m t
kind_back w m t k (inl a) (inl b) = inl (a.0, b.0)
kind_back w m t k (inl a) (inr b) = absurd (b.1 a.1)
kind_back w m t k (inr a) (inl b) = absurd (a.1 b.1)
kind_back w m t k (inr a) (inr b) = inr (a.0, b.0)

-- The type c declares m and d declares t; i, j and l are what is known of the three methods, xs and ys the arguments of d and of the uppermost type.
module _ (w : World) (sound : IsSound w) (typed : HaveTypes w) (c d m t k : ℕ) (i j l : MethodInfo) (is_m : IsMethod w m i) (is_t : IsMethod w t j) (is_k : IsMethod w k l)
    (xs ys : List JavaType) (low : IsSeenWith w c d xs) (high : IsSeenWith w d l.owner ys) (own : j.owner ≡ d) where
  result_passes : BreaksResult w c m k → (BreaksResult w c m t → ⊥) → (BreaksResult w d t k → ⊥) → ⊥
  result_passes h first second =
      let info = low.2 in
      let p' = option_map (substitute (variables 0 info.params)) j.result in
      let q' = option_map (substitute ys) l.result in
      let p = option_map (substitute xs) j.result in
      let has_p : HasResult w c t p = (j, is_t, xs, subst (λ g. IsSeenWith w c g xs) (sym own) low, refl) in
      let has_p' : HasResult w d t p' = (j, is_t, variables 0 info.params, subst (λ g. IsSeenWith w d g (variables 0 info.params)) (sym own) (seen_own w d info low.3), refl) in
      let has_q' : HasResult w d k q' = (l, is_k, ys, high, refl) in
      first (
        h.0,
        p,
        h.2,
        has_p,
        λ a.
            second (
              p',
              q',
              has_p',
              has_q',
              λ b.
                  let up = suits_put w sound xs p' q' (seen_parts w sound c d xs low).2 b in
                  let first_end : Suits w p (option_map (substitute xs) q') = subst (λ r. Suits w r (option_map (substitute xs) q')) (result_of_own w sound typed c d t j xs info is_t low.3 own) up in
                  let both_ends : Suits w p h.1 = subst (Suits w p) (sym (result_through w sound typed c d k l xs ys h.1 is_k low high h.3)) first_end in
                  h.4 (suits_through w sound h.0 p h.1 a both_ends),
            ),
      )

  split : (a b : ℕ) → (a < b) ⊎ (b ≤ a)
  split a b = grind arith

  weaker_passes : IsWeaker w m k → (IsWeaker w m t → ⊥) → (IsWeaker w t k → ⊥) → ⊥
  weaker_passes h first second =
      let e = low.2 in
      let at : slice_get w.types j.owner ≡ Some e = ap (slice_get w.types) own ∙ low.3 in
      let level = access e.interface j.mods in
      elim (split (access h.4.interface h.0.mods) level) [
        | inl lt ↦ first (h.0, j, h.2, is_t, h.4, e, h.6, at, lt)
        | inr le ↦ second (j, h.1, is_t, h.3, e, h.5, at, h.7, let lt = h.8 in omega (arith, le, lt))
      ]

  throws_passes : ThrowsMore w m k → (ThrowsMore w m t → ⊥) → (ThrowsMore w t k → ⊥) → ⊥
  throws_passes h first second =
      first (
        h.0,
        j,
        h.2,
        is_t,
        h.4,
        h.5,
        h.6,
        λ g in_g below_g.
            second (
              j,
              h.1,
              is_t,
              h.3,
              g,
              in_g,
              (λ unchecked. h.6 (elim unchecked [ inl u ↦ inl (through below_g u) | inr u ↦ inr (through below_g u) ])),
              (λ f in_f below_f. h.7 f in_f (through below_g below_f)),
            ),
      )

  pub passes : (r : ℕ) → Breaks w c m k r → (Breaks w c m t r → ⊥) → ((q : ℕ) → Breaks w d t k q → ⊥) → ⊥
  passes r (result kind h) first clean = clean 17 (static (λ up. result_passes h (λ b. first (result (kind_back w m t k kind up) b)) (λ b. clean 13 (result up b))))
  passes r (access_of kind h) first clean = clean 17 (static (λ up. weaker_passes h (λ b. first (access_of (kind_back w m t k kind up) b)) (λ b. clean 14 (access_of up b))))
  passes r (throws kind h) first clean = clean 17 (static (λ up. throws_passes h (λ b. first (throws (kind_back w m t k kind up) b)) (λ b. clean 15 (throws up b))))
  passes r (final kind h) first clean = clean 17 (static (λ up. clean 16 (final up h)))
  passes r (static none) first clean = first (static (λ down. clean 17 (static (λ up. none (kind_through w m t k down up)))))

-- the same of three methods whose places are taken
pub law : (w : World) → IsSound w → HaveTypes w → (c d m t k : ℕ) → DeclaresMethod w c m → DeclaresMethod w d t → IsDeclaredBelow w m t → IsDeclaredBelow w t k
    → (r : ℕ) → Breaks w c m k r → (Breaks w c m t r → ⊥) → ((q : ℕ) → Breaks w d t k q → ⊥) → ⊥
law w sound typed c d m t k decl_m decl_t mt tk =
    let i = decl_m.0 in
    let j = decl_t.0 in
    let l = tk.1 in
    let same_i : mt.0 ≡ i = one_method w m mt.0 i mt.2 decl_m.1 in
    let same_j : mt.1 ≡ j = one_method w t mt.1 j mt.3 decl_t.1 in
    let same_t : tk.0 ≡ j = one_method w t tk.0 j tk.2 decl_t.1 in
    let low : IsSeenWith w c d mt.4.0 =
    subst (λ c. IsSeenWith w c d mt.4.0) (ap (λ (x : MethodInfo). x.owner) same_i ∙ decl_m.2)
    (subst (λ d. IsSeenWith w mt.0.owner d mt.4.0) (ap (λ (x : MethodInfo). x.owner) same_j ∙ decl_t.2) mt.4.1) in
    let high : IsSeenWith w d l.owner tk.4.0 = subst (λ d. IsSeenWith w d l.owner tk.4.0) (ap (λ (x : MethodInfo). x.owner) same_t ∙ decl_t.2) tk.4.1 in
    passes w sound typed c d m t k i j l decl_m.1 decl_t.1 tk.3 mt.4.0 tk.4.0 low high decl_t.2
