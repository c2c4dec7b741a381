-- The methods that the enhanced for calls, from members, results and throws clauses.
use Rattle.std.proofs.Common.{◌≡◌, ℕ, ◌+◌, ◌<◌, false, List, Option, None, Some, inl, inr, ap, ◌∙◌, subst}
use Rattle.std.specs.Option.{is_some}
use Rattle.member_methods.proofs.Firsts.{low_or_last}
use Rattle.std.specs.Prelude.{codes}
use Rattle.java_tree.specs.declared.tree.Name.{Name}
use Rattle.class_world.specs.declared.world.World.{World}
use Rattle.class_world.specs.declared.world.Walk.{Walk}
use Rattle.class_world.specs.declared.world.JavaType.{JavaType}
use Rattle.seen_methods.specs.Seen.{HasResult}
use Rattle.iterables.specs.declared.calls.IteratorCall.{IteratorCall}
use Rattle.iterables.specs.declared.calls.StepCalls.{StepCalls}
use Rattle.iterables.specs.Walks.{HasText, IsCalled, IsCounted, IsIterator, ThrowsNothing, iterator_type}
use Rattle.iterables.specs.Told.{AreSteps, Finds, FindsOne, GivesIterator, IsMade, IsPlain, IsUsableAt}

module _ (names : List (List ℕ)) (w : World) (c : ℕ) (word : List ℕ) where
  module _ (n : Name) (one : (k : Name) → HasText names word k → k ≡ n) where
    of_name : (m : ℕ) → IsPlain names w c word m → IsCounted w c n m
    of_name m h = subst (λ n. IsCounted w c n m) (one h.0 h.1) h.2

    pub plain_some : (m : ℕ) → HasText names word n → FindsOne (IsCounted w c n) (Some m) → ThrowsNothing w m → FindsOne (IsPlain names w c word) (Some m)
    plain_some m text found throws = ((n, text, found.0, throws), λ k h. found.1 k (of_name k h))

    pub plain_throws : (m : ℕ) → FindsOne (IsCounted w c n) (Some m) → (ThrowsNothing w m → ⊥) → (k : ℕ) → IsPlain names w c word k → ⊥
    plain_throws m found throws k h = throws (subst (ThrowsNothing w) (found.1 k (of_name k h)) h.3)

    pub plain_none : FindsOne (IsCounted w c n) None → (k : ℕ) → IsPlain names w c word k → ⊥
    plain_none found k h = found k (of_name k h)

  pub plain_of : (t : JavaType) (m : ℕ) → IsCalled names w c word t m → IsPlain names w c word m
  plain_of t m h = (h.name, h.text, h.member, h.throws)

  pub called_by : (t : JavaType) (m : ℕ) → IsPlain names w c word m → HasResult w c m (Some t) → IsCalled names w c word t m
  called_by t m h result = record { name = h.0; text = h.1; member = h.2; result = result; throws = h.3 }

  pub called_other : (t : JavaType) (m : ℕ) → FindsOne (IsPlain names w c word) (Some m) → (HasResult w c m (Some t) → ⊥) → (k : ℕ) → IsCalled names w c word t k → ⊥
  called_other t m found other k h = other (subst (λ m. HasResult w c m (Some t)) (found.1 k (plain_of t k h)) h.result)

module _ (names : List (List ℕ)) (w : World) (c : ℕ) where
  pub made_none : (m : ℕ) → FindsOne (IsPlain names w c (codes "iterator")) (Some m) → FindsOne (GivesIterator w c m) None → (x : IteratorCall) → IsMade names w c x → ⊥
  made_none m found none x h =
      none x.iterators (subst (λ m. HasResult w c m (Some (iterator_type x.iterators))) (found.1 x.method (plain_of names w c (codes "iterator") (iterator_type x.iterators) x.method h)) h.result)

  pub made_some : (m d : ℕ) → FindsOne (IsPlain names w c (codes "iterator")) (Some m) → FindsOne (GivesIterator w c m) (Some d) → FindsOne (IsMade names w c) (Some (record { method = m; iterators = d }))
  made_some m d found gives = (called_by names w c (codes "iterator") (iterator_type d) m found.0 gives.0, λ x h. same_call x h)
    where
      same_call : (x : IteratorCall) → IsMade names w c x → x ≡ record { method = m; iterators = d }
      same_call x h =
          let method : x.method ≡ m = found.1 x.method (plain_of names w c (codes "iterator") (iterator_type x.iterators) x.method h) in
          let type_of : x.iterators ≡ d = gives.1 x.iterators (subst (λ m. HasResult w c m (Some (iterator_type x.iterators))) method h.result) in
          ap (λ (k : ℕ). record { method = k; iterators = x.iterators }) method ∙ ap (λ (k : ℕ). record { method = m; iterators = k }) type_of

  -- ---- the walk of c

  pub usable_made : (v : Walk) (h : IsUsableAt names w c v) → IsMade names w c (record { method = v.iterator; iterators = h.0.of_iterators })
  usable_made v h = subst (λ c. IsCalled names w c (codes "iterator") (iterator_type h.0.of_iterators) v.iterator) h.1 h.0.iterator

  module _ (x : IteratorCall) (one : FindsOne (IsMade names w c) (Some x)) where
    of_found : (v : Walk) (h : IsUsableAt names w c v) → h.0.of_iterators ≡ x.iterators
    of_found v h = ap (λ (y : IteratorCall). y.iterators) (one.1 (record { method = v.iterator; iterators = h.0.of_iterators }) (usable_made v h))

    pub no_iterator : (IsIterator names w x.iterators → ⊥) → (v : Walk) → IsUsableAt names w c v → ⊥
    no_iterator other v h = other (subst (IsIterator names w) (of_found v h) h.0.iterators)

    pub no_steps : ((s : StepCalls) → AreSteps names w x.iterators s → ⊥) → (v : Walk) → IsUsableAt names w c v → ⊥
    no_steps none v h =
        let s : StepCalls = record { has_next = v.has_next; next = v.next } in
        none s (subst (λ d. AreSteps names w d s) (of_found v h) (h.0.has_next, h.0.next))

-- ---- one type more

pub next_none : (names : List (List ℕ)) (w : World) (c : ℕ) (o : Option Walk) → is_some o ≡ false → Finds (IsUsableAt names w c) o → ((d : ℕ) → d < c → (v : Walk) → IsUsableAt names w d v → ⊥)
    → (d : ℕ) → d < c + 1 → (v : Walk) → IsUsableAt names w d v → ⊥
next_none names w c (Some x) e found before d lt v h = absurd (cc e)
next_none names w c None e found before d lt v h = elim (low_or_last d c lt) [ inl low ↦ before d low v h | inr last ↦ found v (h.0, h.1 ∙ last) ]
