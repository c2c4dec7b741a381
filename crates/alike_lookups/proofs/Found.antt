-- What look-ups find for fixed methods, and for numbers of no class or no method.
use Rattle.std.proofs.Common.{◌≡◌, ℕ, ◌<◌, ◌≤◌, ◌⊎◌, Option, Some, None, inl, inr, refl, length, arith}
use Rattle.std.proofs.lemmas.Option.{slice_get_within}
use Rattle.class_world.specs.declared.world.World.{World}
use Rattle.class_world.specs.Overriding as by
use Rattle.class_world.specs.Overriding.{IsClass, OverridesAtOnce, Overriding, IsFamily, IsAnswer, IsFixed, IsFound, FoundIs}

module _ (w : World) where
  class_within : (c : ℕ) → IsClass w c → c < length w.types
  class_within c is = slice_get_within w.types c is.0 is.1

  answer_class : {o m c k : ℕ} → IsAnswer w o m c k → c < length w.types
  answer_class {c = c} (by.here a least) = class_within c a.0
  answer_class {c = c} (by.further none up rest) = class_within c up.0

  at_once_within : {m k : ℕ} → OverridesAtOnce w m k → (m < length w.methods) × (k < length w.methods)
  at_once_within {m} {k} (by.declared takes are) = (slice_get_within w.methods m are.0.0 are.0.1.0, slice_get_within w.methods k are.1.0 are.1.1.0)
  at_once_within {m} {k} (by.inherited meet are agree) = (slice_get_within w.methods m are.0.0 are.0.1.0, slice_get_within w.methods k are.1.0 are.1.1.0)

  overriding_within : {m k : ℕ} → Overriding w m k → (m < length w.methods) × (k < length w.methods)
  overriding_within (by.at_once h) = at_once_within h
  overriding_within (by.through a b other agree) = ((overriding_within a).0, (overriding_within b).1)

  family_within : {m k : ℕ} → IsFamily w m k → k < length w.methods → m < length w.methods
  family_within by.itself lt = lt
  family_within (by.above f h) lt = family_within f (overriding_within h).0
  family_within (by.below f h) lt = family_within f (overriding_within h).1

  answer_method : {o m c k : ℕ} → IsAnswer w o m c k → m < length w.methods
  answer_method {k = k} (by.here a least) = let own = a.1 in family_within a.2 (slice_get_within w.methods k own.0 own.1.0)
  answer_method (by.further none up rest) = answer_method rest

  fixed_within : (m : ℕ) → IsFixed w m → m < length w.methods
  fixed_within m f = slice_get_within w.methods m f.0 f.1

  -- a fixed method is itself
  pub fixed_found : (m k : ℕ) (o : Option ℕ) → IsFixed w m → FoundIs w m k o → o ≡ Some m
  fixed_found m k None f h = absurd (h m (by.fixed f))
  fixed_found m k (Some j) f (by.fixed g) = refl
  fixed_found m k (Some j) f (by.chosen free a) = absurd (free f)

  -- any other is found by an answer
  pub free_answer : (m k j : ℕ) → (IsFixed w m → ⊥) → IsFound w m k j → IsAnswer w k m k j
  free_answer m k j free (by.fixed f) = absurd (free f)
  free_answer m k j free (by.chosen other a) = a

  -- nothing is found where there is no class, or no method
  pub none_found : (m k : ℕ) (o : Option ℕ) → (IsFixed w m → ⊥) → (length w.types ≤ k) ⊎ (length w.methods ≤ m) → FoundIs w m k o → o ≡ None
  none_found m k None free past h = refl
  none_found m k (Some j) free (inl past) h = let lt = answer_class (free_answer m k j free h) in absurd (omega (arith, lt, past))
  none_found m k (Some j) free (inr past) h = let lt = answer_method (free_answer m k j free h) in absurd (omega (arith, lt, past))

  pub past_free : (m : ℕ) → length w.methods ≤ m → IsFixed w m → ⊥
  past_free m past f = let lt = fixed_within m f in omega (arith, lt, past)
