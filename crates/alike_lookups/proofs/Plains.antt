-- Plain families: each of their methods that a class declares answers for each other one.
use Rattle.std.proofs.Common.{◌≡◌, ℕ, List, Option, Some, None, inl, inr, ◌↔◌, sym, ap, ◌∙◌, subst, map}
use Rattle.std.specs.Prelude.{slice_get, IfSome}
use Rattle.std.specs.List.{Contains}
use Rattle.class_world.specs.declared.world.World.{World}
use Rattle.class_world.specs.declared.world.MethodInfo.{MethodInfo}
use Rattle.class_world.specs.declared.world.JavaType.{JavaType}
use Rattle.class_world.specs.Types.{substitute}
use Rattle.class_world.specs.Signatures.{IsMethod}
use Rattle.class_world.specs.Inheritance.{DeclaresMethod}
use Rattle.class_world.specs.Overriding as by
use Rattle.class_world.specs.Overriding.{IsClass, IsFamily, HaveOneParameterList, Answers, IsAnswer, IsFixed, FoundIs, IsFound}
use Rattle.alike_lookups.specs.Families.{IsLike, IsPlain, DeclaresOf}
use Rattle.alike_lookups.proofs.Lists.{at_contains}
use Rattle.alike_lookups.proofs.Found.{free_answer}

module _ (w : World) where
  pub same_method : (m : ℕ) (i j : MethodInfo) → IsMethod w m i → IsMethod w m j → i ≡ j
  same_method m i j a b = let e = a.0 in let e' = b.0 in cc (e, e')

  list_back : (m k : ℕ) → HaveOneParameterList w m k → HaveOneParameterList w k m
  list_back m k (i, j, is_m, is_k, same, closed) = (j, i, is_k, is_m, sym same, subst (λ ps. (args : List JavaType) → map (substitute args) ps ≡ ps) same closed)

  list_on : (m k l : ℕ) → HaveOneParameterList w m k → HaveOneParameterList w k l → HaveOneParameterList w m l
  list_on m k l (i, j, is_m, is_k, same, closed) (j', q, is_k', is_l, same', closed') =
      (i, q, is_m, is_l, same ∙ ap (λ (x : MethodInfo). x.params) (same_method k j j' is_k is_k') ∙ same', closed)

  like_back : (m k : ℕ) → IsLike w m k → IsLike w k m
  like_back m k (inl e) = inl (sym e)
  like_back m k (inr h) = inr (list_back m k h)

  like_on : (m k l : ℕ) → IsLike w m k → IsLike w k l → IsLike w m l
  like_on m k l (inl e) h = subst (λ m. IsLike w m l) (sym e) h
  like_on m k l (inr h) (inl e) = inr (subst (HaveOneParameterList w m) e h)
  like_on m k l (inr h) (inr i) = inr (list_on m k l h i)

module _ {w : World} where
  pub family_on : {m k l : ℕ} → IsFamily w m k → IsFamily w k l → IsFamily w m l
  family_on f by.itself = f
  family_on f (by.above g h) = by.above (family_on f g) h
  family_on f (by.below g h) = by.below (family_on f g) h

  pub family_back : {m k : ℕ} → IsFamily w m k → IsFamily w k m
  family_back by.itself = by.itself
  family_back (by.above f h) = family_on (by.below by.itself h) (family_back f)
  family_back (by.below f h) = family_on (by.above by.itself h) (family_back f)

  -- where an answer is declared
  pub answer_declared : {o m c k : ℕ} → IsAnswer w o m c k → (d : ℕ) × IsClass w d × DeclaresMethod w d k × IsFamily w m k
  answer_declared {c = c} (by.here a least) = (c, a.0, a.1, a.2)
  answer_declared (by.further none up rest) = answer_declared rest

  module _ (f : ℕ) (plain : IsPlain w f) where
    like : {a b : ℕ} → IsFamily w f a → IsFamily w a b → IsLike w b a
    like {a} {b} in_a to_b = like_on w b f a (plain b (family_on in_a to_b)) (like_back w a f (plain a in_a))

    -- a method of the family that a class declares
    pub answers : {o a b c : ℕ} → IsFamily w f a → IsFamily w f b → IsClass w c → DeclaresMethod w c b → Answers w o a c b
    answers {a = a} {b = b} in_a in_b class declares =
        let to_b = family_on (family_back in_a) in_b in
        (class, declares, to_b, elim (like in_a to_b) [ inl same ↦ inl same | inr one ↦ inr (inr (inl one)) ])

    pub answer_in : {o a b c : ℕ} → IsFamily w f a → Answers w o a c b → IsFamily w f b
    answer_in in_a (class, declares, family, how) = family_on in_a family

    other_answers : {o q a b c k : ℕ} → IsFamily w f a → IsFamily w f b → Answers w o a c k → Answers w q b c k
    other_answers in_a in_b (class, declares, family, how) = answers in_b (family_on in_a family) class declares

    -- what answers for one method of the family answers for each, on objects of every class
    pub change : {o q a b c k : ℕ} → IsFamily w f a → IsFamily w f b → IsAnswer w o a c k → IsAnswer w q b c k
    change in_a in_b (by.here h least) = by.here (other_answers in_a in_b h) (λ j low other. least j low (other_answers in_b in_a other))
    change in_a in_b (by.further none up rest) = by.further (λ j other. none j (other_answers in_b in_a other)) up (change in_a in_b rest)

    -- so it is found for each
    change_found : (a b k : ℕ) → IsFamily w f a → IsFamily w f b → (IsFixed w a → ⊥) → (IsFixed w b → ⊥) → (j : ℕ) → IsFound w a k j → IsFound w b k j
    change_found a b k in_a in_b free free_b j h = by.chosen free_b (change in_a in_b (free_answer w a k j free h))

    pub found_alike : (a b k : ℕ) (o : Option ℕ) → IsFamily w f a → IsFamily w f b → (IsFixed w a → ⊥) → (IsFixed w b → ⊥) → FoundIs w a k o → FoundIs w b k o
    found_alike a b k None in_a in_b free free_b h = λ j found. h j (change_found b a k in_b in_a free_b free j found)
    found_alike a b k (Some j) in_a in_b free free_b h = change_found a b k in_a in_b free free_b j h

-- the first element of a family's list is of the family
pub first_told : (w : World) (m : ℕ) (xs : List ℕ) (o : Option ℕ) → o ≡ slice_get xs 0 → ((k : ℕ) → Contains xs k ↔ IsFamily w m k) → IfSome o (λ f. IsFamily w m f)
first_told w m xs None is family = tt
first_told w m xs (Some f) is family = (family f).0 (at_contains xs 0 f (sym is))

-- what is found of a family is declared by a class
pub declares_found : (w : World) (m c j : ℕ) (info : MethodInfo) → (IsFixed w m → ⊥) → IsFound w m c j → IsMethod w j info → info.owner ≡ c → DeclaresOf w m c
declares_found w m c j info free found is owner =
    let at = answer_declared (free_answer w m c j free found) in
    let own = at.2 in
    let one : at.0 ≡ c = sym own.2 ∙ ap (λ (i : MethodInfo). i.owner) (same_method w j own.0 info own.1 is) ∙ owner in
    (j, subst (IsClass w) one at.1, (info, is, owner), at.3)
