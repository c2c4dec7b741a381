-- What a write changes for look-ups.
use Rattle.std.proofs.Common.{◌≡◌, ℕ, true, false, cond, List, [], ◌∷◌, ◌++◌, Some, None, refl, sym, ap, ◌∙◌, inl, inr}
use Rattle.std.proofs.lemmas.Bool.{cases_Bool, cond-true, cond-false, false_from_ne_true}
use Rattle.std.proofs.lemmas.Slice.Eq.{bytes_eq-Decides}
use Rattle.std.specs.Prelude.{bytes_eq}
use Rattle.tool_files.specs.Memory.{File, look_up, put_at}

pub same_name : (x y : List ℕ) → x ≡ y → bytes_eq x y ≡ true
same_name x y e = (bytes_eq-Decides x y).1 e

pub other_name : (x y : List ℕ) → (x ≡ y → ⊥) → bytes_eq x y ≡ false
other_name x y ne = false_from_ne_true (bytes_eq x y) (λ t. ne ((bytes_eq-Decides x y).0 t))

-- the name that was put has its bytes
pub look_up-put_at : (name bytes : List ℕ) (fs : List File) → look_up (put_at name bytes fs) name ≡ Some bytes
look_up-put_at name bytes [] = cond-true _ _ _ (same_name name name refl)
look_up-put_at name bytes (f ∷ fs) =
    elim (cases_Bool (bytes_eq f.name name)) [
      | inl e ↦ rw (cond-true _ _ _ e) (cond-true _ _ _ (same_name name name refl))
      | inr e ↦ rw (cond-false _ _ _ e) (cond-false _ _ _ e ∙ look_up-put_at name bytes fs)
    ]

-- and each other name the bytes that it had
pub look_up-put_at_other : (name bytes n : List ℕ) (fs : List File) → (n ≡ name → ⊥) → look_up (put_at name bytes fs) n ≡ look_up fs n
look_up-put_at_other name bytes n [] ne = cond-false _ _ _ (other_name name n (λ e. ne (sym e)))
look_up-put_at_other name bytes n (f ∷ fs) ne =
    elim (cases_Bool (bytes_eq f.name name)) [
      | inl e ↦
          (let same : f.name ≡ name = (bytes_eq-Decides f.name name).0 e in
          rw (cond-true _ _ _ e) (cond-false _ _ _ (other_name name n (λ q. ne (sym q)))
          ∙ sym (cond-false _ _ _ (other_name f.name n (λ q. ne (sym q ∙ same))))))
      | inr e ↦ rw (cond-false _ _ _ e) (ap (cond (bytes_eq f.name n) (Some f.bytes)) (look_up-put_at_other name bytes n fs ne))
    ]

-- a new name is put last
pub put_at-new : (name bytes : List ℕ) (fs : List File) → look_up fs name ≡ None → put_at name bytes fs ≡ fs ++ record { name = name; bytes = bytes } ∷ []
put_at-new name bytes [] h = refl
put_at-new name bytes (f ∷ fs) h =
    elim (cases_Bool (bytes_eq f.name name)) [
      | inl e ↦ absurd (cc (cond-true (bytes_eq f.name name) (Some f.bytes) (look_up fs name) e))
      | inr e ↦ cond-false _ _ _ e ∙ ap (λ r. f ∷ r) (put_at-new name bytes fs (sym (cond-false _ _ _ e) ∙ h))
    ]
