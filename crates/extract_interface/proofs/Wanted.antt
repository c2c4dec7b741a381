-- Those of the methods that are wanted.
use Rattle.std.proofs.Common.{ℕ, List, [], ◌∷◌, ◌++◌, append_assoc, append-nil, inl, inr, refl, subst, sym}
use Rattle.class_world.specs.declared.world.World.{World}
use Rattle.extract_interface.specs.Asked.{AreWanted, IsWanted}

module _ (w : World) (names words : List (List ℕ)) where
  -- with the wanted ones of the rest, these are those of all
  abbrev pub AreSoFar : (all rest found : List ℕ) → Type 0
  AreSoFar all rest found = (js : List ℕ) → AreWanted w names words rest js → AreWanted w names words all (found ++ js)

  pub with_next : (all rest found : List ℕ) (m : ℕ) → IsWanted w names words m → AreSoFar all (m ∷ rest) found → AreSoFar all rest (found ++ m ∷ [])
  with_next all rest found m wanted so js h =
      subst (AreWanted w names words all) (sym (append_assoc found (m ∷ []) js)) (so (m ∷ js) (inl (wanted, (js, refl, h))))

  pub without_next : (all rest found : List ℕ) (m : ℕ) → (IsWanted w names words m → ⊥) → AreSoFar all (m ∷ rest) found → AreSoFar all rest found
  without_next all rest found m not so js h = so js (inr (not, h))

  pub so_all : (all found : List ℕ) → AreSoFar all [] found → AreWanted w names words all found
  so_all all found so = subst (AreWanted w names words all) (append-nil found) (so [] refl)
