-- Texts that names hold: as many as there are names, and none of them too large.
use Rattle.std.proofs.Common.{◌≡◌, ℕ, suc, ◌+◌, List, [], ◌∷◌, length, Option, sym, ap, subst}
use Rattle.tool_files.specs.Told.{Look}
use Rattle.source_files.specs.Held.{AreHeld, AreSmall}

pub held_long : (look : Option Look) (before : ℕ) (names texts : List (List ℕ)) → AreHeld look before names texts → length names ≡ length texts
held_long look before [] texts h = sym (ap length h)
held_long look before (n ∷ ns) [] h = absurd h
held_long look before (n ∷ ns) (x ∷ xs) (is, room, more) = ap suc (held_long look (before + length x) ns xs more)

pub held_small : (look : Option Look) (before : ℕ) (names texts : List (List ℕ)) → AreHeld look before names texts → AreSmall texts
held_small look before [] texts h = subst AreSmall (sym h) tt
held_small look before (n ∷ ns) [] h = absurd h
held_small look before (n ∷ ns) (x ∷ xs) (is, room, more) = (room.0, held_small look (before + length x) ns xs more)
