-- The classes of user files with a name.
use Rattle.std.proofs.Common.{◌≡◌, ℕ, List, true, false}
use Rattle.class_world.specs.declared.world.TypeInfo.{TypeInfo}
use Rattle.interface_text.specs.Names.{text_of}

abbrev pub IsNamedClass : (names : List (List ℕ)) → (word : List ℕ) → TypeInfo → Type 0
IsNamedClass names word i = (i.user ≡ true) × (i.interface ≡ false) × (text_of names i.name ≡ word)
