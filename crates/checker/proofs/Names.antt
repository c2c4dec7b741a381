-- A table in which no text has two numbers has one name for each word.
use Rattle.std.proofs.Common.{◌≡◌, ℕ, List, Option, Some, ap, sym, ◌∙◌}
use Rattle.std.specs.Prelude.{slice_get, unwrap_or}
use Rattle.java_tree.specs.declared.tree.Name.{Name}
use Rattle.java_tree.specs.Names.{AreDistinct}
use Rattle.built_in_types.specs.declared.words.Words.{Words}
use Rattle.built_in_types.specs.declared.words.Word.{Word}
use Rattle.built_in_types.specs.BuiltIns.{AreWords, name_of, place, texts}

pub there_is : (names : List (List ℕ)) (w : Words) (k : ℕ) (text : List ℕ) → AreWords names w → slice_get texts k ≡ Some text → (n : ℕ) × (slice_get names n ≡ Some text)
there_is names w k text a at =
    let x = a.1 k text at in
    (x.0.0, x.2)

pub is_word : (names : List (List ℕ)) (w : Words) (word : Word) (text : List ℕ) (n : Name) → AreDistinct names → AreWords names w → slice_get texts (place word) ≡ Some text
    → slice_get names n.0 ≡ Some text → n ≡ name_of w word
is_word names w word text n d a at is =
    let x = a.1 (place word) text at in
    let same : n.0 ≡ x.0.0 = d n.0 x.0.0 text is x.2 in
    let here : name_of w word ≡ x.0 = ap (λ (o : Option Name). unwrap_or o (record { 0 = 0 })) x.1 in
    ap (λ (k : ℕ). record { 0 = k }) same ∙ sym here
