-- The table of names that the identifiers of a text leave.
use Rattle.std.specs.Prelude.{ℕ, List, [], ◌∷◌}
use Rattle.java_tree.specs.Names.{with_text}
use Rattle.java_tree.specs.declared.tree.Token.{Token}
use Rattle.java_tree.specs.declared.tree.Kind.{Kind}
use Rattle.java_tree.specs.declared.tree.Kind.TheVariants as kind
use Rattle.java_grammar.specs.Sorts.{bytes_in}

-- an identifier comes to the end, if it is new
abbrev pub with_word : Kind → List ℕ → List (List ℕ) → List (List ℕ)
with_word kind.Word w names = with_text w names
with_word _ w names = names

-- the table with all identifiers, in order of first sight
abbrev pub interned : List ℕ → List Token → List (List ℕ) → List (List ℕ)
interned text [] names = names
interned text (x ∷ xs) names = interned text xs (with_word x.kind (bytes_in text x.span) names)
