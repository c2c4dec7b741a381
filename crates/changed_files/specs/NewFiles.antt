-- The new files of a program in which heads of types become the name of another type.
use Rattle.std.specs.Prelude.{◌≡◌, ℕ, Bool, List, [], ◌∷◌, length, Option, Some, None}
use Rattle.std.specs.Option.{option_map, option_and_then}
use Rattle.java_tree.specs.declared.tree.Span.{Span}
use Rattle.java_tree.specs.declared.tree.Token.{Token}
use Rattle.java_tree.specs.Plain.{SourceUnit}
use Rattle.java_lexer.specs.Lexing.{Lexes}
use Rattle.edit_writer.specs.declared.edits.Edit.{Edit}
use Rattle.edit_writer.specs.Edits.{AreOrdered, edited}
use Rattle.changed_files.specs.declared.files.NewFiles.{NewFiles}
use Rattle.changed_files.specs.FileEdits.{file_edits}

-- each text has these tokens
abbrev pub AreTokens : List (List ℕ) → List (List Token) → Type 0
AreTokens [] tss = tss ≡ []
AreTokens (x ∷ xs) [] = ⊥
AreTokens (x ∷ xs) (ts ∷ tss) = Lexes x ts × AreTokens xs tss

-- the edits of a file in front of those of others, if all can be made
abbrev pub onto : Option (List Edit) → Option (List (List Edit)) → Option (List (List Edit))
onto es ess = option_and_then (λ e. option_map (λ rest. e ∷ rest) ess) es

-- the edits of each file
abbrev pub all_edits : (texts : List (List ℕ)) → List (List Token) → List SourceUnit → (sees : List Bool) → (heads : List (List Span)) → (name full_name : List ℕ) → Option (List (List Edit))
all_edits (x ∷ xs) (ts ∷ tss) (u ∷ us) (b ∷ bs) (hs ∷ hss) name full_name = onto (file_edits x ts u b hs name full_name) (all_edits xs tss us bs hss name full_name)
all_edits _ _ _ _ _ name full_name = Some []

-- the edits of each text are in order and within it
abbrev pub AreAllOrdered : List (List Edit) → List (List ℕ) → Type 0
AreAllOrdered [] xs = Unit {0}
AreAllOrdered (es ∷ ess) [] = ⊥
AreAllOrdered (es ∷ ess) (x ∷ xs) = AreOrdered 0 es (length x) × AreAllOrdered ess xs

abbrev pub all_edited : List (List Edit) → List (List ℕ) → List (List ℕ)
all_edited (es ∷ ess) (x ∷ xs) = edited es x ∷ all_edited ess xs
all_edited _ _ = []

-- What these edits make of the texts, each text with its own. They make nothing where those of one text are not in order.
abbrev pub IsMade : List (List ℕ) → List (List Edit) → Option NewFiles → Type 0
IsMade texts edits (Some new) = (new.edits ≡ edits) × AreAllOrdered edits texts × (new.texts ≡ all_edited edits texts)
IsMade texts edits None = AreAllOrdered edits texts → ⊥

-- the new files, if there are edits of each
abbrev pub AreMade : List (List ℕ) → Option (List (List Edit)) → Option NewFiles → Type 0
AreMade texts (Some edits) new = IsMade texts edits new
AreMade texts None new = new ≡ None

-- the new files of texts with these tokens and trees
abbrev pub AreNew : List (List ℕ) → List (List Token) → List SourceUnit → List Bool → List (List Span) → List ℕ → List ℕ → Option NewFiles → Type 0
AreNew texts tokens units sees heads name full_name new = AreMade texts (all_edits texts tokens units sees heads name full_name) new
