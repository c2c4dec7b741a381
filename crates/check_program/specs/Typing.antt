-- The core of a program, or the first of T1 to T60 that it breaks.
use Rattle.std.specs.Prelude.{ℕ, ◌+◌, List, [], ◌∷◌, length, slice_get}
use Rattle.java_tree.specs.Plain as t
use Rattle.java_core.specs.Plain as p
use Rattle.checked.specs.Checked.{Checked, Fine, Broken, and_then, also}
use Rattle.type_facts.specs.Facts.{Facts}
use Rattle.check_program.specs.Classes.{class_of}

-- the types of a file, of which the first has the number c
abbrev pub classes_of : Facts → (number : ℕ) → List t.TypeDecl → Checked (List p.Class)
classes_of f c [] = Fine []
classes_of f c (d ∷ ds) = and_then (class_of f c d (slice_get f.world.types c)) (λ x. also x (classes_of f (c + 1) ds))

abbrev pub file_of : Facts → (number : ℕ) → t.SourceUnit → Checked p.File
file_of f c u = and_then (classes_of f c u.types) (λ xs. Fine (record { classes = xs }))

-- of the files from the k-th on, each by its own facts
abbrev pub files_of : (ℕ → Facts) → (file number : ℕ) → List t.SourceUnit → Checked (List p.File)
files_of fs k c [] = Fine []
files_of fs k c (u ∷ us) = and_then (file_of (fs k) c u) (λ x. also x (files_of fs (k + 1) (c + length u.types) us))

-- user files before library files; the first declared type stands behind the 19 built-in ones
abbrev pub program : (ℕ → Facts) → List t.SourceUnit → Checked p.Program
program fs us = and_then (files_of fs 0 19 us) (λ xs. Fine (record { files = xs }))
