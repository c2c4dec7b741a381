-- The headers of all declarations are those of one file behind those of the other.
use Rattle.std.proofs.Common.{◌≡◌, ℕ, ◌+◌, List, [], ◌∷◌, ◌++◌, map, flat_map, refl, sym, ap, ◌∙◌, append_assoc}
use Rattle.std.proofs.lemmas.Grind.{flat_map-append}
use Rattle.std.proofs.lemmas.List.{map-append}
use Rattle.java_tree.specs.Plain.{TypeDecl}
use Rattle.class_world.specs.declared.world.TypeInfo.{TypeInfo}
use Rattle.type_names.specs.Known.{File}
use Rattle.type_headers.specs.Declared.{declarations_from, header, headers}
use Rattle.type_headers.specs.Files.{headers_in}

-- no header has its file's number
unnumbered : (f : File) (i : ℕ) (ds : List TypeDecl)
    → map header (map (λ d. record { file = f; number = i; decl = d }) ds) ≡ map (λ d. header (record { file = f; number = 0; decl = d })) ds
unnumbered f i [] = refl
unnumbered f i (d ∷ ds) = ap (λ infos. header (record { file = f; number = 0; decl = d }) ∷ infos) (unnumbered f i ds)

by_file : (i : ℕ) (fs : List File) → map header (declarations_from i fs) ≡ flat_map headers_in fs
by_file i [] = refl
by_file i (f ∷ fs) =
    map-append header (map (λ d. record { file = f; number = i; decl = d }) f.unit.types) (declarations_from (i + 1) fs)
    ∙ ap (λ infos. infos ++ map header (declarations_from (i + 1) fs)) (unnumbered f i f.unit.types)
    ∙ ap (λ infos. headers_in f ++ infos) (by_file (i + 1) fs)

pub listed : (built first all : List TypeInfo) (user lib : List File) → first ≡ built ++ flat_map headers_in user → all ≡ first ++ flat_map headers_in lib
    → all ≡ headers built (user ++ lib)
listed built first all user lib one two =
    two ∙ ap (λ infos. infos ++ flat_map headers_in lib) one ∙ append_assoc built (flat_map headers_in user) (flat_map headers_in lib)
    ∙ ap (λ infos. built ++ infos) (sym (flat_map-append headers_in user lib) ∙ sym (by_file 0 (user ++ lib)))
