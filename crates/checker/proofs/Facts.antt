-- What is so in the files of a program is what the questions of its check are asked by.
use Rattle.std.proofs.Common.{◌≡◌, ◌<◌, ◌+◌, ℕ, true, false, List, ◌++◌, length, map, ap, sym, subst, ◌∙◌}
use Rattle.std.proofs.lemmas.List.{length-append, length-map, map-append}
use Rattle.java_tree.specs.declared.tree.SourceUnit.{SourceUnit}
use Rattle.java_tree.specs.View.{unit_plain}
use Rattle.java_tree.specs.Plain as t
use Rattle.built_in_types.specs.declared.words.Word.TheVariants.{Length}
use Rattle.built_in_types.specs.BuiltIns.{name_of}
use Rattle.type_names.specs.Known.{File, files_of}
use Rattle.type_names.specs.Tables.{StandsFor}
use Rattle.decl_table.specs.Judged.{IsProgram}
use Rattle.decl_table.specs.Program.{Program, files, java}
use Rattle.type_facts.specs.declared.questions.Questions.{Questions}
use Rattle.type_facts.specs.Facts.{Facts}
use Rattle.unchecked_ops.specs.Programs.{AreFileFacts}
use Rattle.checker.specs.Checking.{AreAllFacts}

abbrev is_user : t.SourceUnit → File
is_user u = record { unit = u; user = true }

abbrev is_lib : t.SourceUnit → File
is_lib u = record { unit = u; user = false }

count : (us ls : List t.SourceUnit) → length (files_of us ls) ≡ length us + length ls
count us ls =
    length-append (map is_user us) (map is_lib ls)
    ∙ ap (λ n. n + length (map is_lib ls)) (length-map us is_user)
    ∙ ap (λ n. length us + n) (length-map ls is_lib)

module _ (p : Program) (q : Questions) (names : List (List ℕ)) (us ls : List SourceUnit) (is : IsProgram names (map unit_plain us) (map unit_plain ls) p) where
  -- the files of the program are these
  pub are_files : p.user ++ p.lib ≡ map unit_plain (us ++ ls)
  are_files = ap (λ u. u ++ p.lib) is.0 ∙ ap (λ l. map unit_plain us ++ l) is.1 ∙ sym (map-append unit_plain us ls)

  many : length (us ++ ls) ≡ length (files p)
  many =
      length-append us ls
      ∙ ap (λ n. n + length ls) (sym (length-map us unit_plain)) ∙ ap (λ n. length (map unit_plain us) + n) (sym (length-map ls unit_plain))
      ∙ sym (count (map unit_plain us) (map unit_plain ls))
      ∙ ap (λ u. length (files_of u (map unit_plain ls))) (sym is.0) ∙ ap (λ l. length (files_of p.user l)) (sym is.1)

  module _ (stands : StandsFor q.names.now (java p) (files_of (map unit_plain us) (map unit_plain ls))) (named : q.length_name ≡ name_of p.words Length) (fs : ℕ → Facts) where
    of_program : StandsFor q.names.now (java p) (files p)
    of_program =
        subst (λ (l : List t.SourceUnit). StandsFor q.names.now (java p) (files_of p.user l)) (sym is.1)
        (subst (λ (u : List t.SourceUnit). StandsFor q.names.now (java p) (files_of u (map unit_plain ls))) (sym is.0) stands)

    pub are_asked : AreAllFacts p q.world.now fs → AreFileFacts q (length (us ++ ls)) fs
    are_asked all k within =
        let x = all k (subst (λ n. k < n) many within) in
        record {
          world = x.world;
          length_name = x.length_name ∙ sym named;
          java = java p;
          files = files p;
          file = x.file;
          stands = of_program;
          at = x.at;
          mean = x.mean;
          fits = x.fits;
          sub = x.sub;
          unchecked = x.unchecked;
          castable = x.castable;
          super_as = x.super_as;
          field = x.field;
          methods = x.methods;
          sees = x.sees;
        }
