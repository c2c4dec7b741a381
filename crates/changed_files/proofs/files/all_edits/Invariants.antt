use Rattle.std.proofs.Common.{◌≡◌, List, ◌++◌, length, drop, map}
use Rattle.std.specs.Option.{option_map}
use Rattle.java_tree.specs.declared.tree.Token.{Token}
use Rattle.java_tree.specs.View.{unit_plain}
use Rattle.changed_files.specs.NewFiles.{AreTokens, all_edits}
use Rattle.changed_files.proofs.files.all_edits.Given as goal

-- the edits so far and those of the files that are left are those of all
abbrev pub invariant-loop-file : goal.invariant-loop-file
invariant-loop-file l = record {
  edits : (tss : List (List Token)) → AreTokens l.texts tss
      → option_map (λ ess. l.all ++ ess) (all_edits (drop l.file l.texts) (drop l.file tss) (map unit_plain (drop l.file l.units)) (drop l.file l.sees) (drop l.file l.heads) l.name l.full_name)
      ≡ all_edits l.texts tss (map unit_plain l.units) l.sees l.heads l.name l.full_name;
  count : length l.all ≡ l.file;
}
