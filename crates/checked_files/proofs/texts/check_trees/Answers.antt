use Rattle.std.proofs.Common.{List, length, map, Err, ap, subst, arith}
use Rattle.std.proofs.lemmas.List.{length-map}
use Rattle.java_tree.specs.View.{unit_plain}
use Rattle.java_tree.specs.declared.tree.SourceUnit.{SourceUnit}
use Rattle.checked_files.specs.Judged.{AreDeclaredAs, AreJudged}
use Rattle.checked_files.proofs.Tables.{trees_long, names_few}
use Rattle.checked_files.proofs.texts.check_trees.Goals as goal

pub judge_declarations-requires-clause-users : goal.judge_declarations-requires-clause-users
judge_declarations-requires-clause-users c =
    let long = trees_long _ 0 0 _ _ _ c.requires.trees.0 in
    let many = length-map c.args.parsed.units unit_plain in
    let slice = ap length c.as_slice.ensures in
    omega (arith, long, many, slice)

pub judge_declarations-requires-clause-few : goal.judge_declarations-requires-clause-few
judge_declarations-requires-clause-few c = let few = names_few _ _ _ c.requires.trees.0 in omega (arith, few)

pub check_declared-requires-clause-users : goal.check_declared-requires-clause-users
check_declared-requires-clause-users c =
    let long = trees_long _ 0 0 _ _ _ c.requires.trees.0 in
    let many = length-map c.args.parsed.units unit_plain in
    omega (arith, long, many)

pub check_declared-requires-clause-declared : goal.check_declared-requires-clause-declared
check_declared-requires-clause-declared c = record {
  names = c.args.parsed.names;
  read = record { trees = c.requires.trees.0; table = c.requires.trees.1 };
  words = c.in-Ok.ensures.table;
  declared = subst (λ (us : List SourceUnit). AreDeclaredAs c.args.users c.args.parsed.names (map unit_plain us) c.in-Ok.declared) c.as_slice.ensures c.in-Ok.ensures.judged;
}

pub returns-in-Err-clause-checked : goal.returns-in-Err-clause-checked
returns-in-Err-clause-checked c = (
  map unit_plain c.args.parsed.units,
  c.args.parsed.names,
  record { trees = c.requires.trees.0; table = c.requires.trees.1 },
  subst (λ (us : List SourceUnit). AreJudged c.args.users c.args.parsed.names (map unit_plain us) (Err c.in-Err.fault)) c.as_slice.ensures c.in-Err.ensures.judged,
)
