use Rattle.std.proofs.Common.{◌≡◌, ℕ, IfOk, List, length, map, take, inl, inr, refl, sym, ◌∙◌, ap, subst, arith}
use Rattle.std.specs.String.{string_bytes}
use Rattle.java_tree.specs.Names.{IsTable, built_in_names}
use Rattle.java_tree.specs.View.{unit_plain}
use Rattle.java_tree.specs.declared.tree.SourceUnit.{SourceUnit}
use Rattle.built_in_types.specs.BuiltIns.{with_words}
use Rattle.source_files.specs.Trees.{AreTrees}
use Rattle.refactor_app.specs.Asked.{task_files}
use Rattle.checked_files.specs.Declarations.{IsBroken}
use Rattle.refactor_app.specs.Declarations.{broken_line}
use Rattle.checked_files.specs.Judged.{AreDeclaredAs}
use Rattle.refactor_app.specs.Words.{Files}
use Rattle.refactor_app.specs.Course as way
use Rattle.refactor_app.specs.Refusals as refusal
use Rattle.checked_files.proofs.Held.{held_small}
use Rattle.refactor_app.proofs.Courses.{map_length, users_within, made}
use Rattle.checked_files.proofs.Tables.{words_table, names_few}
use Rattle.refactor_app.proofs.Tables.{front_taken, front_long, built_in_first}
use Rattle.refactor_app.proofs.call.on_trees.Goals as goal

pub judge_declarations-requires-clause-users : goal.judge_declarations-requires-clause-users
judge_declarations-requires-clause-users g c =
    let users = users_within _ (task_files c.args.task.now) c.args.texts.now _ _ c.requires.held c.requires.trees.0 in
    let many = map_length unit_plain c.args.parsed.units in
    let all = map_length string_bytes c.inputs.result.users.now in
    let same = ap (λ (fs : Files). length fs.users) c.inputs.ensures in
    let slice = ap length c.as_slice.ensures in
    omega (arith, users, many, all, same, slice)

pub judge_declarations-requires-clause-few : goal.judge_declarations-requires-clause-few
judge_declarations-requires-clause-few g c = let few = names_few _ _ _ c.requires.trees.0 in omega (arith, few)

pub on_declared-requires-clause-table : goal.on_declared-requires-clause-table
on_declared-requires-clause-table g c = subst IsTable (sym c.in-Ok.ensures.table) (words_table c.args.parsed.names c.requires.trees.1)

pub on_declared-requires-clause-within : goal.on_declared-requires-clause-within
on_declared-requires-clause-within g c = let long = front_long _ _ c.in-Ok.ensures.kept in omega (arith, long)

pub on_declared-requires-clause-built_in : goal.on_declared-requires-clause-built_in
on_declared-requires-clause-built_in g c = let first = built_in_first _ c.requires.trees.1 in omega (arith, first)

pub on_declared-requires-clause-trees : goal.on_declared-requires-clause-trees
on_declared-requires-clause-trees g c =
    let same = ap (λ (n : ℕ). take n c.judge_declarations.new.names) c.len-count.ensures.value ∙ front_taken c.args.parsed.names c.judge_declarations.new.names c.in-Ok.ensures.kept in
    subst (λ (ns : List (List ℕ)). AreTrees built_in_names 0 0 c.args.texts.now (map unit_plain c.args.parsed.units) ns) (sym same) c.requires.trees.0

pub on_declared-requires-clause-words : goal.on_declared-requires-clause-words
on_declared-requires-clause-words g c =
    let same = ap (λ (n : ℕ). take n c.judge_declarations.new.names) c.len-count.ensures.value ∙ front_taken c.args.parsed.names c.judge_declarations.new.names c.in-Ok.ensures.kept in
    c.in-Ok.ensures.table ∙ ap with_words (sym same)

pub on_declared-requires-clause-declared : goal.on_declared-requires-clause-declared
on_declared-requires-clause-declared g c =
    let same = ap (λ (n : ℕ). take n c.judge_declarations.new.names) c.len-count.ensures.value ∙ front_taken c.args.parsed.names c.judge_declarations.new.names c.in-Ok.ensures.kept in
    let users = sym (map_length string_bytes c.inputs.result.users.now) ∙ ap (λ (fs : Files). length fs.users) c.inputs.ensures in
    let units = subst (λ (us : List SourceUnit). AreDeclaredAs (length c.inputs.result.users.now) c.args.parsed.names (map unit_plain us) c.in-Ok.declared) c.as_slice.ensures c.in-Ok.ensures.judged in
    let declared = subst (λ (n : ℕ). AreDeclaredAs n c.args.parsed.names (map unit_plain c.args.parsed.units) c.in-Ok.declared) users units in
    subst (λ (ns : List (List ℕ)). AreDeclaredAs (length (task_files c.args.task.now).users) ns (map unit_plain c.args.parsed.units) c.in-Ok.declared) (sym same) declared

pub broken_line-line-requires : goal.broken_line-line-requires
broken_line-line-requires g c = record { small = held_small _ 0 _ c.args.texts.now c.requires.held }

pub returns-in-Ok : goal.returns-in-Ok
returns-in-Ok g c words asks few = c.on_declared.ensures words asks few

pub returns-in-Err-Broken : goal.returns-in-Err-Broken
returns-in-Err-Broken g c words asks few =
    let fs = task_files c.args.task.now in
    let users = sym (map_length string_bytes c.inputs.result.users.now) ∙ ap (λ (fs : Files). length fs.users) c.inputs.ensures in
    let judged = rw c.in-Err-Broken.field-0-is at c.in-Err-Broken.ensures.judged in
    let named = subst (λ (us : List SourceUnit). IsBroken (length c.inputs.result.users.now) c.args.parsed.names (map unit_plain us) c.in-Err-Broken.broken) c.as_slice.ensures judged in
    let broken = subst (λ (n : ℕ). IsBroken n c.args.parsed.names (map unit_plain c.args.parsed.units) c.in-Err-Broken.broken) users named in
    let line = subst (λ (us : List SourceUnit). IfOk c.broken_line-line.result (λ r. string_bytes r ≡ broken_line fs c.args.texts.now (map unit_plain us) c.in-Err-Broken.broken))
    c.as_slice-in-Err-Broken.ensures (c.broken_line-line.ensures fs (sym c.requires.names)) in
    elim (made c.broken_line-line.result _ _ _ _ _ _ _ line c.put_made.ensures.put c.put_made.ensures.none) [
      | inl ends ↦
          way.Course.refuses (refusal.Refusal.declared fs c.args.texts.now c.args.parsed.names _ c.in-Err-Broken.broken
          (record { read = record { asks = few; held = c.requires.held }; trees = c.requires.trees.0 }) broken) refl ends
      | inr none ↦ way.Course.no_memory refl none.1 none.0
    ]
