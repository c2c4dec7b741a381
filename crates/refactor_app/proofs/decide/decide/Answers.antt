use Rattle.std.proofs.Common.{◌≡◌, ◌++◌, List, length, map, refl, sym, subst, arith}
use Rattle.std.specs.String.{string_bytes}
use Rattle.java_tree.specs.declared.tree.SourceUnit.{SourceUnit}
use Rattle.java_tree.specs.View.{unit_plain}
use Rattle.type_names.specs.Known.{files_of}
use Rattle.type_names.specs.Tables.{StandsFor}
use Rattle.type_facts.specs.declared.questions.Questions.{Questions}
use Rattle.unchecked_ops.specs.Programs.{AreFileFacts}
use Rattle.checker.proofs.Facts.{are_asked}
use Rattle.checked_files.proofs.Tables.{of_split}
use Rattle.refactor_app.specs.Asked.{request_of}
use Rattle.refactor_app.proofs.Courses.{map_length}
use Rattle.refactor_app.proofs.Decisions.{decided, whole}
use Rattle.refactor_app.proofs.Faults.{low_at}
use Rattle.refactor_app.proofs.decide.decide.Goals as goal

pub answered-requires-clause-file : goal.answered-requires-clause-file
answered-requires-clause-file c =
    let users = c.args.q.now.inputs.users.now in
    let low = low_at (map string_bytes users) c.in-Some.wish.file _ c.in-Some.ensures.file in
    let long = map_length string_bytes users in
    omega (arith, low, long, c.requires.users)

pub returns : goal.returns
returns c = λ p is.
    let us = c.split_at.result.0.now in
    let ls = c.split_at.result.1.now in
    let q : Questions = record { world = _; members = _; names = _; file = 0; length_name = c.length_name.result } in
    let program = of_split _ c.args.table.now c.args.units.now us ls p c.split_at.ensures.front c.split_at.ensures.back is in
    let stands = subst (λ j. StandsFor c.in_ok-meant.meant j (files_of (map unit_plain us) (map unit_plain ls))) (c.java_names.ensures p.words program.2) c.in_ok-meant.ensures in
    let all : us ++ ls ≡ c.args.units.now = whole _ c.args.units.now us ls c.split_at.ensures.front c.split_at.ensures.back in
    decided c.answered.result (request_of c.args.q.now) c.args.texts.now c.args.table.now (map unit_plain c.args.units.now) p c.args.declared.now.world c.args.checked.now _ c.in-Some.wish _
    (record { has_texts = refl; has_units = refl; has_users = sym (map_length string_bytes c.args.q.now.inputs.users.now); has_names = refl; has_core = refl; has_operations = c.as_slice.ensures })
    c.in-Some.ensures
    (λ fs facts. subst (λ (xs : List SourceUnit). AreFileFacts q (length xs) fs) all (are_asked p q c.args.table.now us ls program stands (c.length_name.ensures p.words program.2) fs facts))
    c.answered.ensures
