use Rattle.std.proofs.Common.{map, refl, sym}
use Rattle.std.specs.String.{string_bytes}
use Rattle.java_tree.specs.View.{unit_plain}
use Rattle.refactor_app.specs.Asked.{extract_of}
use Rattle.refactor_app.proofs.Courses.{map_length}
use Rattle.refactor_app.proofs.Decisions.{extract_decided}
use Rattle.refactor_app.proofs.extract.extraction.Goals as goal

pub returns : goal.returns
returns c =
    extract_decided c.verdict_of.result (extract_of c.args.q.now) c.args.texts.now c.args.table.now (map unit_plain c.args.units.now) c.args.declared.now.world c.args.checked.now _ _ c.in_ok-answer.answer
    (record { has_texts = refl; has_units = refl; has_users = sym (map_length string_bytes c.args.q.now.inputs.users.now); has_names = refl; has_core = refl; has_operations = c.as_slice.ensures })
    (record { class = refl; name = refl; methods = refl; files = c.requires.names }) c.in_ok-answer.ensures c.verdict_of.ensures
