use Rattle.std.proofs.Common.{map, take, sym, ap, ◌∙◌}
use Rattle.std.specs.List.{find}
use Rattle.std.specs.Option.{option_map}
use Rattle.std.proofs.lemmas.List.{take-map}
use Rattle.java_core.specs.Plain.{Class}
use Rattle.java_core.specs.View.{file_plain}
use Rattle.core_meaning.specs.Code.{classes_of}
use Rattle.core_meaning.specs.Runs.{is_named, user_classes}
use Rattle.program_runs.proofs.Found.{main_of_found}
use Rattle.program_runs.proofs.classes.main_class.Goals as goal

pub returns : goal.returns
returns c k i =
    let p = is_named k c.args.name.now in
    let users = c.args.users in
    let files = ap (map file_plain) (c.first_files-files.ensures ∙ ap (take users) c.as_slice.ensures) ∙ sym (take-map file_plain users c.args.g.now.core.now.files)
    ∙ sym (ap (λ x. take users x.files) i.core) in
    c.with_main.ensures k i ∙ main_of_found k (find p (user_classes k users)) c.named_in.result (c.named_in.ensures k i ∙ ap (λ fs. option_map (λ (x : Class). x.number) (find p (classes_of fs))) files)
