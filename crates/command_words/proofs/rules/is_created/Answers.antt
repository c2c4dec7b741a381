use Rattle.command_words.proofs.RuleLemmas.{created_is, not_created}
use Rattle.command_words.proofs.rules.is_created.Goals as goal

pub returns-in-Some-folder_in : goal.returns-in-Some-folder_in
returns-in-Some-folder_in c =
    created_is c.args.out.now c.args.new_name.now c.args.name.now c.in-Some.rest.now c.in-Some-folder_in.folder.now c.args.folders.now c.contains.result
    c.in-Some.ensures.some c.in-Some-folder_in.ensures.some c.contains.ensures

pub returns-in-None-folder_in : goal.returns-in-None-folder_in
returns-in-None-folder_in c = not_created c.args.out.now c.args.new_name.now c.args.name.now c.in-Some.rest.now c.args.folders.now c.in-Some.ensures.some c.in-None-folder_in.ensures.none
