use Rattle.std.proofs.Common.{◌∙◌, ap, map}
use Rattle.command_words.specs.Names.{is_among, folder_of}
use Rattle.command_words.specs.Asked.{parts_in}
use Rattle.command_words.proofs.RuleLemmas.{creates_told, creates_some, folders_are}
use Rattle.command_words.proofs.rules.creates_no_input.Goals as goal

pub returns-then-not-none_is_created : goal.returns-then-not-none_is_created
returns-then-not-none_is_created c =
    creates_some c.args.out.now c.args.new_name.now c.in_ok-folders.folders (map folder_of (parts_in c.args.words.now).users) (parts_in c.args.words.now) c.none_is_created.result
    (λ w. c.in_ok-folders.ensures w ∙ ap (is_among w) (folders_are c.args.words.now.users.now)) c.none_is_created.ensures c.if-not-none_is_created.true

pub returns : goal.returns
returns c =
    creates_told c.args.out.now c.args.new_name.now c.in_ok-folders.folders (map folder_of (parts_in c.args.words.now).users) (parts_in c.args.words.now) c.none_is_created.result c.none_is_created-spared.result
    (λ w. c.in_ok-folders.ensures w ∙ ap (is_among w) (folders_are c.args.words.now.users.now)) c.none_is_created.ensures c.none_is_created-spared.ensures c.if-not-none_is_created.false
