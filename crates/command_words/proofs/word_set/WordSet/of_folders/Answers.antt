use Rattle.std.proofs.Common.{◌≡◌, ◌∷◌, [], ◌++◌, List, ℕ, map, take, get_or, sym, ap, ◌∙◌}
use Rattle.std.specs.String.{string_bytes}
use Rattle.command_words.specs.Names.{is_among, folder_of}
use Rattle.command_words.proofs.Sets.{grown, one_more, all_taken}
use Rattle.command_words.proofs.word_set.WordSet.of_folders.Goals as goal

pub loop-file-preserved : goal.loop-file-preserved
loop-file-preserved c w =
    let item : List ℕ = folder_of (string_bytes (get_or c.args.files.now c.loop-file.file-index c.file-item.result)) in
    let is : c.folder.result.now ≡ item = c.folder.ensures ∙ ap folder_of (c.as_bytes.ensures.value ∙ ap string_bytes c.file-item.is) in
    let front : List (List ℕ) = map (λ file. folder_of (string_bytes file)) (take c.loop-file.file-index c.args.files.now) in
    grown c.loop-file.set c.insert.new.self front c.folder.result.now c.loop-file.invariant c.in_ok-insert.ensures.table w
    ∙ ap (λ t. is_among w (front ++ t ∷ [])) is ∙ ap (is_among w) (sym (one_more (λ file. folder_of (string_bytes file)) c.args.files.now c.loop-file.file-index c.file-item.result c.loop-file-test.true))

pub returns : goal.returns
returns c w = c.loop-file.invariant w ∙ ap (λ ws. is_among w (map (λ file. folder_of (string_bytes file)) ws)) (all_taken c.args.files.now c.loop-file.file-index c.loop-file-test.false)
