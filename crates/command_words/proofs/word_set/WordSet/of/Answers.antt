use Rattle.std.proofs.Common.{◌≡◌, ◌∷◌, [], ◌++◌, List, ℕ, map, take, get_or, sym, ap, ◌∙◌}
use Rattle.std.specs.String.{string_bytes}
use Rattle.command_words.specs.Names.{is_among}
use Rattle.command_words.proofs.Sets.{grown, one_more, all_taken}
use Rattle.command_words.proofs.word_set.WordSet.of.Goals as goal

pub loop-word-preserved : goal.loop-word-preserved
loop-word-preserved c w =
    let item : List ℕ = string_bytes (get_or c.args.words.now c.loop-word.word-index c.word-item.result) in
    let is : c.as_bytes.result.now ≡ item = c.as_bytes.ensures.value ∙ ap string_bytes c.word-item.is in
    let front : List (List ℕ) = map string_bytes (take c.loop-word.word-index c.args.words.now) in
    grown c.loop-word.set c.insert.new.self front c.as_bytes.result.now c.loop-word.invariant c.in_ok-insert.ensures.table w
    ∙ ap (λ t. is_among w (front ++ t ∷ [])) is ∙ ap (is_among w) (sym (one_more string_bytes c.args.words.now c.loop-word.word-index c.word-item.result c.loop-word-test.true))

pub returns : goal.returns
returns c w = c.loop-word.invariant w ∙ ap (λ ws. is_among w (map string_bytes ws)) (all_taken c.args.words.now c.loop-word.word-index c.loop-word-test.false)
