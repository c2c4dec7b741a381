use Rattle.std.proofs.Common.{◌≤◌, length, map, refl, subst, arith}
use Rattle.std.proofs.lemmas.List.{length-map}
use Rattle.std.specs.String.{string_bytes}
use Rattle.extract_interface.specs.Asked.{HasMethod}
use Rattle.extract_interface.proofs.Firsts.{each_all, each_next}
use Rattle.extract_interface.proofs.Lists.{map_at}
use Rattle.extract_interface.proofs.methods.has_all.Goals as goal

pub loop-word-preserved : goal.loop-word-preserved
loop-word-preserved c =
    let Has = HasMethod c.args.w.now c.args.names.now c.args.methods.now in
    let words = map string_bytes c.args.words.now in
    let word = c.word-item.result in
    let at = map_at string_bytes c.args.words.now c.loop-word.word-index word c.loop-word-test.true c.word-item.is in
    each_next Has words c.loop-word.word-index (string_bytes word) at (subst Has c.as_str.ensures.value (c.has_method.ensures.0 c.if-not-has_method.false)) c.loop-word.invariant

pub returns : goal.returns
returns c =
    let words = map string_bytes c.args.words.now in
    let all : length words ≤ c.loop-word.word-index = omega (arith, length-map c.args.words.now string_bytes, c.loop-word-test.false) in
    (λ _. each_all (HasMethod c.args.w.now c.args.names.now c.args.methods.now) words c.loop-word.word-index all c.loop-word.invariant, λ _. refl)
