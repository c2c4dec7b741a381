use Rattle.std.proofs.Common.{ℕ, ◌≤◌, List, length, map, sym, subst, ◌∙◌, arith}
use Rattle.std.proofs.lemmas.List.{length-map}
use Rattle.std.specs.String.{string_bytes}
use Rattle.std.proofs.lemmas.Bool.{true≢false}
use Rattle.type_kinds.specs.Members.{method_at}
use Rattle.extract_interface.specs.Asked.{IsNamed}
use Rattle.extract_interface.proofs.Firsts.{each_all, each_next}
use Rattle.extract_interface.proofs.Lists.{map_at}
use Rattle.extract_interface.proofs.methods.is_wanted.Goals as goal

pub loop-word-preserved : goal.loop-word-preserved
loop-word-preserved c =
    let info = method_at c.args.w.now c.args.method in
    let words = map string_bytes c.args.words.now in
    let word = c.word-item.result in
    let at = map_at string_bytes c.args.words.now c.loop-word.word-index word c.loop-word-test.true c.word-item.is in
    each_next (λ (word : List ℕ). IsNamed c.args.names.now word info → ⊥) words c.loop-word.word-index (string_bytes word) at
    (λ p. true≢false (sym (c.is_named.ensures.1 (subst (λ (word : List ℕ). IsNamed c.args.names.now word info) (sym c.as_str.ensures.value) p)) ∙ c.if-is_named.false)) c.loop-word.invariant

pub returns : goal.returns
returns c =
    let info = method_at c.args.w.now c.args.method in
    let words = map string_bytes c.args.words.now in
    let all : length words ≤ c.loop-word.word-index = omega (arith, length-map c.args.words.now string_bytes, c.loop-word-test.false) in (
      λ never. absurd (true≢false (sym never)),
      λ h. absurd (each_all (λ (word : List ℕ). IsNamed c.args.names.now word info → ⊥) words c.loop-word.word-index all c.loop-word.invariant h.0 h.1 h.2),
    )
