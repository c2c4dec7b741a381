use Rattle.std.proofs.Common.{◌≡◌, ℕ, ◌≤◌, List, length, map, refl, sym, subst, ◌∙◌, arith}
use Rattle.std.proofs.lemmas.List.{length-map}
use Rattle.std.specs.Prelude.{Contains}
use Rattle.std.specs.String.{string_bytes}
use Rattle.std.proofs.lemmas.Bool.{true≢false}
use Rattle.extract_interface.proofs.Firsts.{each_all, each_next, one_at}
use Rattle.extract_interface.proofs.Lists.{map_at}
use Rattle.extract_interface.proofs.declared.is_file.Goals as goal

pub returns-then-is_text : goal.returns-then-is_text
returns-then-is_text c =
    let names = map string_bytes c.args.files.now in
    let file = c.file-item.result in
    let there = one_at names c.loop-file.file-index (string_bytes file) (map_at string_bytes c.args.files.now c.loop-file.file-index file c.loop-file-test.true c.file-item.is) in
    (λ _. subst (Contains names) (c.is_text.ensures.0 c.if-is_text.true) there, λ _. refl)

pub loop-file-preserved : goal.loop-file-preserved
loop-file-preserved c =
    let names = map string_bytes c.args.files.now in
    let file = c.file-item.result in
    let at = map_at string_bytes c.args.files.now c.loop-file.file-index file c.loop-file-test.true c.file-item.is in
    each_next (λ (name : List ℕ). name ≡ c.args.name.now → ⊥) names c.loop-file.file-index (string_bytes file) at (λ p. true≢false (sym (c.is_text.ensures.1 p) ∙ c.if-is_text.false)) c.loop-file.invariant

pub returns : goal.returns
returns c =
    let names = map string_bytes c.args.files.now in
    let all : length names ≤ c.loop-file.file-index = omega (arith, length-map c.args.files.now string_bytes, c.loop-file-test.false) in (
      λ never. absurd (true≢false (sym never)),
      λ h. absurd (each_all (λ (name : List ℕ). name ≡ c.args.name.now → ⊥) names c.loop-file.file-index all c.loop-file.invariant c.args.name.now h refl),
    )
