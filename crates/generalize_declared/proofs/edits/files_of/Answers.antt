use Rattle.std.proofs.Common.{◌≡◌, length, Some, slice_get, sym, ap, ◌∙◌, subst, arith}
use Rattle.unchecked_ops.specs.Programs.{AreFileFacts}
use Rattle.java_core.specs.declared.program.CoreFile.{CoreFile}
use Rattle.java_tree.specs.View.{unit_plain}
use Rattle.std.specs.Prelude.{◌==◌, List, map}
use Rattle.generalize_declared.specs.Plans.{file_heads, full_name}
use Rattle.generalize_declared.proofs.Files.{has_edits, of_parts, short_at}
use Rattle.generalize_declared.proofs.edits.files_of.Goals as goal

pub new_files-requires-clause-short : goal.new_files-requires-clause-short
new_files-requires-clause-short c = short_at c.args.source.now.texts.now c.requires.small

pub returns : goal.returns
returns c =
    λ fs are.
    let s = c.args.source.now in
    let names = s.names.now in
    let count : c.in-Ok.count ≡ length s.units.now = omega (arith, c.in-Ok.ensures) in
    let world = (are 0 (omega (arith, c.requires.file))).world in
    let facts = subst (λ n. AreFileFacts c.args.q.now n fs) (sym count) are in
    let full : c.as_slice-4.result.now ≡ full_name names (slice_get (fs 0).world.types c.args.target) c.args.word.now =
    c.as_slice-4.ensures.value ∙ c.in_ok-full_name.ensures ∙ ap (λ w. full_name names (slice_get w.types c.args.target) c.args.word.now) (sym world) in
    has_edits fs s c.args.wish c.args.word.now c.args.place.now c.args.target c.args.changes.now c.in-Some.name c.in-Some.ensures.found c.in_ok-sees.sees c.in_ok-heads.heads
    (c.in_ok-sees.ensures.count ∙ count) (c.in_ok-heads.ensures.count ∙ count)
    (λ i low. c.in_ok-sees.ensures.seen fs facts i (omega (arith, low, count)))
    (λ i low. c.in_ok-heads.ensures.heads i (omega (arith, low, count))
    ∙ ap (λ (files : List CoreFile). Some (file_heads c.args.changes.now c.args.place.now (i == c.args.wish.file) (slice_get files i))) c.as_slice.ensures)
    c.new_files.result
    (λ tokens lexes.
    of_parts c.new_files.result s.texts.now tokens (map unit_plain s.units.now) _ _ _ _ _ _ _ _ c.as_slice-2.ensures c.as_slice-3.ensures c.as_bytes.ensures.value full (c.new_files.ensures tokens lexes))
