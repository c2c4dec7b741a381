use Rattle.std.proofs.Common.{rules, ◌≡◌, ◌++◌, ◌∷◌, [], ◌<◌, length, length-append, slice_get, ap, ◌∙◌, ◌+◌, arith}
use Rattle.std.specs.Prelude.{Bool}
use Rattle.generalize_declared.specs.Plans.{is_seen}
use Rattle.generalize_declared.proofs.Pushes.{pushed}
use Rattle.generalize_declared.proofs.edits.seen_in.Goals as goal

pub loop-file-preserved : goal.loop-file-preserved
loop-file-preserved c =
    let i = c.loop-file.invariant in
    let low : c.loop-file.file < c.args.count = c.loop-file-test.true in
    let more : c.push.new.self ≡ c.loop-file.seen ++ c.is_seen.result ∷ [] = search rules in
    let long = length-append {A = Bool} c.loop-file.seen (c.is_seen.result ∷ []) in (
      ap length more ∙ long ∙ ap (λ n. n + 1) i.0,
      omega (arith, low),
      λ fs are k below. ap (λ xs. slice_get xs k) more
          ∙ pushed (λ k. is_seen (fs k) c.args.name c.args.target) c.loop-file.seen c.is_seen.result c.loop-file.file i.0 (c.is_seen.ensures (fs c.loop-file.file) (are c.loop-file.file low)) (i.2 fs are) k below,
    )
