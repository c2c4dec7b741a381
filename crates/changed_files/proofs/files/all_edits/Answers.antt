use Rattle.std.proofs.Common.{length, length-append, ◌∙◌, ap, arith}
use Rattle.changed_files.proofs.Turns.{Turn, item, tokens_of, stopped, done}
use Rattle.changed_files.proofs.files.all_edits.Goals as goal

pub returns-in_default-clause-edits : goal.returns-in_default-clause-edits
returns-in_default-clause-edits c = λ tss are.
    let text = item c.args.texts.now c.loop-file.file c.as_slice.result.now c.index-texts-file.result c.as_slice.ensures c.index-texts-file.is in
    let heads = item c.args.heads.now c.loop-file.file c.as_slice-in-loop-file.result.now c.index-heads-file.result c.as_slice-in-loop-file.ensures c.index-heads-file.is in
    let turn : Turn c.args.texts.now tss c.args.units.now c.args.sees.now c.args.heads.now c.loop-file.file c.as_slice.result.now c.index-units-file.result c.as_slice-in-loop-file.result.now =
    record { tokens = are; units_len = c.requires.units; sees_len = c.requires.sees; heads_len = c.requires.heads; within = c.loop-file-test.true; text = text; tree = c.index-units-file.is; heads = heads } in
    stopped c.loop-file.all c.in_ok-made.made _ c.args.texts.now tss c.args.units.now c.args.sees.now c.args.heads.now c.args.name.now c.args.full_name.now c.loop-file.file c.as_slice.result.now
    c.index-units-file.result c.as_slice-in-loop-file.result.now turn (c.in_ok-made.ensures _ (tokens_of c.args.texts.now tss c.loop-file.file c.as_slice.result.now are c.loop-file-test.true text))
    (c.loop-file.invariant.edits tss are) c.in_default.is

pub loop-file-preserved : goal.loop-file-preserved
loop-file-preserved c =
    let text = item c.args.texts.now c.loop-file.file c.as_slice.result.now c.index-texts-file.result c.as_slice.ensures c.index-texts-file.is in
    let heads = item c.args.heads.now c.loop-file.file c.as_slice-in-loop-file.result.now c.index-heads-file.result c.as_slice-in-loop-file.ensures c.index-heads-file.is in
    record {
      edits = λ tss are.
          let turn : Turn c.args.texts.now tss c.args.units.now c.args.sees.now c.args.heads.now c.loop-file.file c.as_slice.result.now c.index-units-file.result c.as_slice-in-loop-file.result.now =
          record { tokens = are; units_len = c.requires.units; sees_len = c.requires.sees; heads_len = c.requires.heads; within = c.loop-file-test.true; text = text; tree = c.index-units-file.is; heads = heads } in
          done c.loop-file.all c.push.new.self c.in-Some.edits c.in_ok-made.made _ c.args.texts.now tss c.args.units.now c.args.sees.now c.args.heads.now c.args.name.now c.args.full_name.now
          c.loop-file.file c.as_slice.result.now c.index-units-file.result c.as_slice-in-loop-file.result.now turn
          (c.in_ok-made.ensures _ (tokens_of c.args.texts.now tss c.loop-file.file c.as_slice.result.now are c.loop-file-test.true text)) (c.loop-file.invariant.edits tss are) c.in-Some.is
          c.in_ok-push.ensures.ok;
      count = ap length c.in_ok-push.ensures.ok ∙ (length-append c.loop-file.all _ ∙ omega (arith, c.loop-file.invariant.count));
    }
