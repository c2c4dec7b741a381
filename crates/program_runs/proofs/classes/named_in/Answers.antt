use Rattle.std.proofs.Common.{◌≡◌, ◌+◌, drop, map, is_some, true, false, sym, ap, ◌∙◌}
use Rattle.std.specs.List.{find}
use Rattle.std.specs.Option.{option_map}
use Rattle.std.proofs.lemmas.List.Folds.{find-append}
use Rattle.java_core.specs.Plain.{Class}
use Rattle.java_core.specs.View.{class_plain, file_plain}
use Rattle.core_meaning.specs.Code.{classes_of}
use Rattle.core_meaning.specs.Runs.{is_named}
use Rattle.run_frames.proofs.Pieces.{dropped_next}
use Rattle.program_runs.proofs.Found.{none_found, some_found}
use Rattle.program_runs.proofs.classes.named_in.Goals as goal

pub loop-file-preserved : goal.loop-file-preserved
loop-file-preserved c k i =
    let fs = c.args.files.now in
    let n = c.loop-file.file-index in
    let p = is_named k c.args.name.now in
    let xs = map class_plain c.file-item.result.classes in
    let ys = classes_of (map file_plain (drop (n + 1) fs)) in
    let next = ap (λ zs. find p (classes_of (map file_plain zs))) (dropped_next fs n c.file-item.result c.loop-file-test.true c.file-item.is) ∙ find-append p xs ys in
    let found = c.named_among-found.ensures k i ∙ ap (λ cs. option_map (λ (x : Class). x.number) (find p (map class_plain cs))) c.as_slice.ensures in
    let none : is_some (option_map (λ (x : Class). x.number) (find p xs)) ≡ false = ap is_some (sym found) ∙ sym c.is_some.ensures ∙ c.if-is_some.false in
    sym (next ∙ none_found (λ (x : Class). x.number) (find p xs) (find p ys) none) ∙ c.loop-file.invariant k i

pub returns-then-is_some : goal.returns-then-is_some
returns-then-is_some c k i =
    let fs = c.args.files.now in
    let n = c.loop-file.file-index in
    let p = is_named k c.args.name.now in
    let xs = map class_plain c.file-item.result.classes in
    let ys = classes_of (map file_plain (drop (n + 1) fs)) in
    let next = ap (λ zs. find p (classes_of (map file_plain zs))) (dropped_next fs n c.file-item.result c.loop-file-test.true c.file-item.is) ∙ find-append p xs ys in
    let found = c.named_among-found.ensures k i ∙ ap (λ cs. option_map (λ (x : Class). x.number) (find p (map class_plain cs))) c.as_slice.ensures in
    let some : is_some (option_map (λ (x : Class). x.number) (find p xs)) ≡ true = ap is_some (sym found) ∙ sym c.is_some.ensures ∙ c.if-is_some.true in
    found ∙ some_found (λ (x : Class). x.number) (find p xs) (find p ys) some ∙ ap (option_map (λ (x : Class). x.number)) (sym next ∙ c.loop-file.invariant k i)
