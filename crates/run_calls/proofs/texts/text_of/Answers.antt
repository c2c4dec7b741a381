use Rattle.std.proofs.Common.{sym, ap, ◌∙◌}
use Rattle.core_meaning.specs.Members.{text_of, told}
use Rattle.run_frames.specs.Frames.{a_text}
use Rattle.run_frames.specs.Runs.{comes, place_of, whole}
use Rattle.run_frames.proofs.Steps.{ok_as}
use Rattle.run_calls.proofs.texts.text_of.Goals as goal

pub returns-in-Null : goal.returns-in-Null
returns-in-Null c k known =
    let old = c.args.run.now in
    ok_as c.told.result (whole k c.told.new.run) (comes k old) _ _
    (ap (λ a. a_text (told a old.state)) c.in-Null.is ∙ ap (λ a. a_text (text_of (place_of k old) a old.state)) (sym c.in-Null.is)) (c.told.ensures k)

pub returns-in-Text : goal.returns-in-Text
returns-in-Text c k known =
    let old = c.args.run.now in
    ok_as c.told-in-Text.result (whole k c.told-in-Text.new.run) (comes k old) _ _
    (ap (λ a. a_text (told a old.state)) c.in-Text.is ∙ ap (λ a. a_text (text_of (place_of k old) a old.state)) (sym c.in-Text.is)) (c.told-in-Text.ensures k)
