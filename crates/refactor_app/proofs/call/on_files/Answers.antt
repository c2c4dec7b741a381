use Rattle.std.proofs.Common.{List, ℕ, Err, refl, subst}
use Rattle.std.specs.String.{string_bytes}
use Rattle.source_files.specs.Answers as files
use Rattle.refactor_app.specs.Asked.{task_files}
use Rattle.refactor_app.specs.Stops.{IsNamed, Stops}
use Rattle.refactor_app.proofs.Courses.{map_length, stop_named, stopped, from_before}
use Rattle.refactor_app.proofs.call.on_files.Goals as goal

pub stop-requires : goal.stop-requires
stop-requires g c =
    subst (λ (n : ℕ). IsNamed n c.in-Err.why) (map_length string_bytes c.args.names.now) (stop_named _ _ c.in-Err.why c.in-Err.ensures.read)

pub returns-in-Ok : goal.returns-in-Ok
returns-in-Ok g c words asks few =
    let r = c.read_files.ensures in
    from_before words _ _ _ _ (record { holds = r.kept; misses = r.misses_grow; read_faults = r.reads_grow; write_faults = r.writes_grow; put = refl; faults = refl }) (c.on_texts.ensures words asks few)

pub returns-in-Err : goal.returns-in-Err
returns-in-Err g c words asks few =
    let r = c.in-Err.ensures in
    let read = subst (λ (ns : List (List ℕ)). files.HasRead (g.F.Files.holds c.args.files.now) ns (Err c.in-Err.why)) c.requires.names r.read in
    let stops = subst (λ (ns : List (List ℕ)). Stops ns c.in-Err.why (g.K.Sink.written c.args.out.now) (g.K.Sink.written c.stop.new.out) (g.K.Sink.faults c.args.out.now) (g.K.Sink.faults c.stop.new.out) c.stop.result)
    c.requires.names c.stop.ensures in
    stopped words (task_files c.args.task.now) _ _ _ c.in-Err.why few read r.missed r.failed r.kept stops
