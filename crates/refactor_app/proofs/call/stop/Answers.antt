use Rattle.std.specs.String.{string_bytes}
use Rattle.refactor_app.proofs.Courses.{made, named_at}
use Rattle.refactor_app.proofs.call.stop.Goals as goal

pub returns-in-Missing : goal.returns-in-Missing
returns-in-Missing g c =
    let low = rw c.in-Missing.is at c.requires in
    rw c.in-Missing.is (
      string_bytes c.index-names-file.result,
      named_at string_bytes c.args.names.now c.in-Missing.file c.index-names-file.result low c.index-names-file.is,
      rw (← c.as_str.ensures.value) (made c.missing-line.result _ _ _ _ _ _ _ c.missing-line.ensures c.put_made.ensures.put c.put_made.ensures.none),
    )

pub returns-in-Failed : goal.returns-in-Failed
returns-in-Failed g c =
    let low = rw c.in-Failed.is at c.requires in
    rw c.in-Failed.is (
      string_bytes c.index-names-file-in-Failed.result,
      named_at string_bytes c.args.names.now c.in-Failed.file c.index-names-file-in-Failed.result low c.index-names-file-in-Failed.is,
      rw (← c.as_str-in-Failed.ensures.value) (made c.read_fault-line.result _ _ _ _ _ _ _ c.read_fault-line.ensures c.put_made-in-Failed.ensures.put c.put_made-in-Failed.ensures.none),
    )
