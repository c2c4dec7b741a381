use Rattle.std.proofs.Common.{◌≡◌, ◌++◌, map, drop}
use Rattle.type_kinds.specs.Members.{is_static_field}
use Rattle.running_code.proofs.types.statics_of.Given as goal

abbrev pub invariant-loop-info : goal.invariant-loop-info
invariant-loop-info l = l.statics ++ map (is_static_field l.w) (drop l.info-index l.w.fields) ≡ map (is_static_field l.w) l.w.fields
