use Rattle.std.proofs.Common.{ℕ, ◌<◌, [], ◌↔◌, length, arith}
use Rattle.std.specs.Prelude.{IsTrue}
use Rattle.type_places.specs.Changes.{is_flagged}
use Rattle.type_places.specs.Changing.{IsTied, with_flags}
use Rattle.type_places.proofs.Flags.{family, ok_as}
use Rattle.type_places.proofs.changing.family_flags.Goals as goal

pub returns-then-method-len : goal.returns-then-method-len
returns-then-method-len c =
    let low : c.args.method < length c.args.w.now.methods = omega (arith, c.if-method-len.true, c.len.ensures) in
    ok_as c.flags_of.result (with_flags c.family.result.now []) (λ r. (m : ℕ) → IsTrue (is_flagged r m) ↔ IsTied c.args.w.now c.args.method m)
    (family c.args.w.now c.args.method c.family.result.now low (c.family.ensures c.args.w.now c.requires.members low).0) c.flags_of.ensures
