use Rattle.std.proofs.Common.{◌≡◌, ◌<◌, ap, length, subst, sym, arith}
use Rattle.member_fields.specs.Built.{IsSized}
use Rattle.member_fields.proofs.Ends.{holds}
use Rattle.member_fields.proofs.tables.FieldTable.of.Goals as goal

pub returns : goal.returns
returns c =
    let own = c.in_ok-own.own.items in
    let names = c.in_ok-name_limit.field-0 in
    let same = c.as_slice.ensures.value in
    let size : c.len-2.result ≡ length c.as_slice.result.now = omega (arith, c.len-2.ensures, c.in_ok-own.own.ok.0, ap length same) in
    let sized = c.in_ok-add_all.ensures.sized names (subst (IsSized c.in_ok-build.build names) size c.in_ok-build.ensures) in
    holds c.args.w.now c.requires.sound own c.in_ok-own.ensures names c.in_ok-name_limit.ensures c.add_all.new.self (subst (λ xs. IsSized c.add_all.new.self names (length xs)) same sized)
    (λ d below. c.in_ok-add_all.ensures.done d (subst (λ xs. d < length xs) (sym same) below)) c.from_vec.result c.from_vec.ensures
