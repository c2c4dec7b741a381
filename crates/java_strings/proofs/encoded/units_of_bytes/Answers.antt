use Rattle.std.proofs.Common.{◌∙◌, ◌<◌, sym, arith}
use Rattle.java_strings.proofs.Reading.{no_byte, first_below, first_byte}
use Rattle.java_strings.proofs.encoded.units_of_bytes.Goals as goal

pub returns-in_default : goal.returns-in_default
returns-in_default c = c.new-units.ensures ∙ sym (no_byte _ c.in_default.ensures.cases)

pub loop-byte-init : goal.loop-byte-init
loop-byte-init c =
    let bits = c.lead_bits.ensures in
    let left = c.continuation_len-left.ensures in
    let whole = c.in-Some.ensures.cases.0 in
    let small : c.in-Some.first.now < 256 = first_below _ _ _ whole (c.type_inv.bytes 0).fits in
    (first_byte _ _ _ _ _ _ _ whole c.new-units.ensures left bits c.from-code.ensures, grind arith, grind arith, grind arith, grind arith, grind arith)
