use Rattle.std.proofs.Common.{◌∙◌, refl, subst, arith}
use Rattle.std.specs.List.{Contains}
use Rattle.std.proofs.lemmas.Option.{slice_get_read}
use Rattle.override_rules.proofs.Clauses.{no_bits, more_bits, all_bits}
use Rattle.override_rules.proofs.Listed.{contains_at}
use Rattle.override_rules.proofs.bits.set_classes.Goals as goal

pub loop-t-init : goal.loop-t-init
loop-t-init c = record { len = refl; bits = no_bits c.args.types.now c.args.words.now c.requires.none }

pub set-requires : goal.set-requires
set-requires c =
    let types = c.args.types.now in
    let t = c.t-item.result in
    let at = slice_get_read types _ c.loop-t.t-index t refl c.loop-t-test.true c.t-item.is in
    let within = c.requires.within c.in-Some.g (subst (Contains types) c.in-Some.ensures (contains_at types c.loop-t.t-index t at)) in
    omega (arith, within, c.loop-t.invariant.len)

pub loop-t-preserved : goal.loop-t-preserved
loop-t-preserved c =
    let types = c.args.types.now in
    let t = c.t-item.result in
    let at = slice_get_read types _ c.loop-t.t-index t refl c.loop-t-test.true c.t-item.is in
    record {
      len = c.set.ensures.len ∙ c.loop-t.invariant.len;
      bits = more_bits types c.loop-t.words c.set.new.words c.loop-t.t-index c.in-Some.g t c.loop-t.invariant.bits at c.in-Some.ensures c.set.ensures.sets;
    }

pub returns : goal.returns
returns c = λ yes. all_bits c.args.types.now c.loop-t.words c.loop-t.t-index c.loop-t.invariant.bits (omega arith)
