use Rattle.std.proofs.Common.{◌≡◌, Some, IsTrue, ◌↔◌, sym, ap, ◌∙◌, subst}
use Rattle.std.specs.Prelude.{slice_get}
use Rattle.std.specs.Option.{option_copied}
use Rattle.std.proofs.lemmas.Bool.{true≢false}
use Rattle.seen_methods.specs.Seen.{TellsParams}
use Rattle.member_methods.specs.SignatureSets.{HasSignature}
use Rattle.member_methods.proofs.Sets.{found_told}
use Rattle.member_methods.proofs.signatures.is_in_set.Goals as goal

pub returns-in_default-2 : goal.returns-in_default-2
returns-in_default-2 c = λ t methods own has named.
    let none = subst (TellsParams c.args.w.now t c.args.m) c.in_default-2.is (c.in_ok-params.ensures t own) in
    (λ never. absurd (true≢false (sym never)), λ h. absurd (none h.2.1.0 h.2.1.2))

pub returns : goal.returns
returns c = λ t methods own has named.
    let w = c.args.w.now in
    let info = c.in-Some.info.now in
    let at : slice_get w.methods c.args.m ≡ Some info = sym c.get.ensures.value ∙ ap option_copied c.in-Some.is in
    let told = subst (TellsParams w t c.args.m) c.in-Some-2.is (c.in_ok-params.ensures t own) in
    let replaced = found_told w c.requires t c.args.m methods info at named c.args.set.now c.in-Some-2.params has told in
    let found = subst (λ ps. IsTrue c.has.result ↔ HasSignature c.args.set.now info.name ps) c.as_slice.ensures c.has.ensures in
    (λ h. replaced.0 (found.0 h), λ h. found.1 (replaced.1 h))
