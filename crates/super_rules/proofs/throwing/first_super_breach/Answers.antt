use Rattle.std.proofs.Common.{◌≡◌, List, map, subst, sym}
use Rattle.java_tree.specs.View.{unit_plain}
use Rattle.type_names.specs.Known.{files_of}
use Rattle.super_rules.specs.declared.entries.Entry.{Entry}
use Rattle.super_rules.specs.Rules.{IsAbove, IsThrowable}
use Rattle.super_rules.specs.Looks.{AreFlags}
use Rattle.super_rules.proofs.Files.{has_entries}
use Rattle.super_rules.proofs.throwing.first_super_breach.Goals as goal

pub returns : goal.returns
returns c = λ java built nineteen stands are.
    let fs = files_of (map unit_plain c.args.user.now) (map unit_plain c.args.lib.now) in
    let types = c.args.types.now in
    let es = c.in_ok-entries.entries.items in
    let known = c.in_ok-entries.ensures java stands in
    let known_as = λ (given : List Entry) (same : given ≡ es). has_entries java fs types built es given same nineteen are known in
    let cyclic = subst (λ bs. AreFlags bs (λ c. IsAbove java fs types c c)) (sym c.as_slice-4.ensures.value) (c.in_ok-cyclic.ensures java fs (known_as c.as_slice.result.now c.as_slice.ensures.value)) in
    let throwable = subst (λ bs. AreFlags bs (IsThrowable java fs types)) (sym c.as_slice-5.ensures.value) (c.in_ok-throwable.ensures java fs (known_as c.as_slice-2.result.now c.as_slice-2.ensures.value)) in
    let has = known_as c.as_slice-3.result.now c.as_slice-3.ensures.value in
    c.first_among.ensures java fs types has.entries cyclic throwable
