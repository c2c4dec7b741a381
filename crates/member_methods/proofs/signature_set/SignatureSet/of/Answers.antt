use Rattle.std.proofs.Common.{◌≡◌, None, Some, nat_eq, sym, ap, ◌∙◌, get_or}
use Rattle.std.specs.Prelude.{slice_get}
use Rattle.std.specs.List.{list_any}
use Rattle.std.specs.Option.{option_copied}
use Rattle.std.specs.HashSet.{contains}
use Rattle.std.proofs.lemmas.Option.{slice_get-get_or}
use Rattle.signature_numbers.specs.Numbers.{number_in}
use Rattle.member_methods.proofs.Sets.{first_none, first_next, first_skip, set_told}
use Rattle.member_methods.proofs.signature_set.SignatureSet.of.Goals as goal
use Rattle.member_methods.proofs.signature_set.SignatureSet.of.Goals.{in-Some+in_ok-number+in_ok-insert, in_default}

pub loop-k-init : goal.loop-k-init
loop-k-init c =
    first_none c.args.w.now c.args.methods.now c.new-numbers.result (contains nat_eq c.new-members.result) c.new-numbers.ensures.none (λ n. ap (list_any (nat_eq n)) c.new-members.ensures.empty)

pub loop-k-preserved : goal.loop-k-preserved
loop-k-preserved c =
    let w = c.args.w.now in
    let ms = c.args.methods.now in
    let i = c.loop-k.k-index in
    let y = get_or ms i 0 in
    let at = slice_get-get_or ms i 0 c.loop-k-test.true in
    elim c.match-get.branch [
      | in-Some+in_ok-number+in_ok-insert v ↦
          let info = v.in-Some.info.now in
          let there : slice_get w.methods y ≡ Some info = sym c.get.ensures.value ∙ ap option_copied v.in-Some.is in
          let number = ap (number_in v.number.new.self info.name) (sym v.as_slice.ensures) ∙ v.in_ok-number.ensures.number in
          rw (v.numbers-is, v.members-is)
          (first_next w ms i y at c.loop-k.numbers v.number.new.self (contains nat_eq c.loop-k.members) (contains nat_eq v.insert.new.self) info v.in_ok-number.number c.loop-k.invariant there
          v.in_ok-number.ensures.kept v.in_ok-number.ensures.apart number v.in_ok-insert.ensures.updates.0)
      | in_default v ↦
          let none : slice_get w.methods y ≡ None = sym c.get.ensures.value ∙ ap option_copied v.in_default.is in
          rw (v.numbers-is, v.members-is) (first_skip w ms i y at c.loop-k.numbers (contains nat_eq c.loop-k.members) c.loop-k.invariant none)
    ]

pub returns : goal.returns
returns c = set_told c.args.w.now c.args.methods.now c.loop-k.k-index (record { numbers = c.loop-k.numbers; members = c.loop-k.members }) c.loop-k-test.false c.loop-k.invariant
