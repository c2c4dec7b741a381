use Rattle.std.proofs.Common.{◌≡◌, sym, ap, ◌∙◌, subst}
use Rattle.std.specs.Option.{option_copied}
use Rattle.class_world.specs.Types.{substitute}
use Rattle.class_world.specs.Subtypes.{Subtype, same}
use Rattle.class_world.specs.Meets.{IsFullType}
use Rattle.class_world.proofs.Meets as by
use Rattle.class_world.proofs.paths.from_path.Goals as goal

pub returns-then-from-to : goal.returns-then-from-to
returns-then-from-to c =
    let w = c.args.w.now in
    let d = c.args.d.now in
    let full = by.full_read w c.requires.supers d c.class_of-from.result c.args_of.result.now c.requires.class c.class_of-from.ensures c.args_of.ensures (λ flat. let never = c.if-is_raw.ensures.1 flat in absurd (cc never)) in
    let alike = sym c.in_ok-copied.ensures in
    (subst (IsFullType w c.args.to) alike (subst (λ g. IsFullType w g d) c.if-from-to.true full), subst (Subtype w d) alike same)

pub returns-in_ok-substituted-in-Some : goal.returns-in_ok-substituted-in-Some
returns-in_ok-substituted-in-Some c =
    let w = c.args.w.now in
    let d = c.args.d.now in
    let is = c.requires.class.1 in
    let t = c.in-Some.t.now in
    let args : c.args_of-in-Some.result.now ≡ c.args_of.result.now = c.args_of-in-Some.ensures is.0 is.1 is.2 ∙ sym (c.args_of.ensures is.0 is.1 is.2) in
    by.path_lift w c.requires.supers d c.class_of-from.result c.args.to c.args_of.result.now t c.in_ok-substituted-in-Some.field-0 c.requires.class c.class_of-from.ensures c.args_of.ensures
    (λ flat. let never = c.if-is_raw.ensures.1 flat in absurd (cc never)) (c.requires.paths (record { from = c.class_of-from.result; to = c.args.to }) t (sym c.get.ensures.value ∙ ap option_copied c.in-Some.is))
    (c.in_ok-substituted-in-Some.ensures ∙ ap (λ xs. substitute xs t) args)
