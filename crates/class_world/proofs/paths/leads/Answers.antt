use Rattle.std.proofs.Common.{◌≡◌, sym, subst}
use Rattle.class_world.specs.Meets.{AreRows, HasFull}
use Rattle.class_world.proofs.paths.leads.Goals as goal

pub returns-in-Some : goal.returns-in-Some
returns-in-Some c = λ yes g at.
    let w = c.args.w.now in
    let all = c.args.rows.now in
    let are = subst (AreRows w all.listed) (sym c.as_slice.ensures) c.requires.rows.rows in
    let one = (c.in-Some.ensures.row all.listed are).full c.args.place (c.is_set.ensures.0 yes) in
    let number : one.0 ≡ g = cc (one.1, at) in
    subst (HasFull w c.args.d.now) number one.2
