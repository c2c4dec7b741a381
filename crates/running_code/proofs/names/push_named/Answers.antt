use Rattle.std.proofs.Common.{◌≡◌, ◌∷◌, ◌++◌, [], ap, ◌∙◌, subst}
use Rattle.std.specs.Prelude.{OnOk}
use Rattle.running_code.specs.Names.{name_in}
use Rattle.running_code.proofs.Spelled.{name_told, three}
use Rattle.running_code.proofs.names.push_named.Goals as goal

pub returns : goal.returns
returns c =
    λ code told.
    let g = c.args.g.now in
    let k = c.args.class in
    let same = name_told code g.names.now g.world.now k told.world told.names in
    subst (λ l. OnOk c.push_text-2.result (c.push_text-2.new.out ≡ l))
    (three c.args.out.now c.push_text.new.out c.push_full_name.new.out (76 ∷ []) (name_in g.names.now g.world.now k) (59 ∷ []) c.in_ok-push_text.ensures c.in_ok-push_full_name.ensures
    ∙ ap (λ l. c.args.out.now ++ 76 ∷ (l ++ 59 ∷ [])) same)
    c.push_text-2.ensures
