use Rattle.std.proofs.Common.{◌≡◌, ◌++◌, sym, ap, ◌∙◌, subst}
use Rattle.std.specs.Prelude.{OnOk, codes}
use Rattle.running_code.specs.Names.{element_name_of}
use Rattle.running_code.proofs.Spelled.{of_array, of_primitive, two}
use Rattle.running_code.proofs.names.+push_element.Goals as goal

pub returns-in-Prim : goal.returns-in-Prim
returns-in-Prim t c =
    λ code told.
    subst (λ l. OnOk c.push_primitive.result (c.push_primitive.new.out ≡ c.args.out.now ++ l)) (sym (of_primitive code c.args.t.now c.in-Prim.primitive c.in-Prim.is)) (c.push_primitive.ensures code)

pub returns-in_ok-push_text-in-Array : goal.returns-in_ok-push_text-in-Array
returns-in_ok-push_text-in-Array t c =
    λ code told.
    let i = c.in-Array in
    let out = c.args.out.now in
    subst (λ l. OnOk c.push_element.result (c.push_element.new.out ≡ l))
    (two out c.push_text.new.out (codes "[") (element_name_of code c.get.result.now) c.in_ok-push_text-in-Array.ensures
    ∙ ap (λ l. out ++ l) (ap (λ x. codes "[" ++ element_name_of code x) c.get.ensures ∙ sym (of_array code c.args.t.now i.element i.is)))
    (c.push_element.ensures code told)
