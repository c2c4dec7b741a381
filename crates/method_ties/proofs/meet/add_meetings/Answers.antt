use Rattle.std.proofs.Common.{inl, inr, sym, subst}
use Rattle.class_world.specs.Inheritance.{IsMethodNamed}
use Rattle.method_ties.proofs.Members.{meets_named}
use Rattle.method_ties.proofs.meet.add_meetings.Goals as goal

pub number_lower-requires-clause-listed : goal.number_lower-requires-clause-listed
number_lower-requires-clause-listed c = c.named-listed.ensures c.args.w.now c.requires.lists

pub add_alike-requires-clause-listed : goal.add_alike-requires-clause-listed
add_alike-requires-clause-listed c = c.named-listed.ensures c.args.w.now c.requires.lists

pub returns-clause-has : goal.returns-clause-has
returns-clause-has c p =
    let w = c.args.w.now in
    let info = c.in-Some.info.now in
    let told = c.in_ok-add_alike.ensures.has p in (
      λ h. elim (told.0 h) [ inl was ↦ inl was | inr t ↦ inr (t.0, t.2) ],
      λ h. told.1 (elim h [
        | inl was ↦ inl was
        | inr t ↦
            let named = meets_named w c.args.c p.lower c.args.k info c.in-Some.ensures.some t.1 in
            inr (t.0, subst (λ n. IsMethodNamed w c.args.c info.name n p.lower) (sym c.len-arity.ensures) named, t.1)
      ]),
    )
