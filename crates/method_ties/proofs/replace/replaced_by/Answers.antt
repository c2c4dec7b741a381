use Rattle.std.proofs.Common.{ℕ, ◌↔◌, sym, ◌∙◌, subst}
use Rattle.std.specs.List.{Contains}
use Rattle.class_world.specs.Signatures.{HaveOneSignatureIn}
use Rattle.member_methods.specs.Methods.{IsCalled, IsInheritable}
use Rattle.method_ties.specs.Tables.{IsKeyedAbove}
use Rattle.method_ties.specs.Ties.{AreReplaced}
use Rattle.method_ties.proofs.Members.{replaced_told}
use Rattle.method_ties.proofs.Numbering.{tables_turned}
use Rattle.method_ties.proofs.replace.replaced_by.Goals as goal

pub number_long-requires-clause-listed : goal.number_long-requires-clause-listed
number_long-requires-clause-listed c = c.inheritable-listed.ensures c.args.w.now c.requires.lists

pub number_long-requires-clause-tables : goal.number_long-requires-clause-tables
number_long-requires-clause-tables c = tables_turned c.args.w.now (IsKeyedAbove c.args.w.now) c.args.tables.now c.turn_to.new.self c.turn_to.ensures.lists c.requires.tables

pub alike_in-requires-clause-listed : goal.alike_in-requires-clause-listed
alike_in-requires-clause-listed c = c.inheritable-listed.ensures c.args.w.now c.requires.lists

pub returns-clause-replaced : goal.returns-clause-replaced
returns-clause-replaced c =
    let w = c.args.w.now in
    let info = c.in-Some.info.now in
    let class = c.in_ok-number_long.ensures.class ∙ c.turn_to.ensures.class in
    let alike = subst (λ (d : ℕ). (k : ℕ) → Contains c.in_ok-alike.alike.items k ↔ ((IsInheritable w info.owner k × IsCalled w info.name c.len-arity.result k) × HaveOneSignatureIn w d c.args.m k)) class c.in_ok-alike.ensures in
    let told = subst (λ (n : ℕ). (k : ℕ) → Contains c.in_ok-alike.alike.items k ↔ ((IsInheritable w info.owner k × IsCalled w info.name n k) × HaveOneSignatureIn w info.owner c.args.m k)) c.len-arity.ensures alike in
    subst (AreReplaced w c.args.m) (sym c.from_vec.ensures) (replaced_told w c.args.m info c.ascending.result.items c.in-Some.ensures.some
    (λ k. let moved = c.ascending.ensures.has k in (λ h. (told k).0 (moved.0 h), λ h. moved.1 ((told k).1 h))) c.ascending.ensures.ascending)
