use Rattle.std.proofs.Common.{ℕ, List, ◌↔◌, refl, sym, ap, subst}
use Rattle.std.specs.List.{Contains}
use Rattle.std.specs.Option.{option_map}
use Rattle.class_world.specs.Signatures.{HaveOneSignatureIn}
use Rattle.method_ties.specs.Tables.{IsKeyedAbove}
use Rattle.method_ties.proofs.Firsts.{if_ok}
use Rattle.method_ties.proofs.Numbering.{alike_in, alike_listed}
use Rattle.method_ties.proofs.replace.alike_in.Goals as goal

pub returns-in_ok-copied-in-Some : goal.returns-in_ok-copied-in-Some
returns-in_ok-copied-in-Some c =
    let w = c.args.w.now in
    let key = c.args.key in
    let t = c.args.tables.now in
    let xs = c.in_ok-alike-in-Some.alike.now in
    let alike = alike_in w (IsKeyedAbove w) t key t.class c.args.m xs _ c.in-Some.table.now c.requires.tables refl c.get.ensures (ap (option_map (λ x. x.now)) c.in-Some.is) c.in_ok-alike-in-Some.ensures in
    subst (λ (l : List ℕ). (k : ℕ) → Contains l k ↔ (IsKeyedAbove w key k × HaveOneSignatureIn w t.class c.args.m k)) (sym c.in_ok-copied-in-Some.ensures.items) alike.0

pub returns-in-None : goal.returns-in-None
returns-in-None c =
    let w = c.args.w.now in
    let key = c.args.key in
    let t = c.args.tables.now in
    if_ok c.alike_of.result _ _ (λ v. alike_listed w (IsKeyedAbove w key) t.class c.args.m v.items c.args.listed.now c.requires.listed.0) c.alike_of.ensures
