use Rattle.std.proofs.Common.{◌∙◌, sym, subst}
use Rattle.std.specs.List.{Contains}
use Rattle.std.proofs.lemmas.Bool.Decides.{Decides-eqb}
use Rattle.std.proofs.lemmas.Slice.Eq.{slice_eq-Decides}
use Rattle.member_methods.proofs.Maps.{if_ok}
use Rattle.member_methods.proofs.Arena.{list_covers, list_says, says_both}
use Rattle.member_methods.proofs.lists.Lists.joined.Goals as goal

pub returns-then-eq : goal.returns-then-eq
returns-then-eq c =
    list_covers c.args.self.now c.args.a c.in_ok-both.both.items _ c.requires.0
    (sym c.as_slice.ensures.value ∙ (slice_eq-Decides Decides-eqb _ _ _ c.eq.ensures).0 c.if-eq.true ∙ c.get-3.ensures)
    (says_both c.args.self.now c.args.a c.args.b _ _ _ c.get.ensures c.get-2.ensures c.in_ok-both.ensures.has)

pub returns-then-eq-2 : goal.returns-then-eq-2
returns-then-eq-2 c =
    list_covers c.args.self.now c.args.b c.in_ok-both.both.items _ c.requires.1
    (sym c.as_slice-2.ensures.value ∙ (slice_eq-Decides Decides-eqb _ _ _ c.eq-2.ensures).0 c.if-eq-2.true ∙ c.get-4.ensures)
    (says_both c.args.self.now c.args.a c.args.b _ _ _ c.get.ensures c.get-2.ensures c.in_ok-both.ensures.has)

pub returns : goal.returns
returns c =
    let says = says_both c.args.self.now c.args.a c.args.b _ _ _ c.get.ensures c.get-2.ensures c.in_ok-both.ensures.has in
    if_ok c.push.result _ _ (λ n h. list_says c.args.self.now c.push.new.self n (Contains c.as_slice-3.result.now) _ (λ m. (
      λ x. (says m).0 (subst (λ l. Contains l m) c.as_slice-3.ensures.value x),
      λ x. subst (λ l. Contains l m) (sym c.as_slice-3.ensures.value) ((says m).1 x),
    )) h) c.push.ensures
