use Rattle.std.proofs.Common.{◌≡◌, ◌∙◌, ◌||◌, sym, ap, inl, inr, nat_eq, Some, true, false, Bool, cond, refl, ◌∷◌, []}
use Rattle.std.specs.List.{list_any}
use Rattle.std.specs.HashSet.{contains}
use Rattle.std.specs.Prelude.{slice_get}
use Rattle.std.proofs.lemmas.List.Folds.{list_any-append}
use Rattle.type_names.proofs.Lists.{get_push}
use Rattle.type_names.proofs.Truths.{or_no}
use Rattle.type_names.proofs.Opens.{number_same, path_back, no_number, has_number}
use Rattle.type_names.proofs.files.push_package.Goals as goal

pub returns-in_ok-push-clause-all : goal.returns-in_ok-push-clause-all
returns-in_ok-push-clause-all c = λ q p at.
    ap (list_any (λ y. nat_eq y p)) c.in_ok-push.ensures.items ∙ list_any-append (λ y. nat_eq y p) c.args.numbers.now.items (c.in-Some.number ∷ [])
    ∙ ap (λ b. list_any (λ y. nat_eq y p) c.args.numbers.now.items || b)
    (or_no (nat_eq c.in-Some.number p) ∙ number_same c.args.packages.now c.args.path.now q c.in-Some.number p (sym c.number_of.ensures ∙ c.in-Some.is) at ∙ path_back c.args.path.now q)

pub returns-in_ok-push-clause-real : goal.returns-in_ok-push-clause-real
returns-in_ok-push-clause-real c = λ real k p at. elim (get_push c.args.numbers.now.items c.in-Some.number k p (sym (ap (λ xs. slice_get xs k) c.in_ok-push.ensures.items) ∙ at)) [
  | inl old ↦ real k p old
  | inr new ↦ (c.args.path.now, sym c.number_of.ensures ∙ c.in-Some.is ∙ ap Some new.1)
]

pub returns-in_ok-push-clause-same : goal.returns-in_ok-push-clause-same
returns-in_ok-push-clause-same c = λ p.
    c.in_ok-insert.ensures.updates.0 p ∙ put_more (nat_eq c.in-Some.number p) (contains nat_eq c.args.seen.now p) (list_any (λ y. nat_eq y p) c.args.numbers.now.items) (c.requires p)
    ∙ sym (ap (list_any (λ y. nat_eq y p)) c.in_ok-push.ensures.items ∙ list_any-append (λ y. nat_eq y p) c.args.numbers.now.items (c.in-Some.number ∷ []))
  where
    put_more : (b has there : Bool) → has ≡ there → cond b true has ≡ (there || (b || false))
    put_more true has true e = refl
    put_more true has false e = refl
    put_more false has there e = e ∙ sym (or_no there)

pub returns-else-not-contains-clause-all : goal.returns-else-not-contains-clause-all
returns-else-not-contains-clause-all c = λ q p at.
    let there : list_any (λ y. nat_eq y c.in-Some.number) c.args.numbers.now.items ≡ true = sym (c.requires c.in-Some.number) ∙ sym c.contains.ensures ∙ c.if-not-contains.false in
    has_number c.args.packages.now c.args.numbers.now.items c.args.path.now q c.in-Some.number p (sym c.number_of.ensures ∙ c.in-Some.is) at there

pub returns-in_default-clause-all : goal.returns-in_default-clause-all
returns-in_default-clause-all c = λ q p at.
    sym (or_no (list_any (λ y. nat_eq y p) c.args.numbers.now.items))
    ∙ ap (λ b. list_any (λ y. nat_eq y p) c.args.numbers.now.items || b) (sym (no_number c.args.packages.now q c.args.path.now p at (sym c.number_of.ensures ∙ c.in_default.is)))
