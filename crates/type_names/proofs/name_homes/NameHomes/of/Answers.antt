use Rattle.std.proofs.Common.{◌≡◌, ◌∙◌, ◌+◌, ◌∷◌, [], ◌++◌, ℕ, Bool, true, false, None, cond, nat_eq, get_or, take, refl, sym, ap, rules}
use Rattle.std.specs.HashMap.{get}
use Rattle.std.specs.Option.{unwrap_or}
use Rattle.std.proofs.lemmas.Bool.{eqb-true, eq-eqb, true≢false}
use Rattle.std.proofs.lemmas.List.{take_all}
use Rattle.type_names.specs.declared.known.Known.{Known}
use Rattle.type_names.specs.Tables.{list_at, homes_in}
use Rattle.type_names.proofs.Held.{append_none}
use Rattle.type_names.proofs.NamedIn.{homes_more}
use Rattle.type_names.proofs.name_homes.NameHomes.of.Goals as goal

pub loop-known-init : goal.loop-known-init
loop-known-init c = λ x. let empty : get nat_eq c.new-homes.result x ≡ None = search rules in ap (λ o. unwrap_or o []) empty

pub loop-known-preserved : goal.loop-known-preserved
loop-known-preserved c = λ x. by x (nat_eq known.name.0 x) refl
  where
    d : Known
    d = record { «package» = 0; name = record { 0 = 0 }; is_public = false; user = false; node = None }

    known : Known
    known = get_or c.args.types.now c.loop-known.known-index d

    by : (x : ℕ) (b : Bool) → nat_eq known.name.0 x ≡ b → list_at (get nat_eq c.add_home.new.homes) x ≡ homes_in x (take (c.loop-known.known-index + 1) c.args.types.now)
    by x true is =
        let same : known.name.0 ≡ x = eqb-true known.name.0 x is in
        ap (list_at (get nat_eq c.add_home.new.homes)) (sym same) ∙ c.in_ok-add_home.ensures.here ∙ ap (λ y. list_at (get nat_eq c.loop-known.homes) y ++ known.«package» ∷ []) same
        ∙ ap (λ l. l ++ known.«package» ∷ []) (c.loop-known.invariant x)
        ∙ sym (homes_more x c.args.types.now c.loop-known.known-index d c.loop-known-test.true
        ∙ ap (λ b. homes_in x (take c.loop-known.known-index c.args.types.now) ++ cond b (known.«package» ∷ []) []) is)
    by x false is =
        c.in_ok-add_home.ensures.others x (λ same. true≢false (sym (eq-eqb known.name.0 x (sym same)) ∙ is)) ∙ c.loop-known.invariant x
        ∙ sym (homes_more x c.args.types.now c.loop-known.known-index d c.loop-known-test.true
        ∙ ap (λ b. homes_in x (take c.loop-known.known-index c.args.types.now) ++ cond b (known.«package» ∷ []) []) is
        ∙ append_none (homes_in x (take c.loop-known.known-index c.args.types.now)))

pub returns : goal.returns
returns c = λ x. c.loop-known.invariant x ∙ ap (homes_in x) (take_all c.loop-known.known-index c.args.types.now c.loop-known-test.false)
