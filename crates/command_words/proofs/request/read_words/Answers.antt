use Rattle.std.proofs.Common.{◌≡◌, List, ℕ, Some, map, sym, ◌∙◌, refl, subst, inl, inr}
use Rattle.std.specs.String.{string_bytes}
use Rattle.command_words.specs.Table.{Parts, takes_files}
use Rattle.command_words.specs.Rules.{Meets}
use Rattle.command_words.specs.Scan.{MeetsFound}
use Rattle.command_words.specs.Asked.{parts_in}
use Rattle.command_words.proofs.RuleLemmas.{same_parts}
use Rattle.command_words.proofs.request.read_words.Goals as goal

pub returns-in_default : goal.returns-in_default
returns-in_default c = inl (refl, c.in_default.ensures.none)

pub returns-in-Some-broken : goal.returns-in-Some-broken
returns-in-Some-broken c =
    let rest : List (List ℕ) = map string_bytes c.in-Some.rest.now in
    let found = subst (λ (p : Parts). MeetsFound c.in-Some.command p (Some c.in-Some-broken.rule)) c.of-sections.ensures
    (subst (MeetsFound c.in-Some.command (parts_in c.of-sections.result)) c.in-Some-broken.is c.in_ok-broken.ensures) in
    inr (c.in-Some.command, rest, c.in-Some.ensures.some, found.0, found.1)

pub returns-in-None : goal.returns-in-None
returns-in-None c =
    let found = subst (MeetsFound c.in-Some.command (parts_in c.of-sections.result)) c.in-None.is c.in_ok-broken.ensures in
    let dashed : c.of-sections.result.dashed ≡ takes_files c.in-Some.command = ((found 2).shape refl).2 in
    let asked : Parts = record {
      own = map string_bytes c.of-sections.result.own.now;
      dashed = takes_files c.in-Some.command;
      users = map string_bytes c.of-sections.result.users.now;
      libs = map string_bytes c.of-sections.result.libs.now;
    } in
    let are : parts_in c.of-sections.result ≡ asked = same_parts _ _ _ _ _ _ _ _ refl dashed refl refl in
    record {
      rest = map string_bytes c.in-Some.rest.now;
      are = c.in-Some.ensures.some;
      parts_are = sym c.of-sections.ensures ∙ are;
      meets = λ n. subst (λ (p : Parts). Meets c.in-Some.command p n) are (found n);
    }
