use Rattle.std.proofs.Common.{◌≡◌, ◌∙◌, ℕ, List, length, map, take, sym, ap, subst}
use Rattle.std.specs.String.{string_bytes}
use Rattle.command_words.specs.Names.{within}
use Rattle.refactor_app.specs.Decided.{IsOutput}
use Rattle.refactor_app.proofs.Courses.{map_length}
use Rattle.refactor_app.proofs.Decisions.{outputs_all}
use Rattle.refactor_app.proofs.extract.outputs_of.Goals as goal

pub returns : goal.returns
returns c =
    let out = c.args.q.now.out.now in
    let users = c.args.q.now.inputs.users.now in
    let made = c.args.made.now in
    let o = c.in_ok-created.created in
    let created : IsOutput (within out (string_bytes made.name)) made.text o =
    subst (λ (x : List ℕ). IsOutput (within out (string_bytes made.name)) x o) c.as_slice-2.ensures
    (subst (λ (n : List ℕ). IsOutput (within out n) c.as_slice-2.result.now o) c.as_str.ensures.value c.in_ok-created.ensures) in
    let texts : take (length (map string_bytes users)) made.new.texts ≡ take (length users) c.as_slice.result.now =
    ap (λ (k : ℕ). take k made.new.texts) (map_length string_bytes users) ∙ ap (λ (ts : List (List ℕ)). take (length users) ts) (sym c.as_slice.ensures) in
    outputs_all (map (within out) (map string_bytes users)) _ _ _ _ _ _ _ o c.new-outputs.ensures c.in_ok-push_outputs.ensures texts created c.in_ok-push.ensures.ok
