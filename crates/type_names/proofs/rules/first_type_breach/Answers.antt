use Rattle.std.proofs.Common.{◌≡◌, ◌∙◌, sym, subst, nat_eq, get_or, false, None}
use Rattle.std.proofs.lemmas.Option.{slice_get-get_or, get_or_from_slice_get}
use Rattle.type_names.specs.declared.known.Known.{Known}
use Rattle.std.specs.HashSet.{contains}
use Rattle.std.proofs.lemmas.List.{take_all}
use Rattle.rule_order.specs.First.{IsFirst}
use Rattle.type_names.specs.Searches.{TypeBreaches}
use Rattle.type_names.proofs.Named.{seen_more, types_more}
use Rattle.type_names.proofs.rules.first_type_breach.Goals as goal

pub loop-known-preserved : goal.loop-known-preserved
loop-known-preserved c =
    let d : Known = record { «package» = 0; name = record { 0 = 0 }; is_public = false; user = false; node = None } in
    let known : Known = get_or c.args.types.now c.loop-known.known-index d in
    let at : known ≡ get_or c.args.types.now c.loop-known.known-index known =
    sym (get_or_from_slice_get c.args.types.now c.loop-known.known-index known known (slice_get-get_or c.args.types.now c.loop-known.known-index d c.loop-known-test.true)) in
    record {
      names = λ q.
          seen_more c.args.types.now c.loop-known.known-index known q (contains nat_eq c.loop-known.seen q) (contains nat_eq c.insert.new.self q) c.loop-known-test.true at
          (c.in_ok-insert.ensures.updates.0 q) (c.loop-known.invariant.names q);
      first =
          types_more (contains nat_eq c.args.roots.now) c.args.types.now c.loop-known.known-index known c.contains.result c.contains-in-loop-known.result c.loop-known.found c.type_breach-here.result
          c.earlier-found.result c.loop-known-test.true at c.contains.ensures (c.contains-in-loop-known.ensures ∙ c.loop-known.invariant.names known.name.0) c.loop-known.invariant.first
          c.type_breach-here.ensures c.earlier-found.ensures;
    }

pub returns : goal.returns
returns c =
    subst (λ ts. IsFirst (TypeBreaches (contains nat_eq c.args.roots.now) ts) c.loop-known.found) (take_all c.loop-known.known-index c.args.types.now c.loop-known-test.false) c.loop-known.invariant.first
