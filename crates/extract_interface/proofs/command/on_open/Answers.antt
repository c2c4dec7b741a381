use Rattle.std.proofs.Common.{ℕ, List, refl, sym, ap, subst, ◌∙◌}
use Rattle.std.specs.Prelude.{Contains}
use Rattle.std.specs.String.{string_bytes}
use Rattle.std.proofs.lemmas.Bool.{true≢false}
use Rattle.extract_interface.specs.Asked.{created_name}
use Rattle.extract_interface.specs.Plans.{files_of}
use Rattle.extract_interface.proofs.Lists.{map_at}
use Rattle.extract_interface.proofs.command.on_open.Goals as goal

pub returns-then-is_file : goal.returns-then-is_file
returns-then-is_file c =
    let x = c.args.wish.now in
    let d = c.in-Some.declared in (
      c.args.class.now.number,
      c.args.class.now.info.now,
      c.args.methods.now,
      c.requires.open,
      (
        d.file,
        d.core.now,
        string_bytes c.in_ok-name.name,
        record {
          declared = c.in-Some.ensures;
          name = string_bytes c.in-Some-get.file.now;
          there = map_at string_bytes x.files.now d.file c.in-Some-get.file.now c.in-Some-get.ensures.lookup.3.0 c.in-Some-get.ensures.lookup.1;
          beside = c.in_ok-name.ensures ∙ ap (λ (name : List ℕ). created_name name x.name.now) c.as_str.ensures.value;
        },
        subst (Contains (files_of x)) c.as_str-2.ensures.value (c.is_file.ensures.0 c.if-is_file.true),
      ),
      refl,
    )

pub on_planned-requires-clause-planned : goal.on_planned-requires-clause-planned
on_planned-requires-clause-planned c =
    let x = c.args.wish.now in
    let d = c.in-Some.declared in
    record {
      opened = c.requires.open;
      beside = record {
        declared = c.in-Some.ensures;
        name = string_bytes c.in-Some-get.file.now;
        there = map_at string_bytes x.files.now d.file c.in-Some-get.file.now c.in-Some-get.ensures.lookup.3.0 c.in-Some-get.ensures.lookup.1;
        beside = c.in_ok-name.ensures ∙ ap (λ (name : List ℕ). created_name name x.name.now) c.as_str.ensures.value;
      };
      fresh = λ h. true≢false (sym (c.is_file.ensures.1 (subst (Contains (files_of x)) (sym c.as_str-2.ensures.value) h)) ∙ c.if-is_file.false);
    }
