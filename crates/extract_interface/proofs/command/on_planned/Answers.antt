use Rattle.std.proofs.Common.{List, Option, ap, map, subst, ◌∙◌}
use Rattle.kept_places.specs.declared.links.Link.{Link}
use Rattle.kept_places.specs.Kept.{AreKept}
use Rattle.changed_files.specs.declared.files.NewFiles.{NewFiles}
use Rattle.changed_files.specs.NewFiles.{IsMade}
use Rattle.extract_interface.specs.Plans.{place_of}
use Rattle.extract_interface.proofs.Links.{are_links, have_edits}
use Rattle.extract_interface.proofs.command.on_planned.Goals as goal

pub on_changed-requires-clause-changed : goal.on_changed-requires-clause-changed
on_changed-requires-clause-changed c =
    let s = c.args.source.now in
    let x = c.args.wish.now in
    let p = c.args.plan.now in
    record {
      links = c.in_ok-links.links;
      are_links = are_links c.args.q.now s x p c.in_ok-links.links c.requires.ready c.in_ok-links.ensures;
      are_kept = subst (λ (ls : List Link). AreKept ls c.in_ok-kept.kept) c.as_slice.ensures c.in_ok-kept.ensures;
      edits = c.in_ok-edits.edits;
      have = have_edits x.name.now p _ _ _ _ c.in_ok-edits.edits _ (c.as_slice-3.ensures ∙ c.in_ok-places.ensures.places ∙ ap (map place_of) c.as_slice-2.ensures) c.as_slice-4.ensures c.in_ok-edits.ensures.edits;
      made = subst (λ (o : Option NewFiles). IsMade s.texts.now c.in_ok-edits.edits o) c.in-Some.is c.in_ok-edited_files.ensures;
    }
