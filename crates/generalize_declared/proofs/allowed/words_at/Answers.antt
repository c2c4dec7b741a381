use Rattle.std.proofs.Common.{◌≡◌, ◌++◌, Bool, false, true, List, ℕ, length, map, slice_get, sym, ◌∙◌, ap, subst}
use Rattle.std.specs.String.{string_bytes}
use Rattle.java_tree.specs.declared.tree.Name.{Name}
use Rattle.class_world.specs.declared.world.World.{World}
use Rattle.generalize_declared.specs.Allowed.{AreListed, home_of, word_of}
use Rattle.generalize_declared.proofs.Listed.{in_two}
use Rattle.generalize_declared.proofs.allowed.words_at.Goals as goal

pub returns : goal.returns
returns c =
    λ fs are.
    let s = c.args.source.now in
    let p = c.args.place.now in
    let q = c.args.q.now in
    let world = (are 0 c.requires.some).world in
    let home = c.home_of-home.ensures ∙ ap home_of c.item_at.ensures in
    let kinds : (kind : Bool) (ks : List ℕ) → AreListed (fs 0) s c.home_of-home.result.now p kind (length q.world.now.types) ks → AreListed (fs 0) s (home_of (slice_get s.units.now c.args.wish.file)) p kind (length (fs 0).world.types) ks =
    λ kind ks h. subst (λ (home : List Name). AreListed (fs 0) s home p kind (length (fs 0).world.types) ks) home
    (subst (λ (w : World). AreListed (fs 0) s c.home_of-home.result.now p kind (length w.types) ks) (sym world) h) in
    record {
      classes = c.in_ok-classes.classes;
      interfaces = c.in_ok-interfaces.interfaces;
      are_classes = kinds false c.in_ok-classes.classes (c.in_ok-classes.ensures fs are);
      are_interfaces = kinds true c.in_ok-interfaces.interfaces (c.in_ok-interfaces.ensures fs are);
      are = subst (λ (w : World). map string_bytes c.push_words-2.new.words ≡ map (word_of s.names.now w) (c.in_ok-classes.classes ++ c.in_ok-interfaces.interfaces)) (sym world)
          (in_two (word_of s.names.now q.world.now) _ _ _ c.in_ok-classes.classes c.in_ok-interfaces.interfaces (ap (map string_bytes) c.new-words.ensures)
          (c.in_ok-push_words.ensures ∙ ap (λ ks. map string_bytes c.new-words.result ++ map (word_of s.names.now q.world.now) ks) c.as_slice.ensures)
          (c.in_ok-push_words-2.ensures ∙ ap (λ ks. map string_bytes c.push_words.new.words ++ map (word_of s.names.now q.world.now) ks) c.as_slice-2.ensures));
    }
