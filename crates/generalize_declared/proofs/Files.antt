-- The new files of a change.
use Rattle.std.proofs.Common.{◌≡◌, ℕ, zero, suc, ◌<◌, ◌==◌, Bool, List, [], ◌∷◌, length, map, Option, Some, None, Result, Ok, Err, IfOk, slice_get, slice_index_or, subst, arith}
use Rattle.std.specs.Prelude.{IfSome}
use Rattle.java_tree.specs.declared.fault.NoMemory.{NoMemory}
use Rattle.java_tree.specs.declared.tree.Name.{Name}
use Rattle.java_tree.specs.declared.tree.Span.{Span}
use Rattle.java_tree.specs.declared.tree.Token.{Token}
use Rattle.java_tree.specs.Plain.{SourceUnit}
use Rattle.java_tree.specs.View.{unit_plain}
use Rattle.source_files.specs.Held.{AreSmall}
use Rattle.type_facts.specs.Facts.{Facts}
use Rattle.type_places.specs.declared.changes.Changes.{Changes}
use Rattle.type_places.specs.declared.places.TypePlace.{TypePlace}
use Rattle.changed_files.specs.declared.files.NewFiles.{NewFiles}
use Rattle.changed_files.specs.NewFiles.{AreNew, AreTokens}
use Rattle.generalize_declared.specs.declared.asked.CheckedSource.{CheckedSource}
use Rattle.generalize_declared.specs.declared.asked.Wish.{Wish}
use Rattle.generalize_declared.specs.Plans.{HasEdits, file_heads, full_name, is_seen}

pub short_at : (texts : List (List ℕ)) → AreSmall texts → (k : ℕ) (d : List ℕ) → k < length texts → length (slice_index_or texts k d) < 134217728
short_at [] small k d low = absurd (omega (arith, low))
short_at (y ∷ ys) (room, more) zero d low = omega (arith, room)
short_at (y ∷ ys) (room, more) (suc k) d low = short_at ys more k d (omega (arith, low))

-- new files of equal parts
pub of_parts : (r : Result (Option NewFiles) NoMemory) (texts : List (List ℕ)) (tokens : List (List Token)) (units : List SourceUnit) (ss ss' : List Bool) (hs hs' : List (List Span)) (n n' f f' : List ℕ)
    → ss ≡ ss' → hs ≡ hs' → n ≡ n' → f ≡ f' → IfOk r (AreNew texts tokens units ss hs n f) → IfOk r (AreNew texts tokens units ss' hs' n' f')
of_parts r texts tokens units ss ss' hs hs' n n' f f' a b c d h =
    let one = subst (λ s. IfOk r (AreNew texts tokens units s hs n f)) a h in
    let two = subst (λ s. IfOk r (AreNew texts tokens units ss' s n f)) b one in
    let three = subst (λ s. IfOk r (AreNew texts tokens units ss' hs' s f)) c two in
    subst (λ s. IfOk r (AreNew texts tokens units ss' hs' n' s)) d three

module _ (fs : ℕ → Facts) (s : CheckedSource) (x : Wish) (word : List ℕ) (p : TypePlace) (k : ℕ) (c : Changes) (name : Name) (named : slice_get s.names.now name.0 ≡ Some word) (sees : List Bool)
    (heads : List (List Span)) (sees_count : length sees ≡ length s.units.now) (heads_count : length heads ≡ length s.units.now)
    (seen : (i : ℕ) → i < length s.units.now → slice_get sees i ≡ Some (is_seen (fs i) name k))
    (changed : (i : ℕ) → i < length s.units.now → slice_get heads i ≡ Some (file_heads c p (i == x.file) (slice_get s.core.now.files i))) where
  pub has_edits : (r : Result (Option NewFiles) NoMemory)
      → ((tokens : List (List Token)) → AreTokens s.texts.now tokens
      → IfOk r (AreNew s.texts.now tokens (map unit_plain s.units.now) sees heads word (full_name s.names.now (slice_get (fs 0).world.types k) word)))
      → IfOk r (λ o. IfSome o (HasEdits fs s x word p k c))
  has_edits (Ok (Some new)) are = record {
    name = name;
    named = named;
    sees = sees;
    heads = heads;
    sees_count = sees_count;
    heads_count = heads_count;
    seen = seen;
    changed = changed;
    edits = are;
  }
  has_edits (Ok None) are = tt
  has_edits (Err e) are = tt
