use Rattle.std.proofs.Common.{◌≡◌, ℕ, ◌+◌, ◌<◌, ◌≤◌, length, List, map, drop, Some, slice_get}
use Rattle.java_tree.specs.declared.tree.Name.{Name}
use Rattle.java_tree.specs.Names.{IsFront}
use Rattle.built_in_types.specs.BuiltIns.{with_texts}
use Rattle.built_in_types.proofs.words.intern_all.Given as goal

abbrev pub invariant-loop-text : goal.invariant-loop-text
invariant-loop-text l = record {
  kept : IsFront l.fn.names l.names;
  few : length l.names ≤ length l.fn.names + l.text-index;
  table : with_texts (drop l.text-index (map (λ t. t.now) l.texts)) l.names ≡ with_texts (map (λ t. t.now) l.texts) l.fn.names;
  long : length l.numbers ≡ l.text-index;
  words : (k : ℕ) (text : List ℕ) → k < l.text-index → slice_get (map (λ t. t.now) l.texts) k ≡ Some text → (n : Name) × (slice_get l.numbers k ≡ Some n) × (slice_get l.names n.0 ≡ Some text);
}
