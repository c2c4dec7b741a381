use Rattle.std.proofs.Common.{◌≡◌, ◌≤◌, ◌+◌, length, drop}
use Rattle.std.specs.Prelude.{fold}
use Rattle.java_tree.specs.Names.{with_text}
use Rattle.java_tree.proofs.names.Names.intern_all.Given as goal

abbrev pub invariant-loop-text : goal.invariant-loop-text
invariant-loop-text l = record {
  rest : fold (λ names t. with_text t.now names) l.self (drop l.text-index l.texts) ≡ fold (λ names t. with_text t.now names) l.fn.self l.texts;
  room : length l.self ≤ length l.fn.self + l.text-index;
}
