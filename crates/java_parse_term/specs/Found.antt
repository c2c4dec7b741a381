-- The answer to a text that has a tree: that tree, unless memory runs out.
use Rattle.std.specs.Prelude.{◌≡◌, ℕ, Result, Ok, Err}
use Rattle.java_parse_term.specs.declared.parsed.Parsed.{Parsed}
use Rattle.java_parse_term.specs.declared.fault.SyntaxFault.{SyntaxFault}
use Rattle.java_parse_term.specs.declared.fault.SyntaxFault.TheVariants.{Bad, NoMemory}

abbrev pub IsFound : {X A : Type 0} → (X → A) → Result (Parsed X) SyntaxFault → A → ℕ → Type 0
IsFound view (Ok g) x j = (view g.tree ≡ x) × (g.next ≡ j)
IsFound view (Err (Bad token)) x j = ⊥
IsFound view (Err NoMemory) x j = Unit {0}
