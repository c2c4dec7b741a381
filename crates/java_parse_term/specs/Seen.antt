-- What specs see of what a function that parses answers.
use Rattle.std.specs.Prelude.{◌≡◌, ℕ, List, Option, Some, None, Result, Ok, Err}
use Rattle.java_tree.specs.Plain.{Expr}
use Rattle.java_grammar.specs.declared.token.Tok.{Tok}
use Rattle.java_parse_term.specs.declared.parsed.Parsed.{Parsed}
use Rattle.java_parse_term.specs.declared.fault.SyntaxFault.{SyntaxFault}
use Rattle.java_parse_term.specs.declared.fault.SyntaxFault.TheVariants.{Bad, NoMemory}
use Rattle.java_parse_term.specs.Types.{Read}
use Rattle.java_parse_term.specs.Parse.{parse}

-- what a function that parses answers is, by `seen`, what was read, unless memory runs out
abbrev pub Reads : {X A : Type 0} → (X → A) → Option A → Result X SyntaxFault → Type 0
Reads seen read (Ok a) = read ≡ Some (seen a)
Reads seen read (Err (Bad token)) = read ≡ None
Reads seen read (Err NoMemory) = Unit {0}

-- no tree, which is no want of memory
abbrev pub IsRefused : {X : Type 0} → Result X SyntaxFault → Type 0
IsRefused (Ok a) = ⊥
IsRefused (Err (Bad token)) = Unit {0}
IsRefused (Err NoMemory) = ⊥

abbrev pub same : {A : Type 0} → A → A
same a = a

abbrev pub seen : {X A : Type 0} → (X → A) → Parsed X → Read A
seen view x = record { tree = view x.tree; depth = x.depth; next = x.next }

-- a rule at a limit, with the parser of what is below
abbrev pub at_limit : {A : Type 0} → (List ℕ → List Tok → ℕ → (ℕ → ℕ → Option (Read Expr)) → A) → List ℕ → List Tok → ℕ → A
at_limit rule text ts limit = rule text ts limit (parse text ts limit)

abbrev pub type_at_limit : {T A : Type 0} → (List Tok → ℕ → (ℕ → Option (Read T)) → A) → (List Tok → ℕ → ℕ → Option (Read T)) → List Tok → ℕ → A
type_at_limit rule types ts limit = rule ts limit (types ts limit)
