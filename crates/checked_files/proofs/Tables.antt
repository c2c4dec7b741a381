-- The table of names of files and their trees: how many names and trees texts bring, and the words that built-in types need.
use Rattle.std.proofs.Common.{◌≡◌, ℕ, suc, ◌+◌, ◌≤◌, List, [], ◌∷◌, length, map, take, drop, refl, sym, ◌∙◌, ap, subst, arith}
use Rattle.std.proofs.lemmas.List.{take-map, drop-map}
use Rattle.java_tree.specs.Names.{IsTable, with_text, built_in_names}
use Rattle.java_tree.proofs.Tables.{length_with_text, with_text_table}
use Rattle.java_tree.specs.Plain as t
use Rattle.java_tree.specs.View.{unit_plain}
use Rattle.java_tree.specs.declared.tree.SourceUnit.{SourceUnit}
use Rattle.java_tree.specs.declared.tree.Token.{Token}
use Rattle.java_tree.specs.declared.tree.Kind.{Kind}
use Rattle.java_tree.specs.declared.tree.Kind.TheVariants as kind
use Rattle.java_grammar.specs.Interned.{interned, with_word}
use Rattle.java_grammar.specs.Sorts.{bytes_in}
use Rattle.unit_grammar.specs.Sizes as size
use Rattle.built_in_types.specs.BuiltIns.{texts, with_texts, with_words}
use Rattle.decl_table.specs.Program.{Program}
use Rattle.decl_table.specs.Judged.{IsProgram}
use Rattle.source_files.specs.Trees.{AreTrees, most_tokens}

-- ---- the table of names

texts_table : (ts names : List (List ℕ)) → IsTable names → IsTable (with_texts ts names)
unfolding with_texts
texts_table [] names is = is
texts_table (t ∷ ts) names is = texts_table ts (with_text t names) (with_text_table t names is)

pub words_table : (names : List (List ℕ)) → IsTable names → IsTable (with_words names)
words_table names is = texts_table texts names is

-- ---- how many there are

interned_long : (text : List ℕ) (xs : List Token) (names : List (List ℕ)) → length (interned text xs names) ≤ length names + length xs
interned_long text [] names = omega arith
interned_long text (x ∷ xs) names =
    let rest = interned_long text xs (with_word x.kind (bytes_in text x.span) names) in
    let one = word_long x.kind (bytes_in text x.span) names in
    omega (arith, rest, one)
  where
    word_long : (k : Kind) (w : List ℕ) (names : List (List ℕ)) → length (with_word k w names) ≤ length names + 1
    word_long kind.Word w names = length_with_text w names
    word_long kind.Keyword w names = omega arith
    word_long kind.Int w names = omega arith
    word_long kind.Long w names = omega arith
    word_long kind.Float w names = omega arith
    word_long kind.Char w names = omega arith
    word_long kind.Text w names = omega arith
    word_long kind.Op w names = omega arith

trees_names : (names : List (List ℕ)) (first count : ℕ) (texts : List (List ℕ)) (units : List t.SourceUnit) (new : List (List ℕ)) → count ≤ most_tokens
    → AreTrees names first count texts units new → length new + count ≤ length names + most_tokens
trees_names names first count [] units new low h = let same = ap length h.1 in omega (arith, same, low)
trees_names names first count (x ∷ xs) [] new low h = absurd h
trees_names names first count (x ∷ xs) (u ∷ us) new low (ts, allowed, is, more) =
    let rest = trees_names (interned x ts names) (first + size.unit u) (count + length ts) xs us new allowed.few more in
    let here = interned_long x ts names in
    omega (arith, rest, here)

pub names_few : (texts : List (List ℕ)) (units : List t.SourceUnit) (names : List (List ℕ)) → AreTrees built_in_names 0 0 texts units names → length names ≤ 1048595
names_few texts units names h = let most = trees_names built_in_names 0 0 texts units names (omega arith) h in let nineteen : length built_in_names ≡ 19 = refl in omega (arith, most, nineteen)

pub trees_long : (names : List (List ℕ)) (first count : ℕ) (texts : List (List ℕ)) (units : List t.SourceUnit) (new : List (List ℕ))
    → AreTrees names first count texts units new → length units ≡ length texts
trees_long names first count [] units new h = ap length h.0
trees_long names first count (x ∷ xs) [] new h = absurd h
trees_long names first count (x ∷ xs) (u ∷ us) new (ts, allowed, is, more) =
    ap suc (trees_long (interned x ts names) (first + size.unit u) (count + length ts) xs us new more)

-- ---- programs

-- the program of user files and library files is that of all, split
pub of_split : (users : ℕ) (names : List (List ℕ)) (units user lib : List SourceUnit) (p : Program) → user ≡ take users units → lib ≡ drop users units
    → IsProgram names (take users (map unit_plain units)) (drop users (map unit_plain units)) p → IsProgram names (map unit_plain user) (map unit_plain lib) p
of_split users names units user lib p front back is =
    let first = take-map unit_plain users units ∙ sym (ap (λ (us : List SourceUnit). map unit_plain us) front) in
    let last = drop-map unit_plain users units ∙ sym (ap (λ (us : List SourceUnit). map unit_plain us) back) in
    subst (λ (us : List t.SourceUnit). IsProgram names us (map unit_plain lib) p) first (subst (λ (us : List t.SourceUnit). IsProgram names (take users (map unit_plain units)) us p) last is)
