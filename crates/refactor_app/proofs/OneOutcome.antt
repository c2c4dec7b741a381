-- Words and files whose contents are told come to one outcome, but for the place of G1 and for what is said where a check was made.
use Rattle.std.proofs.Common.{◌≡◌, ◌≢◌, ℕ, ◌<◌, ◌≤◌, ◌⊎◌, inl, inr, List, ◌++◌, length, Some, slice_get, refl, sym, ◌∙◌, ap, subst, arith, codes}
use Rattle.std.specs.Fmt.{decimal}
use Rattle.java_tree.specs.Names.{IsTable, built_in_names}
use Rattle.java_tree.proofs.Tables.{built_in_table}
use Rattle.java_tree.specs.Plain.{SourceUnit}
use Rattle.java_tree.specs.declared.fault.Broken.{Broken}
use Rattle.tool_files.specs.Told.{Look}
use Rattle.edit_writer.specs.Places.{place_at}
use Rattle.source_files.specs.Held.{AreHeld, Stop, StopsAt, Missing, Failed, TooLarge, TooMuch}
use Rattle.source_files.specs.Trees.{AreTrees, BreaksAt, Fault, Lexical, Tokens, LeftOut, NoTree}
use Rattle.command_words.specs.Rules.{IsLowest}
use Rattle.report_text.specs.Report.{refused, refused_at}
use Rattle.refactor_app.specs.Words.{Files, inputs, AsksSteps, Uses, AskOther}
use Rattle.checked_files.specs.Declarations.{AreDeclared, IsBroken}
use Rattle.refactor_app.specs.Declarations.{broken_line}
use Rattle.refactor_app.specs.Refusals.{most_files, most_steps, AsksFew, HasRead, HasParsed, IsAt, Tells, Refusal}
use Rattle.refactor_app.specs.Refusals as refusal
use Rattle.refactor_app.specs.Outcomes.{Outcome, Misused, Absent, Refused, Changed, Listed, Drawn, Judged, Ended, ComesTo, IsTreeless, AreTreeless, IsOfTypes}
use Rattle.refactor_app.proofs.Asking.{one_files}
use Rattle.refactor_app.proofs.OneSense.{lowest_or_asks, lowest_or_other, other_or_asks, one_lowest}
use Rattle.refactor_app.proofs.OneReading.{one_held, held_or_stops, one_stop}
use Rattle.refactor_app.proofs.OneParse.{IsNoTree, AreAlike, trees_or_breaks, one_break, one_trees, trees_table}
use Rattle.refactor_app.proofs.OneDeclared.{one_rule, broken_or_declared}

-- ---- what each way of words with files comes to

-- a stop of the reading, at the file with the number k
abbrev TellsStop : Files → ℕ → Stop → Outcome → Type 0
TellsStop fs k Missing o = (name : List ℕ) × (slice_get (inputs fs) k ≡ Some name) × (o ≡ Absent name)
TellsStop fs k Failed o = ⊥
TellsStop fs k TooLarge o = o ≡ Refused (refused (codes "L2"))
TellsStop fs k TooMuch o = o ≡ Refused (refused (codes "L3"))

-- of files with trees
abbrev Sound : List (List ℕ) → Look → Files → List (List ℕ) → List (List ℕ) → List SourceUnit → Outcome → Type 0
Sound words look fs texts names units o =
    ((b : Broken) × IsBroken (length fs.users) names units b × (o ≡ Refused (broken_line fs texts units b)))
    ⊎ (AreDeclared (length fs.users) names units × IsOfTypes words (Some look) o)

-- of files with these texts
abbrev Parsed : List (List ℕ) → Look → Files → List (List ℕ) → Outcome → Type 0
Parsed words look fs texts o =
    ((k : ℕ) × (f : Fault) × (line : List ℕ) × BreaksAt built_in_names 0 0 texts k f × Tells fs texts k f line × (o ≡ Refused line))
    ⊎ ((units : List SourceUnit) × (names : List (List ℕ)) × AreTrees built_in_names 0 0 texts units names × Sound words look fs texts names units o)

-- of no more files than there may be
abbrev Read : List (List ℕ) → Look → Files → Outcome → Type 0
Read words look fs o =
    ((k : ℕ) × (s : Stop) × StopsAt (Some look) 0 (inputs fs) k s × TellsStop fs k s o)
    ⊎ ((texts : List (List ℕ)) × AreHeld (Some look) 0 (inputs fs) texts × Parsed words look fs texts o)

-- a run of more steps than there may be
abbrev IsLong : List (List ℕ) → Files → Type 0
IsLong words fs = (n : ℕ) × AsksSteps words fs n × (length (inputs fs) ≤ most_files) × (most_steps < n)

-- of files
abbrev Way : List (List ℕ) → Look → Files → Outcome → Type 0
Way words look fs o =
    ((most_files < length (inputs fs)) × (o ≡ Refused (refused (codes "L1"))))
    ⊎ (IsLong words fs × (o ≡ Refused (refused (codes "L9"))))
    ⊎ (AsksFew words fs × Read words look fs o)

-- of words
data Sense (words : List (List ℕ)) (look : Look) (o : Outcome) : Type 0 where
  misuse : (rule : ℕ) → IsLowest words rule → o ≡ Misused rule → Sense words look o
  other : AskOther words → o ≡ Refused (refused (codes "N1")) → Sense words look o
  asks : (fs : Files) → Uses words fs → Way words look fs o → Sense words look o

-- of files that are parsed
on_parsed : (words : List (List ℕ)) (look : Look) (fs : Files) (texts names : List (List ℕ)) (units : List SourceUnit) (o : Outcome) → HasParsed words (Some look) fs texts names units
    → Sound words look fs texts names units o → Sense words look o
on_parsed words look fs texts names units o h sound = asks fs h.read.asks.uses (inr (inr (h.read.asks, inr (texts, h.read.held, inr (units, names, h.trees, sound)))))

by_refusal : (words : List (List ℕ)) (look : Look) (line : List ℕ) → Refusal words (Some look) line → Sense words look (Refused line)
by_refusal words look line (refusal.Refusal.n1 h) = other h refl
by_refusal words look line (refusal.Refusal.l1 fs h many) = asks fs h (inl (many, refl))
by_refusal words look line (refusal.Refusal.l9 fs n run few long) = asks fs (inr (inr (inl (n, run)))) (inr (inl ((n, run, few, long), refl)))
by_refusal words look line (refusal.Refusal.l2 fs k few stops) = asks fs few.uses (inr (inr (few, inl (k, TooLarge, stops, refl))))
by_refusal words look line (refusal.Refusal.l3 fs k few stops) = asks fs few.uses (inr (inr (few, inl (k, TooMuch, stops, refl))))
by_refusal words look line (refusal.Refusal.broken fs texts k f read breaks tells) = asks fs read.asks.uses (inr (inr (read.asks, inr (texts, read.held, inl (k, f, line, breaks, tells, refl)))))
by_refusal words look line (refusal.Refusal.declared fs texts names units b parsed broken) = on_parsed words look fs texts names units _ parsed (inl (b, broken, refl))
by_refusal words look line (refusal.Refusal.checked fs texts names units rule h broken) =
    on_parsed words look fs texts names units _ h.parsed
    (inr (h.declared, inl (record { fs = fs; texts = texts; names = names; units = units; rule = rule; declared = h; broken = broken; is = refl })))
by_refusal words look line (refusal.Refusal.s24 h) =
    on_parsed words look h.fs h.texts h.names h.units _ h.checked.declared.parsed (inr (h.checked.declared.declared, inr (inr (inl (h, refl)))))
by_refusal words look line (refusal.Refusal.against q texts names units a h) =
    on_parsed words look q.files texts names units _ h.checked.declared.parsed
    (inr (h.checked.declared.declared, inr (inl (record { q = q; texts = texts; names = names; units = units; against = a; stands = h; is = refl }))))
by_refusal words look line (refusal.Refusal.extract_against q texts names units a h) =
    on_parsed words look q.files texts names units _ h.checked.declared.parsed
    (inr (h.checked.declared.declared, inr (inr (inr (record { q = q; texts = texts; names = names; units = units; against = a; stands = h; is = refl })))))

sense : (words : List (List ℕ)) (look : Look) (o : Outcome) → ComesTo words (Some look) o → Sense words look o
sense words look (Misused rule) h = misuse rule h refl
sense words look (Absent name) h = asks h.fs h.asks.uses (inr (inr (h.asks, inl (h.file, Missing, h.absent, (name, h.named, refl)))))
sense words look (Refused line) h = by_refusal words look line h
sense words look (Changed q made) h = on_parsed words look q.files h.texts h.names h.units (Changed q made) h.checked.declared.parsed (inr (h.checked.declared.declared, h))
sense words look (Listed q types) h = on_parsed words look q.files h.texts h.names h.units (Listed q types) h.checked.declared.parsed (inr (h.checked.declared.declared, h))
sense words look (Drawn q made) h = on_parsed words look q.files h.texts h.names h.units (Drawn q made) h.checked.declared.parsed (inr (h.checked.declared.declared, h))
sense words look (Judged report) h = on_parsed words look h.fs h.texts h.names h.units (Judged report) h.declared.parsed (inr (h.declared.declared, h))
sense words look (Ended report how) h = on_parsed words look h.fs h.texts h.names h.units (Ended report how) h.declared.parsed (inr (h.declared.declared, h))

-- ---- each comes to one

one_told : (fs : Files) (k : ℕ) (s : Stop) (a b : Outcome) → TellsStop fs k s a → TellsStop fs k s b → a ≡ b
one_told fs k Missing a b (x, e, is) (y, f, so) =
    let both : Some x ≡ Some y = sym e ∙ f in
    let same : x ≡ y = cc in
    is ∙ ap Absent same ∙ sym so
one_told fs k Failed a b g h = absurd g
one_told fs k TooLarge a b g h = g ∙ sym h
one_told fs k TooMuch a b g h = g ∙ sym h

is_read : (fs : Files) (k : ℕ) (s : Stop) (o : Outcome) → TellsStop fs k s o → s ≢ Failed
is_read fs k s o tells e = subst (λ (s : Stop). TellsStop fs k s o) e tells

-- the same, or both what a check says of types
abbrev AreAsOne : List (List ℕ) → Look → Outcome → Outcome → Type 0
AreAsOne words look a b = (a ≡ b) ⊎ (IsOfTypes words (Some look) a × IsOfTypes words (Some look) b)

module _ (words : List (List ℕ)) (look : Look) (fs : Files) (texts names : List (List ℕ)) (units : List SourceUnit) (table : IsTable names) where
  one_sound : (a b : Outcome) → Sound words look fs texts names units a → Sound words look fs texts names units b → AreAsOne words look a b
  one_sound a b (inl (x, broken, is)) (inl (y, broken', so)) =
      inl (is ∙ ap (λ (b : Broken). Refused (broken_line fs texts units b)) (one_rule (length fs.users) names units table x y broken broken') ∙ sym so)
  one_sound a b (inl (x, broken, is)) (inr (declared, h)) = absurd (broken_or_declared (length fs.users) names units table x broken declared)
  one_sound a b (inr (declared, h)) (inl (x, broken, is)) = absurd (broken_or_declared (length fs.users) names units table x broken declared)
  one_sound a b (inr (declared, h)) (inr (also, g)) = inr (h, g)

one_at : (rule : List ℕ) (fs : Files) (texts : List (List ℕ)) (k at : ℕ) (a b : List ℕ) → IsAt rule fs texts k at a → IsAt rule fs texts k at b → a ≡ b
one_at rule fs texts k at a b x y =
    let names : Some x.name ≡ Some y.name = sym x.named ∙ y.named in
    let texts_are : Some x.text ≡ Some y.text = sym x.there ∙ y.there in
    let name : x.name ≡ y.name = cc in
    let text : x.text ≡ y.text = cc in
    x.is ∙ ap (λ (n : List ℕ). refused_at rule n (place_at x.text at)) name ∙ ap (λ (t : List ℕ). refused_at rule y.name (place_at t at)) text ∙ sym y.is

one_line : (fs : Files) (texts : List (List ℕ)) (k : ℕ) (f : Fault) (a b : List ℕ) → Tells fs texts k f a → Tells fs texts k f b → a ≡ b
one_line fs texts k (Lexical rule at) a b x y = one_at (codes "X" ++ decimal rule) fs texts k at a b x y
one_line fs texts k Tokens a b x y = x ∙ sym y
one_line fs texts k (LeftOut rule at) a b x y = one_at (codes "S" ++ decimal rule) fs texts k at a b x y
one_line fs texts k (NoTree at) a b x y = one_at (codes "G1") fs texts k at a b x y

module _ (words : List (List ℕ)) (look : Look) where
  -- the same, or both G1 of one file, or both what a check says of types
  abbrev AreOne : Outcome → Outcome → Type 0
  AreOne a b = (a ≡ b) ⊎ AreTreeless words (Some look) a b ⊎ (IsOfTypes words (Some look) a × IsOfTypes words (Some look) b)

  as_one : (a b : Outcome) → AreAsOne words look a b → AreOne a b
  as_one a b (inl same) = inl same
  as_one a b (inr both) = inr (inr both)

  treeless : (fs : Files) (texts : List (List ℕ)) (k : ℕ) (f : Fault) (line : List ℕ) → HasRead words (Some look) fs texts → BreaksAt built_in_names 0 0 texts k f → Tells fs texts k f line
      → IsNoTree f → IsTreeless words (Some look) fs texts k line
  treeless fs texts k (NoTree at) line read breaks tells is = record { at = at; read = read; breaks = breaks; tells = tells }
  treeless fs texts k (Lexical rule at) line read breaks tells is = absurd is
  treeless fs texts k Tokens line read breaks tells is = absurd is
  treeless fs texts k (LeftOut rule at) line read breaks tells is = absurd is

  one_broken : (fs : Files) (texts : List (List ℕ)) (k : ℕ) (f g : Fault) (a b : List ℕ) → HasRead words (Some look) fs texts
      → BreaksAt built_in_names 0 0 texts k f → BreaksAt built_in_names 0 0 texts k g → AreAlike f g → Tells fs texts k f a → Tells fs texts k g b → AreOne (Refused a) (Refused b)
  one_broken fs texts k f g a b read x y (inl same) tells tells' =
      inl (ap Refused (one_line fs texts k g a b (subst (λ (f : Fault). Tells fs texts k f a) same tells) tells'))
  one_broken fs texts k f g a b read x y (inr (is, so)) tells tells' =
      inr (inl (fs, texts, k, treeless fs texts k f a read x tells is, treeless fs texts k g b read y tells' so))

  one_parsed : (fs : Files) (texts : List (List ℕ)) (a b : Outcome) → HasRead words (Some look) fs texts → Parsed words look fs texts a → Parsed words look fs texts b → AreOne a b
  one_parsed fs texts a b read (inl (j, f, x, breaks, tells, is)) (inl (k, g, y, breaks', tells', so)) =
      let same = one_break built_in_names 0 0 texts j k f g built_in_table breaks breaks' in
      let first : BreaksAt built_in_names 0 0 texts k f = subst (λ (i : ℕ). BreaksAt built_in_names 0 0 texts i f) same.0 breaks in
      let told : Tells fs texts k f x = subst (λ (i : ℕ). Tells fs texts i f x) same.0 tells in
      subst (λ (o : Outcome). AreOne o b) (sym is) (subst (λ (o : Outcome). AreOne (Refused x) o) (sym so) (one_broken fs texts k f g x y read first breaks' same.1 told tells'))
  one_parsed fs texts a b read (inl (j, f, x, breaks, tells, is)) (inr (units, names, trees, h)) = absurd (trees_or_breaks built_in_names 0 0 texts units names j f built_in_table trees breaks)
  one_parsed fs texts a b read (inr (units, names, trees, h)) (inl (j, f, x, breaks, tells, is)) = absurd (trees_or_breaks built_in_names 0 0 texts units names j f built_in_table trees breaks)
  one_parsed fs texts a b read (inr (units, names, trees, h)) (inr (units', names', trees', g)) =
      let same = one_trees built_in_names 0 0 texts units' units names' names built_in_table trees' trees in
      let sound = subst (λ (us : List SourceUnit). Sound words look fs texts names us b) same.0 (subst (λ (ns : List (List ℕ)). Sound words look fs texts ns units' b) same.1 g) in
      as_one a b (one_sound words look fs texts names units (trees_table built_in_names 0 0 texts units names built_in_table trees) a b h sound)

  one_read : (fs : Files) (a b : Outcome) → AsksFew words fs → Read words look fs a → Read words look fs b → AreOne a b
  one_read fs a b few (inl (j, s, stops, tells)) (inl (k, t, stops', tells')) =
      let same = one_stop look 0 (inputs fs) j k s t stops stops' (is_read fs j s a tells) (is_read fs k t b tells') in
      inl (one_told fs k t a b (subst (λ (i : ℕ). TellsStop fs i t a) same.0 (subst (λ (s : Stop). TellsStop fs j s a) same.1 tells)) tells')
  one_read fs a b few (inl (k, s, stops, tells)) (inr (texts, held, h)) = absurd (is_read fs k s a tells (held_or_stops look 0 (inputs fs) texts k s held stops))
  one_read fs a b few (inr (texts, held, h)) (inl (k, s, stops, tells)) = absurd (is_read fs k s b tells (held_or_stops look 0 (inputs fs) texts k s held stops))
  one_read fs a b few (inr (xs, held, h)) (inr (ys, held', g)) =
      let same = one_held look 0 (inputs fs) ys xs held' held in
      one_parsed fs xs a b (record { asks = few; held = held }) h (subst (λ (zs : List (List ℕ)). Parsed words look fs zs b) same g)

  one_way : (fs : Files) (a b : Outcome) → Way words look fs a → Way words look fs b → AreOne a b
  one_way fs a b (inl (many, is)) (inl (also, so)) = inl (is ∙ sym so)
  one_way fs a b (inl (many, is)) (inr (inl ((n, run, few, long), so))) = absurd (omega (arith, many, few))
  one_way fs a b (inl (many, is)) (inr (inr (few, h))) = absurd (let low = few.few in omega (arith, many, low))
  one_way fs a b (inr (inl ((n, run, few, long), is))) (inl (many, so)) = absurd (omega (arith, many, few))
  one_way fs a b (inr (inl (long, is))) (inr (inl (also, so))) = inl (is ∙ sym so)
  one_way fs a b (inr (inl ((n, run, many, long), is))) (inr (inr (few, h))) = absurd (let low = few.short n run in omega (arith, long, low))
  one_way fs a b (inr (inr (few, h))) (inl (many, is)) = absurd (let low = few.few in omega (arith, many, low))
  one_way fs a b (inr (inr (few, h))) (inr (inl ((n, run, many, long), is))) = absurd (let low = few.short n run in omega (arith, long, low))
  one_way fs a b (inr (inr (few, h))) (inr (inr (also, g))) = one_read fs a b few h g

  one_sense : (a b : Outcome) → Sense words look a → Sense words look b → AreOne a b
  one_sense a b (misuse m low is) (misuse n low' so) = inl (is ∙ ap Misused (one_lowest words m n low low') ∙ sym so)
  one_sense a b (misuse m low is) (other h so) = absurd (lowest_or_other words m low h)
  one_sense a b (misuse m low is) (asks fs h way) = absurd (lowest_or_asks words m fs low h)
  one_sense a b (other h is) (misuse m low so) = absurd (lowest_or_other words m low h)
  one_sense a b (other h is) (other g so) = inl (is ∙ sym so)
  one_sense a b (other h is) (asks fs g way) = absurd (other_or_asks words fs h g)
  one_sense a b (asks fs h way) (misuse m low so) = absurd (lowest_or_asks words m fs low h)
  one_sense a b (asks fs h way) (other g so) = absurd (other_or_asks words fs g h)
  one_sense a b (asks fs h way) (asks gs g way') = one_way fs a b way (subst (λ (fs : Files). Way words look fs b) (one_files words gs fs g h) way')

  pub one_outcome : (a b : Outcome) → ComesTo words (Some look) a → ComesTo words (Some look) b → AreOne a b
  one_outcome a b x y = one_sense a b (sense words look a x) (sense words look b y)
