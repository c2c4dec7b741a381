-- Words break one lowest rule, or ask for one thing.
use Rattle.std.proofs.Common.{◌≡◌, ℕ, inl, inr, List, ◌∷◌, get_or, refl, sym, ◌∙◌, ap, subst}
use Rattle.std.specs.Prelude.{if◌then◌else◌, ◌==◌}
use Rattle.std.proofs.lemmas.Bool.{cases_order}
use Rattle.command_words.specs.declared.table.Command.{Command}
use Rattle.command_words.specs.declared.table.Command.TheVariants as c
use Rattle.command_words.specs.Table.{word_of, parts_of}
use Rattle.command_words.specs.Rules.{Meets, IsLowest}
use Rattle.refactor_app.specs.Words.{Aim, Become, Types, aim_command, ExtractRequest, Files, Request, Asks, AsksCheck, AsksExtract, AsksSteps, Uses, AskOther}

-- the command whose word begins with this byte
abbrev command_at : ℕ → Command
command_at b =
    if b == 97 then c.Allowed
    else if b == 99 then c.Check
    else if b == 101 then c.ExtractInterface
    else if b == 103 then c.Generalize
    else if b == 105 then c.InferTypeArguments
    else if b == 112 then c.PullUp
    else if b == 114 then c.Run
    else c.Workload

abbrev command_of : List ℕ → Command
command_of w = command_at (get_or w 0 0)

back : (x : Command) → command_of (word_of x) ≡ x
back c.Check = refl
back c.Run = refl
back c.Allowed = refl
back c.Generalize = refl
back c.ExtractInterface = refl
back c.PullUp = refl
back c.InferTypeArguments = refl
back c.Workload = refl

one_command : (x y : Command) → word_of x ≡ word_of y → x ≡ y
one_command x y e = sym (back x) ∙ ap command_of e ∙ back y

pub one_split : (x y : Command) (r s : List (List ℕ)) → word_of x ∷ r ≡ word_of y ∷ s → (x ≡ y) × (r ≡ s)
one_split x y r s e =
    let word : word_of x ≡ word_of y = cc in
    let rest : r ≡ s = cc in
    (one_command x y word, rest)

module _ (words : List (List ℕ)) (x y : Command) (r s : List (List ℕ)) (e : words ≡ word_of x ∷ r) (f : words ≡ word_of y ∷ s) where
  same_met : (n : ℕ) → Meets x (parts_of r) n → Meets y (parts_of s) n
  same_met n h =
      let same = one_split x y r s (sym e ∙ f) in
      subst (λ s. Meets y (parts_of s) n) same.1 (subst (λ x. Meets x (parts_of r) n) same.0 h)

-- the words break no rule
record Meet (words : List (List ℕ)) : Type 0 where
  command : Command
  rest : List (List ℕ)
  are : words ≡ word_of command ∷ rest
  meets : (n : ℕ) → Meets command (parts_of rest) n

asked : (words : List (List ℕ)) (fs : Files) → Uses words fs → Meet words
asked words fs (inl (q, h, is)) = record { command = aim_command q.aim; rest = h.rest; are = h.are; meets = h.meets }
asked words fs (inr (inl h)) = record { command = c.Check; rest = h.rest; are = h.are; meets = h.meets }
asked words fs (inr (inr (inl (n, h)))) = record { command = c.Run; rest = h.asks.rest; are = h.asks.are; meets = h.asks.meets }
asked words fs (inr (inr (inr (q, h, is)))) = record { command = c.ExtractInterface; rest = h.rest; are = h.are; meets = h.meets }

asked_other : (words : List (List ℕ)) → AskOther words → Meet words
asked_other words h = record { command = h.command; rest = h.rest; are = h.are; meets = h.meets }

broken_or_met : (words : List (List ℕ)) (n : ℕ) → IsLowest words n → Meet words → ⊥
broken_or_met words n (inl (is, none)) m = none (m.command, m.rest, m.are)
broken_or_met words n (inr (x, r, e, broken, below)) m = broken (same_met words m.command x m.rest r m.are e n (m.meets n))

pub lowest_or_asks : (words : List (List ℕ)) (n : ℕ) (fs : Files) → IsLowest words n → Uses words fs → ⊥
lowest_or_asks words n fs low h = broken_or_met words n low (asked words fs h)

pub lowest_or_other : (words : List (List ℕ)) (n : ℕ) → IsLowest words n → AskOther words → ⊥
lowest_or_other words n low h = broken_or_met words n low (asked_other words h)

other_aim : (words : List (List ℕ)) (other : AskOther words) (a : Aim) → other.command ≡ aim_command a → ⊥
other_aim words other (Become out ty) e = other.no_change e
other_aim words other Types e = other.no_types e

pub other_or_asks : (words : List (List ℕ)) (fs : Files) → AskOther words → Uses words fs → ⊥
other_or_asks words fs other (inl (q, h, is)) = other_aim words other q.aim (one_split other.command (aim_command q.aim) other.rest h.rest (sym other.are ∙ h.are)).0
other_or_asks words fs other (inr (inl h)) = other.no_check (one_split other.command c.Check other.rest h.rest (sym other.are ∙ h.are)).0
other_or_asks words fs other (inr (inr (inl (n, h)))) = other.no_run (one_split other.command c.Run other.rest h.asks.rest (sym other.are ∙ h.asks.are)).0
other_or_asks words fs other (inr (inr (inr (q, h, is)))) = other.no_extraction (one_split other.command c.ExtractInterface other.rest h.rest (sym other.are ∙ h.are)).0

not_check : (a : Aim) → aim_command a ≡ c.Check → ⊥
not_check (Become out ty) e = absurd (cc)
not_check Types e = absurd (cc)

not_run : (a : Aim) → aim_command a ≡ c.Run → ⊥
not_run (Become out ty) e = absurd (cc)
not_run Types e = absurd (cc)

not_extraction : (a : Aim) → aim_command a ≡ c.ExtractInterface → ⊥
not_extraction (Become out ty) e = absurd (cc)
not_extraction Types e = absurd (cc)

pub change_or_check : (words : List (List ℕ)) (q : Request) (fs : Files) → Asks words q → AsksCheck words fs → ⊥
change_or_check words q fs g h = not_check q.aim (one_split (aim_command q.aim) c.Check g.rest h.rest (sym g.are ∙ h.are)).0

pub change_or_run : (words : List (List ℕ)) (q : Request) (n : ℕ) (fs : Files) → Asks words q → AsksSteps words fs n → ⊥
change_or_run words q n fs g h = not_run q.aim (one_split (aim_command q.aim) c.Run g.rest h.asks.rest (sym g.are ∙ h.asks.are)).0

pub check_or_run : (words : List (List ℕ)) (fs : Files) (n : ℕ) (gs : Files) → AsksCheck words fs → AsksSteps words gs n → ⊥
check_or_run words fs n gs g h = let same = (one_split c.Check c.Run g.rest h.asks.rest (sym g.are ∙ h.asks.are)).0 in absurd (cc)

pub change_or_extraction : (words : List (List ℕ)) (q : Request) (x : ExtractRequest) → Asks words q → AsksExtract words x → ⊥
change_or_extraction words q x g h = not_extraction q.aim (one_split (aim_command q.aim) c.ExtractInterface g.rest h.rest (sym g.are ∙ h.are)).0

pub check_or_extraction : (words : List (List ℕ)) (fs : Files) (x : ExtractRequest) → AsksCheck words fs → AsksExtract words x → ⊥
check_or_extraction words fs x g h = let same = (one_split c.Check c.ExtractInterface g.rest h.rest (sym g.are ∙ h.are)).0 in absurd (cc)

pub run_or_extraction : (words : List (List ℕ)) (n : ℕ) (fs : Files) (x : ExtractRequest) → AsksSteps words fs n → AsksExtract words x → ⊥
run_or_extraction words n fs x g h = let same = (one_split c.Run c.ExtractInterface g.asks.rest h.rest (sym g.asks.are ∙ h.are)).0 in absurd (cc)

pub one_lowest : (words : List (List ℕ)) (m n : ℕ) → IsLowest words m → IsLowest words n → m ≡ n
one_lowest words m n (inl (is, none)) (inl (so, none')) = is ∙ sym so
one_lowest words m n (inl (is, none)) (inr (x, r, e, broken, below)) = absurd (none (x, r, e))
one_lowest words m n (inr (x, r, e, broken, below)) (inl (is, none)) = absurd (none (x, r, e))
one_lowest words m n (inr (x, r, e, broken, below)) (inr (y, s, f, broken', below')) = elim (cases_order m n) [
  | inl same ↦ same
  | inr (inl less) ↦ absurd (broken (same_met words y x s r f e m (below' m less)))
  | inr (inr more) ↦ absurd (broken' (same_met words x y r s e f n (below n more)))
]
