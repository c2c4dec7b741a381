-- From what a command answers to the verdict on what is asked.
use Rattle.std.proofs.Common.{◌≡◌, ℕ, List, [], ◌∷◌, ◌++◌, map, take, drop, Result, Ok, Err, IfOk, sym, ap, ◌∙◌, subst, take-append-drop}
use Rattle.java_tree.specs.declared.fault.NoMemory.{NoMemory}
use Rattle.java_tree.specs.Plain as t
use Rattle.java_tree.specs.View.{unit_plain}
use Rattle.java_core.specs.View.{program_plain}
use Rattle.class_world.specs.declared.world.World.{World}
use Rattle.decl_table.specs.Program.{Program}
use Rattle.type_facts.specs.Facts.{Facts}
use Rattle.checker.specs.Checking.{AreAllFacts}
use Rattle.checker.specs.declared.check.CheckedProgram.{CheckedProgram}
use Rattle.generalize_declared.specs.declared.asked.CheckedSource.{CheckedSource}
use Rattle.generalize_declared.specs.declared.asked.Wish.{Wish}
use Rattle.generalize_declared.specs.declared.command.Answer.{Answer}
use Rattle.generalize_declared.specs.declared.command.Answer.TheVariants as answer
use Rattle.generalize_declared.specs.Plans as plans
use Rattle.extract_interface.specs.declared.command.Answer as extract
use Rattle.extract_interface.specs.declared.asked.Wish as wanted
use Rattle.extract_interface.specs.Plans.{Answers}
use Rattle.refactor_app.specs.declared.decide.Output.{Output}
use Rattle.refactor_app.specs.declared.decide.Verdict.{Verdict}
use Rattle.refactor_app.specs.Extractions as extractions
use Rattle.refactor_app.specs.Words.{Become, ExtractRequest, Request}
use Rattle.refactor_app.specs.Changes.{IsSource, IsWish, Said, Says, said_of}
use Rattle.refactor_app.specs.Decided.{Adds, AreOutputs, Decides, DecidesExtract, IsExtractVerdict, IsOutput, IsVerdict, SaysSo}

-- the files of both parts of a list are those of the list
pub whole : {X : Type 0} (n : ℕ) (xs us ls : List X) → us ≡ take n xs → ls ≡ drop n xs → us ++ ls ≡ xs
whole n xs us ls front back = ap (λ u. u ++ ls) front ∙ ap (λ l. take n xs ++ l) back ∙ take-append-drop n xs

pub decided : (r : Result Verdict NoMemory) (q : Request) (texts table : List (List ℕ)) (units : List t.SourceUnit) (p : Program) (w : World) (c : CheckedProgram) (s : CheckedSource) (x : Wish)
    (are : (ℕ → Facts) → Type 0) → IsSource s q.files texts table units (program_plain c.core) c.operations → IsWish q x → ((fs : ℕ → Facts) → AreAllFacts p w fs → are fs)
    → IfOk r (SaysSo q s x are) → IfOk r (Decides q texts table units p w c)
decided (Ok v) q texts table units p w c s x are source wish facts (a, says, told) = (
  a,
  record { source = s; is_source = source; wish = x; is_wish = wish; says = λ fs all. says fs (facts fs all) },
  subst (λ us. IsVerdict q texts us a v) source.has_units (subst (λ ts. IsVerdict q ts (map unit_plain s.units.now) a v) source.has_texts told),
)
decided (Err e) q texts table units p w c s x are source wish facts told = told

-- what `generalize` answers, as it is said
pub as_said : (fs : ℕ → Facts) (s : CheckedSource) (x : Wish) (out ty : List ℕ) (a : Answer) → plans.Answers fs s x ty a → Says fs s x (Become out ty) (said_of a)
as_said fs s x out ty (answer.Against a) h = h
as_said fs s x out ty (answer.Changed new) h = h

pub says_so : (r : Result Verdict NoMemory) (q : Request) (s : CheckedSource) (x : Wish) (are : (ℕ → Facts) → Type 0) (a : Said) → ((fs : ℕ → Facts) → are fs → Says fs s x q.aim a)
    → IfOk r (IsVerdict q s.texts.now (map unit_plain s.units.now) a) → IfOk r (SaysSo q s x are)
says_so (Ok v) q s x are a says told = (a, says, told)
says_so (Err e) q s x are a says told = told

-- ---- an extraction

pub extract_decided : (r : Result Verdict NoMemory) (q : ExtractRequest) (texts table : List (List ℕ)) (units : List t.SourceUnit) (w : World) (c : CheckedProgram) (s : CheckedSource)
    (x : wanted.Wish) (a : extract.Answer) → IsSource s q.files texts table units (program_plain c.core) c.operations → extractions.IsWish q x → Answers w s x a
    → IfOk r (IsExtractVerdict q s.texts.now (map unit_plain s.units.now) a) → IfOk r (DecidesExtract q texts table units w c)
extract_decided (Ok v) q texts table units w c s x a source wish says told = (
  a,
  record { source = s; is_source = source; wish = x; is_wish = wish; says = says },
  subst (λ us. IsExtractVerdict q texts us a v) source.has_units (subst (λ ts. IsExtractVerdict q ts (map unit_plain s.units.now) a v) source.has_texts told),
)
extract_decided (Err e) q texts table units w c s x a source wish says told = told

-- one more file is to be written
pub outputs_more : (ns ts : List (List ℕ)) (os : List Output) (n t : List ℕ) (o : Output) → AreOutputs ns ts os → IsOutput n t o
    → AreOutputs (ns ++ (n ∷ [])) (ts ++ (t ∷ [])) (os ++ (o ∷ []))
outputs_more [] [] [] n t o are is = (is, tt)
outputs_more [] [] (p ∷ os) n t o are is = absurd are
outputs_more [] (u ∷ ts) os n t o are is = absurd are
outputs_more (m ∷ ns) [] os n t o are is = absurd are
outputs_more (m ∷ ns) (u ∷ ts) [] n t o are is = absurd are
outputs_more (m ∷ ns) (u ∷ ts) (p ∷ os) n t o (first, are) is = (first, outputs_more ns ts os n t o are is)

-- the files of the user are to be written, and one more
pub outputs_all : (ns ts xs : List (List ℕ)) (n t : List ℕ) (before after all : List Output) (o : Output) → before ≡ [] → Adds ns ts before after → xs ≡ ts → IsOutput n t o
    → all ≡ after ++ (o ∷ []) → AreOutputs (ns ++ (n ∷ [])) (xs ++ (t ∷ [])) all
outputs_all ns ts xs n t before after all o empty (more, is, are) same last all_is =
    let after_is : after ≡ more = is ∙ ap (λ (b : List Output). b ++ more) empty in
    subst (λ (zs : List Output). AreOutputs (ns ++ (n ∷ [])) (xs ++ (t ∷ [])) zs) (sym (all_is ∙ ap (λ (a : List Output). a ++ (o ∷ [])) after_is))
    (subst (λ (ys : List (List ℕ)). AreOutputs (ns ++ (n ∷ [])) (ys ++ (t ∷ [])) (more ++ (o ∷ []))) (sym same) (outputs_more ns ts more n t o are last))
