-- That there are facts of a program, by the excluded middle of what is asked of its world.
use Rattle.std.proofs.Common.{◌≡◌, ℕ, Option, Some, None, refl, ap, sym, ◌∙◌}
use Rattle.std.specs.Prelude.{slice_get}
use Rattle.class_world.proofs.Substs.{there_is}
use Rattle.java_tree.specs.declared.tree.Name.{Name}
use Rattle.class_world.specs.declared.world.World.{World}
use Rattle.class_world.specs.Sound.{IsSound}
use Rattle.built_in_types.specs.declared.words.Word.TheVariants.{Length}
use Rattle.built_in_types.specs.BuiltIns.{name_of}
use Rattle.type_names.specs.Known.{File}
use Rattle.type_names.specs.Sees.{meant}
use Rattle.decl_table.specs.Program.{Program, files, java}
use Rattle.type_facts.specs.Facts.{Facts}
use Rattle.type_facts.specs.Laws.{IsDecided}
use Rattle.type_facts.proofs.Existence.{test, tells, super_by, field_by, field_is, methods_by}
use Rattle.checker.specs.Checking.{AreFactsOf}
use Rattle.checker.specs.Laws.{HasOrder, HaveFacts, IsOneCheck, IsOneFlow}

-- what a name means in a file, if there is one
abbrev mean_in : Program → Option File → Name → Option ℕ
mean_in p None x = None
mean_in p (Some file) x = meant (java p) (files p) file x

module _ (p : Program) (w : World) (decided : IsDecided w) (sound : IsSound w) where
  abbrev facts_in : Option File → Facts
  facts_in file = record {
    world = w;
    length_name = name_of p.words Length;
    mean = mean_in p file;
    fits = λ s t. test (decided.fits s t);
    sub = λ s t. test (decided.sub s t);
    unchecked = λ s t. test (decided.unchecked s t);
    castable = λ s t. test (decided.castable s t);
    super_as = λ t g. (super_by w decided sound t g (decided.has_supers t)).0;
    field = λ t x. field_by w t x (decided.only t x);
    methods = λ c x n. (methods_by w decided c x n (decided.known c)).0;
    sees = λ c d. test (decided.sees c d);
  }

  are_facts : (k : ℕ) (file : File) (found : Option File) → slice_get (files p) k ≡ Some file → found ≡ Some file → AreFactsOf p w k (facts_in found)
  are_facts k file found at is = record {
    world = refl;
    length_name = refl;
    file = file;
    at = at;
    mean = λ x. ap (λ o. mean_in p o x) is;
    fits = λ s t. tells (decided.fits s t);
    sub = λ s t. tells (decided.sub s t);
    unchecked = λ s t. tells (decided.unchecked s t);
    castable = λ s t. tells (decided.castable s t);
    super_as = λ t g. (super_by w decided sound t g (decided.has_supers t)).1;
    field = λ t x. field_is w decided t x (decided.only t x);
    methods = λ c x n. (methods_by w decided c x n (decided.known c)).1;
    sees = λ c d. tells (decided.sees c d);
  }

pub have_facts : HaveFacts
have_facts p w decided sound = (
  λ k. facts_in p w decided sound (slice_get (files p) k),
  λ k within. let x = there_is (files p) k within in are_facts p w decided sound k x.0 (slice_get (files p) k) x.1 x.1,
)

pub one_check : IsOneCheck
one_check p w c d decided sound a b =
    let x = have_facts p w decided sound in
    a x.0 x.1 ∙ sym (b x.0 x.1)

pub has_order : HasOrder
has_order w decided = (λ s t. test (decided.sub s t), λ s t. tells (decided.sub s t))

pub one_flow : IsOneFlow
one_flow w x a b decided is so =
    let o = has_order w decided in
    is o.0 o.1 ∙ sym (so o.0 o.1)
