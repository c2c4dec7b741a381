-- From what `build` answers to what the judging of a program's declarations does.
use Rattle.std.proofs.Common.{◌≡◌, ℕ, inl, inr, List, map, take, drop, Result, Ok, Err, refl, sym, ◌∙◌, ap, subst}
use Rattle.std.proofs.lemmas.List.{take-map, drop-map}
use Rattle.java_tree.specs.declared.fault.Fault.{Fault}
use Rattle.java_tree.specs.declared.fault.Fault.TheVariants as fault
use Rattle.java_tree.specs.declared.tree.SourceUnit.{SourceUnit}
use Rattle.java_tree.specs.Plain as t
use Rattle.java_tree.specs.View.{unit_plain}
use Rattle.built_in_types.specs.BuiltIns.{with_words}
use Rattle.class_world.specs.declared.world.World.{World}
use Rattle.decl_table.specs.Program.{Program, IsRefusal, IsProgramWorld}
use Rattle.decl_table.specs.Judged.{IsProgram, IsBuilding}
use Rattle.member_table.specs.Table.{IsTabling}
use Rattle.checked_files.specs.Declarations.{IsOfFiles}
use Rattle.checked_files.specs.declared.declarations.Declared.{Declared}
use Rattle.checked_files.specs.Judged.{AreDeclaredAs, AreJudged}

module _ (users : ℕ) (names new : List (List ℕ)) (units user lib : List SourceUnit) (front : user ≡ take users units) (back : lib ≡ drop users units) where
  of_files : (p : Program) → new ≡ with_words names → IsProgram new (map unit_plain user) (map unit_plain lib) p → IsOfFiles users names (map unit_plain units) p
  of_files p named is =
      let first = ap (λ (us : List SourceUnit). map unit_plain us) front ∙ sym (take-map unit_plain users units) in
      let last = ap (λ (us : List SourceUnit). map unit_plain us) back ∙ sym (drop-map unit_plain users units) in
      subst (λ (us : List t.SourceUnit). IsProgram (with_words names) us (drop users (map unit_plain units)) p) first
      (subst (λ (us : List t.SourceUnit). IsProgram (with_words names) (map unit_plain user) us p) last
      (subst (λ (ns : List (List ℕ)). IsProgram ns (map unit_plain user) (map unit_plain lib) p) named is))

  world_holds : (p : Program) (w : World) → new ≡ with_words names → IsProgramWorld new p w → IsProgramWorld (with_words names) p w
  world_holds p w named h = subst (λ (ns : List (List ℕ)). IsProgramWorld ns p w) named h

  -- no rule is broken
  pub judged_world : (d : Declared) → new ≡ with_words names → IsBuilding new (map unit_plain user) (map unit_plain lib) (Ok d.world) → IsTabling d.world (Ok d.members)
      → AreDeclaredAs users names (map unit_plain units) d
  judged_world d named (p, is, world) (none, holds) = record {
    declared = record { program = p; world = d.world; files = of_files p named is; holds = world_holds p d.world named world; members = none };
    world = refl;
    members = holds;
  }

  -- one on declarations is, or memory ran out
  pub judged_fault : (f : Fault) → ((◌≡◌ {A = Result World Fault} (Err f) (Err fault.NoMemory) → ⊥) → new ≡ with_words names) → IsBuilding new (map unit_plain user) (map unit_plain lib) (Err f)
      → AreJudged users names (map unit_plain units) (Err f)
  judged_fault fault.NoMemory named h = tt
  judged_fault (fault.Broken b) named (p, is, refusal) =
      let table = named (λ e. cc) in
      record { program = p; files = of_files p table is; refusal = inl (subst (λ (ns : List (List ℕ)). IsRefusal ns p b) table refusal) }

  -- one on members is, or memory ran out
  pub judged_members : (w : World) (f : Fault) → new ≡ with_words names → IsBuilding new (map unit_plain user) (map unit_plain lib) (Ok w) → IsTabling w (Err f)
      → AreJudged users names (map unit_plain units) (Err f)
  judged_members w fault.NoMemory named h t = tt
  judged_members w (fault.Broken b) named (p, is, world) first = record { program = p; files = of_files p named is; refusal = inr (w, world_holds p w named world, first) }
