-- The links of a plan, and its edits over lists that are the same.
use Rattle.std.proofs.Common.{◌≡◌, ℕ, ◌<◌, List, refl, subst}
use Rattle.std.specs.Prelude.{slice_get}
use Rattle.java_core.specs.View.{program_plain}
use Rattle.java_core.specs.declared.program.CoreFile.{CoreFile}
use Rattle.edit_writer.specs.declared.edits.Edit.{Edit}
use Rattle.type_facts.specs.Facts.{IsReady}
use Rattle.type_facts.specs.declared.questions.Questions.{Questions}
use Rattle.kept_places.specs.declared.links.Link.{Link}
use Rattle.extract_constraints.specs.Program.{links_of}
use Rattle.extract_constraints.specs.Told.{AreTold, Told}
use Rattle.generalize_declared.specs.declared.asked.CheckedSource.{CheckedSource}
use Rattle.extract_interface.specs.declared.asked.Wish.{Wish}
use Rattle.extract_interface.specs.declared.plan.Plan.{Plan}
use Rattle.extract_interface.specs.Plans.{AreLinks, HasEdits}

pub are_links : (q : Questions) (s : CheckedSource) (x : Wish) (p : Plan) (links : List Link) → IsReady q
    → ((k : Told) → AreTold q k → links ≡ links_of k q.world.now p.class.number p.methods.now s.users (program_plain s.core.now)) → AreLinks q.world.now s x p links
are_links q s x p links ready are = record { questions = q; world = refl; ready = ready; are = are }

pub have_edits : (word : List ℕ) (p : Plan) (ks kept : List ℕ) (fs files : List CoreFile) (edits : List (List Edit)) (n : ℕ) → ks ≡ kept → fs ≡ files
    → ((i : ℕ) → i < n → HasEdits word p ks i (slice_get fs i) (slice_get edits i)) → (i : ℕ) → i < n → HasEdits word p kept i (slice_get files i) (slice_get edits i)
have_edits word p ks kept fs files edits n same alike have i low =
    subst (λ (k : List ℕ). HasEdits word p k i (slice_get files i) (slice_get edits i)) same
    (subst (λ (f : List CoreFile). HasEdits word p ks i (slice_get f i) (slice_get edits i)) alike (have i low))
