-- The declarations of a file and of a program, one behind the other.
use Rattle.std.proofs.Common.{◌≡◌, ℕ, zero, suc, ◌+◌, ◌<◌, ◌≤◌, Bool, List, [], ◌∷◌, ◌++◌, map, length, drop, get_or, slice_get, Some, refl, sym, ap, ◌∙◌, arith, append_assoc}
use Rattle.std.proofs.lemmas.List.{drop_more, drop_all, length-map}
use Rattle.java_tree.specs.declared.tree.TypeDecl as declared
use Rattle.java_tree.specs.declared.tree.SourceUnit as declared_unit
use Rattle.java_tree.specs.View.{decl_plain, unit_plain}
use Rattle.class_world.specs.declared.world.World.{World}
use Rattle.type_names.specs.Known.{File}
use Rattle.type_names.specs.Tables.{files_in}
use Rattle.written_types.specs.Places.{Place}
use Rattle.type_headers.specs.Declared.{Declaration, declarations_from}
use Rattle.program_world.specs.Steps.{with_type, with_types, declared_in, AreFrom}

next_item : {A : Type 0} (xs : List A) (i : ℕ) (x : A) → i < length xs → x ≡ get_or xs i x → drop i xs ≡ x ∷ drop (i + 1) xs
next_item xs i x h e = drop_more xs i x h ∙ ap (λ y. y ∷ drop (i + 1) xs) (sym e)

-- ---- the types of a file

abbrev pub left : (Declaration → Place) → ℕ → File → List declared.TypeDecl → ℕ → World → World
left at number f ds i w = with_types at (declared_in number f (map decl_plain (drop i ds))) w

pub type_passed : (at : Declaration → Place) (number : ℕ) (f : File) (ds : List declared.TypeDecl) (i : ℕ) (d : declared.TypeDecl) (w more all : World)
    → i < length ds → d ≡ get_or ds i d
    → more ≡ with_type (at (record { file = f; number = number; decl = decl_plain d })) (record { file = f; number = number; decl = decl_plain d }) w
    → left at number f ds i w ≡ all → left at number f ds (i + 1) more ≡ all
type_passed at number f ds i d w more all lt is added so_far =
    ap (left at number f ds (i + 1)) added ∙ ap (λ xs. with_types at (declared_in number f (map decl_plain xs)) w) (sym (next_item ds i d lt is)) ∙ so_far

pub types_passed : (at : Declaration → Place) (number : ℕ) (f : File) (ds : List declared.TypeDecl) (i : ℕ) (w all : World) → length ds ≤ i → left at number f ds i w ≡ all → w ≡ all
types_passed at number f ds i w all past so_far = ap (λ xs. with_types at (declared_in number f (map decl_plain xs)) w) (sym (drop_all i ds past)) ∙ so_far

-- ---- the files

with_both : (at : Declaration → Place) (xs ys : List Declaration) (w : World) → with_types at (xs ++ ys) w ≡ with_types at ys (with_types at xs w)
with_both at [] ys w = refl
with_both at (x ∷ xs) ys w = with_both at xs ys (with_type (at x) x w)

abbrev pub left_in : (Declaration → Place) → Bool → List declared_unit.SourceUnit → ℕ → ℕ → World → World
left_in at user us number i w = with_types at (declarations_from number (files_in user (map unit_plain (drop i us)))) w

pub file_passed : (at : Declaration → Place) (user : Bool) (us : List declared_unit.SourceUnit) (first i number : ℕ) (u : declared_unit.SourceUnit) (w more all : World)
    → i < length us → u ≡ get_or us i u → number ≡ first + i
    → more ≡ with_types at (declared_in number (record { unit = unit_plain u; user = user }) (unit_plain u).types) w
    → left_in at user us (first + i) i w ≡ all → left_in at user us (first + (i + 1)) (i + 1) more ≡ all
file_passed at user us first i number u w more all lt is here added so_far =
    let own : ℕ → List Declaration = λ n. declared_in n (record { unit = unit_plain u; user = user }) (unit_plain u).types in
    let rest : ℕ → List Declaration = λ n. declarations_from n (files_in user (map unit_plain (drop (i + 1) us))) in
    let next : first + (i + 1) ≡ first + i + 1 = omega arith in
    ap (left_in at user us (first + (i + 1)) (i + 1)) (added ∙ ap (λ n. with_types at (own n) w) here)
    ∙ ap (λ n. with_types at (rest n) (with_types at (own (first + i)) w)) next
    ∙ sym (with_both at (own (first + i)) (rest (first + i + 1)) w)
    ∙ ap (λ xs. with_types at (declarations_from (first + i) (files_in user (map unit_plain xs))) w) (sym (next_item us i u lt is))
    ∙ so_far

-- the file at a place among those of units
pub file_at : (user : Bool) (us : List declared_unit.SourceUnit) (i : ℕ) (u : declared_unit.SourceUnit) → i < length us → u ≡ get_or us i u
    → slice_get (files_in user (map unit_plain us)) i ≡ Some (record { unit = unit_plain u; user = user })
file_at user [] i u lt is = absurd (omega (arith, lt))
file_at user (v ∷ us) zero u lt is = ap (λ (v : declared_unit.SourceUnit). Some (record { unit = unit_plain v; user = user })) (sym is)
file_at user (v ∷ us) (suc i) u lt is = file_at user us i u (omega (arith, lt)) is

-- ---- user files and library files

declarations_both : (i : ℕ) (fs gs : List File) → declarations_from i (fs ++ gs) ≡ declarations_from i fs ++ declarations_from (i + length fs) gs
declarations_both i [] gs = (let same : i ≡ i + length {A = File} [] = omega arith in ap (λ n. declarations_from n gs) same)
declarations_both i (f ∷ fs) gs =
    let next : i + 1 + length fs ≡ i + length (f ∷ fs) = omega arith in
    ap (λ xs. declared_in i f f.unit.types ++ xs) (declarations_both (i + 1) fs gs ∙ ap (λ n. declarations_from (i + 1) fs ++ declarations_from n gs) next)
    ∙ sym (append_assoc (declared_in i f f.unit.types) (declarations_from (i + 1) fs) (declarations_from (i + length (f ∷ fs)) gs))

pub both_passed : (at : Declaration → Place) (fs gs : List File) (number : ℕ) (w more all : World) → number ≡ length fs
    → more ≡ with_types at (declarations_from 0 fs) w → all ≡ with_types at (declarations_from number gs) more → all ≡ with_types at (declarations_from 0 (fs ++ gs)) w
both_passed at fs gs number w more all size first second =
    let same : number ≡ 0 + length fs = omega (arith, size) in
    second ∙ ap (with_types at (declarations_from number gs)) first
    ∙ ap (λ n. with_types at (declarations_from n gs) (with_types at (declarations_from 0 fs) w)) same
    ∙ sym (with_both at (declarations_from 0 fs) (declarations_from (0 + length fs) gs) w)
    ∙ ap (λ xs. with_types at xs w) (sym (declarations_both 0 fs gs))

pub front_from : (fs gs : List File) → AreFrom 0 (fs ++ gs) fs
front_from fs gs k f e = (let same : 0 + k ≡ k = omega arith in ap (slice_get (fs ++ gs)) same ∙ front fs k e)
  where
    front : (fs : List File) (k : ℕ) → slice_get fs k ≡ Some f → slice_get (fs ++ gs) k ≡ Some f
    front [] k e = absurd (cc e)
    front (g ∷ fs) zero e = e
    front (g ∷ fs) (suc k) e = front fs k e

pub behind_from : (fs gs : List File) (number : ℕ) → number ≡ length fs → AreFrom number (fs ++ gs) gs
behind_from fs gs number size k f e = (let same : number + k ≡ length fs + k = omega (arith, size) in ap (slice_get (fs ++ gs)) same ∙ behind fs ∙ e)
  where
    behind : (fs : List File) → slice_get (fs ++ gs) (length fs + k) ≡ slice_get gs k
    behind [] = (let same : length {A = File} [] + k ≡ k = omega arith in ap (slice_get gs) same)
    behind (g ∷ fs) = (let next : length (g ∷ fs) + k ≡ suc (length fs + k) = omega arith in ap (slice_get ((g ∷ fs) ++ gs)) next ∙ behind fs)

pub as_many : (user : Bool) (us : List declared_unit.SourceUnit) → length us ≡ length (files_in user (map unit_plain us))
as_many user us = sym (length-map (map unit_plain us) (λ u. record { unit = u; user = user }) ∙ length-map us unit_plain)
