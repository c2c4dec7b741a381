-- Entries and the pool.
use Rattle.std.proofs.Common.{◌≡◌, ℕ, zero, suc, ◌+◌, ◌-◌, ◌<◌, ◌≤◌, List, [], ◌∷◌, ◌++◌, length, get_or, take, drop, set, Some, None, refl, sym, ap, ◌∙◌, arith, append_assoc, length-drop}
use Rattle.std.proofs.lemmas.Bool.{cond-true, cond-false}
use Rattle.std.proofs.lemmas.List.{take-append-le, drop-append-le, get_or_default, append-nil, map-append, map-set}
use Rattle.std.proofs.lemmas.List.Elements.{All-push}
use Rattle.std.proofs.Math.Seq.{drop-append_seam, take-append_seam}
use Rattle.tool_files.specs.declared.mem.Part.{Part}
use Rattle.tool_files.specs.declared.mem.Entry.{Entry}
use Rattle.tool_files.specs.Memory.{File, look_up, put_at}
use Rattle.tool_files.specs.Pool.{part_of, file_of, files_of, IsPart, IsEntry, AreEntries, IsPlaceOf}
use Rattle.tool_files.proofs.Look.{same_name, other_name}

IsPlaceOf-tail : (pool : List ℕ) (e : Entry) (es : List Entry) (name : List ℕ) (i : ℕ) → IsPlaceOf pool (e ∷ es) name (suc i) → IsPlaceOf pool es name i
IsPlaceOf-tail pool e es name i h = (omega (arith, h.0), h.1, λ k l d. h.2 (suc k) (omega arith) d)

-- the bytes of a name are those of its first entry
pub look_up-place : (pool : List ℕ) (es : List Entry) (name : List ℕ) (i : ℕ) (d : Entry) → IsPlaceOf pool es name i → look_up (files_of pool es) name ≡ Some (part_of pool (get_or es i d).bytes)
look_up-place pool [] name i d h = absurd (omega (arith, h.0))
look_up-place pool (e ∷ es) name zero d h = cond-true _ _ _ (same_name _ _ (h.1 d))
look_up-place pool (e ∷ es) name (suc i) d h =
    cond-false _ _ _ (other_name _ _ (h.2 0 (omega arith) d)) ∙ look_up-place pool es name i d (IsPlaceOf-tail pool e es name i h)

-- a name that has a place has bytes
pub IsPlaceOf-some : (pool : List ℕ) (es : List Entry) (name : List ℕ) (i : ℕ) → IsPlaceOf pool es name i → look_up (files_of pool es) name ≡ None → ⊥
IsPlaceOf-some pool es name i h none =
    let any : Entry = record { name = record { start = 0; end = 0 }; bytes = record { start = 0; end = 0 } } in
    cc (look_up-place pool es name i any h, none)

-- a name that no entry has is absent
pub look_up-nowhere : (pool : List ℕ) (es : List Entry) (name : List ℕ) → ((k : ℕ) (d : Entry) → k < length es → part_of pool (get_or es k d).name ≡ name → ⊥) → look_up (files_of pool es) name ≡ None
look_up-nowhere pool [] name h = refl
look_up-nowhere pool (e ∷ es) name h =
    cond-false _ _ _ (other_name _ _ (h 0 e (omega arith))) ∙ look_up-nowhere pool es name (λ k d l. h (suc k) d (omega arith))

-- a write to a name that has an entry
pub put_at-place : (pool : List ℕ) (es : List Entry) (name bytes : List ℕ) (i : ℕ) (d : Entry) → IsPlaceOf pool es name i → put_at name bytes (files_of pool es) ≡ set (files_of pool es) i (record { name = name; bytes = bytes })
put_at-place pool [] name bytes i d h = absurd (omega (arith, h.0))
put_at-place pool (e ∷ es) name bytes zero d h = cond-true _ _ _ (same_name _ _ (h.1 d))
put_at-place pool (e ∷ es) name bytes (suc i) d h =
    cond-false _ _ _ (other_name _ _ (h.2 0 (omega arith) d)) ∙ ap (λ r. file_of pool e ∷ r) (put_at-place pool es name bytes i d (IsPlaceOf-tail pool e es name i h))

-- what is appended to the pool changes no part of it
pub part_of-append : (pool more : List ℕ) (p : Part) → IsPart (length pool) p → part_of (pool ++ more) p ≡ part_of pool p
part_of-append pool more p h =
    let inside : p.end - p.start ≤ length (drop p.start pool) = omega (arith, length-drop p.start pool, h.0, h.1) in
    ap (take (p.end - p.start)) (drop-append-le p.start pool more (omega (arith, h.0, h.1))) ∙ take-append-le (p.end - p.start) (drop p.start pool) more inside

pub files_of-append : (pool more : List ℕ) (es : List Entry) → AreEntries (length pool) es → files_of (pool ++ more) es ≡ files_of pool es
files_of-append pool more [] h = refl
files_of-append pool more (e ∷ es) h =
    let name : part_of (pool ++ more) e.name ≡ part_of pool e.name = part_of-append pool more e.name (h 0 e (omega arith)).0 in
    let bytes : part_of (pool ++ more) e.bytes ≡ part_of pool e.bytes = part_of-append pool more e.bytes (h 0 e (omega arith)).1 in
    let rest = files_of-append pool more es (λ k d l. h (suc k) d (omega arith)) in
    cc

-- a part that was just appended
pub part_of-fresh : (pool bytes more : List ℕ) (p : Part) → p.start ≡ length pool → p.end ≡ length pool + length bytes → part_of ((pool ++ bytes) ++ more) p ≡ bytes
part_of-fresh pool bytes more p s e =
    let l : p.end - p.start ≡ length bytes = omega arith in
    rw (l, s, append_assoc pool bytes more, drop-append_seam pool (bytes ++ more)) (take-append_seam bytes more)

-- the name of the entry that a loop reads at i
pub named_at : (pool : List ℕ) (es : List Entry) (name part : List ℕ) (i : ℕ) (e : Entry) → i < length es → part ≡ part_of pool (get_or es i e).name → part ≡ name → (d : Entry) → part_of pool (get_or es i d).name ≡ name
named_at pool es name part i e l read same d = ap (λ (x : Entry). part_of pool x.name) (get_or_default es i d e l) ∙ sym read ∙ same

pub unnamed_at : (pool : List ℕ) (es : List Entry) (name part : List ℕ) (i : ℕ) (e : Entry) → i < length es → part ≡ part_of pool (get_or es i e).name → (part ≡ name → ⊥) → (d : Entry) → part_of pool (get_or es i d).name ≡ name → ⊥
unnamed_at pool es name part i e l read other d same = other (read ∙ ap (λ (x : Entry). part_of pool x.name) (get_or_default es i e d l) ∙ same)

pub part_of-last : (pool bytes : List ℕ) (p : Part) → p.start ≡ length pool → p.end ≡ length pool + length bytes → part_of (pool ++ bytes) p ≡ bytes
part_of-last pool bytes p s e = ap (λ q. part_of q p) (sym (append-nil (pool ++ bytes))) ∙ part_of-fresh pool bytes [] p s e

pub file_of-parts : (pool name bytes : List ℕ) (e : Entry) → part_of pool e.name ≡ name → part_of pool e.bytes ≡ bytes → file_of pool e ≡ record { name = name; bytes = bytes }
file_of-parts pool name bytes e n b = cc

-- entries of a list are entries of a longer one
pub AreEntries-more : (n m : ℕ) (es : List Entry) → n ≤ m → AreEntries n es → AreEntries m es
AreEntries-more n m es l are k d w =
    let old = are k d w in
    ((old.0.0, omega (arith, old.0.1)), (old.1.0, omega (arith, old.1.1)))

pub AreEntries-push : (n m : ℕ) (es : List Entry) (e : Entry) → n ≤ m → IsEntry m e → AreEntries n es → AreEntries m (es ++ e ∷ [])
AreEntries-push n m es e l is are = All-push (IsEntry m) es e (AreEntries-more n m es l are) is

-- the pool grew, and the new entry is the file f
module _ (pool more new : List ℕ) (grown : new ≡ pool ++ more) (e : Entry) (f : File) (laid : file_of new e ≡ f) (es : List Entry) (are : AreEntries (length pool) es) where
  files_of-grown : files_of new es ≡ files_of pool es
  files_of-grown = rw grown (files_of-append pool more es are)

  pub files_of-push : files_of new (es ++ e ∷ []) ≡ files_of pool es ++ f ∷ []
  files_of-push =
      map-append (file_of new) es (e ∷ [])
      ∙ (ap (λ fs. fs ++ file_of new e ∷ []) files_of-grown ∙ ap (λ (g : File). files_of pool es ++ g ∷ []) laid)

  pub files_of-set : (i : ℕ) → files_of new (set es i e) ≡ set (files_of pool es) i f
  files_of-set i =
      map-set (file_of new) es i e
      ∙ (ap (λ fs. set fs i (file_of new e)) files_of-grown ∙ ap (λ (g : File). set (files_of pool es) i g) laid)
