-- The rules, from what the code asks.
use Rattle.std.proofs.Common.{◌≡◌, ◌≢◌, ◌<◌, ℕ, zero, suc, Bool, true, false, ◌||◌, get_or, option_map, List, [], ◌∷◌, ◌++◌, length, map, take, drop, inl, inr, Some, None, slice_get, IsTrue, ◌↔◌, refl, sym, ap, ◌∙◌, arith, subst, append_assoc, length-append, codes}
use Rattle.std.proofs.lemmas.List.{take_at, drop_at, length-map}
use Rattle.std.proofs.lemmas.Option.{slice_get-map, slice_get-get_or, slice_get_within}
use Rattle.std.specs.Str.{bytes_eq}
use Rattle.std.specs.String.{string_bytes}
use Rattle.std.specs.declared.string.String.{String}
use Rattle.std.specs.declared.alloc.Global.{Global}
use Rattle.java_tree.specs.Names.{AreDistinct}
use Rattle.command_words.specs.declared.table.Command.{Command}
use Rattle.command_words.specs.declared.table.Command.TheVariants as command
use Rattle.command_words.specs.declared.table.Role.TheVariants as role
use Rattle.command_words.specs.Names.{is_among, IsPath, folder_of, within, source_name}
use Rattle.command_words.specs.Table.{role_of, Parts}
use Rattle.command_words.specs.Rules.{IsIn, files, HasShape, HasNumbers, HasUsers, HasEquals, FitsOut, HasPaths, KeepsInputs, HasIdentifiers, FitsFile, HasDistinctMembers, NamesPlaces, Meets}
use Rattle.command_words.specs.Scan.{AllFrom, AreAllPaths, IsWritten, IsCreated, Spares, members_of, MeetsFound}
use Rattle.command_words.proofs.Lists.{each_is, all_both, each_among, first_among, or_later, same, itself}
use Rattle.command_words.proofs.Sets.{none_twice}

-- ---- parts

pub same_parts : (a b c d : List (List ℕ)) (e f : List (List ℕ)) (g h : Bool) → a ≡ b → g ≡ h → c ≡ d → e ≡ f
    → let x : Parts = record { own = a; dashed = g; users = c; libs = e } in let y : Parts = record { own = b; dashed = h; users = d; libs = f } in x ≡ y
same_parts a b c d e f g h p q r s = cc

-- ---- names in a folder

front_cut : (a x y : List ℕ) → a ++ x ≡ a ++ y → x ≡ y
front_cut a x y e = sym (drop_at a x (length a) refl) ∙ ap (drop (length a)) e ∙ drop_at a y (length a) refl

end_cut : (x y a : List ℕ) → x ++ a ≡ y ++ a → x ≡ y
end_cut x y a e =
    let n : length x ≡ length y = omega (arith, length-append x a, length-append y a, ap length e) in
    sym (take_at x a (length y) n) ∙ ap (take (length y)) e ∙ take_at y a (length y) refl

pub within_same : (out x y : List ℕ) → within out x ≡ within out y → x ≡ y
within_same out x y e = ap (drop 1) (front_cut out (47 ∷ x) (47 ∷ y) e)

pub not_within : (out name mid : List ℕ) → name ≡ out ++ mid → ((rest : List ℕ) → mid ≢ 47 ∷ rest) → (rest : List ℕ) → name ≢ within out rest
not_within out name mid e none rest f = none rest (front_cut out mid (47 ∷ rest) (sym e ∙ f))

pub not_source : (name new : List ℕ) → ((rest : List ℕ) → name ≢ rest ++ codes ".java") → (rest : List ℕ) → name ≢ rest ++ source_name new
not_source name new none rest e = none (rest ++ new) (e ∙ sym (append_assoc rest new (codes ".java")))

pub not_new : (name new mid : List ℕ) → name ≡ mid ++ codes ".java" → ((rest : List ℕ) → mid ≢ rest ++ new) → (rest : List ℕ) → name ≢ rest ++ source_name new
not_new name new mid e none rest f = none rest (end_cut mid (rest ++ new) (codes ".java") (sym e ∙ f ∙ sym (append_assoc rest new (codes ".java"))))

pub written_is : (out name rest : List ℕ) (set : List (List ℕ)) (b : Bool) → name ≡ within out rest → b ≡ is_among rest set → IsTrue b ↔ IsWritten out set name
written_is out name rest set b e f =
    (λ t. (rest, e, sym f ∙ t), λ w. f ∙ subst (λ r. is_among r set ≡ true) (within_same out w.0 rest (sym w.1 ∙ e)) w.2)

pub created_is : (out new name rest folder : List ℕ) (set : List (List ℕ)) (b : Bool) → name ≡ within out rest → rest ≡ folder ++ source_name new → b ≡ is_among folder set → IsTrue b ↔ IsCreated out new set name
created_is out new name rest folder set b e g f = (
  λ t. (folder, e ∙ ap (within out) g, sym f ∙ t),
  λ w. f ∙ subst (λ r. is_among r set ≡ true) (end_cut w.0 folder (source_name new) (within_same out (w.0 ++ source_name new) (folder ++ source_name new) (sym w.1 ∙ e ∙ ap (within out) g))) w.2,
)

pub not_created : (out new name rest : List ℕ) (set : List (List ℕ)) → name ≡ within out rest → ((folder : List ℕ) → rest ≢ folder ++ source_name new) → IsTrue false ↔ IsCreated out new set name
not_created out new name rest set e none =
    (λ t. absurd (cc), λ w. absurd (none w.0 (within_same out rest (w.0 ++ source_name new) (sym e ∙ w.1))))

-- ---- the members

member_extract : (i : ℕ) → role_of command.ExtractInterface i ≡ role.Member → (j : ℕ) × (i ≡ suc (suc (suc j)))
member_extract zero e = absurd (cc)
member_extract (suc zero) e = absurd (cc)
member_extract (suc (suc zero)) e = absurd (cc)
member_extract (suc (suc (suc j))) e = (j, refl)

member_pull : (i : ℕ) → role_of command.PullUp i ≡ role.Member → (j : ℕ) × (i ≡ suc (suc (suc j)))
member_pull zero e = absurd (cc)
member_pull (suc zero) e = absurd (cc)
member_pull (suc (suc zero)) e = absurd (cc)
member_pull (suc (suc (suc j))) e = (j, refl)

extract_member : (j : ℕ) → role_of command.ExtractInterface (suc (suc (suc j))) ≡ role.Member
extract_member zero = refl
extract_member (suc j) = refl

pull_member : (j : ℕ) → role_of command.PullUp (suc (suc (suc j))) ≡ role.Member
pull_member zero = refl
pull_member (suc j) = refl

behind_three : (own : List (List ℕ)) (j : ℕ) → slice_get (drop 3 own) j ≡ slice_get own (suc (suc (suc j)))
behind_three [] j = refl
behind_three (a ∷ []) j = refl
behind_three (a ∷ b ∷ []) j = refl
behind_three (a ∷ b ∷ c ∷ own) j = refl

distinct_behind : (c : Command) (own : List (List ℕ)) → ((i : ℕ) → role_of c i ≡ role.Member → (j : ℕ) × (i ≡ suc (suc (suc j)))) → ((j : ℕ) → role_of c (suc (suc (suc j))) ≡ role.Member)
    → AreDistinct (drop 3 own) ↔ HasDistinctMembers c own
distinct_behind c own to from = (
  λ d i j w a b e f.
      let m = to i a in
      let n = to j b in
      let at = d m.0 n.0 w (behind_three own m.0 ∙ ap (slice_get own) (sym m.1) ∙ e) (behind_three own n.0 ∙ ap (slice_get own) (sym n.1) ∙ f) in
      omega (arith, at, m.1, n.1),
  λ d i j w e f. let at = d (suc (suc (suc i))) (suc (suc (suc j))) w (from i) (from j) (sym (behind_three own i) ∙ e) (sym (behind_three own j) ∙ f) in omega (arith, at),
)

no_member : (c : Command) (own : List (List ℕ)) → ((i : ℕ) → role_of c i ≡ role.Member → ⊥) → AreDistinct [] ↔ HasDistinctMembers c own
no_member c own none = (λ d i j w a b e f. absurd (none i a), λ d. none_twice)

pub members_distinct : (c : Command) (own : List (List ℕ)) → AreDistinct (members_of c own) ↔ HasDistinctMembers c own
members_distinct command.ExtractInterface own = distinct_behind command.ExtractInterface own member_extract extract_member
members_distinct command.PullUp own = distinct_behind command.PullUp own member_pull pull_member
members_distinct command.Check own = no_member command.Check own none
  where
    none : (i : ℕ) → role_of command.Check i ≡ role.Member → ⊥
    none zero e = cc
    none (suc i) e = cc
members_distinct command.Run own = no_member command.Run own none
  where
    none : (i : ℕ) → role_of command.Run i ≡ role.Member → ⊥
    none zero e = cc
    none (suc zero) e = cc
    none (suc (suc i)) e = cc
members_distinct command.Allowed own = no_member command.Allowed own none
  where
    none : (i : ℕ) → role_of command.Allowed i ≡ role.Member → ⊥
    none zero e = cc
    none (suc zero) e = cc
    none (suc (suc zero)) e = cc
    none (suc (suc (suc i))) e = cc
members_distinct command.Generalize own = no_member command.Generalize own none
  where
    none : (i : ℕ) → role_of command.Generalize i ≡ role.Member → ⊥
    none zero e = cc
    none (suc zero) e = cc
    none (suc (suc zero)) e = cc
    none (suc (suc (suc zero))) e = cc
    none (suc (suc (suc (suc zero)))) e = cc
    none (suc (suc (suc (suc (suc i))))) e = cc
members_distinct command.InferTypeArguments own = no_member command.InferTypeArguments own none
  where
    none : (i : ℕ) → role_of command.InferTypeArguments i ≡ role.Member → ⊥
    none zero e = cc
    none (suc i) e = cc
members_distinct command.Workload own = no_member command.Workload own none
  where
    none : (i : ℕ) → role_of command.Workload i ≡ role.Member → ⊥
    none zero e = cc
    none (suc i) e = cc

-- ---- rule 5

pub paths_are : (c : Command) (p : Parts) (b : Bool) → AreAllPaths c p → (IsTrue b ↔ AreDistinct (files p)) → IsTrue b ↔ HasPaths c p
paths_are c p b all same =
    (λ t. ((each_is (λ i w. FitsOut (role_of c i) w) p.own).0 all.0, (each_among IsPath (files p)).0 ((all_both IsPath p.users p.libs).0 (all.1, all.2)), same.0 t), λ h. same.1 h.2)

pub paths_not : (c : Command) (p : Parts) (b : Bool) → b ≡ false → (AreAllPaths c p → ⊥) → IsTrue b ↔ HasPaths c p
paths_not c p b e none = (
  λ t. absurd (cc),
  λ h.
      let both = (all_both IsPath p.users p.libs).1 ((each_among IsPath (files p)).1 h.1) in
      absurd (none ((each_is (λ i w. FitsOut (role_of c i) w) p.own).1 h.0, both.0, both.1)),
)

-- ---- rule 6

-- a set has the words of a list
abbrev pub HasWords : List (List ℕ) → List (List ℕ) → Type 0
HasWords set ws = (w : List ℕ) → is_among w set ≡ is_among w ws

spares_both : (P Q : List ℕ → Type 0) (p : Parts) (a b : Bool) → ((w : List ℕ) → P w ↔ Q w) → (IsTrue a ↔ AllFrom (λ i w. P w → ⊥) 0 p.users) → (IsTrue b ↔ AllFrom (λ i w. P w → ⊥) 0 p.libs)
    → (IsTrue a × IsTrue b) ↔ Spares Q p
spares_both P Q p a b same f g = (
  λ t name e q. (all_both (λ w. P w → ⊥) p.users p.libs).0 (f.0 t.0, g.0 t.1) name e ((same name).1 q),
  λ h. let both = (all_both (λ w. P w → ⊥) p.users p.libs).1 (λ name e q. h name e ((same name).0 q)) in (f.1 both.0, g.1 both.1),
)

written_same : (out : List ℕ) (set users : List (List ℕ)) → HasWords set users → (name : List ℕ) → IsWritten out set name ↔ IsWritten out users name
written_same out set users has name = (λ w. (w.0, w.1, sym (has w.0) ∙ w.2), λ w. (w.0, w.1, has w.0 ∙ w.2))

created_same : (out new : List ℕ) (set folders : List (List ℕ)) → HasWords set folders → (name : List ℕ) → IsCreated out new set name ↔ IsCreated out new folders name
created_same out new set folders has name = (λ w. (w.0, w.1, sym (has w.0) ∙ w.2), λ w. (w.0, w.1, has w.0 ∙ w.2))

pub writes_none : (out : List ℕ) (set : List (List ℕ)) (p : Parts) (a b : Bool) → HasWords set p.users → (IsTrue a ↔ AllFrom (λ i w. IsWritten out set w → ⊥) 0 p.users) → (IsTrue b ↔ AllFrom (λ i w. IsWritten out set w → ⊥) 0 p.libs)
    → (IsTrue a × IsTrue b) ↔ Spares (IsWritten out p.users) p
writes_none out set p a b has = spares_both (IsWritten out set) (IsWritten out p.users) p a b (written_same out set p.users has)

pub creates_none : (out new : List ℕ) (set folders : List (List ℕ)) (p : Parts) (a b : Bool) → HasWords set folders → (IsTrue a ↔ AllFrom (λ i w. IsCreated out new set w → ⊥) 0 p.users) → (IsTrue b ↔ AllFrom (λ i w. IsCreated out new set w → ⊥) 0 p.libs)
    → (IsTrue a × IsTrue b) ↔ Spares (IsCreated out new folders) p
creates_none out new set folders p a b has = spares_both (IsCreated out new set) (IsCreated out new folders) p a b (created_same out new set folders has)

pub fails : (a : Bool) (X : Type 0) → a ≡ false → (IsTrue a ↔ X) → X → ⊥
fails a X e f x = let t = f.1 x in absurd (cc)

pub holds : (a : Bool) (X : Type 0) → a ≡ true → (IsTrue a ↔ X) → X
holds a X e f = f.0 e

both_true : (a b : Bool) (P : Type 0) → a ≡ true → ((IsTrue a × IsTrue b) ↔ P) → IsTrue b ↔ P
both_true a b P e f = (λ t. f.0 (e, t), λ h. (f.1 h).1)

pub writes_told : (out : List ℕ) (set : List (List ℕ)) (p : Parts) (a b : Bool) → HasWords set p.users → (IsTrue a ↔ AllFrom (λ i w. IsWritten out set w → ⊥) 0 p.users) → (IsTrue b ↔ AllFrom (λ i w. IsWritten out set w → ⊥) 0 p.libs)
    → a ≡ true → IsTrue b ↔ Spares (IsWritten out p.users) p
writes_told out set p a b has f g e = both_true a b (Spares (IsWritten out p.users) p) e (writes_none out set p a b has f g)

pub creates_told : (out new : List ℕ) (set folders : List (List ℕ)) (p : Parts) (a b : Bool) → HasWords set folders → (IsTrue a ↔ AllFrom (λ i w. IsCreated out new set w → ⊥) 0 p.users) → (IsTrue b ↔ AllFrom (λ i w. IsCreated out new set w → ⊥) 0 p.libs)
    → a ≡ true → IsTrue b ↔ Spares (IsCreated out new folders) p
creates_told out new set folders p a b has f g e = both_true a b (Spares (IsCreated out new folders) p) e (creates_none out new set folders p a b has f g)

not_spared : (P Q : List ℕ → Type 0) (p : Parts) → ((w : List ℕ) → P w ↔ Q w) → (AllFrom (λ i w. P w → ⊥) 0 p.users → ⊥) → IsTrue false ↔ Spares Q p
not_spared P Q p same none =
    (λ t. absurd (cc), λ h. absurd (none (((all_both (λ w. P w → ⊥) p.users p.libs).1 (λ name e q. h name e ((same name).0 q))).0)))

pub writes_some : (out : List ℕ) (set : List (List ℕ)) (p : Parts) (a : Bool) → HasWords set p.users → (IsTrue a ↔ AllFrom (λ i w. IsWritten out set w → ⊥) 0 p.users) → a ≡ false → IsTrue false ↔ Spares (IsWritten out p.users) p
writes_some out set p a has f e = not_spared (IsWritten out set) (IsWritten out p.users) p (written_same out set p.users has) (fails a (AllFrom (λ i w. IsWritten out set w → ⊥) 0 p.users) e f)

pub creates_some : (out new : List ℕ) (set folders : List (List ℕ)) (p : Parts) (a : Bool) → HasWords set folders → (IsTrue a ↔ AllFrom (λ i w. IsCreated out new set w → ⊥) 0 p.users) → a ≡ false → IsTrue false ↔ Spares (IsCreated out new folders) p
creates_some out new set folders p a has f e = not_spared (IsCreated out new set) (IsCreated out new folders) p (created_same out new set folders has) (fails a (AllFrom (λ i w. IsCreated out new set w → ⊥) 0 p.users) e f)

pub folders_are : (users : List (String Global)) → map (λ file. folder_of (string_bytes file)) users ≡ map folder_of (map string_bytes users)
folders_are [] = refl
folders_are (u ∷ us) = ap (λ fs. folder_of (string_bytes u) ∷ fs) (folders_are us)

among_map : (f : List ℕ → List ℕ) (w : List ℕ) (ws : List (List ℕ)) → IsTrue (is_among w (map f ws)) → (v : List ℕ) × IsTrue (is_among v ws) × (w ≡ f v)
among_map f w [] e = absurd (cc)
among_map f w (x ∷ xs) e = by_test (among_map f w xs) (bytes_eq w (f x)) refl e
  where
    by_test : (IsTrue (is_among w (map f xs)) → (v : List ℕ) × IsTrue (is_among v xs) × (w ≡ f v)) → (t : Bool) → bytes_eq w (f x) ≡ t → IsTrue (t || is_among w (map f xs)) → (v : List ℕ) × IsTrue (is_among v (x ∷ xs)) × (w ≡ f v)
    by_test later true t r = (x, first_among x xs, same w (f x) t)
    by_test later false t r = let p = later r in (p.0, or_later (bytes_eq p.0 x) (is_among p.0 xs) p.1, p.2)

map_among : (f : List ℕ → List ℕ) (v : List ℕ) (ws : List (List ℕ)) → IsTrue (is_among v ws) → IsTrue (is_among (f v) (map f ws))
map_among f v [] e = absurd (cc)
map_among f v (x ∷ xs) e = by_test (map_among f v xs) (bytes_eq v x) refl e
  where
    by_test : (IsTrue (is_among v xs) → IsTrue (is_among (f v) (map f xs))) → (t : Bool) → bytes_eq v x ≡ t → IsTrue (t || is_among v xs) → IsTrue (is_among (f v) (map f (x ∷ xs)))
    by_test later true t r = subst (λ u. IsTrue (is_among (f v) (f u ∷ map f xs))) (same v x t) (first_among (f v) (map f xs))
    by_test later false t r = or_later (bytes_eq (f v) (f x)) (is_among (f v) (map f xs)) (later r)

pub no_out : (c : Command) (p : Parts) → ((w : List ℕ) → IsIn c p.own role.Out w → ⊥) → IsTrue true ↔ KeepsInputs c p
no_out c p none = (λ t name o e. none o.0 o.2, λ h. refl)

pub not_kept : (c : Command) (p : Parts) (out : List ℕ) → IsIn c p.own role.Out out → (Spares (IsWritten out p.users) p → ⊥) → IsTrue false ↔ KeepsInputs c p
not_kept c p out is none =
    (λ t. absurd (cc), λ h. absurd (none (λ name e w. h name (out, w.0, is, w.2, inl w.1) e)))

pub no_new_name : (c : Command) (p : Parts) (out : List ℕ) → ((w : List ℕ) → IsIn c p.own role.Out w → w ≡ out) → Spares (IsWritten out p.users) p
    → ((w : List ℕ) → IsIn c p.own role.NewName w → ⊥) → IsTrue true ↔ KeepsInputs c p
no_new_name c p out only spared none =
    (λ t name o e. elim o.4 [ inl a ↦ spared name e (o.1, a ∙ ap (λ w. within w o.1) (only o.0 o.2), o.3) | inr b ↦ none b.0 b.1 ], λ h. refl)

pub keeps : (c : Command) (p : Parts) (out new : List ℕ) (b : Bool) → IsIn c p.own role.Out out → ((w : List ℕ) → IsIn c p.own role.Out w → w ≡ out) → Spares (IsWritten out p.users) p
    → IsIn c p.own role.NewName new → ((w : List ℕ) → IsIn c p.own role.NewName w → w ≡ new) → (IsTrue b ↔ Spares (IsCreated out new (map folder_of p.users)) p) → IsTrue b ↔ KeepsInputs c p
keeps c p out new b is only spared named only_new f = (
  λ t name o e. elim o.4 [
    | inl a ↦ spared name e (o.1, a ∙ ap (λ w. within w o.1) (only o.0 o.2), o.3)
    | inr x ↦ f.0 t name e (folder_of o.1, x.2 ∙ ap (λ w. within w (folder_of o.1 ++ source_name x.0)) (only o.0 o.2) ∙ ap (λ w. within out (folder_of o.1 ++ source_name w)) (only_new x.0 x.1), map_among folder_of o.1 p.users o.3)
  ],
  λ h. f.1 (λ name e w.
      let v = among_map folder_of w.0 p.users w.2 in
      h name (out, v.0, is, v.1, inr (new, named, w.1 ∙ ap (λ d. within out (d ++ source_name new)) v.2)) e),
)

-- ---- rule 8

pub places_are : (c : Command) (p : Parts) (b : Bool) → AllFrom (λ i w. FitsFile p.users (role_of c i) w) 0 p.own → (IsTrue b ↔ AreDistinct (members_of c p.own)) → IsTrue b ↔ NamesPlaces c p
places_are c p b all f =
    (λ t. ((each_is (λ i w. FitsFile p.users (role_of c i) w) p.own).0 all, (members_distinct c p.own).0 (f.0 t)), λ h. f.1 ((members_distinct c p.own).1 h.1))

pub places_not : (c : Command) (p : Parts) → (AllFrom (λ i w. FitsFile p.users (role_of c i) w) 0 p.own → ⊥) → IsTrue false ↔ NamesPlaces c p
places_not c p none = (λ t. absurd (cc), λ h. absurd (none ((each_is (λ i w. FitsFile p.users (role_of c i) w) p.own).1 h.0)))

-- ---- single words

pub read_at : (own : List (String Global)) (i : ℕ) (x : String Global) (w : List ℕ) → i < length own → x ≡ get_or own i x → w ≡ string_bytes x → slice_get (map string_bytes own) i ≡ Some w
read_at own i x w h e f = slice_get-map string_bytes own i ∙ ap (option_map string_bytes) (slice_get-get_or own i x h ∙ ap Some (sym e)) ∙ ap Some (sym f)

pub equals_told : (c : Command) (own : List (String Global)) (x : String Global) (w : List ℕ) (b : Bool) → 2 < length own → x ≡ get_or own 2 x → w ≡ string_bytes x → b ≡ bytes_eq w (codes "=") → c ≡ command.Run
    → IsTrue b ↔ HasEquals c (map string_bytes own)
equals_told c own x w b h e f g r =
    let at = read_at own 2 x w h e f in (
      λ t v s read. let is : w ≡ v = cc in sym is ∙ same w (codes "=") (sym g ∙ t),
      λ k. g ∙ ap (bytes_eq w) (sym (k w r at)) ∙ itself w,
    )

pub too_short : (c : Command) (own : List (String Global)) → length own < 3 → IsTrue true ↔ HasEquals c (map string_bytes own)
too_short c own h = (λ t w r e. absurd (omega (arith, h, slice_get_within (map string_bytes own) 2 w e, length-map own string_bytes)), λ k. refl)

new_name_place : (i : ℕ) → role_of command.ExtractInterface i ≡ role.NewName → i ≡ 2
new_name_place zero e = absurd (cc)
new_name_place (suc zero) e = absurd (cc)
new_name_place (suc (suc zero)) e = refl
new_name_place (suc (suc (suc zero))) e = absurd (cc)
new_name_place (suc (suc (suc (suc i)))) e = absurd (cc)

pub new_is : (c : Command) (own : List (String Global)) (x : String Global) (w : List ℕ) → 2 < length own → x ≡ get_or own 2 x → w ≡ string_bytes x → c ≡ command.ExtractInterface → IsIn c (map string_bytes own) role.NewName w
new_is c own x w h e f r = (2, read_at own 2 x w h e f, subst (λ d. role_of d 2 ≡ role.NewName) (sym r) refl)

pub no_new : (c : Command) (own : List (String Global)) → length own < 3 → c ≡ command.ExtractInterface → (w : List ℕ) → IsIn c (map string_bytes own) role.NewName w → ⊥
no_new c own h r w is =
    let at = new_name_place is.0 (subst (λ d. role_of d is.0 ≡ role.NewName) r is.2) in
    absurd (omega (arith, h, at, slice_get_within (map string_bytes own) is.0 w is.1, length-map own string_bytes))

-- ---- what is broken, and what is not below it

pub below : (c : Command) (p : Parts) (n : ℕ) → (2 < n → HasShape c p) → (3 < n → HasNumbers c p) → (4 < n → HasUsers c p) → (5 < n → HasPaths c p)
    → (6 < n → KeepsInputs c p) → (7 < n → HasIdentifiers c p) → (8 < n → NamesPlaces c p) → (m : ℕ) → m < n → Meets c p m
below c p n a b d e f g h m l = record {
  shape = λ i. a (omega (arith, i, l));
  numbers = λ i. b (omega (arith, i, l));
  users = λ i. d (omega (arith, i, l));
  paths = λ i. e (omega (arith, i, l));
  inputs = λ i. f (omega (arith, i, l));
  identifiers = λ i. g (omega (arith, i, l));
  places = λ i. h (omega (arith, i, l));
}

pub breaks_shape : (c : Command) (p : Parts) → (HasShape c p → ⊥) → MeetsFound c p (Some 2)
breaks_shape c p none = (λ m. none (m.shape refl), below c p 2 (λ l. absurd (omega (arith, l))) (λ l. absurd (omega (arith, l))) (λ l. absurd (omega (arith, l))) (λ l. absurd (omega (arith, l))) (λ l. absurd (omega (arith, l))) (λ l. absurd (omega (arith, l))) (λ l. absurd (omega (arith, l))))

pub breaks_numbers : (c : Command) (p : Parts) → HasShape c p → (HasNumbers c p → ⊥) → MeetsFound c p (Some 3)
breaks_numbers c p a none = (λ m. none (m.numbers refl), below c p 3 (λ l. a) (λ l. absurd (omega (arith, l))) (λ l. absurd (omega (arith, l))) (λ l. absurd (omega (arith, l))) (λ l. absurd (omega (arith, l))) (λ l. absurd (omega (arith, l))) (λ l. absurd (omega (arith, l))))

pub breaks_users : (c : Command) (p : Parts) → HasShape c p → HasNumbers c p → (HasUsers c p → ⊥) → MeetsFound c p (Some 4)
breaks_users c p a b none = (λ m. none (m.users refl), below c p 4 (λ l. a) (λ l. b) (λ l. absurd (omega (arith, l))) (λ l. absurd (omega (arith, l))) (λ l. absurd (omega (arith, l))) (λ l. absurd (omega (arith, l))) (λ l. absurd (omega (arith, l))))

pub breaks_paths : (c : Command) (p : Parts) → HasShape c p → HasNumbers c p → HasUsers c p → (HasPaths c p → ⊥) → MeetsFound c p (Some 5)
breaks_paths c p a b d none = (λ m. none (m.paths refl), below c p 5 (λ l. a) (λ l. b) (λ l. d) (λ l. absurd (omega (arith, l))) (λ l. absurd (omega (arith, l))) (λ l. absurd (omega (arith, l))) (λ l. absurd (omega (arith, l))))

pub breaks_inputs : (c : Command) (p : Parts) → HasShape c p → HasNumbers c p → HasUsers c p → HasPaths c p → (KeepsInputs c p → ⊥) → MeetsFound c p (Some 6)
breaks_inputs c p a b d e none = (λ m. none (m.inputs refl), below c p 6 (λ l. a) (λ l. b) (λ l. d) (λ l. e) (λ l. absurd (omega (arith, l))) (λ l. absurd (omega (arith, l))) (λ l. absurd (omega (arith, l))))

pub breaks_identifiers : (c : Command) (p : Parts) → HasShape c p → HasNumbers c p → HasUsers c p → HasPaths c p → KeepsInputs c p → (HasIdentifiers c p → ⊥) → MeetsFound c p (Some 7)
breaks_identifiers c p a b d e f none = (λ m. none (m.identifiers refl), below c p 7 (λ l. a) (λ l. b) (λ l. d) (λ l. e) (λ l. f) (λ l. absurd (omega (arith, l))) (λ l. absurd (omega (arith, l))))

pub breaks_places : (c : Command) (p : Parts) → HasShape c p → HasNumbers c p → HasUsers c p → HasPaths c p → KeepsInputs c p → HasIdentifiers c p → (NamesPlaces c p → ⊥) → MeetsFound c p (Some 8)
breaks_places c p a b d e f g none = (λ m. none (m.places refl), below c p 8 (λ l. a) (λ l. b) (λ l. d) (λ l. e) (λ l. f) (λ l. g) (λ l. absurd (omega (arith, l))))

pub breaks_none : (c : Command) (p : Parts) → HasShape c p → HasNumbers c p → HasUsers c p → HasPaths c p → KeepsInputs c p → HasIdentifiers c p → NamesPlaces c p → MeetsFound c p None
breaks_none c p a b d e f g h n = record { shape = λ i. a; numbers = λ i. b; users = λ i. d; paths = λ i. e; inputs = λ i. f; identifiers = λ i. g; places = λ i. h }
