-- What tables tell of nodes, one behind the other.
use Rattle.std.proofs.Common.{◌≡◌, ℕ, ◌+◌, ◌<◌, ◌≤◌, zero, suc, Bool, true, false, List, [], ◌∷◌, length, drop, get_or, map, Option, Some, None, refl, sym, ap, ◌∙◌, arith}
use Rattle.std.specs.Prelude.{◌==◌, if◌then◌else◌}
use Rattle.std.proofs.lemmas.List.{drop_more}
use Rattle.java_tree.specs.declared.tree.Node.{Node}
use Rattle.java_tree.specs.declared.tree.SourceUnit as declared
use Rattle.java_tree.specs.View.{unit_plain}
use Rattle.node_places.specs.Seek as seek
use Rattle.node_places.specs.Places.{in_file, place_from}
use Rattle.node_places.specs.declared.place.NodePlace.{NodePlace}
use Rattle.node_lists.specs.Nodes as nodes
use Rattle.node_lists.specs.Table.{first, or_later, told_of}
use Rattle.node_lists.proofs.Listed as listed

later_assoc : (a b c : Option NodePlace) → or_later (or_later a b) c ≡ or_later a (or_later b c)
later_assoc (Some p) b c = refl
later_assoc None b c = refl

later_none : (a : Option NodePlace) → or_later a None ≡ a
later_none (Some p) = refl
later_none None = refl

in_file_later : (file : ℕ) (o : Option ℕ) (later : Option NodePlace) → in_file file o later ≡ or_later (in_file file o None) later
in_file_later file (Some at) later = refl
in_file_later file None later = refl

next_item : {A : Type 0} (xs : List A) (i : ℕ) (x : A) → i < length xs → x ≡ get_or xs i x → drop i xs ≡ x ∷ drop (i + 1) xs
next_item xs i x h e = drop_more xs i x h ∙ ap (λ y. y ∷ drop (i + 1) xs) (sym e)

dropped : {A : Type 0} (xs : List A) (i : ℕ) → length xs ≤ i → drop i xs ≡ []
dropped [] zero past = refl
dropped [] (suc i) past = refl
dropped (x ∷ xs) zero past = absurd (omega (arith, past))
dropped (x ∷ xs) (suc i) past = dropped xs i (omega (arith, past))

told_first : (file : ℕ) (b : Bool) (at : ℕ) (o : Option ℕ) → in_file file (if b then Some at else o) None ≡ or_later (in_file file (if b then Some at else None) None) (in_file file o None)
told_first file true at o = refl
told_first file false at o = refl

-- ---- the nodes of a file

pub node_noted : (file k : ℕ) (ns : List Node) (i : ℕ) (n : Node) (now next whole : Option NodePlace) → i < length ns → n ≡ get_or ns i n
    → next ≡ or_later now (told_of file k (n ∷ [])) → or_later now (told_of file k (drop i ns)) ≡ whole → or_later next (told_of file k (drop (i + 1) ns)) ≡ whole
node_noted file k ns i n now next whole low is made so_far =
    let rest = drop (i + 1) ns in
    ap (λ p. or_later p (told_of file k rest)) made ∙ later_assoc now (told_of file k (n ∷ [])) (told_of file k rest)
    ∙ ap (or_later now) (sym (told_first file (n.id == k) n.span.from (first k rest))) ∙ ap (λ l. or_later now (told_of file k l)) (sym (next_item ns i n low is)) ∙ so_far

pub nodes_noted : (file k : ℕ) (ns : List Node) (i : ℕ) (now whole : Option NodePlace) → length ns ≤ i → or_later now (told_of file k (drop i ns)) ≡ whole → now ≡ whole
nodes_noted file k ns i now whole past so_far = sym (later_none now) ∙ ap (λ l. or_later now (told_of file k l)) (sym (dropped ns i past)) ∙ so_far

-- ---- files

pub file_noted : (k : ℕ) (us : List declared.SourceUnit) (i : ℕ) (u : declared.SourceUnit) (now next whole : Option NodePlace) → i < length us → u ≡ get_or us i u
    → next ≡ or_later now (told_of i k (nodes.unit (unit_plain u) [])) → or_later now (place_from i (map unit_plain (drop i us)) k) ≡ whole
    → or_later next (place_from (i + 1) (map unit_plain (drop (i + 1) us)) k) ≡ whole
file_noted k us i u now next whole low is made so_far =
    let rest = place_from (i + 1) (map unit_plain (drop (i + 1) us)) k in
    ap (λ p. or_later p rest) made ∙ later_assoc now (told_of i k (nodes.unit (unit_plain u) [])) rest
    ∙ ap (or_later now) (ap (λ o. or_later (in_file i o None) rest) (listed.unit k (unit_plain u) []) ∙ sym (in_file_later i (seek.unit k (unit_plain u)) rest))
    ∙ ap (λ l. or_later now (place_from i (map unit_plain l) k)) (sym (next_item us i u low is)) ∙ so_far

pub files_noted : (k : ℕ) (us : List declared.SourceUnit) (i : ℕ) (now whole : Option NodePlace) → length us ≤ i → or_later now (place_from i (map unit_plain (drop i us)) k) ≡ whole → now ≡ whole
files_noted k us i now whole past so_far = sym (later_none now) ∙ ap (λ l. or_later now (place_from i (map unit_plain l) k)) (sym (dropped us i past)) ∙ so_far
