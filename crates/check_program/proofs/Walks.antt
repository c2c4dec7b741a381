-- Numbers of fields, and calls by this(..), one more at a time.
use Rattle.std.proofs.Common.{◌≡◌, ℕ, zero, suc, ◌+◌, ◌<◌, Bool, true, false, List, [], ◌∷◌, ◌++◌, map, length, drop, Option, Some, None, sym, ap, ◌∙◌, refl, arith}
use Rattle.std.specs.Prelude.{is_none, slice_index_or as get_or, option_to_list, if◌then◌else◌}
use Rattle.std.specs.Option.{option_map}
use Rattle.std.proofs.lemmas.List.{append_assoc, append-nil}
use Rattle.java_tree.specs.declared.tree.Expr.{Expr}
use Rattle.java_tree.specs.declared.tree.Var.{Var}
use Rattle.java_tree.specs.declared.tree.Member.{Member}
use Rattle.java_tree.specs.View.{plain, var_plain, member_plain}
use Rattle.java_core.specs.declared.program.CoreMember.{CoreMember}
use Rattle.java_core.specs.View as view
use Rattle.check_program.specs.declared.circles.Link.{Link}
use Rattle.check_program.specs.Classes as spec
use Rattle.check_program.proofs.Steps.{front}

-- more of a list, and then the rest
joined : {A : Type 0} (xs ys after rest here all : List A) → after ≡ xs ++ ys → here ≡ ys ++ rest → xs ++ here ≡ all → after ++ rest ≡ all
joined xs ys after rest here all more is so_far = ap (λ zs. zs ++ rest) more ∙ append_assoc xs ys rest ∙ sym (ap (λ zs. xs ++ zs) is) ∙ so_far

none_of : (o : Option Expr) → is_none (option_map plain o) ≡ is_none o
none_of None = refl
none_of (Some e) = refl

abbrev blank_row : Bool → ℕ → List ℕ → List ℕ
blank_row b k rest = if b then k ∷ rest else rest

blank_here : (xs : List Var) (i k : ℕ) (x : Var) → i < length xs → x ≡ get_or xs i x
    → spec.blank_vars k (map var_plain (drop i xs)) ≡ (if is_none x.init then k ∷ spec.blank_vars (k + 1) (map var_plain (drop (i + 1) xs)) else spec.blank_vars (k + 1) (map var_plain (drop (i + 1) xs)))
blank_here xs i k x low is =
    ap (spec.blank_vars k) (front var_plain xs i x low is) ∙ ap (λ b. blank_row b k (spec.blank_vars (k + 1) (map var_plain (drop (i + 1) xs)))) (none_of x.init)

pub blank_pushed : (xs : List Var) (i k : ℕ) (x : Var) (blanks after all : List ℕ) → i < length xs → x ≡ get_or xs i x → is_none x.init ≡ true → after ≡ blanks ++ k ∷ []
    → blanks ++ spec.blank_vars k (map var_plain (drop i xs)) ≡ all → after ++ spec.blank_vars (k + 1) (map var_plain (drop (i + 1) xs)) ≡ all
blank_pushed xs i k x blanks after all low is none more so_far =
    let rest : List ℕ = spec.blank_vars (k + 1) (map var_plain (drop (i + 1) xs)) in
    joined blanks (k ∷ []) after rest (spec.blank_vars k (map var_plain (drop i xs))) all more
    (blank_here xs i k x low is ∙ ap (λ b. blank_row b k rest) none) so_far

pub blank_left : (xs : List Var) (i k : ℕ) (x : Var) (blanks all : List ℕ) → i < length xs → x ≡ get_or xs i x → is_none x.init ≡ false
    → blanks ++ spec.blank_vars k (map var_plain (drop i xs)) ≡ all → blanks ++ spec.blank_vars (k + 1) (map var_plain (drop (i + 1) xs)) ≡ all
blank_left xs i k x blanks all low is some so_far =
    let rest : List ℕ = spec.blank_vars (k + 1) (map var_plain (drop (i + 1) xs)) in
    sym (ap (λ ys. blanks ++ ys) (blank_here xs i k x low is ∙ ap (λ b. blank_row b k rest) some)) ∙ so_far

pub blanks_step : (b : Bool) (xs : List Member) (i k k' : ℕ) (x : Member) (blanks after all : List ℕ) → i < length xs → x ≡ get_or xs i x
    → after ≡ blanks ++ spec.blanks_in b k (member_plain x) → k' ≡ spec.next_field k (member_plain x)
    → blanks ++ spec.blanks_of b k (map member_plain (drop i xs)) ≡ all → after ++ spec.blanks_of b k' (map member_plain (drop (i + 1) xs)) ≡ all
blanks_step b xs i k k' x blanks after all low is more next so_far =
    ap (λ k. after ++ spec.blanks_of b k (map member_plain (drop (i + 1) xs))) next
    ∙ joined blanks (spec.blanks_in b k (member_plain x)) after (spec.blanks_of b (spec.next_field k (member_plain x)) (map member_plain (drop (i + 1) xs)))
    (spec.blanks_of b k (map member_plain (drop i xs))) all more (ap (spec.blanks_of b k) (front member_plain xs i x low is)) so_far

-- ---- calls by this(..)

link_here : (ms : List CoreMember) (i : ℕ) (m : CoreMember) (o : Option Link) → i < length ms → m ≡ get_or ms i m → o ≡ spec.link_of (view.member_plain m)
    → spec.links_of (map view.member_plain (drop i ms)) ≡ option_to_list o ++ spec.links_of (map view.member_plain (drop (i + 1) ms))
link_here ms i m o low is this =
    ap spec.links_of (front view.member_plain ms i m low is) ∙ ap (λ o. option_to_list o ++ spec.links_of (map view.member_plain (drop (i + 1) ms))) (sym this)

pub link_pushed : (ms : List CoreMember) (i : ℕ) (m : CoreMember) (l : Link) (links after all : List Link) → i < length ms → m ≡ get_or ms i m → Some l ≡ spec.link_of (view.member_plain m)
    → after ≡ links ++ l ∷ [] → links ++ spec.links_of (map view.member_plain (drop i ms)) ≡ all → after ++ spec.links_of (map view.member_plain (drop (i + 1) ms)) ≡ all
link_pushed ms i m l links after all low is this more so_far =
    joined links (l ∷ []) after (spec.links_of (map view.member_plain (drop (i + 1) ms))) (spec.links_of (map view.member_plain (drop i ms))) all more
    (link_here ms i m (Some l) low is this) so_far

pub link_left : (ms : List CoreMember) (i : ℕ) (m : CoreMember) (links all : List Link) → i < length ms → m ≡ get_or ms i m → None ≡ spec.link_of (view.member_plain m)
    → links ++ spec.links_of (map view.member_plain (drop i ms)) ≡ all → links ++ spec.links_of (map view.member_plain (drop (i + 1) ms)) ≡ all
link_left ms i m links all low is this so_far = sym (ap (λ ls. links ++ ls) (link_here ms i m None low is this)) ∙ so_far
