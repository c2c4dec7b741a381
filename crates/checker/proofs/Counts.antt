-- A checked program has as many files as were checked.
use Rattle.std.proofs.Common.{◌≡◌, ◌+◌, ℕ, suc, List, [], ◌∷◌, length, refl, ap, sym, ◌∙◌}
use Rattle.java_tree.specs.Plain as t
use Rattle.java_core.specs.Plain as p
use Rattle.checked.specs.Checked.{Checked, Fine, Broken, and_then, also}
use Rattle.type_facts.specs.Facts.{Facts}
use Rattle.check_program.specs.Typing.{file_of, files_of, program}

-- what was checked
abbrev listed : {A : Type 0} → Checked (List A) → List A
listed (Fine xs) = xs
listed (Broken n r) = []

within : {A B : Type 0} (a : Checked A) (g : A → Checked B) (y : B) → and_then a g ≡ Fine y → (x : A) × (a ≡ Fine x) × (g x ≡ Fine y)
within (Fine x) g y e = (x, refl, e)
within (Broken n r) g y e = absurd (cc e)

behind_one : {A : Type 0} (x : A) (c : Checked (List A)) (ys : List A) → also x c ≡ Fine ys → (zs : List A) × (c ≡ Fine zs) × (ys ≡ x ∷ zs)
behind_one x (Fine zs) ys e = (zs, refl, ap listed (sym e))
behind_one x (Broken n r) ys e = absurd (cc e)

as_many : (fs : ℕ → Facts) (k c : ℕ) (us : List t.SourceUnit) (xs : List p.File) → files_of fs k c us ≡ Fine xs → length xs ≡ length us
as_many fs k c [] xs e = ap (λ (l : List p.File). length l) (ap listed (sym e))
as_many fs k c (u ∷ us) xs e =
    let one = within (file_of (fs k) c u) (λ x. also x (files_of fs (k + 1) (c + length u.types) us)) xs e in
    let more = behind_one one.0 (files_of fs (k + 1) (c + length u.types) us) xs one.2 in
    ap (λ (l : List p.File). length l) more.2 ∙ ap (λ n. suc n) (as_many fs (k + 1) (c + length u.types) us more.0 more.1)

abbrev files_in : Checked p.Program → List p.File
files_in (Fine x) = x.files
files_in (Broken n r) = []

pub as_many_files : (fs : ℕ → Facts) (us : List t.SourceUnit) (x : p.Program) → program fs us ≡ Fine x → length x.files ≡ length us
as_many_files fs us x e =
    let one = within (files_of fs 0 19 us) (λ xs. Fine (record { files = xs })) x e in
    let same : x.files ≡ one.0 = ap files_in (sym one.2) in
    ap (λ (l : List p.File). length l) same ∙ as_many fs 0 19 us one.0 one.1
