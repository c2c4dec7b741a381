-- Words ask for one thing.
use Rattle.std.proofs.Common.{◌≡◌, ℕ, inl, inr, List, ◌∷◌, refl, sym, ◌∙◌, ap, subst, arith}
use Rattle.std.proofs.lemmas.Fmt.{decimal_injective}
use Rattle.command_words.specs.Names.{IsNumber}
use Rattle.command_words.specs.Table.{parts_of}
use Rattle.refactor_app.specs.Words.{Aim, Become, Types, aim_command, aim_words, ExtractRequest, Files, Request, Asks, AsksCheck, AsksExtract, AsksSteps, Uses}
use Rattle.refactor_app.proofs.OneSense.{change_or_check, change_or_run, change_or_extraction, check_or_run, check_or_extraction, run_or_extraction, one_split}

one_number : (w : List ℕ) (m n : ℕ) → IsNumber w m → IsNumber w n → m ≡ n
one_number w m n a b = decimal_injective m n (omega (arith, a.1)) (omega (arith, b.1)) (sym a.0 ∙ b.0)

same_files : (a b : Files) → a.users ≡ b.users → a.libs ≡ b.libs → a ≡ b
same_files a b users libs = rw (users, libs) refl

same_request : (a b : Request) → a.aim ≡ b.aim → a.file ≡ b.file → a.line ≡ b.line → a.col ≡ b.col → a.files ≡ b.files → a ≡ b
same_request a b aim file line col files = rw (aim, file, line, col, files) refl

-- the files of words whose other words are the same
of_words : (ws xs : List (List ℕ)) (a b : Files) → ws ≡ xs → (parts_of ws).users ≡ a.users → (parts_of ws).libs ≡ a.libs → (parts_of xs).users ≡ b.users → (parts_of xs).libs ≡ b.libs → a ≡ b
of_words ws xs a b same users libs users' libs' =
    same_files a b (sym users ∙ ap (λ (r : List (List ℕ)). (parts_of r).users) same ∙ users') (sym libs ∙ ap (λ (r : List (List ℕ)). (parts_of r).libs) same ∙ libs')

-- own words are of one aim, and of one place
one_aim : (a b : Aim) (f l c g m d : List ℕ) → aim_words a f l c ≡ aim_words b g m d → (a ≡ b) × (f ≡ g) × (l ≡ m) × (c ≡ d)
one_aim (Become o t) (Become o' t') f l c g m d e =
    let out : o ≡ o' = cc in
    let ty : t ≡ t' = cc in
    let file : f ≡ g = cc in
    let line : l ≡ m = cc in
    let col : c ≡ d = cc in
    (ap (λ x. Become x t) out ∙ ap (λ x. Become o' x) ty, file, line, col)
one_aim (Become o t) Types f l c g m d e = absurd (cc)
one_aim Types (Become o t) f l c g m d e = absurd (cc)
one_aim Types Types f l c g m d e =
    let file : f ≡ g = cc in
    let line : l ≡ m = cc in
    let col : c ≡ d = cc in
    (refl, file, line, col)

pub one_request : (ws : List (List ℕ)) (a b : Request) → Asks ws a → Asks ws b → a ≡ b
one_request ws a b x y =
    let rest = (one_split (aim_command a.aim) (aim_command b.aim) x.rest y.rest (sym x.are ∙ y.are)).1 in
    let own = one_aim a.aim b.aim a.file x.line x.col b.file y.line y.col (sym x.own ∙ ap (λ (r : List (List ℕ)). (parts_of r).own) rest ∙ y.own) in
    let line_is = one_number x.line a.line b.line x.at_line (subst (λ (w : List ℕ). IsNumber w b.line) (sym own.2) y.at_line) in
    let col_is = one_number x.col a.col b.col x.at_col (subst (λ (w : List ℕ). IsNumber w b.col) (sym own.3) y.at_col) in
    same_request a b own.0 own.1 line_is col_is (of_words x.rest y.rest a.files b.files rest x.users x.libs y.users y.libs)

one_check : (ws : List (List ℕ)) (a b : Files) → AsksCheck ws a → AsksCheck ws b → a ≡ b
one_check ws a b x y =
    let rest : x.rest ≡ y.rest = let all = sym x.are ∙ y.are in cc in
    of_words x.rest y.rest a b rest x.users x.libs y.users y.libs

one_run : (ws : List (List ℕ)) (m n : ℕ) (a b : Files) → AsksSteps ws a m → AsksSteps ws b n → a ≡ b
one_run ws m n a b x y =
    let rest : x.asks.rest ≡ y.asks.rest = let all = sym x.asks.are ∙ y.asks.are in cc in
    of_words x.asks.rest y.asks.rest a b rest x.asks.users x.asks.libs y.asks.users y.asks.libs

-- and for so many steps
pub one_steps : (ws : List (List ℕ)) (m n : ℕ) (a b : Files) → AsksSteps ws a m → AsksSteps ws b n → m ≡ n
one_steps ws m n a b x y =
    let rest : x.asks.rest ≡ y.asks.rest = let all = sym x.asks.are ∙ y.asks.are in cc in
    let own : x.asks.count ∷ x.class ∷ x.asks.more ≡ y.asks.count ∷ y.class ∷ y.asks.more = sym x.asks.own ∙ ap (λ (r : List (List ℕ)). (parts_of r).own) rest ∙ y.asks.own in
    let count : x.asks.count ≡ y.asks.count = cc in
    one_number x.asks.count m n x.asks.at_steps (subst (λ (w : List ℕ). IsNumber w n) (sym count) y.asks.at_steps)

same_extraction : (a b : ExtractRequest) → a.out ≡ b.out → a.class ≡ b.class → a.name ≡ b.name → a.methods ≡ b.methods → a.files ≡ b.files → a ≡ b
same_extraction a b out class name methods files = rw (out, class, name, methods, files) refl

pub one_extraction : (ws : List (List ℕ)) (a b : ExtractRequest) → AsksExtract ws a → AsksExtract ws b → a ≡ b
one_extraction ws a b x y =
    let rest : x.rest ≡ y.rest = let all = sym x.are ∙ y.are in cc in
    let own : a.out ∷ a.class ∷ a.name ∷ a.methods ≡ b.out ∷ b.class ∷ b.name ∷ b.methods = sym x.own ∙ ap (λ (r : List (List ℕ)). (parts_of r).own) rest ∙ y.own in
    let out : a.out ≡ b.out = cc in
    let class : a.class ≡ b.class = cc in
    let name : a.name ≡ b.name = cc in
    let methods : a.methods ≡ b.methods = cc in
    same_extraction a b out class name methods (of_words x.rest y.rest a.files b.files rest x.users x.libs y.users y.libs)

pub one_files : (ws : List (List ℕ)) (a b : Files) → Uses ws a → Uses ws b → a ≡ b
one_files ws a b (inl (q, x, is)) (inl (r, y, so)) = sym is ∙ ap (λ (q : Request). q.files) (one_request ws q r x y) ∙ so
one_files ws a b (inl (q, x, is)) (inr (inl y)) = absurd (change_or_check ws q b x y)
one_files ws a b (inl (q, x, is)) (inr (inr (inl (n, y)))) = absurd (change_or_run ws q n b x y)
one_files ws a b (inl (q, x, is)) (inr (inr (inr (r, y, so)))) = absurd (change_or_extraction ws q r x y)
one_files ws a b (inr (inl x)) (inl (q, y, is)) = absurd (change_or_check ws q a y x)
one_files ws a b (inr (inl x)) (inr (inl y)) = one_check ws a b x y
one_files ws a b (inr (inl x)) (inr (inr (inl (n, y)))) = absurd (check_or_run ws a n b x y)
one_files ws a b (inr (inl x)) (inr (inr (inr (q, y, is)))) = absurd (check_or_extraction ws a q x y)
one_files ws a b (inr (inr (inl (n, x)))) (inl (q, y, is)) = absurd (change_or_run ws q n a y x)
one_files ws a b (inr (inr (inl (n, x)))) (inr (inl y)) = absurd (check_or_run ws b n a y x)
one_files ws a b (inr (inr (inl (m, x)))) (inr (inr (inl (n, y)))) = one_run ws m n a b x y
one_files ws a b (inr (inr (inl (n, x)))) (inr (inr (inr (q, y, is)))) = absurd (run_or_extraction ws n a q x y)
one_files ws a b (inr (inr (inr (q, x, is)))) (inl (r, y, so)) = absurd (change_or_extraction ws r q y x)
one_files ws a b (inr (inr (inr (q, x, is)))) (inr (inl y)) = absurd (check_or_extraction ws b q y x)
one_files ws a b (inr (inr (inr (q, x, is)))) (inr (inr (inl (n, y)))) = absurd (run_or_extraction ws n b q y x)
one_files ws a b (inr (inr (inr (q, x, is)))) (inr (inr (inr (r, y, so)))) = sym is ∙ ap (λ (q : ExtractRequest). q.files) (one_extraction ws q r x y) ∙ so
