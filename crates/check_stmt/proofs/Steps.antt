-- Steps of the loops over statements and their parts, and what is lower than they are.
use Rattle.std.proofs.Common.{◌≡◌, ℕ, ℤ, zero, suc, ◌+◌, ◌<◌, Bool, true, false, Result, Ok, Err, List, [], ◌∷◌, ◌++◌, map, length, drop, drop-cons, Option, Some, None, append_assoc, refl, sym, ap, ◌∙◌, arith}
use Rattle.std.specs.Prelude.{slice_index_or as get_or, OnOk}
use Rattle.std.specs.Option.{option_map}
use Rattle.java_tree.specs.Plain as t
use Rattle.java_tree.specs.declared.tree.Node.{Node}
use Rattle.java_tree.specs.declared.tree.Stmt.{Stmt}
use Rattle.java_tree.specs.declared.tree.Group.{Group, out-Group}
use Rattle.java_tree.specs.declared.tree.Catch.{Catch}
use Rattle.java_tree.specs.declared.tree.Var.{Var}
use Rattle.java_tree.specs.declared.tree.Expr.{Expr}
use Rattle.java_tree.specs.View.{plain, plains, stmt_plain, stmts_plain, group_plain, group_row, catch_plain, catch_row, var_plain}
use Rattle.class_world.specs.declared.world.JavaType.{JavaType}
use Rattle.java_core.specs.declared.expr.CoreExpr.{CoreExpr}
use Rattle.java_core.specs.declared.stmt.CoreStmt.{CoreStmt}
use Rattle.java_core.specs.declared.stmt.CoreGroup.{CoreGroup}
use Rattle.java_core.specs.declared.stmt.CoreCatch.{CoreCatch}
use Rattle.java_core.specs.declared.stmt.CoreVar.{CoreVar}
use Rattle.java_core.specs.Plain as p
use Rattle.java_core.specs.View as view
use Rattle.checked.specs.declared.stop.Stop.{Stop}
use Rattle.checked.specs.declared.stop.Stop.TheVariants as stop
use Rattle.checked.specs.Checked.{Checked, Fine, Broken, Meets, Stops, behind, also, and_then, under}
use Rattle.checked.proofs.Lists.{last_of, end_of}
use Rattle.written_types.specs.Types.{arrays}
use Rattle.operator_rules.specs.declared.uses.Use.TheVariants as use_
use Rattle.check_expr.specs.Typed.{typed}
use Rattle.type_facts.specs.Facts.{Facts}
use Rattle.type_facts.specs.declared.scope.Place.{Place}
use Rattle.type_facts.specs.declared.scope.LocalVar.{LocalVar}
use Rattle.check_stmt.specs.declared.jumps.Jumps.{Jumps}
use Rattle.check_stmt.specs.declared.labels.Label.{Label}
use Rattle.check_stmt.specs.Labels.{labels, some_label, value_of, are_labels}
use Rattle.check_stmt.specs.Pieces.{declared, group_of, in_switch, with_vars}
use Rattle.check_stmt.specs.Statements.{typed_stmt, typed_stmts, groups, catches, one_catch, loop_of, var_of, vars_of, performed, after, after_all}
use Rattle.check_stmt.specs.Heights.{stmt_height, stmts_height, group_height, groups_height, catch_height, catches_height}
use Rattle.check_stmt.proofs.Trees.{group_at}

-- the i-th item and those behind it
split : {X Y : Type 0} (f : X → Y) (xs : List X) (i : ℕ) (x : X) → i < length xs → x ≡ get_or xs i x → map f (drop i xs) ≡ f x ∷ map f (drop (i + 1) xs)
split f xs i x low is =
    let next : suc i ≡ i + 1 = omega arith in
    ap (map f) (drop-cons xs i x low ∙ ap (λ y. y ∷ drop (suc i) xs) (sym is)) ∙ ap (λ k. f x ∷ map f (drop k xs)) next

-- one more of a list: what was checked, and the rest
one_more : {X A : Type 0} (v : X → A) (done done' : List X) (x : X) (c : Checked A) (rest : Checked (List A)) → c ≡ Fine (v x) → done' ≡ done ++ x ∷ []
    → behind (map v done') rest ≡ behind (map v done) (and_then c (λ y. also y rest))
one_more v done done' x c rest fine more = ap (λ ds. behind (map v ds) rest) more ∙ last_of v done x rest ∙ sym (ap (λ c. behind (map v done) (and_then c (λ y. also y rest))) fine)

-- ---- statements

pub lower_stmt : (ss : List Stmt) (k : ℕ) (s : Stmt) → k < length ss → s ≡ get_or ss k s → stmt_height (stmt_plain s) < stmts_height (stmts_plain ss)
lower_stmt [] k s low is = absurd (omega arith)
lower_stmt (x ∷ xs) zero s low is = let same : stmt_height (stmt_plain s) ≡ stmt_height (stmt_plain x) = ap (λ s. stmt_height (stmt_plain s)) is in omega (arith, same)
lower_stmt (x ∷ xs) (suc k) s low is = let i : stmt_height (stmt_plain s) < stmts_height (stmts_plain xs) = lower_stmt xs k s (omega arith) is in omega (arith, i)

front_stmt : (ss : List Stmt) (i : ℕ) (s : Stmt) → i < length ss → s ≡ get_or ss i s → stmts_plain (drop i ss) ≡ t.Then (stmt_plain s) (stmts_plain (drop (i + 1) ss))
front_stmt ss i s low is =
    let next : suc i ≡ i + 1 = omega arith in
    ap stmts_plain (drop-cons ss i s low ∙ ap (λ x. x ∷ drop (suc i) ss) (sym is)) ∙ ap (λ k. t.Then (stmt_plain s) (stmts_plain (drop k ss))) next

pub stmts_step : (f : Facts) (g : Place) (j : Jumps) (first : Bool) (ls ls' : List LocalVar) (ss : List Stmt) (i : ℕ) (s : Stmt) (done done' : List CoreStmt) (x : CoreStmt) (whole : Checked (List p.Stmt))
    → i < length ss → s ≡ get_or ss i s
    → typed_stmt f g j first ls (stmt_plain s) ≡ Fine (view.stmt_plain x) → done' ≡ done ++ x ∷ [] → ls' ≡ after f g ls (stmt_plain s)
    → behind (map view.stmt_plain done) (typed_stmts f g j first ls (stmts_plain (drop i ss))) ≡ whole
    → behind (map view.stmt_plain done') (typed_stmts f g j first ls' (stmts_plain (drop (i + 1) ss))) ≡ whole
stmts_step f g j first ls ls' ss i s done done' x whole low is fine more grown so_far =
    let rest = stmts_plain (drop (i + 1) ss) in
    ap (λ l. behind (map view.stmt_plain done') (typed_stmts f g j first l rest)) grown
    ∙ one_more view.stmt_plain done done' x (typed_stmt f g j first ls (stmt_plain s)) (typed_stmts f g j first (after f g ls (stmt_plain s)) rest) fine more
    ∙ sym (ap (λ ss. behind (map view.stmt_plain done) (typed_stmts f g j first ls ss)) (front_stmt ss i s low is))
    ∙ so_far

pub after_step : (f : Facts) (g : Place) (ls ls' whole : List LocalVar) (ss : List Stmt) (i : ℕ) (s : Stmt) → i < length ss → s ≡ get_or ss i s → ls' ≡ after f g ls (stmt_plain s)
    → after_all f g ls (stmts_plain (drop i ss)) ≡ whole → after_all f g ls' (stmts_plain (drop (i + 1) ss)) ≡ whole
after_step f g ls ls' whole ss i s low is grown so_far =
    ap (λ l. after_all f g l (stmts_plain (drop (i + 1) ss))) grown ∙ sym (ap (after_all f g ls) (front_stmt ss i s low is)) ∙ so_far

pub for_loop : (f : Facts) (g : Place) (j : Jumps) (first : Bool) (ls : List LocalVar) (n : Node) (ss : t.Stmts) (o : Option t.Expr) (es : t.Exprs) (a : t.Stmt)
    → typed_stmt f g j first ls (t.For n ss o es a) ≡ loop_of f g (after_all f g ls ss) n (typed_stmts f g j false ls ss) o es a
for_loop f g j first ls n ss None es a = refl
for_loop f g j first ls n ss (Some e) es a = refl

-- ---- locals

pub vars_step : (f : Facts) (g : Place) (a b : JavaType) (is_final : Bool) (ls ls' : List LocalVar) (vs : List Var) (i : ℕ) (v : Var) (done done' : List CoreVar) (x : CoreVar) (whole : Checked (List p.Var))
    → i < length vs → v ≡ get_or vs i v → b ≡ arrays v.dims a
    → var_of f g ls b is_final (var_plain v) (option_map plain v.init) ≡ Fine (view.var_plain x) → done' ≡ done ++ x ∷ [] → ls' ≡ declared ls v.name b is_final
    → behind (map view.var_plain done) (vars_of f g ls a is_final (map var_plain (drop i vs))) ≡ whole
    → behind (map view.var_plain done') (vars_of f g ls' a is_final (map var_plain (drop (i + 1) vs))) ≡ whole
vars_step f g a b is_final ls ls' vs i v done done' x whole low is made fine more grown so_far =
    let rest = map var_plain (drop (i + 1) vs) in
    let here : var_of f g ls (arrays v.dims a) is_final (var_plain v) (option_map plain v.init) ≡ Fine (view.var_plain x) =
    sym (ap (λ b. var_of f g ls b is_final (var_plain v) (option_map plain v.init)) made) ∙ fine in
    ap (λ l. behind (map view.var_plain done') (vars_of f g l a is_final rest)) (grown ∙ ap (λ b. declared ls v.name b is_final) made)
    ∙ one_more view.var_plain done done' x (var_of f g ls (arrays v.dims a) is_final (var_plain v) (option_map plain v.init)) (vars_of f g (declared ls v.name (arrays v.dims a) is_final) a is_final rest) here more
    ∙ sym (ap (λ vs. behind (map view.var_plain done) (vars_of f g ls a is_final vs)) (split var_plain vs i v low is))
    ∙ so_far

pub with_vars_step : (a b : JavaType) (is_final : Bool) (ls ls' whole : List LocalVar) (vs : List Var) (i : ℕ) (v : Var)
    → i < length vs → v ≡ get_or vs i v → b ≡ arrays v.dims a → ls' ≡ declared ls v.name b is_final
    → with_vars ls a is_final (map var_plain (drop i vs)) ≡ whole → with_vars ls' a is_final (map var_plain (drop (i + 1) vs)) ≡ whole
with_vars_step a b is_final ls ls' whole vs i v low is made grown so_far =
    ap (λ l. with_vars l a is_final (map var_plain (drop (i + 1) vs))) (grown ∙ ap (λ b. declared ls v.name b is_final) made)
    ∙ sym (ap (with_vars ls a is_final) (split var_plain vs i v low is))
    ∙ so_far

front_expr : (es : List Expr) (i : ℕ) (e : Expr) → i < length es → e ≡ get_or es i e → plains (drop i es) ≡ t.Also (plain e) (plains (drop (i + 1) es))
front_expr es i e low is =
    let next : suc i ≡ i + 1 = omega arith in
    ap plains (drop-cons es i e low ∙ ap (λ x. x ∷ drop (suc i) es) (sym is)) ∙ ap (λ k. t.Also (plain e) (plains (drop k es))) next

pub performed_step : (f : Facts) (g : Place) (ls : List LocalVar) (es : List Expr) (i : ℕ) (e : Expr) (done done' : List CoreExpr) (x : CoreExpr) (whole : Checked (List p.Expr))
    → i < length es → e ≡ get_or es i e
    → typed f g ls use_.Perform (plain e) ≡ Fine (view.plain x) → done' ≡ done ++ x ∷ []
    → behind (map view.plain done) (performed f g ls (plains (drop i es))) ≡ whole
    → behind (map view.plain done') (performed f g ls (plains (drop (i + 1) es))) ≡ whole
performed_step f g ls es i e done done' x whole low is fine more so_far =
    one_more view.plain done done' x (typed f g ls use_.Perform (plain e)) (performed f g ls (plains (drop (i + 1) es))) fine more
    ∙ sym (ap (λ es. behind (map view.plain done) (performed f g ls es)) (front_expr es i e low is))
    ∙ so_far

-- ---- labels

last_label : (done : List (Option Label)) (x : Option Label) (c : Checked (List (Option Label))) → behind (done ++ x ∷ []) c ≡ behind done (also x c)
last_label done x (Fine xs) = ap (λ ys. Fine ys) (append_assoc done (x ∷ []) xs)
last_label done x (Broken n r) = refl

pub labels_step : (es : List (Option Expr)) (i : ℕ) (e : Option Expr) (done done' : List (Option Label)) (x : Option Label) (whole : Checked (List (Option Label)))
    → i < length es → e ≡ get_or es i e → some_label (option_map plain e) ≡ Fine x → done' ≡ done ++ x ∷ []
    → behind done (labels (map (option_map plain) (drop i es))) ≡ whole → behind done' (labels (map (option_map plain) (drop (i + 1) es))) ≡ whole
labels_step es i e done done' x whole low is fine more so_far =
    let rest = labels (map (option_map plain) (drop (i + 1) es)) in
    ap (λ ds. behind ds rest) more ∙ last_label done x rest ∙ sym (ap (λ c. behind done (and_then c (λ y. also y rest))) fine)
    ∙ sym (ap (λ es. behind done (labels es)) (split (option_map plain) es i e low is)) ∙ so_far

-- ---- groups

front_group : (gs : List Group) (i : ℕ) (x : Group) → i < length gs → x ≡ get_or gs i x
    → group_row (map group_plain (drop i gs)) ≡ t.AndGroup (t.Labelled (out-Group x).node (map (option_map plain) (out-Group x).labels) (stmts_plain (out-Group x).body)) (group_row (map group_plain (drop (i + 1) gs)))
front_group gs i x low is = ap group_row (split group_plain gs i x low is) ∙ ap (λ y. t.AndGroup y (group_row (map group_plain (drop (i + 1) gs)))) (group_at x)

pub lower_group : (gs : List Group) (k : ℕ) (x : Group) → k < length gs → x ≡ get_or gs k x → stmts_height (stmts_plain (out-Group x).body) < groups_height (group_row (map group_plain gs))
lower_group [] k x low is = absurd (omega arith)
lower_group (y ∷ ys) zero x low is =
    let same : stmts_height (stmts_plain (out-Group x).body) ≡ group_height (group_plain y) = sym (ap group_height (group_at x)) ∙ ap (λ x. group_height (group_plain x)) is in omega (arith, same)
lower_group (y ∷ ys) (suc k) x low is =
    let i : stmts_height (stmts_plain (out-Group x).body) < groups_height (group_row (map group_plain ys)) = lower_group ys k x (omega arith) is in omega (arith, i)

-- a group, with those behind it
abbrev one_group : Facts → Place → Jumps → List LocalVar → Bool → List (Option ℤ) → Node → t.Stmts → t.Groups → List (Option Label) → Checked (List p.Group)
one_group f g j ls on_char seen n ss gs xs = and_then (group_of n xs on_char seen (typed_stmts f g (in_switch j) false ls ss)) (λ x. also x (groups f g j (after_all f g ls ss) on_char (seen ++ map value_of xs) gs))

pub groups_step : (f : Facts) (g : Place) (j : Jumps) (on_char : Bool) (ls ls' : List LocalVar) (seen seen' : List (Option ℤ)) (gs : List Group) (i : ℕ) (y : Group) (xs : List (Option Label))
    (done done' : List CoreGroup) (x : CoreGroup) (whole : Checked (List p.Group))
    → i < length gs → y ≡ get_or gs i y → labels (map (option_map plain) (out-Group y).labels) ≡ Fine xs
    → group_of (out-Group y).node xs on_char seen (typed_stmts f g (in_switch j) false ls (stmts_plain (out-Group y).body)) ≡ Fine (view.group_plain x) → done' ≡ done ++ x ∷ []
    → ls' ≡ after_all f g ls (stmts_plain (out-Group y).body) → seen' ≡ seen ++ map value_of xs
    → behind (map view.group_plain done) (groups f g j ls on_char seen (group_row (map group_plain (drop i gs)))) ≡ whole
    → behind (map view.group_plain done') (groups f g j ls' on_char seen' (group_row (map group_plain (drop (i + 1) gs)))) ≡ whole
groups_step f g j on_char ls ls' seen seen' gs i y xs done done' x whole low is read fine more grown joined so_far =
    let rest = group_row (map group_plain (drop (i + 1) gs)) in
    let ss = stmts_plain (out-Group y).body in
    ap (λ l. behind (map view.group_plain done') (groups f g j l on_char seen' rest)) grown
    ∙ ap (λ s. behind (map view.group_plain done') (groups f g j (after_all f g ls ss) on_char s rest)) joined
    ∙ one_more view.group_plain done done' x (group_of (out-Group y).node xs on_char seen (typed_stmts f g (in_switch j) false ls ss)) (groups f g j (after_all f g ls ss) on_char (seen ++ map value_of xs) rest) fine more
    ∙ sym (ap (λ c. behind (map view.group_plain done) (and_then c (one_group f g j ls on_char seen (out-Group y).node ss rest))) read)
    ∙ sym (ap (λ gs. behind (map view.group_plain done) (groups f g j ls on_char seen gs)) (front_group gs i y low is))
    ∙ so_far

-- a group that is fine has a fine body
no_group : (b : Bool) (n m r : ℕ) (k : List p.Stmt → Checked p.Group) (x : p.Group) → under b n 12 (and_then (Broken m r) k) ≡ Fine x → ⊥
no_group true n m r k x e = cc e
no_group false n m r k x e = cc e

pub body_fine : (body : Result (List CoreStmt) Stop) (n : Node) (xs : List (Option Label)) (on_char : Bool) (seen : List (Option ℤ)) (x : p.Group) (L : Type 0)
    → ((ss : Checked (List p.Stmt)) → Meets (map view.stmt_plain) body ss → group_of n xs on_char seen ss ≡ Fine x) → OnOk body L → L
body_fine (Ok b) n xs on_char seen x L h k = k
body_fine (Err (stop.Broken m r)) n xs on_char seen x L h k = absurd (no_group (are_labels on_char seen xs) n.id m r (λ ss. Fine (p.Labelled n (map value_of xs) (view.stmt_row ss))) x (h (Broken m r) refl))
body_fine (Err stop.NoMemory) n xs on_char seen x L h k = absurd (no_group (are_labels on_char seen xs) n.id 0 0 (λ ss. Fine (p.Labelled n (map value_of xs) (view.stmt_row ss))) x (h (Broken 0 0) tt))

-- the same, as the code reads the parts of the group
pub groups_turn : (f : Facts) (g : Place) (j jj : Jumps) (on_char : Bool) (ls ls' : List LocalVar) (seen seen' : List (Option ℤ)) (gs : List Group) (i : ℕ) (y : Group) (es : List (Option Expr)) (ss : List Stmt)
    (xs zs : List (Option Label)) (body : Result (List CoreStmt) Stop) (done done' : List CoreGroup) (x : CoreGroup) (whole : Checked (List p.Group))
    → i < length gs → y ≡ get_or gs i y → es ≡ (out-Group y).labels → labels (map (option_map plain) es) ≡ Fine xs
    → jj ≡ in_switch j → ss ≡ (out-Group y).body → Meets (map view.stmt_plain) body (typed_stmts f g jj false ls (stmts_plain ss)) → OnOk body (ls' ≡ after_all f g ls (stmts_plain ss))
    → zs ≡ xs → ((c : Checked (List p.Stmt)) → Meets (map view.stmt_plain) body c → group_of (out-Group y).node zs on_char seen c ≡ Fine (view.group_plain x))
    → seen' ≡ seen ++ map value_of zs → done' ≡ done ++ x ∷ []
    → behind (map view.group_plain done) (groups f g j ls on_char seen (group_row (map group_plain (drop i gs)))) ≡ whole
    → behind (map view.group_plain done') (groups f g j ls' on_char seen' (group_row (map group_plain (drop (i + 1) gs)))) ≡ whole
groups_turn f g j jj on_char ls ls' seen seen' gs i y es ss xs zs body done done' x whole low is labelled read jumps part made grown same_labels fine joined more so_far =
    let n = (out-Group y).node in
    let c = typed_stmts f g jj false ls (stmts_plain ss) in
    let said : typed_stmts f g jj false ls (stmts_plain ss) ≡ typed_stmts f g (in_switch j) false ls (stmts_plain (out-Group y).body) =
    ap (λ j. typed_stmts f g j false ls (stmts_plain ss)) jumps ∙ ap (λ ss. typed_stmts f g (in_switch j) false ls (stmts_plain ss)) part in
    groups_step f g j on_char ls ls' seen seen' gs i y xs done done' x whole low is
    (sym (ap (λ es. labels (map (option_map plain) es)) labelled) ∙ read)
    (sym (ap (λ c. group_of n xs on_char seen c) said) ∙ sym (ap (λ xs. group_of n xs on_char seen c) same_labels) ∙ fine c made)
    more
    (body_fine body n zs on_char seen (view.group_plain x) (ls' ≡ after_all f g ls (stmts_plain ss)) fine grown ∙ ap (λ ss. after_all f g ls (stmts_plain ss)) part)
    (joined ∙ ap (λ xs. seen ++ map value_of xs) same_labels)
    so_far

-- what stops a list stops all of it
pub stop_behind : {A : Type 0} (e : Stop) (xs : List A) (c whole : Checked (List A)) → Stops e c → behind xs c ≡ whole → Stops e whole
stop_behind (stop.Broken n r) xs c whole is all = sym all ∙ ap (behind xs) is
stop_behind stop.NoMemory xs c whole is all = tt

pub behind_none : {A : Type 0} (c : Checked (List A)) → behind [] c ≡ c
behind_none (Fine xs) = refl
behind_none (Broken n r) = refl

-- a group whose labels stop
pub labels_stop : (f : Facts) (g : Place) (j : Jumps) (on_char : Bool) (ls : List LocalVar) (seen : List (Option ℤ)) (gs : List Group) (i : ℕ) (y : Group) (es : List (Option Expr)) (e : Stop)
    → i < length gs → y ≡ get_or gs i y → es ≡ (out-Group y).labels → Stops e (labels (map (option_map plain) es)) → Stops e (groups f g j ls on_char seen (group_row (map group_plain (drop i gs))))
labels_stop f g j on_char ls seen gs i y es (stop.Broken n r) low is labelled broken =
    let rest = group_row (map group_plain (drop (i + 1) gs)) in
    let ss = stmts_plain (out-Group y).body in
    ap (λ gs. groups f g j ls on_char seen gs) (front_group gs i y low is)
    ∙ ap (λ c. and_then c (one_group f g j ls on_char seen (out-Group y).node ss rest)) (sym (ap (λ es. labels (map (option_map plain) es)) labelled) ∙ broken)
labels_stop f g j on_char ls seen gs i y es stop.NoMemory low is labelled broken = tt

-- a group that stops behind its labels
pub group_stop : (f : Facts) (g : Place) (j jj : Jumps) (on_char : Bool) (ls : List LocalVar) (seen : List (Option ℤ)) (gs : List Group) (i : ℕ) (y : Group) (es : List (Option Expr)) (ss : List Stmt)
    (xs zs : List (Option Label)) (e : Stop)
    → i < length gs → y ≡ get_or gs i y → es ≡ (out-Group y).labels → labels (map (option_map plain) es) ≡ Fine xs → jj ≡ in_switch j → ss ≡ (out-Group y).body → zs ≡ xs
    → Stops e (group_of (out-Group y).node zs on_char seen (typed_stmts f g jj false ls (stmts_plain ss))) → Stops e (groups f g j ls on_char seen (group_row (map group_plain (drop i gs))))
group_stop f g j jj on_char ls seen gs i y es ss xs zs (stop.Broken n r) low is labelled read jumps part same_labels broken =
    let rest = group_row (map group_plain (drop (i + 1) gs)) in
    let body = stmts_plain (out-Group y).body in
    let c = typed_stmts f g (in_switch j) false ls body in
    let said : typed_stmts f g jj false ls (stmts_plain ss) ≡ c =
    ap (λ j. typed_stmts f g j false ls (stmts_plain ss)) jumps ∙ ap (λ ss. typed_stmts f g (in_switch j) false ls (stmts_plain ss)) part in
    let here : group_of (out-Group y).node xs on_char seen c ≡ Broken n r =
    sym (ap (λ c. group_of (out-Group y).node xs on_char seen c) said) ∙ sym (ap (λ xs. group_of (out-Group y).node xs on_char seen (typed_stmts f g jj false ls (stmts_plain ss))) same_labels) ∙ broken in
    ap (λ gs. groups f g j ls on_char seen gs) (front_group gs i y low is)
    ∙ ap (λ c. and_then c (one_group f g j ls on_char seen (out-Group y).node body rest)) (sym (ap (λ es. labels (map (option_map plain) es)) labelled) ∙ read)
    ∙ ap (λ c. and_then c (λ x. also x (groups f g j (after_all f g ls body) on_char (seen ++ map value_of xs) rest))) here
group_stop f g j jj on_char ls seen gs i y es ss xs zs stop.NoMemory low is labelled read jumps part same_labels broken = tt

-- ---- catches

front_catch : (cs : List Catch) (i : ℕ) (x : Catch) → i < length cs → x ≡ get_or cs i x → catch_row (map catch_plain (drop i cs)) ≡ t.AndCatch (catch_plain x) (catch_row (map catch_plain (drop (i + 1) cs)))
front_catch cs i x low is = ap catch_row (split catch_plain cs i x low is)

pub lower_catch : (cs : List Catch) (k : ℕ) (x : Catch) → k < length cs → x ≡ get_or cs k x → catch_height (catch_plain x) < catches_height (catch_row (map catch_plain cs))
lower_catch [] k x low is = absurd (omega arith)
lower_catch (y ∷ ys) zero x low is = let same : catch_height (catch_plain x) ≡ catch_height (catch_plain y) = ap (λ x. catch_height (catch_plain x)) is in omega (arith, same)
lower_catch (y ∷ ys) (suc k) x low is = let i : catch_height (catch_plain x) < catches_height (catch_row (map catch_plain ys)) = lower_catch ys k x (omega arith) is in omega (arith, i)

-- the first of some catches
catches_by : (f : Facts) (g : Place) (j : Jumps) (ls : List LocalVar) (c : t.Catch) (cs : t.Catches) → catches f g j ls (t.AndCatch c cs) ≡ and_then (one_catch f g j ls c) (λ y. also y (catches f g j ls cs))
catches_by f g j ls (t.Caught n x s) cs = refl

pub catches_step : (f : Facts) (g : Place) (j : Jumps) (ls ls' : List LocalVar) (cs : List Catch) (i : ℕ) (y : Catch) (done done' : List CoreCatch) (x : CoreCatch) (whole : Checked (List p.Catch))
    → i < length cs → y ≡ get_or cs i y
    → one_catch f g j ls (catch_plain y) ≡ Fine (view.catch_plain x) → done' ≡ done ++ x ∷ [] → ls' ≡ ls
    → behind (map view.catch_plain done) (catches f g j ls (catch_row (map catch_plain (drop i cs)))) ≡ whole
    → behind (map view.catch_plain done') (catches f g j ls' (catch_row (map catch_plain (drop (i + 1) cs)))) ≡ whole
catches_step f g j ls ls' cs i y done done' x whole low is fine more kept so_far =
    let rest = catch_row (map catch_plain (drop (i + 1) cs)) in
    ap (λ l. behind (map view.catch_plain done') (catches f g j l rest)) kept
    ∙ one_more view.catch_plain done done' x (one_catch f g j ls (catch_plain y)) (catches f g j ls rest) fine more
    ∙ sym (ap (behind (map view.catch_plain done)) (catches_by f g j ls (catch_plain y) rest))
    ∙ sym (ap (λ cs. behind (map view.catch_plain done) (catches f g j ls cs)) (front_catch cs i y low is))
    ∙ so_far

-- a catch that stops
pub catches_stop : (f : Facts) (g : Place) (j : Jumps) (ls : List LocalVar) (cs : List Catch) (i : ℕ) (y : Catch) → i < length cs → y ≡ get_or cs i y
    → catches f g j ls (catch_row (map catch_plain (drop i cs))) ≡ and_then (one_catch f g j ls (catch_plain y)) (λ x. also x (catches f g j ls (catch_row (map catch_plain (drop (i + 1) cs)))))
catches_stop f g j ls cs i y low is = ap (catches f g j ls) (front_catch cs i y low is) ∙ catches_by f g j ls (catch_plain y) (catch_row (map catch_plain (drop (i + 1) cs)))

-- ---- ends of the loops

pub stmts_end : (done : List CoreStmt) → behind (map view.stmt_plain done) (Fine []) ≡ Fine (map view.stmt_plain done)
stmts_end done = end_of (map view.stmt_plain done)

pub groups_end : (done : List CoreGroup) → behind (map view.group_plain done) (Fine []) ≡ Fine (map view.group_plain done)
groups_end done = end_of (map view.group_plain done)

pub catches_end : (done : List CoreCatch) → behind (map view.catch_plain done) (Fine []) ≡ Fine (map view.catch_plain done)
catches_end done = end_of (map view.catch_plain done)

pub vars_end : (done : List CoreVar) → behind (map view.var_plain done) (Fine []) ≡ Fine (map view.var_plain done)
vars_end done = end_of (map view.var_plain done)

pub performed_end : (done : List CoreExpr) → behind (map view.plain done) (Fine []) ≡ Fine (map view.plain done)
performed_end done = end_of (map view.plain done)

pub labels_end : (done : List (Option Label)) → behind done (Fine []) ≡ Fine done
labels_end done = end_of done
