-- One more item of a list.
use Rattle.std.proofs.Common.{◌≡◌, ℕ, zero, suc, ◌+◌, ◌<◌, Bool, List, [], ◌∷◌, ◌++◌, map, length, length-append, drop, drop-cons, Option, Some, None, sym, ap, ◌∙◌, refl, arith}
use Rattle.std.specs.Prelude.{slice_get, slice_index_or as get_or}
use Rattle.std.specs.Option.{option_map}
use Rattle.java_tree.specs.declared.tree.TypeExpr.{TypeExpr}
use Rattle.java_tree.specs.declared.tree.Param.{Param}
use Rattle.java_tree.specs.declared.tree.Var.{Var}
use Rattle.java_tree.specs.declared.tree.Member.{Member}
use Rattle.java_tree.specs.declared.tree.TypeDecl.{TypeDecl}
use Rattle.java_tree.specs.declared.tree.SourceUnit.{SourceUnit}
use Rattle.java_tree.specs.Plain as t
use Rattle.java_tree.specs.View.{plain, type_plain, var_plain, param_plain, member_plain, decl_plain, unit_plain}
use Rattle.class_world.specs.declared.world.JavaType.{JavaType}
use Rattle.java_core.specs.declared.written.CoreType.{CoreType}
use Rattle.java_core.specs.declared.stmt.CoreParam.{CoreParam}
use Rattle.java_core.specs.declared.program.CoreField.{CoreField}
use Rattle.java_core.specs.declared.program.CoreMember.{CoreMember}
use Rattle.java_core.specs.declared.program.CoreClass.{CoreClass}
use Rattle.java_core.specs.declared.program.CoreFile.{CoreFile}
use Rattle.java_core.specs.Plain as p
use Rattle.java_core.specs.View as view
use Rattle.written_types.specs.Types.{arrays}
use Rattle.operator_rules.specs.Writtens.{written}
use Rattle.type_facts.specs.Facts.{Facts}
use Rattle.type_facts.specs.declared.scope.Place.{Place}
use Rattle.check_program.specs.Classes as spec
use Rattle.check_program.specs.Typing as typing
use Rattle.checked.specs.declared.stop.Stop.{Stop}
use Rattle.checked.specs.declared.stop.Stop.TheVariants as why
use Rattle.checked.specs.Checked.{Checked, Fine, Broken, Stops, behind, also, and_then}
use Rattle.checked.proofs.Lists.{last_of, end_of}

pub front : {X A : Type 0} (f : X → A) (xs : List X) (i : ℕ) (x : X) → i < length xs → x ≡ get_or xs i x → map f (drop i xs) ≡ f x ∷ map f (drop (i + 1) xs)
front f xs i x low is =
    let next : suc i ≡ i + 1 = omega arith in
    ap (map f) (drop-cons xs i x low ∙ ap (λ y. y ∷ drop (suc i) xs) (sym is)) ∙ ap (λ k. f x ∷ map f (drop k xs)) next

-- one more of what was checked
pub turn : {Y B : Type 0} (v : Y → B) (done after : List Y) (y : Y) (one : Checked B) (rest here all : Checked (List B))
    → here ≡ and_then one (λ z. also z rest) → one ≡ Fine (v y) → after ≡ done ++ y ∷ [] → behind (map v done) here ≡ all → behind (map v after) rest ≡ all
turn v done after y one rest here all is fine more so_far =
    ap (λ ds. behind (map v ds) rest) more
    ∙ last_of v done y rest
    ∙ sym (ap (λ c. behind (map v done) (and_then c (λ z. also z rest))) fine)
    ∙ sym (ap (behind (map v done)) is)
    ∙ so_far

-- the first that breaks a rule
pub stop : {Y B : Type 0} (v : Y → B) (done : List Y) (n r : ℕ) (one : Checked B) (rest here all : Checked (List B))
    → here ≡ and_then one (λ z. also z rest) → one ≡ Broken n r → behind (map v done) here ≡ all → all ≡ Broken n r
stop v done n r one rest here all is broken so_far =
    sym so_far
    ∙ ap (behind (map v done)) is
    ∙ ap (λ c. behind (map v done) (and_then c (λ z. also z rest))) broken

-- ---- the lists of the crate

pub written_step : (f : Facts) (g : Place) (xs : List TypeExpr) (i : ℕ) (x : TypeExpr) (done after : List CoreType) (y : CoreType) (all : Checked (List p.Written))
    → i < length xs → x ≡ get_or xs i x → written f g (type_plain x) ≡ Fine (view.written y) → after ≡ done ++ y ∷ []
    → behind (map view.written done) (spec.all_written f g (map type_plain (drop i xs))) ≡ all → behind (map view.written after) (spec.all_written f g (map type_plain (drop (i + 1) xs))) ≡ all
written_step f g xs i x done after y all low is fine more so_far =
    turn view.written done after y (written f g (type_plain x)) (spec.all_written f g (map type_plain (drop (i + 1) xs))) (spec.all_written f g (map type_plain (drop i xs))) all
    (ap (spec.all_written f g) (front type_plain xs i x low is)) fine more so_far

pub written_stop : (f : Facts) (g : Place) (xs : List TypeExpr) (i : ℕ) (x : TypeExpr) (done : List CoreType) (n r : ℕ) (all : Checked (List p.Written))
    → i < length xs → x ≡ get_or xs i x → written f g (type_plain x) ≡ Broken n r
    → behind (map view.written done) (spec.all_written f g (map type_plain (drop i xs))) ≡ all → all ≡ Broken n r
written_stop f g xs i x done n r all low is broken so_far =
    stop view.written done n r (written f g (type_plain x)) (spec.all_written f g (map type_plain (drop (i + 1) xs))) (spec.all_written f g (map type_plain (drop i xs))) all
    (ap (spec.all_written f g) (front type_plain xs i x low is)) broken so_far

pub param_split : (x : t.Param) (k : ℕ) (a : Checked p.Written) (rest : Checked (List p.Param))
    → and_then a (λ w. also (spec.param_made x k w) rest) ≡ and_then (and_then a (λ w. Fine (spec.param_made x k w))) (λ z. also z rest)
param_split x k (Fine w) rest = refl
param_split x k (Broken n r) rest = refl

param_here : (f : Facts) (g : Place) (k : ℕ) (xs : List Param) (i : ℕ) (x : Param) → i < length xs → x ≡ get_or xs i x
    → spec.params_from f g k (map param_plain (drop i xs))
    ≡ and_then (and_then (written f g (param_plain x).ty) (λ w. Fine (spec.param_made (param_plain x) k w))) (λ z. also z (spec.params_from f g (k + 1) (map param_plain (drop (i + 1) xs))))
param_here f g k xs i x low is =
    ap (spec.params_from f g k) (front param_plain xs i x low is) ∙ param_split (param_plain x) k (written f g (param_plain x).ty) (spec.params_from f g (k + 1) (map param_plain (drop (i + 1) xs)))

pub param_step : (f : Facts) (g : Place) (xs : List Param) (i : ℕ) (x : Param) (done after : List CoreParam) (w : CoreType) (y : CoreParam) (all : Checked (List p.Param))
    → i < length xs → x ≡ get_or xs i x → written f g (param_plain x).ty ≡ Fine (view.written w) → view.param_plain y ≡ spec.param_made (param_plain x) (length done) (view.written w) → after ≡ done ++ y ∷ []
    → behind (map view.param_plain done) (spec.params_from f g (length done) (map param_plain (drop i xs))) ≡ all
    → behind (map view.param_plain after) (spec.params_from f g (length after) (map param_plain (drop (i + 1) xs))) ≡ all
param_step f g xs i x done after w y all low is fine made more so_far =
    let long : length after ≡ length done + 1 = ap length more ∙ length-append done (y ∷ []) in
    ap (λ k. behind (map view.param_plain after) (spec.params_from f g k (map param_plain (drop (i + 1) xs)))) long
    ∙ turn view.param_plain done after y (and_then (written f g (param_plain x).ty) (λ w. Fine (spec.param_made (param_plain x) (length done) w)))
    (spec.params_from f g (length done + 1) (map param_plain (drop (i + 1) xs))) (spec.params_from f g (length done) (map param_plain (drop i xs))) all
    (param_here f g (length done) xs i x low is)
    (ap (λ a. and_then a (λ w. Fine (spec.param_made (param_plain x) (length done) w))) fine ∙ ap (λ z. Fine z) (sym made))
    more so_far

pub param_stop : (f : Facts) (g : Place) (xs : List Param) (i k : ℕ) (x : Param) (done : List CoreParam) (n r : ℕ) (all : Checked (List p.Param))
    → i < length xs → x ≡ get_or xs i x → written f g (param_plain x).ty ≡ Broken n r
    → behind (map view.param_plain done) (spec.params_from f g k (map param_plain (drop i xs))) ≡ all → all ≡ Broken n r
param_stop f g xs i k x done n r all low is broken so_far =
    stop view.param_plain done n r (and_then (written f g (param_plain x).ty) (λ w. Fine (spec.param_made (param_plain x) k w)))
    (spec.params_from f g (k + 1) (map param_plain (drop (i + 1) xs))) (spec.params_from f g k (map param_plain (drop i xs))) all
    (param_here f g k xs i x low is)
    (ap (λ a. and_then a (λ w. Fine (spec.param_made (param_plain x) k w))) broken) so_far

abbrev pub field_at : Facts → Place → ℕ → JavaType → Var → Checked p.FieldVar
field_at f g k ty v = spec.field_of f g k (arrays v.dims ty) (var_plain v) (option_map plain v.init)

pub field_step : (f : Facts) (g : Place) (ty : JavaType) (xs : List Var) (i k : ℕ) (x : Var) (done after : List CoreField) (y : CoreField) (all : Checked (List p.FieldVar))
    → i < length xs → x ≡ get_or xs i x → spec.field_of f g k (arrays x.dims ty) (var_plain x) (option_map plain x.init) ≡ Fine (view.field_plain y) → after ≡ done ++ y ∷ []
    → behind (map view.field_plain done) (spec.fields_of f g k ty (map var_plain (drop i xs))) ≡ all
    → behind (map view.field_plain after) (spec.fields_of f g (k + 1) ty (map var_plain (drop (i + 1) xs))) ≡ all
field_step f g ty xs i k x done after y all low is fine more so_far =
    turn view.field_plain done after y (field_at f g k ty x) (spec.fields_of f g (k + 1) ty (map var_plain (drop (i + 1) xs))) (spec.fields_of f g k ty (map var_plain (drop i xs))) all
    (ap (spec.fields_of f g k ty) (front var_plain xs i x low is)) fine more so_far

pub field_stop : (f : Facts) (g : Place) (ty : JavaType) (xs : List Var) (i k : ℕ) (x : Var) (done : List CoreField) (n r : ℕ) (all : Checked (List p.FieldVar))
    → i < length xs → x ≡ get_or xs i x → spec.field_of f g k (arrays x.dims ty) (var_plain x) (option_map plain x.init) ≡ Broken n r
    → behind (map view.field_plain done) (spec.fields_of f g k ty (map var_plain (drop i xs))) ≡ all → all ≡ Broken n r
field_stop f g ty xs i k x done n r all low is broken so_far =
    stop view.field_plain done n r (field_at f g k ty x) (spec.fields_of f g (k + 1) ty (map var_plain (drop (i + 1) xs))) (spec.fields_of f g k ty (map var_plain (drop i xs))) all
    (ap (spec.fields_of f g k ty) (front var_plain xs i x low is)) broken so_far

pub member_step : (f : Facts) (g : Place) (b : Bool) (xs : List Member) (i k m k' m' : ℕ) (x : Member) (done after : List CoreMember) (y : CoreMember) (all : Checked (List p.Member))
    → i < length xs → x ≡ get_or xs i x → spec.member_in f g b k m (member_plain x) ≡ Fine (view.member_plain y) → after ≡ done ++ y ∷ []
    → k' ≡ spec.next_field k (member_plain x) → m' ≡ spec.next_method m (member_plain x)
    → behind (map view.member_plain done) (spec.members_of f g b k m (map member_plain (drop i xs))) ≡ all
    → behind (map view.member_plain after) (spec.members_of f g b k' m' (map member_plain (drop (i + 1) xs))) ≡ all
member_step f g b xs i k m k' m' x done after y all low is fine more next_k next_m so_far =
    let rest : List t.Member = map member_plain (drop (i + 1) xs) in
    ap (λ k. behind (map view.member_plain after) (spec.members_of f g b k m' rest)) next_k
    ∙ ap (λ m. behind (map view.member_plain after) (spec.members_of f g b (spec.next_field k (member_plain x)) m rest)) next_m
    ∙ turn view.member_plain done after y (spec.member_in f g b k m (member_plain x))
    (spec.members_of f g b (spec.next_field k (member_plain x)) (spec.next_method m (member_plain x)) rest) (spec.members_of f g b k m (map member_plain (drop i xs))) all
    (ap (spec.members_of f g b k m) (front member_plain xs i x low is)) fine more so_far

pub member_stop : (f : Facts) (g : Place) (b : Bool) (xs : List Member) (i k m : ℕ) (x : Member) (done : List CoreMember) (n r : ℕ) (all : Checked (List p.Member))
    → i < length xs → x ≡ get_or xs i x → spec.member_in f g b k m (member_plain x) ≡ Broken n r
    → behind (map view.member_plain done) (spec.members_of f g b k m (map member_plain (drop i xs))) ≡ all → all ≡ Broken n r
member_stop f g b xs i k m x done n r all low is broken so_far =
    stop view.member_plain done n r (spec.member_in f g b k m (member_plain x))
    (spec.members_of f g b (spec.next_field k (member_plain x)) (spec.next_method m (member_plain x)) (map member_plain (drop (i + 1) xs))) (spec.members_of f g b k m (map member_plain (drop i xs))) all
    (ap (spec.members_of f g b k m) (front member_plain xs i x low is)) broken so_far

pub class_step : (f : Facts) (xs : List TypeDecl) (i c : ℕ) (x : TypeDecl) (done after : List CoreClass) (y : CoreClass) (all : Checked (List p.Class))
    → i < length xs → x ≡ get_or xs i x → spec.class_of f c (decl_plain x) (slice_get f.world.types c) ≡ Fine (view.class_plain y) → after ≡ done ++ y ∷ []
    → behind (map view.class_plain done) (typing.classes_of f c (map decl_plain (drop i xs))) ≡ all
    → behind (map view.class_plain after) (typing.classes_of f (c + 1) (map decl_plain (drop (i + 1) xs))) ≡ all
class_step f xs i c x done after y all low is fine more so_far =
    turn view.class_plain done after y (spec.class_of f c (decl_plain x) (slice_get f.world.types c)) (typing.classes_of f (c + 1) (map decl_plain (drop (i + 1) xs))) (typing.classes_of f c (map decl_plain (drop i xs))) all
    (ap (typing.classes_of f c) (front decl_plain xs i x low is)) fine more so_far

pub class_stop : (f : Facts) (xs : List TypeDecl) (i c : ℕ) (x : TypeDecl) (done : List CoreClass) (n r : ℕ) (all : Checked (List p.Class))
    → i < length xs → x ≡ get_or xs i x → spec.class_of f c (decl_plain x) (slice_get f.world.types c) ≡ Broken n r
    → behind (map view.class_plain done) (typing.classes_of f c (map decl_plain (drop i xs))) ≡ all → all ≡ Broken n r
class_stop f xs i c x done n r all low is broken so_far =
    stop view.class_plain done n r (spec.class_of f c (decl_plain x) (slice_get f.world.types c)) (typing.classes_of f (c + 1) (map decl_plain (drop (i + 1) xs))) (typing.classes_of f c (map decl_plain (drop i xs))) all
    (ap (typing.classes_of f c) (front decl_plain xs i x low is)) broken so_far

-- ---- files

file_at : (us : List SourceUnit) (k : ℕ) (u : SourceUnit) → slice_get us k ≡ Some u → map unit_plain (drop k us) ≡ unit_plain u ∷ map unit_plain (drop (suc k) us)
file_at [] k u at = absurd (cc at)
file_at (x ∷ xs) zero u at = let same : x ≡ u = cc at in ap (λ y. unit_plain y ∷ map unit_plain xs) same
file_at (x ∷ xs) (suc k) u at = file_at xs k u at

file_here : (us : List SourceUnit) (k : ℕ) (u : SourceUnit) → slice_get us k ≡ Some u → map unit_plain (drop k us) ≡ unit_plain u ∷ map unit_plain (drop (k + 1) us)
file_here us k u at = let next : suc k ≡ k + 1 = omega arith in file_at us k u at ∙ ap (λ k. unit_plain u ∷ map unit_plain (drop k us)) next

pub file_step : (fs : ℕ → Facts) (us : List SourceUnit) (k c c' : ℕ) (u : SourceUnit) (done after : List CoreFile) (y : CoreFile) (all : Checked (List p.File))
    → slice_get us k ≡ Some u → typing.file_of (fs k) c (unit_plain u) ≡ Fine (view.file_plain y) → after ≡ done ++ y ∷ [] → c' ≡ c + length (unit_plain u).types
    → behind (map view.file_plain done) (typing.files_of fs k c (map unit_plain (drop k us))) ≡ all
    → behind (map view.file_plain after) (typing.files_of fs (k + 1) c' (map unit_plain (drop (k + 1) us))) ≡ all
file_step fs us k c c' u done after y all at fine more next so_far =
    ap (λ c. behind (map view.file_plain after) (typing.files_of fs (k + 1) c (map unit_plain (drop (k + 1) us)))) next
    ∙ turn view.file_plain done after y (typing.file_of (fs k) c (unit_plain u)) (typing.files_of fs (k + 1) (c + length (unit_plain u).types) (map unit_plain (drop (k + 1) us)))
    (typing.files_of fs k c (map unit_plain (drop k us))) all
    (ap (typing.files_of fs k c) (file_here us k u at)) fine more so_far

pub file_stop : (fs : ℕ → Facts) (us : List SourceUnit) (k c : ℕ) (u : SourceUnit) (done : List CoreFile) (n r : ℕ) (all : Checked (List p.File))
    → slice_get us k ≡ Some u → typing.file_of (fs k) c (unit_plain u) ≡ Broken n r
    → behind (map view.file_plain done) (typing.files_of fs k c (map unit_plain (drop k us))) ≡ all → all ≡ Broken n r
file_stop fs us k c u done n r all at broken so_far =
    stop view.file_plain done n r (typing.file_of (fs k) c (unit_plain u)) (typing.files_of fs (k + 1) (c + length (unit_plain u).types) (map unit_plain (drop (k + 1) us)))
    (typing.files_of fs k c (map unit_plain (drop k us))) all
    (ap (typing.files_of fs k c) (file_here us k u at)) broken so_far

pub file_stops : (fs : ℕ → Facts) (us : List SourceUnit) (k c : ℕ) (u : SourceUnit) (done : List CoreFile) (all : Checked (List p.File)) (e : Stop)
    → slice_get us k ≡ Some u → Stops e (typing.file_of (fs k) c (unit_plain u))
    → behind (map view.file_plain done) (typing.files_of fs k c (map unit_plain (drop k us))) ≡ all → Stops e all
file_stops fs us k c u done all (why.Broken n r) at broken so_far = file_stop fs us k c u done n r all at broken so_far
file_stops fs us k c u done all why.NoMemory at broken so_far = tt

pub written_end : (done : List CoreType) → behind (map view.written done) (Fine []) ≡ Fine (map view.written done)
written_end done = end_of (map view.written done)

pub param_end : (done : List CoreParam) → behind (map view.param_plain done) (Fine []) ≡ Fine (map view.param_plain done)
param_end done = end_of (map view.param_plain done)

pub field_end : (done : List CoreField) → behind (map view.field_plain done) (Fine []) ≡ Fine (map view.field_plain done)
field_end done = end_of (map view.field_plain done)

pub member_end : (done : List CoreMember) → behind (map view.member_plain done) (Fine []) ≡ Fine (map view.member_plain done)
member_end done = end_of (map view.member_plain done)

pub class_end : (done : List CoreClass) → behind (map view.class_plain done) (Fine []) ≡ Fine (map view.class_plain done)
class_end done = end_of (map view.class_plain done)

pub file_end : (done : List CoreFile) → behind (map view.file_plain done) (Fine []) ≡ Fine (map view.file_plain done)
file_end done = end_of (map view.file_plain done)
