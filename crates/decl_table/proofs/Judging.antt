-- How the parts of the judging go together.
use Rattle.std.proofs.Common.{◌≡◌, ℕ, suc, ◌+◌, ◌≤◌, Bool, true, false, List, [], ◌∷◌, ◌++◌, map, length, Option, Some, None, Result, Ok, Err, inl, inr, refl, sym, ap, ◌∙◌, subst, arith}
use Rattle.std.specs.Prelude.{IfOk}
use Rattle.std.proofs.lemmas.List.{length-map, length-append, append-nil}
use Rattle.java_tree.specs.declared.fault.Broken.{Broken}
use Rattle.java_tree.specs.declared.fault.Family.{Family}
use Rattle.java_tree.specs.declared.fault.Family.TheVariants as family
use Rattle.java_tree.specs.declared.fault.NoMemory.{NoMemory}
use Rattle.java_tree.specs.Plain.{SourceUnit}
use Rattle.rule_order.specs.declared.Breach.{Breach}
use Rattle.rule_order.specs.First.{Breaches, IsFirst, IsNone, IsFirstOf}
use Rattle.type_names.specs.declared.known.JavaNames.{JavaNames}
use Rattle.type_names.specs.Known.{File, files_of}
use Rattle.type_names.specs.Tables.{files_in}
use Rattle.decl_rules.specs.DeclaredRules.{declared_types}
use Rattle.class_world.specs.declared.world.World.{World}
use Rattle.class_world.specs.declared.world.TypeInfo.{TypeInfo}
use Rattle.class_world.specs.declared.world.MethodInfo.{MethodInfo}
use Rattle.class_world.specs.declared.world.FieldInfo.{FieldInfo}
use Rattle.class_world.specs.Merged.{IsAboveItself}
use Rattle.class_world.specs.Sound.{AreSupers}
use Rattle.built_in_types.specs.declared.words.Words.{Words}
use Rattle.built_in_types.specs.declared.types.BuiltIns.{BuiltIns}
use Rattle.type_headers.specs.Declared.{Declaration, declarations_from, declarations, header, headers}
use Rattle.program_world.specs.ProgramWorld.{methods_of, fields_of, infos_from, place_among, world_of}
use Rattle.written_types.specs.Places.{Place}
use Rattle.decl_table.specs.declared.program.Judged.{Judged}
use Rattle.decl_table.specs.declared.program.Judged.TheVariants as judged
use Rattle.decl_table.specs.Bases.{AreBases}
use Rattle.decl_table.specs.Program.{Program, java, files, built, ScopeSet, ScopeBreaches, sum, total, type_count, method_count, DeclarationSet, IsLimitOver, IsEarlyRefusal, IsRefusal, SameDeclared}
use Rattle.decl_table.specs.Judged.{IsJudged, IsDeclared, IsEarly, IsTabled, named}
use Rattle.decl_table.proofs.Fitting.{made}
use Rattle.decl_table.proofs.Orders.{supers_in_order}
use Rattle.decl_table.proofs.Rises.{none_rises}
use Rattle.decl_table.proofs.Typed.{typed_world}

-- ---- how many types there are

count_infos : (at : Declaration → Place) (xs : List Declaration) (c m n : ℕ) → length (infos_from at c m n xs) ≡ length xs
count_infos at [] c m n = refl
count_infos at (x ∷ xs) c m n = ap suc (count_infos at xs (c + 1) (m + length (methods_of (at x) c x.decl)) (n + length (fields_of (at x) c x.decl)))

-- the world has a type for each header
pub count_world : (b : BuiltIns) (j : JavaNames) (fs : List File) → length (world_of b j fs).types ≡ length (headers b.types fs)
count_world b j fs =
    length-append b.types (infos_from (place_among b j fs) 19 (length b.methods) (length b.fields) (declarations fs))
    ∙ ap (λ n. length b.types + n) (count_infos (place_among b j fs) (declarations fs) 19 (length b.methods) (length b.fields) ∙ sym (length-map (declarations fs) header))
    ∙ sym (length-append b.types (map header (declarations fs)))

count_units : (user : Bool) (us : List SourceUnit) (rest : List File) (i : ℕ)
    → length (declarations_from i (files_in user us ++ rest)) ≡ sum declared_types us + length (declarations_from (i + length us) rest)
count_units user [] rest i = ap (λ k. length (declarations_from k rest)) (let e : i ≡ i + 0 = omega arith in e) ∙ (let e : length (declarations_from (i + 0) rest) ≡ 0 + length (declarations_from (i + 0) rest) = omega arith in e)
count_units user (u ∷ us) rest i =
    let f : File = record { unit = u; user = user } in
    let a = length-append (map (made i f) u.types) (declarations_from (i + 1) (files_in user us ++ rest)) in
    let b = length-map u.types (made i f) in
    let c = count_units user us rest (i + 1) in
    let d : length (declarations_from ((i + 1) + length us) rest) ≡ length (declarations_from (i + length (u ∷ us)) rest) = ap (λ k. length (declarations_from k rest)) (omega arith) in
    omega (arith, a, b, c, d)

pub count_declared : (user lib : List SourceUnit) → length (declarations (files_of user lib)) ≡ total declared_types user lib
count_declared user lib =
    let a = count_units true user (files_in false lib) 0 in
    let b = count_units false lib [] (0 + length user) in
    let c = ap (λ fs. length (declarations_from (0 + length user) fs)) (append-nil (files_in false lib)) in
    omega (arith, a, b, c)

pub count_types : (bs : List TypeInfo) (user lib : List SourceUnit) → length bs ≡ 19 → total declared_types user lib ≤ 4096 → length (headers bs (files_of user lib)) ≤ 4115
count_types bs user lib nineteen few =
    let a = length-append bs (map header (declarations (files_of user lib))) in
    let b = length-map (declarations (files_of user lib)) header in
    omega (arith, a, b, nineteen, few, count_declared user lib)

-- ---- a broken rule by its family

pub first_of : (f : Family) (S : Breaches) (b : Breach) → IsFirst S (Some b) → IsFirstOf f S (named f b)
first_of f S b first = (refl, (b.node, refl, first))

-- ---- where none of the DR rules is broken

pub in_order : (b : BuiltIns) (j : JavaNames) (fs : List File) → AreBases b.types → IsNone (DeclarationSet b j fs) → AreSupers (world_of b j fs)
in_order b j fs bases none = supers_in_order b j fs bases (λ x h. none x (inl (inr (inr (inl h)))))

pub not_above : (b : BuiltIns) (j : JavaNames) (fs : List File) → AreBases b.types → IsNone (DeclarationSet b j fs) → (c : ℕ) → IsAboveItself (world_of b j fs) c → ⊥
not_above b j fs bases none c itself = none_rises b j fs bases (λ x h. none x (inl (inr (inr (inr (inl h)))))) c itself

pub tabled_declared : (names : List (List ℕ)) (b : BuiltIns) (j : JavaNames) (fs : List File) (w : World) (r : Result Judged NoMemory) → w ≡ world_of b j fs → IsNone (DeclarationSet b j fs) → IfOk r (IsTabled names w)
    → IfOk r (IsDeclared names b j fs)
tabled_declared names b j fs w (Err e) is none h = tt
tabled_declared names b j fs w (Ok (judged.Declared v)) is none h = (none, h.0, h.1, subst (λ u. SameDeclared u v) is h.2)
tabled_declared names b j fs w (Ok (judged.Refused x)) is none h = absurd h

-- ---- the rules before them

pub limit_broken : (S : Breaches) (types methods : ℕ) (number : ℕ) → IsNone S → IsLimitOver types methods (Some number)
    → IsEarlyRefusal S types methods (record { family = family.L; number = number; node = None })
limit_broken S types methods number none (inl h) = inr (inl (none, h.1, (refl, h.0, refl)))
limit_broken S types methods number none (inr h) = inr (inr (none, h.1, h.2, (refl, h.0, refl)))

-- ---- what comes of the program

built_is : (b : BuiltIns) (w : Words) → b.types ≡ (built w).types → b.methods ≡ (built w).methods → b.fields ≡ (built w).fields → b ≡ built w
built_is b w types methods fields = made_of b.types (built w).types b.methods (built w).methods b.fields (built w).fields types methods fields
  where
    made_of : (t t' : List TypeInfo) (m m' : List MethodInfo) (f f' : List FieldInfo) → t ≡ t' → m ≡ m' → f ≡ f'
        → ◌≡◌ {A = BuiltIns} (record { types = t; methods = m; fields = f }) (record { types = t'; methods = m'; fields = f' })
    made_of t t' m m' f f' e g h = rw (e, g, h) refl

pub refused_early : (names : List (List ℕ)) (p : Program) (j : JavaNames) (bs ts : List TypeInfo) (b : Broken) → j ≡ java p → bs ≡ (built p.words).types → ts ≡ headers bs (files p)
    → IsEarlyRefusal (ScopeSet names j p.user p.lib ts) (type_count p) (method_count p) b → IsRefusal names p b
refused_early names p j bs ts b same base is h =
    inl (subst (λ us. IsEarlyRefusal (ScopeSet names (java p) p.user p.lib us) (type_count p) (method_count p) b) (is ∙ ap (λ cs. headers cs (files p)) base)
    (subst (λ i. IsEarlyRefusal (ScopeSet names i p.user p.lib ts) (type_count p) (method_count p) b) same h))

pub declared_judged : (names : List (List ℕ)) (p : Program) (j : JavaNames) (b : BuiltIns) (ts : List TypeInfo) (r : Result Judged NoMemory) → j ≡ java p → b.types ≡ (built p.words).types
    → b.methods ≡ (built p.words).methods → b.fields ≡ (built p.words).fields → ts ≡ headers b.types (files p)
    → IsEarly (ScopeSet names j p.user p.lib ts) (type_count p) (method_count p) None → IfOk r (IsDeclared names b j (files p)) → IfOk r (IsJudged names p)
declared_judged names p j b ts r same types methods fields is early h = all r h
  where
    whole : b ≡ built p.words
    whole = built_is b p.words types methods fields

    scope : IsNone (ScopeBreaches names p)
    scope =
        subst (λ us. IsNone (ScopeSet names (java p) p.user p.lib us)) (is ∙ ap (λ cs. headers cs (files p)) types) (subst (λ i. IsNone (ScopeSet names i p.user p.lib ts)) same early.0)

    moved : (P : BuiltIns → JavaNames → Type 0) → P b j → P (built p.words) (java p)
    moved P x = subst (λ c. P c (java p)) whole (subst (P b) same x)

    all : (r : Result Judged NoMemory) → IfOk r (IsDeclared names b j (files p)) → IfOk r (IsJudged names p)
    all (Err e) h = tt
    all (Ok (judged.Declared w)) h = record {
      scope = scope;
      types = early.1;
      methods = early.2;
      declared = moved (λ c i. IsNone (DeclarationSet c i (files p))) h.0;
      sound = h.1;
      typed = typed_world p.words (java p) (files p) w (moved (λ c i. SameDeclared (world_of c i (files p)) w) h.3);
      walk = h.2;
      same = moved (λ c i. SameDeclared (world_of c i (files p)) w) h.3;
    }
    all (Ok (judged.Refused x)) h = inr (scope, early.1, early.2, moved (λ c i. IsFirstOf family.DR (DeclarationSet c i (files p)) x) h)

-- no first one
pub none_first : (S : Breaches) (r : Option Breach) → ((b : Breach) → r ≡ Some b → ⊥) → IsFirst S r → IsNone S
none_first S None not first = first
none_first S (Some b) not first = absurd (not b refl)

pub early_none : (S : Breaches) (types methods : ℕ) (r : Option Broken) → ((b : Broken) → r ≡ Some b → ⊥) → IsEarly S types methods r → IsEarly S types methods None
early_none S types methods None not early = early
early_none S types methods (Some b) not early = absurd (not b refl)
