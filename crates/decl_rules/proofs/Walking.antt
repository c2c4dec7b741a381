-- The walk finds the first of what is within a node, form by form.
use Rattle.std.proofs.Common.{◌≡◌, ◌<◌, ◌⊎◌, inl, inr, Bool, true, false, Option, Some, None, List, [], ◌∷◌, map, refl, sym, subst}
use Rattle.std.specs.Prelude.{Decides, Contains, nat_lt}
use Rattle.std.proofs.lemmas.Bool.Decides.{Decides-ltb, Decides-like, Decides-or}
use Rattle.std.proofs.lemmas.List.Elements.{Contains-append_right, Contains-append_cases}
use Rattle.java_tree.specs.declared.tree.Name.{Name}
use Rattle.java_tree.specs.declared.tree.Head.{Head}
use Rattle.java_tree.specs.declared.tree.Head.TheVariants as head
use Rattle.java_tree.specs.declared.tree.Import.{Import}
use Rattle.java_tree.specs.Plain as t
use Rattle.java_tree.specs.View as view
use Rattle.decl_rules.specs.Children as c
use Rattle.decl_rules.specs.Children.{Item, children}
use Rattle.rule_order.specs.declared.Breach.{Breach}
use Rattle.rule_order.specs.First.{Breaches, Either}
use Rattle.rule_order.specs.Noted.{At, SomeOf, Adds, noted}
use Rattle.decl_rules.specs.Parts.{IsWithin, Below, node_of, head_of, dims_of}
use Rattle.decl_rules.specs.PlainRules.{NamesQualified, IsElement, HasGenericElements, IsQualified, HasBrackets, NamesGeneric, WrittenBreaks}
use Rattle.decl_rules.specs.Walk as spec
use Rattle.rule_order.proofs.Adding.{adds_nothing, adds_both, adds_alike, adds_noted}
use Rattle.rule_order.proofs.Lists.{in_none, in_first, in_rest, in_cases, some_none, some_more}
use Rattle.decl_rules.proofs.Deciding.{nested_decides}
use Rattle.decl_rules.proofs.Inside.{In, GoesOn, AllGoOn, within_cases, is_type, nameless, with_own, bare, none, more, one, both, element_adds, with_element}

-- ---- tests

qualified_decides : (h : Head) → Decides (spec.is_qualified h) (IsQualified h)
qualified_decides (head.Prim p) = (λ e. absurd (cc e), λ f. absurd f)
qualified_decides (head.Path []) = (λ e. absurd (cc e), λ f. absurd f)
qualified_decides (head.Path (x ∷ [])) = (λ e. absurd (cc e), λ f. absurd f)
qualified_decides (head.Path (x ∷ y ∷ names)) = (λ e. tt, λ f. refl)

brackets_decide : (vs : List t.Var) → Decides (spec.has_brackets vs) (HasBrackets vs)
brackets_decide [] = (λ e. absurd (cc e), λ f. absurd (in_none f.0 f.1))
brackets_decide (v ∷ vs) = Decides-like _ to from (Decides-or (nat_lt 0 v.dims) (spec.has_brackets vs) (Decides-ltb 0 v.dims) (brackets_decide vs))
  where
    to : (0 < v.dims) ⊎ HasBrackets vs → HasBrackets (v ∷ vs)
    to h = elim h [ inl u ↦ (v, in_first v vs, u) | inr u ↦ (u.0, in_rest v u.0 vs u.1, u.2) ]

    from : HasBrackets (v ∷ vs) → (0 < v.dims) ⊎ HasBrackets vs
    from h = elim (in_cases v h.0 vs h.1) [ inl e ↦ inl (subst (λ (w : t.Var). 0 < w.dims) e h.2) | inr u ↦ inr (h.0, u, h.2) ]

module _ (generic : Name → Bool) (vars : List Name) where
  abbrev test : t.TypeExpr → Bool
  test = spec.is_nested generic vars

  -- ---- written types

  abbrev IsNested : t.TypeExpr → Type 0
  IsNested x = (0 < dims_of x) ⊎ NamesGeneric generic vars (head_of x)

  -- S12 at some of the arguments
  abbrev SomeNested : t.TypeExprs → Breaches
  SomeNested xs b = (y : t.TypeExpr) × Contains (c.types xs) (c.TypeExpr y) × At 12 (node_of y) (IsNested y) b

  args_add : (xs : t.TypeExprs) (a : Option Breach) → Adds (SomeNested xs) a (spec.nested test xs a)
  args_add t.NoTypes a = adds_nothing (SomeNested t.NoTypes) a (λ b h. in_none (c.TypeExpr h.0) h.1)
  args_add (t.AndType x xs) a =
      let m = noted a 12 (node_of x) (test x) in
      adds_alike (Either (At 12 (node_of x) (IsNested x)) (SomeNested xs)) (SomeNested (t.AndType x xs)) a (spec.nested test xs m) (λ b. (to b, from b))
      (adds_both (At 12 (node_of x) (IsNested x)) (SomeNested xs) a m (spec.nested test xs m) (adds_noted 12 (node_of x) (IsNested x) (test x) a (nested_decides generic vars x))
      (args_add xs m))
    where
      to : (b : Breach) → Either (At 12 (node_of x) (IsNested x)) (SomeNested xs) b → SomeNested (t.AndType x xs) b
      to b h = elim h [ inl u ↦ (x, in_first (c.TypeExpr x) (c.types xs), u) | inr u ↦ (u.0, in_rest (c.TypeExpr x) (c.TypeExpr u.0) (c.types xs) u.1, u.2) ]

      same : (y : t.TypeExpr) → c.TypeExpr y ≡ c.TypeExpr x → y ≡ x
      same y e = cc e

      from : (b : Breach) → SomeNested (t.AndType x xs) b → Either (At 12 (node_of x) (IsNested x)) (SomeNested xs) b
      from b h =
          elim (in_cases (c.TypeExpr x) (c.TypeExpr h.0) (c.types xs) h.1) [
            | inl e ↦ inl (subst (λ (y : t.TypeExpr). At 12 (node_of y) (IsNested y) b) (same h.0 e) h.2)
            | inr u ↦ inr (h.0, u, h.2)
          ]

  mutual
    pub type_on : (x : t.TypeExpr) (a : Option Breach) → GoesOn generic vars (c.TypeExpr x) a (spec.type test x a)
    type_on (t.Written n h s xs d) a =
        let x = t.Written n h s xs d in
        let m = noted a 13 n (spec.is_qualified h) in
        let e = spec.element (nat_lt 0 d) x m in
        let i = spec.nested test xs e in
        with_own (c.TypeExpr x) a i (spec.types test xs i)
        (adds_both (NamesQualified (c.TypeExpr x)) (Either (HasGenericElements (c.TypeExpr x)) (SomeNested xs)) a m i
        (adds_noted 13 n (IsQualified h) (spec.is_qualified h) a (qualified_decides h))
        (adds_both (HasGenericElements (c.TypeExpr x)) (SomeNested xs) m e i
        (element_adds (c.TypeExpr x) x (0 < d) (nat_lt 0 d) m (Decides-ltb 0 d) (λ z. (λ k. k, λ k. k))) (args_add xs e)))
        (types_on xs i)

    pub types_on : (xs : t.TypeExprs) (a : Option Breach) → AllGoOn generic vars (c.types xs) a (spec.types test xs a)
    types_on t.NoTypes a = none
    types_on (t.AndType x xs) a = more (type_on x a) (types_on xs (spec.type test x a))

  pub type_list_on : (xs : List t.TypeExpr) (a : Option Breach) → AllGoOn generic vars (map c.TypeExpr xs) a (spec.types test (view.types xs) a)
  type_list_on [] a = none
  type_list_on (x ∷ xs) a = more (type_on x a) (type_list_on xs (spec.type test x a))

  maybe_type_on : (x : Option t.TypeExpr) (a : Option Breach) → AllGoOn generic vars (c.maybe_type x) a (spec.maybe_type test x a)
  maybe_type_on None a = none
  maybe_type_on (Some x) a = one (type_on x a)

  -- ---- expressions

  mutual
    pub expr_on : (x : t.Expr) (a : Option Breach) → GoesOn generic vars (c.Expr x) a (spec.expr test x a)
    expr_on (t.Number n x d l) a = bare refl (λ ty h. h) none
    expr_on (t.Char n x) a = bare refl (λ ty h. h) none
    expr_on (t.Text n x) a = bare refl (λ ty h. h) none
    expr_on (t.Truth n x) a = bare refl (λ ty h. h) none
    expr_on (t.Null n) a = bare refl (λ ty h. h) none
    expr_on (t.This n) a = bare refl (λ ty h. h) none
    expr_on (t.Name n x) a = bare refl (λ ty h. h) none
    expr_on (t.Field n x f) a = bare refl (λ ty h. h) (one (expr_on x a))
    expr_on (t.SuperField n f) a = bare refl (λ ty h. h) none
    expr_on (t.Index n x y) a = bare refl (λ ty h. h) (more (expr_on x a) (one (expr_on y (spec.expr test x a))))
    expr_on (t.Call n of f xs) a = bare refl (λ ty h. h) (both (maybe_on of a) (exprs_on xs (spec.maybe test of a)))
    expr_on (t.SuperMethod n f xs) a = bare refl (λ ty h. h) (exprs_on xs a)
    expr_on (t.New n ty xs) a = bare refl (λ ty h. h) (more (type_on ty a) (exprs_on xs (spec.type test ty a)))
    expr_on (t.NewArray n ty xs extra) a =
        let e = spec.element true ty a in
        with_element ty (Unit {0}) true a refl (λ k. tt, λ k. refl) (λ z. (λ k. (k, tt), λ k. k.0)) (more (type_on ty e) (exprs_on xs (spec.type test ty e)))
    expr_on (t.NewFilled n ty x) a = bare refl (λ ty h. h) (more (type_on ty a) (one (expr_on x (spec.type test ty a))))
    expr_on (t.Items n xs) a = bare refl (λ ty h. h) (exprs_on xs a)
    expr_on (t.Paren n x) a = bare refl (λ ty h. h) (one (expr_on x a))
    expr_on (t.Unary n op x) a = bare refl (λ ty h. h) (one (expr_on x a))
    expr_on (t.Step n up before x) a = bare refl (λ ty h. h) (one (expr_on x a))
    expr_on (t.Cast n ty close x) a = bare refl (λ ty h. h) (more (type_on ty a) (one (expr_on x (spec.type test ty a))))
    expr_on (t.Binary n op x y) a = bare refl (λ ty h. h) (more (expr_on x a) (one (expr_on y (spec.expr test x a))))
    expr_on (t.InstanceOf n x ty) a = bare refl (λ ty h. h) (more (expr_on x a) (one (type_on ty (spec.expr test x a))))
    expr_on (t.Cond n x y z) a = bare refl (λ ty h. h) (more (expr_on x a) (more (expr_on y (spec.expr test x a)) (one (expr_on z (spec.expr test y (spec.expr test x a))))))
    expr_on (t.Assign n op x y) a = bare refl (λ ty h. h) (more (expr_on x a) (one (expr_on y (spec.expr test x a))))

    maybe_on : (x : t.MaybeExpr) (a : Option Breach) → AllGoOn generic vars (c.maybe_expr x) a (spec.maybe test x a)
    maybe_on t.NoExpr a = none
    maybe_on (t.AnExpr x) a = one (expr_on x a)

    pub exprs_on : (xs : t.Exprs) (a : Option Breach) → AllGoOn generic vars (c.exprs xs) a (spec.exprs test xs a)
    exprs_on t.End a = none
    exprs_on (t.Also x xs) a = more (expr_on x a) (exprs_on xs (spec.expr test x a))

  init_on : (x : Option t.Expr) (a : Option Breach) → AllGoOn generic vars (c.init x) a (spec.init test x a)
  init_on None a = none
  init_on (Some x) a = one (expr_on x a)

  labels_on : (xs : List (Option t.Expr)) (a : Option Breach) → AllGoOn generic vars (c.labels xs) a (spec.labels test xs a)
  labels_on [] a = none
  labels_on (None ∷ xs) a = labels_on xs a
  labels_on (Some x ∷ xs) a = more (expr_on x a) (labels_on xs (spec.expr test x a))

  -- ---- variables and parameters

  vars_on : (vs : List t.Var) (a : Option Breach) → AllGoOn generic vars (map c.Var vs) a (spec.vars test vs a)
  vars_on [] a = none
  vars_on (v ∷ vs) a = more (bare refl (λ ty h. h) (init_on v.init a)) (vars_on vs (spec.init test v.init a))

  param_on : (p : t.Param) (a : Option Breach) → GoesOn generic vars (c.Param p) a (spec.param test p a)
  param_on p a =
      with_element p.ty (0 < p.dims) (nat_lt 0 p.dims) a refl (Decides-ltb 0 p.dims) (λ z. (λ k. k, λ k. k))
      (one (type_on p.ty (spec.element (nat_lt 0 p.dims) p.ty a)))

  params_on : (ps : List t.Param) (a : Option Breach) → AllGoOn generic vars (map c.Param ps) a (spec.params test ps a)
  params_on [] a = none
  params_on (p ∷ ps) a = more (param_on p a) (params_on ps (spec.param test p a))

  -- ---- statements

  mutual
    pub stmt_on : (x : t.Stmt) (a : Option Breach) → GoesOn generic vars (c.Stmt x) a (spec.stmt test x a)
    stmt_on (t.Block n xs) a = bare refl (λ ty h. h) (stmts_on xs a)
    stmt_on (t.Local n final_ ty vs) a =
        let e = spec.element (spec.has_brackets vs) ty a in
        with_element ty (HasBrackets vs) (spec.has_brackets vs) a refl (brackets_decide vs) (λ z. (λ k. k, λ k. k)) (more (type_on ty e) (vars_on vs (spec.type test ty e)))
    stmt_on (t.Empty n) a = bare refl (λ ty h. h) none
    stmt_on (t.Value n x) a = bare refl (λ ty h. h) (one (expr_on x a))
    stmt_on (t.If n x y z) a = bare refl (λ ty h. h) (more (expr_on x a) (more (stmt_on y (spec.expr test x a)) (maybe_stmt_on z (spec.stmt test y (spec.expr test x a)))))
    stmt_on (t.While n x y) a = bare refl (λ ty h. h) (more (expr_on x a) (one (stmt_on y (spec.expr test x a))))
    stmt_on (t.Do n y x) a = bare refl (λ ty h. h) (more (stmt_on y a) (one (expr_on x (spec.stmt test y a))))
    stmt_on (t.For n xs x ys y) a =
        let i = spec.stmts test xs a in
        let j = spec.init test x i in
        bare refl (λ ty h. h) (both (both (both (stmts_on xs a) (init_on x i)) (exprs_on ys j)) (one (stmt_on y (spec.exprs test ys j))))
    stmt_on (t.ForEach n final_ ty v x y) a = bare refl (λ ty h. h) (more (type_on ty a) (more (expr_on x (spec.type test ty a)) (one (stmt_on y (spec.expr test x (spec.type test ty a))))))
    stmt_on (t.Switch n x gs) a = bare refl (λ ty h. h) (more (expr_on x a) (groups_on gs (spec.expr test x a)))
    stmt_on (t.Break n) a = bare refl (λ ty h. h) none
    stmt_on (t.Continue n) a = bare refl (λ ty h. h) none
    stmt_on (t.Return n x) a = bare refl (λ ty h. h) (init_on x a)
    stmt_on (t.Throw n x) a = bare refl (λ ty h. h) (one (expr_on x a))
    stmt_on (t.Try n y cs z) a = bare refl (λ ty h. h) (more (stmt_on y a) (both (catches_on cs (spec.stmt test y a)) (maybe_stmt_on z (spec.catches test cs (spec.stmt test y a)))))
    stmt_on (t.ThisCall n xs) a = bare refl (λ ty h. h) (exprs_on xs a)
    stmt_on (t.SuperCall n xs) a = bare refl (λ ty h. h) (exprs_on xs a)

    maybe_stmt_on : (x : t.MaybeStmt) (a : Option Breach) → AllGoOn generic vars (c.maybe_stmt x) a (spec.maybe_stmt test x a)
    maybe_stmt_on t.NoStmt a = none
    maybe_stmt_on (t.AStmt x) a = one (stmt_on x a)

    stmts_on : (xs : t.Stmts) (a : Option Breach) → AllGoOn generic vars (c.stmts xs) a (spec.stmts test xs a)
    stmts_on t.Last a = none
    stmts_on (t.Then x xs) a = more (stmt_on x a) (stmts_on xs (spec.stmt test x a))

    group_on : (g : t.Group) (a : Option Breach) → GoesOn generic vars (c.Group g) a (spec.group test g a)
    group_on (t.Labelled n ls xs) a = bare refl (λ ty h. h) (both (labels_on ls a) (stmts_on xs (spec.labels test ls a)))

    groups_on : (gs : t.Groups) (a : Option Breach) → AllGoOn generic vars (c.groups gs) a (spec.groups test gs a)
    groups_on t.NoGroup a = none
    groups_on (t.AndGroup g gs) a = more (group_on g a) (groups_on gs (spec.group test g a))

    catch_on : (k : t.Catch) (a : Option Breach) → GoesOn generic vars (c.Catch k) a (spec.catch test k a)
    catch_on (t.Caught n p x) a = bare refl (λ ty h. h) (more (param_on p a) (one (stmt_on x (spec.param test p a))))

    catches_on : (ks : t.Catches) (a : Option Breach) → AllGoOn generic vars (c.catches ks) a (spec.catches test ks a)
    catches_on t.NoCatch a = none
    catches_on (t.AndCatch k ks) a = more (catch_on k a) (catches_on ks (spec.catch test k a))

  -- ---- declarations

  body_on : (x : Option t.Stmt) (a : Option Breach) → AllGoOn generic vars (c.body x) a (spec.body test x a)
  body_on None a = none
  body_on (Some x) a = one (stmt_on x a)

  member_on : (m : t.Member) (a : Option Breach) → GoesOn generic vars (c.Member m) a (spec.member test m a)
  member_on (t.AField f) a =
      let e = spec.element (spec.has_brackets f.vars) f.ty a in
      with_element f.ty (HasBrackets f.vars) (spec.has_brackets f.vars) a refl (brackets_decide f.vars) (λ z. (λ k. k, λ k. k))
      (more (type_on f.ty e) (vars_on f.vars (spec.type test f.ty e)))
  member_on (t.AMethod m) a =
      let i = spec.maybe_type test m.result a in
      let j = spec.params test m.params i in
      bare refl (λ ty h. h) (both (both (both (maybe_type_on m.result a) (params_on m.params i)) (type_list_on m.throws j)) (body_on m.body (spec.types test (view.types m.throws) j)))

  members_on : (ms : List t.Member) (a : Option Breach) → AllGoOn generic vars (map c.Member ms) a (spec.members test ms a)
  members_on [] a = none
  members_on (m ∷ ms) a = more (member_on m a) (members_on ms (spec.member test m a))

  decl_on : (d : t.TypeDecl) (a : Option Breach) → GoesOn generic vars (c.Decl d) a (spec.declaring test d a)
  decl_on d a =
      let i = spec.types test (view.types d.extends) a in
      bare refl (λ ty h. h) (both (both (type_list_on d.extends a) (type_list_on d.implements i)) (members_on d.members (spec.types test (view.types d.implements) i)))

in_mapped : {A B : Type 0} (f : A → B) (x : A) (xs : List A) → Contains xs x → Contains (map f xs) (f x)
in_mapped f x [] h = absurd (in_none x h)
in_mapped {A} {B} f x (y ∷ ys) h =
    elim (in_cases y x ys h) [ inl e ↦ subst (λ (z : A). Contains (map f (y ∷ ys)) (f z)) (sym e) (in_first (f y) (map f ys)) | inr u ↦ in_rest (f y) (f x) (map f ys) (in_mapped f x ys u) ]

of_mapped : {A B : Type 0} (f : A → B) (z : B) (xs : List A) → Contains (map f xs) z → (x : A) × Contains xs x × (z ≡ f x)
of_mapped f z [] h = absurd (in_none z h)
of_mapped f z (y ∷ ys) h =
    elim (in_cases (f y) z (map f ys) h) [ inl e ↦ (y, in_first y ys, e) | inr u ↦ let r = of_mapped f z ys u in (r.0, in_rest y r.0 ys r.1, r.2) ]

-- S13 and S17 at a node
abbrev Written : Item → Breaches
Written y = Either (NamesQualified y) (HasGenericElements y)

outside : (y : Item) → is_type y ≡ false → ((ty : t.TypeExpr) → IsElement y ty → ⊥) → (b : Breach) → Written y b → ⊥
outside y e f b h = elim h [ inl u ↦ nameless y e b u | inr u ↦ f u.0 u.1 ]

-- an import has nothing in it
outside_import : (i : Import) (y : Item) → IsWithin (c.Import i) y → (is_type y ≡ false) × ((ty : t.TypeExpr) → IsElement y ty → ⊥)
outside_import i y h =
    elim (within_cases (c.Import i) y h) [
      | inl e ↦ subst (λ (z : Item). (is_type z ≡ false) × ((ty : t.TypeExpr) → IsElement z ty → ⊥)) (sym e) (refl, λ ty k. k)
      | inr k ↦ absurd (in_none k.0 k.1)
    ]

module _ (generic : Name → Bool) where
  abbrev InDecl : t.TypeDecl → Breaches
  InDecl d = In generic d.params (c.Decl d)

  decls_add : (ds : List t.TypeDecl) (a : Option Breach) → Adds (SomeOf ds InDecl) a (spec.decls generic ds a)
  decls_add [] a = some_none InDecl a
  decls_add (d ∷ ds) a =
      let m = spec.decl generic d a in
      some_more InDecl d ds a m (spec.decls generic ds m) (decl_on generic d.params d a).is (decls_add ds m)

  -- outside of the types of a file there are no written types
  pub file_adds : (u : t.SourceUnit) (a : Option Breach) → Adds (WrittenBreaks u generic) a (spec.decls generic u.types a)
  file_adds u a = adds_alike (SomeOf u.types InDecl) (WrittenBreaks u generic) a (spec.decls generic u.types a) (λ b. (to b, from b)) (decls_add u.types a)
    where
      is_in : (d : t.TypeDecl) → Contains u.types d → Contains (children (c.File u)) (c.Decl d)
      is_in d h = Contains-append_right (map c.Import u.imports) (map c.Decl u.types) (c.Decl d) (in_mapped c.Decl d u.types h)

      to : (b : Breach) → SomeOf u.types InDecl b → WrittenBreaks u generic b
      to b (d, at, (y, within, inl h)) = inl (y, Below (c.File u) (c.Decl d) y (is_in d at) within, inl h)
      to b (d, at, (y, within, inr (inl h))) = inl (y, Below (c.File u) (c.Decl d) y (is_in d at) within, inr h)
      to b (d, at, (y, within, inr (inr h))) = inr (d, at, (y, within, h))

      from : (b : Breach) → WrittenBreaks u generic b → SomeOf u.types InDecl b
      from b (inr (d, at, (y, within, h))) = (d, at, (y, within, inr (inr h)))
      from b (inl (y, within, h)) =
          elim (within_cases (c.File u) y within) [
            | inl e ↦ absurd (outside (c.File u) refl (λ ty k. k) b (subst (λ (z : Item). Written z b) e h))
            | inr k ↦ elim (Contains-append_cases (map c.Import u.imports) (map c.Decl u.types) k.0 k.1) [
              | inl v ↦ let i = of_mapped c.Import k.0 u.imports v in
                  let at = outside_import i.0 y (subst (λ (z : Item). IsWithin z y) i.2 k.2) in
                  absurd (outside y at.0 at.1 b h)
              | inr v ↦ let d = of_mapped c.Decl k.0 u.types v in
                  (d.0, d.1, (y, subst (λ (z : Item). IsWithin z y) d.2 k.2, elim h [ inl w ↦ inl w | inr w ↦ inr (inl w) ]))
            ]
          ]
