-- The first node of a list that has a number is the one that a search for it in the tree finds.
use Rattle.std.proofs.Common.{◌≡◌, ℕ, Bool, true, false, List, [], ◌∷◌, ◌++◌, Option, Some, None, refl, sym, ap, ◌∙◌}
use Rattle.std.specs.Prelude.{◌==◌, if◌then◌else◌}
use Rattle.java_tree.specs.declared.tree.Node.{Node}
use Rattle.java_tree.specs.declared.tree.Import as declared
use Rattle.java_tree.specs.Plain as t
use Rattle.java_tree.specs.Plain.{TypeExpr, TypeExprs, Expr, MaybeExpr, Exprs, Var, Param, Stmt, MaybeStmt, Stmts, Group, Groups, Catch, Catches, Member, TypeDecl, SourceUnit}
use Rattle.java_tree.specs.View as view
use Rattle.node_places.specs.Seek as seek
use Rattle.node_places.specs.Seek.{or, own}
use Rattle.node_lists.specs.Nodes as nodes
use Rattle.node_lists.specs.Table.{first}

assoc : (a b c : Option ℕ) → or (or a b) c ≡ or a (or b c)
assoc (Some x) b c = refl
assoc None b c = refl

none : (a : Option ℕ) → a ≡ or a None
none (Some x) = refl
none None = refl

both : (x y a b : Option ℕ) {z : Option ℕ} → z ≡ or y b → y ≡ or x a → z ≡ or x (or a b)
both x y a b h g = h ∙ ap (λ y. or y b) g ∙ assoc x a b

own_if : (b : Bool) (at : ℕ) (later : Option ℕ) → (if b then Some at else later) ≡ or (if b then Some at else None) later
own_if true at later = refl
own_if false at later = refl

module _ (k : ℕ) where
  behind : (ns : List Node) (n : Node) → first k (ns ++ (n ∷ [])) ≡ or (first k ns) (own k n None)
  behind [] n = refl
  behind (m ∷ ms) n = own_if (m.id == k) m.span.from (first k (ms ++ (n ∷ []))) ∙ ap (or (own k m None)) (behind ms n) ∙ sym (assoc (own k m None) (first k ms) (own k n None))
      ∙ ap (λ a. or a (own k n None)) (sym (own_if (m.id == k) m.span.from (first k ms)))

  begun : (n : Node) (ns : List Node) (later : Option ℕ) {z : Option ℕ} → z ≡ or (first k (nodes.node n ns)) later → z ≡ or (first k ns) (own k n later)
  begun n ns later h = h ∙ ap (λ a. or a later) (behind ns n) ∙ assoc (first k ns) (own k n None) later ∙ ap (or (first k ns)) (sym (own_if (n.id == k) n.span.from later))

  mutual
    pub type : (x : TypeExpr) (ns : List Node) → first k (nodes.type x ns) ≡ or (first k ns) (seek.type k x)
    type (t.Written n h s xs d) ns = begun n ns (seek.types k xs) (types xs (nodes.node n ns))

    pub types : (x : TypeExprs) (ns : List Node) → first k (nodes.types x ns) ≡ or (first k ns) (seek.types k x)
    types t.NoTypes ns = none (first k ns)
    types (t.AndType x xs) ns = both (first k ns) (first k (nodes.type x ns)) (seek.type k x) (seek.types k xs) (types xs (nodes.type x ns)) (type x ns)

  mutual
    pub expr : (x : Expr) (ns : List Node) → first k (nodes.expr x ns) ≡ or (first k ns) (seek.expr k x)
    expr (t.Number n x d l) ns = begun n ns None (none (first k (nodes.node n ns)))
    expr (t.Char n x) ns = begun n ns None (none (first k (nodes.node n ns)))
    expr (t.Text n x) ns = begun n ns None (none (first k (nodes.node n ns)))
    expr (t.Truth n x) ns = begun n ns None (none (first k (nodes.node n ns)))
    expr (t.Null n) ns = begun n ns None (none (first k (nodes.node n ns)))
    expr (t.This n) ns = begun n ns None (none (first k (nodes.node n ns)))
    expr (t.Name n x) ns = begun n ns None (none (first k (nodes.node n ns)))
    expr (t.Field n x f) ns = begun n ns (seek.expr k x) (expr x (nodes.node n ns))
    expr (t.SuperField n f) ns = begun n ns None (none (first k (nodes.node n ns)))
    expr (t.Index n x y) ns = begun n ns (or (seek.expr k x) (seek.expr k y)) (both (first k (nodes.node n ns)) (first k (nodes.expr x (nodes.node n ns))) (seek.expr k x) (seek.expr k y) (expr y (nodes.expr x (nodes.node n ns))) (expr x (nodes.node n ns)))
    expr (t.Call n of f xs) ns = begun n ns (or (seek.maybe k of) (seek.exprs k xs)) (both (first k (nodes.node n ns)) (first k (nodes.maybe of (nodes.node n ns))) (seek.maybe k of) (seek.exprs k xs) (exprs xs (nodes.maybe of (nodes.node n ns))) (maybe of (nodes.node n ns)))
    expr (t.SuperMethod n f xs) ns = begun n ns (seek.exprs k xs) (exprs xs (nodes.node n ns))
    expr (t.New n ty xs) ns = begun n ns (or (seek.type k ty) (seek.exprs k xs)) (both (first k (nodes.node n ns)) (first k (nodes.type ty (nodes.node n ns))) (seek.type k ty) (seek.exprs k xs) (exprs xs (nodes.type ty (nodes.node n ns))) (type ty (nodes.node n ns)))
    expr (t.NewArray n ty xs extra) ns = begun n ns (or (seek.type k ty) (seek.exprs k xs)) (both (first k (nodes.node n ns)) (first k (nodes.type ty (nodes.node n ns))) (seek.type k ty) (seek.exprs k xs) (exprs xs (nodes.type ty (nodes.node n ns))) (type ty (nodes.node n ns)))
    expr (t.NewFilled n ty x) ns = begun n ns (or (seek.type k ty) (seek.expr k x)) (both (first k (nodes.node n ns)) (first k (nodes.type ty (nodes.node n ns))) (seek.type k ty) (seek.expr k x) (expr x (nodes.type ty (nodes.node n ns))) (type ty (nodes.node n ns)))
    expr (t.Items n xs) ns = begun n ns (seek.exprs k xs) (exprs xs (nodes.node n ns))
    expr (t.Paren n x) ns = begun n ns (seek.expr k x) (expr x (nodes.node n ns))
    expr (t.Unary n op x) ns = begun n ns (seek.expr k x) (expr x (nodes.node n ns))
    expr (t.Step n up before x) ns = begun n ns (seek.expr k x) (expr x (nodes.node n ns))
    expr (t.Cast n ty close x) ns = begun n ns (or (seek.type k ty) (seek.expr k x)) (both (first k (nodes.node n ns)) (first k (nodes.type ty (nodes.node n ns))) (seek.type k ty) (seek.expr k x) (expr x (nodes.type ty (nodes.node n ns))) (type ty (nodes.node n ns)))
    expr (t.Binary n op x y) ns = begun n ns (or (seek.expr k x) (seek.expr k y)) (both (first k (nodes.node n ns)) (first k (nodes.expr x (nodes.node n ns))) (seek.expr k x) (seek.expr k y) (expr y (nodes.expr x (nodes.node n ns))) (expr x (nodes.node n ns)))
    expr (t.InstanceOf n x ty) ns = begun n ns (or (seek.expr k x) (seek.type k ty)) (both (first k (nodes.node n ns)) (first k (nodes.expr x (nodes.node n ns))) (seek.expr k x) (seek.type k ty) (type ty (nodes.expr x (nodes.node n ns))) (expr x (nodes.node n ns)))
    expr (t.Cond n x y z) ns = begun n ns (or (seek.expr k x) (or (seek.expr k y) (seek.expr k z))) (both (first k (nodes.node n ns)) (first k (nodes.expr x (nodes.node n ns))) (seek.expr k x) (or (seek.expr k y) (seek.expr k z)) (both (first k (nodes.expr x (nodes.node n ns))) (first k (nodes.expr y (nodes.expr x (nodes.node n ns)))) (seek.expr k y) (seek.expr k z) (expr z (nodes.expr y (nodes.expr x (nodes.node n ns)))) (expr y (nodes.expr x (nodes.node n ns)))) (expr x (nodes.node n ns)))
    expr (t.Assign n op x y) ns = begun n ns (or (seek.expr k x) (seek.expr k y)) (both (first k (nodes.node n ns)) (first k (nodes.expr x (nodes.node n ns))) (seek.expr k x) (seek.expr k y) (expr y (nodes.expr x (nodes.node n ns))) (expr x (nodes.node n ns)))

    pub maybe : (x : MaybeExpr) (ns : List Node) → first k (nodes.maybe x ns) ≡ or (first k ns) (seek.maybe k x)
    maybe t.NoExpr ns = none (first k ns)
    maybe (t.AnExpr x) ns = expr x ns

    pub exprs : (x : Exprs) (ns : List Node) → first k (nodes.exprs x ns) ≡ or (first k ns) (seek.exprs k x)
    exprs t.End ns = none (first k ns)
    exprs (t.Also x xs) ns = both (first k ns) (first k (nodes.expr x ns)) (seek.expr k x) (seek.exprs k xs) (exprs xs (nodes.expr x ns)) (expr x ns)

  pub init : (x : (Option Expr)) (ns : List Node) → first k (nodes.init x ns) ≡ or (first k ns) (seek.init k x)
  init None ns = none (first k ns)
  init (Some x) ns = expr x ns

  pub labels : (x : (List (Option Expr))) (ns : List Node) → first k (nodes.labels x ns) ≡ or (first k ns) (seek.labels k x)
  labels [] ns = none (first k ns)
  labels (x ∷ xs) ns = both (first k ns) (first k (nodes.init x ns)) (seek.init k x) (seek.labels k xs) (labels xs (nodes.init x ns)) (init x ns)

  pub var : (x : Var) (ns : List Node) → first k (nodes.var x ns) ≡ or (first k ns) (seek.var k x)
  var v ns = begun v.node ns (seek.init k v.init) (init v.init (nodes.node v.node ns))

  pub vars : (x : (List Var)) (ns : List Node) → first k (nodes.vars x ns) ≡ or (first k ns) (seek.vars k x)
  vars [] ns = none (first k ns)
  vars (v ∷ vs) ns = both (first k ns) (first k (nodes.var v ns)) (seek.var k v) (seek.vars k vs) (vars vs (nodes.var v ns)) (var v ns)

  pub param : (x : Param) (ns : List Node) → first k (nodes.param x ns) ≡ or (first k ns) (seek.param k x)
  param p ns = begun p.node ns (seek.type k p.ty) (type p.ty (nodes.node p.node ns))

  pub params : (x : (List Param)) (ns : List Node) → first k (nodes.params x ns) ≡ or (first k ns) (seek.params k x)
  params [] ns = none (first k ns)
  params (p ∷ ps) ns = both (first k ns) (first k (nodes.param p ns)) (seek.param k p) (seek.params k ps) (params ps (nodes.param p ns)) (param p ns)

  mutual
    pub stmt : (x : Stmt) (ns : List Node) → first k (nodes.stmt x ns) ≡ or (first k ns) (seek.stmt k x)
    stmt (t.Block n xs) ns = begun n ns (seek.stmts k xs) (stmts xs (nodes.node n ns))
    stmt (t.Local n final_ ty vs) ns = begun n ns (or (seek.type k ty) (seek.vars k vs)) (both (first k (nodes.node n ns)) (first k (nodes.type ty (nodes.node n ns))) (seek.type k ty) (seek.vars k vs) (vars vs (nodes.type ty (nodes.node n ns))) (type ty (nodes.node n ns)))
    stmt (t.Empty n) ns = begun n ns None (none (first k (nodes.node n ns)))
    stmt (t.Value n x) ns = begun n ns (seek.expr k x) (expr x (nodes.node n ns))
    stmt (t.If n x a b) ns = begun n ns (or (seek.expr k x) (or (seek.stmt k a) (seek.maybe_stmt k b))) (both (first k (nodes.node n ns)) (first k (nodes.expr x (nodes.node n ns))) (seek.expr k x) (or (seek.stmt k a) (seek.maybe_stmt k b)) (both (first k (nodes.expr x (nodes.node n ns))) (first k (nodes.stmt a (nodes.expr x (nodes.node n ns)))) (seek.stmt k a) (seek.maybe_stmt k b) (maybe_stmt b (nodes.stmt a (nodes.expr x (nodes.node n ns)))) (stmt a (nodes.expr x (nodes.node n ns)))) (expr x (nodes.node n ns)))
    stmt (t.While n x a) ns = begun n ns (or (seek.expr k x) (seek.stmt k a)) (both (first k (nodes.node n ns)) (first k (nodes.expr x (nodes.node n ns))) (seek.expr k x) (seek.stmt k a) (stmt a (nodes.expr x (nodes.node n ns))) (expr x (nodes.node n ns)))
    stmt (t.Do n a x) ns = begun n ns (or (seek.stmt k a) (seek.expr k x)) (both (first k (nodes.node n ns)) (first k (nodes.stmt a (nodes.node n ns))) (seek.stmt k a) (seek.expr k x) (expr x (nodes.stmt a (nodes.node n ns))) (stmt a (nodes.node n ns)))
    stmt (t.For n xs x ys a) ns = begun n ns (or (seek.stmts k xs) (or (seek.init k x) (or (seek.exprs k ys) (seek.stmt k a)))) (both (first k (nodes.node n ns)) (first k (nodes.stmts xs (nodes.node n ns))) (seek.stmts k xs) (or (seek.init k x) (or (seek.exprs k ys) (seek.stmt k a))) (both (first k (nodes.stmts xs (nodes.node n ns))) (first k (nodes.init x (nodes.stmts xs (nodes.node n ns)))) (seek.init k x) (or (seek.exprs k ys) (seek.stmt k a)) (both (first k (nodes.init x (nodes.stmts xs (nodes.node n ns)))) (first k (nodes.exprs ys (nodes.init x (nodes.stmts xs (nodes.node n ns))))) (seek.exprs k ys) (seek.stmt k a) (stmt a (nodes.exprs ys (nodes.init x (nodes.stmts xs (nodes.node n ns))))) (exprs ys (nodes.init x (nodes.stmts xs (nodes.node n ns))))) (init x (nodes.stmts xs (nodes.node n ns)))) (stmts xs (nodes.node n ns)))
    stmt (t.ForEach n final_ ty v x a) ns = begun n ns (or (seek.type k ty) (or (seek.expr k x) (seek.stmt k a))) (both (first k (nodes.node n ns)) (first k (nodes.type ty (nodes.node n ns))) (seek.type k ty) (or (seek.expr k x) (seek.stmt k a)) (both (first k (nodes.type ty (nodes.node n ns))) (first k (nodes.expr x (nodes.type ty (nodes.node n ns)))) (seek.expr k x) (seek.stmt k a) (stmt a (nodes.expr x (nodes.type ty (nodes.node n ns)))) (expr x (nodes.type ty (nodes.node n ns)))) (type ty (nodes.node n ns)))
    stmt (t.Switch n x gs) ns = begun n ns (or (seek.expr k x) (seek.groups k gs)) (both (first k (nodes.node n ns)) (first k (nodes.expr x (nodes.node n ns))) (seek.expr k x) (seek.groups k gs) (groups gs (nodes.expr x (nodes.node n ns))) (expr x (nodes.node n ns)))
    stmt (t.Break n) ns = begun n ns None (none (first k (nodes.node n ns)))
    stmt (t.Continue n) ns = begun n ns None (none (first k (nodes.node n ns)))
    stmt (t.Return n x) ns = begun n ns (seek.init k x) (init x (nodes.node n ns))
    stmt (t.Throw n x) ns = begun n ns (seek.expr k x) (expr x (nodes.node n ns))
    stmt (t.Try n a cs b) ns = begun n ns (or (seek.stmt k a) (or (seek.catches k cs) (seek.maybe_stmt k b))) (both (first k (nodes.node n ns)) (first k (nodes.stmt a (nodes.node n ns))) (seek.stmt k a) (or (seek.catches k cs) (seek.maybe_stmt k b)) (both (first k (nodes.stmt a (nodes.node n ns))) (first k (nodes.catches cs (nodes.stmt a (nodes.node n ns)))) (seek.catches k cs) (seek.maybe_stmt k b) (maybe_stmt b (nodes.catches cs (nodes.stmt a (nodes.node n ns)))) (catches cs (nodes.stmt a (nodes.node n ns)))) (stmt a (nodes.node n ns)))
    stmt (t.ThisCall n xs) ns = begun n ns (seek.exprs k xs) (exprs xs (nodes.node n ns))
    stmt (t.SuperCall n xs) ns = begun n ns (seek.exprs k xs) (exprs xs (nodes.node n ns))

    pub maybe_stmt : (x : MaybeStmt) (ns : List Node) → first k (nodes.maybe_stmt x ns) ≡ or (first k ns) (seek.maybe_stmt k x)
    maybe_stmt t.NoStmt ns = none (first k ns)
    maybe_stmt (t.AStmt x) ns = stmt x ns

    pub stmts : (x : Stmts) (ns : List Node) → first k (nodes.stmts x ns) ≡ or (first k ns) (seek.stmts k x)
    stmts t.Last ns = none (first k ns)
    stmts (t.Then x xs) ns = both (first k ns) (first k (nodes.stmt x ns)) (seek.stmt k x) (seek.stmts k xs) (stmts xs (nodes.stmt x ns)) (stmt x ns)

    pub group : (x : Group) (ns : List Node) → first k (nodes.group x ns) ≡ or (first k ns) (seek.group k x)
    group (t.Labelled n ls xs) ns = begun n ns (or (seek.labels k ls) (seek.stmts k xs)) (both (first k (nodes.node n ns)) (first k (nodes.labels ls (nodes.node n ns))) (seek.labels k ls) (seek.stmts k xs) (stmts xs (nodes.labels ls (nodes.node n ns))) (labels ls (nodes.node n ns)))

    pub groups : (x : Groups) (ns : List Node) → first k (nodes.groups x ns) ≡ or (first k ns) (seek.groups k x)
    groups t.NoGroup ns = none (first k ns)
    groups (t.AndGroup g gs) ns = both (first k ns) (first k (nodes.group g ns)) (seek.group k g) (seek.groups k gs) (groups gs (nodes.group g ns)) (group g ns)

    pub catch : (x : Catch) (ns : List Node) → first k (nodes.catch x ns) ≡ or (first k ns) (seek.catch k x)
    catch (t.Caught n p x) ns = begun n ns (or (seek.param k p) (seek.stmt k x)) (both (first k (nodes.node n ns)) (first k (nodes.param p (nodes.node n ns))) (seek.param k p) (seek.stmt k x) (stmt x (nodes.param p (nodes.node n ns))) (param p (nodes.node n ns)))

    pub catches : (x : Catches) (ns : List Node) → first k (nodes.catches x ns) ≡ or (first k ns) (seek.catches k x)
    catches t.NoCatch ns = none (first k ns)
    catches (t.AndCatch c cs) ns = both (first k ns) (first k (nodes.catch c ns)) (seek.catch k c) (seek.catches k cs) (catches cs (nodes.catch c ns)) (catch c ns)

  pub result : (x : (Option TypeExpr)) (ns : List Node) → first k (nodes.result x ns) ≡ or (first k ns) (seek.result k x)
  result None ns = none (first k ns)
  result (Some x) ns = type x ns

  pub body : (x : (Option Stmt)) (ns : List Node) → first k (nodes.body x ns) ≡ or (first k ns) (seek.body k x)
  body None ns = none (first k ns)
  body (Some x) ns = stmt x ns

  pub member : (x : Member) (ns : List Node) → first k (nodes.member x ns) ≡ or (first k ns) (seek.member k x)
  member (t.AField f) ns = begun f.node ns (or (seek.type k f.ty) (seek.vars k f.vars)) (both (first k (nodes.node f.node ns)) (first k (nodes.type f.ty (nodes.node f.node ns))) (seek.type k f.ty) (seek.vars k f.vars) (vars f.vars (nodes.type f.ty (nodes.node f.node ns))) (type f.ty (nodes.node f.node ns)))
  member (t.AMethod m) ns = begun m.node ns (or (seek.result k m.result) (or (seek.params k m.params) (or (seek.types k (view.types m.throws)) (seek.body k m.body)))) (both (first k (nodes.node m.node ns)) (first k (nodes.result m.result (nodes.node m.node ns))) (seek.result k m.result) (or (seek.params k m.params) (or (seek.types k (view.types m.throws)) (seek.body k m.body))) (both (first k (nodes.result m.result (nodes.node m.node ns))) (first k (nodes.params m.params (nodes.result m.result (nodes.node m.node ns)))) (seek.params k m.params) (or (seek.types k (view.types m.throws)) (seek.body k m.body)) (both (first k (nodes.params m.params (nodes.result m.result (nodes.node m.node ns)))) (first k (nodes.types (view.types m.throws) (nodes.params m.params (nodes.result m.result (nodes.node m.node ns))))) (seek.types k (view.types m.throws)) (seek.body k m.body) (body m.body (nodes.types (view.types m.throws) (nodes.params m.params (nodes.result m.result (nodes.node m.node ns))))) (types (view.types m.throws) (nodes.params m.params (nodes.result m.result (nodes.node m.node ns))))) (params m.params (nodes.result m.result (nodes.node m.node ns)))) (result m.result (nodes.node m.node ns)))

  pub members : (x : (List Member)) (ns : List Node) → first k (nodes.members x ns) ≡ or (first k ns) (seek.members k x)
  members [] ns = none (first k ns)
  members (m ∷ ms) ns = both (first k ns) (first k (nodes.member m ns)) (seek.member k m) (seek.members k ms) (members ms (nodes.member m ns)) (member m ns)

  pub decl : (x : TypeDecl) (ns : List Node) → first k (nodes.decl x ns) ≡ or (first k ns) (seek.decl k x)
  decl d ns = begun d.node ns (or (seek.types k (view.types d.extends)) (or (seek.types k (view.types d.implements)) (seek.members k d.members))) (both (first k (nodes.node d.node ns)) (first k (nodes.types (view.types d.extends) (nodes.node d.node ns))) (seek.types k (view.types d.extends)) (or (seek.types k (view.types d.implements)) (seek.members k d.members)) (both (first k (nodes.types (view.types d.extends) (nodes.node d.node ns))) (first k (nodes.types (view.types d.implements) (nodes.types (view.types d.extends) (nodes.node d.node ns)))) (seek.types k (view.types d.implements)) (seek.members k d.members) (members d.members (nodes.types (view.types d.implements) (nodes.types (view.types d.extends) (nodes.node d.node ns)))) (types (view.types d.implements) (nodes.types (view.types d.extends) (nodes.node d.node ns)))) (types (view.types d.extends) (nodes.node d.node ns)))

  pub decls : (x : (List TypeDecl)) (ns : List Node) → first k (nodes.decls x ns) ≡ or (first k ns) (seek.decls k x)
  decls [] ns = none (first k ns)
  decls (d ∷ ds) ns = both (first k ns) (first k (nodes.decl d ns)) (seek.decl k d) (seek.decls k ds) (decls ds (nodes.decl d ns)) (decl d ns)

  pub imports : (x : (List declared.Import)) (ns : List Node) → first k (nodes.imports x ns) ≡ or (first k ns) (seek.imports k x)
  imports [] ns = none (first k ns)
  imports (x ∷ xs) ns = begun x.node ns (seek.imports k xs) (imports xs (nodes.node x.node ns))

  -- a file
  pub unit : (x : SourceUnit) (ns : List Node) → first k (nodes.unit x ns) ≡ or (first k ns) (seek.unit k x)
  unit u ns = begun u.node ns (or (seek.imports k u.imports) (seek.decls k u.types)) (both (first k (nodes.node u.node ns)) (first k (nodes.imports u.imports (nodes.node u.node ns))) (seek.imports k u.imports) (seek.decls k u.types) (decls u.types (nodes.imports u.imports (nodes.node u.node ns))) (imports u.imports (nodes.node u.node ns)))
