-- A declared type with its members is added to a world.
use Rattle.std.proofs.Common.{◌≡◌, ℕ, ◌+◌, ◌-◌, List, [], ◌∷◌, ◌++◌, length, length-append, append_assoc, Option, None, sym, ap, ◌∙◌, arith}
use Rattle.std.proofs.lemmas.List.{append-nil}
use Rattle.std.specs.List.{range_with_len}
use Rattle.class_world.specs.declared.world.World.{World}
use Rattle.class_world.specs.declared.world.TypeInfo.{TypeInfo}
use Rattle.class_world.specs.declared.world.MethodInfo.{MethodInfo}
use Rattle.class_world.specs.declared.world.FieldInfo.{FieldInfo}
use Rattle.class_world.specs.declared.world.JavaType.{JavaType}
use Rattle.class_world.specs.declared.world.Walk.{Walk}
use Rattle.class_world.specs.declared.world.Above.{Above}
use Rattle.type_names.specs.declared.known.JavaNames.{JavaNames}
use Rattle.type_names.specs.Known.{File}
use Rattle.written_types.specs.Places.{Place}
use Rattle.type_headers.specs.Declared.{Declaration, declarations, header, headers, place_of}
use Rattle.built_in_types.specs.declared.types.BuiltIns.{BuiltIns}
use Rattle.program_world.specs.ProgramWorld.{supers_of, methods_of, fields_of, type_info, infos_from, methods_from, fields_from, place_among, world_of}
use Rattle.program_world.specs.Steps.{with_type, with_types}

pub same_world : (types us : List TypeInfo) (methods ms : List MethodInfo) (fields ns : List FieldInfo) (walk : Option Walk) (above : List Above)
    → types ≡ us → methods ≡ ms → fields ≡ ns
    → ◌≡◌ {A = World} (record { types = types; methods = methods; fields = fields; walk = walk; above = above }) (record { types = us; methods = ms; fields = ns; walk = walk; above = above })
same_world types us methods ms fields ns walk above t m n =
    ap {B = World} (λ xs. record { types = xs; methods = methods; fields = fields; walk = walk; above = above }) t
    ∙ ap {B = World} (λ xs. record { types = us; methods = xs; fields = fields; walk = walk; above = above }) m
    ∙ ap {B = World} (λ xs. record { types = us; methods = ms; fields = xs; walk = walk; above = above }) n

-- the numbers of what is new in a list
new_numbers : {A : Type 0} (old own all : List A) (first end : ℕ) → first ≡ length old → all ≡ old ++ own → end ≡ length all
    → range_with_len first (end - first) ≡ range_with_len (length old) (length own)
new_numbers old own all first end begins is ends =
    let size = ap length is ∙ length-append old own in
    let count : end - first ≡ length own = omega (arith, begins, ends, size) in
    ap (range_with_len first) count ∙ ap (λ n. range_with_len n (length own)) begins

same_info : (h k : TypeInfo) (ss us : List JavaType) (ms ns fs gs : List ℕ) → h ≡ k → ss ≡ us → ms ≡ ns → fs ≡ gs
    → record h { supers = ss; methods = ms; fields = fs } ≡ record k { supers = us; methods = ns; fields = gs }
same_info h k ss us ms ns fs gs e s m f =
    ap {B = TypeInfo} (λ x. record x { supers = ss; methods = ms; fields = fs }) e
    ∙ ap {B = TypeInfo} (λ xs. record k { supers = xs; methods = ms; fields = fs }) s
    ∙ ap {B = TypeInfo} (λ xs. record k { supers = us; methods = xs; fields = fs }) m
    ∙ ap {B = TypeInfo} (λ xs. record k { supers = us; methods = ns; fields = xs }) f

pub type_added : (p : Place) (x : Declaration) (w : World) (owner first_method first_field end_method end_field : ℕ) (types : List TypeInfo) (methods : List MethodInfo)
    (fields : List FieldInfo) (h : TypeInfo) (supers : List JavaType) (method_numbers field_numbers : List ℕ)
    → owner ≡ length w.types → first_method ≡ length w.methods → first_field ≡ length w.fields
    → methods ≡ w.methods ++ methods_of p owner x.decl → fields ≡ w.fields ++ fields_of p owner x.decl
    → h ≡ header x → supers ≡ supers_of p x.decl
    → end_method ≡ length methods → method_numbers ≡ range_with_len first_method (end_method - first_method)
    → end_field ≡ length fields → field_numbers ≡ range_with_len first_field (end_field - first_field)
    → types ≡ w.types ++ record h { supers = supers; methods = method_numbers; fields = field_numbers } ∷ []
    → ◌≡◌ {A = World} (record { types = types; methods = methods; fields = fields; walk = w.walk; above = w.above }) (with_type p x w)
type_added p x w owner first_method first_field end_method end_field types methods fields h supers method_numbers field_numbers
    is_owner is_method is_field are_methods are_fields is_header are_supers ends_method are_method_numbers ends_field are_field_numbers push =
    let own_methods = are_methods ∙ ap (λ c. w.methods ++ methods_of p c x.decl) is_owner in
    let own_fields = are_fields ∙ ap (λ c. w.fields ++ fields_of p c x.decl) is_owner in
    let numbers = are_method_numbers ∙ new_numbers w.methods (methods_of p (length w.types) x.decl) methods first_method end_method is_method own_methods ends_method in
    let others = are_field_numbers ∙ new_numbers w.fields (fields_of p (length w.types) x.decl) fields first_field end_field is_field own_fields ends_field in
    let info = same_info h (header x) supers (supers_of p x.decl) method_numbers (range_with_len (length w.methods) (length (methods_of p (length w.types) x.decl))) field_numbers
    (range_with_len (length w.fields) (length (fields_of p (length w.types) x.decl))) is_header are_supers numbers others in
    same_world types (w.types ++ type_info p (length w.types) (length w.methods) (length w.fields) x ∷ []) methods (w.methods ++ methods_of p (length w.types) x.decl)
    fields (w.fields ++ fields_of p (length w.types) x.decl) w.walk w.above (push ∙ ap (λ i. w.types ++ i ∷ []) info) own_methods own_fields

-- ---- all declarations

abbrev grown : (Declaration → Place) → List Declaration → World → World
grown at xs w = record {
  types = w.types ++ infos_from at (length w.types) (length w.methods) (length w.fields) xs;
  methods = w.methods ++ methods_from at (length w.types) xs;
  fields = w.fields ++ fields_from at (length w.types) xs;
  walk = w.walk;
  above = w.above;
}

all_added : (at : Declaration → Place) (xs : List Declaration) (w : World) → with_types at xs w ≡ grown at xs w
all_added at [] w = same_world w.types (w.types ++ []) w.methods (w.methods ++ []) w.fields (w.fields ++ []) w.walk w.above (sym (append-nil w.types)) (sym (append-nil w.methods)) (sym (append-nil w.fields))
all_added at (x ∷ xs) w =
    let c = length w.types in
    let m = length w.methods in
    let n = length w.fields in
    let info = type_info (at x) c m n x in
    let own_methods = methods_of (at x) c x.decl in
    let own_fields = fields_of (at x) c x.decl in
    let next : length (w.types ++ info ∷ []) ≡ c + 1 = length-append w.types (info ∷ []) in
    all_added at xs (with_type (at x) x w)
    ∙ same_world
    ((w.types ++ info ∷ []) ++ infos_from at (length (w.types ++ info ∷ [])) (length (w.methods ++ own_methods)) (length (w.fields ++ own_fields)) xs)
    (w.types ++ info ∷ infos_from at (c + 1) (m + length own_methods) (n + length own_fields) xs)
    ((w.methods ++ own_methods) ++ methods_from at (length (w.types ++ info ∷ [])) xs) (w.methods ++ (own_methods ++ methods_from at (c + 1) xs))
    ((w.fields ++ own_fields) ++ fields_from at (length (w.types ++ info ∷ [])) xs) (w.fields ++ (own_fields ++ fields_from at (c + 1) xs))
    w.walk w.above
    (append_assoc w.types (info ∷ []) (infos_from at (length (w.types ++ info ∷ [])) (length (w.methods ++ own_methods)) (length (w.fields ++ own_fields)) xs)
    ∙ ap (λ k. w.types ++ info ∷ infos_from at k (length (w.methods ++ own_methods)) (length (w.fields ++ own_fields)) xs) next
    ∙ ap (λ k. w.types ++ info ∷ infos_from at (c + 1) k (length (w.fields ++ own_fields)) xs) (length-append w.methods own_methods)
    ∙ ap (λ k. w.types ++ info ∷ infos_from at (c + 1) (m + length own_methods) k xs) (length-append w.fields own_fields))
    (append_assoc w.methods own_methods (methods_from at (length (w.types ++ info ∷ [])) xs) ∙ ap (λ k. w.methods ++ (own_methods ++ methods_from at k xs)) next)
    (append_assoc w.fields own_fields (fields_from at (length (w.types ++ info ∷ [])) xs) ∙ ap (λ k. w.fields ++ (own_fields ++ fields_from at k xs)) next)

-- the world of a program
pub world_made : (built : BuiltIns) (j : JavaNames) (fs : List File) (types : List TypeInfo) (w all : World) → length built.types ≡ 19 → types ≡ headers built.types fs
    → w ≡ record { types = built.types; methods = built.methods; fields = built.fields; walk = None; above = [] }
    → all ≡ with_types (place_of j fs types) (declarations fs) w → all ≡ world_of built j fs
world_made built j fs types w all size heads begun added =
    let first : World = record { types = built.types; methods = built.methods; fields = built.fields; walk = None; above = [] } in
    let at = place_among built j fs in
    let xs = declarations fs in
    added ∙ ap (λ hs. with_types (place_of j fs hs) xs w) heads ∙ ap (with_types at xs) begun ∙ all_added at xs first
    ∙ same_world
    (built.types ++ infos_from at (length built.types) (length built.methods) (length built.fields) xs) (built.types ++ infos_from at 19 (length built.methods) (length built.fields) xs)
    (built.methods ++ methods_from at (length built.types) xs) (built.methods ++ methods_from at 19 xs)
    (built.fields ++ fields_from at (length built.types) xs) (built.fields ++ fields_from at 19 xs)
    None []
    (ap (λ c. built.types ++ infos_from at c (length built.methods) (length built.fields) xs) size)
    (ap (λ c. built.methods ++ methods_from at c xs) size)
    (ap (λ c. built.fields ++ fields_from at c xs) size)
