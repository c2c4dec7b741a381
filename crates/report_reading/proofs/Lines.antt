-- A line that is read is the line that was written, and what was written is read again.
use Rattle.std.proofs.Common.{◌≡◌, ℕ, ◌<◌, ◌≤◌, ◌^◌, ◌-◌, Bool, true, false, List, [], ◌∷◌, ◌++◌, length, Option, Some, None, refl, sym, ap, ◌∙◌, subst, append_assoc, ◌⊎◌, inl, inr, arith, lit<}
use Rattle.std.specs.Prelude.{codes, flat_map, IfSome}
use Rattle.std.specs.Fmt.{decimal}
use Rattle.std.specs.Char.{is_ascii_digit}
use Rattle.std.proofs.lemmas.Grind.{flat_map-append}
use Rattle.std.proofs.lemmas.List.{append-nil, length-append}
use Rattle.std.proofs.lemmas.List.Concat.{flat_map-cons}
use Rattle.edit_writer.specs.declared.edits.Edit.{Edit}
use Rattle.report_text.specs.Report.{KeptParts, line_of, kept_words}
use Rattle.report_reading.specs.Words.{is_name_byte, is_path_byte, is_word_byte, is_path, is_kind, IsPlace}
use Rattle.report_reading.specs.Lines.{Parts, EditOf, CreateOf, KeptOf, DoneOf, line_text, lines_text, IsEdit, IsKept, IsLine, AreLines}
use Rattle.report_reading.specs.Reading.{◌>>=◌, field, path_of, kind_of, number_of, place_of, after, bytes_at, edit_at, create_at, done_at, because_at, needs_at, choose, kept_at, line_at}
use Rattle.report_reading.proofs.Fields.{bind_some, some_is, same, field_takes, field_again, paths, kinds, numbers, places, after_takes, after_again, bytes_takes, bytes_again}

-- the words of a line and what stands behind it, from left to right
abbrev row : List (List ℕ) → List ℕ → List ℕ
row [] r = 10 ∷ r
row (w ∷ []) r = w ++ (10 ∷ r)
row (w ∷ v ∷ vs) r = w ++ (32 ∷ row (v ∷ vs) r)

line_row : (ws : List (List ℕ)) (r : List ℕ) → line_of ws ++ r ≡ row ws r
line_row [] r = refl
line_row (w ∷ []) r = append_assoc w (10 ∷ []) r
line_row (w ∷ v ∷ vs) r = append_assoc w (32 ∷ line_of (v ∷ vs)) r ∙ ap (λ (x : List ℕ). w ++ (32 ∷ x)) (line_row (v ∷ vs) r)

-- the text begins with this line
pub record Takes (text : List ℕ) (x : Parts × List ℕ) : Type 0 where
  pub whole : text ≡ line_text x.0 ++ x.1
  pub line : IsLine x.0

abbrev small : ℕ
small = 2 ^ 32 - 1

abbrev large : ℕ
large = 2 ^ 64 - 1

path_takes : (end : ℕ) (text : List ℕ) (x : List ℕ × List ℕ) → field path_of end text ≡ Some x → (text ≡ x.0 ++ (end ∷ x.1)) × (is_path x.0 ≡ true)
path_takes end text x e = field_takes path_of same (λ w. is_path w ≡ true) is_path_byte paths end text x e

kind_takes : (end : ℕ) (text : List ℕ) (x : List ℕ × List ℕ) → field kind_of end text ≡ Some x → (text ≡ x.0 ++ (end ∷ x.1)) × (is_kind x.0 ≡ true)
kind_takes end text x e = field_takes kind_of same (λ w. is_kind w ≡ true) is_name_byte kinds end text x e

place_takes : (end : ℕ) (text : List ℕ) (x : List ℕ × List ℕ) → field place_of end text ≡ Some x → (text ≡ x.0 ++ (end ∷ x.1)) × IsPlace x.0
place_takes end text x e = field_takes place_of same IsPlace is_word_byte places end text x e

number_takes : (most : ℕ) → most < 2 ^ 64 → (end : ℕ) (text : List ℕ) (x : ℕ × List ℕ) → field (number_of most) end text ≡ Some x → (text ≡ decimal x.0 ++ (end ∷ x.1)) × (x.0 ≤ most)
number_takes most lt end text x e = field_takes (number_of most) decimal (λ n. n ≤ most) is_ascii_digit (numbers most lt) end text x e

path_again : (end : ℕ) → is_path_byte end ≡ false → (w rest : List ℕ) → is_path w ≡ true → field path_of end (w ++ (end ∷ rest)) ≡ Some (w, rest)
path_again end not_in w rest h = field_again path_of same (λ w. is_path w ≡ true) is_path_byte paths end not_in w rest h

kind_again : (end : ℕ) → is_name_byte end ≡ false → (w rest : List ℕ) → is_kind w ≡ true → field kind_of end (w ++ (end ∷ rest)) ≡ Some (w, rest)
kind_again end not_in w rest h = field_again kind_of same (λ w. is_kind w ≡ true) is_name_byte kinds end not_in w rest h

place_again : (end : ℕ) → is_word_byte end ≡ false → (w rest : List ℕ) → IsPlace w → field place_of end (w ++ (end ∷ rest)) ≡ Some (w, rest)
place_again end not_in w rest h = field_again place_of same IsPlace is_word_byte places end not_in w rest h

number_again : (most : ℕ) → most < 2 ^ 64 → (end : ℕ) → is_ascii_digit end ≡ false → (n : ℕ) (rest : List ℕ) → n ≤ most → field (number_of most) end (decimal n ++ (end ∷ rest)) ≡ Some (n, rest)
number_again most lt end not_in n rest h = field_again (number_of most) decimal (λ n. n ≤ most) is_ascii_digit (numbers most lt) end not_in n rest h

-- ---- edit

edit_takes : (text : List ℕ) (x : Parts × List ℕ) → edit_at text ≡ Some x → Takes (codes "edit " ++ text) x
unfolding edit_at
edit_takes text x e =
    let file = bind_some (field path_of 32 text) (λ file. field (number_of small) 32 file.1 >>= λ from. field (number_of small) 32 from.1 >>= λ to. field (number_of large) 32 to.1 >>= λ size. bytes_at size.0 size.1 >>= λ made. after (10 ∷ []) made.1 >>= λ rest. Some (EditOf file.0 (record { from = from.0; to = to.0; text = made.0 }), rest)) x e in
    let from = bind_some (field (number_of small) 32 file.0.1) (λ from. field (number_of small) 32 from.1 >>= λ to. field (number_of large) 32 to.1 >>= λ size. bytes_at size.0 size.1 >>= λ made. after (10 ∷ []) made.1 >>= λ rest. Some (EditOf file.0.0 (record { from = from.0; to = to.0; text = made.0 }), rest)) x file.2 in
    let to = bind_some (field (number_of small) 32 from.0.1) (λ to. field (number_of large) 32 to.1 >>= λ size. bytes_at size.0 size.1 >>= λ made. after (10 ∷ []) made.1 >>= λ rest. Some (EditOf file.0.0 (record { from = from.0.0; to = to.0; text = made.0 }), rest)) x from.2 in
    let size = bind_some (field (number_of large) 32 to.0.1) (λ size. bytes_at size.0 size.1 >>= λ made. after (10 ∷ []) made.1 >>= λ rest. Some (EditOf file.0.0 (record { from = from.0.0; to = to.0.0; text = made.0 }), rest)) x to.2 in
    let made = bind_some (bytes_at size.0.0 size.0.1) (λ made. after (10 ∷ []) made.1 >>= λ rest. Some (EditOf file.0.0 (record { from = from.0.0; to = to.0.0; text = made.0 }), rest)) x size.2 in
    let rest = bind_some (after (10 ∷ []) made.0.1) (λ rest. Some (EditOf file.0.0 (record { from = from.0.0; to = to.0.0; text = made.0.0 }), rest)) x made.2 in
    let f = path_takes 32 text file.0 file.1 in
    let a = number_takes small (lit< tt) 32 file.0.1 from.0 from.1 in
    let b = number_takes small (lit< tt) 32 from.0.1 to.0 to.1 in
    let s = number_takes large (lit< tt) 32 to.0.1 size.0 size.1 in
    let m = bytes_takes size.0.0 size.0.1 made.0 made.1 in
    let r = after_takes (10 ∷ []) made.0.1 rest.0 rest.1 in
    let words : List (List ℕ) = codes "edit" ∷ file.0.0 ∷ decimal from.0.0 ∷ decimal to.0.0 ∷ decimal (length made.0.0) ∷ made.0.0 ∷ [] in
    let sized : decimal size.0.0 ≡ decimal (length made.0.0) = ap decimal (sym m.1) in
    let whole : codes "edit " ++ text ≡ row words rest.0 =
    ap (λ (z : List ℕ). codes "edit " ++ z) (f.0 ∙ ap (λ (z : List ℕ). file.0.0 ++ (32 ∷ z)) (a.0 ∙ ap (λ (z : List ℕ). decimal from.0.0 ++ (32 ∷ z)) (b.0 ∙ ap (λ (z : List ℕ). decimal to.0.0 ++ (32 ∷ z)) (s.0 ∙ ap (λ (z : List ℕ). z ++ (32 ∷ size.0.1)) sized ∙ ap (λ (z : List ℕ). decimal (length made.0.0) ++ (32 ∷ z)) (m.0 ∙ ap (λ (z : List ℕ). made.0.0 ++ z) r))))) in
    subst (Takes (codes "edit " ++ text)) (some_is (EditOf file.0.0 (record { from = from.0.0; to = to.0.0; text = made.0.0 }), rest.0) x rest.2) (record {
      whole = whole ∙ sym (line_row words rest.0);
      line = record { path = f.1; from = omega (arith, a.1); to = omega (arith, b.1); size = omega (arith, s.1, m.1) };
    })

edit_again : (file : List ℕ) (e : Edit) (r : List ℕ) → IsEdit file e
    → edit_at (file ++ (32 ∷ (decimal e.from ++ (32 ∷ (decimal e.to ++ (32 ∷ (decimal (length e.text) ++ (32 ∷ (e.text ++ (10 ∷ r)))))))))) ≡ Some (EditOf file e, r)
unfolding edit_at
edit_again file e r h =
    rw (
      path_again 32 refl file _ h.path,
      number_again small (lit< tt) 32 refl e.from _ (omega (arith, h.from)),
      number_again small (lit< tt) 32 refl e.to _ (omega (arith, h.to)),
      number_again large (lit< tt) 32 refl (length e.text) (e.text ++ (10 ∷ r)) (omega (arith, h.size)),
      bytes_again e.text (10 ∷ r),
      after_again (10 ∷ []) r,
    )
    refl

-- ---- create and done

create_takes : (text : List ℕ) (x : Parts × List ℕ) → create_at text ≡ Some x → Takes (codes "create " ++ text) x
unfolding create_at
create_takes text x e =
    let file = bind_some (field path_of 32 text) (λ file. field (number_of large) 10 file.1 >>= λ size. Some (CreateOf file.0 size.0, size.1)) x e in
    let size = bind_some (field (number_of large) 10 file.0.1) (λ size. Some (CreateOf file.0.0 size.0, size.1)) x file.2 in
    let f = path_takes 32 text file.0 file.1 in
    let s = number_takes large (lit< tt) 10 file.0.1 size.0 size.1 in
    let whole : codes "create " ++ text ≡ row (codes "create" ∷ file.0.0 ∷ decimal size.0.0 ∷ []) size.0.1 =
    ap (λ (z : List ℕ). codes "create " ++ z) (f.0 ∙ ap (λ (z : List ℕ). file.0.0 ++ (32 ∷ z)) s.0) in
    subst (Takes (codes "create " ++ text)) (some_is (CreateOf file.0.0 size.0.0, size.0.1) x size.2) (record {
      whole = whole ∙ sym (line_row (codes "create" ∷ file.0.0 ∷ decimal size.0.0 ∷ []) size.0.1);
      line = (f.1, omega (arith, s.1));
    })

create_again : (file : List ℕ) (n : ℕ) (r : List ℕ) → is_path file ≡ true → n < 2 ^ 64 → create_at (file ++ (32 ∷ (decimal n ++ (10 ∷ r)))) ≡ Some (CreateOf file n, r)
unfolding create_at
create_again file n r path lt = rw (path_again 32 refl file (decimal n ++ (10 ∷ r)) path, number_again large (lit< tt) 10 refl n r (omega arith)) refl

done_takes : (text : List ℕ) (x : Parts × List ℕ) → done_at text ≡ Some x → Takes (codes "done " ++ text) x
unfolding done_at
done_takes text x e =
    let edits = bind_some (field (number_of small) 32 text) (λ edits. after (codes "edits" ++ (10 ∷ [])) edits.1 >>= λ rest. Some (DoneOf edits.0, rest)) x e in
    let rest = bind_some (after (codes "edits" ++ (10 ∷ [])) edits.0.1) (λ rest. Some (DoneOf edits.0.0, rest)) x edits.2 in
    let n = number_takes small (lit< tt) 32 text edits.0 edits.1 in
    let r = after_takes (codes "edits" ++ (10 ∷ [])) edits.0.1 rest.0 rest.1 in
    let whole : codes "done " ++ text ≡ row (codes "done" ∷ decimal edits.0.0 ∷ codes "edits" ∷ []) rest.0 =
    ap (λ (z : List ℕ). codes "done " ++ z) (n.0 ∙ ap (λ (z : List ℕ). decimal edits.0.0 ++ (32 ∷ z)) r) in
    subst (Takes (codes "done " ++ text)) (some_is (DoneOf edits.0.0, rest.0) x rest.2) (record {
      whole = whole ∙ sym (line_row (codes "done" ∷ decimal edits.0.0 ∷ codes "edits" ∷ []) rest.0);
      line = omega (arith, n.1);
    })

done_again : (n : ℕ) (r : List ℕ) → n < 2 ^ 32 → done_at (decimal n ++ (32 ∷ (codes "edits" ++ (10 ∷ r)))) ≡ Some (DoneOf n, r)
unfolding done_at
done_again n r lt = rw (number_again small (lit< tt) 32 refl n (codes "edits" ++ (10 ∷ r)) (omega arith), after_again (codes "edits" ++ (10 ∷ [])) r) refl

-- ---- kept

because_takes : (place text : List ℕ) (x : Parts × List ℕ) → IsPlace place → because_at place text ≡ Some x → Takes (codes "kept " ++ (place ++ (32 ∷ (codes "because " ++ text)))) x
unfolding because_at
because_takes place text x is e =
    let kind = bind_some (field kind_of 32 text) (λ kind. field place_of 32 kind.1 >>= λ node. after (codes "then ") node.1 >>= λ behind. field place_of 10 behind >>= λ next. Some (KeptOf (record { place = place; kind = kind.0; node = node.0; next = Some next.0 }), next.1)) x e in
    let node = bind_some (field place_of 32 kind.0.1) (λ node. after (codes "then ") node.1 >>= λ behind. field place_of 10 behind >>= λ next. Some (KeptOf (record { place = place; kind = kind.0.0; node = node.0; next = Some next.0 }), next.1)) x kind.2 in
    let behind = bind_some (after (codes "then ") node.0.1) (λ behind. field place_of 10 behind >>= λ next. Some (KeptOf (record { place = place; kind = kind.0.0; node = node.0.0; next = Some next.0 }), next.1)) x node.2 in
    let next = bind_some (field place_of 10 behind.0) (λ next. Some (KeptOf (record { place = place; kind = kind.0.0; node = node.0.0; next = Some next.0 }), next.1)) x behind.2 in
    let k = kind_takes 32 text kind.0 kind.1 in
    let n = place_takes 32 kind.0.1 node.0 node.1 in
    let b = after_takes (codes "then ") node.0.1 behind.0 behind.1 in
    let t = place_takes 10 behind.0 next.0 next.1 in
    let words : List (List ℕ) = codes "kept" ∷ place ∷ codes "because" ∷ kind.0.0 ∷ node.0.0 ∷ codes "then" ∷ next.0.0 ∷ [] in
    let whole : codes "kept " ++ (place ++ (32 ∷ (codes "because " ++ text))) ≡ row words next.0.1 =
    ap (λ (z : List ℕ). codes "kept " ++ (place ++ (32 ∷ (codes "because " ++ z)))) (k.0 ∙ ap (λ (z : List ℕ). kind.0.0 ++ (32 ∷ z)) (n.0 ∙ ap (λ (z : List ℕ). node.0.0 ++ (32 ∷ z)) (b ∙ ap (λ (z : List ℕ). codes "then " ++ z) t.0))) in
    subst (Takes (codes "kept " ++ (place ++ (32 ∷ (codes "because " ++ text))))) (some_is (KeptOf (record { place = place; kind = kind.0.0; node = node.0.0; next = Some next.0.0 }), next.0.1) x next.2) (record {
      whole = whole ∙ sym (line_row words next.0.1);
      line = record { place = is; kind = k.1; node = n.1; next = t.1 };
    })

because_again : (k : KeptParts) (next r : List ℕ) → IsKept k → k.next ≡ Some next
    → because_at k.place (k.kind ++ (32 ∷ (k.node ++ (32 ∷ (codes "then" ++ (32 ∷ (next ++ (10 ∷ r)))))))) ≡ Some (KeptOf k, r)
unfolding because_at
because_again k next r h e =
    let is : IsPlace next = subst (λ (o : Option (List ℕ)). IfSome o IsPlace) e h.next in
    rw (
      kind_again 32 refl k.kind _ h.kind,
      place_again 32 refl k.node _ h.node,
      after_again (codes "then ") (next ++ (10 ∷ r)),
      place_again 10 refl next r is,
      ← e,
    )
    refl

needs_takes : (place text : List ℕ) (x : Parts × List ℕ) → IsPlace place → needs_at place text ≡ Some x → Takes (codes "kept " ++ (place ++ (32 ∷ (codes "needs " ++ text)))) x
unfolding needs_at
needs_takes place text x is e =
    let kind = bind_some (field kind_of 32 text) (λ kind. field place_of 10 kind.1 >>= λ node. Some (KeptOf (record { place = place; kind = kind.0; node = node.0; next = None }), node.1)) x e in
    let node = bind_some (field place_of 10 kind.0.1) (λ node. Some (KeptOf (record { place = place; kind = kind.0.0; node = node.0; next = None }), node.1)) x kind.2 in
    let k = kind_takes 32 text kind.0 kind.1 in
    let n = place_takes 10 kind.0.1 node.0 node.1 in
    let words : List (List ℕ) = codes "kept" ∷ place ∷ codes "needs" ∷ kind.0.0 ∷ node.0.0 ∷ [] in
    let whole : codes "kept " ++ (place ++ (32 ∷ (codes "needs " ++ text))) ≡ row words node.0.1 =
    ap (λ (z : List ℕ). codes "kept " ++ (place ++ (32 ∷ (codes "needs " ++ z)))) (k.0 ∙ ap (λ (z : List ℕ). kind.0.0 ++ (32 ∷ z)) n.0) in
    subst (Takes (codes "kept " ++ (place ++ (32 ∷ (codes "needs " ++ text))))) (some_is (KeptOf (record { place = place; kind = kind.0.0; node = node.0.0; next = None }), node.0.1) x node.2) (record {
      whole = whole ∙ sym (line_row words node.0.1);
      line = record { place = is; kind = k.1; node = n.1; next = tt };
    })

needs_again : (k : KeptParts) (r : List ℕ) → IsKept k → k.next ≡ None → needs_at k.place (k.kind ++ (32 ∷ (k.node ++ (10 ∷ r)))) ≡ Some (KeptOf k, r)
unfolding needs_at
needs_again k r h e = rw (kind_again 32 refl k.kind (k.node ++ (10 ∷ r)) h.kind, place_again 10 refl k.node r h.node, ← e) refl

-- which way it went
chosen : {X : Type 0} (o : Option (List ℕ)) (f : List ℕ → Option X) (other : Option X) (x : X) → choose o f other ≡ Some x → ((rest : List ℕ) × (o ≡ Some rest) × (f rest ≡ Some x)) ⊎ (other ≡ Some x)
chosen (Some rest) f other x e = inl (rest, refl, e)
chosen None f other x e = inr e

kept_takes : (text : List ℕ) (x : Parts × List ℕ) → kept_at text ≡ Some x → Takes (codes "kept " ++ text) x
unfolding kept_at
kept_takes text x e =
    let place = bind_some (field place_of 32 text) (λ place. choose (after (codes "because ") place.1) (because_at place.0) (choose (after (codes "needs ") place.1) (needs_at place.0) None)) x e in
    let p = place_takes 32 text place.0 place.1 in
    let from : (front rest : List ℕ) → after front place.0.1 ≡ Some rest → Takes (codes "kept " ++ (place.0.0 ++ (32 ∷ (front ++ rest)))) x → Takes (codes "kept " ++ text) x =
    λ front rest a t. subst (λ (z : List ℕ). Takes (codes "kept " ++ z) x) (sym (p.0 ∙ ap (λ (z : List ℕ). place.0.0 ++ (32 ∷ z)) (after_takes front place.0.1 rest a))) t in
    elim (chosen (after (codes "because ") place.0.1) (because_at place.0.0) (choose (after (codes "needs ") place.0.1) (needs_at place.0.0) None) x place.2) [
      | inl b ↦ from (codes "because ") b.0 b.1 (because_takes place.0.0 b.0 x p.1 b.2)
      | inr o ↦ elim (chosen (after (codes "needs ") place.0.1) (needs_at place.0.0) None x o) [
        | inl b ↦ from (codes "needs ") b.0 b.1 (needs_takes place.0.0 b.0 x p.1 b.2)
        | inr n ↦ absurd cc
      ]
    ]

kept_again : (k : KeptParts) (o : Option (List ℕ)) (r : List ℕ) → IsKept k → k.next ≡ o → kept_at (k.place ++ (32 ∷ row (kept_words k.kind k.node o) r)) ≡ Some (KeptOf k, r)
unfolding kept_at after
kept_again k None r h e = rw (place_again 32 refl k.place (row (kept_words k.kind k.node None) r) h.place) (needs_again k r h e)
kept_again k (Some next) r h e = rw (place_again 32 refl k.place (row (kept_words k.kind k.node (Some next)) r) h.place) (because_again k next r h e)

-- ---- lines

pub line_takes : (text : List ℕ) (x : Parts × List ℕ) → line_at text ≡ Some x → Takes text x
unfolding line_at
line_takes text x e =
    let from : (front rest : List ℕ) → after front text ≡ Some rest → Takes (front ++ rest) x → Takes text x =
    λ front rest a t. subst (λ (z : List ℕ). Takes z x) (sym (after_takes front text rest a)) t in
    elim (chosen (after (codes "edit ") text) edit_at (choose (after (codes "create ") text) create_at (choose (after (codes "kept ") text) kept_at (choose (after (codes "done ") text) done_at None))) x e) [
      | inl b ↦ from (codes "edit ") b.0 b.1 (edit_takes b.0 x b.2)
      | inr o ↦ elim (chosen (after (codes "create ") text) create_at (choose (after (codes "kept ") text) kept_at (choose (after (codes "done ") text) done_at None)) x o) [
        | inl b ↦ from (codes "create ") b.0 b.1 (create_takes b.0 x b.2)
        | inr o ↦ elim (chosen (after (codes "kept ") text) kept_at (choose (after (codes "done ") text) done_at None) x o) [
          | inl b ↦ from (codes "kept ") b.0 b.1 (kept_takes b.0 x b.2)
          | inr o ↦ elim (chosen (after (codes "done ") text) done_at None x o) [
            | inl b ↦ from (codes "done ") b.0 b.1 (done_takes b.0 x b.2)
            | inr n ↦ absurd cc
          ]
        ]
      ]
    ]

kept_first : (k : KeptParts) (o : Option (List ℕ)) (r : List ℕ) → IsKept k → k.next ≡ o → line_at (row (codes "kept" ∷ k.place ∷ kept_words k.kind k.node o) r) ≡ Some (KeptOf k, r)
unfolding line_at after
kept_first k None r h e = kept_again k None r h e
kept_first k (Some next) r h e = kept_again k (Some next) r h e

pub line_again : (l : Parts) (r : List ℕ) → IsLine l → line_at (line_text l ++ r) ≡ Some (l, r)
unfolding line_at after
line_again (EditOf file e) r h = ap line_at (line_row (codes "edit" ∷ file ∷ decimal e.from ∷ decimal e.to ∷ decimal (length e.text) ∷ e.text ∷ []) r) ∙ edit_again file e r h
line_again (CreateOf file n) r h = ap line_at (line_row (codes "create" ∷ file ∷ decimal n ∷ []) r) ∙ create_again file n r h.0 h.1
line_again (KeptOf k) r h = ap line_at (line_row (codes "kept" ∷ k.place ∷ kept_words k.kind k.node k.next) r) ∙ kept_first k k.next r h refl
line_again (DoneOf n) r h = ap line_at (line_row (codes "done" ∷ decimal n ∷ codes "edits" ∷ []) r) ∙ done_again n r h

-- ---- all lines

some_text : (l : Parts) (r : List ℕ) → line_text l ++ r ≡ [] → ⊥
some_text (EditOf file e) r h = absurd cc
some_text (CreateOf file n) r h = absurd cc
some_text (KeptOf k) r h = absurd cc
some_text (DoneOf n) r h = absurd cc

shorter_by : (l : Parts) (r : List ℕ) → length r < length (line_text l ++ r)
shorter_by (EditOf file e) r = omega (arith, length-append (line_text (EditOf file e)) r)
shorter_by (CreateOf file n) r = omega (arith, length-append (line_text (CreateOf file n)) r)
shorter_by (KeptOf k) r = omega (arith, length-append (line_text (KeptOf k)) r)
shorter_by (DoneOf n) r = omega (arith, length-append (line_text (DoneOf n)) r)

pub line_shorter : (text : List ℕ) (l : Parts) (r : List ℕ) → line_at text ≡ Some (l, r) → length r < length text
line_shorter text l r e = subst (λ (t : List ℕ). length r < length t) (sym (line_takes text (l, r) e).whole) (shorter_by l r)

-- The lines of a text that begins with these lines go on behind them.
pub record GoesOn (ls ms : List Parts) (rest : List ℕ) : Type 0 where
  pub more : List Parts
  pub are : AreLines more
  pub joined : ms ≡ ls ++ more
  pub text : lines_text more ≡ rest

pub goes_on : (ls ms : List Parts) (rest : List ℕ) → AreLines ls → AreLines ms → lines_text ms ≡ lines_text ls ++ rest → GoesOn ls ms rest
goes_on [] ms rest a b e = record { more = ms; are = b; joined = refl; text = e }
goes_on (l ∷ ls) [] rest a b e = absurd (some_text l (lines_text ls ++ rest) (sym (e ∙ ap (λ (x : List ℕ). x ++ rest) (flat_map-cons line_text l ls) ∙ append_assoc (line_text l) (lines_text ls) rest)))
goes_on (l ∷ ls) (m ∷ ms) rest a b e =
    let both : line_text m ++ lines_text ms ≡ line_text l ++ (lines_text ls ++ rest) = sym (flat_map-cons line_text m ms) ∙ e ∙ ap (λ (x : List ℕ). x ++ rest) (flat_map-cons line_text l ls) ∙ append_assoc (line_text l) (lines_text ls) rest in
    let one = some_is (m, lines_text ms) (l, lines_text ls ++ rest) (sym (line_again m (lines_text ms) b.0) ∙ ap line_at both ∙ line_again l (lines_text ls ++ rest) a.0) in
    let next = goes_on ls ms rest a.1 b.1 (ap (λ (p : Parts × List ℕ). p.1) one) in
    record { more = next.more; are = next.are; joined = ap (λ (p : Parts × List ℕ). p.0 ∷ ms) one ∙ ap (λ (x : List Parts). l ∷ x) next.joined; text = next.text }

-- no line stands at the front
pub ends : (ls ms : List Parts) (rest : List ℕ) → AreLines ls → AreLines ms → lines_text ms ≡ lines_text ls ++ rest → 0 < length rest → line_at rest ≡ None → ⊥
ends ls ms rest a b e some none = at_more (goes_on ls ms rest a b e)
  where
    at_rest : (more : List Parts) → AreLines more → lines_text more ≡ rest → ⊥
    at_rest [] are t = absurd (omega (arith, ap length t))
    at_rest (m ∷ more) are t =
        let one = line_again m (lines_text more) are.0 in
        cc (one, sym (ap line_at (flat_map-cons line_text m more)) ∙ ap line_at t ∙ none)

    at_more : GoesOn ls ms rest → ⊥
    at_more g = at_rest g.more g.are g.text

-- nothing stands behind
pub alone : (ls ms : List Parts) → AreLines ls → AreLines ms → lines_text ms ≡ lines_text ls → ls ≡ ms
alone ls ms a b e = at_more (goes_on ls ms [] a b (e ∙ sym (append-nil (lines_text ls))))
  where
    at_none : (more : List Parts) → lines_text more ≡ [] → more ≡ []
    at_none [] t = refl
    at_none (m ∷ more) t = absurd (some_text m (lines_text more) (sym (flat_map-cons line_text m more) ∙ t))

    at_more : GoesOn ls ms [] → ls ≡ ms
    at_more g = sym (g.joined ∙ ap (λ (x : List Parts). ls ++ x) (at_none g.more g.text) ∙ append-nil ls)

-- one line more
pub more_lines : (ls : List Parts) (l : Parts) (text rest behind : List ℕ) → AreLines ls → lines_text ls ++ rest ≡ text → line_at rest ≡ Some (l, behind)
    → AreLines (ls ++ l ∷ []) × (lines_text (ls ++ l ∷ []) ++ behind ≡ text)
more_lines ls l text rest behind are e h =
    let t = line_takes rest (l, behind) h in
    let one : flat_map line_text (l ∷ []) ≡ line_text l = flat_map-cons line_text l [] ∙ append-nil (line_text l) in
    let joined : lines_text (ls ++ l ∷ []) ≡ lines_text ls ++ line_text l = flat_map-append line_text ls (l ∷ []) ∙ ap (λ (x : List ℕ). lines_text ls ++ x) one in
    (are_more ls are t.line, ap (λ (x : List ℕ). x ++ behind) joined ∙ append_assoc (lines_text ls) (line_text l) behind ∙ ap (λ (x : List ℕ). lines_text ls ++ x) (sym t.whole) ∙ e)
  where
    are_more : (ls : List Parts) → AreLines ls → IsLine l → AreLines (ls ++ l ∷ [])
    are_more [] a b = (b, tt)
    are_more (m ∷ ls) a b = (a.0, are_more ls a.1 b)
