-- What each way that a call goes says of its answer.
use Rattle.std.proofs.Common.{◌≡◌, ℕ, inl, inr, List, ◌++◌, Option, Some, None, refl, sym, subst}
use Rattle.core_meaning.specs.declared.values.End.TheVariants as end
use Rattle.tool_files.specs.Told.{Rose, Appends, AppendsSome}
use Rattle.refactor_app.specs.declared.status.Status.{Status}
use Rattle.refactor_app.specs.declared.status.Status.TheVariants as s
use Rattle.refactor_app.specs.Answers.{IsBound, IsDone, IsRefused, IsThrew, IsUsage, IsMissing, IsReadFault, IsWriteFault, IsOutFault, IsOne, IsCut, Ends}
use Rattle.refactor_app.specs.Answers as answers
use Rattle.refactor_app.specs.Course.{Moment, Course}
use Rattle.refactor_app.specs.Course as way

-- what was told before the put is told after it
whole_of : (before after : Option (List ℕ)) (report : List ℕ) → AppendsSome before after report → (whole : Option (List ℕ)) × Appends before whole report
whole_of None after report h = (None, tt)
whole_of (Some old) after report h = (Some (old ++ report), refl)

cut : (words : List (List ℕ)) (a b : Moment) (report : List ℕ) → IsCut a.put b.put a.faults b.faults report
    → ((whole : Option (List ℕ)) → Appends a.put whole report → IsOne words a.holds b.holds a.put whole) → Rose a.faults b.faults × IsOutFault words a.holds b.holds a.put b.put
cut words a b report c one =
    let w = whole_of a.put b.put report c.1 in
    (c.0, record { whole = w.0; report = report; all = w.1; answer = one w.0 w.1; some = c.1 })

-- what a call says that ended so
abbrev pub Says : List (List ℕ) → Moment → Moment → Status → Type 0
Says words a b s.Done = IsDone words a.holds b.holds a.put b.put
Says words a b s.Refused = IsRefused words a.holds b.holds a.put b.put
Says words a b s.Usage = IsUsage words a.holds b.holds a.put b.put
Says words a b s.Missing = Rose a.misses b.misses × IsMissing words a.holds b.holds a.put b.put
Says words a b s.ReadFault = Rose a.read_faults b.read_faults × IsReadFault words a.holds b.holds a.put b.put
Says words a b s.WriteFault = Rose a.write_faults b.write_faults × IsWriteFault words a.holds b.holds a.put b.put
Says words a b s.OutFault = Rose a.faults b.faults × IsOutFault words a.holds b.holds a.put b.put
Says words a b s.NoMemory = (b.holds ≡ a.holds) × (b.put ≡ a.put)
Says words a b s.Threw = IsThrew words a.holds b.holds a.put b.put
Says words a b s.Bound = IsBound words a.holds b.holds a.put b.put

-- a report is put last, of an answer that says this
put_last : (words : List (List ℕ)) (a b : Moment) (st wanted : Status) (report : List ℕ) → Ends a.put b.put a.faults b.faults report wanted st → (Appends a.put b.put report → Says words a b wanted)
    → ((whole : Option (List ℕ)) → Appends a.put whole report → IsOne words a.holds b.holds a.put whole) → Says words a b st
put_last words a b st wanted report (inl e) says one = subst (λ (st : Status). Says words a b st) (sym e.0) (says e.1)
put_last words a b st wanted report (inr c) says one = subst (λ (st : Status). Says words a b st) (sym c.0) (cut words a b report c.1 one)

told : (words : List (List ℕ)) (a b : Moment) (st : Status) → Course words a b st → Says words a b st
told words a b st (way.Course.usages {rule = n} lowest same ends) =
    put_last words a b st s.Usage _ ends (λ p. record { rule = n; lowest = lowest; report = p; nothing = same })
    (λ whole p. inr (inr (inl (record { rule = n; lowest = lowest; report = p; nothing = same }))))
told words a b st (way.Course.absent {fs = fs} k name asks named absent rose same ends) =
    put_last words a b st s.Missing _ ends (λ p. (rose, record { fs = fs; asks = asks; file = k; name = name; named = named; absent = absent; report = p; nothing = same }))
    (λ whole p. inr (inr (inr (inl (record { fs = fs; asks = asks; file = k; name = name; named = named; absent = absent; report = p; nothing = same })))))
told words a b st (way.Course.unread {fs = fs} k name asks named unread rose same ends) =
    put_last words a b st s.ReadFault _ ends (λ p. (rose, record { fs = fs; asks = asks; file = k; name = name; named = named; unread = unread; report = p; nothing = same }))
    (λ whole p. inr (inr (inr (inr (inl (record { fs = fs; asks = asks; file = k; name = name; named = named; unread = unread; report = p; nothing = same }))))))
told words a b st (way.Course.refuses {line = line} r same ends) =
    put_last words a b st s.Refused line ends (λ p. record { line = line; refusal = r; report = p; nothing = same })
    (λ whole p. inr (inl (record { line = line; refusal = r; report = p; nothing = same })))
told words a b st (way.Course.checks {line = line} passes same ends) =
    put_last words a b st s.Done line ends (λ p. inr (inl (record { line = line; passes = passes; report = p; nothing = same })))
    (λ whole p. inl (inr (inl (record { line = line; passes = passes; report = p; nothing = same }))))
told words a b st (way.Course.runs {line = line} end.Normal runs same ends) =
    put_last words a b st s.Done line ends (λ p. inr (inr (inl (record { line = line; runs = runs; report = p; nothing = same }))))
    (λ whole p. inl (inr (inr (inl (record { line = line; runs = runs; report = p; nothing = same })))))
told words a b st (way.Course.lists {q = q} {types = types} are same ends) =
    put_last words a b st s.Done _ ends (λ p. inr (inr (inr (inl (record { q = q; types = types; are = are; report = p; nothing = same })))))
    (λ whole p. inl (inr (inr (inr (inl (record { q = q; types = types; are = are; report = p; nothing = same }))))))
told words a b st (way.Course.runs {line = line} (end.Threw k) runs same ends) =
    put_last words a b st s.Threw line ends (λ p. record { class = k; ended = record { line = line; runs = runs; report = p; nothing = same } })
    (λ whole p. inr (inr (inr (inr (inr (inr (inl (record { class = k; ended = record { line = line; runs = runs; report = p; nothing = same } }))))))))
told words a b st (way.Course.runs {line = line} end.AtBound runs same ends) =
    put_last words a b st s.Bound line ends (λ p. record { line = line; runs = runs; report = p; nothing = same })
    (λ whole p. inr (inr (inr (inr (inr (inr (inr (record { line = line; runs = runs; report = p; nothing = same }))))))))
told words a b st (way.Course.writes (answers.IsAsked.change q made change) w ends) =
    put_last words a b st s.Done _ ends (λ p. inl (record { q = q; made = made; change = change; written = w; report = p }))
    (λ whole p. inl (inl (record { q = q; made = made; change = change; written = w; report = p })))
told words a b st (way.Course.writes (answers.IsAsked.extraction q made h) w ends) =
    put_last words a b st s.Done _ ends (λ p. inr (inr (inr (inr (record { q = q; made = made; extraction = h; written = w; report = p })))))
    (λ whole p. inl (inr (inr (inr (inr (record { q = q; made = made; extraction = h; written = w; report = p }))))))
told words a b st (way.Course.fails {x = x} name asked w rose ends) =
    put_last words a b st s.WriteFault _ ends (λ p. (rose, record { writing = x; asked = asked; name = name; failed = w; report = p }))
    (λ whole p. inr (inr (inr (inr (inr (inl (record { writing = x; asked = asked; name = name; failed = w; report = p })))))))
told words a b st (way.Course.no_memory same put is) = subst (λ (st : Status). Says words a b st) (sym is) (same, put)

pub says : (words : List (List ℕ)) (a b : Moment) (st wanted : Status) → Course words a b st → st ≡ wanted → Says words a b wanted
says words a b st wanted h is = subst (λ (st : Status). Says words a b st) is (told words a b st h)
