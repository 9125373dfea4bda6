-- The bytes in use, and one record more.
use Rattle.std.proofs.Common.{◌≡◌, ℕ, zero, suc, ◌+◌, ◌-◌, ◌<◌, ◌≤◌, List, [], ◌∷◌, ◌++◌, length, get_or, take, drop, Ok, Err, sym, refl, ap, subst, ◌∙◌, inl, inr, below_more, true, arith, rules}
use Rattle.std.specs.List.{between}
use Rattle.std.proofs.lemmas.List.{flat_map_more, take-append-drop, take-take, take_at, take_all, drop-take, drop-drop, length-append, length-take-le, length-drop, get_or-take, get_or-drop}
use Rattle.std.proofs.lemmas.Bool.{cases_lt}
use Rattle.wire.specs.Limits.{message_limit}
use Rattle.wire.specs.Overlay.{laid}
use Rattle.wire.proofs.Laid.{take_laid, take_laid_end, between_laid, length_laid}
use Rattle.message_log.specs.Meaning.{size_limit, added}
use Rattle.packed_messages.specs.Bytes.{Bytes}
use Rattle.packed_messages.specs.Packed.{Packed, InRange, Rising, Edges, edge, parts, part, judged, extended, run_of}
use Rattle.packed_messages.proofs.Runs.{bytes_drop}
use Rattle.packed_messages.proofs.Filed.{edge_mono, edge_low, short_parts, parts_by, parts_more, between_below}
use Rattle.packed_messages.proofs.Edges.{edge_same, edge_last}
use Rattle.packed_messages.proofs.Keeping.{judged_ok, edges_more, kept_more, parts_longer}
use Rattle.logs.specs.declared.records.Mark.TheVariants.{Message}
use Rattle.logs.specs.declared.records.RecordFault.{RecordFault}
use Rattle.logs.specs.Format.{head_of, session_record, message_record, saved}
use Rattle.logs.specs.Reading.{length_of, session_of, message_of}
use Rattle.logs.specs.Layout.{base, gap, slots_of, journal, record_end, walked, recorded, Slotted, Formed, Indexes, Notes}
use Rattle.logs.specs.Opening.{opens, Savable, Scanned, Broken, later}
use Rattle.logs.proofs.Framed.{length_back, session_was_written, message_was_written}
use Rattle.logs.proofs.Forms.{saved_once}

-- a front of a + k, in two
pub take_both : (a k : ℕ) (xs : List ℕ) → take (a + k) xs ≡ take a xs ++ take k (drop a xs)
take_both a k xs =
    sym (take-append-drop a (take (a + k) xs))
    ∙ (ap (λ t. t ++ drop a (take (a + k) xs)) (take-take a (a + k) xs (omega arith))
    ∙ ap (λ t. take a xs ++ t) (drop-take a k xs))

pub saved_more : (s : ℕ) (ms : List (List ℕ)) (m : List ℕ) → saved s ms ++ message_record m ≡ saved s (ms ++ m ∷ [])
saved_more s ms m = flat_map_more message_record (session_record s) ms m

-- the body of a record that stands at `at`
pub body_is : (mem m : List ℕ) (at e : ℕ) → take (4 + length m) (drop at mem) ≡ message_record m → e ≡ at + gap + length m → between (at + gap) e mem ≡ m
body_is mem m at e is end =
    let n : e - (at + gap) ≡ length m = omega arith in
    ap (λ k. take k (drop (at + gap) mem)) n
    ∙ (ap (take (length m)) (sym (drop-drop gap at mem))
    ∙ (sym (drop-take gap (length m) (drop at mem))
    ∙ ap (drop gap) is))

-- a record that stands at `at` ends behind its body
pub end_is : (mem m : List ℕ) (at : ℕ) → take (4 + length m) (drop at mem) ≡ message_record m → length m ≤ message_limit → record_end mem at ≡ at + gap + length m
end_is mem m at is short =
    let rest = drop (4 + length m) (drop at mem) in
    let whole : drop at mem ≡ message_record m ++ rest = sym (take-append-drop (4 + length m) (drop at mem)) ∙ ap (λ t. t ++ rest) is in
    let long : length_of (drop at mem) ≡ length m = ap length_of whole ∙ length_back (length m) (omega arith) in
    ap (λ n. at + gap + n) long

-- the session record that was read at the front
pub session_laid : (b : List ℕ) (s : ℕ) → Bytes b → session_of b ≡ Ok s → (base ≤ length b) × (take base b ≡ session_record s)
session_laid b s bytes e =
    let was = session_was_written b s bytes e in
    let five : length b ≡ 5 + length (drop 5 b) = ap length was ∙ omega arith in
    (omega arith, ap (take base) was)

-- a message record that was read at `at`
pub message_laid : (b m : List ℕ) (at s : ℕ) → Bytes b → at ≤ length b → message_of s (drop at b) ≡ Ok m → (at + gap + length m ≤ length b) × (take (4 + length m) (drop at b) ≡ message_record m) × (length m ≤ message_limit) × (0 < s)
message_laid b m at s bytes w e =
    let was = message_was_written s (drop at b) m (bytes_drop at b bytes) e in
    let rest = drop (4 + length m) (drop at b) in
    let all : length b ≡ at + length (drop at b) = ap length (sym (take-append-drop at b)) ∙ simp length-append (omega (arith, length-take-le at b w)) in
    let four : length (drop at b) ≡ 4 + length m + length rest = ap length was.0 ∙ simp length-append (omega arith) in
    (omega arith, ap (take (4 + length m)) was.0 ∙ take_at (message_record m) rest (4 + length m) (omega arith), was.1, was.2)

-- the head of a record that lies below u, in bytes that agree below u
end_same : (mem mem' : List ℕ) (u at : ℕ) → take u mem' ≡ take u mem → at + gap ≤ u → record_end mem' at ≡ record_end mem at
end_same mem mem' u at same low =
    let byte : (i : ℕ) → i < 4 → get_or (drop at mem') i 0 ≡ get_or (drop at mem) i 0 =
    λ i h. get_or-drop at mem' i 0
    ∙ sym (get_or-take u mem' (at + i) 0 (omega arith))
    ∙ ap (λ t. get_or t (at + i) 0) same
    ∙ get_or-take u mem (at + i) 0 (omega arith)
    ∙ sym (get_or-drop at mem i 0) in
    let low_byte = byte 2 (omega arith) in
    let high_byte = byte 3 (omega arith) in
    omega (arith, low_byte, high_byte)

-- bytes that agree below u have the same edges there, and the same messages
module _ (mem mem' : List ℕ) (u n : ℕ) (same : take u mem' ≡ take u mem) (rising : Rising (walked mem) gap n) (low : walked mem n ≤ u) where
  pub walked_same : (k : ℕ) → k ≤ n → walked mem' k ≡ walked mem k
  walked_same zero h = refl
  walked_same (suc k) h =
      let up = rising k (omega arith) in
      let top = edge_mono (walked mem) gap n rising (suc k) h in
      ap (record_end mem') (walked_same k (omega arith)) ∙ end_same mem mem' u (walked mem k) same (omega (arith, up.0, top))

  pub parts_same : parts mem' (walked mem') gap n ≡ parts mem (walked mem) gap n
  parts_same =
      parts_by (part mem' (walked mem') gap) (part mem (walked mem) gap) n (λ k h.
      let a = walked_same k (omega arith) in
      let b = walked_same (suc k) (omega arith) in
      let top = edge_mono (walked mem) gap n rising (suc k) (omega arith) in
      let keep = between_below mem mem' u (walked mem k + gap) (walked mem (suc k)) (omega arith) same in
      cc)

  pub rising_same : Rising (walked mem') gap n
  rising_same k h =
      let a = walked_same k (omega arith) in
      let b = walked_same (suc k) (omega arith) in
      let up = rising k h in
      (omega (arith, a, b, up.0), omega (arith, a, b, up.1))

  pub indexes_same : (index : List ℕ) → Indexes mem index n → Indexes mem' index n
  indexes_same index i = (i.0, λ k h. i.1 k h ∙ sym (walked_same k (omega (arith, i.0))))

-- no record yet
pub no_edges : (v : Packed) → v.used ≡ base → v.count ≡ 0 → Edges base gap v (walked v.memory)
no_edges v used count = record { first = refl; last = ap (walked v.memory) count ∙ sym used; rising = λ k h. absurd (omega arith) }

pub no_index : (mem : List ℕ) → Indexes mem [] 0
no_index mem = (omega arith, λ k h. let z : k ≡ 0 = omega arith in ap (edge base []) z ∙ sym (ap (walked mem) z))

-- one end more is noted, or not
pub indexes_more : (mem index index' : List ℕ) (n end : ℕ) → Indexes mem index n → walked mem (suc n) ≡ end → Notes index n end index' → Indexes mem index' (n + 1)
indexes_more mem index index' n end i is (inr same) = (omega (arith, i.0, ap length same), λ k h. ap (λ t. edge base t k) same ∙ i.1 k (omega (arith, ap length same)))
indexes_more mem index index' n end i is (inl (long, new)) =
    let more : length index' ≡ length index + 1 = ap length new ∙ length-append index (end ∷ []) in
    (omega (arith, i.0), at)
  where
    at : (k : ℕ) → k ≤ length index' → edge base index' k ≡ walked mem k
    at k h = elim (cases_lt (length index) k) [
      | inr l ↦ ap (λ t. edge base t k) new ∙ edge_same base index (end ∷ []) k l ∙ i.1 k l
      | inl l ↦
          let more : length index' ≡ length index + 1 = ap length new ∙ length-append index (end ∷ []) in
          let z : k ≡ suc (length index) = omega (arith, more) in
          let y : suc n ≡ suc (length index) = omega arith in
          ap (λ t. edge base t k) new ∙ ap (edge base (index ++ end ∷ [])) z ∙ edge_last base index end ∙ sym is ∙ ap (walked mem) (y ∙ sym z)
    ]

-- what the records hold is what a log can hold
pub savable : (mem : List ℕ) (s n : ℕ) → Rising (walked mem) gap n → walked mem n ≤ length mem → (s ≡ 0 → n ≡ 0) → Savable s (parts mem (walked mem) gap n)
savable mem s n rising within silent =
    record { short = short_parts mem (walked mem) gap n rising within; silent = λ z. ap (parts mem (walked mem) gap) (silent z) }

-- a message more is appended
module _ (v : Packed) (m : List ℕ) (r : InRange base v) (e : Edges base gap v (walked v.memory)) (ok : judged gap v (length m) ≡ Ok tt) where
  abbrev mem' : List ℕ
  mem' = laid v.memory v.used (message_record m)

  fit : (length m ≤ message_limit) × (v.used + gap + length m ≤ length v.memory) × (v.count < v.slots) × (0 < v.session)
  fit = judged_ok base gap v (walked v.memory) r e (length m) ok

  front_same : take v.used mem' ≡ take v.used v.memory
  front_same = take_laid v.memory v.used (message_record m) r.within

  same : (k : ℕ) → k ≤ v.count → walked mem' k ≡ walked v.memory k
  same k h = walked_same v.memory mem' v.used v.count front_same e.rising (omega (arith, e.last)) k h

  here : take (4 + length m) (drop v.used mem') ≡ message_record m
  here =
      let n : (v.used + (4 + length m)) - v.used ≡ 4 + length m = omega arith in
      ap (λ k. take k (drop v.used mem')) (sym n)
      ∙ between_laid v.memory v.used (message_record m) (v.used + (4 + length m)) r.within (omega arith)

  next : walked mem' (suc v.count) ≡ v.used + gap + length m
  next = ap (record_end mem') (same v.count (omega arith) ∙ e.last) ∙ end_is mem' m v.used here fit.0

  pub appended_edges : Edges base gap (extended (message_record m) v) (walked mem')
  appended_edges = edges_more base gap v (walked v.memory) r e (head_of Message (length m)) m (walked mem') refl ok same next

  pub appended_meaning : recorded (extended (message_record m) v) ≡ added (recorded v) m
  appended_meaning = kept_more base gap v (walked v.memory) r e (head_of Message (length m)) m (walked mem') refl ok same next

  pub appended_slots : Slotted v → Slotted (extended (message_record m) v)
  appended_slots slots = slots ∙ ap slots_of (sym (length_laid v.memory v.used (message_record m) (omega (arith, fit.1))))

  pub appended_form : Formed v → Formed (extended (message_record m) v)
  appended_form form =
      take_laid_end v.memory v.used (message_record m) (v.used + length (message_record m)) r.within refl
      ∙ ap (λ t. t ++ message_record m) form
      ∙ saved_more v.session (parts v.memory (walked v.memory) gap v.count) m
      ∙ ap (saved v.session) (sym (parts_longer base gap v (walked v.memory) r e (head_of Message (length m)) m (walked mem') refl ok same next))

  pub appended_index : (index index' : List ℕ) (end : ℕ) → Indexes v.memory index v.count → end ≡ v.used + gap + length m → Notes index v.count end index' → Indexes mem' index' (v.count + 1)
  appended_index index index' end i is n =
      indexes_more mem' index index' v.count end
      (indexes_same v.memory mem' v.used v.count front_same e.rising (omega (arith, e.last)) index i)
      (next ∙ sym is) n

-- records were read up to an offset
pub record ReadTo (b : List ℕ) (s n at : ℕ) (index : List ℕ) : Type 0 where
  pub here : at ≡ walked b n
  pub rising : Rising (walked b) gap n
  pub form : take at b ≡ saved s (parts b (walked b) gap n)
  pub within : at ≤ length b
  pub silent : s ≡ 0 → n ≡ 0
  pub indexed : Indexes b index n

pub read_front : (b index : List ℕ) (s : ℕ) → Bytes b → session_of b ≡ Ok s → index ≡ [] → ReadTo b s 0 base index
read_front b index s bytes e none =
    let was = session_laid b s bytes e in
    record {
      here = refl;
      rising = λ k h. absurd (omega arith);
      form = was.1;
      within = was.0;
      silent = λ z. refl;
      indexed = subst (λ t. Indexes b t 0) (sym none) (no_index b);
    }

module _ (b : List ℕ) (s n at : ℕ) (index : List ℕ) (r : ReadTo b s n at index) where
  read_savable : Savable s (parts b (walked b) gap n)
  read_savable = savable b s n r.rising (omega (arith, r.here, r.within)) r.silent

  pub read_broken : (f : RecordFault) → at < length b → message_of s (drop at b) ≡ Err f → Broken b at
  read_broken f lt bad = later s (parts b (walked b) gap n) at f read_savable r.form lt bad

  pub read_all : length b ≤ at → Scanned b s n index
  read_all le =
      let z : at ≡ length b = omega (arith, r.within) in
      record {
        form = sym (take_all at b le) ∙ r.form;
        last = sym r.here ∙ z;
        rising = r.rising;
        silent = r.silent;
        indexed = r.indexed;
      }

  pub read_fits : (m : List ℕ) → Bytes b → message_of s (drop at b) ≡ Ok m → at + gap + length m ≤ length b
  read_fits m bytes ok = (message_laid b m at s bytes r.within ok).0

  pub read_more : (m index' : List ℕ) (end : ℕ) → Bytes b → message_of s (drop at b) ≡ Ok m → end ≡ at + gap + length m → Notes index n end index' → ReadTo b s (n + 1) end index'
  read_more m index' end bytes ok is noted =
      let l = message_laid b m at s bytes r.within ok in
      let ms = parts b (walked b) gap n in
      let next : walked b (suc n) ≡ at + gap + length m = ap (record_end b) (sym r.here) ∙ end_is b m at l.1 l.2 in
      let z : suc n ≡ n + 1 = omega arith in
      let body = body_is b m at (at + gap + length m) l.1 refl in
      let more = parts_more b b m (walked b) (walked b) gap n at r.rising r.here (λ k h. refl) next refl body in
      let both : end ≡ at + (4 + length m) = omega arith in
      record {
        here = is ∙ sym next ∙ ap (walked b) z;
        rising = below_more _ n r.rising (omega (arith, next, r.here), omega (arith, next, r.here, l.2));
        form = ap (λ k. take k b) both
            ∙ (take_both at (4 + length m) b
            ∙ (ap (λ t. t ++ take (4 + length m) (drop at b)) r.form
            ∙ (ap (λ t. saved s ms ++ t) l.1
            ∙ (saved_more s ms m
            ∙ ap (saved s) (sym more)))));
        within = omega (arith, l.0);
        silent = λ e. absurd (omega (arith, l.3));
        indexed = indexes_more b index index' n end r.indexed (next ∙ sym is) noted;
      }

-- memory of which so many bytes can be in use
pub opens_parts : (n used : ℕ) → opens n used ≡ true → (base ≤ n) × (n ≤ size_limit) × (used ≤ n)
opens_parts n used e = search rules

-- memory whose first bytes hold records to their end, as a journal of these bytes
module _ (mem : List ℕ) (used s n : ℕ) (index : List ℕ) (fits : opens (length mem) used ≡ true) (r : Scanned (take used mem) s n index) where
  abbrev pub opened : Packed
  opened = run_of mem used n (slots_of (length mem)) s

  within : used ≤ length mem
  within = (opens_parts (length mem) used fits).2

  long : length (take used mem) ≡ used
  long = length-take-le used mem within

  top : walked (take used mem) n ≤ used
  top = omega (arith, r.last, long)

  front_of : take used mem ≡ take used (take used mem)
  front_of = sym (take-take used used mem (omega arith))

  pub opened_edges : Edges base gap opened (walked mem)
  opened_edges =
      record {
        first = refl;
        last = walked_same (take used mem) mem used n front_of r.rising top n (omega arith) ∙ r.last ∙ long;
        rising = rising_same (take used mem) mem used n front_of r.rising top;
      }

  pub opened_form : Formed opened
  opened_form = r.form ∙ ap (saved s) (sym (parts_same (take used mem) mem used n front_of r.rising top))

  pub opened_index : Indexes mem index n
  opened_index = indexes_same (take used mem) mem used n front_of r.rising top index r.indexed

  -- each record takes its head at least
  pub opened_range : InRange base opened
  opened_range =
      let sizes = opens_parts (length mem) used fits in
      let low = edge_low (walked (take used mem)) n r.rising in
      record {
        large = omega (arith, low, top);
        within = within;
        small = sizes.1;
        placed = omega (arith, low, top, within);
        few = omega (arith, sizes.1);
        silent = r.silent;
      }

  pub opened_savable : Savable s (parts mem (walked mem) gap n)
  opened_savable = savable mem s n opened_edges.rising (omega (arith, opened_edges.last, within)) r.silent

  -- it is the journal of each log that has this saved form
  pub opened_once : (s' : ℕ) (ms : List (List ℕ)) → Savable s' ms → take used mem ≡ saved s' ms → recorded opened ≡ journal (length mem) s' ms
  opened_once s' ms sav form =
      let once = saved_once s s' (parts mem (walked mem) gap n) ms opened_savable sav (sym opened_form ∙ form) in
      cc

-- the bytes from an offset up to the end
pub rest_is : (b : List ℕ) (at : ℕ) → take (length b - at) (drop at b) ≡ drop at b
rest_is b at = take_all (length b - at) (drop at b) (simp length-drop (omega arith))

-- each record that was read takes its head at least
pub read_few : (b : List ℕ) (s n at : ℕ) (index : List ℕ) → ReadTo b s n at index → n ≤ at
read_few b s n at index r = omega (arith, edge_low (walked b) n r.rising, r.here)
