-- What a login decision does that refuses the number after the highest.
use Rattle.std.proofs.Common.{◌≡◌, ℕ, ◌+◌, ◌≤◌, Bool, true, false, cond, not, ◌||◌, eqb, leb, List, [], length, take, drop, Some, None, Ok, Option, refl, ap, ⊎_elim, arith, length-append}
use Rattle.std.specs.Str.{bytes_eq}
use Rattle.std.proofs.lemmas.Bool.{le-leb, leb-false, lt-leb, or_cases, or_from, or_right, eqb-true, eq-eqb, not_from_false}
use Rattle.wire.specs.declared.refusals.Refusal.TheVariants.{WrongPhase}
use Rattle.wire.specs.declared.statuses.Status.{Status}
use Rattle.wire.specs.declared.statuses.Status.TheVariants.{Accepted, UnknownUser, SessionUnavailable, InvalidNumber, WrongVersion, WrongProtocol, AlreadyLoggedIn}
use Rattle.wire.specs.declared.letters.Letter.TheVariants as L
use Rattle.wire.specs.Limits.{packet_limit}
use Rattle.packet.specs.Values.{login_response, encode}
use Rattle.packet.specs.Decoding.{decode}
use Rattle.message_log.specs.Meaning.{count}
use Rattle.account.specs.Rows.{found, row_at}
use Rattle.account.specs.Logins.{spoken_version, of_row}
use Rattle.rules.specs.declared.phases.How.{How}
use Rattle.rules.specs.declared.phases.How.TheVariants.{Join, Anew, Fetch}
use Rattle.rules.specs.declared.answers.Received.{Received}
use Rattle.rules.specs.declared.answers.Received.TheVariants.{Acted}
use Rattle.rules.specs.declared.answers.Report.{Report}
use Rattle.rules.specs.State.{Buffers, Pair, Outcome}
use Rattle.rules.specs.Changes.{grants, refuses, hub_took}
use Rattle.rules.specs.Hub.{decided, hub_hears, hub_sends}
use Rattle.rules.specs.Seat.{seat_hears}
use Rattle.rules.specs.Calls.{asked, asked_session, asked_number, login_of, connected}
use Rattle.rules.specs.declared.answers.Answer.TheVariants as Answer
use Rattle.rules.specs.Rounds.{SeatReceives, seat_deaf, seat_hears_bytes, hub_deaf, hub_hears_bytes, Drains, ends, more}
use Rattle.promises.specs.Runs.{begins, at_first, GrantedRounds, no_round, round}
use Rattle.promises.specs.Promises.{Level}
use Rattle.counterexamples.specs.Setting.{line_of, log_of, starting_with, fresh_buffers}
use Rattle.counterexamples.specs.Refusing.{Honest, NextNumberPasses, RefusingLocksOut, NarrowReceives, no_login, login, NarrowRounds, NarrowRules, rounds, refused_start, RefusingStrands}
use Rattle.counterexamples.proofs.Walks.{Long, fresh_long, fronted_long, long_enough, roomier}
use Rattle.counterexamples.proofs.Starts.{set_up_lem}

-- an invalid number is reported only by the last check: the session passed, and the number did not
passed : (b : Bool) (rest x : Status) → (x ≡ InvalidNumber → ⊥) → cond b rest x ≡ InvalidNumber → (b ≡ true) × (rest ≡ InvalidNumber)
passed true rest x n e = (refl, e)
passed false rest x n e = absurd (n e)

told_last : (b : Bool) → cond b Accepted InvalidNumber ≡ InvalidNumber → b ≡ false
told_last true e = (cc e)
told_last false e = refl

number_fits : (how : How) (s : Pair) → Honest s → (eqb (asked_session how s.held) 0 || eqb (asked_session how s.held) s.running.log.session) ≡ true → asked_number how s.held ≤ count s.running.log + 1
number_fits Join s h e =
    ⊎_elim
    (λ z. let m = ap length (h.silent (eqb-true s.held.session 0 z)) in omega arith)
    (λ z. let b = h.prefix (eqb-true s.held.session s.running.log.session z) in
    omega (arith, ap length b.1, length-append s.held.messages b.0))
    (or_cases _ _ e)
number_fits Anew s h e = omega arith
number_fits (Fetch end) s h e = omega arith

pub next_number_passes : NextNumberPasses
next_number_passes how s h e =
    let row : Option ℕ = found s.rows s.account.user s.account.computer in
    let a = passed (bytes_eq (asked how s).version spoken_version) _ WrongVersion (λ q. (cc q)) e in
    let b = passed (of_row row (λ i. true)) _ UnknownUser (λ q. (cc q)) a.1 in
    let c = passed (of_row row (λ i. bytes_eq (row_at s.rows i).account.protocol s.account.protocol)) _ WrongProtocol (λ q. (cc q)) b.1 in
    let d = passed (of_row row (λ i. not (row_at s.rows i).marked)) _ AlreadyLoggedIn (λ q. (cc q)) c.1 in
    let f = passed (eqb (asked_session how s.held) 0 || eqb (asked_session how s.held) s.running.log.session) _ SessionUnavailable (λ q. (cc q)) d.1 in
    let g : leb (asked_number how s.held) (count s.running.log + 1) ≡ false = told_last _ f.1 in
    omega (arith, leb-false _ _ g, number_fits how s h f.0)

pub refusing_locks_out : RefusingLocksOut
refusing_locks_out i s h =
    let n : asked_number Join s.held ≡ count s.running.log + 1 = ap (λ (ms : List (List ℕ)). length ms + 1) h.level.messages in
    let r = h.row in
    let p = h.protocol in
    let m = not_from_false _ h.unused in
    let e : (eqb s.held.session 0 || eqb s.held.session s.running.log.session) ≡ true = or_right _ _ (eq-eqb _ _ h.level.session) in
    let f : leb (asked_number Join s.held) (count s.running.log + 1) ≡ true = le-leb _ _ (omega arith) in
    let g : leb (asked_number Join s.held) (count s.running.log) ≡ false = lt-leb _ _ (omega arith) in
    record { right = simp (r, p, m, e, f); wrong = simp (r, p, m, e, g) }

-- One round by these rules, with whatever buffers: the hub takes the login and rejects it, and the seat is apart.
abbrev begun : Buffers → Pair
begun b = connected Anew (starting_with [] packet_limit b)

abbrev login_bytes : List ℕ
login_bytes = encode (login_of (asked Anew refused_start))

-- the hub after two bytes, and after all
abbrev head_heard : Buffers → Outcome Received
head_heard b = hub_hears (take 2 login_bytes) (line_of packet_limit (drop 2 login_bytes)) (begun b)

abbrev login_heard : Buffers → Outcome Received
login_heard b =
    grants (Acted L.LoginRequest)
    (decided InvalidNumber (asked Anew refused_start) (hub_took (drop 2 login_bytes) [] (line_of packet_limit []) (head_heard b).after))

abbrev response_bytes : List ℕ
response_bytes = encode (login_response InvalidNumber 0 0)

abbrev sent_back : Buffers → Pair
sent_back b = (hub_sends (login_heard b).after).after

abbrev head_back : Buffers → Outcome Received
head_back b = seat_hears (take 2 response_bytes) (line_of packet_limit (drop 2 response_bytes)) (sent_back b)

abbrev rejected : Buffers → Outcome Received
rejected b = seat_hears (drop 2 response_bytes) (line_of packet_limit []) (head_back b).after

hub_heard_lem : (b : Buffers) → Drains NarrowReceives (begun b) 1 None (login_heard b).after
unfolding encode decode
hub_heard_lem b =
    more (begun b) (head_heard b) 0 1 None (login_heard b).after
    (no_login _ (λ e. (cc e)) (hub_hears_bytes _ refl (roomier packet_limit 2 login_bytes (omega arith)))) refl
    (more (head_heard b).after (login_heard b) 1 0 None (login_heard b).after
    (login _ (asked Anew refused_start) refl (roomier packet_limit 36 (drop 2 login_bytes) (omega arith)) refl) refl
    (ends (login_heard b).after (refuses WrongPhase (login_heard b).after) None (no_login _ (λ e. (cc e)) (hub_deaf refl)) refl))

seat_heard_lem : (b : Buffers) → Drains SeatReceives (sent_back b) 1 None (rejected b).after
unfolding encode decode
seat_heard_lem b =
    more (sent_back b) (head_back b) 0 1 None (rejected b).after (seat_hears_bytes _ refl (roomier packet_limit 2 response_bytes (omega arith))) refl
    (more (head_back b).after (rejected b) 1 0 None (rejected b).after (seat_hears_bytes _ refl (roomier packet_limit 11 (drop 2 response_bytes) (omega arith))) refl
    (ends (rejected b).after (refuses WrongPhase (rejected b).after) None (seat_deaf refl) refl))

abbrev report : Report
report = record { hub = record { packets = 1; fault = None }; seat = record { packets = 1; fault = None } }

went : (b : Buffers) → NarrowRounds (begun b) report (Some (login_response InvalidNumber 0 0)) (rejected b).after
unfolding encode decode
went b = record { heard = (login_heard b).after; taken = (rejected b).after; hub_drains = hub_heard_lem b; hub_wrote = refl; seat_drains = seat_heard_lem b; seat_sent = refl }

one_round : (b : Buffers) → Long b → GrantedRounds NarrowRules 1 (begun b) (rejected b).after
one_round b l =
    round 0 (begun b) (rejected b).after (record { answer = Answer.Round (Ok report); wrote = Some (login_response InvalidNumber 0 0); after = (rejected b).after }) report
    (rounds report _ (rejected b).after
    (or_from _ _ (long_enough b.hub_frame l.hub) (or_from _ _ (long_enough b.seat_frame l.seat) (long_enough _ (fronted_long packet_limit login_bytes b.out l.out))))
    (went b)) refl (no_round (rejected b).after)

pub refusing_strands : RefusingStrands
unfolding encode decode
refusing_strands promise =
    let e : Level (log_of 1 []) (rejected fresh_buffers).after =
    promise refused_start (rejected fresh_buffers).after (at_first refused_start) Anew
    (set_up_lem [] packet_limit fresh_buffers (omega arith) (omega arith) (omega arith) tt, begins)
    (record { no_fetch = refl; accepted = refl; room = omega arith; places = omega arith })
    (one_round fresh_buffers fresh_long) in
    (cc e.session)
