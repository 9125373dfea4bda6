-- The run in which synchronization complete is written too early.
use Rattle.std.proofs.Common.{◌≡◌, ℕ, Bool, true, false, List, [], ◌∷◌, ◌++◌, length, take, drop, Some, None, Option, sym, refl, ap, arith, length-append}
use Rattle.wire.specs.declared.statuses.Status.TheVariants.{Accepted}
use Rattle.wire.specs.Limits.{packet_limit}
use Rattle.packet.specs.Values.{Value, login_response, sequenced, synchronization_complete, encode}
use Rattle.packet.specs.Decoding.{decode}
use Rattle.message_log.specs.Meaning.{Meaning}
use Rattle.rules.specs.declared.phases.How.{How}
use Rattle.rules.specs.declared.phases.How.TheVariants.{Anew}
use Rattle.rules.specs.declared.phases.HubPhase.{HubPhase}
use Rattle.rules.specs.declared.phases.HubPhase.TheVariants.{Shut, Waiting, Answering, Serving}
use Rattle.rules.specs.declared.phases.SeatPhase.{SeatPhase}
use Rattle.rules.specs.declared.phases.SeatPhase.TheVariants.{Apart, Asking, Live}
use Rattle.rules.specs.State.{Buffers, Pair}
use Rattle.rules.specs.Calls.{login_of, asked, connect}
use Rattle.rules.specs.Rounds.{Call, Connect, HubSend, Effect, did, Step, connects, sent}
use Rattle.promises.specs.Book.{Book, opened, added}
use Rattle.promises.specs.Runs.{World, Note, begins, at_first, as_of}
use Rattle.promises.specs.Promises.{Holds}
use Rattle.counterexamples.specs.Setting.{log_of, hub_at, seat_at, pair_at, fresh_buffers}
use Rattle.counterexamples.specs.Early.{EarlyRules, as_ruled, early, completes, first, second, early_start, EarlyCompleteLies}
use Rattle.counterexamples.proofs.Walks.{fresh_long, roomier, Reached, hub_takes_lem, seat_takes_lem, hub_writes_lem, hub_publishes, writes}
use Rattle.counterexamples.proofs.Starts.{fair, set_up_lem}

abbrev Here : (Buffers → World) → Type 0
Here f = Reached (EarlyRules 1) (at_first early_start) f

abbrev book : Book
book = opened (log_of 1 (first ∷ []))

-- before the second message is published; the seat has done nothing but ask
abbrev before : HubPhase → List ℕ → SeatPhase → ℕ → List ℕ → List ℕ → Buffers → World
before hub frame seat number up down b =
    record { pair = pair_at (first ∷ []) (hub_at hub frame) (seat_at seat number false []) (log_of 0 []) up packet_limit down b; book = book; note = None }

abbrev login : Value
login = login_of (asked Anew early_start)

abbrev response : Value
response = login_response Accepted 1 1

ruled : (s : Pair) (c : Call) (d : Effect) → ((how : How) → c ≡ Connect how → ⊥) → Step s c d → EarlyRules 1 s c d
ruled s c d other x = as_ruled c d x

start : Here (before Shut [] Apart 0 [] [])
start = record { buffers = fresh_buffers; long = fresh_long; run = begins }

connected : Here (before Waiting [] Asking 1 (encode login) [])
unfolding encode
connected =
    writes ruled _ _ (Connect Anew) (λ b. did (connect Anew (before Shut [] Apart 0 [] [] b).pair)) login (λ b. refl) (λ b e. as_ruled _ _ (connects Anew e)) (λ b. refl) start

head_in : Here (before Waiting (take 2 (encode login)) Asking 1 (drop 2 (encode login)) [])
unfolding encode decode
head_in = hub_takes_lem ruled _ _ _ [] (take 2 (encode login)) (λ b. refl) (λ b. refl) (λ b. roomier packet_limit 2 (encode login) (omega arith)) (λ b. refl) connected

logged_in : Here (before (Answering 1) [] Asking 1 [] [])
unfolding encode decode
logged_in = hub_takes_lem ruled _ _ _ (take 2 (encode login)) (drop 2 (encode login)) (λ b. refl) (λ b. refl) (λ b. roomier packet_limit 36 (drop 2 (encode login)) (omega arith)) (λ b. refl) head_in

answered : Here (before (Serving 1 1 true) [] Asking 1 [] (encode response))
unfolding encode
answered = hub_writes_lem ruled _ _ response (λ b. refl) (λ b. refl) logged_in

-- the first message is on its way
served : Here (before (Serving 1 2 true) [] Asking 1 [] (encode response ++ encode (sequenced 1 first)))
unfolding encode
served = hub_writes_lem ruled _ _ (sequenced 1 first) (λ b. refl) (λ b. refl) answered

-- from then on the hub holds two messages, and the note of what the seat is told may be there
abbrev after : Bool → SeatPhase → Bool → List ℕ → Meaning → List ℕ → Option Note → Buffers → World
after owed seat in_step frame held down note b =
    record { pair = pair_at (first ∷ second ∷ []) (hub_at (Serving 1 2 owed) []) (seat_at seat 1 in_step frame) held [] packet_limit down b; book = added book second; note = note }

published : Here (after true Asking false [] (log_of 0 []) (encode response ++ encode (sequenced 1 first)) None)
unfolding encode
published = hub_publishes ruled _ _ second (λ b. refl) served

-- the note has two messages, and the third packet tells the seat that it holds them
abbrev the_note : Option Note
the_note = Some (as_of (added book second))

abbrev complete : List ℕ
complete = encode synchronization_complete

abbrev stream : List ℕ
stream = encode response ++ (encode (sequenced 1 first) ++ complete)

completed : Here (after false Asking false [] (log_of 0 []) stream the_note)
unfolding encode
completed =
    writes ruled _ _ HubSend (λ b. sent (completes 1 2 (after true Asking false [] (log_of 0 []) (encode response ++ encode (sequenced 1 first)) None b).pair))
    synchronization_complete (λ b. refl) (λ b e. early 1 e refl refl) (λ b. refl) published

-- the seat takes the three packets, each by its head and its rest
response_head : Here (after false Asking false (take 2 stream) (log_of 0 []) (drop 2 stream) the_note)
unfolding encode decode
response_head = seat_takes_lem ruled _ _ _ [] (take 2 stream) (λ b. refl) (λ b. refl) (λ b. roomier packet_limit 2 stream (omega arith)) (λ b. refl) completed

response_in : Here (after false Live false [] (log_of 1 []) (encode (sequenced 1 first) ++ complete) the_note)
unfolding encode decode
response_in = seat_takes_lem ruled _ _ _ (take 2 stream) (take 11 (drop 2 stream)) (λ b. refl) (λ b. refl) (λ b. roomier packet_limit 11 (drop 2 stream) (omega arith)) (λ b. refl) response_head

first_head : Here (after false Live false (take 2 (encode (sequenced 1 first))) (log_of 1 []) (drop 2 (encode (sequenced 1 first)) ++ complete) the_note)
unfolding encode decode
first_head = seat_takes_lem ruled _ _ _ [] (take 2 (encode (sequenced 1 first))) (λ b. refl) (λ b. refl) (λ b. roomier packet_limit 2 (encode (sequenced 1 first) ++ complete) (omega arith)) (λ b. refl) response_in

first_in : Here (after false Live false [] (log_of 1 (first ∷ [])) complete the_note)
unfolding encode decode
first_in =
    seat_takes_lem ruled _ _ _ (take 2 (encode (sequenced 1 first))) (drop 2 (encode (sequenced 1 first))) (λ b. refl) (λ b. refl)
    (λ b. roomier packet_limit 10 (drop 2 (encode (sequenced 1 first)) ++ complete) (omega arith)) (λ b. refl) first_head

complete_head : Here (after false Live false (take 2 complete) (log_of 1 (first ∷ [])) (drop 2 complete) the_note)
unfolding encode decode
complete_head = seat_takes_lem ruled _ _ _ [] (take 2 complete) (λ b. refl) (λ b. refl) (λ b. roomier packet_limit 2 complete (omega arith)) (λ b. refl) first_in

complete_in : Here (after false Live true [] (log_of 1 (first ∷ [])) [] the_note)
unfolding encode decode
complete_in = seat_takes_lem ruled _ _ _ (take 2 complete) (drop 2 complete) (λ b. refl) (λ b. refl) (λ b. roomier packet_limit 1 (drop 2 complete) (omega arith)) (λ b. refl) complete_head

-- two messages do not begin one
not_both : Holds the_note (log_of 1 (first ∷ [])) → ⊥
not_both h =
    let is : as_of (added book second) ≡ h.note = cc h.is in
    let all : first ∷ [] ≡ h.note.messages ++ h.all.0 = h.all.1 in
    let n : length h.note.messages ≡ 2 = ap (λ (x : Note). length x.messages) (sym is) in
    omega (arith, ap length all, length-append h.note.messages h.all.0)

pub early_complete_lies : EarlyCompleteLies
early_complete_lies promise =
    let w : World = after false Live true [] (log_of 1 (first ∷ [])) [] the_note complete_in.buffers in
    not_both (promise early_start w (set_up_lem (first ∷ []) packet_limit fresh_buffers (omega arith) (omega arith) (omega arith) (fair first (omega arith) refl, tt), complete_in.run) refl)
