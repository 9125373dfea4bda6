-- The run in which half a login response is kept across a connect.
use Rattle.std.proofs.Common.{Bool, ◌≡◌, ℕ, zero, suc, ◌+◌, ◌-◌, ◌*◌, ◌<◌, true, false, List, [], ◌∷◌, ◌++◌, length, get_or, take, drop, replicate, None, Ok, sym, refl, ap, ◌∙◌, subst, arith, length-append, length-drop, length-take, drop-drop, take-add}
use Rattle.std.specs.List.{AllByRecursion as All}
use Rattle.std.proofs.lemmas.Bool.{cond-true, cond-false, lt-ltb, le-ltb}
use Rattle.wire.specs.declared.statuses.Status.TheVariants.{Accepted}
use Rattle.wire.specs.Limits.{packet_limit}
use Rattle.packet.specs.Values.{Value, login_response, sequenced, encode}
use Rattle.packet.specs.Decoding.{part, decode}
use Rattle.line.specs.Lines.{LineView, handed}
use Rattle.message_log.specs.Meaning.{Meaning}
use Rattle.rules.specs.declared.phases.How.{How}
use Rattle.rules.specs.declared.phases.How.TheVariants.{Anew}
use Rattle.rules.specs.declared.phases.HubPhase.{HubPhase}
use Rattle.rules.specs.declared.phases.HubPhase.TheVariants.{Shut, Waiting, Answering, Serving}
use Rattle.rules.specs.declared.phases.SeatPhase.{SeatPhase}
use Rattle.rules.specs.declared.phases.SeatPhase.TheVariants.{Apart, Asking, Live}
use Rattle.rules.specs.declared.answers.Received.TheVariants.{Part}
use Rattle.rules.specs.State.{Buffers, Pair}
use Rattle.rules.specs.Changes.{grants, seat_took}
use Rattle.rules.specs.Frames.{lack, Free, among, placed}
use Rattle.rules.proofs.Frames.{part_placed}
use Rattle.rules.specs.Seat.{seat_letters, seat_judges, seat_hears}
use Rattle.rules.specs.Calls.{login_of, asked}
use Rattle.rules.specs.Rounds.{Call, Connect, SeatReceive, Effect, did, took, Step}
use Rattle.promises.specs.Book.{Message, opened}
use Rattle.promises.specs.Runs.{IsPrefix, World, stepped, begins, at_first}
use Rattle.counterexamples.specs.Setting.{line_of, log_of, hub_at, seat_at, pair_at, fresh_buffers}
use Rattle.counterexamples.specs.Kept.{KeepingRules, as_ruled, keeps, keeping_connect, forged, carrier, kept_messages, kept_start, KeptFrameMisleads}
use Rattle.counterexamples.proofs.Walks.{fresh_long, roomier, Reached, hub_takes_lem, seat_takes_lem, hub_writes_lem, writes, seat_got}
use Rattle.counterexamples.proofs.Starts.{Fair, fair, nothing_fair, set_up_lem}

abbrev Here : (Buffers → World) → Type 0
Here f = Reached KeepingRules (at_first kept_start) f

-- the hub, and of the seat its phase, the number it asked for, its frame and its log; then the two lines
abbrev at : HubPhase → List ℕ → SeatPhase → ℕ → List ℕ → Meaning → List ℕ → List ℕ → Buffers → World
at hub hub_frame seat number frame held up down b =
    record { pair = pair_at kept_messages (hub_at hub hub_frame) (seat_at seat number false frame) held up 8 down b; book = opened (log_of 1 kept_messages); note = None }

abbrev login : Value
login = login_of (asked Anew kept_start)

abbrev response : Value
response = login_response Accepted 1 84

ruled : (s : Pair) (c : Call) (d : Effect) → ((how : How) → c ≡ Connect how → ⊥) → Step s c d → KeepingRules s c d
ruled s c d other x = as_ruled c d other x

start : Here (at Shut [] Apart 0 [] (log_of 0 []) [] [])
start = record { buffers = fresh_buffers; long = fresh_long; run = begins }

connected : Here (at Waiting [] Asking 1 [] (log_of 0 []) (encode login) [])
unfolding encode
connected =
    writes ruled _ _ (Connect Anew) (λ b. did (keeping_connect Anew (at Shut [] Apart 0 [] (log_of 0 []) [] [] b).pair)) login
    (λ b. refl) (λ b e. keeps Anew e) (λ b. refl) start

-- whatever the seat's frame holds, the hub takes the login and answers it
answered : (frame : List ℕ) → Here (at Waiting [] Asking 1 frame (log_of 0 []) (encode login) []) → Here (at (Serving 1 1 true) [] Asking 1 frame (log_of 0 []) [] (encode response))
unfolding encode decode
answered frame connected =
    let head_in : Here (at Waiting (take 2 (encode login)) Asking 1 frame (log_of 0 []) (drop 2 (encode login)) []) =
    hub_takes_lem ruled _ _ _ [] (take 2 (encode login)) (λ b. refl) (λ b. refl) (λ b. roomier packet_limit 2 (encode login) (omega arith)) (λ b. refl) connected in
    let logged_in : Here (at (Answering 1) [] Asking 1 frame (log_of 0 []) [] []) =
    hub_takes_lem ruled _ _ _ (take 2 (encode login)) (drop 2 (encode login)) (λ b. refl) (λ b. refl) (λ b. roomier packet_limit 36 (drop 2 (encode login)) (omega arith)) (λ b. refl) head_in in
    hub_writes_lem ruled _ _ response (λ b. refl) (λ b. refl) logged_in

-- the seat takes two bytes, and eight, before the connection breaks
abbrev torn : List ℕ
torn = take 10 (encode response)

head_torn : Here (at (Serving 1 1 true) [] Asking 1 (take 2 torn) (log_of 0 []) [] (drop 2 (encode response)))
unfolding encode decode
head_torn = seat_takes_lem ruled _ _ _ [] (take 2 torn) (λ b. refl) (λ b. refl) (λ b. roomier 8 2 (encode response) (omega arith)) (λ b. refl) (answered [] connected)

half_torn : Here (at (Serving 1 1 true) [] Asking 1 torn (log_of 0 []) [] (drop 10 (encode response)))
unfolding encode decode
half_torn = seat_takes_lem ruled _ _ _ (take 2 torn) (drop 2 torn) (λ b. refl) (λ b. refl) (λ b. roomier 8 11 (drop 2 (encode response)) (omega arith)) (λ b. refl) head_torn

reconnected : Here (at Waiting [] Asking 1 torn (log_of 0 []) (encode login) [])
unfolding encode
reconnected =
    writes ruled _ _ (Connect Anew) (λ b. did (keeping_connect Anew (at (Serving 1 1 true) [] Asking 1 torn (log_of 0 []) [] (drop 10 (encode response)) b).pair)) login
    (λ b. refl) (λ b e. keeps Anew e) (λ b. refl) half_torn

served : Here (at (Serving 1 2 true) [] Asking 1 torn (log_of 0 []) [] (encode response ++ encode (sequenced 1 carrier)))
unfolding encode
served = hub_writes_lem ruled _ _ (sequenced 1 carrier) (λ b. refl) (λ b. refl) (answered torn reconnected)

-- the old response is whole: the seat is live in session 1, and goes on amid the new response
abbrev live : List ℕ → Meaning → List ℕ → Buffers → World
live frame held down = at (Serving 1 2 true) [] Live 1 frame held [] down

abbrev stream : List ℕ
stream = drop 3 (encode response) ++ encode (sequenced 1 carrier)

misread : Here (live [] (log_of 1 []) stream)
unfolding encode decode
misread =
    seat_takes_lem ruled _ _ _ torn (take 3 (encode response)) (λ b. refl) (λ b. refl) (λ b. roomier 8 3 (encode response ++ encode (sequenced 1 carrier)) (omega arith)) (λ b. refl) served

abbrev tail : List ℕ
tail = drop 2 stream

-- the head of the test that the seat believes to see
test_head : Here (live (0x20 ∷ 0x01 ∷ []) (log_of 1 []) tail)
unfolding encode decode
test_head = seat_takes_lem ruled _ _ _ [] (0x20 ∷ 0x01 ∷ []) (λ b. refl) (λ b. refl) (λ b. roomier 8 2 stream (omega arith)) (λ b. refl) misread

-- what the seat does with bytes that leave a packet open
heard_part : (s : Pair) (got : List ℕ) (down : LineView) → 0 < length got → decode (s.seat.frame ++ got) ≡ Ok part → seat_hears got down s ≡ grants Part (seat_took got (s.seat.frame ++ got) down s)
heard_part s [] down h e = absurd (omega arith)
heard_part s (x ∷ xs) down h e =
    let frame : List ℕ = s.seat.frame ++ (x ∷ xs) in
    let here : Bool = among (seat_letters s.seat.phase s.seat.fetch) (get_or frame 2 0) in
    ap (λ r. seat_judges r (x ∷ xs) frame down s) (ap (placed here) e ∙ part_placed here)

test_open : (xs : List ℕ) → length xs < 288 → decode (0x20 ∷ 0x01 ∷ xs) ≡ Ok part
unfolding decode
test_open xs h = cond-false _ _ _ (le-ltb (length (0x20 ∷ 0x01 ∷ xs)) 2 (omega arith)) ∙ cond-true _ _ _ (lt-ltb (length (0x20 ∷ 0x01 ∷ xs)) 290 (omega arith))

module _ (rest : List ℕ) (long : length rest ≡ 300) where
  -- k bytes of it are in behind the head
  abbrev into : ℕ → Type 0
  into k = Here (live (0x20 ∷ 0x01 ∷ take k rest) (log_of 1 []) (drop k rest))

  -- the next eight
  eight_more : (k : ℕ) → k + 8 < 288 → into k → into (k + 8)
  eight_more k h r =
      let frame : List ℕ = 0x20 ∷ 0x01 ∷ take k rest in
      let got : List ℕ = take 8 (drop k rest) in
      let a : length (take k rest) ≡ k = length-take k rest ∙ omega arith in
      let d : length (drop k rest) ≡ 300 - k = length-drop k rest ∙ omega arith in
      let g : length got ≡ 8 = length-take 8 (drop k rest) ∙ omega arith in
      let l : lack frame ≡ 288 - k = cond-false _ _ _ (le-ltb (length frame) 2 (omega arith)) ∙ omega arith in
      let n : handed (line_of 8 (drop k rest)) (lack frame) ≡ 8 = omega arith in
      let room : ℕ = packet_limit - length (drop 8 (drop k rest)) in
      let free : Free (line_of 8 (drop k rest)) (lack frame) room =
      subst (λ m. Free (line_of 8 (drop k rest)) (lack frame) (packet_limit - length (drop m (drop k rest)))) n (roomier 8 (lack frame) (drop k rest) (omega arith)) in
      let unread : decode (frame ++ got) ≡ Ok part = test_open (take k rest ++ got) (omega (arith, length-append (take k rest) got)) in
      seat_takes_lem ruled (live frame (log_of 1 []) (drop k rest)) (live (0x20 ∷ 0x01 ∷ take (k + 8) rest) (log_of 1 []) (drop (k + 8) rest)) room frame got (λ b. refl) (λ b. refl) (λ b. free)
      (λ b.
      let w : World = live frame (log_of 1 []) (drop k rest) b in
      ap (λ m. stepped w SeatReceive (took (seat_hears (take m (drop k rest)) (record { waiting = drop m (drop k rest); room = room; full = packet_limit; limit = 8 }) w.pair))) n
      ∙ ap (λ o. stepped w SeatReceive (took o)) (heard_part w.pair got (line_of 8 (drop 8 (drop k rest))) (omega arith) unread)
      ∙ ap (λ (x : List ℕ). live (0x20 ∷ 0x01 ∷ x) (log_of 1 []) (drop 8 (drop k rest)) (seat_got frame got b)) (sym (take-add k 8 rest))
      ∙ ap (λ (x : List ℕ). live (0x20 ∷ 0x01 ∷ take (k + 8) rest) (log_of 1 []) x (seat_got frame got b)) (drop-drop 8 k rest))
      r

  swallows : (n : ℕ) → n < 36 → into 0 → into (8 * n)
  swallows zero h r = r
  swallows (suc n) h r = subst into (omega arith) (eight_more (8 * n) (omega arith) (swallows n (omega arith) r))

test_swallows : Here (live (0x20 ∷ 0x01 ∷ take 280 tail) (log_of 1 []) (drop 280 tail))
unfolding encode
test_swallows = swallows tail refl 35 (omega arith) test_head

test_in : Here (live [] (log_of 1 []) (encode (sequenced 1 forged)))
unfolding encode decode
test_in = seat_takes_lem ruled _ _ _ (0x20 ∷ 0x01 ∷ take 280 tail) (take 8 (drop 280 tail)) (λ b. refl) (λ b. refl) (λ b. roomier 8 8 (drop 280 tail) (omega arith)) (λ b. refl) test_swallows

-- what the first message carried is taken for a packet
abbrev false_packet : List ℕ
false_packet = encode (sequenced 1 forged)

forged_head : Here (live (take 2 false_packet) (log_of 1 []) (drop 2 false_packet))
unfolding encode decode
forged_head = seat_takes_lem ruled _ _ _ [] (take 2 false_packet) (λ b. refl) (λ b. refl) (λ b. roomier 8 2 false_packet (omega arith)) (λ b. refl) test_in

forged_half : Here (live (take 10 false_packet) (log_of 1 []) (drop 10 false_packet))
unfolding encode decode
forged_half = seat_takes_lem ruled _ _ _ (take 2 false_packet) (take 8 (drop 2 false_packet)) (λ b. refl) (λ b. refl) (λ b. roomier 8 10 (drop 2 false_packet) (omega arith)) (λ b. refl) forged_head

forged_in : Here (live [] (log_of 1 (forged ∷ [])) [])
unfolding encode decode
forged_in = seat_takes_lem ruled _ _ _ (take 10 false_packet) (drop 10 false_packet) (λ b. refl) (λ b. refl) (λ b. roomier 8 2 (drop 10 false_packet) (omega arith)) (λ b. refl) forged_half

-- the first message published is another
not_published : IsPrefix (forged ∷ []) kept_messages → ⊥
unfolding encode
not_published h = let e : ◌≡◌ {A = ℕ} 281 1 = ap (λ (ms : List Message). length (get_or ms 0 [])) h.1 in omega arith

all_fair : (n : ℕ) → All Fair (replicate n [])
all_fair zero = tt
all_fair (suc n) = (nothing_fair, all_fair n)

carrier_fair : Fair carrier
unfolding encode
carrier_fair = fair carrier (omega arith) refl

pub kept_frame_misleads : KeptFrameMisleads
unfolding encode
kept_frame_misleads promise =
    not_published
    (promise kept_start (live [] (log_of 1 (forged ∷ [])) [] forged_in.buffers)
    (set_up_lem kept_messages 8 fresh_buffers (omega arith) (omega arith) (omega arith) (carrier_fair, all_fair 83), forged_in.run))
