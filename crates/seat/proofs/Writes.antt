-- A packet that was posted where the room alone decides, and what a send comes to by it.
use Rattle.std.proofs.Common.{◌≡◌, Bool, true, false, cond, Some, None, Option, sym, refl, ap, ◌∙◌}
use Rattle.std.proofs.lemmas.Bool.{cond-true, cond-false}
use Rattle.wire.specs.declared.refusals.Refusal.TheVariants.{LineFull}
use Rattle.packet.specs.Values.{Value, encode, letter}
use Rattle.line.specs.Lines.{fits}
use Rattle.message_log.specs.Meaning.{Meaning}
use Rattle.rules.specs.State.{Pair}
use Rattle.rules.specs.Changes.{grants, refuses, with_seat, seat_writes}
use Rattle.rules.specs.Hub as Hub
use Rattle.rules.specs.Rounds.{too_short}
use Rattle.rules.specs.Seat.{is_apart, seat_due, seat_posts, seat_sends}
use Rattle.seat.specs.declared.dues.DuePacket.{DuePacket}
use Rattle.seat.specs.declared.state.SeatState.{SeatState}
use Rattle.seat.specs.State.{with_state, due_of}
use Rattle.framing.specs.Calling.{unless_short}

-- with the seat's fetch requested, or not
abbrev pub requested_in : Bool → Pair → Pair
requested_in requested s =
    with_seat s (record { phase = s.seat.phase; session = s.seat.session; number = s.seat.number; fetch = s.seat.fetch; requested = requested; in_step = s.seat.in_step; status = s.seat.status; frame = s.seat.frame; unsent = s.seat.unsent; silent = s.seat.silent })

-- what a send comes to where this is due
sends_due : (s then : Pair) (v : Value) → too_short s.buffers.out ≡ false → is_apart s.seat.phase ≡ false → Hub.due v then ≡ seat_due s.seat.phase s →
    unless_short seat_sends s ≡ cond (fits s.up (encode v)) (grants (Some (letter v)) (seat_writes v then)) (refuses LineFull s)
sends_due s then v a b d = cond-false _ _ _ a ∙ cond-false _ _ _ b ∙ ap (λ (x : Hub.Due). seat_posts x.packet x.then s) (sym d)

pub sends_granted : (s then : Pair) (v : Value) → too_short s.buffers.out ≡ false → is_apart s.seat.phase ≡ false → Hub.due v then ≡ seat_due s.seat.phase s → fits s.up (encode v) ≡ true →
    unless_short seat_sends s ≡ grants (Some (letter v)) (seat_writes v then)
sends_granted s then v a b d f = sends_due s then v a b d ∙ cond-true _ _ _ f

pub sends_refused : (s then : Pair) (v : Value) → too_short s.buffers.out ≡ false → is_apart s.seat.phase ≡ false → Hub.due v then ≡ seat_due s.seat.phase s → fits s.up (encode v) ≡ false →
    unless_short seat_sends s ≡ refuses LineFull s
sends_refused s then v a b d f = sends_due s then v a b d ∙ cond-false _ _ _ f

-- nothing is due
pub sends_none : (state : SeatState) (log : Meaning) (s : Pair) (r : Option DuePacket) → ((d : DuePacket) → r ≡ Some d → ⊥) → too_short s.buffers.out ≡ false → is_apart s.seat.phase ≡ false →
    with_state state log s ≡ s → due_of r state log s ≡ seat_due s.seat.phase s → grants None s ≡ unless_short seat_sends s
sends_none state log s None n a b e d =
    sym (cond-false _ _ _ a ∙ cond-false _ _ _ b ∙ ap (λ (x : Hub.Due). seat_posts x.packet x.then s) (sym d) ∙ ap (λ (x : Pair). grants None x) e)
sends_none state log s (Some x) n a b e d = absurd (n x refl)
