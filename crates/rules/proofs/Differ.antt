-- Two rounds from one pair that differ in more than rooms.
use Rattle.std.proofs.Common.{◌≡◌, false, [], ◌∷◌, length, None, refl, ap, arith}
use Rattle.wire.specs.Limits.{packet_limit}
use Rattle.packet.specs.Values.{encode}
use Rattle.packet.specs.Decoding.{decode}
use Rattle.rules.specs.declared.phases.HubPhase.TheVariants.{Serving}
use Rattle.rules.specs.declared.phases.SeatPhase.TheVariants.{Live}
use Rattle.rules.specs.State.{Pair}
use Rattle.rules.specs.Changes.{with_up, with_seat}
use Rattle.rules.specs.Rounds.{hub_deaf, hub_hears_bytes, seat_hears_bytes, ends, more, Round, Effect, Step, rounds}
use Rattle.rules.specs.Roomiest.{roomiest}
use Rattle.rules.specs.Laws.{Lined, RoundsDiffer}
use Rattle.rules.specs.Examples.{pair, log, seat_in}
use Rattle.rules.proofs.Total.{total}

-- A logout and a byte more wait for the hub on a line with no room; the seat owes a heartbeat. The hub takes the
-- logout and no more, so the line may still have no room, or all.
abbrev tight : Pair
tight =
    with_seat
    (with_up (pair (Serving 1 3 false) Live (log 7 [])) (record { waiting = 0x02 ∷ 0x00 ∷ 0x58 ∷ 0x20 ∷ 0x01 ∷ []; room = 0; full = packet_limit; limit = packet_limit }))
    (record (seat_in Live) { unsent = 11 })

tight_lined : Lined tight
tight_lined =
    record {
      up = record { sound = record { empty = λ e. (cc); within = omega arith; size = (omega arith, omega arith); some = omega arith }; within = omega arith };
      down = record { sound = record { empty = λ e. refl; within = omega arith; size = (omega arith, omega arith); some = omega arith }; within = omega arith };
    }

-- the takes leave no room
stingy : (d : Effect) × Step tight Round d × (length d.after.up.waiting ≡ 1)
unfolding encode decode
stingy = (
  _,
  rounds _ _ _ refl (record {
    heard = _;
    taken = _;
    hub_drains =
        more tight _ 0 _ _ _ (hub_hears_bytes 0 refl (record { grows = omega arith; within = omega arith; empty = λ e. (cc) })) refl
        (more _ _ 1 _ _ _ (hub_hears_bytes 0 refl (record { grows = omega arith; within = omega arith; empty = λ e. (cc) })) refl
        (ends _ _ None (hub_deaf refl) refl));
    hub_wrote = refl;
    seat_drains = ends _ _ None (seat_hears_bytes packet_limit refl (record { grows = omega arith; within = omega arith; empty = λ e. refl })) refl;
    seat_sent = refl;
  }),
  refl,
)

roomy : length (roomiest Round tight).after.up.waiting ≡ 4
unfolding encode decode
roomy = refl

pub rounds_differ : RoundsDiffer
rounds_differ = (
  tight,
  tight_lined,
  stingy.0,
  stingy.1,
  roomiest Round tight,
  total tight Round tight_lined,
  λ a. absurd (omega (arith, stingy.2, roomy, ap (λ (s : Pair). length s.up.waiting) a.after)),
)
