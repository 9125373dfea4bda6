use Rattle.std.proofs.Common.{None, ap}
use Rattle.relay.specs.Calls.{call_of}
use Rattle.relay.proofs.Keeping.{performed}
use Rattle.relay.proofs.performing.perform.Goals as goal

pub returns-in-Connect : goal.returns-in-Connect
returns-in-Connect g c = performed (ap call_of c.in-Connect.is) None (c.connect.ensures _)

pub returns-in-Cut : goal.returns-in-Cut
returns-in-Cut g c = performed (ap call_of c.in-Cut.is) None (c.cut.ensures _ _ _)

pub returns-in-Publish : goal.returns-in-Publish
returns-in-Publish g c = performed (ap call_of c.in-Publish.is) None (c.publish.ensures _ _ _ _)

pub returns-in-Finish : goal.returns-in-Finish
returns-in-Finish g c = performed (ap call_of c.in-Finish.is) None (c.finish.ensures _ _ _ _ _)

pub returns-in-Roll : goal.returns-in-Roll
returns-in-Roll g c = performed (ap call_of c.in-Roll.is) None (c.roll.ensures _ _ _ _)

pub returns-in-Tell : goal.returns-in-Tell
returns-in-Tell g c = performed (ap call_of c.in-Tell.is) None (c.tell.ensures _ _ _)

pub returns-in-Say : goal.returns-in-Say
returns-in-Say g c = performed (ap call_of c.in-Say.is) None (c.say.ensures _ _ _)

pub returns-in-Leave : goal.returns-in-Leave
returns-in-Leave g c = performed (ap call_of c.in-Leave.is) None (c.leave.ensures _ _ _)

pub returns-in-HubReceive : goal.returns-in-HubReceive
returns-in-HubReceive g c = performed (ap call_of c.in-HubReceive.is) None (c.hub_receive.ensures _)

pub returns-in-SeatReceive : goal.returns-in-SeatReceive
returns-in-SeatReceive g c = performed (ap call_of c.in-SeatReceive.is) None (c.seat_receive.ensures _)

pub returns-in-HubSend : goal.returns-in-HubSend
returns-in-HubSend g c = let s = c.hub_send.ensures (g.S.Log.view c.args.seat_log.now) (g.U.Line.view c.args.up.now) in performed (ap call_of c.in-HubSend.is) s.0 s.1

pub returns-in-SeatSend : goal.returns-in-SeatSend
returns-in-SeatSend g c = performed (ap call_of c.in-SeatSend.is) None (c.seat_send.ensures _ _)

pub returns-in-Tick : goal.returns-in-Tick
returns-in-Tick g c = performed (ap call_of c.in-Tick.is) None (c.tick.ensures _ _ _)

pub returns-in-Round : goal.returns-in-Round
returns-in-Round g c = performed (ap call_of c.in-Round.is) c.round.ensures.0 c.round.ensures.1
