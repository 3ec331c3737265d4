-- Another tag in the place of each tag: in copies, reads, states, events and replies. Each function
-- here applies f to every tag and changes nothing else.
use Rattle.std.specs.Prelude.{map, option_map, Result, Ok, Err}
use Rattle.object_store.specs.declared.copy.WebCopy.{WebCopy}
use Rattle.node_rules.specs.declared.state.Fetch.{Fetch}
use Rattle.node_rules.specs.declared.state.Fetch.TheVariants.{Nowhere, AtPeer, AtOrigin}
use Rattle.node_rules.specs.declared.state.Pending.{Pending}
use Rattle.node_rules.specs.declared.state.NodeState.{NodeState}
use Rattle.node_rules.specs.declared.event.Event.{Event}
use Rattle.node_rules.specs.declared.event.Event.TheVariants as event
use Rattle.node_rules.specs.declared.reply.Served.{Served}
use Rattle.node_rules.specs.declared.reply.Served.TheVariants.{Copy, Status}
use Rattle.node_rules.specs.declared.reply.Serve.{Serve}
use Rattle.node_rules.specs.declared.reply.Reply.{Reply}
use Rattle.node_rules.specs.declared.reply.StepFault.{StepFault}
use Rattle.node_rules.specs.State.{Stepped}

module _ {X Y : Type 0} (f : X → Y) where
  abbrev pub retag_copy : WebCopy X → WebCopy Y
  retag_copy c = record {
    key = c.key;
    stamp = c.stamp;
    asked = c.asked;
    lifetime = c.lifetime;
    answer = c.answer;
    tag =
        f c.tag;
  }

  abbrev pub retag_fetch : Fetch X → Fetch Y
  retag_fetch Nowhere = Nowhere
  retag_fetch (AtPeer peer asked) = AtPeer peer asked
  retag_fetch (AtOrigin stamp asked mark) = AtOrigin stamp asked (f mark)

  abbrev pub retag_pending : Pending X → Pending Y
  retag_pending p = record {
    block = p.block;
    asker = p.asker;
    ask = p.ask;
    round = p.round;
    tried = p.tried;
    fetches =
        p.fetches;
    reads = p.reads;
    fetch = retag_fetch p.fetch;
  }

  abbrev pub retag_state : NodeState X → NodeState Y
  retag_state s = record {
    floors = s.floors;
    copies = map retag_copy s.copies;
    pending = map retag_pending s.pending;
    next = s.next;
    closed = s.closed;
  }

  abbrev pub retag_event : Event X → Event Y
  retag_event (event.Client ask now) = event.Client ask now
  retag_event (event.Datagram from message now) = event.Datagram from message now
  retag_event (event.PeerAsk asker ask now) = event.PeerAsk asker ask now
  retag_event (event.PeerAnswer serial peer key answer tag now) = event.PeerAnswer serial peer key answer (f tag) now
  retag_event (event.OriginAnswer serial key answer now) = event.OriginAnswer serial key answer now
  retag_event (event.ForeignAnswer serial peer key answer tag now) =
      event.ForeignAnswer serial peer key answer (f tag) now
  retag_event (event.FetchFailed serial now) = event.FetchFailed serial now
  retag_event (event.Expired serial now) = event.Expired serial now

  abbrev pub retag_served : Served X → Served Y
  retag_served (Copy c age) = Copy (retag_copy c) age
  retag_served (Status status) = Status status

  abbrev pub retag_serve : Serve X → Serve Y
  retag_serve serve = record { waiter = serve.waiter; asker = serve.asker; served = retag_served serve.served }

  abbrev pub retag_reply : Reply X → Reply Y
  retag_reply reply = record { serve = option_map retag_serve reply.serve; send = reply.send; begin = reply.begin }

  abbrev pub retag_outcome : Result (Reply X) StepFault → Result (Reply Y) StepFault
  retag_outcome (Ok reply) = Ok (retag_reply reply)
  retag_outcome (Err fault) = Err fault

  abbrev pub retag_stepped : Stepped X → Stepped Y
  retag_stepped r = record { state = retag_state r.state; outcome = retag_outcome r.outcome }
