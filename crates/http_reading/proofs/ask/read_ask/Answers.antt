use Rattle.std.proofs.Common.{ap, Err, length, ◌∙◌}
use Rattle.http_intake.specs.Heads.{head_window}
use Rattle.http_reading.proofs.AskLemmas.{head_read, head_stops, fault_made, few_read}
use Rattle.http_reading.proofs.ask.read_ask.Goals as goal

pub returns-in-Ok : goal.returns-in-Ok
returns-in-Ok g c =
    let taken = rw c.new-intake.ensures at c.in-Ok.ensures.taken in
    let says = rw (c.window.ensures.value, c.as_slice.ensures) at c.judge.ensures.says in
    head_read (g.R.Read.remaining c.args.reader.now) (g.R.Read.remaining c.read_request_head.new.reader) c.read_request_head.new.self
    c.read_request_head.new.headers c.in-Ok.head c.judge.result
    taken c.in-Ok.ensures.few (few_read c.new-intake.result c.read_request_head.new.self c.new-intake.ensures c.in-Ok.ensures.no_more)
    (c.read_request_head.auto.headers ∙ ap length c.as_mut_slice.ensures.value) c.in-Ok.ensures.head says c.judge.ensures.faults

pub returns : goal.returns
returns g c =
    let taken = rw c.new-intake.ensures at c.in-Err.ensures.taken in
    let held = c.read_request_head.new.self in
    let told = rw c.window-in-Err.ensures.value at c.fault_in.ensures in
    rw told (record {
      held = held;
      taken = taken;
      few = few_read c.new-intake.result held c.new-intake.ensures c.in-Err.ensures.no_more;
      made = fault_made (head_window 0 held.octets) c.in-Err.fault held.calls c.in-Err.ensures.last;
      outcome = head_stops (g.R.Read.remaining c.read_request_head.new.reader) held c.in-Err.fault c.in-Err.ensures.faults
          (λ e. c.in-Err.ensures.bad (ap Err e)) (λ e. c.in-Err.ensures.long (ap Err e)) c.in-Err.ensures.open (λ e. c.in-Err.ensures.ended (ap Err e))
          (λ e. c.in-Err.ensures.spent (ap Err e));
    })
