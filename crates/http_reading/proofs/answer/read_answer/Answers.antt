-- The loop holds that the octets up to `start` are interim heads. A head has at least one octet,
-- so the loop ends; a final head leads to the body, and a fault, or too many octets of interim
-- heads, to the reason why reading stopped.
use Rattle.std.proofs.Common.{length, ◌+◌, ap, sym, ◌∙◌, arith, Err}
use Rattle.http_intake.specs.Reading.{nothing_held}
use Rattle.http_intake.specs.Heads.{head_window}
use Rattle.http_reading.proofs.AnswerLemmas.{passes_taken, one_more, some_octets, head_stops, too_many, takes_then, read_on}
use Rattle.http_reading.proofs.answer.read_answer.Goals as goal

pub heads-smaller : goal.heads-smaller
heads-smaller g c =
    let some = some_octets (head_window c.heads.start c.read_response_head.new.self.octets) c.read_response_head.new.headers c.in-Ok.head
    c.in-Ok.ensures.head in
    omega (arith, some, c.in-Ok.ensures.inside, c.in-Ok.ensures.short)

pub heads-preserved : goal.heads-preserved
heads-preserved g c =
    let first = g.R.Read.remaining c.args.reader.now in
    let before = g.R.Read.remaining c.heads.reader in
    let after = g.R.Read.remaining c.read_response_head.new.reader in
    let new = c.read_response_head.new.self in
    let room = c.read_response_head.auto.headers ∙ ap length c.as_mut_slice.ensures.value ∙ c.heads.invariant.room in
    record {
      passes = one_more new.octets c.heads.start c.read_response_head.new.headers c.in-Ok.head room c.in-Ok.ensures.head c.in-Ok.ensures.inside
          (sym c.is_interim.ensures ∙ c.if-is_interim.true)
          (passes_taken before after c.heads.intake new c.heads.start c.in-Ok.ensures.taken c.heads.invariant.passes);
      few = c.if-start-gt-MOST_INTERIM.false;
      taken = takes_then nothing_held c.heads.intake new first before after c.heads.invariant.taken c.in-Ok.ensures.taken;
      room = room;
    }

pub returns-then-start-gt-MOST_INTERIM : goal.returns-then-start-gt-MOST_INTERIM
returns-then-start-gt-MOST_INTERIM g c =
    let first = g.R.Read.remaining c.args.reader.now in
    let before = g.R.Read.remaining c.heads.reader in
    let after = g.R.Read.remaining c.read_response_head.new.reader in
    let new = c.read_response_head.new.self in
    let room = c.read_response_head.auto.headers ∙ ap length c.as_mut_slice.ensures.value ∙ c.heads.invariant.room in
    too_many first after nothing_held new (c.heads.start + c.in-Ok.head.len)
    (takes_then nothing_held c.heads.intake new first before after c.heads.invariant.taken c.in-Ok.ensures.taken)
    c.in-Ok.ensures.few
    (one_more new.octets c.heads.start c.read_response_head.new.headers c.in-Ok.head room c.in-Ok.ensures.head c.in-Ok.ensures.inside
    (sym c.is_interim.ensures ∙ c.if-is_interim.true)
    (passes_taken before after c.heads.intake new c.heads.start c.in-Ok.ensures.taken c.heads.invariant.passes))
    c.if-start-gt-MOST_INTERIM.true

pub returns-in-Ok-2 : goal.returns-in-Ok-2
returns-in-Ok-2 g c =
    let first = g.R.Read.remaining c.args.reader.now in
    let before = g.R.Read.remaining c.heads.reader in
    let after = g.R.Read.remaining c.read_response_head.new.reader in
    let new = c.read_response_head.new.self in
    read_on first after (g.R.Read.remaining c.read_final.new.reader) nothing_held new c.read_final.result
    (takes_then nothing_held c.heads.intake new first before after c.heads.invariant.taken c.in-Ok.ensures.taken)
    (c.read_final.ensures (passes_taken before after c.heads.intake new c.heads.start c.in-Ok.ensures.taken c.heads.invariant.passes))

pub returns-in-Err : goal.returns-in-Err
returns-in-Err g c =
    let first = g.R.Read.remaining c.args.reader.now in
    let before = g.R.Read.remaining c.heads.reader in
    let after = g.R.Read.remaining c.read_response_head.new.reader in
    let new = c.read_response_head.new.self in
    head_stops first after nothing_held new c.heads.start c.in-Err.fault
    (takes_then nothing_held c.heads.intake new first before after c.heads.invariant.taken c.in-Err.ensures.taken)
    c.in-Err.ensures.last
    (passes_taken before after c.heads.intake new c.heads.start c.in-Err.ensures.taken c.heads.invariant.passes)
    c.heads.invariant.few c.in-Err.ensures.faults (λ e. c.in-Err.ensures.bad (ap Err e)) (λ e. c.in-Err.ensures.long (ap Err e)) c.in-Err.ensures.open
    (λ e. c.in-Err.ensures.ended (ap Err e)) (λ e. c.in-Err.ensures.spent (ap Err e))
