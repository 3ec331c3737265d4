-- The loop adds octets after those parsed; it never reads where the window is full, so at most
-- 4,096 octets too many.
use Rattle.std.proofs.Common.{◌≡◌, Err, length, drop, ap, ◌∙◌, subst, arith, length-take, length-drop}
use Rattle.http_messages.specs.declared.fault.FetchFault.TheVariants.{HeadTooLong}
use Rattle.http_intake.specs.Heads.{IsLongRequest}
use Rattle.http_intake.proofs.ReadingLemmas.{takes_then}
use Rattle.http_intake.proofs.intake.Intake.read_request_head.Goals as goal

pub returns-in-Err-clause-long : goal.returns-in-Err-clause-long
returns-in-Err-clause-long g c = λ is.
    let fault : c.in-Err.fault ≡ HeadTooLong = cc in
    subst IsLongRequest c.window-in-parses.ensures.value (c.in-Err.ensures.long (ap Err fault))

pub returns-in-Err-read_until_due-clause-taken : goal.returns-in-Err-read_until_due-clause-taken
returns-in-Err-read_until_due-clause-taken g c =
    takes_then (g.R.Read.remaining c.args.reader.now) (g.R.Read.remaining c.parses.reader) (g.R.Read.remaining c.read_until_due.new.reader)
    c.args.self.now c.parses.self c.read_until_due.new.self c.parses.invariant.taken c.in-Err-read_until_due.ensures.taken

pub parses-preserved : goal.parses-preserved
parses-preserved g c =
    let partial = rw c.in-Ok-Partial.field-0-is at c.in-Ok-Partial.ensures in
    let size = ap length c.window-in-parses.ensures.value ∙ length-take 16384 (drop c.args.start c.parses.self.octets) in
    let behind = length-drop c.args.start c.parses.self.octets in
    let more = c.in-Ok.ensures in
    record {
      taken = takes_then (g.R.Read.remaining c.args.reader.now) (g.R.Read.remaining c.parses.reader) (g.R.Read.remaining c.read_until_due.new.reader)
          c.args.self.now c.parses.self c.read_until_due.new.self c.parses.invariant.taken more.taken;
      start = omega (arith, more.grown, c.parses.invariant.start);
      few = omega (arith, size, behind, partial.unfinished.2, more.no_more);
      room = c.judge_request.auto.headers ∙ c.parses.invariant.room;
    }

pub returns-in-Err-read_until_due-clause-no_more : goal.returns-in-Err-read_until_due-clause-no_more
returns-in-Err-read_until_due-clause-no_more g c =
    let partial = rw c.in-Ok-Partial.field-0-is at c.in-Ok-Partial.ensures in
    let size = ap length c.window-in-parses.ensures.value ∙ length-take 16384 (drop c.args.start c.parses.self.octets) in
    let behind = length-drop c.args.start c.parses.self.octets in
    omega (arith, size, behind, partial.unfinished.2, c.in-Err-read_until_due.ensures.no_more)
