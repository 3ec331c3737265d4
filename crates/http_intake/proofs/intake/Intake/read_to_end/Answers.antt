-- The loop holds that the body is all octets after `start`; it ends the body where the input ends.
use Rattle.std.proofs.Common.{◌≡◌, ◌≤◌, ◌<◌, IsTrue, length, drop, Err, sym, ap, ◌∙◌, arith, subst}
use Rattle.http_messages.specs.declared.fault.FetchFault.{FetchFault}
use Rattle.http_messages.specs.declared.fault.FetchFault.TheVariants.{BodyTooLong, TooManyTurns, NoMemory}
use Rattle.http_intake.specs.Reading.{calls_made, is_read_fault}
use Rattle.http_intake.proofs.BodyLemmas.{reads_to_end, stops_none, stops_before_end, end_why}
use Rattle.http_intake.proofs.ReadingLemmas.{grows_then}
use Rattle.http_intake.proofs.intake.Intake.read_to_end.Goals as goal

pub returns-in-Err-clause-stopped : goal.returns-in-Err-clause-stopped
returns-in-Err-clause-stopped g c =
    let few : c.args.self.calls ≤ 70000 = omega (arith, c.into_parts-octets.ensures.calls, c.into_parts-octets.ensures.few) in
    stops_none (g.R.Read.remaining c.args.reader.now) c.args.self c.args.start NoMemory few tt

pub returns-then-len-gt-LONGEST_BODY-clause-stopped : goal.returns-then-len-gt-LONGEST_BODY-clause-stopped
returns-then-len-gt-LONGEST_BODY-clause-stopped g c =
    let much : 65536 < length c.pieces.body.items = omega (arith, c.pieces.body.ok.0) in
    let holds = c.pieces.invariant in
    stops_before_end (g.R.Read.remaining c.args.reader.now) (g.R.Read.remaining c.pieces.reader) c.args.self c.pieces.body.items c.args.start c.pieces.turns
    BodyTooLong c.requires holds.taken (omega (arith, holds.counted, c.pieces.body.ok.0))
    (omega (arith, holds.most, c.pieces.body.ok.0)) holds.few_turns
    (λ held is calls. omega (arith, much, is))

pub returns-in-Ok-unless_ended-clause-body : goal.returns-in-Ok-unless_ended-clause-body
returns-in-Ok-unless_ended-clause-body g c =
    let read = c.in-Err-read_piece.ensures in
    let holds = c.pieces.invariant in
    let same : length c.read_piece.new.octets.items ≡ length c.pieces.body.items = ap length read.kept in
    let short : length c.read_piece.new.octets.items ≤ 65536 = omega (arith, same, c.pieces.body.ok.0) in
    let ended = c.in-Ok-unless_ended.ensures.ended in
    reads_to_end (g.R.Read.remaining c.args.reader.now) (g.R.Read.remaining c.read_piece.new.reader) c.args.self c.read_piece.new.octets.items c.args.start
    c.read_piece.new.turns c.requires
    (grows_then (g.R.Read.remaining c.args.reader.now) (g.R.Read.remaining c.pieces.reader) (g.R.Read.remaining c.read_piece.new.reader)
    (drop c.args.start c.args.self.octets) c.pieces.body.items c.read_piece.new.octets.items holds.taken read.taken)
    (omega (arith, read.no_turn, holds.counted, same, c.pieces.body.ok.0)) (omega (arith, read.no_turn, holds.most, same, c.pieces.body.ok.0))
    (subst (λ (f : FetchFault). calls_made f c.read_piece.new.turns ≤ 70000) ended read.last)
    (read.ended (ap Err ended)) short

pub returns-in-Err-unless_ended-clause-stopped : goal.returns-in-Err-unless_ended-clause-stopped
returns-in-Err-unless_ended-clause-stopped g c =
    let read = c.in-Err-read_piece.ensures in
    let holds = c.pieces.invariant in
    let other = c.in-Err-unless_ended.ensures.other in
    let same : length c.read_piece.new.octets.items ≡ length c.pieces.body.items = ap length read.kept in
    let short : length c.read_piece.new.octets.items ≤ 65536 = omega (arith, same, c.pieces.body.ok.0) in
    let kind = subst (λ (f : FetchFault). IsTrue (is_read_fault f)) (sym other.0) read.faults in
    stops_before_end (g.R.Read.remaining c.args.reader.now) (g.R.Read.remaining c.read_piece.new.reader) c.args.self c.read_piece.new.octets.items c.args.start
    c.read_piece.new.turns c.in-Err-unless_ended.other c.requires
    (grows_then (g.R.Read.remaining c.args.reader.now) (g.R.Read.remaining c.pieces.reader) (g.R.Read.remaining c.read_piece.new.reader)
    (drop c.args.start c.args.self.octets) c.pieces.body.items c.read_piece.new.octets.items holds.taken read.taken)
    (omega (arith, read.no_turn, holds.counted, same, c.pieces.body.ok.0)) (omega (arith, read.no_turn, holds.most, same, c.pieces.body.ok.0))
    (subst (λ (f : FetchFault). calls_made f c.read_piece.new.turns ≤ 70000) (sym other.0) read.last)
    (λ held is calls. end_why held c.args.start c.in-Err-unless_ended.other kind other.1 (omega (arith, short, is))
    (λ (e : c.in-Err-unless_ended.other ≡ TooManyTurns). calls ∙ read.spent (ap Err (sym other.0 ∙ e))))
