use Rattle.std.proofs.Common.{length, drop, ap, ◌∙◌, arith, length-take, length-drop}
use Rattle.std.proofs.lemmas.Bool.{false≢true}
use Rattle.http_intake.proofs.ReadingLemmas.{takes_then, not_full}
use Rattle.http_intake.proofs.intake.Intake.read_until_due.Goals as goal

pub pieces-preserved : goal.pieces-preserved
pieces-preserved g c =
    let more = c.in-Ok.ensures in
    let grown = more.grown in
    let before = c.pieces.invariant.grown in
    let size = ap length c.window.ensures.value ∙ length-take 16384 (drop c.args.start c.read_more.new.self.octets) in
    let behind = length-drop c.args.start c.read_more.new.self.octets in
    let room = not_full (length c.window.result.now) c.window.ensures.short (λ full. false≢true (c.if-is_due.ensures full)) in
    record {
      taken = takes_then (g.R.Read.remaining c.args.reader.now) (g.R.Read.remaining c.pieces.reader) (g.R.Read.remaining c.read_more.new.reader)
          c.args.self.now c.pieces.self c.read_more.new.self c.pieces.invariant.taken more.taken;
      grown = omega (arith, grown, before);
      few = omega (arith, size, behind, room);
    }
