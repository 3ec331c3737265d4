use Rattle.std.proofs.Common.{◌≡◌, ◌≤◌, ◌-◌, length, drop, Err, refl, ap, ◌∙◌, arith, length-take, length-drop}
use borrow.Rule.Slice.PartMut.{same_len_mid}
use Rattle.http_messages.specs.declared.fault.FetchFault.TheVariants.{EndOfInput, TooManyTurns}
use Rattle.http_intake.proofs.FillLemmas.{fills_more, fills_none}
use Rattle.http_intake.proofs.fill.fill.Goals as goal

pub calls-preserved : goal.calls-preserved
calls-preserved g c =
    let room = length c.calls.buffer - c.calls.at in
    let given = c.in-Ok.ensures in
    let few : c.in-Ok.count ≤ length c.call.new.buffer = given.within in
    let same = same_len_mid c.calls.at room c.calls.buffer c.call.new.buffer c.call.auto.buffer in
    let all = length-drop c.calls.at c.calls.buffer in
    let lent = c.call.auto.buffer ∙ length-take room (drop c.calls.at c.calls.buffer) in
    record {
      forward = omega arith;
      within = omega (arith, same, all, lent, few);
      taken = fills_more (g.R.Read.remaining c.args.reader.now) (g.R.Read.remaining c.calls.reader) (g.R.Read.remaining c.call.new.reader)
          _ c.calls.buffer c.call.new.buffer c.calls.at room c.in-Ok.count _ c.calls.invariant.taken given.given c.calls.invariant.within few refl;
      few_turns = given.few_turns;
      counted = omega (arith, given.turn, given.some, c.calls.invariant.counted);
      most = omega (arith, given.turn, few, all, lent, c.calls.invariant.most, c.calls.invariant.small);
      small = omega (arith, same, c.calls.invariant.small);
    }

pub returns-in-Err-clause-stopped : goal.returns-in-Err-clause-stopped
returns-in-Err-clause-stopped g c =
    let room = length c.calls.buffer - c.calls.at in
    let same = same_len_mid c.calls.at room c.calls.buffer c.call.new.buffer c.call.auto.buffer in
    let refused = c.in-Err.ensures in
    record {
      at = c.calls.at;
      taken = fills_none (g.R.Read.remaining c.args.reader.now) (g.R.Read.remaining c.calls.reader) (g.R.Read.remaining c.call.new.reader)
          _ c.calls.buffer c.call.new.buffer c.calls.at room c.calls.invariant.taken refused.kept c.calls.invariant.within;
      forward = c.calls.invariant.forward;
      short = omega (arith, same, c.calls-test.true);
      each = omega (arith, refused.no_turn, c.calls.invariant.counted);
      most = omega (arith, refused.no_turn, c.calls.invariant.most);
      few = refused.last;
      ended = λ (e : c.in-Err.fault ≡ EndOfInput). refused.ended (ap Err e);
      spent = λ (e : c.in-Err.fault ≡ TooManyTurns). refused.spent (ap Err e);
      kind = refused.faults;
    }
