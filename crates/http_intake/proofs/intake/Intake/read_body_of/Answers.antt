-- The buffer begins with the octets that came with the head; what `fill` adds makes it the body,
-- or stops short of it.
use Rattle.std.proofs.Common.{◌≡◌, ◌≤◌, length, take, drop, min, sym, ap, ◌∙◌, subst, arith, rules}
use Rattle.http_messages.specs.declared.fault.FetchFault.TheVariants.{BodyTooLong, NoMemory}
use Rattle.http_intake.specs.Reading.{Held}
use Rattle.http_intake.specs.Bodies.{ReadsBodyOf}
use Rattle.http_intake.proofs.BodyLemmas.{reads_body, filled_whole, front_came, cuts_none, cuts_body}
use Rattle.http_intake.proofs.intake.Intake.read_body_of.Goals as goal

pub returns-then-len-clause-cut : goal.returns-then-len-clause-cut
returns-then-len-clause-cut g c =
    let few : c.args.self.calls ≤ 70000 = omega (arith, ap (λ (held : Held). held.calls) c.self.view_is, c.self.invariant.0) in
    cuts_none (g.R.Read.remaining c.args.reader.now) c.args.self c.args.start c.args.len BodyTooLong few c.if-len.true

pub returns-in-Err-clause-cut : goal.returns-in-Err-clause-cut
returns-in-Err-clause-cut g c =
    let few : c.args.self.calls ≤ 70000 = omega (arith, c.into_parts-octets.ensures.calls, c.into_parts-octets.ensures.few) in
    cuts_none (g.R.Read.remaining c.args.reader.now) c.args.self c.args.start c.args.len NoMemory few c.if-len.false

pub returns-in-Ok-fill-clause-body : goal.returns-in-Ok-fill-clause-body
returns-in-Ok-fill-clause-body g c =
    let behind = c.split_at.result.1.now in
    let came = c.min-came.result in
    let came_is : came ≡ min (length behind) c.args.len = search rules in
    let few : came ≤ length behind = omega arith in
    let behind_is : behind ≡ drop c.args.start c.args.self.octets = c.split_at.ensures.back ∙ ap (drop c.args.start)
    (c.as_slice.ensures.value ∙ c.into_parts-octets.ensures.octets) in
    let front = front_came c.in-Ok.body.items c.deref_mut.result.now behind came few c.deref_mut.ensures.value c.in-Ok.ensures.front in
    let len_is : length c.fill.new.buffer ≡ c.args.len = c.fill.auto.buffer ∙ c.deref_mut.ensures.len ∙ c.in-Ok.ensures.len in
    let whole = filled_whole c.fill.new.buffer c.in-Ok.body.items c.in-Ok.body.len (sym (c.fill.auto.buffer ∙ c.deref_mut.ensures.len)) in
    subst (ReadsBodyOf (g.R.Read.remaining c.args.reader.now) (g.R.Read.remaining c.fill.new.reader) c.args.self c.args.start c.args.len) (sym whole)
    (reads_body (g.R.Read.remaining c.args.reader.now) (g.R.Read.remaining c.fill.new.reader) c.args.self behind (take came c.deref_mut.result.now)
    c.fill.new.buffer
    c.args.start c.args.len came c.fill.new.turns c.requires behind_is came_is front len_is c.in-Ok-fill.ensures.filled
    (omega (arith, c.into_parts-octets.ensures.calls, c.in-Ok-fill.ensures.each))
    (omega (arith, c.into_parts-octets.ensures.calls, c.in-Ok-fill.ensures.most))
    c.in-Ok-fill.ensures.few)

pub returns-clause-cut : goal.returns-clause-cut
returns-clause-cut g c =
    let behind = c.split_at.result.1.now in
    let came = c.min-came.result in
    let came_is : came ≡ min (length behind) c.args.len = search rules in
    let few : came ≤ length behind = omega arith in
    let behind_is : behind ≡ drop c.args.start c.args.self.octets = c.split_at.ensures.back ∙ ap (drop c.args.start)
    (c.as_slice.ensures.value ∙ c.into_parts-octets.ensures.octets) in
    let front = front_came c.in-Ok.body.items c.deref_mut.result.now behind came few c.deref_mut.ensures.value c.in-Ok.ensures.front in
    let len_is : length c.fill.new.buffer ≡ c.args.len = c.fill.auto.buffer ∙ c.deref_mut.ensures.len ∙ c.in-Ok.ensures.len in
    cuts_body (g.R.Read.remaining c.args.reader.now) (g.R.Read.remaining c.fill.new.reader) c.args.self behind (take came c.deref_mut.result.now)
    c.fill.new.buffer
    c.args.start c.args.len came c.into_parts-octets.result.1 c.fill.new.turns c.in-Err-fill.fault c.requires behind_is came_is front len_is c.if-len.false
    c.into_parts-octets.ensures.calls c.in-Err-fill.ensures.stopped
