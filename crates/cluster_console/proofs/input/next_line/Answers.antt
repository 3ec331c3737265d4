use Rattle.std.proofs.Common.{◌∙◌, refl, arith, ne_eqb}
use Rattle.values_lines.specs.Lines.{newline}
use Rattle.cluster_console.proofs.Taking.{taking_kept, taking_dropped, taken_at_end, taken_at_last, no_octet, one_octet}
use Rattle.cluster_console.proofs.input.next_line.Goals as goal

pub returns-in_default-clause-taken : goal.returns-in_default-clause-taken
returns-in_default-clause-taken g c =
    let input = g.I.Read.remaining c.octets.input in
    let after = g.I.Read.remaining c.next_octet.new.input in
    taken_at_last (g.I.Read.remaining c.args.input.now) input after c.octets.line.items c.last_of.result c.octets.invariant.taking
    (no_octet input after c.in_ok-octet.field-0 c.in_default.not-Some c.in_ok-octet.ensures) (rw c.as_slice.ensures.value at c.last_of.ensures)

pub returns-then-octet-eq10-clause-taken : goal.returns-then-octet-eq10-clause-taken
returns-then-octet-eq10-clause-taken g c =
    let input = g.I.Read.remaining c.octets.input in
    let after = g.I.Read.remaining c.next_octet.new.input in
    taken_at_end (g.I.Read.remaining c.args.input.now) input after c.octets.line.items c.taken_of.result c.octets.invariant.taking
    (one_octet input after c.in_ok-octet.field-0 c.in-Some-2.octet newline c.in-Some-2.is c.if-octet-eq10.true c.in_ok-octet.ensures)
    (rw c.as_slice-then-octet-eq10.ensures.value at c.taken_of.ensures)

pub octets-preserved-then-len-le-LONGEST_LINE : goal.octets-preserved-then-len-le-LONGEST_LINE
octets-preserved-then-len-le-LONGEST_LINE g c =
    let input = g.I.Read.remaining c.octets.input in
    let after = g.I.Read.remaining c.next_octet.new.input in
    let octet = c.in-Some-2.octet in
    record {
      capacity = c.push_reserved.ensures.capacity ∙ c.octets.invariant.capacity;
      taking = taking_kept (g.I.Read.remaining c.args.input.now) input after c.octets.line.items c.push_reserved.new.self.items octet
          c.octets.invariant.taking (one_octet input after c.in_ok-octet.field-0 octet octet c.in-Some-2.is refl c.in_ok-octet.ensures)
          (ne_eqb octet newline c.if-octet-eq10.false) (omega (arith, c.if-len-le-LONGEST_LINE.true, c.len.ensures, c.octets.line.ok.0))
          c.push_reserved.ensures.items;
    }

pub octets-preserved : goal.octets-preserved
octets-preserved g c =
    let input = g.I.Read.remaining c.octets.input in
    let after = g.I.Read.remaining c.next_octet.new.input in
    let octet = c.in-Some-2.octet in
    record {
      capacity = c.octets.invariant.capacity;
      taking = taking_dropped (g.I.Read.remaining c.args.input.now) input after c.octets.line.items octet c.octets.invariant.taking
          (one_octet input after c.in_ok-octet.field-0 octet octet c.in-Some-2.is refl c.in_ok-octet.ensures) (ne_eqb octet newline c.if-octet-eq10.false)
          (omega (arith, c.if-len-le-LONGEST_LINE.false, c.len.ensures, c.octets.line.ok.0));
    }
