-- The loop of `kept_fields` holds that the fields kept so far, and those still to be kept, are the
-- kept fields of the head (`proofs/Keeping`). A field that cannot be held rules out a head of the
-- grammar (`proofs/HeadFields`).
use Rattle.std.proofs.Common.{◌≡◌, ◌+◌, true, IsErrOf, List, ◌∷◌, ◌++◌, [], map, get_or, sym, ap, ◌∙◌, rules}
use Rattle.httparse.specs.declared.spans.HeaderSpan.{HeaderSpan}
use Rattle.httparse.specs.Spans.{header_bytes}
use Rattle.http_messages.specs.declared.fault.FetchFault.TheVariants.{BadHead}
use Rattle.http_messages.specs.Field.{FieldText, field_text, is_trimmed, are_few_fields}
use Rattle.http_reading.specs.Fields.{fields_of}
use Rattle.http_reading.specs.Kept.{kept_text, kept_by, options_of, kept}
use Rattle.http_reading.proofs.Keeping.{kept_from, kept_from-kept, kept_from-dropped, held_at, same_pushed, held_pushed, may_stand}
use Rattle.http_reading.proofs.HeadFields.{CanBeKept-head}
use Rattle.http_reading.proofs.kept.kept_fields.Goals as goal
use Rattle.http_reading.proofs.kept.kept_fields.Goals.{then-is_kept+in_ok-field+in_ok-map_err, else-is_kept}

-- what a slice of places gives past its end
nowhere : HeaderSpan
nowhere = record { name = record { start = 0; end = 0 }; value = record { start = 0; end = 0 } }

pub returns-in_err-field-clause-bad_head : goal.returns-in_err-field-clause-bad_head
unfolding nowhere
returns-in_err-field-clause-bad_head c b can =
    let bad : IsErrOf c.field_at.result BadHead = search rules in
    c.field_at.ensures.bad_head bad
    (held_at c.args.window.now c.args.headers.now c.loop-header.header-index nowhere c.loop-header-test.true can (sym c.is_kept.ensures ∙ c.if-is_kept.true))

pub returns-in_err-field-clause-of_head : goal.returns-in_err-field-clause-of_head
unfolding nowhere
returns-in_err-field-clause-of_head c head are same b =
    let bad : IsErrOf c.field_at.result BadHead = search rules in
    let few : are_few_fields (kept (fields_of c.args.window.now c.args.headers.now)) ≡ true = sym c.are_few_kept.ensures ∙ c.if-not-are_few_kept.false in
    let can = CanBeKept-head head (fields_of c.args.window.now c.args.headers.now) are same few in
    c.field_at.ensures.bad_head bad
    (held_at c.args.window.now c.args.headers.now c.loop-header.header-index nowhere c.loop-header-test.true can (sym c.is_kept.ensures ∙ c.if-is_kept.true))

pub loop-header-init : goal.loop-header-init
loop-header-init c =
    let options = options_of (fields_of c.args.window.now c.args.headers.now) in
    record {
      same = ap (λ (ms : List FieldText). ms ++ kept_by options (fields_of c.args.window.now c.args.headers.now)) c.in_ok-fields.ensures.marks;
      held = c.in_ok-fields.ensures.held;
    }

-- A field that is kept is added, trimmed; another is passed over. Either way what is left to keep is that of the later fields.
pub loop-header-preserved : goal.loop-header-preserved
unfolding nowhere
loop-header-preserved c =
    let options = options_of (fields_of c.args.window.now c.args.headers.now) in
    let place = c.loop-header.header-index in
    elim c.if-is_kept.branch [
      | then-is_kept+in_ok-field+in_ok-map_err w ↦
          let items : c.if-is_kept.fields.items ≡ c.loop-header.fields.items ++ w.in_ok-field.field ∷ [] = search rules in
          let is = sym c.is_kept.ensures ∙ w.if-is_kept.true in
          let pair = header_bytes c.args.window.now (get_or c.args.headers.now place nowhere) in
          let text : field_text w.in_ok-field.field ≡ kept_text pair = w.in_ok-field.ensures.field in
          let trimmed : is_trimmed pair.1 ≡ true = w.in_ok-field.ensures.trimmed in
          let tail = kept_from options c.args.window.now c.args.headers.now (place + 1) in
          let rest = kept_from-kept options c.args.window.now c.args.headers.now place nowhere c.loop-header-test.true is in
          rw items (record {
            same = same_pushed c.loop-header.fields.items w.in_ok-field.field (kept_text pair) tail _ text
                (ap (λ (ts : List FieldText). map field_text c.loop-header.fields.items ++ ts) (sym rest) ∙ c.loop-header.invariant.same);
            held = held_pushed c.loop-header.fields.items w.in_ok-field.field c.loop-header.invariant.held (may_stand options pair _ text is trimmed);
          })
      | else-is_kept w ↦
          let rest = kept_from-dropped options c.args.window.now c.args.headers.now place nowhere c.loop-header-test.true
          (sym c.is_kept.ensures ∙ w.if-is_kept.false) in
          rw w.fields-is (record {
            same = ap (λ (ts : List FieldText). map field_text c.loop-header.fields.items ++ ts) (sym rest) ∙ c.loop-header.invariant.same;
            held = c.loop-header.invariant.held;
          })
    ]
