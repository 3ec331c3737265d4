use Rattle.std.proofs.Common.{◌∙◌, rules, tests}
use Rattle.std.proofs.lemmas.Iterator.{YieldsList-from_slice}
use Rattle.std.proofs.lemmas.Iterator.Consumers.{YieldsList-from_filter, count_from_yields_List}
use Rattle.httparse.specs.Spans.{header_bytes}
use Rattle.httparse.specs.declared.spans.HeaderSpan.{HeaderSpan}
use Rattle.http_reading.specs.Fields.{is_named}
use Rattle.http_reading.proofs.Named.{length-filter_at}
use Rattle.http_reading.proofs.fields.count_named.Goals as goal

pub returns : goal.returns
returns c =
    let test = λ (h : HeaderSpan). is_named c.args.name.now (header_bytes c.args.window.now h) in
    count_from_yields_List c.filter.result c.count.result c.count.ensures.ran
    (YieldsList-from_filter _ test (YieldsList-from_slice c.args.headers.now cc) c.filter.ensures.closure (λ x r q k. search (rules, tests)))
    ∙ length-filter_at (is_named c.args.name.now) c.args.window.now c.args.headers.now
