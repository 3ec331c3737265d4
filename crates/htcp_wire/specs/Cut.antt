-- Contents whose texts are still in a datagram, as the contents that they are.
use Rattle.htcp_wire.specs.declared.message.Specifier.{Specifier}
use Rattle.htcp_wire.specs.declared.message.Detail.{Detail}
use Rattle.htcp_wire.specs.declared.message.Content.{Content}
use Rattle.htcp_wire.specs.declared.message.Content.TheVariants as contents
use Rattle.htcp_wire.specs.declared.cut.SpecifierCut.{SpecifierCut}
use Rattle.htcp_wire.specs.declared.cut.DetailCut.{DetailCut}
use Rattle.htcp_wire.specs.declared.reading.DataCut.{DataCut}
use Rattle.htcp_wire.specs.Grammar.{Data}
use Rattle.htcp_wire.specs.declared.cut.ContentCut.{ContentCut}
use Rattle.htcp_wire.specs.declared.cut.ContentCut.TheVariants.{Plain, TstAsk, TstHit, TstMiss, ClrAsk}

-- the specifier, without where its texts are
abbrev pub specifier_seen : SpecifierCut → Specifier
specifier_seen cut = record {
  method = cut.method.now;
  uri = cut.uri.now;
  version = cut.version.now;
  request_headers =
      cut.request_headers.now;
}

-- the detail, without where its texts are
abbrev pub detail_seen : DetailCut → Detail
detail_seen cut = record {
  response_headers = cut.response_headers.now;
  entity_headers = cut.entity_headers.now;
  cache_headers = cut.cache_headers.now;
}

-- the content, without where its texts are
abbrev pub content_seen : ContentCut → Content
content_seen (Plain content) = content
content_seen (TstAsk desired cut) = contents.TstAsk desired (specifier_seen cut)
content_seen (TstHit cut) = contents.TstHit (detail_seen cut)
content_seen (TstMiss cache) = contents.TstMiss cache.now
content_seen (ClrAsk desired reason cut) = contents.ClrAsk desired reason (specifier_seen cut)

-- DATA, without where its texts are
abbrev pub data_seen : DataCut → Data
data_seen cut = record {
  opcode = cut.opcode;
  response = cut.response;
  f1 = cut.f1;
  rr = cut.rr;
  op_data =
      cut.op_data.now;
}
