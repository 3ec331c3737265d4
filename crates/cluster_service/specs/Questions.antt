-- Which octets begin like a question whether a cache has a copy, if they are a message at all: the codecs say it.
use Rattle.std.specs.Prelude.{ℕ, Bool, List}
use Rattle.values_plain.specs.declared.address.Udp.{Udp}
use Rattle.values_plain.specs.declared.address.Udp.TheVariants.{Icp, Htcp}
use Rattle.icp_wire.specs.Questions.{begins_query}
use Rattle.htcp_wire.specs.Questions.{begins_test}

-- a QUERY or a TST request, by the protocol that the octets came by
abbrev pub begins_question : Udp → List ℕ → Bool
begins_question Icp octets = begins_query octets
begins_question Htcp octets = begins_test octets
