-- A word for the responses to a TST.
use Rattle.std.specs.Prelude.{ℕ, [], Option, Some, None}
use Rattle.htcp_wire.specs.declared.message.Content.{Content}
use Rattle.htcp_wire.specs.declared.message.Content.TheVariants as content
use Rattle.node_rules.specs.Datagrams.{tst_hit}

-- The response to a TST if a copy with this stamp is held, or none (RFC 2756, "TST").
abbrev pub tst_content : Option ℕ → Content
tst_content None = content.TstMiss []
tst_content (Some stamp) = tst_hit stamp
