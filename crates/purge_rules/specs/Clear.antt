-- The CLR that members get for a purge, and the one that a node gets that is admitted (RFC 2756,
-- section 6.5).
use Rattle.std.specs.Prelude.{ℕ, true, List, [], ◌∷◌, ◌++◌, codes, decimal, Option, Some, None, if◌then◌else◌}
use Rattle.htcp_wire.specs.declared.message.Content.TheVariants as content
use Rattle.htcp_wire.specs.declared.message.Htcp.{Htcp}
use Rattle.purge_rules.specs.declared.purges.Purge.{Purge}
use Rattle.purge_rules.specs.declared.purges.Admission.{Admission}
use Rattle.purge_rules.specs.Purges.{PurgeList, pending_at, admission_at}

-- the header line with the number of the purge
abbrev pub number_line : ℕ → List ℕ
number_line number = codes "X-Purge-Number: " ++ decimal number ++ 13 ∷ 10 ∷ []

-- the header line with the number of the admission
abbrev pub base_line : ℕ → List ℕ
base_line number = codes "X-Purge-Base: " ++ decimal number ++ 13 ∷ 10 ∷ []

-- the CLR with this TRANS-ID, URI and REQ-HDRS: it desires a response, and its REASON is 0
abbrev pub clear_with : ℕ → List ℕ → List ℕ → Htcp
clear_with number uri headers = record {
  minor = 0;
  trans = number;
  content = content.ClrAsk true 0 record { method = codes "GET"; uri = uri; version = codes "HTTP/1.1"; request_headers = headers };
}

-- the CLR of a purge of the key [Master 4, HTCP 5]
abbrev pub clear : ℕ → List ℕ → Htcp
clear number key = clear_with number key (number_line number)

-- the CLR of an admission; it has no URI [Master 15]
abbrev pub base_clear : ℕ → Htcp
base_clear number = clear_with number [] (base_line number)

-- the CLR of an admission, if it is pending
abbrev pub message_of_admission : Option Admission → Option Htcp
message_of_admission None = None
message_of_admission (Some a) = if a.is_done then None else Some (base_clear a.number)

-- the CLR of a purge, if it is pending; else that of an admission
abbrev pub message_by : Option Purge → Option Admission → Option Htcp
message_by (Some p) a = Some (clear p.number p.key)
message_by None a = message_of_admission a

-- the CLR of the pending number, if it is pending
abbrev pub message_of : PurgeList → ℕ → Option Htcp
message_of purges number = message_by (pending_at purges number) (admission_at purges number)
