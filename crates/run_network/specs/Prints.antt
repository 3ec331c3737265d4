-- Prints: the hashes under which items are held. Equal items have equal prints, since a print is a
-- function of the item.
use Rattle.std.specs.Prelude.{ℕ, List, [], ◌∷◌, ◌++◌, length}
use Rattle.std.specs.List.{fold, flat_map}
use Rattle.std.specs.Hash as fed
use Rattle.std.specs.Hash.DefaultHasher as sip
use Rattle.std.specs.RandomState.{initial_hasher}
use Rattle.std.specs.declared.hash.DefaultHasher.{DefaultHasher}
use Rattle.std.specs.declared.hash.RandomState.{RandomState}
use Rattle.htcp_wire.specs.declared.message.Content.{Content}
use Rattle.htcp_wire.specs.declared.message.Content.TheVariants as content
use Rattle.values_plain.specs.declared.address.Address.{Address}
use Rattle.http_messages.specs.Field.{FieldText}
use Rattle.http_messages.specs.Answer.{AnswerText}
use Rattle.node_rules.specs.declared.message.Message.{Message}
use Rattle.node_rules.specs.declared.message.Message.TheVariants as message

-- the hasher after it was fed these writes
abbrev pub written_to : DefaultHasher → fed.HashWrites → DefaultHasher
written_to hasher writes = fold sip.write hasher writes

-- SipHash-1-3 with these keys
abbrev pub hash_of : RandomState → fed.HashWrites → ℕ
hash_of keys writes = sip.finish (written_to (initial_hasher keys) writes)

-- a message's ICP request number or HTCP TRANS-ID
abbrev pub number_in : Message → ℕ
number_in (message.Icp m) = m.number
number_in (message.Htcp m) = m.trans

-- the URL that an HTCP message names; empty if it names none
abbrev pub uri_in : Content → List ℕ
uri_in (content.TstAsk desired spec) = spec.uri
uri_in (content.ClrAsk desired reason spec) = spec.uri
uri_in _ = []

-- the URL that a message names; empty if it names none
abbrev pub text_in : Message → List ℕ
text_in (message.Icp m) = m.url
text_in (message.Htcp m) = uri_in m.content

-- the print of a datagram: of its sender, receiver, number and URL
unfoldable pub letter_print : RandomState → Address → ℕ → Message → ℕ
letter_print keys sender receiver m =
    hash_of keys
    (fed.u32 sender.ip
    ++ (fed.u16 sender.port ++ (fed.u8 receiver ++ (fed.u32 (number_in m) ++ fed.slice fed.u8 (text_in m)))))

-- the print of a request: of its sender, receiver and key
unfoldable pub ask_print : RandomState → ℕ → ℕ → List ℕ → ℕ
ask_print keys sender receiver key = hash_of keys (fed.u8 sender ++ (fed.u8 receiver ++ fed.slice fed.u8 key))

-- a text is fed as its length, and then all of it in one write
abbrev pub text_writes : List ℕ → fed.HashWrites
text_writes text = fed.usize (length text) ++ text ∷ []

-- a field is fed as its name and its value
abbrev pub field_writes : FieldText → fed.HashWrites
field_writes f = text_writes f.name ++ text_writes f.value

-- fields are fed as their number, and then each
abbrev pub fields_writes : List FieldText → fed.HashWrites
fields_writes fs = fed.usize (length fs) ++ flat_map field_writes fs

-- the sender, the receiver, and the numbers of a response
abbrev pub number_writes : ℕ → ℕ → AnswerText → fed.HashWrites
number_writes sender receiver a = fed.u8 sender
    ++ (fed.u8 receiver ++ (fed.u16 a.status ++ (fed.option fed.u64 a.age ++ fed.option fed.u32 a.stamp)))

-- the print of a response: of its sender, receiver and key, and all that is written of it
unfoldable pub answer_print : RandomState → ℕ → ℕ → List ℕ → AnswerText → ℕ
answer_print keys sender receiver key a =
    hash_of keys
    (number_writes sender receiver a ++ (text_writes key ++ (fields_writes a.fields ++ text_writes a.body)))
