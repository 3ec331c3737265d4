-- Copies of responses, and the octets that they count in a store.
use Rattle.std.specs.Prelude.{ℕ, ◌+◌, Bool, bytes_eq, List, length}
use Rattle.http_messages.specs.Answer.{answer_size}
use Rattle.object_store.specs.declared.copy.WebCopy.{WebCopy}

-- the octets that a copy counts: its key, and the field lines and the body of its response [Copy 2]
abbrev pub size : {T : Type 0} → WebCopy T → ℕ
size c = length c.key + answer_size c.answer

-- the copy is of this key
abbrev pub is_of : {T : Type 0} → List ℕ → WebCopy T → Bool
is_of key c = bytes_eq c.key key
