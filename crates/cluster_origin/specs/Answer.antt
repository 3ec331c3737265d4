-- What the origin answers.
use Rattle.std.specs.Prelude.{ℕ, List, [], ◌∷◌, ◌++◌, None, codes, decimal}
use Rattle.url_key.specs.Text.{key_path}
use Rattle.http_messages.specs.Field.{FieldText}
use Rattle.http_messages.specs.Answer.{AnswerText}

-- `cache-control: max-age=60`: a cache may keep the response for 60 seconds (RFC 9111, section 5.2.2.1)
abbrev pub lifetime : FieldText
lifetime = record { name = codes "cache-control"; value = codes "max-age=60" }

-- the path that is asked for, with its query where there is one, a space, and the count in decimal
abbrev pub body_of : List ℕ → ℕ → List ℕ
body_of key count = key_path key ++ (codes " " ++ decimal count)

-- the response to a request for this key, which is the `count`th that is answered [Origin 2]
abbrev pub answer_for : List ℕ → ℕ → AnswerText
answer_for key count = record {
  status = 200;
  fields = lifetime ∷ [];
  age = None;
  stamp = None;
  body =
      body_of key count;
}
