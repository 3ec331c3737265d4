-- What is written of a response to a member.
use Rattle.std.specs.Prelude.{map}
use Rattle.http_messages.specs.Field.{field_text}
use Rattle.http_messages.specs.Answer.{AnswerText}
use Rattle.run_network.specs.declared.written.Written.{Written}

-- what is written, as a response
abbrev pub written_text : Written → AnswerText
written_text w = record {
  status = w.status;
  fields = map field_text w.fields.now;
  age = w.age;
  stamp = w.stamp;
  body =
      w.body.now;
}
