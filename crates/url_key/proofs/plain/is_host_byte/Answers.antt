use Rattle.std.proofs.Common.{refl, arith, not, nat_eq, bit_and, get_or}
use Rattle.std.proofs.lemmas.Bool.{agree_below_at}
use Rattle.url_key.specs.declared.plain.TheConstants.{CLASS}
use Rattle.url_key.specs.Plain.{is_host_byte}
use Rattle.url_key.proofs.plain.is_host_byte.Goals as goal

pub returns : goal.returns
returns c = agree_below_at (λ b. not (nat_eq (bit_and (get_or CLASS b 0) 1) 0)) is_host_byte 256 c.args.b refl (omega arith)
