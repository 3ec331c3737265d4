use Rattle.values_tables.proofs.Ips.{ip_of-dotted, ip_of-none}
use Rattle.values_tables.proofs.fields.ip_of.Goals as goal

pub returns-in-Ok : goal.returns-in-Ok
returns-in-Ok c = rw (c.value_of.ensures, c.octets.ensures) (ip_of-dotted _ _ c.in-Ok.ensures)

pub returns-in-Err : goal.returns-in-Err
returns-in-Err c = ip_of-none _ c.in-Err.ensures
