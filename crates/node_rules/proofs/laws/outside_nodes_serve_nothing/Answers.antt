use Rattle.node_rules.proofs.Outside.{outside_serves_nothing, client_is_refused, member_is_refused, query_is_denied, tst_is_refused}
use Rattle.node_rules.proofs.laws.outside_nodes_serve_nothing.Goals as goal

pub returns : goal.returns
returns g c = record {
  serves = λ setting s e mark outcome next steps is_out none. outside_serves_nothing setting s is_out none e mark outcome next steps;
  client = λ setting s mark ask now is_open is_out. client_is_refused setting s mark is_open is_out ask now;
  member = λ setting s mark asker ask now is_open is_out. member_is_refused setting s mark is_open is_out asker ask now;
  query = λ setting s mark from m now is_open is_out is. query_is_denied setting s mark is_open is_out from m now is;
  refused = λ setting s mark from m spec now is_open is_out is. tst_is_refused setting s mark is_open is_out from m spec now is;
}
