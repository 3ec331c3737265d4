-- What is kept of a book that was closed.
use Rattle.std.specs.Prelude.{◌≡◌}
use Rattle.node_book.specs.declared.record.Record.{Record}
use Rattle.node_book.specs.Book.{BookView, Replays}
use Rattle.node_rules.specs.State.{setting}

-- The node's id, its state when the book was opened, the entries, and its state now. The entries
-- lead from one state to the other. [Record 1]
pub record IsRecorded {S : Type 0} (book : BookView S) (r : Record) : Type 0 where
  pub node : r.node ≡ book.node.id
  pub opening : r.opening ≡ book.opening
  pub entries : r.entries ≡ book.entries
  pub closing : r.closing ≡ book.node.state
  pub replay : Replays (setting book.node.roster book.node.id) r.opening r.entries r.closing
