-- How the checker holds the state of a run, and what a note makes of it.
use Rattle.std.specs.Prelude.{◌≡◌, ℕ, All, not, ◌&&◌, ◌==◌, List, [], ◌∷◌, map, Option, Some, None, if◌then◌else◌}
use Rattle.values_tables.specs.declared.plain.Tables.{Tables}
use Rattle.purge_rules.specs.Needed.{nodes_of}
use Rattle.run_rules.specs.declared.verdict.Cause.{Cause}
use Rattle.run_rules.specs.Notes.{Note, Closes}
use Rattle.run_rules.specs.Sent.{Network, without_waiting}
use Rattle.run_rules.specs.Board.{Standing, Post, Board}
use Rattle.run_rules.specs.Judging.{Fine, Flawed, is_astray}
use Rattle.run_rules.specs.First.{JudgesFully}
use Rattle.run_notes.specs.Held.{place_in_rest}
use Rattle.run_network.specs.Held.{Holds}
use Rattle.run_check.specs.declared.board.Post.{Post as HeldPost}
use Rattle.run_check.specs.declared.board.Posts.{Posts}
use Rattle.run_check.specs.declared.board.Board.{Board as Held}
use Rattle.run_check.specs.Held.{standing_of, IsSound, master_of}

-- a node's id and standing, as run_rules has them
abbrev pub post_of : HeldPost → Post
post_of p = record { id = p.id; standing = standing_of p.standing }

-- all nodes, as run_rules has them
abbrev pub posts_of : Posts → List Post
posts_of p = map post_of p.posts.items

-- the index of the first of these with this id, if any
abbrev pub place_of : ℕ → List Post → Option ℕ
place_of id [] = None
place_of id (p ∷ ps) = place_in_rest (p.id == id) (place_of id ps)

-- each open node is the member's with its id, and its store has its floors
abbrev pub AreMemberNodes : Tables → Posts → Type 0
AreMemberNodes roster p = All (λ q. IsSound roster q.id q.standing) p.posts.items

-- the state of the run, with this network
abbrev pub board_of : Held → Network → Board
board_of b sent = record { posts = posts_of b.posts; master = master_of b.ledger; network = sent }

-- the network after a record of a node opens: nothing waits there if no request is pending and the node
-- is not astray
abbrev pub opened_network : Network → ℕ → ℕ → Standing → Network
opened_network sent id pending after = if (pending == 0) && not (is_astray after) then without_waiting sent id else sent

-- the invariant: the nodes are right, also those that the master counts, and this network is held
pub record IsBoard (roster : Tables) (b : Held) (sent : Network) : Type 0 where
  pub nodes : AreMemberNodes roster b.posts
  pub counted : b.ledger.nodes ≡ nodes_of roster
  pub network : Holds roster b.network sent

-- a record that closes changes nothing, even if it has a flaw
abbrev pub StaysAt : Tables → Board → Note → Held → Type 0
StaysAt roster before (Closes id place state) now = (sent : Network) × IsBoard roster now sent
    × (board_of now sent ≡ before)
StaysAt roster before _ now = Unit {0}

-- the judgement on a note in this state of the run: it may follow, and this is held now, or it has
-- this flaw
abbrev pub IsJudged : Tables → Board → Note → Held → Option Cause → Type 0
IsJudged roster before note now None = (sent : Network) × IsBoard roster now sent
    × JudgesFully roster before note (Fine (board_of now sent))
IsJudged roster before note now (Some cause) = JudgesFully roster before note (Flawed cause)
    × StaysAt roster before note now
