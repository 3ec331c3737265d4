use Rattle.std.proofs.Common.{List, ◌++◌, subst}
use Rattle.roster.specs.Lookups.{member_of}
use Rattle.world_rules.specs.World.{Datagram, datagrams_from}
use Rattle.run_network.specs.Held.{HoldsLetters}
use Rattle.run_network.proofs.Posting.{replied_on}
use Rattle.run_network.proofs.network.Network.send.Goals as goal

pub returns : goal.returns
returns c =
    replied_on c.wait.result c.args.roster.now c.args.node c.args.event.now c.args.reply.now c.args.self.now c.answer.new.self c.wait.new.self c.post.new.self
    c.post-2.new.self
    (subst (λ l. (sent : List Datagram) → HoldsLetters c.args.roster.now c.args.self.now.letters sent →
    HoldsLetters c.args.roster.now c.post.new.self (sent ++ datagrams_from (member_of c.args.roster.now c.args.node) l)) c.as_slice.ensures
    c.in_ok-post.ensures)
    c.in_ok-post-2.ensures c.in_ok-answer.ensures c.wait.ensures
