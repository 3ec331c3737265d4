-- What a note makes of the state that is held: the node's standing is taken out and another put in,
-- all else stays, so the invariant holds and the board is the one that run_rules has.
use Rattle.std.proofs.Common.{◌≡◌, ℕ, Bool, List, Ok, Err, None, sym, ◌∙◌, ap, subst, inl, length}
use Rattle.floor_rules.specs.Floors.{FloorTable}
use Rattle.values_tables.specs.declared.plain.Tables.{Tables}
use Rattle.node_rules.specs.declared.state.NodeState.{NodeState}
use Rattle.node_book.specs.declared.book.NodeEntry.{NodeEntry}
use Rattle.node_rules.specs.State.{setting}
use Rattle.run_rules.specs.declared.verdict.Cause.{Cause}
use Rattle.run_rules.specs.Notes.{Opens, Steps}
use Rattle.run_rules.specs.Sent.{Network, IsSent}
use Rattle.run_rules.specs.Board.{Standing, Post, standing_at, with_standing}
use Rattle.run_rules.specs.Judging.{Fine, Flawed, JudgesOpening, StepsSo, network_after}
use Rattle.run_rules.specs.First.{JudgesFully}
use Rattle.run_network.specs.Held.{Holds}
use Rattle.run_check.specs.declared.standing.Standing.{Standing as HeldStanding}
use Rattle.run_check.specs.declared.board.Posts.{Posts}
use Rattle.run_check.specs.declared.board.Board.{Board as Held}
use Rattle.run_check.specs.Held.{standing_of, master_of, IsOpened}
use Rattle.run_check.specs.Boards.{posts_of, board_of, AreMemberNodes, IsBoard, IsJudged, opened_network}
use Rattle.run_check.proofs.Judging.{opening_judged, entry_judged}

module _ (roster : Tables) (old : Held) (taken : Posts) (id : ℕ) (before : HeldStanding) (sent : Network) (board : IsBoard roster old sent)
    (stood : standing_of before ≡ standing_at (posts_of old.posts) id)
    (others : (s : Standing) → with_standing (posts_of taken) id s ≡ with_standing (posts_of old.posts) id s) where
  -- the state in which the node's standing has changed, and all else is the same
  module _ (now : Held) (after : HeldStanding) (posts : posts_of now.posts ≡ with_standing (posts_of taken) id (standing_of after))
      (nodes : AreMemberNodes roster now.posts) (ledger : now.ledger ≡ old.ledger) where
    same_board : (n : Network) → record {
      posts = with_standing (posts_of old.posts) id (standing_of after);
      master = master_of old.ledger;
      network =
          n;
    } ≡ board_of now n
    same_board n =
        ap (λ (p : List Post). record { posts = p; master = master_of old.ledger; network = n }) (sym (posts ∙ others (standing_of after)))
        ∙ ap (λ l. record { posts = posts_of now.posts; master = master_of l; network = n }) (sym ledger)

    is_board : (n : Network) → Holds roster now.network n → IsBoard roster now n
    is_board n holds = record { nodes = nodes; counted = ap (λ l. l.nodes) ledger ∙ board.counted; network = holds }

    pub has_opened : (state : NodeState (Unit {0})) → Holds roster now.network (opened_network sent id (length state.pending) (standing_of after)) →
        IsOpened roster id (standing_of before) state (standing_of after) →
        IsJudged roster (board_of old sent) (Opens id state) now None
    has_opened state holds opened =
        let n : Network = opened_network sent id (length state.pending) (standing_of after) in
        let judged = opening_judged roster (board_of old sent) id state (standing_of after)
        (subst (λ s. IsOpened roster id s state (standing_of after)) stood opened) in
        (n, is_board n holds, inl (tt, subst (λ b. JudgesOpening roster (board_of old sent) id state (Fine b)) (same_board n) judged))

    pub has_stepped : (e : NodeEntry) (is_closed : Bool) (kept : FloorTable) → IsSent roster sent id e.event →
        Holds roster now.network (network_after roster sent id e (standing_of after)) →
        StepsSo (setting roster id) (standing_of before) e is_closed kept (Ok (standing_of after)) →
        IsJudged roster (board_of old sent) (Steps id e is_closed kept) now None
    has_stepped e is_closed kept received holds steps =
        let n : Network = network_after roster sent id e (standing_of after) in
        let judged = entry_judged roster (board_of old sent) id e is_closed kept (Ok (standing_of after)) received
        (subst (λ s. StepsSo (setting roster id) s e is_closed kept (Ok (standing_of after))) stood steps) in
        (n, is_board n holds, subst (λ b. JudgesFully roster (board_of old sent) (Steps id e is_closed kept) (Fine b)) (same_board n) judged)

  pub may_not_step : (e : NodeEntry) (is_closed : Bool) (kept : FloorTable) (cause : Cause) → IsSent roster sent id e.event →
      StepsSo (setting roster id) (standing_of before) e is_closed kept (Err cause) →
      JudgesFully roster (board_of old sent) (Steps id e is_closed kept) (Flawed cause)
  may_not_step e is_closed kept cause received steps =
      entry_judged roster (board_of old sent) id e is_closed kept (Err cause) received
      (subst (λ s. StepsSo (setting roster id) s e is_closed kept (Err cause)) stood steps)
