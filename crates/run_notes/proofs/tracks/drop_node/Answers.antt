use Rattle.std.proofs.Common.{ℕ, not, nat_eq, rules}
use Rattle.std.proofs.lemmas.Fn.{filter_same}
use Rattle.run_notes.proofs.tracks.drop_node.Goals as goal

pub returns : goal.returns
returns c = filter_same _ (λ (id : ℕ). not (nat_eq id c.args.node)) _ (λ w b q told. search rules) _ _ c.retain.ensures.filtered
