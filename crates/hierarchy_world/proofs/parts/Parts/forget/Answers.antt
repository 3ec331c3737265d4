use Rattle.std.proofs.Common.{refl, not, nat_eq, rules}
use Rattle.std.proofs.lemmas.Fn.{filter_same}
use Rattle.hierarchy_world.specs.declared.network.Waiting.{Waiting}
use Rattle.hierarchy_world.proofs.parts.Parts.forget.Goals as goal

pub returns : goal.returns
returns c = record {
  same = record {
    roster = refl;
    nodes = refl;
    master = refl;
    clock = refl;
    place = refl;
    datagrams = refl;
    asks = refl;
    answers = refl;
    waiting = filter_same _ (λ (w : Waiting). not (nat_eq w.node c.args.id)) _ (λ w b q told. search rules) _ _ c.retain.ensures.filtered;
  };
}
