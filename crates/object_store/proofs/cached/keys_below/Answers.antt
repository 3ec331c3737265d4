use Rattle.std.proofs.Common.{◌≡◌, map, filter, nat_lt, ap, ◌∙◌}
use Rattle.std.specs.Map.{values_of}
use Rattle.std.specs.Map.Iter.{deref_pair}
use Rattle.std.proofs.lemmas.Map.Iter.{iter_end}
use Rattle.object_store.specs.declared.copy.WebCopy.{WebCopy}
use Rattle.object_store.proofs.Entries.{values_shown}
use Rattle.object_store.proofs.cached.keys_below.Goals as goal

pub returns : goal.returns
returns g c =
    let start : c.into_iter-copy-iterator.result ≡ c.args.cache.now.entries = cc in
    let all = iter_end deref_pair c.args.cache.now.entries c.loop-copy.yielded c.into_iter-copy-iterator.result c.loop-copy.copy-iterator c.next.new.self
    c.next.result start c.loop-copy.yielded_by c.in-None.is c.next.ensures.steps in
    c.loop-copy.invariant
    ∙ ap (λ cs. map (λ (c : WebCopy _). c.key) (filter (λ c'. nat_lt c'.stamp c.args.stamp) cs)) (values_shown c.loop-copy.yielded ∙ ap values_of all.0)
