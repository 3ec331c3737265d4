use Rattle.std.proofs.Common.{◌≡◌, map, ap, ◌∙◌, rules}
use Rattle.std.specs.Map.{values_of}
use Rattle.std.specs.Map.Iter.{deref_pair}
use Rattle.std.proofs.lemmas.Map.Iter.{iter_end}
use Rattle.object_store.proofs.Entries.{values_shown}
use Rattle.object_store.proofs.cached.copy_all.Goals as goal

pub returns : goal.returns
returns g c =
    let all : map deref_pair c.loop-copy.yielded ≡ c.args.cache.now.entries = search (rules, iter_end) in
    c.loop-copy.invariant ∙ values_shown c.loop-copy.yielded ∙ ap values_of all
