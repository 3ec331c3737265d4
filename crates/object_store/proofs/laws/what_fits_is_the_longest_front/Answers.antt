use Rattle.object_store.proofs.Stores.{longest_front}
use Rattle.object_store.proofs.laws.what_fits_is_the_longest_front.Goals as goal

pub returns : goal.returns
returns g c = λ count bytes copies. longest_front count bytes copies
