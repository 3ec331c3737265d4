-- The hasher with which a store begins the hash of each key.
use Rattle.std.specs.declared.hash.DefaultHasher.{DefaultHasher}
use Rattle.std.specs.Hash.DefaultHasher.{initial}
use Rattle.std.specs.RandomState.{initial_hasher}
use Rattle.object_store.specs.declared.hashing.Hashing.{Hashing}
use Rattle.object_store.specs.declared.hashing.Hashing.TheVariants.{Fixed, Random}

-- SipHash-1-3 with both keys 0, or with random keys
abbrev pub first_hasher : Hashing → DefaultHasher
first_hasher Fixed = initial
first_hasher (Random state) = initial_hasher state
