-- The keys that each table of a roster's text may have.
use Rattle.std.specs.Prelude.{ℕ, Bool, true, ◌&&◌, bytes_eq, List, [], ◌∷◌, codes}
use Rattle.std.specs.List.{list_any}
use Rattle.toml.specs.Data.{Members, no_members, member}
use Rattle.values_tables.specs.declared.place.TableKind.{TableKind}
use Rattle.values_tables.specs.declared.place.TableKind.TheVariants.{Top, Master, Node, Peer, Foreign, Origin}

-- the keys of the table of a cache; that of a member also has `joins` and `peer`
abbrev pub keys_of_cache : List (List ℕ)
keys_of_cache = codes "id" ∷ codes "name" ∷ codes "address" ∷ codes "http" ∷ codes "icp" ∷ codes "htcp" ∷ []

-- the keys of each kind of table
abbrev pub keys_of : TableKind → List (List ℕ)
keys_of Top = codes "default_lifetime" ∷ codes "copies" ∷ codes "bytes" ∷ codes "query_wait"
    ∷ codes "answer_wait" ∷ codes "fetch_wait" ∷ codes "ask_wait" ∷ codes "fetches_per_address"
    ∷ codes "clients_per_address" ∷ codes "master" ∷ codes "node" ∷ codes "foreign" ∷ codes "origin" ∷ []
keys_of Master = codes "address" ∷ codes "htcp" ∷ []
keys_of Node = codes "joins" ∷ codes "peer" ∷ keys_of_cache
keys_of Peer = codes "id" ∷ codes "role" ∷ codes "by" ∷ []
keys_of Foreign = keys_of_cache
keys_of Origin = codes "host" ∷ codes "port" ∷ codes "address" ∷ codes "connect" ∷ []

-- the key is one of these
abbrev pub is_among : List (List ℕ) → List ℕ → Bool
is_among keys key = list_any (λ k. bytes_eq key k) keys

-- the table has only these keys
abbrev pub has_only : List (List ℕ) → Members → Bool
has_only keys no_members = true
has_only keys (member key d ms) = is_among keys key && has_only keys ms
