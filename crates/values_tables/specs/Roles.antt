-- What a peer is to the node that names it (RFC 2187, section 2).
use Rattle.std.specs.Prelude.{Bool, true, false}
use Rattle.values_tables.specs.declared.plain.Role.{Role}
use Rattle.values_tables.specs.declared.plain.Role.TheVariants as role

-- the role is sibling: the node asks it only for what it holds
abbrev pub is_sibling : Role → Bool
is_sibling role.Sibling = true
is_sibling role.Parent = false

-- the role is parent: the node may also ask it to fetch
abbrev pub is_parent : Role → Bool
is_parent role.Sibling = false
is_parent role.Parent = true
