-- Which members a number of the master needs: those that have to acknowledge it until it is done.
-- A number is of a purge or of an admission, which lets a joining node take part from then on.
use Rattle.std.specs.Prelude.{ℕ, Bool, not, ◌&&◌, ◌||◌, ◌==◌, nat_lt, List, filter, find, Option, Some, None}
use Rattle.std.specs.List.{list_any}
use Rattle.values_tables.specs.declared.plain.Tables.{Tables}
use Rattle.purge_rules.specs.declared.nodes.Nodes.{Nodes}
use Rattle.purge_rules.specs.declared.purges.Admission.{Admission}
use Rattle.purge_rules.specs.Members.{is_among, members_of, joining_of}

-- the nodes of a roster: its members, and which of them join
abbrev pub nodes_of : Tables → Nodes
nodes_of t = record { members = members_of t; joining = joining_of t }

-- the admission of this number, if there is one
abbrev pub admission_in : List Admission → ℕ → Option Admission
admission_in admissions number = find (λ a. a.number == number) admissions

-- the node was admitted under a number below this one
abbrev pub was_admitted : List Admission → ℕ → ℕ → Bool
was_admitted admissions number id = list_any (λ a. (a.member == id) && nat_lt a.number number) admissions

-- whether a number needs the member. An admission (the first case) needs the admitted node alone; a
-- purge needs each founding node and each node admitted under a lesser number. [Master 12]
abbrev pub needs_by : Nodes → List Admission → ℕ → Option Admission → ℕ → Bool
needs_by nodes admissions number (Some a) id = a.member == id
needs_by nodes admissions number None id = not (is_among id nodes.joining) || was_admitted admissions number id

-- the number needs the member, if that is one of the roster
abbrev pub needs : Nodes → List Admission → ℕ → ℕ → Bool
needs nodes admissions number id = needs_by nodes admissions number (admission_in admissions number) id

-- the ids of the members of the roster that a number needs, ascending, after these admissions
abbrev pub needed : Nodes → List Admission → ℕ → List ℕ
needed nodes admissions number = filter (needs nodes admissions number) nodes.members
