-- Worked rows of `needed`: node 1 is founding, node 2 joins and is admitted under the number 2, and
-- node 3 joins and is admitted under the number 5.
use Rattle.std.proofs.Common.{◌≡◌, false, true, List, [], ◌∷◌, refl}
use Rattle.purge_rules.specs.declared.nodes.Nodes.{Nodes}
use Rattle.purge_rules.specs.declared.purges.Admission.{Admission}
use Rattle.purge_rules.specs.Needed.{needed}

abbrev pub row_nodes : Nodes
row_nodes = record { members = 1 ∷ 2 ∷ 3 ∷ []; joining = 2 ∷ 3 ∷ [] }

abbrev pub row_admissions : List Admission
row_admissions = record { member = 2; number = 2; is_done = false } ∷ record { member = 3; number = 5; is_done = true } ∷ []

-- purge 1, before any admission, needs the founding node
pub purge_before : needed row_nodes [] 1 ≡ 1 ∷ []
purge_before = refl

-- purge 1 needs no more once nodes are admitted
pub purge_before_still : needed row_nodes row_admissions 1 ≡ 1 ∷ []
purge_before_still = refl

-- an admission needs the admitted node alone
pub admission : needed row_nodes row_admissions 2 ≡ 2 ∷ []
admission = refl

-- also one that is done
pub admission_done : needed row_nodes row_admissions 5 ≡ 3 ∷ []
admission_done = refl

-- purges 3 and 4 need node 2 as well, but not node 3
pub purge_after : needed row_nodes row_admissions 3 ≡ 1 ∷ 2 ∷ []
purge_after = refl

pub purge_between : needed row_nodes row_admissions 4 ≡ 1 ∷ 2 ∷ []
purge_between = refl

-- purge 6 needs all
pub purge_last : needed row_nodes row_admissions 6 ≡ 1 ∷ 2 ∷ 3 ∷ []
purge_last = refl

-- in a later roster without node 2, nothing needs it: its admission needs nobody
pub left_admission : needed record { members = 1 ∷ []; joining = [] } row_admissions 2 ≡ []
left_admission = refl

-- in a later roster in which node 2 is founding, each purge needs it
pub founding_now : needed record { members = 1 ∷ 2 ∷ []; joining = [] } row_admissions 1 ≡ 1 ∷ 2 ∷ []
founding_now = refl
