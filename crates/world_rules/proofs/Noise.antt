-- Octets of a stranger that spell no message: by cases of whose address they come to.
use Rattle.std.proofs.Common.{◌≡◌, ℕ, List, Option, Some, None, sym, subst, refl}
use Rattle.values_plain.specs.declared.address.Address.{Address}
use Rattle.values_plain.specs.declared.address.Udp.{Udp}
use Rattle.values_plain.specs.declared.address.Udp.TheVariants as udp
use Rattle.values_tables.specs.declared.plain.Tables.{Tables}
use Rattle.roster.specs.Lookups.{member_at, is_own}
use Rattle.node_rules.specs.Spelled.{decoded_by}
use Rattle.node_rules.proofs.Cases.{branches}
use Rattle.world_rules.specs.declared.event.WorldEvent.{WorldEvent}
use Rattle.world_rules.specs.declared.event.WorldEvent.TheVariants as world
use Rattle.world_rules.specs.declared.outcome.WorldFault.TheVariants.{NoSuchPacket}
use Rattle.world_rules.specs.World.{World}
use Rattle.world_rules.specs.Consequence.{Seen, Nothing, Consequence, Refused, octets_reach, octets_come}
use Rattle.world_rules.specs.Run.{Takes, Happens}
use Rattle.world_rules.specs.Noise.{SpellNothingAt, IsNoise}

module _ (h : Tables) (place : ℕ) (w : World) (seen : Seen) (new : World) where
  -- the consequence, if it is taken, changes nothing
  abbrev IsStill : Consequence → Type 0
  IsStill c = Takes h place w c seen new → (seen ≡ Nothing) × (new ≡ w)

  reach_still : (sender : Address) (id : ℕ) (octets : List ℕ) (by : Udp) → decoded_by by octets ≡ None →
      IsStill (octets_reach w sender id (decoded_by by octets))
  reach_still sender id octets by none = subst (λ o. IsStill (octets_reach w sender id o)) (sym none) (λ taken. taken)

  come_still : (to sender : Address) (octets : List ℕ) → SpellNothingAt h to octets → (icp htcp : Option ℕ) → member_at h to udp.Icp ≡ icp →
      member_at h to udp.Htcp ≡ htcp → IsStill (octets_come w sender octets icp htcp)
  come_still to sender octets none (Some id) htcp by_icp by_htcp = reach_still sender id octets udp.Icp (none udp.Icp id by_icp)
  come_still to sender octets none None (Some id) by_icp by_htcp = reach_still sender id octets udp.Htcp (none udp.Htcp id by_htcp)
  come_still to sender octets none None None by_icp by_htcp = λ taken. absurd taken

  pub noise_still : (event : WorldEvent) → IsNoise h event → Happens h place w event seen new → (seen ≡ Nothing) × (new ≡ w)
  noise_still (world.Strange to sender octets) none (key, takes) =
      branches IsStill (is_own h sender) (Refused NoSuchPacket) (octets_come w sender octets (member_at h to udp.Icp) (member_at h to udp.Htcp))
      (λ _ taken. absurd taken)
      (λ _. come_still to sender octets none (member_at h to udp.Icp) (member_at h to udp.Htcp) refl refl) takes
  noise_still _ none happens = absurd none
