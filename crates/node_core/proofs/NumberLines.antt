-- What a CLR leads to, by its number line and its base line. The code reads lines and key as the rule
-- does.
use Rattle.std.proofs.Common.{◌≡◌, ℕ, Bool, List, Option, Some, None, Result, Ok, ◌∙◌, sym}
use Rattle.htcp_wire.specs.declared.message.Specifier.{Specifier}
use Rattle.htcp_wire.specs.declared.numbers.HeaderKind.TheVariants.{PurgeNumber, PurgeBase}
use Rattle.htcp_wire.specs.declared.fault.HtcpFault.{HtcpFault}
use Rattle.htcp_wire.specs.Numbers.{number_in_text}
use Rattle.values_plain.specs.declared.address.Address.{Address}
use Rattle.node_rules.specs.declared.state.NodeState.{NodeState}
use Rattle.node_rules.specs.declared.reply.Reply.{Reply}
use Rattle.node_rules.specs.declared.reply.StepFault.{StepFault}
use Rattle.node_rules.specs.State.{Setting}
use Rattle.node_rules.specs.Datagrams.{htcp_clr, clr_by_lines, clr_by_line, plain_clr, raising_clr, purge_of, base_alone}
use Rattle.values_keys.specs.KeyOf.{GivesKeys}
use Rattle.node_core.specs.View.{HasKeyOf}
use Rattle.node_rules.specs.Relation.{purge_by_line, raise_by_lines, raise_meant}
use Rattle.node_core.specs.Leads.{Leads, MayClose}
use Rattle.node_core.proofs.Outcomes.{leads_may_close}

-- the key that was read is the one that is given
pub key_is : (key_of : List ℕ → Option (List ℕ)) (text : List ℕ) (key : Option (List ℕ)) → GivesKeys key_of → HasKeyOf text key → key_of text ≡ key
key_is key_of text key gives has = gives text has.0 has.1 ∙ sym has.2

-- with the key and the lines that were read
pub by_lines : {X : Type 0} (g : Setting) (s : NodeState X) (from : Address) (trans : ℕ) (desired : Bool) (spec : Specifier) (key : Option (List ℕ))
    (number base : Result (Option ℕ) HtcpFault) (out : Result (Reply X) StepFault) (next : NodeState X) → g.key_of spec.uri ≡ key →
    number_in_text spec.request_headers PurgeNumber ≡ number → number_in_text spec.request_headers PurgeBase ≡ base →
    MayClose (clr_by_lines g s from trans desired key number base) s (raise_by_lines g from trans key number base) out next →
    MayClose (htcp_clr g s from trans desired spec) s (raise_meant g from trans spec) out next
unfolding htcp_clr
by_lines g s from trans desired spec key number base out next is is_number is_base h = rw (is, is_number, is_base) h

module _ {X : Type 0} (g : Setting) (s : NodeState X) (from : Address) (trans : ℕ) (desired : Bool) (key : Option (List ℕ))
    (number : Result (Option ℕ) HtcpFault) (out : Result (Reply X) StepFault) (next : NodeState X) where
  pub without_number : number ≡ Ok None → Leads (plain_clr g s from trans desired key) s out next →
      MayClose (clr_by_line g s from trans desired key number) s (purge_by_line g from trans key number) out next
  unfolding clr_by_line
  without_number none h = rw none (leads_may_close (plain_clr g s from trans desired key) s None out next h)

  pub with_number : (n : ℕ) → number ≡ Ok (Some n)
      → MayClose (raising_clr s from trans desired (purge_of g from trans key n)) s (purge_of g from trans key n) out next
      → MayClose (clr_by_line g s from trans desired key number) s (purge_by_line g from trans key number) out next
  unfolding clr_by_line
  with_number n some h = rw some h

  pub without_base : (base : Result (Option ℕ) HtcpFault) → base ≡ Ok None
      → MayClose (clr_by_line g s from trans desired key number) s (purge_by_line g from trans key number) out next
      → MayClose (clr_by_lines g s from trans desired key number base) s (raise_by_lines g from trans key number base) out next
  unfolding clr_by_lines
  without_base base none h = rw none h

  pub with_base : (base : Result (Option ℕ) HtcpFault) (n : ℕ) → base ≡ Ok (Some n)
      → MayClose (raising_clr s from trans desired (base_alone g from trans n number)) s (base_alone g from trans n number) out next
      → MayClose (clr_by_lines g s from trans desired key number base) s (raise_by_lines g from trans key number base) out next
  unfolding clr_by_lines
  with_base base n some h = rw some h
