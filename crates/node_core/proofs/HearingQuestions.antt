-- What queries of other caches lead to. The code gets the key of the text, and the rule has it as a
-- parameter; both are the same where that parameter gives the keys of texts.
use Rattle.std.proofs.Common.{◌≡◌, ◌≢◌, ℕ, Bool, true, false, List, [], ◌∷◌, Option, Some, None, option_map, if◌then◌else◌, refl, ap, sym, ◌∙◌}
use Rattle.icp_wire.specs.declared.message.Icp.{Icp}
use Rattle.icp_wire.specs.declared.message.IcpOp.{IcpOp}
use Rattle.icp_wire.specs.declared.message.IcpOp.TheVariants as op
use Rattle.htcp_wire.specs.declared.message.Specifier.{Specifier}
use Rattle.object_store.specs.declared.copy.WebCopy.{WebCopy}
use Rattle.values_plain.specs.declared.address.Address.{Address}
use Rattle.values_plain.specs.declared.address.Udp.TheVariants as udp
use Rattle.node_rules.specs.declared.message.Message.{Message}
use Rattle.node_messages.specs.Answers.{tst_content}
use Rattle.node_rules.specs.declared.message.Outgoing.{Outgoing}
use Rattle.node_rules.specs.declared.state.NodeState.{NodeState}
use Rattle.node_rules.specs.declared.reply.Reply.{Reply}
use Rattle.node_rules.specs.Messages.{icp, htcp, overall, to}
use Rattle.node_rules.specs.State.{Setting, Stepped, replies, quiet, sending, good_copy}
use Rattle.node_rules.specs.Datagrams.{answers_to, sends_back, if_desired, hit_or_miss, icp_answer, icp_query, tst_answer, copy_meant, htcp_tst}
use Rattle.values_keys.specs.KeyOf.{GivesKeys}
use Rattle.node_core.specs.View.{HasKeyOf}

key_given : (key_of : List ℕ → Option (List ℕ)) (text read : List ℕ) (key : Option (List ℕ)) → GivesKeys key_of → HasKeyOf read key → read ≡ text →
    key ≡ key_of text
key_given key_of text read key gives has same = has.2 ∙ sym (gives read has.0 has.1) ∙ ap key_of same

-- Queries by ICP

no_query_held : {X : Type 0} (copy : Option (WebCopy X)) → hit_or_miss copy ≢ op.Query
no_query_held None e = cc
no_query_held (Some c) e = cc

no_object_held : {X : Type 0} (copy : Option (WebCopy X)) → hit_or_miss copy ≢ op.HitObj
no_object_held None e = cc
no_object_held (Some c) e = cc

never_query : {X : Type 0} (known : Bool) (s : NodeState X) (now : ℕ) (key : Option (List ℕ)) → icp_answer known s now key ≢ op.Query
never_query false s now key e = cc
never_query true s now None e = cc
never_query true s now (Some key) e = no_query_held (good_copy s key now) e

never_object : {X : Type 0} (known : Bool) (s : NodeState X) (now : ℕ) (key : Option (List ℕ)) → icp_answer known s now key ≢ op.HitObj
never_object false s now key e = cc
never_object true s now None e = cc
never_object true s now (Some key) e = no_object_held (good_copy s key now) e

pub no_query : {X : Type 0} (known : Bool) (s : NodeState X) (now : ℕ) (key : Option (List ℕ)) (said : IcpOp) → said ≡ icp_answer known s now key →
    said ≢ op.Query
no_query known s now key said is e = never_query known s now key (sym is ∙ e)

pub no_object : {X : Type 0} (known : Bool) (s : NodeState X) (now : ℕ) (key : Option (List ℕ)) (said : IcpOp) → said ≡ icp_answer known s now key →
    said ≢ op.HitObj
no_object known s now key said is e = never_object known s now key (sym is ∙ e)

pub answers_query : {X : Type 0} (g : Setting) (s : NodeState X) (from : Address) (m : Icp) (now : ℕ) (key read : Option (List ℕ)) (text : List ℕ)
    (said : IcpOp) (sent : Outgoing) (reply : Reply X) → GivesKeys g.key_of → HasKeyOf text read → text ≡ m.url → key ≡ read →
    said ≡ icp_answer (answers_to g s udp.Icp from) s now key → sent ≡ to from (icp said m.number m.url) → reply ≡ sending (sent ∷ []) →
    icp_query g s from m now ≡ replies s reply
unfolding icp_query
answers_query g s from m now key read text said sent reply gives has is_text is_key is_said is_sent is_reply =
    let given : key ≡ g.key_of m.url = is_key ∙ key_given g.key_of m.url text read gives has is_text in
    let answered : said ≡ icp_answer (answers_to g s udp.Icp from) s now (g.key_of m.url) = is_said
    ∙ ap (icp_answer (answers_to g s udp.Icp from) s now) given in
    sym (ap (λ r. replies s r) (is_reply ∙ ap (λ o. sending (o ∷ [])) (is_sent ∙ ap (λ o. to from (icp o m.number m.url)) answered)))

-- Queries by HTCP

content_of : {X : Type 0} (copy : Option (WebCopy X)) → tst_content (option_map (λ c. c.stamp) copy) ≡ tst_answer copy
content_of None = refl
content_of (Some c) = refl

module _ {X : Type 0} (g : Setting) (s : NodeState X) (from : Address) (trans : ℕ) (desired : Bool) (spec : Specifier) (now : ℕ) where
  pub not_desired : desired ≡ false → htcp_tst g s from trans desired spec now ≡ replies s quiet
  unfolding htcp_tst
  not_desired silent =
      ap (λ b. if_desired s b from (if answers_to g s udp.Htcp from then htcp trans (tst_answer (copy_meant g s spec now)) else overall trans 1 5))
      silent

  tst_by : Bool → Message → Stepped X
  tst_by known answer = sends_back s from (if known then answer else overall trans 1 5)

  is_desired : desired ≡ true →
      htcp_tst g s from trans desired spec now ≡ tst_by (answers_to g s udp.Htcp from) (htcp trans (tst_answer (copy_meant g s spec now)))
  unfolding htcp_tst tst_by
  is_desired wanted =
      (ap (λ b. if_desired s b from (if answers_to g s udp.Htcp from then htcp trans (tst_answer (copy_meant g s spec now)) else overall trans 1 5))
      wanted)

  pub refuses_tst : desired ≡ true → false ≡ answers_to g s udp.Htcp from →
      (sent : Outgoing) (reply : Reply X) → sent ≡ to from (overall trans 1 5) → reply ≡ sending (sent ∷ []) →
      htcp_tst g s from trans desired spec now ≡ replies s reply
  unfolding tst_by
  refuses_tst wanted stranger sent reply is_sent is_reply =
      is_desired wanted
      ∙ ap (λ b. tst_by b (htcp trans (tst_answer (copy_meant g s spec now)))) (sym stranger)
      ∙ sym (ap (λ r. replies s r) (is_reply ∙ ap (λ o. sending (o ∷ [])) is_sent))

  pub answers_tst : desired ≡ true → true ≡ answers_to g s udp.Htcp from →
      (stamp : Option ℕ) (sent : Outgoing) (reply : Reply X) → stamp ≡ option_map (λ c. c.stamp) (copy_meant g s spec now) →
      sent ≡ to from (htcp trans (tst_content stamp)) → reply ≡ sending (sent ∷ []) → htcp_tst g s from trans desired spec now ≡ replies s reply
  unfolding tst_by
  answers_tst wanted known stamp sent reply is_stamp is_sent is_reply =
      is_desired wanted
      ∙ ap (λ b. tst_by b (htcp trans (tst_answer (copy_meant g s spec now)))) (sym known)
      ∙ sym
      (ap (λ r. replies s r)
      (is_reply ∙ ap (λ o. sending (o ∷ [])) (is_sent ∙ ap (λ a. to from (htcp trans a)) (ap tst_content is_stamp ∙ content_of (copy_meant g s spec now)))))
