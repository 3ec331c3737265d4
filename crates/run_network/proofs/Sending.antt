-- One more datagram is sent. By its receiver it is a datagram to a member, a response to a CLR for
-- the master, or nothing that is looked for; in each case what is held stays exact.
use Rattle.std.proofs.Common.{◌≡◌, ◌⊎◌, ◌↔◌, ℕ, true, false, List, [], ◌∷◌, ◌++◌, Some, None, sym, ◌∙◌, ap, subst, inl, inr}
use Rattle.std.specs.Prelude.{OnOk, Result, Ok, Err}
use Rattle.std.proofs.lemmas.List.Elements.{Contains-append_left, Contains-push, Contains-push_cases}
use Rattle.std.proofs.lemmas.Option.{none-some}
use Rattle.values_plain.specs.declared.address.Address.{Address}
use Rattle.values_tables.specs.declared.plain.Tables.{Tables}
use Rattle.values_plain.specs.declared.address.Udp.TheVariants as udp
use Rattle.roster.specs.Lookups.{member_at, is_master}
use Rattle.node_rules.specs.declared.message.Message.{Message}
use Rattle.node_rules.proofs.Cases.{true_not_false}
use Rattle.node_rules.specs.Messages.{protocol_of as udp_of, clear_answer}
use Rattle.world_rules.specs.World.{Datagram}
use Rattle.run_rules.specs.Sent.{ComesTo, IsAnswerOf}
use Rattle.run_rules.proofs.Lists.{same_some, contains_none}
use Rattle.run_network.specs.declared.letters.Letter.{Letter}
use Rattle.run_network.specs.declared.letters.Acknowledgement.{Acknowledgement}
use Rattle.run_network.specs.declared.letters.Letters.{Letters}
use Rattle.run_network.specs.Held.{HasLetter, HasAcknowledged, HoldsLetters, IsSentTo, IsAnswered}

abbrev pub letter : Address → ℕ → Message → Letter
letter sender receiver message = record { sender = sender; receiver = receiver; message = message }

abbrev pub acknowledgement : ℕ → ℕ → Acknowledgement
acknowledgement member code = record { member = member; code = code }

letter_is : (l : Letter) (sender : Address) (receiver : ℕ) (message : Message) → sender ≡ l.sender → receiver ≡ l.receiver → message ≡ l.message →
    record { sender = sender; receiver = receiver; message = message } ≡ l
letter_is l sender receiver message s r m =
    ap (λ a. letter a receiver message) s ∙ ap (λ b. letter l.sender b message) r ∙ ap (λ c. letter l.sender l.receiver c) m

answer_is : (a : Acknowledgement) (member code : ℕ) → member ≡ a.member → code ≡ a.code → record { member = member; code = code } ≡ a
answer_is a member code m c =
    ap (λ x. acknowledgement x code) m ∙ ap (λ y. acknowledgement a.member y) c

module _ (roster : Tables) (sent : List Datagram) (d : Datagram) where
  sent_still : (l : Letter) → IsSentTo roster sent l → IsSentTo roster (sent ++ d ∷ []) l
  sent_still l (x, among, from, says, comes) = (x, Contains-append_left sent (d ∷ []) x among, from, says, comes)

  answered_still : (trans : ℕ) (a : Acknowledgement) → IsAnswered roster sent trans a → IsAnswered roster (sent ++ d ∷ []) trans a
  answered_still trans a (x, among, is) = (x, Contains-append_left sent (d ∷ []) x among, is)

  -- a datagram was sent before, or is the new one
  sent_where : (l : Letter) → IsSentTo roster (sent ++ d ∷ []) l → IsSentTo roster sent l
      ⊎ ((d.sender ≡ l.sender) × (d.message ≡ l.message) × ComesTo roster l.receiver d)
  sent_where l (x, among, from, says, comes) =
      elim (Contains-push_cases sent d x among) [
        | inl before ↦ inl (x, before, from, says, comes)
        | inr new ↦ inr (
          ap (λ (y : Datagram). y.sender) new ∙ from,
          ap (λ (y : Datagram). y.message) new ∙ says,
          subst (λ (y : Datagram). ComesTo roster l.receiver y) (sym new) comes,
        )
      ]

  answered_where : (trans : ℕ) (a : Acknowledgement) → IsAnswered roster (sent ++ d ∷ []) trans a → IsAnswered roster sent trans a
      ⊎ IsAnswerOf roster a.member trans a.code d
  answered_where trans a (x, among, is) =
      elim (Contains-push_cases sent d x among) [
        | inl before ↦ inl (x, before, is)
        | inr new ↦ inr (subst (λ (y : Datagram). IsAnswerOf roster a.member trans a.code y) (sym new) is)
      ]

  -- the new one is for a member
  pub to_member : (old new : Letters) (id : ℕ) → is_master roster d.receiver ≡ false → member_at roster d.receiver (udp_of d.message) ≡ Some id →
      ((l : Letter) → HasLetter new l ↔ (HasLetter old l ⊎ (record { sender = d.sender; receiver = id; message = d.message } ≡ l))) →
      ((trans : ℕ) (a : Acknowledgement) → HasAcknowledged new trans a ↔ HasAcknowledged old trans a) →
      HoldsLetters roster old sent → HoldsLetters roster new (sent ++ d ∷ [])
  to_member old new id other at letters answers holds = record {
    sent_to = λ l. (
      λ h. elim ((letters l).0 h) [
        | inl before ↦ sent_still l ((holds.sent_to l).0 before)
        | inr same ↦ (
          d,
          Contains-push sent d,
          ap (λ (k : Letter). k.sender) same,
          ap (λ (k : Letter). k.message) same,
          (other, at ∙ ap (λ (k : Letter). Some k.receiver) same),
        )
      ],
      λ h. (letters l).1 (elim (sent_where l h) [
        | inl before ↦ inl ((holds.sent_to l).1 before)
        | inr now ↦ inr (letter_is l d.sender id d.message now.0 (same_some id l.receiver (sym at ∙ now.2.1)) now.1)
      ]),
    );
    answered = λ trans a. (
      λ h. answered_still trans a ((holds.answered trans a).0 ((answers trans a).0 h)),
      λ h. (answers trans a).1 (elim (answered_where trans a h) [
        | inl before ↦ (holds.answered trans a).1 before
        | inr now ↦ absurd (true_not_false (sym now.receiver ∙ other))
      ]),
    );
  }

  -- the new one is for nobody
  pub to_nobody : (old : Letters) → is_master roster d.receiver ≡ false → member_at roster d.receiver (udp_of d.message) ≡ None → HoldsLetters roster old sent →
      HoldsLetters roster old (sent ++ d ∷ [])
  to_nobody old other nobody holds = record {
    sent_to = λ l. (
      λ h. sent_still l ((holds.sent_to l).0 h),
      λ h. elim (sent_where l h) [ inl before ↦ (holds.sent_to l).1 before | inr now ↦ absurd (none-some l.receiver (sym nobody ∙ now.2.1)) ],
    );
    answered = λ trans a. (
      λ h. answered_still trans a ((holds.answered trans a).0 h),
      λ h. elim (answered_where trans a h) [ inl before ↦ (holds.answered trans a).1 before | inr now ↦ absurd (true_not_false (sym now.receiver ∙ other)) ],
    );
  }

  -- the new one is a member's response to a CLR, for the master
  pub to_master : (old new : Letters) (id trans code : ℕ) → is_master roster d.receiver ≡ true → member_at roster d.sender udp.Htcp ≡ Some id →
      clear_answer d.message ≡ Some (trans, code) →
      ((l : Letter) → HasLetter new l ↔ HasLetter old l) →
      ((number : ℕ) (a : Acknowledgement) → HasAcknowledged new number a ↔
      (HasAcknowledged old number a ⊎ ((trans ≡ number) × (record { member = id; code = code } ≡ a)))) →
      HoldsLetters roster old sent → HoldsLetters roster new (sent ++ d ∷ [])
  to_master old new id trans code master from says letters answers holds = record {
    sent_to = λ l. (
      λ h. sent_still l ((holds.sent_to l).0 ((letters l).0 h)),
      λ h. (letters l).1 (elim (sent_where l h) [
        | inl before ↦ (holds.sent_to l).1 before
        | inr now ↦ absurd (true_not_false (sym master ∙ now.2.0))
      ]),
    );
    answered = λ number a. (
      λ h. elim ((answers number a).0 h) [
        | inl before ↦ answered_still number a ((holds.answered number a).0 before)
        | inr now ↦ (
          d,
          Contains-push sent d,
          record {
            receiver = master;
            sender = from ∙ ap (λ (k : Acknowledgement). Some k.member) now.1;
            says = says ∙ ap (λ (n : ℕ). Some (n, code)) now.0 ∙ ap (λ (k : Acknowledgement). Some (number, k.code)) now.1;
          },
        )
      ],
      λ h. (answers number a).1 (elim (answered_where number a h) [
        | inl before ↦ inl ((holds.answered number a).1 before)
        | inr now ↦
            let pair = same_some (trans, code) (number, a.code) (sym says ∙ now.says) in
            inr (ap (λ (p : ℕ × ℕ). p.0) pair, answer_is a id code (same_some id a.member (sym from ∙ now.sender)) (ap (λ (p : ℕ × ℕ). p.1) pair))
      ]),
    );
  }

  -- the new one is for the master, who ignores it
  pub unheeded : (old : Letters) → is_master roster d.receiver ≡ true →
      ((id trans code : ℕ) → member_at roster d.sender udp.Htcp ≡ Some id → clear_answer d.message ≡ Some (trans, code) → ⊥) →
      HoldsLetters roster old sent → HoldsLetters roster old (sent ++ d ∷ [])
  unheeded old master no_answer holds = record {
    sent_to = λ l. (
      λ h. sent_still l ((holds.sent_to l).0 h),
      λ h. elim (sent_where l h) [ inl before ↦ (holds.sent_to l).1 before | inr now ↦ absurd (true_not_false (sym master ∙ now.2.0)) ],
    );
    answered = λ trans a. (
      λ h. answered_still trans a ((holds.answered trans a).0 h),
      λ h. elim (answered_where trans a h) [
        | inl before ↦ (holds.answered trans a).1 before
        | inr now ↦ absurd
            (no_answer a.member trans a.code now.sender now.says)
      ],
    );
  }

-- nothing was sent
pub nothing_held : (roster : Tables) (letters : Letters) → ((l : Letter) → HasLetter letters l → ⊥) →
    ((trans : ℕ) (a : Acknowledgement) → HasAcknowledged letters trans a → ⊥) → HoldsLetters roster letters []
nothing_held roster letters none silent = record {
  sent_to = λ l. (λ h. absurd (none l h), λ h. absurd (contains_none h.0 h.1));
  answered = λ trans a. (λ h. absurd (silent trans a h), λ h. absurd (contains_none h.0 h.1));
}

-- Calls that send

pub to_member_on : {R E : Type 0} (r : Result R E) (roster : Tables) (d : Datagram) (old new : Letters) (id : ℕ) → is_master roster d.receiver ≡ false →
    member_at roster d.receiver (udp_of d.message) ≡ Some id →
    OnOk r ((l : Letter) → HasLetter new l ↔ (HasLetter old l ⊎ (record { sender = d.sender; receiver = id; message = d.message } ≡ l))) →
    OnOk r ((trans : ℕ) (a : Acknowledgement) → HasAcknowledged new trans a ↔ HasAcknowledged old trans a) →
    OnOk r ((sent : List Datagram) → HoldsLetters roster old sent → HoldsLetters roster new (sent ++ d ∷ []))
to_member_on (Ok r) roster d old new id other at letters answers = λ sent holds. to_member roster sent d old new id other at letters answers holds
to_member_on (Err e) roster d old new id other at letters answers = tt

pub to_master_on : {R E : Type 0} (r : Result R E) (roster : Tables) (d : Datagram) (old new : Letters) (id trans code : ℕ) →
    is_master roster d.receiver ≡ true → member_at roster d.sender udp.Htcp ≡ Some id → clear_answer d.message ≡ Some (trans, code) →
    OnOk r ((l : Letter) → HasLetter new l ↔ HasLetter old l) →
    OnOk r ((number : ℕ) (a : Acknowledgement) → HasAcknowledged new number a ↔
    (HasAcknowledged old number a ⊎ ((trans ≡ number) × (record { member = id; code = code } ≡ a)))) →
    OnOk r ((sent : List Datagram) → HoldsLetters roster old sent → HoldsLetters roster new (sent ++ d ∷ []))
to_master_on (Ok r) roster d old new id trans code master from says letters answers = λ sent holds. to_master roster sent d old new id trans code master from
    says letters answers holds
to_master_on (Err e) roster d old new id trans code master from says letters answers = tt

-- what holds of a message holds of an equal one
pub message_on : {R E : Type 0} (r : Result R E) (roster : Tables) (old new : Letters) (sender receiver : Address) (one other : Message) → one ≡ other →
    OnOk r ((sent : List Datagram) → HoldsLetters roster old sent → HoldsLetters roster new
    (sent ++ record { sender = sender; receiver = receiver; message = one } ∷ [])) →
    OnOk r ((sent : List Datagram) → HoldsLetters roster old sent → HoldsLetters roster new
    (sent ++ record { sender = sender; receiver = receiver; message = other } ∷ []))
message_on r roster old new sender receiver one other is holds =
    subst (λ m. OnOk r ((sent : List Datagram) → HoldsLetters roster old sent → HoldsLetters roster new
    (sent ++ record { sender = sender; receiver = receiver; message = m } ∷ []))) is holds
