-- The messages that a node sends can be encoded. A key has no zero octet and at most 1,024 octets,
-- so queries are short enough; a response is as long as the miss that must fit; a stamp has at most
-- ten digits.
use Rattle.std.proofs.Common.{◌≡◌, ◌≢◌, ℕ, ◌≤◌, ◌<◌, ◌+◌, ◌^◌, true, false, subst, List, [], ◌∷◌, ◌++◌, length, Some, Ok, Err, refl, sym, inl, inr, codes}
use Rattle.std.proofs.Common.{decimal, arith, length-append, Contains}
use Rattle.std.specs.List.{list_all}
use Rattle.std.proofs.lemmas.Bool.{cases_Bool, le-ltb}
use Rattle.std.proofs.lemmas.List.Sums.{AllPass-from_list_all}
use Rattle.std.proofs.lemmas.List.Elements.{All-contains}
use Rattle.std.proofs.lemmas.Fmt.{length-decimal-le}
use Rattle.url_key.specs.declared.fault.KeyFault.{KeyFault}
use Rattle.url_key.specs.declared.fault.KeyFault.TheVariants.{NotVisibleAscii}
use Rattle.url_key.specs.Text.{is_visible}
use Rattle.url_key.specs.Key.{IsKey, HasKey, HasKeyBy, early_fault}
use Rattle.byteorder.specs.Endian.{big_bytes}
use Rattle.icp_wire.specs.declared.message.IcpOp.{IcpOp}
use Rattle.icp_wire.specs.declared.message.IcpOp.TheVariants as op
use Rattle.icp_wire.specs.Written as icp_text
use Rattle.htcp_wire.specs.declared.message.Content.TheVariants as content
use Rattle.htcp_wire.specs.Written as htcp_text
use Rattle.values_plain.specs.Counted.{counted}
use Rattle.htcp_wire.proofs.Writings.{length-written_with}
use Rattle.node_rules.specs.Texts.{icp_message}
use Rattle.node_rules.specs.Messages.{get}
use Rattle.node_rules.specs.Datagrams.{tst_hit}

-- A key has no zero octet

hidden_fault : (key : List ℕ) → length key ≤ 1024 → list_all is_visible key ≡ false → early_fault key ≡ Some NotVisibleAscii
hidden_fault key short hidden = rw (le-ltb 1024 (length key) short, hidden) refl

no_fault : (key : List ℕ) (fault : KeyFault) → IsKey key → early_fault key ≡ Some fault → ⊥
no_fault key fault k e =
    let has : HasKey key (Err fault) = subst (λ f. HasKeyBy f key (Err fault)) (sym e) refl in
    let bad : Err fault ≡ Ok key = k.own (Err fault) has in cc

visible : (key : List ℕ) → IsKey key → list_all is_visible key ≡ true
visible key k = elim (cases_Bool (list_all is_visible key)) [
  | inl all ↦ all
  | inr hidden ↦ absurd (no_fault key NotVisibleAscii k (hidden_fault key k.short hidden))
]

pub no_zero : (key : List ℕ) → IsKey key → ¬ Contains key 0
no_zero key k has =
    let seen : is_visible 0 ≡ true = All-contains (λ b. is_visible b ≡ true) key 0 (AllPass-from_list_all is_visible key (visible key k)) has in cc

-- Queries

pub icp_query_fits : (serial : ℕ) (key : List ℕ) → IsKey key → icp_text.Fits (icp_message op.Query serial key)
icp_query_fits serial key k = record {
  op = λ e. cc;
  object = refl;
  no_zero = no_zero key k;
  short = omega (arith, k.short, length-append key (0 ∷ []));
}

pub htcp_query_fits : (serial : ℕ) (key : List ℕ) → IsKey key → htcp_text.Fits record { minor = 0; trans = serial; content = content.TstAsk true (get key) }
htcp_query_fits serial key k = record {
  minor = refl;
  in_range = tt;
  short =
      let size = length-written_with serial (htcp_text.written_data (content.TstAsk true (get key))) in
      omega (arith, k.short, size, length-append key (counted (codes "HTTP/1.1") ++ counted []));
}

-- Answers

short_answer : (code number count : ℕ) (url : List ℕ) → 21 + length url ≤ 16384 →
    length (code ∷ 2 ∷ (big_bytes 2 count ++ big_bytes 4 number ++ icp_text.unset ++ icp_text.unset ++ icp_text.unset ++ (url ++ 0 ∷ []))) ≤ 16384
short_answer code number count url short = omega (arith, short, length-append url (0 ∷ []))

room : (number : ℕ) (url : List ℕ) → icp_text.Fits (icp_message op.Miss number url) → 21 + length url ≤ 16384
room number url fits = let short = fits.short in omega (arith, short, length-append url (0 ∷ []))

-- an answer may bear another opcode than a miss
pub answer_fits : (code : IcpOp) (number : ℕ) (url : List ℕ) → code ≢ op.Query → code ≢ op.HitObj → icp_text.Fits (icp_message op.Miss number url) →
    icp_text.Fits (icp_message code number url)
answer_fits op.Query number url query object fits = absurd (query refl)
answer_fits op.Hit number url query object fits = record {
  op = λ e. cc;
  object = refl;
  no_zero = fits.no_zero;
  short =
      short_answer 2 number (20 + length (url ++ 0 ∷ [])) url (room number url fits);
}
answer_fits op.Miss number url query object fits = fits
answer_fits op.Error number url query object fits = record {
  op = λ e. cc;
  object = refl;
  no_zero = fits.no_zero;
  short =
      short_answer 4 number (20 + length (url ++ 0 ∷ [])) url (room number url fits);
}
answer_fits op.MissNoFetch number url query object fits = record {
  op = λ e. cc;
  object = refl;
  no_zero = fits.no_zero;
  short =
      short_answer 21 number (20 + length (url ++ 0 ∷ [])) url (room number url fits);
}
answer_fits op.Denied number url query object fits = record {
  op = λ e. cc;
  object = refl;
  no_zero = fits.no_zero;
  short =
      short_answer 22 number (20 + length (url ++ 0 ∷ [])) url (room number url fits);
}
answer_fits op.HitObj number url query object fits = absurd (object refl)

pub hit_fits : (trans stamp : ℕ) → stamp < 2 ^ 32 → htcp_text.Fits record { minor = 0; trans = trans; content = tst_hit stamp }
hit_fits trans stamp small = record {
  minor = refl;
  in_range = tt;
  short = let size = length-written_with trans (htcp_text.written_data (tst_hit stamp)) in let digits =
      length-decimal-le 10 stamp (omega arith) (omega arith) (omega arith) in omega (arith, size, digits, length-append (decimal stamp) (13 ∷ 10 ∷ []));
}
