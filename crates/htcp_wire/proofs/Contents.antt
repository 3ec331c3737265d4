-- The content that is read of DATA is one that the grammar gives this DATA, and is read again from
-- any DATA that the grammar gives it: by cases on RR, F1, OPCODE and RESPONSE.
use Rattle.std.proofs.Common.{◌≡◌, ℕ, ◌+◌, ◌*◌, ◌/◌, ◌%◌, ◌^◌, ◌<◌, ◌≤◌, Bool, true, false, not, cond, eqb, ltb, leb, ◌&&◌, ◌||◌, List, [], ◌∷◌, ◌++◌, length}
use Rattle.std.proofs.Common.{drop, Some, None, refl, sym, ap, subst, ◌∙◌, arith, inl, inr}
use Rattle.std.specs.Prelude.{◌⊎◌, slice_index}
use Rattle.std.specs.Option.{option_map}
use Rattle.std.proofs.Math.Nat.{div-add-mod', mod-lt, mod-eq_of_lt, mul-add-mod_self_right}
use Rattle.std.proofs.lemmas.Bool.{eqb-true, ltb-false, le-ltb, leb-true, le-leb, not-true, not-false, and_parts, or_parts, or_from}
use Rattle.std.proofs.lemmas.List.{length-append}
use Rattle.values_plain.specs.Fields.{IsOctets}
use Rattle.values_plain.specs.Counted.{counted, split_counted}
use Rattle.values_plain.specs.Laws.{IsOctets-drop, split_counted-counted}
use Rattle.htcp_wire.specs.declared.message.Specifier.{Specifier}
use Rattle.htcp_wire.specs.declared.message.Content.{Content}
use Rattle.htcp_wire.specs.declared.message.Content.TheVariants.{NopAsk, NopAnswer, TstAsk, TstHit, TstMiss, ClrAsk, ClrAnswer, Other, Overall, OtherAnswer}
use Rattle.htcp_wire.specs.Grammar.{Data, clr, specifier, detail, Begins, Asks, Answers, Clears, IsContent}
use Rattle.htcp_wire.specs.Reading.{specifier_at, detail_at, clr_at, ask_at, answer_at, content_at}
use Rattle.htcp_wire.proofs.Texts.{mapped, some_is, specifier_takes, specifier_again, detail_takes, detail_again, cache_takes}

-- which way a test went
chosen : {A : Type 0} (b : Bool) (x y z : A) → cond b x y ≡ z → ((b ≡ true) × (x ≡ z)) ⊎ ((b ≡ false) × (y ≡ z))
chosen true x y z e = inl (refl, e)
chosen false x y z e = inr (refl, e)

is_content : (section : Data) (made content : Content) → made ≡ content → IsContent made section → IsContent content section
is_content section made content same is = subst (λ (c : Content). IsContent c section) same is

-- ---- from DATA to the content

two_of : (octets : List ℕ) → 2 ≤ length octets → octets ≡ slice_index octets 0 ∷ slice_index octets 1 ∷ drop 2 octets
two_of [] long = absurd (omega arith)
two_of (first ∷ []) long = absurd (omega arith)
two_of (first ∷ second ∷ rest) long = refl

clr_takes : (section : Data) (desired : Bool) (content : Content) → IsOctets section.op_data → Asks section clr desired →
    clr_at desired section.op_data ≡ Some content → IsContent content section
clr_takes section desired content fits asks e =
    let octets = section.op_data in
    let low = slice_index octets 1 in
    elim (chosen (ltb (length octets) 2) None (option_map (λ spec. ClrAsk desired (low % 16) spec) (specifier_at (drop 2 octets))) (Some content) e) [
      | inl short ↦ absurd cc
      | inr long ↦
          let spec = mapped (λ (s : Specifier). ClrAsk desired (low % 16) s) (specifier_at (drop 2 octets)) content long.1 in
          let text = specifier_takes (drop 2 octets) spec.0 (IsOctets-drop 2 octets fits) spec.1 in
          let split : low ≡ low / 16 * 16 + low % 16 = sym (div-add-mod' low 16) in
          let begins : octets ≡ (slice_index octets 0 ∷ (low / 16 * 16 + low % 16) ∷ specifier spec.0) ++ text.0 =
          two_of octets (ltb-false _ _ long.0)
          ∙ ap (λ (n : ℕ). slice_index octets 0 ∷ n ∷ drop 2 octets) split
          ∙ ap (λ (t : List ℕ). slice_index octets 0 ∷ (low / 16 * 16 + low % 16) ∷ t) text.1 in
          is_content section (ClrAsk desired (low % 16) spec.0) content spec.2
          (asks, record { high = slice_index octets 0; low = low / 16; begins = record { spare = text.0; parts = begins }; small = mod-lt low (omega arith) })
    ]

ask_takes : (section : Data) (content : Content) → IsOctets section.op_data → section.rr ≡ false →
    ask_at section.opcode section.f1 section.op_data ≡ Some content → IsContent content section
ask_takes section content fits rr e =
    let opcode = section.opcode in
    let desired = section.f1 in
    let asks : (code : ℕ) → opcode ≡ code → Asks section code desired = λ code is. record { rr = rr; f1 = refl; opcode_is = is } in
    elim (chosen (eqb opcode 0) _ _ _ e) [
      | inl here ↦ is_content section (NopAsk desired) content (some_is _ _ here.1) (asks 0 (eqb-true _ _ here.0))
      | inr not_nop ↦ elim (chosen (eqb opcode 1) _ _ _ not_nop.1) [
        | inl here ↦
            let spec = mapped (λ (s : Specifier). TstAsk desired s) (specifier_at section.op_data) content here.1 in
            let text = specifier_takes section.op_data spec.0 fits spec.1 in
            is_content section (TstAsk desired spec.0) content spec.2 (asks 1 (eqb-true _ _ here.0), record { spare = text.0; parts = text.1 })
        | inr not_tst ↦ elim (chosen (eqb opcode 4) _ _ _ not_tst.1) [
          | inl here ↦ clr_takes section desired content fits (asks 4 (eqb-true _ _ here.0)) here.1
          | inr not_clr ↦ is_content section (Other opcode desired) content (some_is _ _ not_clr.1)
              (asks opcode refl, or_from _ _ (or_from _ _ not_nop.0 not_tst.0) not_clr.0)
        ]
      ]
    ]

-- what is read is the content of the first test on OPCODE and RESPONSE that holds, and none before it does
answer_takes : (section : Data) (content : Content) → IsOctets section.op_data → section.rr ≡ true → section.f1 ≡ false
    → answer_at section.opcode section.response section.op_data ≡ Some content → IsContent content section
answer_takes section content fits rr f1 e =
    let opcode = section.opcode in
    let code = section.response in
    let answers : (o c : ℕ) → opcode ≡ o → code ≡ c → Answers section o c false = λ o c is_o is_c. record { rr = rr; f1 = f1; opcode_is = is_o; code_is = is_c }
    in
    elim (chosen (eqb opcode 0 && eqb code 0) _ _ _ e) [
      | inl here ↦
          let both = and_parts _ _ here.0 in
          is_content section NopAnswer content (some_is _ _ here.1) (answers 0 0 (eqb-true _ _ both.0) (eqb-true _ _ both.1))
      | inr not_nop ↦ elim (chosen (eqb opcode 1 && eqb code 0) _ _ _ not_nop.1) [
        | inl here ↦
            let both = and_parts _ _ here.0 in
            let known = mapped (λ k. TstHit k) (detail_at section.op_data) content here.1 in
            let text = detail_takes section.op_data known.0 fits known.1 in
            is_content section (TstHit known.0) content known.2 (
              answers 1 0 (eqb-true _ _ both.0) (eqb-true _ _ both.1),
              record { spare = text.0; parts = text.1 },
            )
        | inr not_hit ↦ elim (chosen (eqb opcode 1 && eqb code 1) _ _ _ not_hit.1) [
          | inl here ↦
              let both = and_parts _ _ here.0 in
              let cut = mapped (λ (c : List ℕ × List ℕ). TstMiss c.0) (split_counted section.op_data) content here.1 in
              is_content section (TstMiss cut.0.0) content cut.2
              (answers 1 1 (eqb-true _ _ both.0) (eqb-true _ _ both.1), record { spare = cut.0.1; parts = cache_takes section.op_data cut.0 fits cut.1 })
          | inr not_miss ↦ elim (chosen (eqb opcode 4 && leb code 2) _ _ _ not_miss.1) [
            | inl here ↦
                let both = and_parts _ _ here.0 in
                is_content section (ClrAnswer code) content (some_is _ _ here.1) (answers 4 code (eqb-true _ _ both.0) refl, leb-true _ _ both.1)
            | inr not_clr ↦ is_content section (OtherAnswer opcode code) content (some_is _ _ not_clr.1)
                (answers opcode code refl refl, or_from _ _ (or_from _ _ (or_from _ _ not_nop.0 not_hit.0) not_miss.0) not_clr.0)
          ]
        ]
      ]
    ]

pub content_takes : (section : Data) (content : Content) → IsOctets section.op_data → content_at section ≡ Some content → IsContent content section
unfolding content_at
content_takes section content fits e =
    elim (chosen (not section.rr) _ _ _ e) [
      | inl ask ↦ ask_takes section content fits (not-true _ ask.0) ask.1
      | inr answer ↦ elim (chosen section.f1 _ _ _ answer.1) [
        | inl overall ↦ is_content section (Overall section.opcode section.response) content (some_is _ _ overall.1)
            (record { rr = not-false _ answer.0; f1 = overall.0; opcode_is = refl; code_is = refl })
        | inr other ↦ answer_takes section content fits (not-false _ answer.0) other.0 other.1
      ]
    ]

-- ---- from the content to DATA

front_short : (section : Data) (text : List ℕ) → length section.op_data < 2 ^ 16 → (begins : Begins section text) → length text < 2 ^ 16
front_short section text small begins = omega (arith, ap length begins.parts, length-append text begins.spare)

asks_again : (section : Data) (opcode : ℕ) (desired : Bool) (content : Content) → Asks section opcode desired →
    ask_at opcode desired section.op_data ≡ Some content → content_at section ≡ Some content
unfolding content_at
asks_again section opcode desired content asks e = rw (asks.rr, asks.opcode_is, asks.f1) e

answers_again : (section : Data) (opcode code : ℕ) (content : Content) → Answers section opcode code false →
    answer_at opcode code section.op_data ≡ Some content → content_at section ≡ Some content
unfolding content_at
answers_again section opcode code content answers e = rw (answers.rr, answers.f1, answers.opcode_is, answers.code_is) e

clr_again : (section : Data) (desired : Bool) (reason : ℕ) (spec : Specifier) → length section.op_data < 2 ^ 16 → Clears section reason spec →
    clr_at desired section.op_data ≡ Some (ClrAsk desired reason spec)
clr_again section desired reason spec small clears =
    let short = front_short section (clears.high ∷ (clears.low * 16 + reason) ∷ specifier spec) small clears.begins in
    let parts : section.op_data ≡ clears.high ∷ (clears.low * 16 + reason) ∷ (specifier spec ++ clears.begins.spare) = clears.begins.parts in
    let reason_is : (clears.low * 16 + reason) % 16 ≡ reason = mul-add-mod_self_right clears.low 16 reason ∙ mod-eq_of_lt clears.small in
    let long : ltb (length (clears.high ∷ (clears.low * 16 + reason) ∷ (specifier spec ++ clears.begins.spare))) 2 ≡ false = le-ltb _ _ (omega arith) in
    ap (clr_at desired) parts ∙ rw (long, reason_is, specifier_again spec clears.begins.spare (omega arith)) refl

-- each content's OPCODE and RESPONSE pass its own test and none before it, and its parts are read again
pub content_again : (content : Content) (section : Data) → length section.op_data < 2 ^ 16 → IsContent content section → content_at section ≡ Some content
unfolding content_at
content_again (NopAsk desired) section small asks = asks_again section 0 desired (NopAsk desired) asks refl
content_again NopAnswer section small answers = answers_again section 0 0 NopAnswer answers refl
content_again (TstAsk desired spec) section small (asks, begins) =
    let read = specifier_again spec begins.spare (front_short section (specifier spec) small begins) in
    asks_again section 1 desired (TstAsk desired spec) asks (rw (begins.parts, read) refl)
content_again (TstHit known) section small (answers, begins) =
    let read = detail_again known begins.spare (front_short section (detail known) small begins) in
    answers_again section 1 0 (TstHit known) answers (rw (begins.parts, read) refl)
content_again (TstMiss cache) section small (answers, begins) =
    let short = front_short section (counted cache) small begins in
    let read = split_counted-counted cache begins.spare (omega arith) in
    answers_again section 1 1 (TstMiss cache) answers (rw (begins.parts, read) refl)
content_again (ClrAsk desired reason spec) section small (asks, clears) =
    asks_again section 4 desired (ClrAsk desired reason spec) asks (clr_again section desired reason spec small clears)
content_again (ClrAnswer code) section small (answers, at_most) =
    answers_again section 4 code (ClrAnswer code) answers (rw (le-leb code 2 at_most) refl)
content_again (Other opcode desired) section small (asks, other) =
    let clr_not = or_parts (eqb opcode 0 || eqb opcode 1) (eqb opcode 4) other in
    let tst_not = or_parts (eqb opcode 0) (eqb opcode 1) clr_not.0 in
    asks_again section opcode desired (Other opcode desired) asks (rw (tst_not.0, tst_not.1, clr_not.1) refl)
content_again (Overall opcode code) section small answers = rw (answers.rr, answers.f1, answers.opcode_is, answers.code_is) refl
content_again (OtherAnswer opcode code) section small (answers, other) =
    let nop_is = eqb opcode 0 && eqb code 0 in
    let hit_is = eqb opcode 1 && eqb code 0 in
    let miss_is = eqb opcode 1 && eqb code 1 in
    let clr_not = or_parts ((nop_is || hit_is) || miss_is) (eqb opcode 4 && leb code 2) other in
    let miss_not = or_parts (nop_is || hit_is) miss_is clr_not.0 in
    let hit_not = or_parts nop_is hit_is miss_not.0 in
    answers_again section opcode code (OtherAnswer opcode code) answers (rw (hit_not.0, hit_not.1, miss_not.1, clr_not.1) refl)
