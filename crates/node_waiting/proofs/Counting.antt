-- Following an answer leaves at least one answer less to follow: its peer is asked now, so the
-- answer counts as followed.
use Rattle.std.proofs.Common.{◌≡◌, ℕ, zero, suc, ◌+◌, ◌≤◌, Bool, true, false, cond, List, [], ◌∷◌, count_by, Some, refl, sym, ap, subst, arith}
use Rattle.std.specs.List.{Contains}
use Rattle.std.proofs.lemmas.Bool.Decides.{nat_tests}
use Rattle.std.proofs.lemmas.List.Sums.{sum_by-cons}
use Rattle.peer_chooser.specs.declared.said.FirstAnswer.{FirstAnswer}
use Rattle.peer_chooser.specs.Round.{RoundText}
use Rattle.peer_chooser.specs.Choice.{is_open}
use Rattle.node_rules.specs.declared.state.Fetch.{Fetch}
use Rattle.node_rules.specs.declared.state.Fetch.TheVariants.{Nowhere, AtPeer, AtOrigin}
use Rattle.node_rules.specs.declared.state.Pending.{Pending}
use Rattle.node_rules.specs.State.{is_idle}
use Rattle.node_rules.specs.Fetching.{fetching}
use Rattle.node_waiting.specs.CanGoOn.{answers_of, is_asked_now, is_untried, untried_count}

pub count_le : {X : Type 0} (p q : X → Bool) (xs : List X) → ((x : X) → q x ≡ true → p x ≡ true) → count_by q xs ≤ count_by p xs
count_le p q [] weaker = omega arith
count_le {X} p q (x ∷ xs) weaker =
    let ih = count_le p q xs weaker in
    let h = weaker x in
    let more : (r : X → Bool) → count_by r (x ∷ xs) ≡ cond (r x) 1 0 + count_by r xs = λ r. sum_by-cons (λ x. cond (r x) 1 0) x xs in
    grind (arith, more p, more q)

pub count_falls : {X : Type 0} (p q : X → Bool) (xs : List X) (x : X) → ((x : X) → q x ≡ true → p x ≡ true) → Contains xs x → p x ≡ true → q x ≡ false →
    count_by q xs + 1 ≤ count_by p xs
count_falls p q [] x weaker (k, l, is) holds fails = absurd (omega (arith, l))
count_falls {X} p q (y ∷ xs) x weaker (zero, l, is) holds fails =
    let le = count_le p q xs weaker in
    let more : (r : X → Bool) → count_by r (y ∷ xs) ≡ cond (r y) 1 0 + count_by r xs = λ r. sum_by-cons (λ x. cond (r x) 1 0) y xs in
    let here : p y ≡ true = subst (λ (z : X). p z ≡ true) (sym is) holds in
    let not_here : q y ≡ false = subst (λ (z : X). q z ≡ false) (sym is) fails in
    grind (arith, more p, more q)
count_falls {X} p q (y ∷ xs) x weaker (suc k, l, is) holds fails =
    let ih = count_falls p q xs x weaker (k, omega (arith, l), is) holds fails in
    let h = weaker y in
    let more : (r : X → Bool) → count_by r (y ∷ xs) ≡ cond (r y) 1 0 + count_by r xs = λ r. sum_by-cons (λ x. cond (r x) 1 0) y xs in
    grind (arith, more p, more q)

-- a request that does not fetch asks no peer
not_asked : {X : Type 0} (id : ℕ) (fetch : Fetch X) → is_idle fetch ≡ true → is_asked_now id fetch ≡ false
not_asked id Nowhere idle = refl
not_asked id (AtPeer peer asked) idle = cc
not_asked id (AtOrigin stamp asked mark) idle = cc

-- a request that goes to the peer of an answer has one answer less to follow
pub one_less : {X : Type 0} (p : Pending X) (r : RoundText) (t : FirstAnswer) (peer now floor : ℕ) → p.round ≡ Some r → is_idle p.fetch ≡ true →
    Contains r.answers t → t.peer.id ≡ peer → is_open floor p.tried t.peer ≡ true → untried_count (fetching p p.reads (AtPeer peer now)) + 1 ≤ untried_count p
one_less {X} p r t peer now floor round idle answered same free_to_ask =
    let answers : answers_of p.round ≡ r.answers = ap answers_of round in
    let after : Fetch X = AtPeer peer now in
    let weaker : (x : FirstAnswer) → is_untried p.tried after x ≡ true → is_untried p.tried p.fetch x ≡ true = λ x h.
    let free = not_asked x.peer.id p.fetch idle in
    grind arith in
    let holds : is_untried p.tried p.fetch t ≡ true = let free = not_asked t.peer.id p.fetch idle in grind arith in
    let fails : is_untried p.tried after t ≡ false = grind (arith, nat_tests) in
    rw answers (count_falls (is_untried p.tried p.fetch) (is_untried p.tried after) r.answers t weaker answered holds fails)
