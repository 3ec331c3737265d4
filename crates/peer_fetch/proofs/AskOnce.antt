-- An input has one head by the parser's grammar, so the head of a request makes one request or has
-- one first fault, and no such head is a proper front of another.
use Rattle.std.proofs.Common.{◌≡◌, ℕ, List, [], ◌++◌, append-nil, Option, Some, None, Result, refl, sym, ap, ◌∙◌, subst}
use Rattle.httparse.specs.Grammar.{RequestHead, ReadsRequest}
use Rattle.httparse.proofs.GrammarLemmas.{request_unique, ReadsRequest-append}
use Rattle.http_messages.specs.declared.ask.Ask.{Ask}
use Rattle.http_messages.specs.declared.fault.FetchFault.{FetchFault}
use Rattle.http_reading.specs.AskHead.{AskHead, parts_of, first_fault, url_of, asked, Says, SaysBy}
use Rattle.http_reading.specs.Asks.{SpellsHead}
use Rattle.peer_fetch.proofs.Keys.{key_once}

says_by_once : (fault : Option FetchFault) (h : AskHead) (x y : Result Ask FetchFault) → SaysBy fault h x → SaysBy fault h y → x ≡ y
says_by_once (Some fault) h x y a b = a ∙ sym b
says_by_once None h x y (read, key, is) (other, same, this) = is ∙ ap (asked h.fields) (key_once (url_of h) read other key same) ∙ sym this

pub says_once : (h : AskHead) (x y : Result Ask FetchFault) → Says h x → Says h y → x ≡ y
says_once h x y a b = says_by_once (first_fault h) h x y a b

-- two fronts of one input that are heads are one front, and say one thing
pub fronts_once : (input a r b q : List ℕ) (x y : Result Ask FetchFault) → input ≡ a ++ r → input ≡ b ++ q → SpellsHead a x → SpellsHead b y → (r ≡ q) × (x ≡ y)
fronts_once input a r b q x y first second here there =
    let one : ReadsRequest input here.head r = subst (λ (t : List ℕ). ReadsRequest t here.head r) (sym first) (ReadsRequest-append a here.head [] r here.reads)
    in
    let other : ReadsRequest input there.head q = subst (λ (t : List ℕ). ReadsRequest t there.head q) (sym second)
    (ReadsRequest-append b there.head [] q there.reads) in
    let same = request_unique input here.head there.head r q one other in
    (same.1, says_once (parts_of there.head) x y (subst (λ (h : RequestHead). Says (parts_of h) x) same.0 here.says) there.says)

pub no_proper_front : (a b : List ℕ) (x y : Result Ask FetchFault) → SpellsHead a x → SpellsHead (a ++ b) y → (b ≡ []) × (x ≡ y)
no_proper_front a b x y here there = fronts_once (a ++ b) a b (a ++ b) [] x y refl (sym (append-nil (a ++ b))) here there
