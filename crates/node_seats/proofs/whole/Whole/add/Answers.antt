use Rattle.std.proofs.Common.{◌≡◌, ◌<◌, ◌+◌, ◌++◌, ◌∷◌, [], ◌∙◌, length, ap, sym, subst, arith, length-append, slice_set, List}
use Rattle.node_book.specs.declared.book.NodeEntry.{NodeEntry}
use Rattle.node_seats.specs.Beginning.{IsHistory}
use Rattle.node_seats.specs.Seats.{AreCounts, entries_of}
use Rattle.node_seats.proofs.Entries.{as_many, counts_more, entries_fewer, own_more}
use Rattle.node_seats.proofs.whole.Whole.add.Goals as goal

pub overflow_add-index_mut : goal.overflow_add-index_mut
overflow_add-index_mut g c =
    let k = c.from-place.result in
    let within : k < length c.self.inside.counts.items = omega (arith, c.if-place-len.false, c.len.ensures) in
    let is = c.index_mut.ensures.value ∙ c.self.invariant k c.index_mut.result.now within in
    omega (
      arith,
      is,
      entries_fewer k c.self.inside.front,
      c.if-not-add_as.ensures.bound,
      ap length c.if-not-add_as.ensures.added,
      length-append c.self.inside.front (g.M.Entry.of c.args.value.now ∷ []),
    )

pub overflow_add-seat : goal.overflow_add-seat
overflow_add-seat g c =
    let seat = c.args.seat.now in
    let calls = c.seat.invariant.0 ∙ ap (λ s. length (entries_of s.number s.seen)) c.seat.view_is in
    let whole = ap (λ (l : List NodeEntry). length l) c.self.view_is in
    omega (
      arith,
      calls,
      entries_fewer seat.number seat.seen,
      ap length c.requires.next.log_is,
      length-append seat.seen c.requires.next.others,
      whole,
      c.if-not-add_as.ensures.bound,
      ap length c.if-not-add_as.ensures.added,
      length-append c.self.inside.front (g.M.Entry.of c.args.value.now ∷ []),
    )

pub invariant_of-self-2 : goal.invariant_of-self-2
invariant_of-self-2 g c =
    let k = c.from-place.result in
    let within : k < length c.self.inside.counts.items = omega (arith, c.if-place-len.false, c.len.ensures) in
    let is = c.index_mut.ensures.value ∙ c.self.invariant k c.index_mut.result.now within in
    let own : (g.M.Entry.of c.args.value.now).seat ≡ k = c.requires.own ∙ (sym (ap (λ s. s.number) c.seat.view_is) ∙ sym c.from-place.ensures) in
    subst (λ (l : List NodeEntry). AreCounts (slice_set c.self.inside.counts.items k (c.index_mut.result.now + 1)) l) (sym c.if-not-add_as.ensures.added)
    (counts_more c.self.inside.counts.items c.self.inside.front (g.M.Entry.of c.args.value.now) k (c.index_mut.result.now + 1) c.self.invariant own within
    (ap (λ n. n + 1) is))

pub invariant_of-seat : goal.invariant_of-seat
invariant_of-seat g c =
    let seat = c.args.seat.now in
    let e = g.M.Entry.of c.args.value.now in
    let log = c.args.self.now in
    let last : c.again.result ≡ log ++ e ∷ [] = c.again.ensures ∙ (c.if-not-add_as.ensures.added ∙ ap (λ (l : List NodeEntry). l ++ e ∷ []) c.self.view_is) in
    let calls = c.seat.invariant.0 ∙ ap (λ s. length (entries_of s.number s.seen)) c.seat.view_is in
    let number = ap (λ s. s.number) c.seat.view_is in
    let count : c.seat.inside.calls + 1 ≡ length (entries_of seat.number (log ++ e ∷ [])) =
    omega (arith, calls, as_many log seat c.requires.next, own_more seat.number log e c.requires.own) in (
      subst (λ (l : List NodeEntry). c.seat.inside.calls + 1 ≡ length (entries_of c.seat.inside.number l)) (sym last)
          (subst (λ n. c.seat.inside.calls + 1 ≡ length (entries_of n (log ++ e ∷ []))) (sym number) count),
      subst (λ (l : List NodeEntry). IsHistory g.J.NodeRun.beginning l) (sym last) c.requires.history,
    )
