use Rattle.std.proofs.Common.{◌≡◌, ◌<◌, ◌∙◌, length, sym, subst, arith, MatchBool, List}
use mathlib.Core.List.{IsPrefix}
use Rattle.node_book.specs.declared.book.NodeEntry.{NodeEntry}
use Rattle.node_seats.specs.Seats.{IsNext, SeatView, entries_of}
use Rattle.node_seats.proofs.Entries.{is_next}
use Rattle.node_seats.proofs.whole.Whole.is_next.Goals as goal

pub returns : goal.returns
returns g c is =
    let k = c.from-place.result in
    let log = c.self.inside.front in
    let seat : SeatView = record { number = c.seat.inside.number; seen = c.seat.inside.front } in
    let within : k < length c.self.inside.counts.items = omega (arith, c.if-place-len.false, c.len.ensures) in
    let all : c.index.result.now ≡ length (entries_of k log) = c.index.ensures ∙ c.self.invariant k c.index.result.now within in
    let own : length (entries_of k log) ≡ length (entries_of seat.number seat.seen) = sym all ∙ (c.if-index-seat.false ∙ c.seat.invariant.0) in
    let begins : IsPrefix seat.seen log = subst (λ b. MatchBool b (IsPrefix seat.seen log) (IsPrefix log seat.seen)) is c.begins.ensures in
    let next : IsNext log seat =
    is_next log seat begins (subst (λ n. length (entries_of n log) ≡ length (entries_of seat.number seat.seen)) c.from-place.ensures own) in
    subst (λ (l : List NodeEntry). IsNext l c.args.seat.now) c.self.view_is (subst (λ (s : SeatView). IsNext log s) c.seat.view_is next)
