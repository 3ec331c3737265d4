-- As a run goes on, numbers are only given after those that were given: so each stays of what it is,
-- and their count never falls.
use Rattle.std.proofs.Common.{◌≡◌, ℕ, ◌+◌, ◌-◌, ◌≤◌, List, ◌++◌, length, take, refl, ap, ◌∙◌, arith, length-append}
use Rattle.std.proofs.lemmas.List.Elements.{filter_map-append}
use Rattle.std.proofs.Math.Seq.{take-length}
use Rattle.world_rules.specs.Run.{IsItem}
use Rattle.world_rules.specs.Run.{Step, Given, given_by, numbers, issued}
use Rattle.world_rules.proofs.Items.{item_later, take_of_more, take_within}

pub numbers-append : (past more : List Step) → numbers (past ++ more) ≡ numbers past ++ numbers more
numbers-append past more = filter_map-append (λ (step : Step). given_by step.event step.seen) past more

-- more steps have given at least as many numbers
numbers_of_more : (part whole rest : List Step) → whole ≡ part ++ rest → length (numbers part) ≤ length (numbers whole)
numbers_of_more part whole rest e =
    let f : length (numbers whole) ≡ length (numbers part) + length (numbers rest) = ap (λ l. length (numbers l)) e ∙ ap length (numbers-append part rest)
    ∙ length-append (numbers part) (numbers rest) in
    omega arith

pub count_later : (past more : List Step) → length (numbers past) ≤ length (numbers (past ++ more))
count_later past more = numbers_of_more past (past ++ more) more refl

pub issued_later : (past more : List Step) (place : ℕ) → issued past place ≤ issued (past ++ more) place
issued_later past more place =
    let t = take_of_more (place - 1) past more in
    numbers_of_more (take (place - 1) past) (take (place - 1) (past ++ more)) t.0 t.1

pub issued_up : (past : List Step) (early late : ℕ) → early ≤ late → issued past early ≤ issued past late
issued_up past early late h =
    let k : early - 1 ≤ late - 1 = omega arith in
    let t = take_within (early - 1) (late - 1) past k in
    numbers_of_more (take (early - 1) past) (take (late - 1) past) t.0 t.1

-- all steps so far are before the next place
pub issued_here : (past : List Step) → issued past (length past + 1) ≡ length (numbers past)
issued_here past =
    let e : length past + 1 - 1 ≡ length past = omega arith in
    ap (λ n. length (numbers (take n past))) e ∙ ap (λ l. length (numbers l)) (take-length past)

-- a number stays of what it is
pub given_later : (past more : List Step) (number : ℕ) (given : Given) → IsItem (numbers past) number given → IsItem (numbers (past ++ more)) number given
given_later past more number given h = rw numbers-append (item_later (numbers past) (numbers more) number given h)
