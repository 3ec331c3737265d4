-- What the acknowledgement of a member changes that the number needs.
use Rattle.std.specs.Prelude.{◌≡◌, ℕ, true, false, List, Some, None}
use Rattle.purge_rules.specs.Purges.{PurgeList, marks_at, with_mark, with_done}
use Rattle.purge_rules.specs.Calls.{unchanged, counted, is_news}
use Rattle.purge_rules.specs.Store.{Misses}
use Rattle.purge_master.specs.declared.news.News.{News}
use Rattle.purge_master.specs.declared.news.News.TheVariants as news

-- this is what it changes, where the number needs these members: nothing; it marks a member that
-- was missing at a purge; or no member is missing any more, and the number is done
abbrev pub IsNews : List ℕ → PurgeList → ℕ → ℕ → News → Type 0
IsNews needs purges id number news.Nothing =
    (counted needs purges id number (marks_at purges number) ≡ unchanged purges)
    × (is_news needs id (marks_at purges number) ≡ false)
IsNews needs purges id number news.Mark =
    (counted needs purges id number (marks_at purges number) ≡ record { purges = with_mark purges number id; done = None })
    × (is_news needs id (marks_at purges number) ≡ true) × Misses purges number id
IsNews needs purges id number news.Done =
    (counted needs purges id number (marks_at purges number) ≡ record
    { purges = with_done purges number; done = Some number })
    × (is_news needs id (marks_at purges number) ≡ true)
