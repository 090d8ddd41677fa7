-- Blocks of lines that part and merge, the epochs that they form where the schedule is orderly, and who leaves then.
use Rattle.std.specs.Prelude.{ℕ, ◌≡◌, ◌<◌, ◌≤◌, ◌==◌, ◌⊎◌, Bool, true, false, not, ◌&&◌, ◌||◌, List, [], ◌∷◌, nat_le, Option, None, Some, Contains}
use Rattle.std.specs.List.{list_any}
use Rattle.locus_ids.specs.declared.ids.EpochId.{EpochId}
use Rattle.locus_ids.specs.declared.sites.Members.{Members}
use Rattle.trace_book.specs.declared.entry.Entry.{Entry}
use Rattle.trace_book.specs.declared.record.Record.{Record}
use Rattle.trace_book.specs.declared.record.Record.TheVariants.{Budget, Stopped, Leave}
use Rattle.disk_calls.specs.of_schedule_lines.declared.line.ScheduleLine.{ScheduleLine}
use Rattle.disk_calls.specs.of_schedule_lines.declared.line.ScheduleLine.TheVariants.{Passed, Event}
use Rattle.disk_calls.specs.of_schedule_lines.declared.line.Line.TheVariants as line
use Rattle.disk_calls.specs.of_schedule_lines.Cluster.{config_of}
use Rattle.tree_model.specs.Folds.{Trace, before_line}
use Rattle.tree_model.specs.Epochs.{boot_of, epoch_of, members_of}
use Rattle.tree_model.specs.Packs.{boot_in, is_member, all_sites}
use Rattle.lawful_trace.specs.Places.{reaches, line_at, lines_before, through_line, initiator}
use Rattle.lawful_trace.specs.SiteRows.{makes_leave}

-- Whom a line asks, and whom it brings together.

-- as the line finds them, a site of the cluster is reached by another
abbrev pub is_reached : List ScheduleLine → Trace → ℕ → ℕ → ℕ → Bool
is_reached lines trace n from s = nat_le 1 s && (nat_le s (config_of lines).sites && reaches (config_of lines) (lines_before lines n) (before_line trace n) from s)

-- the list has the site, with this boot number
abbrev pub lists : Option Members → ℕ → ℕ → Bool
lists None site boot = false
lists (Some m) site boot = is_member m site && (boot_in m site == boot)

-- the members of the epoch that a site is in
abbrev pub members_with : Trace → Option EpochId → Option Members
members_with before None = None
members_with before (Some e) = members_of before e

-- a `part` asks members of its site's epoch in their boots, a `merge` any site
abbrev pub may_be_asked : ScheduleLine → Trace → ℕ → Bool
may_be_asked (Event (line.Part site)) before s = lists (members_with before (epoch_of before site)) s (boot_of before s)
may_be_asked _ before s = true

-- the polled set of a line: those that its site reaches and it may ask
abbrev pub is_polled : List ScheduleLine → Trace → ℕ → ℕ → ℕ → Bool
is_polled lines trace n site s = is_reached lines trace n site s && may_be_asked (line_at lines n) (before_line trace n) s

-- a set of sites, after each of these sites in turn, if it is still in the set, has left in it what it reaches
abbrev pub narrowed : (ℕ → ℕ → Bool) → (ℕ → Bool) → List ℕ → ℕ → Bool
narrowed reach set [] = set
narrowed reach set (site ∷ sites) = narrowed reach (λ s. set s && (not (set site) || reach site s)) sites

-- the chosen set of a line: the polled set, where each site in ascending order has left in it what it reaches
abbrev pub is_chosen : List ScheduleLine → Trace → ℕ → ℕ → ℕ → Bool
is_chosen lines trace n site = narrowed (is_reached lines trace n) (is_polled lines trace n site) all_sites

-- Blocks.

abbrev pub is_break : Record → Bool
is_break Budget = true
is_break (Stopped site cause) = true
is_break _ = false

-- the line tells that its round ended by its budget or that a site stopped
abbrev pub tells_break : ℕ → Entry → Bool
tells_break n r = is_break r.what && (r.line == n)

-- From line n to the `settle` line stand only lines by which sites start to part or merge, and lines that are passed over;
-- in the round no site stops, and it doesn't end by its budget.
pub record IsBlock (lines : List ScheduleLine) (trace : Trace) (n settle : ℕ) : Type 0 where
  pub order : n < settle
  pub only : (k : ℕ) → n < k → k < settle → (line_at lines k ≡ Passed) ⊎ ((site : ℕ) × (initiator lines trace k ≡ Some site))
  pub most : ℕ
  pub settles : line_at lines settle ≡ Event (line.Settle most)
  pub unbroken : list_any (tells_break settle) trace ≡ false

-- two sites that start in a block are different, and no site is reached by both
abbrev pub AreApart : List ScheduleLine → Trace → ℕ → ℕ → ℕ → Type 0
AreApart lines trace settle one other = (one ≡ other → ⊥) × ((s : ℕ) → is_reached lines trace settle one s ≡ true → is_reached lines trace settle other s ≡ true → ⊥)

-- the line by which this site starts stands in a block, apart from each later one of the block
pub record IsOrderlyLine (lines : List ScheduleLine) (trace : Trace) (n site settle : ℕ) : Type 0 where
  pub block : IsBlock lines trace n settle
  pub apart : (k other : ℕ) → n < k → k < settle → initiator lines trace k ≡ Some other → AreApart lines trace settle site other

-- the lines up to this number are orderly: each by which a site starts to part or merge is, in a block that ends by then
abbrev pub IsOrderly : List ScheduleLine → Trace → ℕ → Type 0
IsOrderly lines trace last = (n site : ℕ) → n ≤ last → initiator lines trace n ≡ Some site
    → (settle : ℕ) × (settle ≤ last) × IsOrderlyLine lines trace n site settle

-- By the end of the round the chosen set of the line is in one epoch of the line's site, whose members are exactly these
-- with their boot numbers; the other sites that were polled are in none.
pub record Forms (lines : List ScheduleLine) (trace : Trace) (n site settle : ℕ) : Type 0 where
  pub epoch : EpochId
  pub own : epoch.site ≡ site
  pub members : Members
  pub listed : members_of (through_line trace settle) epoch ≡ Some members
  pub exactly : (s : ℕ) → is_member members s ≡ is_chosen lines trace n site s
  pub boots : (s : ℕ) → is_chosen lines trace n site s ≡ true → boot_in members s ≡ boot_of (through_line trace settle) s
  pub inside : (s : ℕ) → is_chosen lines trace n site s ≡ true → epoch_of (through_line trace settle) s ≡ Some epoch
  pub others : (s : ℕ) → is_polled lines trace n site s ≡ true → is_chosen lines trace n site s ≡ false → epoch_of (through_line trace settle) s ≡ None

-- In an orderly schedule each line of a block forms its epoch by the end of the round that ends the block.
abbrev pub OrderlyBlocksForm : List ScheduleLine → Trace → Type 0
OrderlyBlocksForm lines trace = (n site settle : ℕ) → initiator lines trace n ≡ Some site → IsBlock lines trace n settle
    → IsOrderly lines trace settle → Forms lines trace n site settle

-- Leaves.

-- the round ends a block in which the site is polled
pub record IsPolledBefore (lines : List ScheduleLine) (trace : Trace) (site settle : ℕ) : Type 0 where
  pub n : ℕ
  pub by : ℕ
  pub starts : initiator lines trace n ≡ Some by
  pub block : IsBlock lines trace n settle
  pub polled : is_polled lines trace n by site ≡ true

-- Up to a line up to which a schedule is orderly a site leaves only by its own line, or in the round that ends a block in which it
-- is polled.
abbrev pub LeavesAreOwn : List ScheduleLine → Trace → Type 0
LeavesAreOwn lines trace = (n last site : ℕ) (e : EpochId) → Contains trace (record { line = n; what = Leave site e }) → n ≤ last
    → IsOrderly lines trace last → (makes_leave (line_at lines n) site ≡ true) ⊎ IsPolledBefore lines trace site n
