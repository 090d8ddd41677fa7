-- What becomes of an open instance by its operations, commits and aborts.
use Rattle.std.specs.Prelude.{ℕ, ◌+◌, Bool, true, false, ◌&&◌, ◌||◌, cond, nat_lt, List, [], length, Option, None, Some}
use Rattle.std.specs.Option.{is_none}
use Rattle.file_content.specs.of_locus_ids.declared.ids.Stamp.{Stamp}
use Rattle.file_content.specs.of_locus_ids.declared.ids.Mode.{Mode}
use Rattle.file_content.specs.of_locus_ids.declared.ids.Mode.TheVariants as mode
use Rattle.file_content.specs.of_locus_ids.declared.refusal.Refusal.TheVariants.{NoSpace, Spent}
use Rattle.dir_format.specs.of_trace_book.declared.operation.Outcome.{Outcome}
use Rattle.dir_format.specs.of_trace_book.declared.operation.Outcome.TheVariants as outcome
use Rattle.file_content.specs.Pages.{pages_within, with_pages, pages_needed}
use Rattle.file_effects.specs.Effects.{Effect, is_refusal}
use Rattle.file_effects.specs.declared.work.Work.{Work}

-- the first commit is owed from the grant on where a file is made or a conflict resolved
abbrev pub begins_owing : Mode → Bool
begins_owing mode.Make = true
begins_owing mode.Resolve = true
begins_owing mode.Read = false
begins_owing mode.Write = false
begins_owing mode.Mend = false

-- an instance as it is granted, on this version with this content
abbrev pub begun : Mode → Option Stamp → List ℕ → Work
begun m stamp content = record {
  ops = 0;
  content = content;
  owes = begins_owing m;
  last = stamp;
  committed = None;
  fresh = false;
  changed = [];
}

-- Operations.

-- what the effect gives on changed pages in the room that is left: its own refusal comes first, then that of the room, and
-- then that of a count that can't rise
abbrev pub result_in : ℕ → List ℕ → Effect → Outcome
result_in free changed e = cond (is_refusal e.result) e.result (in_room (pages_needed e.pages changed))
  where
    in_room : ℕ → Outcome
    in_room needed = cond (nat_lt free needed) (outcome.No (NoSpace needed free)) (cond e.spent (outcome.No Spent) e.result)

-- the changed pages after an effect: those of before that the new content still has, and its own
abbrev pub changed_after : Effect → List ℕ → List ℕ
changed_after e changed = with_pages e.pages (pages_within (length e.content) changed)

-- one operation more is done, and nothing else is other
abbrev pub counted : Work → Work
counted w = record w { ops = w.ops + 1; fresh = false }

-- an instance after an operation that isn't refused
abbrev pub carried_out : Effect → Work → Work
carried_out e w = record w { ops = w.ops + 1; fresh = false; content = e.content; owes = w.owes || e.counts; changed = changed_after e w.changed }

-- an instance after an operation of this effect that gave this result: a refused one changes nothing but the number
abbrev pub operated : Effect → Outcome → Work → Work
operated e result w = cond (is_refusal result) (counted w) (carried_out e w)

-- Commits and aborts.

-- an instance once its content is committed: no page is changed any more
abbrev pub committed : Stamp → Work → Work
committed stamp w = record w { owes = false; last = Some stamp; committed = Some stamp; fresh = true; changed = [] }

-- an instance after an abort goes back to the content of its last version, with no page changed; what must be committed at
-- all stays owed
abbrev pub aborted : Mode → List ℕ → Work → Work
aborted m content w = record w { ops = w.ops + 1; fresh = false; content = content; owes = begins_owing m && is_none w.committed; changed = [] }

-- what a commit gives: the last version once none is owed, and a refusal where the counter can't rise; where a commit is
-- owed and can be made, it comes first
abbrev pub commit_result : Bool → Work → Option Outcome
commit_result spent w = cond w.owes (cond spent (Some (outcome.No Spent)) None) (committed_outcome w.last)
  where
    committed_outcome : Option Stamp → Option Outcome
    committed_outcome None = None
    committed_outcome (Some s) = Some (outcome.Committed s)
