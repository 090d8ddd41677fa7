-- What stands in the way of a mend or a make only after thousands of pages or scores of files. Here the past is given that by hand.
use Rattle.std.specs.Prelude.{ℕ, ◌≡◌, ◌+◌, ◌-◌, ◌*◌, Bool, true, false, List, [], ◌∷◌, ◌++◌, map, replicate, take, Some}
use Rattle.locus_ids.specs.declared.config.Config.{Config}
use Rattle.locus_ids.specs.declared.ids.Mode.TheVariants as mode
use Rattle.locus_ids.specs.declared.refusal.Refusal.TheVariants as refusal
use Rattle.locus_ids.specs.Sizes.{pack_pages, page_bytes, site_inodes, slot_pages}
use Rattle.trace_book.specs.declared.call.Call.TheVariants as call
use Rattle.trace_book.specs.declared.operation.Op.TheVariants as op
use Rattle.trace_book.specs.declared.operation.Outcome.{Outcome}
use Rattle.trace_book.specs.declared.operation.Outcome.TheVariants as outcome
use Rattle.trace_book.specs.declared.record.Record.{Record}
use Rattle.trace_book.specs.declared.record.Record.TheVariants.{Accept, Act, Refuse}
use Rattle.schedule_lines.specs.Cluster.{config_of}
use Rattle.schedule_lines.specs.declared.line.Leave.TheVariants as leave
use Rattle.schedule_lines.specs.declared.line.Line.TheVariants as line
use Rattle.schedule_lines.specs.declared.line.ScheduleLine.TheVariants.{Event}
use Rattle.tree_model.specs.of_file_content.Pages.{pages_from}
use Rattle.tree_model.specs.Opening.{range_of}
use Rattle.promises.specs.Past.{Past, Site, Epoch, Instance, Make}
use Rattle.promises.specs.Rows.{may_follow}
use Rattle.promises.specs.Stops.{cuts, underway}
use Rattle.promises.specs.Traces.{past_of}
use Rattle.promise_samples.specs.Examples.{Example, printed}
use Rattle.promise_samples.specs.First.{first}
use Rattle.promise_samples.specs.StopInsideAWrite.{stop_inside_a_write}
use Rattle.trace_samples.specs.PartedRun.{parted_run}
use Rattle.lawful_trace.specs.Samples.{epoch, caller, inst, file, stamp}

-- a past, and a record after it
pub record Moment : Type 0 where
  pub cluster : Config
  pub past : Past
  pub next : Record

abbrev pub Passes : Moment → Type 0
Passes m = may_follow m.cluster m.past m.next ≡ true

abbrev pub Fails : Moment → Type 0
Fails m = may_follow m.cluster m.past m.next ≡ false

-- after the first so many records
abbrev pub moment : ℕ → Example → Record → Moment
moment n x r = record { cluster = config_of x.lines; past = past_of (config_of x.lines) (take n x.trace); next = r }

-- a mend of a flagged directory
abbrev pub mend : Moment
mend = moment 29 (printed parted_run) (Accept 1 0 (caller 1 1 2) (call.Mend (file 0 1)))

-- the same, where a mend of it was refused for good in the epoch
abbrev pub mend_again_after_its_refusal : Moment
mend_again_after_its_refusal = record mend { past = record mend.past { epochs = map (λ (t : Epoch). record t { unmended = file 0 1 ∷ t.unmended }) mend.past.epochs } }

-- each site has files of all its numbers
abbrev pub without_numbers : Moment → Moment
without_numbers m = record m { past = record m.past { sites = map (λ (s : Site). record s { held = map (λ n. record { file = file 0 n; stamp = stamp 0 0 }) (range_of s.number) }) m.past.sites } }

-- a make is refused for want of a number
abbrev pub refusal_for_want_of_a_number : Moment
refusal_for_want_of_a_number = without_numbers (moment 5 first (Refuse (epoch 1 1 1) (caller 1 1 1) 3 (inst 1 2) mode.Make (file 0 0) refusal.NoInode))

-- it is refused otherwise
abbrev pub another_refusal_without_a_number : Moment
another_refusal_without_a_number = without_numbers (moment 5 first (Refuse (epoch 1 1 1) (caller 1 1 1) 3 (inst 1 2) mode.Make (file 0 0) refusal.NoStorage))

-- an open to write is refused so
abbrev pub write_refused_for_want_of_a_number : Moment
write_refused_for_want_of_a_number = without_numbers (moment 3 first (Refuse (epoch 1 1 1) (caller 1 1 1) 1 (inst 1 1) mode.Write (file 0 1) refusal.NoInode))

-- each site has files of so many of its numbers, in this group, from this one of its range on
abbrev with_numbers : (group most : ℕ) → Moment → Moment
with_numbers group most m = record m { past = record m.past { sites = map (λ (s : Site). record s { held = map (λ n. record { file = file group n; stamp = stamp 0 0 }) (take most (range_of s.number)) }) m.past.sites } }

-- the make of the first file, before its grant
abbrev make_without_number : Moment
make_without_number = moment 5 first (Refuse (epoch 1 1 1) (caller 1 1 1) 3 (inst 1 2) mode.Make (file 0 0) refusal.NoInode)

-- it is refused for want of a number where all but one are in use, since it is underway itself
abbrev pub refusal_of_the_last_number : Moment
refusal_of_the_last_number = with_numbers 0 (site_inodes - 1) make_without_number

-- two are left
abbrev pub refusal_before_the_last_number : Moment
refusal_before_the_last_number = with_numbers 0 (site_inodes - 2) make_without_number

-- the numbers are in use in another group
abbrev pub refusal_for_the_numbers_of_another_group : Moment
refusal_for_the_numbers_of_another_group = with_numbers 1 site_inodes make_without_number

-- the files there are of numbers of another site
abbrev pub refusal_for_the_numbers_of_another_site : Moment
refusal_for_the_numbers_of_another_site = record make_without_number { past = record make_without_number.past { sites = map (λ (s : Site). record s { held = map (λ n. record { file = file 0 n; stamp = stamp 0 0 }) (range_of (s.number + 1)) }) make_without_number.past.sites } }

-- what is underway is in another group
abbrev pub refusal_for_a_make_in_another_group : Moment
refusal_for_a_make_in_another_group = record refusal_of_the_last_number { past = record refusal_of_the_last_number.past { epochs = map (λ (t : Epoch). record t { makes = map (λ (k : Make). record k { group = 1 }) t.makes }) refusal_of_the_last_number.past.epochs } }

-- beside the first write of the first file another instance is open, which has changed all pages of a pack: of this group, at this site
abbrev write_beside : (group site : ℕ) → Outcome → Moment
write_beside group site result = record plain { past = record plain.past { epochs = map (λ (t : Epoch). record t { opened = t.opened ++ map (λ (x : Instance). record x { grant = record x.grant { inst = inst 1 9; file = file group 9; ss = site }; work = record x.work { changed = pages_from 0 pack_pages } }) t.opened }) plain.past.epochs } }
  where
    plain : Moment
    plain = moment 17 first (Act (epoch 1 1 1) (inst 1 3) 1 (op.Write 0 (104 ∷ 105 ∷ [])) result)

-- the write is refused: it needs a page, and none is free
abbrev pub write_without_room : Moment
write_without_room = write_beside 0 1 (outcome.No (refusal.NoSpace 1 0))

-- it is told that it needs another number of pages
abbrev pub write_with_another_need : Moment
write_with_another_need = write_beside 0 1 (outcome.No (refusal.NoSpace 2 0))

-- it is told that another number is free
abbrev pub write_with_another_room : Moment
write_with_another_room = write_beside 0 1 (outcome.No (refusal.NoSpace 1 1))

-- it is done
abbrev pub write_past_the_room : Moment
write_past_the_room = write_beside 0 1 outcome.Done

-- it is refused where the pages are changed at another site
abbrev pub write_without_room_elsewhere : Moment
write_without_room_elsewhere = write_beside 0 2 (outcome.No (refusal.NoSpace 1 0))

-- it is refused where the pages are changed in another group
abbrev pub write_without_room_in_another_group : Moment
write_without_room_in_another_group = write_beside 1 1 (outcome.No (refusal.NoSpace 1 0))

-- a content with one page more than a slot names, so that a table names that
abbrev long_content : List ℕ
long_content = replicate (page_bytes * slot_pages + 1) 0

-- the open instances have changed all pages of such a content
abbrev with_long_content : Past → Past
with_long_content p = record p { epochs = map (λ (t : Epoch). record t { opened = map (λ (x : Instance). record x { work = record x.work { content = long_content; changed = pages_from 0 (slot_pages + 1) } }) t.opened }) p.epochs }

-- A disk lets so many calls pass, and the next leaves what it was to write, while the file is closed: a call for each page and for the
-- table, two for the slot and a sync, and the next opens the gate.
abbrev is_cut_closing : ℕ → Bool
is_cut_closing calls = cuts false
    (record { armed = record { calls = calls; leaves = Some leave.New; used = 0 } ∷ []; halves = false; slots = false })
    (underway [] (config_of stop_inside_a_write.lines) (Event (line.Settle 1000)) (with_long_content (past_of (config_of stop_inside_a_write.lines) (take 31 stop_inside_a_write.trace))) 1)

-- the last call before the gate is cut, so that no version stays
abbrev pub CutBeforeTheGate : Type 0
CutBeforeTheGate = is_cut_closing (slot_pages + 3) ≡ true

-- the call that opens the gate is cut, and the version stays
abbrev pub StaysByItsGate : Type 0
StaysByItsGate = is_cut_closing (slot_pages + 4) ≡ false
