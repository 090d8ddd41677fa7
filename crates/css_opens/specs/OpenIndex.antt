-- The instances that are open now, each with its place in the table of opens.
use Rattle.std.specs.Prelude.{ℕ, ◌+◌, Bool, true, false, List, [], ◌∷◌, Option, Some, None}
use Rattle.locus_ids.specs.declared.ids.FileId.{FileId}
use Rattle.locus_ids.specs.declared.refusal.Refusal.{Refusal}
use Rattle.locus_ids.specs.declared.refusal.Refusal.TheVariants.{Busy}
use Rattle.commit_graph.specs.Versions.{same_file}
use Rattle.commit_graph.specs.Grants.{Opener}
use Rattle.keyed_tables.specs.of_role_steps.Tables.{with_row, without_row}
use Rattle.keyed_tables.specs.of_role_steps.Opens.{is_open_stage}
use Rattle.keyed_tables.specs.of_role_steps.declared.synchronizing.OpenRow.{OpenRow}
use Rattle.css_opens.specs.declared.now.OpenNow.{OpenNow}

abbrev pub now_place : OpenNow → ℕ
now_place o = o.place

abbrev pub opener_now : OpenNow → Opener
opener_now o = record { site = o.site; process = o.process; mode = o.mode }

abbrev pub is_now_on : FileId → OpenNow → Bool
is_now_on file o = same_file o.file file

abbrev pub busy : Opener → Refusal
busy o = Busy o.site o.process

abbrev pub open_now : ℕ → OpenRow → OpenNow
open_now place r = record { place = place; file = r.file; site = r.inst.us; process = r.process; mode = r.mode }

-- those of the rows that are open, where the first row of all stands at n
abbrev pub open_from : ℕ → List OpenRow → List OpenNow
open_from n [] = []
open_from n (r ∷ rs) = elim (is_open_stage r.stage) [
  | true ↦ open_now n r ∷ open_from (n + 1) rs
  | false ↦ open_from (n + 1) rs
]

-- the instance of a row at a place, where it is open
abbrev pub now_of : ℕ → OpenRow → Option OpenNow
now_of place r = elim (is_open_stage r.stage) [
  | true ↦ Some (open_now place r)
  | false ↦ None
]

-- the index with the instance of a new last row
abbrev pub with_now : Option OpenNow → List OpenNow → List OpenNow
with_now None open_ones = open_ones
with_now (Some o) open_ones = with_row now_place o open_ones

abbrev pub with_open_now : ℕ → OpenRow → List OpenNow → List OpenNow
with_open_now place r open_ones = with_now (now_of place r) open_ones

-- the index once a row at a place has changed
abbrev pub settled_now : ℕ → Option OpenNow → List OpenNow → List OpenNow
settled_now place None open_ones = without_row now_place place open_ones
settled_now place (Some o) open_ones = with_row now_place o open_ones

abbrev pub settled_open : ℕ → OpenRow → List OpenNow → List OpenNow
settled_open place r open_ones = settled_now place (now_of place r) open_ones
