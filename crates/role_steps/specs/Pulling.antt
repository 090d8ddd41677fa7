-- Propagation at the site that is notified: which pages of a version are pulled, and how they come.
use Rattle.std.specs.Prelude.{ℕ, suc, ◌-◌, ◌*◌, ◌==◌, min, nat_le, nat_lt, Bool, true, false, not, ◌&&◌, ◌||◌, cond, List, [], ◌∷◌, ◌++◌, length, slice_index, Option, Some, None}
use Rattle.std.specs.List.{flat_map, list_all}
use Rattle.std.specs.Option.{is_some, unwrap_or}
use Rattle.locus_ids.specs.declared.ids.FileId.{FileId}
use Rattle.locus_ids.specs.declared.ids.Stamp.{Stamp}
use Rattle.locus_ids.specs.Sizes.{page_bytes}
use Rattle.call_rules.specs.of_commit_graph.Versions.{same_stamp}
use Rattle.file_effects.specs.of_file_content.Pages.{pages_of, pages_from, has_page}
use Rattle.wire_messages.specs.declared.packet.Packet.{Packet}
use Rattle.wire_messages.specs.declared.body.Body.{Body}
use Rattle.wire_messages.specs.declared.body.Body.TheVariants as body
use Rattle.role_steps.specs.Tables.{row, with_row}
use Rattle.role_steps.specs.Views.{Frame, Outcome, quiet, sends, packet, file_key}
use Rattle.role_steps.specs.Versions.{is_below}
use Rattle.role_steps.specs.declared.copies.FileCopy.{FileCopy}
use Rattle.role_steps.specs.declared.pulls.Pull.{Pull}

abbrev pub pull_key : Pull → ℕ
pull_key p = file_key p.file

abbrev pub pull_of : List Pull → FileId → Option Pull
pull_of pulls file = row pull_key (file_key file) pulls

-- the pages to pull, none while the holder hasn't said which, and how many of them are there
abbrev pub wanted_pages : Pull → List ℕ
wanted_pages p = unwrap_or p.wanted []

abbrev pub pages_got : Pull → ℕ
pages_got p = pages_of (length p.content)

-- the holder has said which pages are to be pulled, and all of them are there
abbrev pub is_complete : Pull → Bool
is_complete p = is_some p.wanted && (pages_got p == length (wanted_pages p))

-- the next missing page
abbrev pub next_page : Pull → ℕ
next_page p = slice_index (wanted_pages p) (pages_got p)

-- what is asked of the holder next: which pages to pull over the own version, or the next missing page
abbrev pub next_asked : Pull → Option Stamp → Option (List ℕ) → Body
next_asked p (Some own) None = body.Want p.file p.stamp own
next_asked p _ _ = body.Pull p.file p.stamp (next_page p)

abbrev pub pull_packets : Frame → Pull → List Packet
pull_packets f p = cond (is_complete p) [] (packet f p.holder (next_asked p p.base p.wanted) ∷ [])

abbrev pub goes_on : Frame → Pull → List Pull → Outcome (List Pull)
goes_on f p pulls = sends (pull_packets f p) (with_row pull_key p pulls)

-- ---- Notify ----

-- the pull is over just this copy, or over none where there is none
abbrev pub is_over : Option FileCopy → Option Stamp → Bool
is_over None None = true
is_over (Some own) (Some base) = same_stamp own.stamp base
is_over _ _ = false

-- a higher version replaces a pull of a lower one, and any replaces one over a copy that the site has no more; else the one that is
-- being pulled and one below it leave the pull as it is
abbrev pub replaces_pull : Option FileCopy → Pull → Option Pull → Bool
replaces_pull own p None = true
replaces_pull own p (Some old) = is_below old.vector p.vector || not (is_over own old.base)

-- a site without a copy pulls all pages; over a copy the holder says which ones
abbrev pub pull_over : Option FileCopy → Pull → Pull
pull_over None p = record p { base = None; wanted = Some (pages_from 0 (pages_of p.size)) }
pull_over (Some own) p = record p { base = Some own.stamp; wanted = None }

abbrev pub begins_pull : Frame → Option FileCopy → Pull → List Pull → Outcome (List Pull)
begins_pull f own p pulls = elim (replaces_pull own p (pull_of pulls p.file)) [
  | true ↦ goes_on f (pull_over own p) pulls
  | false ↦ quiet pulls
]

-- the held version is answered Have; a lower or concurrent one is ignored
abbrev pub on_notify : Frame → ℕ → Option FileCopy → Pull → List Pull → Outcome (List Pull)
on_notify f from None p pulls = begins_pull f None p pulls
on_notify f from (Some own) p pulls = elim (same_stamp own.stamp p.stamp) [
  | true ↦ sends (packet f from (body.Have p.file p.stamp) ∷ []) pulls
  | false ↦ elim (is_below own.vector p.vector) [
    | true ↦ begins_pull f (Some own) p pulls
    | false ↦ quiet pulls
  ]
]

-- ---- Delta ----

-- each number is above the one before it
abbrev pub ascend_from : ℕ → List ℕ → Bool
ascend_from least [] = true
ascend_from least (page ∷ pages) = nat_le least page && ascend_from (suc page) pages

-- these are pages of a version of so many, and those that an own copy of so many doesn't have are among them
abbrev pub are_delta : (own count : ℕ) → List ℕ → Bool
are_delta own count pages = ascend_from 0 pages && (list_all (λ page. nat_lt page count) pages && list_all (has_page pages) (pages_from own (count - own)))

abbrev pub pages_in : Option FileCopy → ℕ
pages_in None = 0
pages_in (Some own) = pages_of (length own.content)

-- the answer to the Want of this pull
abbrev pub is_delta : ℕ → Pull → Stamp → List ℕ → Bool
is_delta own p stamp pages = same_stamp p.stamp stamp && (not (is_some p.wanted) && are_delta own (pages_of p.size) pages)

abbrev pub on_delta_of : Frame → ℕ → Stamp → List ℕ → Option Pull → List Pull → Outcome (List Pull)
on_delta_of f own stamp pages None pulls = quiet pulls
on_delta_of f own stamp pages (Some p) pulls = elim (is_delta own p stamp pages) [
  | true ↦ goes_on f (record p { wanted = Some pages }) pulls
  | false ↦ quiet pulls
]

abbrev pub on_delta : Frame → Option FileCopy → FileId → Stamp → List ℕ → List Pull → Outcome (List Pull)
on_delta f own file stamp pages pulls = on_delta_of f (pages_in own) stamp pages (pull_of pulls file) pulls

-- ---- Page ----

-- the bytes that a version of this size has in a page
abbrev pub bytes_in : (size page : ℕ) → ℕ
bytes_in size page = min page_bytes (size - page_bytes * page)

-- the page is the next missing one of the version that is pulled, with as many bytes as the version has in it
abbrev pub is_awaited : Pull → Stamp → ℕ → List ℕ → Bool
is_awaited p stamp page bytes =
    same_stamp p.stamp stamp && (is_some p.wanted && (not (is_complete p) && ((page == next_page p) && (length bytes == bytes_in p.size page))))

abbrev pub on_page_of : Frame → Stamp → ℕ → List ℕ → Option Pull → List Pull → Outcome (List Pull)
on_page_of f stamp page bytes None pulls = quiet pulls
on_page_of f stamp page bytes (Some p) pulls = elim (is_awaited p stamp page bytes) [
  | true ↦ goes_on f (record p { content = p.content ++ bytes }) pulls
  | false ↦ quiet pulls
]

abbrev pub on_page : Frame → FileId → Stamp → ℕ → List ℕ → List Pull → Outcome (List Pull)
on_page f file stamp page bytes pulls = on_page_of f stamp page bytes (pull_of pulls file) pulls

-- ---- a tick: each current Want or Pull ----

abbrev pub pull_repeats : Frame → List Pull → List Packet
pull_repeats f pulls = flat_map (pull_packets f) pulls
