-- Pulls of versions that a file may have, and what is asked of them and of the site's own copy.
use Rattle.std.specs.Prelude.{◌≡◌, ℕ, ◌≤◌, ◌<◌, nat_lt, not, ◌||◌, Bool, true, false, List, [], ◌∷◌, length, slice_index, Option, None, Some}
use Rattle.std.specs.List.{list_all}
use Rattle.locus_ids.specs.Sizes.{file_bytes_max}
use Rattle.locus_ids.specs.declared.ids.FileId.{FileId}
use Rattle.locus_ids.specs.declared.ids.Stamp.{Stamp}
use Rattle.commit_graph.specs.Versions.{same_stamp}
use Rattle.file_content.specs.Pages.{pages_from, pages_of}
use Rattle.wire_messages.specs.declared.body.Body.TheVariants as body
use Rattle.role_steps.specs.Views.{Frame, Outcome, quiet, sends, packet}
use Rattle.role_steps.specs.Versions.{is_below}
use Rattle.role_steps.specs.Pulling.{ascend_from, bytes_in, goes_on, is_awaited, is_delta, on_delta_of, pages_got, pull_of, wanted_pages}
use Rattle.role_steps.specs.declared.copies.FileCopy.{FileCopy}
use Rattle.role_steps.specs.declared.pulls.Pull.{Pull}
use Rattle.propagation.specs.declared.own_copy.CopyHead.{CopyHead}

-- The version has no more bytes than a file may have; the pages to pull are pages of it, ascending, and no more have come than these,
-- each with the bytes that the version has in it.
pub record IsSized (p : Pull) : Type 0 where
  pub size : p.size ≤ file_bytes_max
  pub ascend : ascend_from 0 (wanted_pages p) ≡ true
  pub inside : list_all (λ page. nat_lt page (pages_of p.size)) (wanted_pages p) ≡ true
  pub few : pages_got p ≤ length (wanted_pages p)
  pub bytes : (k : ℕ) → k < pages_got p → bytes_in (length p.content) k ≡ bytes_in p.size (slice_index (wanted_pages p) k)

-- a version of which nothing has come yet
pub record IsNew (p : Pull) : Type 0 where
  pub size : p.size ≤ file_bytes_max
  pub content : p.content ≡ []

abbrev pub AreSized : List Pull → Type 0
AreSized [] = Unit {0}
AreSized (p ∷ ps) = IsSized p × AreSized ps

-- what the site has of a file, without its content
abbrev pub head_of : Option FileCopy → Option CopyHead
head_of None = None
head_of (Some own) = Some (record { stamp = own.stamp; vector = own.vector; size = length own.content })

abbrev pub pages_in_head : Option CopyHead → ℕ
pages_in_head None = 0
pages_in_head (Some own) = pages_of own.size

-- what is asked of the own copy, by its head

abbrev pub is_over_head : Option CopyHead → Option Stamp → Bool
is_over_head None None = true
is_over_head (Some own) (Some base) = same_stamp own.stamp base
is_over_head _ _ = false

abbrev pub replaces_over : Option CopyHead → Pull → Option Pull → Bool
replaces_over own p None = true
replaces_over own p (Some old) = is_below old.vector p.vector || not (is_over_head own old.base)

abbrev pub pull_over_head : Option CopyHead → Pull → Pull
pull_over_head None p = record p { base = None; wanted = Some (pages_from 0 (pages_of p.size)) }
pull_over_head (Some own) p = record p { base = Some own.stamp; wanted = None }

abbrev pub begins_over : Frame → Option CopyHead → Pull → List Pull → Outcome (List Pull)
begins_over f own p pulls = elim (replaces_over own p (pull_of pulls p.file)) [
  | true ↦ goes_on f (pull_over_head own p) pulls
  | false ↦ quiet pulls
]

-- the held version is answered Have; a lower or concurrent one is ignored
abbrev pub notified : Frame → ℕ → Option CopyHead → Pull → List Pull → Outcome (List Pull)
notified f from None p pulls = begins_over f None p pulls
notified f from (Some own) p pulls = elim (same_stamp own.stamp p.stamp) [
  | true ↦ sends (packet f from (body.Have p.file p.stamp) ∷ []) pulls
  | false ↦ elim (is_below own.vector p.vector) [
    | true ↦ begins_over f (Some own) p pulls
    | false ↦ quiet pulls
  ]
]

abbrev pub wants_in : ℕ → Stamp → List ℕ → Option Pull → Bool
wants_in own stamp pages None = false
wants_in own stamp pages (Some p) = is_delta own p stamp pages

-- the pages are the answer that the pull of the file waits for
abbrev pub wants : List Pull → Option CopyHead → FileId → Stamp → List ℕ → Bool
wants pulls own file stamp pages = wants_in (pages_in_head own) stamp pages (pull_of pulls file)

-- the answer is taken over the own copy by its head
abbrev pub delta_over : Frame → Option CopyHead → FileId → Stamp → List ℕ → List Pull → Outcome (List Pull)
delta_over f own file stamp pages pulls = on_delta_of f (pages_in_head own) stamp pages (pull_of pulls file) pulls

abbrev pub awaits_in : Stamp → ℕ → List ℕ → Option Pull → Bool
awaits_in stamp page bytes None = false
awaits_in stamp page bytes (Some p) = is_awaited p stamp page bytes

-- the page is the next missing one of the version of its file that is pulled
abbrev pub awaits : List Pull → FileId → Stamp → ℕ → List ℕ → Bool
awaits pulls file stamp page bytes = awaits_in stamp page bytes (pull_of pulls file)
