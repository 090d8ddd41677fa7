-- What a site pulls and asks for is of the format.
use Rattle.std.proofs.Common.{◌≡◌, ◌≤◌, ◌<◌, ◌^◌, ℕ, zero, suc, ◌+◌, ◌-◌, nat_lt, Bool, true, false, not, ◌&&◌, List, [], ◌∷◌, ◌++◌, slice_index, Option, None, Some, is_some, refl, arith}
use Rattle.std.proofs.lemmas.Bool.Decides.{nat_tests}
use Rattle.std.specs.List.{list_all}
use Rattle.role_steps.proofs.of_plain_facts.Tests.{both_true}
use Rattle.locus_ids.specs.declared.ids.FileId.{FileId}
use Rattle.locus_ids.specs.declared.ids.Stamp.{Stamp}
use Rattle.locus_ids.specs.Sizes.{file_bytes_max}
use Rattle.commit_graph.specs.Versions.{same_stamp}
use Rattle.file_content.specs.Pages.{has_page, pages_from, pages_of}
use Rattle.wire_messages.specs.declared.body.Body.TheVariants as body
use Rattle.role_steps.specs.Own.{Every}
use Rattle.role_steps.specs.Pulling.{are_delta, ascend_from, begins_pull, pull_over, goes_on, is_awaited, is_delta, pages_got, pages_in, is_complete, next_asked, next_page, on_notify, on_page, on_delta, on_page_of, on_delta_of, pull_key, pull_of, pull_packets, pull_repeats, replaces_pull, wanted_pages}
use Rattle.role_steps.specs.Versions.{is_below}
use Rattle.role_steps.specs.Views.{Frame, Outcome, file_key, packet, quiet, sends}
use Rattle.role_steps.specs.declared.copies.FileCopy.{FileCopy}
use Rattle.role_steps.specs.declared.pulls.Pull.{Pull}
use Rattle.role_steps.proofs.Sending.{every_cond}
use Rattle.the_run.proofs.InsideSync.{Found, every_row, row_found}
use Rattle.packet_laws.specs.Values.Bodies.{IsListed}
use Rattle.packet_laws.specs.Values.Values.{CopyFits, IsPage, PullFits, SentFits, StampIfAny}
use Rattle.packet_laws.proofs.Values.Fields.{every_flat, one_fits, size_most}

-- what an outcome sends and leaves is of the format
abbrev pub PullsDone : List ℕ → Outcome (List Pull) → Type 0
PullsDone boots o = Every (SentFits boots) o.sent × Every (PullFits boots) o.view

-- ---- the pages that are asked ----

wanted_page : (pages : List ℕ) (k : ℕ) → Every IsPage pages → IsPage (slice_index pages k)
wanted_page [] k h = omega arith
wanted_page (page ∷ pages) zero h = h.0
wanted_page (page ∷ pages) (suc k) h = wanted_page pages k h.1

from_pages : (first count : ℕ) → first + count ≤ 2 ^ 8 → Every IsPage (pages_from first count)
from_pages first zero le = tt
from_pages first (suc more) le = (omega (arith, le), from_pages (first + 1) more (omega (arith, le)))

few_pages : (size : ℕ) → size ≤ file_bytes_max → pages_of size ≤ 2 ^ 8
few_pages size most = omega (arith, most)

low_pages : (count : ℕ) (pages : List ℕ) → count ≤ 2 ^ 8 → list_all (λ page. nat_lt page count) pages ≡ true → Every IsPage pages
low_pages count [] few e = tt
low_pages count (page ∷ pages) few e =
    let h : (nat_lt page count ≡ true) × (list_all (λ (n : ℕ). nat_lt n count) pages ≡ true) = both_true (nat_lt page count) (list_all (λ (n : ℕ). nat_lt n count) pages) e in
    (below h.0, low_pages count pages few h.1)
  where
    low : nat_lt page count ≡ true → page + 1 ≤ count
    low t = grind (arith, nat_tests)

    below : nat_lt page count ≡ true → IsPage page
    below t = omega (arith, few, low t)

-- ---- what is asked of the holder ----

page_asked : (f : Frame) (p : Pull) → PullFits f.members.boot p → SentFits f.members.boot (packet f p.holder (body.Pull p.file p.stamp (next_page p)))
page_asked f p h = one_fits f p.holder (body.Pull p.file p.stamp (next_page p)) h.holder (h.file, (h.version.0, wanted_page (wanted_pages p) (pages_got p) h.pages)) tt

asked_fits : (f : Frame) (p : Pull) (base : Option Stamp) (wanted : Option (List ℕ)) → StampIfAny base → PullFits f.members.boot p → SentFits f.members.boot (packet f p.holder (next_asked p base wanted))
asked_fits f p (Some own) None k h = one_fits f p.holder (body.Want p.file p.stamp own) h.holder (h.file, (h.version.0, k)) tt
asked_fits f p (Some own) (Some pages) k h = page_asked f p h
asked_fits f p None wanted k h = page_asked f p h

pub pull_fits : (f : Frame) (p : Pull) → PullFits f.members.boot p → Every (SentFits f.members.boot) (pull_packets f p)
pull_fits f p h = every_cond (SentFits f.members.boot) (is_complete p) [] (packet f p.holder (next_asked p p.base p.wanted) ∷ []) tt (asked_fits f p p.base p.wanted h.base h, tt)

goes_on_fits : (f : Frame) (p : Pull) (ps : List Pull) → PullFits f.members.boot p → Every (PullFits f.members.boot) ps → PullsDone f.members.boot (goes_on f p ps)
goes_on_fits f p ps h k = (pull_fits f p h, every_row (PullFits f.members.boot) pull_key p ps h k)

-- ---- a pull begins ----

over_fits : (boots : List ℕ) (own : Option FileCopy) (p : Pull) → Found CopyFits own → PullFits boots p → PullFits boots (pull_over own p)
over_fits boots None p found h = record { file = h.file; set = h.set; size = h.size; version = h.version; holder = h.holder; base = tt; pages = from_pages 0 (pages_of p.size) (omega (arith, few_pages p.size (size_most p.size h.size))) }
over_fits boots (Some x) p found h = record { file = h.file; set = h.set; size = h.size; version = h.version; holder = h.holder; base = found.version.0; pages = tt }

begins_fit : (f : Frame) (own : Option FileCopy) (p : Pull) (ps : List Pull) → Found CopyFits own → PullFits f.members.boot p → Every (PullFits f.members.boot) ps → PullsDone f.members.boot (begins_pull f own p ps)
begins_fit f own p ps found h k = over (replaces_pull own p (pull_of ps p.file))
  where
    over : (b : Bool) → PullsDone f.members.boot (elim b as (λ (t : Bool). Outcome (List Pull)) [ true ↦ goes_on f (pull_over own p) ps | false ↦ quiet ps ])
    over true = goes_on_fits f (pull_over own p) ps (over_fits f.members.boot own p found h) k
    over false = (tt, k)

pub on_notify_fits : (f : Frame) (from : ℕ) (o : Option FileCopy) (p : Pull) (ps : List Pull) → IsListed f.members.boot from → Found CopyFits o → PullFits f.members.boot p → Every (PullFits f.members.boot) ps → PullsDone f.members.boot (on_notify f from o p ps)
on_notify_fits f from None p ps listed found h k = begins_fit f None p ps found h k
on_notify_fits f from (Some own) p ps listed found h k = over (same_stamp own.stamp p.stamp) (is_below own.vector p.vector)
  where
    over : (a b : Bool) → PullsDone f.members.boot (elim a as (λ (t : Bool). Outcome (List Pull)) [ true ↦ sends (packet f from (body.Have p.file p.stamp) ∷ []) ps | false ↦ elim b as (λ (t : Bool). Outcome (List Pull)) [ true ↦ begins_pull f (Some own) p ps | false ↦ quiet ps ] ])
    over true b = ((one_fits f from (body.Have p.file p.stamp) listed (h.file, h.version.0) tt, tt), k)
    over false true = begins_fit f (Some own) p ps found h k
    over false false = (tt, k)

-- ---- a pull goes on ----

on_delta_of_fits : (f : Frame) (own : ℕ) (stamp : Stamp) (pages : List ℕ) (o : Option Pull) (ps : List Pull) → Found (PullFits f.members.boot) o → Every (PullFits f.members.boot) ps → PullsDone f.members.boot (on_delta_of f own stamp pages o ps)
on_delta_of_fits f own stamp pages None ps found k = (tt, k)
on_delta_of_fits f own stamp pages (Some p) ps found k = over (is_delta own p stamp pages) refl
  where
    count : ℕ
    count = pages_of p.size

    all_low : is_delta own p stamp pages ≡ true → Every IsPage pages
    all_low e =
        let a : (not (is_some p.wanted) && are_delta own count pages) ≡ true = (both_true (same_stamp p.stamp stamp) _ e).1 in
        let b : are_delta own count pages ≡ true = (both_true (not (is_some p.wanted)) _ a).1 in
        let d : (list_all (λ (n : ℕ). nat_lt n count) pages && list_all (has_page pages) (pages_from own (count - own))) ≡ true = (both_true (ascend_from 0 pages) _ b).1 in
        low_pages count pages (few_pages p.size (size_most p.size found.size)) (both_true (list_all (λ (n : ℕ). nat_lt n count) pages) _ d).0

    over : (b : Bool) → is_delta own p stamp pages ≡ b → PullsDone f.members.boot (elim b as (λ (t : Bool). Outcome (List Pull)) [ true ↦ goes_on f (record p { wanted = Some pages }) ps | false ↦ quiet ps ])
    over true e = goes_on_fits f (record p { wanted = Some pages }) ps (record { file = found.file; set = found.set; size = found.size; version = found.version; holder = found.holder; base = found.base; pages = all_low e }) k
    over false e = (tt, k)

on_page_of_fits : (f : Frame) (stamp : Stamp) (page : ℕ) (bytes : List ℕ) (o : Option Pull) (ps : List Pull) → Found (PullFits f.members.boot) o → Every (PullFits f.members.boot) ps → PullsDone f.members.boot (on_page_of f stamp page bytes o ps)
on_page_of_fits f stamp page bytes None ps found k = (tt, k)
on_page_of_fits f stamp page bytes (Some p) ps found k = over (is_awaited p stamp page bytes)
  where
    with_page : Pull
    with_page = record p { content = p.content ++ bytes }

    over : (b : Bool) → PullsDone f.members.boot (elim b as (λ (t : Bool). Outcome (List Pull)) [ true ↦ goes_on f with_page ps | false ↦ quiet ps ])
    over true = goes_on_fits f with_page ps (record { file = found.file; set = found.set; size = found.size; version = found.version; holder = found.holder; base = found.base; pages = found.pages }) k
    over false = (tt, k)

pub on_page_fits : (f : Frame) (file : FileId) (stamp : Stamp) (page : ℕ) (bytes : List ℕ) (ps : List Pull) → Every (PullFits f.members.boot) ps → PullsDone f.members.boot (on_page f file stamp page bytes ps)
on_page_fits f file stamp page bytes ps k = on_page_of_fits f stamp page bytes (pull_of ps file) ps (row_found (PullFits f.members.boot) pull_key (file_key file) ps k) k

pub on_delta_fits : (f : Frame) (own : Option FileCopy) (file : FileId) (stamp : Stamp) (pages : List ℕ) (ps : List Pull) → Every (PullFits f.members.boot) ps → PullsDone f.members.boot (on_delta f own file stamp pages ps)
on_delta_fits f own file stamp pages ps k = on_delta_of_fits f (pages_in own) stamp pages (pull_of ps file) ps (row_found (PullFits f.members.boot) pull_key (file_key file) ps k) k

pub pull_repeats_fit : (f : Frame) (ps : List Pull) → Every (PullFits f.members.boot) ps → Every (SentFits f.members.boot) (pull_repeats f ps)
pull_repeats_fit f ps h = every_flat (PullFits f.members.boot) (SentFits f.members.boot) (pull_packets f) ps (λ p k. pull_fits f p k) h
