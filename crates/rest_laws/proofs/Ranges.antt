-- Who joins is one of sites 1 to 16, and who asks a call by a line too.
use Rattle.std.proofs.Common.{◌≡◌, ◌≤◌, ◌<◌, ℕ, zero, suc, ◌==◌, ◌&&◌, nat_lt, Bool, true, false, cond, List, [], ◌∷◌, refl, sym, ◌∙◌, arith}
use Rattle.std.proofs.lemmas.Bool.Decides.{nat_tests}
use Rattle.locus_ids.specs.declared.config.Config.{Config}
use Rattle.locus_ids.specs.declared.sites.Members.{Members}
use Rattle.locus_ids.specs.Sizes.{sites_max}
use Rattle.schedule_lines.specs.Ranges.{fits_call, fits_event, is_between, is_site}
use Rattle.schedule_lines.specs.declared.line.Line.TheVariants as line
use Rattle.schedule_lines.specs.declared.line.ScheduleLine.{ScheduleLine}
use Rattle.trace_book.specs.declared.call.Call.{Call}
use Rattle.trace_book.specs.declared.call.Call.TheVariants as call
use Rattle.trace_book.specs.declared.record.Record.{Record}
use Rattle.trace_book.specs.declared.record.Record.TheVariants as says
use Rattle.tree_model.specs.Folds.{Trace}
use Rattle.tree_model.specs.Epochs.{boot_after, boot_of}
use Rattle.tree_model.specs.Packs.{boot_in}
use Rattle.lawful_trace.specs.CallRows.{CallLine, IsCallAsked}
use Rattle.store_laws.specs.of_site_laws.Vectors.HistoryCommits.{IsSite}
use Rattle.store_laws.specs.of_row_laws.Events.{IsShort}
use Rattle.store_laws.specs.of_row_laws.Rows.{SiteRecordRow}
use Rattle.store_laws.specs.of_row_laws.Shown.{EachRecord}
use Rattle.store_laws.specs.of_row_laws.Voids.{LinesFit}
use Rattle.store_laws.proofs.of_tree_laws.Syncs.Members.{table_boot}
use Rattle.store_laws.specs.OneTree.Rest.{AskedCall, RangeCall}
use Rattle.rest_laws.proofs.Shown.{IsRow}

-- ---- boots ----

above_none : (a b : ℕ) → nat_lt a b ≡ true → 1 ≤ b
above_none a b h = grind (arith, nat_tests)

boot_next : (c : Config) (r : Record) (before : Trace) (s : ℕ) → SiteRecordRow c before r → 1 ≤ boot_of before s → 1 ≤ boot_after r s (boot_of before s)
boot_next c (says.Up t boot) before s row h = over (t == s)
  where
    over : (b : Bool) → 1 ≤ cond b boot (boot_of before s)
    over true = above_none (boot_of before t) boot row.above
    over false = h
boot_next c _ before s row h = h

-- boot numbers begin at 1
pub boots_begin : (c : Config) (lines : List ScheduleLine) (t : Trace) → EachRecord (IsRow c lines) t → (s : ℕ) → 1 ≤ boot_of t s
boots_begin c lines [] h s = omega arith
boots_begin c lines (r ∷ before) h s = boot_next c r.what before s h.0.site (boots_begin c lines before h.1 s)

-- ---- joins ----

-- whoever a list that has no site beyond the sixteenth has with a boot is one of the sixteen
pub listed_site : (m : Members) (s boot : ℕ) → boot_in m s ≡ boot → 1 ≤ boot → IsShort m → IsSite s
listed_site m zero boot e low short = absurd (never boot e low)
  where
    never : (b : ℕ) → 0 ≡ b → 1 ≤ b → ⊥
    never b e low = omega (arith, e, low)
listed_site m (suc k) boot e low short = record { low = omega arith; high = up (nat_lt sites_max (suc k)) refl }
  where
    beyond : nat_lt sites_max (suc k) ≡ true → sites_max < suc k
    beyond q = grind (arith, nat_tests)

    within : nat_lt sites_max (suc k) ≡ false → suc k ≤ sites_max
    within q = grind (arith, nat_tests)

    none : (b : ℕ) → b ≡ 0 → 1 ≤ b → ⊥
    none b e low = omega (arith, e, low)

    up : (b : Bool) → nat_lt sites_max (suc k) ≡ b → suc k ≤ sites_max
    up true q = absurd (none boot (sym e ∙ (sym (table_boot m (suc k)) ∙ short (suc k) (beyond q))) low)
    up false q = within q

-- ---- calls ----

pub call_fits : (n s process : ℕ) (words : Call) → fits_event n (line.Call s process words) ≡ true → (is_site n s ≡ true) × ((is_between 1 8 process ≡ true) × (fits_call n words ≡ true))
call_fits n s process words h = over (is_site n s) (is_between 1 8 process) h
  where
    over : (a b : Bool) → (a && b && fits_call n words) ≡ true → (a ≡ true) × ((b ≡ true) × (fits_call n words ≡ true))
    over true true h = (refl, (refl, h))
    over true false h = absurd (cc)
    over false b h = absurd (cc)

site_low : (n s : ℕ) → is_site n s ≡ true → 1 ≤ s
site_low n s h = grind (arith, nat_tests)

site_high : (n s : ℕ) → is_site n s ≡ true → s ≤ sites_max
site_high n s h = grind (arith, nat_tests)

process_one : (p : ℕ) → is_between 1 8 p ≡ true → 1 ≤ p
process_one p h = grind (arith, nat_tests)

process_byte : (p : ℕ) → is_between 1 8 p ≡ true → p < 256
process_byte p h = grind (arith, nat_tests)

asked_call : (c : Config) (lines : List ScheduleLine) (n s process : ℕ) (words : Call) → LinesFit c lines → IsCallAsked lines n s process words → AskedCall c s process words
asked_call c lines n s process words fit h =
    let k : (is_site c.sites s ≡ true) × ((is_between 1 8 process ≡ true) × (fits_call c.sites words ≡ true)) = call_fits c.sites s process words (fit n (line.Call s process words) h.asked) in
    record { site = record { low = site_low c.sites s k.0; high = site_high c.sites s k.0 }; process_low = process_one process k.1.0; process_high = process_byte process k.1.0; fits = k.1.1 }

-- what a line asked is in range
pub call_range : (c : Config) (lines : List ScheduleLine) (n s process : ℕ) (words : Call) → LinesFit c lines → CallLine lines n s process words → RangeCall c s process words
call_range c lines n s process (call.Mend f) fit h = tt
call_range c lines n s process words fit h = asked_call c lines n s process _ fit h
