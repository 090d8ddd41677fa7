-- The law of boxes, of every trace that came as it may, and so of every run.
use Rattle.std.proofs.Common.{◌≡◌, ℕ, ◌≤◌, ◌<◌, ◌^◌, List, length, refl, sym, ◌∙◌, subst, ◌⊎◌, inl, inr, arith}
use Rattle.locus_ids.specs.declared.config.Config.{Config}
use Rattle.locus_ids.specs.declared.ids.Kind.TheVariants as kind
use Rattle.locus_ids.specs.Sizes.{sites_max}
use Rattle.commit_graph.specs.Versions.{content_of}
use Rattle.trace_book.specs.declared.call.Call.{Call}
use Rattle.trace_book.specs.declared.call.Call.TheVariants as words
use Rattle.schedule_lines.specs.Cluster.{config_of}
use Rattle.schedule_lines.specs.Schedule.{AreInOrder}
use Rattle.schedule_lines.specs.declared.line.ScheduleLine.{ScheduleLine}
use Rattle.dir_format.specs.Contents.{entries_of}
use Rattle.the_run.specs.Runs.{run}
use Rattle.the_run.specs.Worlds.{Line}
use Rattle.tree_model.specs.Histories.{history}
use Rattle.tree_laws.specs.Printed.{entries}
use Rattle.rest_laws.specs.of_store_laws.OneTree.Rest.{IsNumberedLow, Past}
use Rattle.rest_laws.specs.of_row_laws.Shown.{trace_of}
use Rattle.rest_laws.specs.StoreStepKnown.{IsKnownCall}
use Rattle.rest_laws.proofs.of_row_laws.Fitting.{schedule_fits}
use Rattle.rest_laws.proofs.Packs.{schedule_packs}
use Rattle.rest_laws.proofs.Shown.{shown_entries}
use Rattle.rest_laws.proofs.StoreStepFirst.{four_groups}
use Rattle.rest_laws.proofs.StoreStepKnown.{known_call}
use Rattle.rest_laws.proofs.Fits.EntryContents.{content_dir}
use Rattle.rest_laws.proofs.Fits.EntryFacts.{IsPlain}
use Rattle.rest_laws.proofs.Fits.Tables.{past_of_run}
use Rattle.headline_laws.specs.Boxes.Boxes.{Boxed, IsBox, inserted, is_among, makings, removed}
use Rattle.headline_laws.proofs.Boxes.Along.{trace_boxes}
use Rattle.headline_laws.proofs.Boxes.Keeping.{AllBoxes, BoxOf}
use Rattle.headline_laws.proofs.Boxes.Puts.{MailsAreLow, Put, Saw, put_once}
use Rattle.headline_laws.proofs.Boxes.Showing.{box_shows}

file_dir : kind.File ≡ kind.Dir → ⊥
file_dir e = cc

-- calls that mail have names with low numbers
mails_low : (c : Config) (t : List Line) → Past c t → MailsAreLow t
mails_low c t past d w path bytes named mails = (site d.site known.site.high, names.0, names.1)
  where
    known : IsKnownCall c d w
    known = known_call c t past.followed past.rest.each d w named

    site : (s : ℕ) → s ≤ sites_max → s < 2 ^ 8
    site s high = omega arith

    by : (v : Call) → v ≡ words.Mail path bytes → IsNumberedLow d v → (d.boot < 2 ^ 32) × (d.n < 2 ^ 32)
    by v is low = (low_words.boot, low_words.n)
      where
        low_words : IsNumberedLow d (words.Mail path bytes)
        low_words = subst (IsNumberedLow d) is low

    names : (d.boot < 2 ^ 32) × (d.n < 2 ^ 32)
    names = by w.words mails known.name

pub boxes_hold : (c : Config) (trace : List Line) → Past c trace → Boxed c (entries trace)
boxes_hold c trace past keeps f stamp stands dir = over (all.versions f stamp)
  where
    low : MailsAreLow trace
    low = mails_low c trace past

    all : AllBoxes c trace
    all = trace_boxes c trace past.rest.packs past.followed past.rest.each low keeps.handled keeps.once

    over : IsPlain c trace f ⊎ BoxOf c trace f.group (is_among (inserted (makings c (entries trace)) f stamp)) (is_among (removed (makings c (entries trace)) f stamp)) (entries_of (content_of (history c (entries trace)) f stamp)) → IsBox c (entries trace) f stamp
    over (inl plain) = absurd (file_dir (sym plain.kind_is ∙ dir))
    over (inr box) = box_shows (Put c trace f.group) (Saw c trace f.group) (λ name a b p q. put_once c trace low f.group f.group name a b p q) (is_among (inserted (makings c (entries trace)) f stamp)) (is_among (removed (makings c (entries trace)) f stamp))
        (entries_of (content_of (history c (entries trace)) f stamp)) (content_dir (content_of (history c (entries trace)) f stamp)) box (inserted (makings c (entries trace)) f stamp) (removed (makings c (entries trace)) f stamp) (λ n. refl) (λ n. refl)

pub runs_hold : (lines : List ScheduleLine) → AreInOrder lines → Boxed (config_of lines) (trace_of (run lines))
runs_hold lines order = subst (Boxed (config_of lines)) (sym (shown_entries (run lines).trace)) (boxes_hold (config_of lines) (run lines).trace (past_of_run (config_of lines) lines (schedule_fits lines order) (schedule_packs lines order) few))
  where
    few : length (config_of lines).packs ≤ 4
    few = omega (arith, four_groups lines)
