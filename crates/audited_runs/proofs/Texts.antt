-- The trace of every run is text.
use Rattle.std.proofs.Common.{◌≡◌, ◌≤◌, ℕ, Bool, true, ◌&&◌, List, [], ◌∷◌, length, Some, refl, sym, ap, subst, ◌∙◌, arith}
use Rattle.std.proofs.lemmas.List.Folds.{list_all-append}
use Rattle.std.specs.Prelude.{reverse}
use Rattle.std.specs.List.{AllByRecursion, list_all}
use Rattle.plain_facts.proofs.Tests.{and_true, both_true}
use Rattle.locus_ids.specs.declared.config.Config.{Config}
use Rattle.trace_book.specs.declared.entry.Entry.{Entry}
use Rattle.schedule_lines.specs.Cluster.{config_of}
use Rattle.schedule_lines.specs.Schedule.{AreInOrder}
use Rattle.schedule_lines.specs.declared.line.ScheduleLine.{ScheduleLine}
use Rattle.tree_model.specs.Folds.{Trace}
use Rattle.the_run.specs.Runs.{run}
use Rattle.the_run.specs.Worlds.{Place, place_at}
use Rattle.the_run.proofs.Runs.{every_run}
use Rattle.row_laws.specs.Rows.{IsMemberRow, IsSiteRow}
use Rattle.row_laws.specs.Shown.{EachRecord, trace_of}
use Rattle.row_laws.specs.Voids.{HasPlaces}
use Rattle.row_laws.proofs.Fitting.{cuts_none, schedule_fits}
use Rattle.row_laws.proofs.AskedRun.{run_members}
use Rattle.row_laws.proofs.SitesGoOn.{run_sites}
use Rattle.row_laws.proofs.SitesPlaced.{first_has, places_kept}
use Rattle.tree_laws.specs.Printed.{entries}
use Rattle.text_laws.proofs.of_rest_laws.Packs.{schedule_packs}
use Rattle.text_laws.proofs.of_rest_laws.Shown.{shown_entries}
use Rattle.text_laws.proofs.of_rest_laws.StoreStepFirst.{four_groups}
use Rattle.past_laws.specs.Along.{EachComesSo, IsNamed}
use Rattle.past_laws.proofs.Agreeing.{may_follow_all, one_tree, reverse_more}
use Rattle.headline_laws.specs.Prompting.Speaks.{IsSite, SpeaksOfWhatIs}
use Rattle.headline_laws.proofs.Prompting.RunSpeaks.{records_speak}
use Rattle.headline_laws.proofs.HeadlinePromises.Comes.{run_comes_so, run_is_named}
use Rattle.record_reading.specs.Ranges.{is_counted, is_record}
use Rattle.text_laws.specs.Records.Texts.{BootsAreLow, IsCountedCall, IsJoinFit, IsLined}
use Rattle.text_laws.proofs.Records.Boots.{run_boots}
use Rattle.text_laws.proofs.Records.Each.{run_calls_counted, run_lined}
use Rattle.text_laws.proofs.Records.Few.{run_few}
use Rattle.text_laws.proofs.Records.Joins.{run_joins}
use Rattle.text_laws.specs.VersionTexts.Texts.{CommitFits}
use Rattle.text_laws.specs.TreeTexts.NewTexts.{is_new_text}
use Rattle.text_laws.proofs.TreeTexts.Whole.{trace_texts}
use Rattle.text_laws.specs.NewTexts.Keeping.{KeepsFew}
use Rattle.text_laws.proofs.NewTexts.Mounts.{mounts_are_texts}
use Rattle.text_laws.proofs.NewTexts.Rows.{asks_low}
use Rattle.text_laws.proofs.FewKept.Few.{run_keeps_few}
use Rattle.packet_laws.specs.Reaching.Reach.{IsReached}
use Rattle.packet_laws.proofs.Reaching.Run.{run_reached}
use Rattle.audit_laws.specs.Inputs.{are_texts}
use Rattle.audited_runs.proofs.Begun.{has_booted}
use Rattle.audited_runs.proofs.News.{Known, new_text}

-- ---- what is known of each record ----

abbrev LowBoots : Config → Trace → Entry → Type 0
LowBoots c before r = (site : ℕ) → IsSite c site → BootsAreLow site before r

each_site : (c : Config) (trace : Trace) → ((site : ℕ) → IsSite c site → EachRecord (BootsAreLow site) trace) → EachRecord (LowBoots c) trace
each_site c [] h = tt
each_site c (r ∷ before) h = (λ site there. (h site there).0, each_site c before (λ site there. (h site there).1))

-- what laws of runs tell of each record
record Told (c : Config) (trace : Trace) : Type 0 where
  comes : EachComesSo c trace
  speaks : EachRecord (SpeaksOfWhatIs c) trace
  boots : EachRecord (LowBoots c) trace
  calls : EachRecord IsCountedCall trace
  versions : AllByRecursion (λ (r : Entry). CommitFits r.what) trace
  joins : EachRecord IsJoinFit trace
  members : EachRecord IsMemberRow trace
  sites : EachRecord (IsSiteRow c) trace
  reached : EachRecord IsReached trace
  few_kept : KeepsFew 17 c trace

all_known : (c : Config) → IsNamed c → (trace : Trace) → length trace ≤ 134217728 → Told c trace → EachRecord (Known c) trace
all_known c named [] few k = tt
all_known c named (r ∷ before) few k = (
  record {
    may = may_follow_all c named r before k.comes;
    speaks = k.speaks.0;
    boots = k.boots.0;
    few = omega (arith, few);
    calls = k.calls.0;
    versions = k.versions.0;
    joins = k.joins.0;
    members = k.members.0;
    begun = λ site. has_booted c before site k.sites.1;
    reached = k.reached.0;
    asks = asks_low 17 c before r.what (omega arith) k.few_kept.1 k.comes.0.row;
  },
  all_known c named before (omega (arith, few)) (record { comes = k.comes.1; speaks = k.speaks.1; boots = k.boots.1; calls = k.calls.1; versions = k.versions.1; joins = k.joins.1; members = k.members.1; sites = k.sites.1; reached = k.reached.1; few_kept = k.few_kept.1 }),
)

run_places : (lines : List ScheduleLine) → HasPlaces (config_of lines) (run lines)
run_places lines = every_run (config_of lines) (HasPlaces (config_of lines)) (places_kept (config_of lines)) (first_has (config_of lines)) lines

run_low : (lines : List ScheduleLine) (site : ℕ) → IsSite (config_of lines) site → EachRecord (BootsAreLow site) (trace_of (run lines))
run_low lines site there = let at : (p : Place) × (place_at (run lines) site ≡ Some p) = run_places lines site there in run_boots (config_of lines) lines site at.0 at.1

abbrev pub VersionsFit : List ScheduleLine → Type 0
VersionsFit lines = AllByRecursion (λ (r : Entry). CommitFits r.what) (entries (run lines).trace)

run_versions : (lines : List ScheduleLine) → VersionsFit lines → AllByRecursion (λ (r : Entry). CommitFits r.what) (trace_of (run lines))
run_versions lines h = subst (AllByRecursion (λ (r : Entry). CommitFits r.what)) (sym (shown_entries (run lines).trace)) h

run_known_records : (lines : List ScheduleLine) → AreInOrder lines → VersionsFit lines → EachRecord (Known (config_of lines)) (trace_of (run lines))
run_known_records lines order versions = all_known (config_of lines) (run_is_named lines order) (trace_of (run lines)) (run_few (config_of lines) lines) (record {
  comes = run_comes_so lines order;
  speaks = records_speak lines order;
  boots = each_site (config_of lines) (trace_of (run lines)) (run_low lines);
  calls = run_calls_counted (config_of lines) lines (schedule_fits lines order);
  versions = run_versions lines versions;
  joins = run_joins (config_of lines) lines;
  members = run_members (config_of lines) lines (cuts_none (config_of lines) lines (schedule_fits lines order));
  sites = run_sites (config_of lines) lines;
  reached = run_reached (config_of lines) lines (schedule_fits lines order) (schedule_packs lines order) (omega (arith, four_groups lines));
  few_kept = run_keeps_few (config_of lines) lines;
})

-- ---- in the order in which they are printed ----

all_reversed : (p : Entry → Bool) (trace : Trace) → EachRecord (λ before r. p r ≡ true) trace → list_all p (reverse trace) ≡ true
all_reversed p [] h = refl
all_reversed p (r ∷ before) h = ap (list_all p) (reverse_more r before) ∙ (list_all-append p (reverse before) (r ∷ []) ∙ and_true (list_all p (reverse before)) (list_all p (r ∷ [])) (all_reversed p before h.1) (and_true (p r) true h.0 refl))

reversed_all : (p : Entry → Bool) (trace : Trace) → list_all p (reverse trace) ≡ true → EachRecord (λ before r. p r ≡ true) trace
reversed_all p [] h = tt
reversed_all p (r ∷ before) h =
    let parts = both_true (list_all p (reverse before)) (list_all p (r ∷ [])) (sym (list_all-append p (reverse before) (r ∷ [])) ∙ (ap (list_all p) (sym (reverse_more r before)) ∙ h)) in
    ((both_true (p r) true parts.1).0, reversed_all p before parts.0)

each_new : (c : Config) (trace : Trace) → EachRecord (Known c) trace → EachRecord (λ before r. is_new_text r.what ≡ true) trace
each_new c [] k = tt
each_new c (r ∷ before) k = (new_text c before r k.0, each_new c before k.1)

each_both : (trace : Trace) → EachRecord IsLined trace → EachRecord (λ before r. is_record r.what ≡ true) trace → EachRecord (λ before r. (is_counted r.line && is_record r.what) ≡ true) trace
each_both [] k h = tt
each_both (r ∷ before) k h = (and_true (is_counted r.line) (is_record r.what) k.0 h.0, each_both before k.1 h.1)

pub run_texts : (lines : List ScheduleLine) → AreInOrder lines → VersionsFit lines → length lines ≤ 4294967295 → are_texts (reverse (trace_of (run lines))) ≡ true
run_texts lines order versions few =
    let c : Config = config_of lines in
    let trace : Trace = trace_of (run lines) in
    let new : list_all (λ (e : Entry). is_new_text e.what) (reverse trace) ≡ true = all_reversed (λ (e : Entry). is_new_text e.what) trace (each_new c trace (run_known_records lines order versions)) in
    let records : list_all (λ (e : Entry). is_record e.what) (reverse trace) ≡ true = trace_texts c (reverse trace) (run_is_named lines order) (mounts_are_texts lines order) (one_tree c (run_is_named lines order) trace (run_comes_so lines order)) new in
    all_reversed (λ (e : Entry). is_counted e.line && is_record e.what) trace (each_both trace (run_lined c lines few) (reversed_all (λ (e : Entry). is_record e.what) trace records))
