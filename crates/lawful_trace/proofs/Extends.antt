-- What lines ask stays asked when more lines follow.
use Rattle.std.specs.Prelude.{◌≡◌, refl, ℕ, zero, suc, ◌+◌, ◌-◌, ◌≤◌, ◌<◌, Bool, true, false, ◌&&◌, ◌||◌, nat_le, List, [], ◌∷◌, ◌++◌, length, take, drop, fold, cond, ◌==◌}
use Rattle.std.specs.List.{list_any}
use Rattle.std.specs.Option.{is_some}
use Rattle.std.proofs.Common.{arith, ap, ◌∙◌}
use Rattle.std.proofs.lemmas.Bool.{leb-true, and_parts}
use Rattle.std.proofs.lemmas.List.{get_or_append_left, take-append-le, drop-append-le, length-drop}
use Rattle.locus_ids.specs.declared.config.Config.{Config}
use Rattle.locus_ids.specs.declared.ids.EpochId.{EpochId}
use Rattle.call_rules.specs.of_commit_graph.Vectors.{numbers_from}
use Rattle.trace_book.specs.declared.entry.Entry.{Entry}
use Rattle.disk_calls.specs.of_schedule_lines.declared.line.ScheduleLine.{ScheduleLine}
use Rattle.disk_calls.specs.of_schedule_lines.declared.line.ScheduleLine.TheVariants.{Passed}
use Rattle.disk_calls.specs.of_schedule_lines.Cluster.{config_of}
use Rattle.tree_model.specs.Folds.{Trace, before_line, last_line}
use Rattle.tree_model.specs.Epochs.{boot_of}
use Rattle.lawful_trace.specs.Places.{line_at, lines_before, initiator, starts_at}
use Rattle.lawful_trace.specs.SiteRows.{is_another, was_polled, is_site, starts_in, is_asked_for}
use Rattle.lawful_trace.specs.LineRows.{is_void_line, is_void_after}
use Rattle.lawful_trace.specs.Disks.{Disk, armed_by, through_lines, disk_of, disk_after, armed_at, has_left, may_cut, writer_of, without_version}
use Rattle.lawful_trace.specs.Lawful.{Comes, EachComes}

-- a line has its number, and those before it are the same
pub line_kept : (lines more : List ScheduleLine) (n : ℕ) → n ≤ length lines → line_at (lines ++ more) n ≡ line_at lines n
line_kept lines more zero h = refl
line_kept lines more (suc n) h = get_or_append_left lines more Passed n h

pub lines_before_kept : (lines more : List ScheduleLine) (n : ℕ) → n ≤ length lines → lines_before (lines ++ more) n ≡ lines_before lines n
lines_before_kept lines more n h = take-append-le (n - 1) lines more (omega arith)

pub initiator_kept : (lines more : List ScheduleLine) (before : Trace) (n : ℕ) → n ≤ length lines → initiator (lines ++ more) before n ≡ initiator lines before n
initiator_kept lines more before n h = ap (λ l. starts_at (config_of lines) l (before_line before n)) (line_kept lines more n h)

-- two tests that agree on some numbers find the same among them
any_same : (p q : ℕ → Bool) (first many : ℕ) → ((m : ℕ) → m < first + many → p m ≡ q m) → list_any p (numbers_from first many) ≡ list_any q (numbers_from first many)
any_same p q first zero same = refl
any_same p q first (suc many) same =
    ap (λ b. b || list_any p (numbers_from (first + 1) many)) (same first (omega arith))
    ∙ ap (λ b. q first || b) (any_same p q (first + 1) many (λ m h. same m (omega arith)))

pub polled_kept : (lines more : List ScheduleLine) (before : Trace) (n site : ℕ) → n ≤ length lines → was_polled (lines ++ more) before n site ≡ was_polled lines before n site
polled_kept lines more before n site h = any_same (λ m. is_another (initiator (lines ++ more) before m) site) (λ m. is_another (initiator lines before m) site) 1 (n - 1)
    (λ m below. ap (λ i. is_another i site) (initiator_kept lines more before m (omega arith)))

pub void_kept : (lines more : List ScheduleLine) (before : Trace) (n : ℕ) → n ≤ length lines → is_void_line (lines ++ more) before n ≡ is_void_line lines before n
void_kept lines more before n h =
    ap (λ ls. is_void_after (config_of lines) ls (before_line before n) (line_at (lines ++ more) n)) (lines_before_kept lines more n h)
    ∙ ap (λ l. is_void_after (config_of lines) (lines_before lines n) (before_line before n) l) (line_kept lines more n h)

-- the lines between two numbers are the same
between_kept : (lines more : List ScheduleLine) (first last : ℕ) → first ≤ last → last ≤ length lines
    → take (last - first) (drop first (lines ++ more)) ≡ take (last - first) (drop first lines)
between_kept lines more first last order h =
    ap (λ ls. take (last - first) ls) (drop-append-le first lines more (omega arith))
    ∙ take-append-le (last - first) (drop first lines) more (let long : length (drop first lines) ≡ length lines - first = length-drop first lines in omega arith)

pub asked_for_kept : (lines more : List ScheduleLine) (before : Trace) (n : ℕ) (e : EpochId) → n ≤ length lines → is_asked_for (lines ++ more) before n e ≡ is_asked_for lines before n e
asked_for_kept lines more before n e h = any_same (λ m. starts_in (lines ++ more) before m e.site e.boot) (λ m. starts_in lines before m e.site e.boot) 1 n
    (λ m below. ap (λ i. is_site i e.site && (boot_of (before_line before m) e.site == e.boot)) (initiator_kept lines more before m (omega arith)))

-- Disks.

through_kept : (lines more : List ScheduleLine) (site first last : ℕ) (d : Disk) → first ≤ last → last ≤ length lines
    → through_lines (lines ++ more) site first last d ≡ through_lines lines site first last d
through_kept lines more site first last d order h = ap (λ ls. fold (λ old l. armed_by site l old) d ls) (between_kept lines more first last order h)

-- a record's number, of a trace whose records come as they may
pub comes_after : {c : Config} {lines : List ScheduleLine} {before : Trace} {r : Entry} → Comes c lines before r → last_line before ≤ r.line
comes_after {before = before} {r = r} comes = leb-true (last_line before) r.line comes.consistent.ascending

pub comes_within : {c : Config} {lines : List ScheduleLine} {before : Trace} {r : Entry} → Comes c lines before r → r.line ≤ length lines
comes_within {lines = lines} {r = r} comes = leb-true r.line (length lines) (and_parts (nat_le 1 r.line) (nat_le r.line (length lines)) comes.placed).1

pub disk_kept : (c : Config) (lines more : List ScheduleLine) (trace : Trace) (site : ℕ) → EachComes c lines trace → disk_of c (lines ++ more) trace site ≡ disk_of c lines trace site
disk_kept c lines more [] site each = refl
disk_kept c lines more (r ∷ before) site each =
    ap (λ d. disk_after r.what c before site d)
    (ap (λ d. through_lines (lines ++ more) site (last_line before) r.line d) (disk_kept c lines more before site each.1)
    ∙ through_kept lines more site (last_line before) r.line (disk_of c lines before site) (comes_after each.0) (comes_within each.0))

pub armed_kept : (c : Config) (lines more : List ScheduleLine) (before : Trace) (n site : ℕ) → EachComes c lines before → last_line before ≤ n → n ≤ length lines
    → armed_at c (lines ++ more) before n site ≡ armed_at c lines before n site
armed_kept c lines more before n site each order h = ap (λ (d : Disk). d.armed)
    (ap (λ d. through_lines (lines ++ more) site (last_line before) n d) (disk_kept c lines more before site each)
    ∙ through_kept lines more site (last_line before) n (disk_of c lines before site) order h)

-- the records without the last version come as they may too, and none stands later
without_comes : (c : Config) (lines : List ScheduleLine) (before : Trace) (n : ℕ) → EachComes c lines before → last_line before ≤ n
    → EachComes c lines (without_version before) × (last_line (without_version before) ≤ n)
without_comes c lines [] n each order = (tt, order)
without_comes c lines (r ∷ before) n each order = pick (is_some (writer_of r.what))
  where
    pick : (b : Bool) → EachComes c lines (cond b before (r ∷ before)) × (last_line (cond b before (r ∷ before)) ≤ n)
    pick true = (each.1, (let after : last_line before ≤ r.line = comes_after each.0 in omega arith))
    pick false = (each, order)

pub cut_kept : (c : Config) (lines more : List ScheduleLine) (before : Trace) (n site : ℕ) → EachComes c lines before → last_line before ≤ n → n ≤ length lines
    → may_cut c (lines ++ more) before n site ≡ may_cut c lines before n site
cut_kept c lines more before n site each order h =
    let fewer = without_comes c lines before n each order in
    ap (λ a. has_left a || has_left (armed_at c (lines ++ more) (without_version before) n site)) (armed_kept c lines more before n site each order h)
    ∙ ap (λ a. has_left (armed_at c lines before n site) || has_left a) (armed_kept c lines more (without_version before) n site fewer.0 fewer.1 h)
