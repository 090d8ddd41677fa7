-- A lawful trace with the records of one line more is lawful.
use Rattle.std.specs.Prelude.{◌≡◌, refl, ℕ, zero, suc, ◌+◌, ◌≤◌, ◌<◌, ◌==◌, Bool, true, false, not, ◌&&◌, ◌||◌, nat_le, List, [], ◌∷◌, ◌++◌, length, filter, cond, Option, None, Some, slice_index_or}
use Rattle.std.specs.List.{list_all, AllByRecursion}
use Rattle.std.proofs.Common.{arith, ap, sym, ◌∙◌, ⊎_elim, subst}
use Rattle.std.proofs.lemmas.Bool.{and_parts, and_from, le-ltb, ne_eqb, both_ways, or_parts}
use Rattle.std.proofs.lemmas.List.Sums.{fold-append}
use Rattle.std.proofs.Math.Nat.{eq-or-lt_of_le}
use Rattle.std.proofs.Math.Bool.{or-true}
use Rattle.std.proofs.lemmas.List.{length-append}
use Rattle.locus_ids.specs.declared.config.Config.{Config}
use Rattle.call_rules.specs.of_commit_graph.Vectors.{numbers_from}
use Rattle.trace_book.specs.declared.entry.Entry.{Entry}
use Rattle.trace_book.specs.declared.record.Record.{Record}
use Rattle.disk_calls.specs.of_schedule_lines.declared.line.ScheduleLine.{ScheduleLine}
use Rattle.disk_calls.specs.of_schedule_lines.declared.line.ScheduleLine.TheVariants.{Passed, Header, Event}
use Rattle.disk_calls.specs.of_schedule_lines.Cluster.{config_of, no_cluster, with_line}
use Rattle.disk_calls.specs.of_schedule_lines.Schedule.{is_event, has_begun}
use Rattle.tree_model.specs.Folds.{Trace, before_line}
use Rattle.lawful_trace.specs.Places.{line_at, lines_before}
use Rattle.lawful_trace.specs.LineRows.{is_void, is_void_line, is_void_after, how_many, tale, must_tell, is_told_by, is_told, are_told}
use Rattle.lawful_trace.specs.Disks.{writer_of, is_cut_next, is_within_calls, Disk, disk_of, fits_calls, all_fit_calls, keeps_calls}
use Rattle.lawful_trace.specs.Lawful.{EachComes, IsLawful}
use Rattle.lawful_trace.specs.Growth.{EachNew, new_fit_calls, IsNextLine, is_header}
use Rattle.lawful_trace.proofs.Extends.{line_kept, void_kept, disk_kept}
use Rattle.lawful_trace.proofs.Longer.{each_kept}

-- Records.

joined : (c : Config) (lines : List ScheduleLine) (new trace : Trace) → EachNew c lines new trace → EachComes c lines trace → EachComes c lines (new ++ trace)
joined c lines [] trace news each = each
joined c lines (r ∷ new) trace news each = (news.0, joined c lines new trace news.1 each)

-- Numbers: a test that each of some numbers passes.

all_from : (p : ℕ → Bool) (first many : ℕ) → list_all p (numbers_from first many) ≡ true → (m : ℕ) → first ≤ m → m < first + many → p m ≡ true
all_from p first zero h m low high = absurd (omega arith)
all_from p first (suc many) h m low high =
    let parts = and_parts (p first) (list_all p (numbers_from (first + 1) many)) h in
    ⊎_elim (λ (same : first ≡ m). ap p (sym same) ∙ parts.0)
    (λ (later : first < m). all_from p (first + 1) many parts.1 m (omega arith) (omega arith))
    (eq-or-lt_of_le low)

all_to : (p : ℕ → Bool) (first many : ℕ) → ((m : ℕ) → first ≤ m → m < first + many → p m ≡ true) → list_all p (numbers_from first many) ≡ true
all_to p first zero each = refl
all_to p first (suc many) each =
    and_from (p first) (list_all p (numbers_from (first + 1) many)) (each first (omega arith) (omega arith))
    (all_to p (first + 1) many (λ m low high. each m (omega arith) (omega arith)))

-- Lines before the new one: what they tell is the same.

before_kept : (n m : ℕ) (new trace : Trace) → AllByRecursion (λ (r : Entry). r.line ≡ n) new → m < n → before_line (new ++ trace) m ≡ before_line trace m
before_kept n m [] trace fresh h = refl
before_kept n m (r ∷ new) trace fresh h =
    let number : r.line ≡ n = fresh.0 in
    ap (λ b. cond b (r ∷ new ++ trace) (before_line (new ++ trace) m)) (le-ltb r.line m (omega arith))
    ∙ before_kept n m new trace fresh.1 h

many_kept : (p : Record → Bool) (n m : ℕ) (new trace : Trace) → AllByRecursion (λ (r : Entry). r.line ≡ n) new → m < n → how_many p m (new ++ trace) ≡ how_many p m trace
many_kept p n m [] trace fresh h = refl
many_kept p n m (r ∷ new) trace fresh h =
    let number : r.line ≡ n = fresh.0 in
    ap (λ b. length (cond (b && p r.what) (r ∷ filter (λ (q : Entry). (q.line == m) && p q.what) (new ++ trace)) (filter (λ (q : Entry). (q.line == m) && p q.what) (new ++ trace))))
    (ne_eqb r.line m (λ (same : r.line ≡ m). omega arith))
    ∙ many_kept p n m new trace fresh.1 h

told_by_kept : (d : Option Bool) (l : ScheduleLine) (m : ℕ) (longer trace : Trace) → ((p : Record → Bool) → how_many p m longer ≡ how_many p m trace) → is_told_by d l m longer ≡ is_told_by d l m trace
told_by_kept None l m longer trace same = ap (λ k. nat_le k 1) (same is_void)
told_by_kept (Some true) l m longer trace same = ap (λ k. k == 1) (same is_void)
told_by_kept (Some false) Passed m longer trace same = refl
told_by_kept (Some false) (Header h) m longer trace same = refl
told_by_kept (Some false) (Event l) m longer trace same = ap (λ k. not (must_tell l) || (k == 1)) (same (tale l))

void_line_kept : (lines more : List ScheduleLine) (new trace : Trace) (m : ℕ) → AllByRecursion (λ (r : Entry). r.line ≡ length lines + 1) new → m ≤ length lines
    → is_void_line (lines ++ more) (new ++ trace) m ≡ is_void_line lines trace m
void_line_kept lines more new trace m fresh h =
    void_kept lines more (new ++ trace) m h
    ∙ ap (λ b. is_void_after (config_of lines) (lines_before lines m) b (line_at lines m)) (before_kept (length lines + 1) m new trace fresh (omega arith))

told_kept : (lines more : List ScheduleLine) (new trace : Trace) (m : ℕ) → AllByRecursion (λ (r : Entry). r.line ≡ length lines + 1) new → m ≤ length lines
    → is_told (lines ++ more) (new ++ trace) m ≡ is_told lines trace m
told_kept lines more new trace m fresh h =
    ap (λ d. is_told_by d (line_at (lines ++ more) m) m (new ++ trace)) (void_line_kept lines more new trace m fresh h)
    ∙ (ap (λ l. is_told_by (is_void_line lines trace m) l m (new ++ trace)) (line_kept lines more m h)
    ∙ told_by_kept (is_void_line lines trace m) (line_at lines m) m (new ++ trace) trace (λ p. many_kept p (length lines + 1) m new trace fresh (omega arith)))

-- Armed disks.

cut_or_within : (next : Option Record) (site : ℕ) (b : Bool) → b ≡ true → is_cut_next next site || b ≡ true
cut_or_within next site b h = ap (λ x. is_cut_next next site || x) h ∙ or-true (is_cut_next next site)

fits_kept : (c : Config) (lines more : List ScheduleLine) (next : Option Record) (trace : Trace) (writer : Option ℕ) → EachComes c lines trace
    → fits_calls c lines None trace writer ≡ true → fits_calls c (lines ++ more) next trace writer ≡ true
fits_kept c lines more next trace None each h = refl
fits_kept c lines more next trace (Some site) each h =
    cut_or_within next site (is_within_calls (disk_of c (lines ++ more) trace site).armed)
    (ap (λ (d : Disk). is_within_calls d.armed) (disk_kept c lines more trace site each) ∙ h)

same_fits : (c : Config) (lines more : List ScheduleLine) (next : Option Record) (trace : Trace) (writer : Option ℕ) → EachComes c lines trace
    → fits_calls c (lines ++ more) next trace writer ≡ fits_calls c lines next trace writer
same_fits c lines more next trace None each = refl
same_fits c lines more next trace (Some site) each = ap (λ (d : Disk). is_cut_next next site || is_within_calls d.armed) (disk_kept c lines more trace site each)

all_same_fits : (c : Config) (lines more : List ScheduleLine) (next : Option Record) (trace : Trace) → EachComes c lines trace
    → all_fit_calls c (lines ++ more) next trace ≡ all_fit_calls c lines next trace
all_same_fits c lines more next [] each = refl
all_same_fits c lines more next (r ∷ before) each =
    ap (λ b. b && all_fit_calls c (lines ++ more) (Some r.what) before) (same_fits c lines more next (r ∷ before) (writer_of r.what) each)
    ∙ ap (λ b. fits_calls c lines next (r ∷ before) (writer_of r.what) && b) (all_same_fits c lines more (Some r.what) before each.1)

-- what fits with no record behind it fits with any
old_fit : (c : Config) (lines more : List ScheduleLine) (next : Option Record) (trace : Trace) → EachComes c lines trace
    → all_fit_calls c lines None trace ≡ true → all_fit_calls c (lines ++ more) next trace ≡ true
old_fit c lines more next [] each h = refl
old_fit c lines more next (r ∷ before) each h =
    let parts = and_parts (fits_calls c lines None (r ∷ before) (writer_of r.what)) (all_fit_calls c lines (Some r.what) before) h in
    and_from (fits_calls c (lines ++ more) next (r ∷ before) (writer_of r.what)) (all_fit_calls c (lines ++ more) (Some r.what) before)
    (fits_kept c lines more next (r ∷ before) (writer_of r.what) each parts.0)
    (all_same_fits c lines more (Some r.what) before each.1 ∙ parts.1)

all_fit : (c : Config) (lines more : List ScheduleLine) (next : Option Record) (new trace : Trace) → EachComes c lines trace
    → new_fit_calls c (lines ++ more) next new trace ≡ true → all_fit_calls c lines None trace ≡ true → all_fit_calls c (lines ++ more) next (new ++ trace) ≡ true
all_fit c lines more next [] trace each fresh h = old_fit c lines more next trace each h
all_fit c lines more next (r ∷ new) trace each fresh h =
    let parts = and_parts (fits_calls c (lines ++ more) next (r ∷ new ++ trace) (writer_of r.what)) (new_fit_calls c (lines ++ more) (Some r.what) new trace) fresh in
    and_from (fits_calls c (lines ++ more) next (r ∷ new ++ trace) (writer_of r.what)) (all_fit_calls c (lines ++ more) (Some r.what) (new ++ trace))
    parts.0 (all_fit c lines more (Some r.what) new trace each parts.1 h)

-- The whole.

told_longer : (lines : List ScheduleLine) (l : ScheduleLine) (new trace : Trace) → are_told lines trace ≡ true → IsNextLine lines trace l new → (m : ℕ) → 1 ≤ m → m ≤ length lines + 1
    → is_told (lines ++ l ∷ []) (new ++ trace) m ≡ true
told_longer lines l new trace told step m low high =
    ⊎_elim (λ (same : m ≡ length lines + 1). ap (λ k. is_told (lines ++ l ∷ []) (new ++ trace) k) same ∙ step.told)
    (λ (earlier : m < length lines + 1). told_kept lines (l ∷ []) new trace m step.numbers (omega arith)
    ∙ all_from (is_told lines trace) 1 (length lines) told m low (omega arith))
    (eq-or-lt_of_le high)

-- a line that is no header line leaves the cluster as it is
cluster_kept : (lines : List ScheduleLine) (l : ScheduleLine) → is_header l ≡ false → config_of (lines ++ l ∷ []) ≡ config_of lines
cluster_kept lines Passed h = fold-append with_line no_cluster lines (Passed ∷ [])
cluster_kept lines (Event e) h = fold-append with_line no_cluster lines (Event e ∷ [])
cluster_kept lines (Header header) h = absurd (both_ways (is_header (Header header)) h refl)

pub grown : (lines : List ScheduleLine) (l : ScheduleLine) (new trace : Trace) → IsLawful lines trace → IsNextLine lines trace l new → IsLawful (lines ++ l ∷ []) (new ++ trace)
grown lines l new trace lawful step = record {
  each = subst (λ c. EachComes c (lines ++ l ∷ []) (new ++ trace)) (sym (cluster_kept lines l step.no_header))
      (joined (config_of lines) (lines ++ l ∷ []) new trace step.each (each_kept (config_of lines) lines (l ∷ []) trace lawful.each));
  told = subst (λ k. list_all (is_told (lines ++ l ∷ []) (new ++ trace)) (numbers_from 1 k) ≡ true) (sym (length-append lines (l ∷ [])))
      (all_to (is_told (lines ++ l ∷ []) (new ++ trace)) 1 (length lines + 1) (λ m low high. told_longer lines l new trace lawful.told step m low (omega arith)));
  calls = subst (λ c. keeps_calls c (lines ++ l ∷ []) (new ++ trace) ≡ true) (sym (cluster_kept lines l step.no_header))
      (all_fit (config_of lines) lines (l ∷ []) None new trace lawful.each step.calls lawful.calls);
}

-- Before the first event nothing is told, and nothing has to be.

quiet_in : (lines : List ScheduleLine) (n : ℕ) → has_begun lines ≡ false → is_event (slice_index_or lines n Passed) ≡ false
quiet_in [] n h = refl
quiet_in (l ∷ ls) zero h = (or_parts (is_event l) (has_begun ls) h).0
quiet_in (l ∷ ls) (suc n) h = quiet_in ls n (or_parts (is_event l) (has_begun ls) h).1

quiet_at : (lines : List ScheduleLine) (n : ℕ) → has_begun lines ≡ false → is_event (line_at lines n) ≡ false
quiet_at lines zero h = refl
quiet_at lines (suc n) h = quiet_in lines n h

quiet_told : (c : Config) (earlier : List ScheduleLine) (n : ℕ) (l : ScheduleLine) → is_event l ≡ false → is_told_by (is_void_after c earlier [] l) l n [] ≡ true
quiet_told c earlier n Passed h = refl
quiet_told c earlier n (Header header) h = refl
quiet_told c earlier n (Event e) h = absurd (both_ways (is_event (Event e)) h refl)

pub lawful_at_first : (lines : List ScheduleLine) → has_begun lines ≡ false → IsLawful lines []
lawful_at_first lines h = record {
  each = tt;
  told = all_to (is_told lines []) 1 (length lines) (λ m low high. quiet_told (config_of lines) (lines_before lines m) m (line_at lines m) (quiet_at lines m h));
  calls = refl;
}
