-- The disks of the lawful trace, record by record and line by line.
use Rattle.std.proofs.Common.{◌≡◌, ◌≤◌, ◌<◌, ℕ, zero, suc, ◌+◌, ◌-◌, Bool, true, false, ◌||◌, ◌&&◌, List, [], ◌∷◌, length, take, drop, fold, slice_index_or, Option, Some, None, refl, ◌∙◌, ap, arith}
use Rattle.role_steps.proofs.of_plain_facts.Tests.{and_true, both_true, or_second}
use Rattle.locus_ids.specs.declared.config.Config.{Config}
use Rattle.trace_book.specs.declared.record.Record.{Record}
use Rattle.trace_book.specs.declared.record.Record.TheVariants as says
use Rattle.schedule_lines.specs.declared.line.ScheduleLine.{ScheduleLine}
use Rattle.schedule_lines.specs.declared.line.ScheduleLine.TheVariants.{Passed}
use Rattle.role_steps.specs.Own.{Every}
use Rattle.role_steps.specs.Views.{Told, Shown}
use Rattle.lawful_trace.specs.of_tree_model.Folds.{Trace}
use Rattle.site_laws.specs.of_the_run.Worlds.{Line, told_onto}
use Rattle.lawful_trace.specs.Places.{line_at}
use Rattle.lawful_trace.specs.Disks.{Disk, armed_by, through_lines, disk_after, disk_of, disk_at, writer_of, is_cut_next, is_within_calls, fits_calls, all_fit_calls, keeps_calls}
use Rattle.site_laws.specs.Vectors.Held.{StillRecord, Still}
use Rattle.row_laws.specs.Shown.{with_told, shown, EachRecord}
use Rattle.row_laws.specs.Events.{Causes, SiteRecord, SiteTold}
use Rattle.row_laws.specs.Rows.{IsArmedFor}
use Rattle.row_laws.specs.Arms.{NoDiskRecord, NoDisk}

-- ---- one line more ----

no_less : (n : ℕ) → n < 0 → ⊥
no_less n h = omega (arith, h)

pub fold_next : {A : Type 0} (f : A → ScheduleLine → A) (d : A) (k : ℕ) (xs : List ScheduleLine) → k < length xs → fold f d (take (suc k) xs) ≡ f (fold f d (take k xs)) (slice_index_or xs k Passed)
fold_next f d k [] h = absurd (no_less k h)
fold_next f d zero (x ∷ xs) h = refl
fold_next f d (suc k) (x ∷ xs) h = fold_next f (f d x) k xs (omega (arith, h))

at_dropped : (first k : ℕ) (xs : List ScheduleLine) → slice_index_or (drop first xs) k Passed ≡ slice_index_or xs (first + k) Passed
at_dropped zero k xs = ap (λ (n : ℕ). slice_index_or xs n Passed) (none_more k)
  where
    none_more : (k : ℕ) → k ≡ 0 + k
    none_more k = omega arith
at_dropped (suc first) k [] = refl
at_dropped (suc first) k (x ∷ xs) = at_dropped first k xs ∙ ap (λ (n : ℕ). slice_index_or (x ∷ xs) n Passed) (one_more first k)
  where
    one_more : (a b : ℕ) → suc (a + b) ≡ suc a + b
    one_more a b = omega arith

length_dropped : (first : ℕ) (xs : List ScheduleLine) → length xs ≤ length (drop first xs) + first
length_dropped zero xs = omega arith
length_dropped (suc first) [] = omega arith
length_dropped (suc first) (x ∷ xs) = let h : length xs ≤ length (drop first xs) + first = length_dropped first xs in omega (arith, h)

next_count : (n last : ℕ) → last ≤ n → n + 1 - last ≡ suc (n - last)
next_count n last h = omega (arith, h)

next_place : (n last : ℕ) → last ≤ n → suc (last + (n - last)) ≡ n + 1
next_place n last h = omega (arith, h)

within_dropped : (n last all dropped : ℕ) → last ≤ n → n < all → all ≤ dropped + last → n - last < dropped
within_dropped n last all dropped h g k = omega (arith, h, g, k)

pub through_next : (lines : List ScheduleLine) (s last n : ℕ) (d : Disk) → last ≤ n → n < length lines → through_lines lines s last (n + 1) d ≡ armed_by s (line_at lines (n + 1)) (through_lines lines s last n d)
through_next lines s last n d h g =
    ap (λ (k : ℕ). fold (λ old l. armed_by s l old) d (take k (drop last lines))) (next_count n last h)
    ∙ (fold_next (λ old l. armed_by s l old) d (n - last) (drop last lines) (within_dropped n last (length lines) (length (drop last lines)) h g (length_dropped last lines))
    ∙ ap (λ (l : ScheduleLine). armed_by s l (through_lines lines s last n d)) (at_dropped last (n - last) lines ∙ ap (line_at lines) (next_place n last h)))

-- ---- one record more ----

none_between : (n : ℕ) → n - n ≡ 0
none_between n = omega arith

-- the disk after a record of the line that has begun last
pub disk_more : (c : Config) (lines : List ScheduleLine) (n s : ℕ) (r : Record) (before : Trace) → disk_at c lines (record { line = n; what = r } ∷ before) n s ≡ disk_after r c before s (disk_at c lines before n s)
disk_more c lines n s r before = ap (λ (k : ℕ). fold (λ old l. armed_by s l old) (disk_after r c before s (disk_at c lines before n s)) (take k (drop n lines))) (none_between n)

-- ---- records that change no disk ----

no_disk_record : (me : ℕ) (k : Causes) (r : Record) → SiteRecord me k r → StillRecord r → NoDiskRecord r
no_disk_record me k (says.Up t boot) h g = absurd h
no_disk_record me k (says.Stopped t why) h g = absurd h
no_disk_record me k (says.Commit f t stamp parents content) h g = absurd g
no_disk_record me k (says.Adopt f t stamp) h g = absurd g
no_disk_record me k _ h g = tt

no_disk : (me : ℕ) (k : Causes) (x : Told) → SiteTold me k x → Still x → NoDisk x
no_disk me k (Shown r) h g = no_disk_record me k r h g
no_disk me k _ h g = tt

-- an event of a site tells of its disk by its version alone
pub no_disks : (me : ℕ) (k : Causes) (told : List Told) → Every (SiteTold me k) told → Every Still told → Every NoDisk told
no_disks me k [] h g = tt
no_disks me k (x ∷ xs) h g = (no_disk me k x h.0 g.0, no_disks me k xs h.1 g.1)

quiet_record : (c : Config) (s : ℕ) (r : Record) (before : Trace) (d : Disk) → NoDiskRecord r → disk_after r c before s d ≡ d
quiet_record c s (says.Up t boot) before d h = absurd h
quiet_record c s (says.Stopped t why) before d h = absurd h
quiet_record c s (says.Commit f t stamp parents content) before d h = absurd h
quiet_record c s (says.Adopt f t stamp) before d h = absurd h
quiet_record c s _ before d h = refl

still_writer : (r : Record) → NoDiskRecord r → writer_of r ≡ None
still_writer (says.Commit f t stamp parents content) g = absurd g
still_writer (says.Adopt f t stamp) g = absurd g
still_writer _ g = refl

quiet_told : (c : Config) (lines : List ScheduleLine) (n s : ℕ) (x : Told) (before : Trace) → NoDisk x → disk_at c lines (with_told n x before) n s ≡ disk_at c lines before n s
quiet_told c lines n s (Shown r) before h = disk_more c lines n s r before ∙ quiet_record c s r before (disk_at c lines before n s) h
quiet_told c lines n s _ before h = refl

pub quiet_onto : (c : Config) (lines : List ScheduleLine) (n s : ℕ) (told : List Told) (trace : List Line) → Every NoDisk told → disk_at c lines (shown (told_onto n told trace)) n s ≡ disk_at c lines (shown trace) n s
quiet_onto c lines n s [] trace h = refl
quiet_onto c lines n s (x ∷ xs) trace h = quiet_onto c lines n s xs (record { number = n; told = x } ∷ trace) h.1 ∙ quiet_told c lines n s x (shown trace) h.0

-- ---- what fits stays so ----

fits_any : (c : Config) (lines : List ScheduleLine) (next : Option Record) (now : Trace) (o : Option ℕ) → fits_calls c lines None now o ≡ true → fits_calls c lines next now o ≡ true
fits_any c lines next now None h = refl
fits_any c lines next now (Some site) h = or_second (is_cut_next next site) (is_within_calls (disk_of c lines now site).armed) h

-- whatever record comes next
pub calls_any : (c : Config) (lines : List ScheduleLine) (next : Option Record) (now : Trace) → keeps_calls c lines now ≡ true → all_fit_calls c lines next now ≡ true
calls_any c lines next [] h = refl
calls_any c lines next (r ∷ before) h =
    let k : (fits_calls c lines None (r ∷ before) (writer_of r.what) ≡ true) × (all_fit_calls c lines (Some r.what) before ≡ true) = both_true (fits_calls c lines None (r ∷ before) (writer_of r.what)) (all_fit_calls c lines (Some r.what) before) h in
    and_true (fits_calls c lines next (r ∷ before) (writer_of r.what)) (all_fit_calls c lines (Some r.what) before) (fits_any c lines next (r ∷ before) (writer_of r.what) k.0) k.1

fits_none : (c : Config) (lines : List ScheduleLine) (next : Option Record) (now : Trace) (o : Option ℕ) → o ≡ None → fits_calls c lines next now o ≡ true
fits_none c lines next now o e = ap (fits_calls c lines next now) e

-- a record of no version
pub calls_still : (c : Config) (lines : List ScheduleLine) (n : ℕ) (r : Record) (now : Trace) → writer_of r ≡ None → all_fit_calls c lines (Some r) now ≡ true → keeps_calls c lines (record { line = n; what = r } ∷ now) ≡ true
calls_still c lines n r now e h = and_true (fits_calls c lines None (record { line = n; what = r } ∷ now) (writer_of r)) (all_fit_calls c lines (Some r) now) (fits_none c lines None (record { line = n; what = r } ∷ now) (writer_of r) e) h

told_calls : (c : Config) (lines : List ScheduleLine) (n : ℕ) (x : Told) (now : Trace) → NoDisk x → keeps_calls c lines now ≡ true → keeps_calls c lines (with_told n x now) ≡ true
told_calls c lines n (Shown r) now g h = calls_still c lines n r now (still_writer r g) (calls_any c lines (Some r) now h)
told_calls c lines n _ now g h = h

pub onto_calls : (c : Config) (lines : List ScheduleLine) (n : ℕ) (told : List Told) (trace : List Line) → Every NoDisk told → keeps_calls c lines (shown trace) ≡ true → keeps_calls c lines (shown (told_onto n told trace)) ≡ true
onto_calls c lines n [] trace g h = h
onto_calls c lines n (x ∷ xs) trace g h = onto_calls c lines n xs (record { number = n; told = x } ∷ trace) g.1 (told_calls c lines n x (shown trace) g.0 h)

-- ---- rows ----

quiet_armed : (c : Config) (lines : List ScheduleLine) (n : ℕ) (r : Record) (now : Trace) → NoDiskRecord r → IsArmedFor c lines now (record { line = n; what = r })
quiet_armed c lines n (says.Stopped t why) now h = absurd h
quiet_armed c lines n _ now h = tt

told_armed : (c : Config) (lines : List ScheduleLine) (n : ℕ) (x : Told) (now : Trace) → NoDisk x → EachRecord (IsArmedFor c lines) now → EachRecord (IsArmedFor c lines) (with_told n x now)
told_armed c lines n (Shown r) now h g = (quiet_armed c lines n r now h, g)
told_armed c lines n _ now h g = g

pub onto_armed : (c : Config) (lines : List ScheduleLine) (n : ℕ) (told : List Told) (trace : List Line) → Every NoDisk told → EachRecord (IsArmedFor c lines) (shown trace) → EachRecord (IsArmedFor c lines) (shown (told_onto n told trace))
onto_armed c lines n [] trace h g = g
onto_armed c lines n (x ∷ xs) trace h g = onto_armed c lines n xs (record { number = n; told = x } ∷ trace) h.1 (told_armed c lines n x (shown trace) h.0 g)
