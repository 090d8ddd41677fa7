-- Traces in printed order: the disk by the past is that of the folds, and no disk goes on after its last call.
use Rattle.std.proofs.Common.{◌≡◌, ℕ, ◌-◌, Bool, true, false, not, ◌||◌, List, [], ◌∷◌, ◌++◌, reverse, Option, None, Some, append_assoc, append-nil, refl, sym, ap, subst, ◌∙◌, arith, suc, length, ◌+◌}
use Rattle.std.specs.Prelude.{fold, take, drop}
use Rattle.std.specs.List.{list_all}
use Rattle.std.proofs.lemmas.List.{reverse-append}
use Rattle.locus_ids.specs.declared.config.Config.{Config}
use Rattle.trace_book.specs.declared.entry.Entry.{Entry}
use Rattle.trace_book.specs.declared.record.Record.{Record}
use Rattle.trace_book.specs.declared.record.Record.TheVariants as rec
use Rattle.trace_book.specs.declared.record.StopCause.TheVariants as cause
use Rattle.schedule_lines.specs.declared.line.ScheduleLine.{ScheduleLine}
use Rattle.tree_model.specs.Folds.{Trace, last_line}
use Rattle.tree_model.specs.Packs.{all_sites}
use Rattle.lawful_trace.specs.Disks.{Armed, first_disk, is_cut_next}
use Rattle.lawful_trace.specs.Disks as counts
use Rattle.headline_laws.specs.WholeRuns.Wrote.{Disk as FoldDisk, disk_of}
use Rattle.headline_laws.specs.WholeRuns.Wrote as folds
use Rattle.promises.specs.Past.{Past, nothing_yet}
use Rattle.promises.specs.After.{after}
use Rattle.promises.specs.Stops.{Disk, through_lines, disk_by, disk_from, disk_at, is_overrun, is_cut_of, heeds_stops}
use Rattle.past_laws.specs.Agreement.{past}
use Rattle.past_laws.proofs.Agreeing.{past_reversed}
use Rattle.past_laws.proofs.Names.{both}
use Rattle.headline_laws.specs.StopRuns.Stops.{HeedsStops, is_overrun as is_overrun_by}
use Rattle.headline_laws.specs.StopPromises.Alike.{EachAgreed, armed_as, disk_as}
use Rattle.headline_laws.proofs.StopPromises.Disks.{lines_same, disk_step}

pub reverse_more : {X : Type 0} (x : X) (xs : List X) → reverse (x ∷ xs) ≡ reverse xs ++ x ∷ []
reverse_more x xs = reverse-append (x ∷ []) xs

-- ---- the disk ----

next_count : (k n : ℕ) → suc k + n ≡ k + suc n
next_count k n = omega arith

length_more : (xs : List Entry) (r : Entry) → length (xs ++ r ∷ []) ≡ suc (length xs)
length_more [] r = refl
length_more (x ∷ xs) r = ap suc (length_more xs r)

pub length_reverse : (xs : List Entry) → length (reverse xs) ≡ length xs
length_reverse [] = refl
length_reverse (x ∷ xs) = ap length (reverse_more x xs) ∙ (length_more (reverse xs) x ∙ ap suc (length_reverse xs))

disk_more : (wrote : ℕ → List ℕ) (c : Config) (lines : List ScheduleLine) (n site k : ℕ) (xs : List Entry) (p : Past) (last : ℕ) (d : Disk) (r : Entry)
    → disk_from wrote c lines n site k p last d (xs ++ r ∷ []) ≡ through_lines lines site r.line n (disk_by (wrote (k + length xs)) r.what (fold (λ q (x : Entry). after c x.what q) p xs) site (disk_from wrote c lines r.line site k p last d xs))
disk_more wrote c lines n site k [] p last d r = ap (λ (m : ℕ). through_lines lines site r.line n (disk_by (wrote m) r.what p site (through_lines lines site last r.line d))) (none k)
  where
    none : (k : ℕ) → k ≡ k + 0
    none k = omega arith
disk_more wrote c lines n site k (x ∷ xs) p last d r = disk_more wrote c lines n site (suc k) xs (after c x.what p) x.line (disk_by (wrote k) x.what p site (through_lines lines site last x.line d)) r
    ∙ ap (λ (m : ℕ). through_lines lines site r.line n (disk_by (wrote m) r.what (fold (λ q (y : Entry). after c y.what q) p (x ∷ xs)) site (disk_from wrote c lines r.line site k p last d (x ∷ xs)))) (next_count k (length xs))

pub disk_printed : (wrote : ℕ → List ℕ) (c : Config) (lines : List ScheduleLine) (trace : Trace) → EachAgreed c trace → (n site : ℕ) → disk_at wrote c lines n site (reverse trace) ≡ disk_as (folds.disk_at wrote c lines trace n site)
disk_printed wrote c lines [] agreed n site = lines_same lines site 0 n (record { rest = first_disk; slots = false })
disk_printed wrote c lines (r ∷ before) agreed n site =
    ap (disk_at wrote c lines n site) (reverse_more r before)
    ∙ (disk_more wrote c lines n site 0 (reverse before) (nothing_yet c) 0 (disk_as (record { rest = first_disk; slots = false })) r
    ∙ (ap (λ (m : ℕ). through_lines lines site r.line n (disk_by (wrote m) r.what (fold (λ q (x : Entry). after c x.what q) (nothing_yet c) (reverse before)) site (disk_at wrote c lines r.line site (reverse before)))) (counted before)
    ∙ (ap (λ (p : Past). through_lines lines site r.line n (disk_by (wrote (length before)) r.what p site (disk_at wrote c lines r.line site (reverse before)))) (past_reversed c before)
    ∙ (ap (λ (d : Disk). through_lines lines site r.line n (disk_by (wrote (length before)) r.what (past c before) site d)) (disk_printed wrote c lines before agreed.1 r.line site)
    ∙ (ap (through_lines lines site r.line n) (disk_step (wrote (length before)) c before (past c before) agreed.0.agrees r.what agreed.0.comes.row agreed.0.comes.sites site (folds.disk_at wrote c lines before r.line site))
    ∙ lines_same lines site r.line n (disk_of wrote c lines (r ∷ before) site))))))
  where
    counted : (t : Trace) → 0 + length (reverse t) ≡ length t
    counted t = zero_more (length (reverse t)) ∙ length_reverse t
      where
        zero_more : (n : ℕ) → 0 + n ≡ n
        zero_more n = omega arith

-- ---- no disk goes on ----

overrun_same : (o : Option Armed) (halves slots : Bool) → is_overrun (record { armed = armed_as o; halves = halves; slots = slots }) ≡ is_overrun_by o
overrun_same None halves slots = refl
overrun_same (Some a) halves slots = at (is_overrun_by (Some a))
  where
    at : (b : Bool) → (b || false) ≡ b
    at true = refl
    at false = refl

overrun_printed : (wrote : ℕ → List ℕ) (c : Config) (lines : List ScheduleLine) (trace : Trace) → EachAgreed c trace → (site : ℕ) → is_overrun (disk_at wrote c lines 0 site (reverse trace)) ≡ is_overrun_by (disk_of wrote c lines trace site).rest.armed
overrun_printed wrote c lines trace agreed site =
    ap is_overrun (disk_printed wrote c lines trace agreed 0 site)
    ∙ (ap (λ (n : ℕ). is_overrun (disk_as (record (disk_of wrote c lines trace site) { rest = fold (λ (old : counts.Disk) (l : ScheduleLine). counts.armed_by site l old) (disk_of wrote c lines trace site).rest (take n (drop (last_line trace) lines)) }))) (none (last_line trace))
    ∙ overrun_same (disk_of wrote c lines trace site).rest.armed (disk_of wrote c lines trace site).rest.halves (disk_of wrote c lines trace site).slots)
  where
    none : (m : ℕ) → 0 - m ≡ 0
    none m = omega (arith)

cut_same : (site : ℕ) (r : Record) → is_cut_of site r ≡ is_cut_next (Some r) site
cut_same site (rec.Stopped s cause.Fuse) = refl
cut_same site (rec.Stopped s cause.Fault) = refl
cut_same site (rec.Stopped s cause.Asked) = refl
cut_same site _ = refl

all_pass : {X : Type 0} (q : X → Bool) → ((x : X) → q x ≡ true) → (xs : List X) → list_all q xs ≡ true
all_pass q each [] = refl
all_pass q each (x ∷ xs) = both (q x) (list_all q xs) (each x) (all_pass q each xs)

-- a disk that is overrun after these records is cut by the next one
heeded_next : (wrote : ℕ → List ℕ) (c : Config) (lines : List ScheduleLine) (before : Trace) (next : Record) → EachAgreed c before → HeedsStops wrote c lines (Some next) before → (site : ℕ) → not (is_overrun (disk_at wrote c lines 0 site (reverse before))) || is_cut_of site next ≡ true
heeded_next wrote c lines before next agreed heeds site = ap (λ b. not b || is_cut_of site next) (overrun_printed wrote c lines before agreed site) ∙ over before heeds
  where
    at : (b : Bool) → (b ≡ true → is_cut_next (Some next) site ≡ true) → not b || is_cut_of site next ≡ true
    at true h = cut_same site next ∙ h refl
    at false h = refl

    over : (trace : Trace) → HeedsStops wrote c lines (Some next) trace → not (is_overrun_by (disk_of wrote c lines trace site).rest.armed) || is_cut_of site next ≡ true
    over [] h = refl
    over (r ∷ rest) h = at (is_overrun_by (disk_of wrote c lines (r ∷ rest) site).rest.armed) (h.0 site)

-- and none is at the end
heeded_end : (wrote : ℕ → List ℕ) (c : Config) (lines : List ScheduleLine) (trace : Trace) → EachAgreed c trace → HeedsStops wrote c lines None trace → (site : ℕ) → not (is_overrun (disk_at wrote c lines 0 site (reverse trace))) ≡ true
heeded_end wrote c lines trace agreed heeds site = ap not (overrun_printed wrote c lines trace agreed site) ∙ over trace heeds
  where
    at : (b : Bool) → (b ≡ true → false ≡ true) → not b ≡ true
    at true h = h refl
    at false h = refl

    over : (t : Trace) → HeedsStops wrote c lines None t → not (is_overrun_by (disk_of wrote c lines t site).rest.armed) ≡ true
    over [] h = refl
    over (r ∷ rest) h = at (is_overrun_by (disk_of wrote c lines (r ∷ rest) site).rest.armed) (h.0 site)

heeded_from : (wrote : ℕ → List ℕ) (c : Config) (lines : List ScheduleLine) (trace : Trace) (next : Option Record) (rest : List Entry) → EachAgreed c trace → HeedsStops wrote c lines next trace → heeds_stops wrote c lines (reverse trace) rest ≡ true → heeds_stops wrote c lines [] (reverse trace ++ rest) ≡ true
heeded_from wrote c lines [] next rest agreed heeds h = h
heeded_from wrote c lines (r ∷ before) next rest agreed heeds h = ap (heeds_stops wrote c lines []) (ap (λ (xs : List Entry). xs ++ rest) (reverse_more r before) ∙ append_assoc (reverse before) (r ∷ []) rest)
    ∙ heeded_from wrote c lines before (Some r.what) (r ∷ rest) agreed.1 heeds.1
    (both _ _ (all_pass _ (heeded_next wrote c lines before r.what agreed.1 heeds.1) all_sites) (subst (λ (xs : List Entry). heeds_stops wrote c lines xs rest ≡ true) (reverse_more r before) h))

pub heeded : (wrote : ℕ → List ℕ) (c : Config) (lines : List ScheduleLine) (trace : Trace) → EachAgreed c trace → HeedsStops wrote c lines None trace → heeds_stops wrote c lines [] (reverse trace) ≡ true
heeded wrote c lines trace agreed heeds = ap (heeds_stops wrote c lines []) (sym (append-nil (reverse trace))) ∙ heeded_from wrote c lines trace None [] agreed heeds (all_pass _ (heeded_end wrote c lines trace agreed heeds) all_sites)
