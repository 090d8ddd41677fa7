-- Each stop within a disk call is an exact cut, by the past.
use Rattle.std.proofs.Common.{◌≡◌, ℕ, ◌==◌, Bool, true, false, not, cond, ◌&&◌, ◌||◌, List, [], ◌∷◌, ◌++◌, reverse, length, Option, None, Some, append-nil, append_assoc, refl, sym, ap, subst, ◌∙◌, inl, inr}
use Rattle.std.specs.List.{list_any}
use Rattle.std.specs.Option.{is_none}
use Rattle.locus_ids.specs.declared.config.Config.{Config}
use Rattle.trace_book.specs.declared.entry.Entry.{Entry}
use Rattle.trace_book.specs.declared.record.Record.{Record}
use Rattle.trace_book.specs.declared.record.Record.TheVariants as rec
use Rattle.trace_book.specs.declared.record.StopCause.TheVariants as cause
use Rattle.schedule_lines.specs.declared.line.ScheduleLine.{ScheduleLine}
use Rattle.tree_model.specs.Epochs.{is_up}
use Rattle.tree_model.specs.Folds.{Trace}
use Rattle.lawful_trace.specs.Disks.{Armed, Arming as FoldArming, Stops as Stopping, Fails as Failing, is_fault, is_armed_as}
use Rattle.headline_laws.specs.WholeRuns.Wrote.{armed_at}
use Rattle.headline_laws.specs.WholeRuns.Wrote as folds
use Rattle.lawful_trace.specs.Places.{line_at}
use Rattle.lawful_trace.specs.SiteRows.{boots}
use Rattle.promises.specs.Past.{Past, site_at}
use Rattle.promises.specs.Traces.{past_of}
use Rattle.promises.specs.Stops.{Arming, Disk, IsCut, IsCutWhereStopped, EachIsCut, boot_calls, cuts, is_cut_in, is_exact, at_last, disk_at, underway, writings_in}
use Rattle.past_laws.specs.Agreement.{Agrees, is_of_cluster, past, speaks_of_sites}
use Rattle.past_laws.proofs.Agreeing.{past_reversed}
use Rattle.past_laws.proofs.Names.{both, false_true, number_own}
use Rattle.past_laws.proofs.Sites.{of_cluster_there}
use Rattle.row_laws.specs.Shown.{EachRecord}
use Rattle.headline_laws.specs.StopRuns.Stops.{CutOf, CutRecord, CutWhileUp, IsCutAfter, IsCutBefore, IsCutBooting, IsCutRow}
use Rattle.headline_laws.proofs.StopRuns.Armed.{cut_armed}
use Rattle.headline_laws.specs.StopPromises.Alike.{EachAgreed, armed_as, disk_as, leaves_of}
use Rattle.headline_laws.proofs.StopPromises.Gates.{boot_length}
use Rattle.headline_laws.proofs.StopPromises.Versions.{arming_as, inside_same, is_cut_so}
use Rattle.headline_laws.proofs.StopPromises.Cuts.{cut_told, cut_underway, or_first, or_second}
use Rattle.headline_laws.proofs.StopPromises.Printed.{disk_printed, length_reverse, reverse_more}

-- ---- the last record ----

last_more : (passes : List Entry → Entry → Bool) (before xs : List Entry) (r : Entry) → at_last passes before (xs ++ r ∷ []) ≡ passes (before ++ xs) r
last_more passes before [] r = ap (λ (ys : List Entry). passes ys r) (sym (append-nil before))
last_more passes before (x ∷ []) r = refl
last_more passes before (x ∷ y ∷ xs) r = last_more passes (before ++ x ∷ []) (y ∷ xs) r ∙ ap (λ (ys : List Entry). passes ys r) (append_assoc before (x ∷ []) (y ∷ xs))

-- ---- how the disk is armed ----

armed_fault : (fault : Bool) (o : Option Armed) → is_armed_as fault o ≡ true → list_any (λ (a : Arming). is_none a.leaves) (armed_as o) ≡ fault
armed_fault fault None h = false_true h
armed_fault fault (Some a) h = at a.arming fault h
  where
    at : (arming : FoldArming) (b : Bool) → cond (is_fault arming) b (not b) ≡ true → (is_none (leaves_of arming) || false) ≡ b
    at (Stopping calls leave) true h = h
    at (Stopping calls leave) false h = refl
    at (Failing calls) b h = sym h

-- what one armed disk gives of all
armed_one : (q : Arming → Bool) (o : Option Armed) (a : Armed) → o ≡ Some a → q (arming_as a) ≡ true → list_any q (armed_as o) ≡ true
armed_one q o a e h = ap (λ (x : Option Armed). list_any q (armed_as x)) e ∙ or_first (q (arming_as a)) false h

-- ---- the cut ----

-- of the versions that are underway
cut_before : (wrote : ℕ → List ℕ) (c : Config) (lines : List ScheduleLine) (before : Trace) (n site : ℕ) (fault : Bool) → EachAgreed c before → Agrees c before (past c before) → is_of_cluster c site ≡ true → IsCutBefore wrote c lines before n site fault
    → cuts false (disk_at wrote c lines n site (reverse before)) (underway (wrote (length (reverse before))) c (line_at lines n) (past_of c (reverse before)) site) ≡ true
cut_before wrote c lines before n site fault agreed a ours k =
    ap (λ (d : Disk). cuts false d (underway (wrote (length (reverse before))) c (line_at lines n) (past_of c (reverse before)) site)) (disk_printed wrote c lines before agreed n site)
    ∙ (ap (λ (p : Past). cuts false (disk_as (folds.disk_at wrote c lines before n site)) (underway (wrote (length (reverse before))) c (line_at lines n) p site)) (past_reversed c before)
    ∙ (ap (λ (m : ℕ). cuts false (disk_as (folds.disk_at wrote c lines before n site)) (underway (wrote m) c (line_at lines n) (past c before) site)) (length_reverse before)
    ∙ armed_one (λ (x : Arming). list_any (is_cut_so false x) (underway (wrote (length before)) c (line_at lines n) (past c before) site)) (armed_at wrote c lines before n site) k.arming k.armed.armed
    (cut_underway wrote c before (line_at lines n) (past c before) a site ours k.version k.underway k.place k.arming false k.cut)))

-- of the version that the last record tells of
cut_after : (wrote : ℕ → List ℕ) (c : Config) (lines : List ScheduleLine) (last : Entry) (before : Trace) (n site : ℕ) (fault : Bool) → EachAgreed c (last ∷ before) → is_of_cluster c site ≡ true → IsCutAfter wrote c lines last before n site fault
    → at_last (λ earlier r. (r.line == n) && cuts true (disk_at wrote c lines n site earlier) (writings_in (wrote (length earlier)) (past_of c earlier) site r.what)) [] (reverse (last ∷ before)) ≡ true
cut_after wrote c lines last before n site fault agreed ours k =
    ap (at_last passes []) (reverse_more last before)
    ∙ (last_more passes [] (reverse before) last
    ∙ both (last.line == n) (cuts true (disk_at wrote c lines n site (reverse before)) (writings_in (wrote (length (reverse before))) (past_of c (reverse before)) site last.what)) (ap (λ (m : ℕ). m == n) k.same_line ∙ number_own n)
    (ap (λ (d : Disk). cuts true d (writings_in (wrote (length (reverse before))) (past_of c (reverse before)) site last.what)) (disk_printed wrote c lines before agreed.1 n site)
    ∙ (ap (λ (p : Past). cuts true (disk_as (folds.disk_at wrote c lines before n site)) (writings_in (wrote (length (reverse before))) p site last.what)) (past_reversed c before)
    ∙ (ap (λ (m : ℕ). cuts true (disk_as (folds.disk_at wrote c lines before n site)) (writings_in (wrote m) (past c before) site last.what)) (length_reverse before)
    ∙ armed_one (λ (x : Arming). list_any (is_cut_so true x) (writings_in (wrote (length before)) (past c before) site last.what)) (armed_at wrote c lines before n site) k.arming k.armed.armed
    (cut_told wrote c before (past c before) agreed.0.agrees site ours last.what agreed.0.comes.row k.arming true k.cut)))))
  where
    passes : List Entry → Entry → Bool
    passes earlier r = (r.line == n) && cuts true (disk_at wrote c lines n site earlier) (writings_in (wrote (length earlier)) (past_of c earlier) site r.what)

-- of a boot
cut_booting : (wrote : ℕ → List ℕ) (c : Config) (lines : List ScheduleLine) (before : Trace) (n site : ℕ) (fault : Bool) → EachAgreed c before → IsCutBooting wrote c lines before n site fault → is_exact wrote c lines (reverse before) n site false ≡ true
cut_booting wrote c lines before n site fault agreed k = both (boots (line_at lines n) site) _ (ap (λ (l : ScheduleLine). boots l site) k.asked.asked ∙ number_own site)
    (ap (λ (d : Disk). list_any (is_cut_in (boot_calls d)) d.armed) (disk_printed wrote c lines before agreed n site)
    ∙ armed_one (is_cut_in (boot_calls (disk_as (folds.disk_at wrote c lines before n site)))) (armed_at wrote c lines before n site) k.arming k.armed.armed
    (inside_same k.arming _ k.passed (length (boot_calls (disk_as (folds.disk_at wrote c lines before n site)))) k.cut (boot_length (disk_as (folds.disk_at wrote c lines before n site)))))

cut_while_up : (wrote : ℕ → List ℕ) (c : Config) (lines : List ScheduleLine) (before : Trace) (n site : ℕ) (fault : Bool) → EachAgreed c before → Agrees c before (past c before) → is_of_cluster c site ≡ true → CutWhileUp wrote c lines before n site fault → is_exact wrote c lines (reverse before) n site true ≡ true
cut_while_up wrote c lines [] n site fault agreed a ours k = or_first _ _ (cut_before wrote c lines [] n site fault agreed a ours k)
cut_while_up wrote c lines (last ∷ before) n site fault agreed a ours (inl k) = or_second _ _ (cut_after wrote c lines last before n site fault agreed ours k)
cut_while_up wrote c lines (last ∷ before) n site fault agreed a ours (inr k) = or_first _ _ (cut_before wrote c lines (last ∷ before) n site fault agreed a ours k)

exact_cut : (wrote : ℕ → List ℕ) (c : Config) (lines : List ScheduleLine) (before : Trace) (n site : ℕ) (fault up : Bool) → EachAgreed c before → Agrees c before (past c before) → is_of_cluster c site ≡ true → CutOf wrote c lines before n site fault up → is_exact wrote c lines (reverse before) n site up ≡ true
exact_cut wrote c lines before n site fault true agreed a ours k = cut_while_up wrote c lines before n site fault agreed a ours k
exact_cut wrote c lines before n site fault false agreed a ours k = cut_booting wrote c lines before n site fault agreed k

is_cut : (wrote : ℕ → List ℕ) (c : Config) (lines : List ScheduleLine) (before : Trace) (n site : ℕ) (fault : Bool) → EachAgreed c before → Agrees c before (past c before) → is_of_cluster c site ≡ true → CutOf wrote c lines before n site fault (is_up c before site) → IsCut wrote c lines (reverse before) n site fault
is_cut wrote c lines before n site fault agreed a ours k = record {
  armed = ap (λ (d : Disk). list_any (λ (x : Arming). is_none x.leaves) d.armed) (disk_printed wrote c lines before agreed n site) ∙ armed_fault fault (armed_at wrote c lines before n site) (cut_armed wrote c lines before n site fault (is_up c before site) k);
  exact = ap (is_exact wrote c lines (reverse before) n site) (ap (λ (p : Past). (site_at p site).up) (past_reversed c before) ∙ a.sites.up site (of_cluster_there c (past c before).sites site a.sites.numbers ours)) ∙ exact_cut wrote c lines before n site fault (is_up c before site) agreed a ours k;
}

-- ---- each record ----

record_cut : (wrote : ℕ → List ℕ) (c : Config) (lines : List ScheduleLine) (n : ℕ) (before : Trace) (r : Record) → EachAgreed c before → Agrees c before (past c before) → speaks_of_sites c r ≡ true → CutRecord wrote c lines n before r → IsCutWhereStopped wrote c lines (reverse before) n r
record_cut wrote c lines n before (rec.Stopped site cause.Fuse) agreed a ours k = is_cut wrote c lines before n site false agreed a ours k
record_cut wrote c lines n before (rec.Stopped site cause.Fault) agreed a ours k = is_cut wrote c lines before n site true agreed a ours k
record_cut wrote c lines n before (rec.Stopped site cause.Asked) agreed a ours k = tt
record_cut wrote c lines n before _ agreed a ours k = tt

pub cut_where_stopped : (wrote : ℕ → List ℕ) (c : Config) (lines : List ScheduleLine) (r : Entry) (before : Trace) → EachAgreed c (r ∷ before) → EachRecord (IsCutRow wrote c lines) (r ∷ before) → IsCutWhereStopped wrote c lines (reverse before) r.line r.what
cut_where_stopped wrote c lines r before agreed rows = record_cut wrote c lines r.line before r.what agreed.1 agreed.0.agrees agreed.0.comes.sites rows.0

cuts_from : (wrote : ℕ → List ℕ) (c : Config) (lines : List ScheduleLine) (trace : Trace) (rest : List Entry) → EachAgreed c trace → EachRecord (IsCutRow wrote c lines) trace → EachIsCut wrote c lines (reverse trace) rest → EachIsCut wrote c lines [] (reverse trace ++ rest)
cuts_from wrote c lines [] rest agreed rows h = h
cuts_from wrote c lines (r ∷ before) rest agreed rows h = subst (EachIsCut wrote c lines []) (sym (ap (λ (xs : List Entry). xs ++ rest) (reverse_more r before) ∙ append_assoc (reverse before) (r ∷ []) rest))
    (cuts_from wrote c lines before (r ∷ rest) agreed.1 rows.1
    (cut_where_stopped wrote c lines r before agreed rows, subst (λ (xs : List Entry). EachIsCut wrote c lines xs rest) (reverse_more r before) h))

pub each_is_cut : (wrote : ℕ → List ℕ) (c : Config) (lines : List ScheduleLine) (trace : Trace) → EachAgreed c trace → EachRecord (IsCutRow wrote c lines) trace → EachIsCut wrote c lines [] (reverse trace)
each_is_cut wrote c lines trace agreed rows = subst (EachIsCut wrote c lines []) (append-nil (reverse trace)) (cuts_from wrote c lines trace [] agreed rows tt)
