-- The lines of the schedule ask for the records: they ascend, and each stands where its line asks for it. (That a cut is the exact one, that
-- each line tells what it must, and that cuts are heeded is passed in.)
use Rattle.std.proofs.Common.{◌≡◌, ℕ, ◌-◌, ◌==◌, ◌≤◌, Bool, true, false, not, cond, ◌&&◌, ◌||◌, nat_le, nat_lt, min, List, [], ◌∷◌, ◌++◌, filter, length, reverse, Option, Some, None, refl, sym, ap, subst, ◌∙◌, arith, append-nil}
use Rattle.std.specs.List.{list_any, list_all}
use Rattle.std.specs.Option.{is_none, is_some}
use Rattle.std.proofs.lemmas.Bool.{leb-true}
use Rattle.std.proofs.lemmas.Bool.Decides.{nat_tests}
use Rattle.std.proofs.Common.{append_assoc}
use Rattle.locus_ids.specs.declared.ids.CallId.{CallId}
use Rattle.lawful_trace.specs.CallRows.{CallLine}
use Rattle.std.proofs.lemmas.List.{reverse-append}
use Rattle.std.proofs.lemmas.List.Elements.{filter-append}
use Rattle.locus_ids.specs.declared.config.Config.{Config}
use Rattle.locus_ids.specs.declared.ids.EpochId.{EpochId}
use Rattle.locus_ids.specs.Sizes.{sites_max}
use Rattle.commit_graph.specs.Vectors.{numbers_from}
use Rattle.trace_book.specs.declared.call.Call.{Call}
use Rattle.trace_book.specs.declared.call.Call.TheVariants as call
use Rattle.trace_book.specs.declared.entry.Entry.{Entry}
use Rattle.trace_book.specs.declared.record.Record.{Record}
use Rattle.trace_book.specs.declared.record.Record.TheVariants as says
use Rattle.trace_book.specs.declared.record.StopCause.TheVariants as cause
use Rattle.schedule_lines.specs.Cluster.{config_of}
use Rattle.schedule_lines.specs.Ranges.{is_between}
use Rattle.schedule_lines.specs.Schedule.{AreInOrder}
use Rattle.schedule_lines.specs.declared.line.Line.TheVariants as line
use Rattle.schedule_lines.specs.declared.line.ScheduleLine.{ScheduleLine}
use Rattle.schedule_lines.specs.declared.line.ScheduleLine.TheVariants.{Event}
use Rattle.tree_model.specs.Epochs.{boot_of, epoch_of, is_up}
use Rattle.tree_model.specs.Folds.{Trace, before_line, last_line}
use Rattle.tree_model.specs.Packs.{all_sites}
use Rattle.lawful_trace.specs.LineRows as old
use Rattle.lawful_trace.specs.Places as places
use Rattle.lawful_trace.specs.Places.{line_at}
use Rattle.lawful_trace.specs.SiteRows as rows
use Rattle.the_run.specs.Runs.{run}
use Rattle.row_laws.specs.Shown.{EachRecord, trace_of}
use Rattle.row_laws.specs.Rows.{AskedRecord, IsAskedFor as IsAskedRow, IsPlaced}
use Rattle.row_laws.specs.Voids.{LinesFit}
use Rattle.row_laws.proofs.AskedRun.{run_asked, run_placed}
use Rattle.row_laws.proofs.Fitting.{schedule_fits}
use Rattle.promises.specs.Past.{site_at}
use Rattle.promises.specs.Rows.{is_there}
use Rattle.promises.specs.Lines.{EachAsked, IsAsked, ascends, is_founded, past_at, starts_at, starts_by, was_polled}
use Rattle.promises.specs.Stops.{IsCutWhereStopped}
use Rattle.promises.specs.Traces.{past_of}
use Rattle.past_laws.specs.Agreement.{Agrees, is_of_cluster, past}
use Rattle.past_laws.specs.Along.{EachComesSo, IsNamed}
use Rattle.past_laws.proofs.Agreeing.{all_agrees, past_reversed, reverse_more}
use Rattle.past_laws.proofs.Names.{both, both_parts, false_true, number_eq, some_same, none_some}
use Rattle.past_laws.proofs.Sites.{of_cluster_there}
use Rattle.past_laws.proofs.TreesLists.{number_test}
use Rattle.past_laws.proofs.TreesOpening.{onto_has}
use Rattle.headline_laws.proofs.HeadlinePromises.Comes.{run_comes_so, run_is_named}

-- The order of lines.

-- every record is of this line or an earlier one
abbrev pub AreUpTo : ℕ → Trace → Bool
AreUpTo n trace = list_all (λ (r : Entry). nat_le r.line n) trace

pub up_to_more : (n m : ℕ) (trace : Trace) → nat_le n m ≡ true → AreUpTo n trace ≡ true → AreUpTo m trace ≡ true
up_to_more n m [] k h = refl
up_to_more n m (r ∷ before) k h = (let parts : (nat_le r.line n ≡ true) × (AreUpTo n before ≡ true) = both_parts (nat_le r.line n) (AreUpTo n before) h
    in both (nat_le r.line m) (AreUpTo m before) (through r.line parts.0) (up_to_more n m before k parts.1))
  where
    through : (x : ℕ) → nat_le x n ≡ true → nat_le x m ≡ true
    through x e = grind (arith, nat_tests)

pub up_to_last : (lines : List ScheduleLine) (trace : Trace) → EachRecord (IsPlaced lines) trace → AreUpTo (last_line trace) trace ≡ true
up_to_last lines [] h = refl
up_to_last lines (r ∷ before) h = both (nat_le r.line r.line) (AreUpTo r.line before) (own r.line) (up_to_more (last_line before) r.line before h.0.ascending (up_to_last lines before h.1))
  where
    own : (x : ℕ) → nat_le x x ≡ true
    own x = grind (arith, nat_tests)

all_earlier : (n m : ℕ) (trace : Trace) → nat_lt m n ≡ true → AreUpTo m trace ≡ true → filter (λ (r : Entry). nat_lt r.line n) trace ≡ trace
all_earlier n m [] k h = refl
all_earlier n m (r ∷ before) k h = (let parts : (nat_le r.line m ≡ true) × (AreUpTo m before ≡ true) = both_parts (nat_le r.line m) (AreUpTo m before) h
    in ap (λ b. cond b (r ∷ filter (λ (x : Entry). nat_lt x.line n) before) (filter (λ (x : Entry). nat_lt x.line n) before)) (through r.line parts.0) ∙ ap (λ xs. r ∷ xs) (all_earlier n m before k parts.1))
  where
    through : (x : ℕ) → nat_le x m ≡ true → nat_lt x n ≡ true
    through x e = grind (arith, nat_tests)

-- the records of the lines before this one
earlier_are : (lines : List ScheduleLine) (n : ℕ) (trace : Trace) → EachRecord (IsPlaced lines) trace → filter (λ (r : Entry). nat_lt r.line n) trace ≡ before_line trace n
earlier_are lines n [] h = refl
earlier_are lines n (r ∷ before) h = at (earlier_are lines n before h.1) (nat_lt r.line n) refl
  where
    at : filter (λ (x : Entry). nat_lt x.line n) before ≡ before_line before n → (b : Bool) → nat_lt r.line n ≡ b → cond b (r ∷ filter (λ (x : Entry). nat_lt x.line n) before) (filter (λ (x : Entry). nat_lt x.line n) before) ≡ cond b (r ∷ before) (before_line before n)
    at later true e = ap (λ xs. r ∷ xs) (all_earlier n r.line before e (up_to_more (last_line before) r.line before h.0.ascending (up_to_last lines before h.1)))
    at later false e = later

pub filter_reverse : {X : Type 0} (q : X → Bool) (xs : List X) → filter q (reverse xs) ≡ reverse (filter q xs)
filter_reverse q [] = refl
filter_reverse {X} q (x ∷ xs) = ap (filter q) (reverse-append (x ∷ []) xs) ∙ (filter-append q (reverse xs) (x ∷ []) ∙ (ap (λ ys. ys ++ filter q (x ∷ [])) (filter_reverse q xs) ∙ at (q x)))
  where
    nil : (ys : List X) → ys ++ [] ≡ ys
    nil ys = append-nil ys

    at : (b : Bool) → reverse (filter q xs) ++ cond b (x ∷ []) [] ≡ reverse (cond b (x ∷ filter q xs) (filter q xs))
    at true = sym (reverse-append (x ∷ []) (filter q xs))
    at false = nil (reverse (filter q xs))

pub past_before : (c : Config) (lines : List ScheduleLine) (n : ℕ) (trace : Trace) → EachRecord (IsPlaced lines) trace → past_at c (reverse trace) n ≡ past c (before_line trace n)
past_before c lines n trace h = ap (past_of c) (filter_reverse (λ (r : Entry). nat_lt r.line n) trace ∙ ap reverse (earlier_are lines n trace h)) ∙ past_reversed c (before_line trace n)

pub comes_before : (c : Config) (n : ℕ) (trace : Trace) → EachComesSo c trace → EachComesSo c (before_line trace n)
comes_before c n [] h = tt
comes_before c n (r ∷ before) h = at (comes_before c n before h.1) (nat_lt r.line n)
  where
    at : EachComesSo c (before_line before n) → (b : Bool) → EachComesSo c (cond b (r ∷ before) (before_line before n))
    at later true = h
    at later false = later

-- Who starts.

-- where a test decides whether a site is given
record Given (b : Bool) (s site : ℕ) : Type 0 where
  pub so : b ≡ true
  pub is : s ≡ site

given : (b : Bool) (s site : ℕ) → ◌≡◌ {A = Option ℕ} (cond b (Some s) None) (Some site) → Given b s site
given true s site h = record { so = refl; is = some_same s site h }
given false s site h = none_some site h

-- a site that starts by a line is one of the cluster, and starts by the value too
pub record Starts (c : Config) (lines : List ScheduleLine) (trace : Trace) (m site : ℕ) : Type 0 where
  pub ours : is_of_cluster c site ≡ true
  pub so : starts_at c lines (reverse trace) m site ≡ true
  pub boot : (site_at (past_at c (reverse trace) m) site).boot ≡ boot_of (before_line trace m) site

pub in_cluster : (n site : ℕ) → is_between 1 (min n sites_max) site ≡ true → (nat_le 1 site && nat_le site n) ≡ true
in_cluster n site h = grind (arith, nat_tests)

starts_so : (c : Config) → IsNamed c → (lines : List ScheduleLine) → LinesFit c lines → (trace : Trace) → EachRecord (IsPlaced lines) trace → EachComesSo c trace → (m site : ℕ) → places.initiator lines trace m ≡ Some site → Starts c lines trace m site
starts_so c named lines fit trace placed comes m site h = record { ours = ours; so = ap (λ p. starts_by (line_at lines m) p site) (past_before c lines m trace placed) ∙ by_line (line_at lines m) h; boot = ap (λ p. (site_at p site).boot) (past_before c lines m trace placed) ∙ a.sites.boot site there }
  where
    now : Trace
    now = before_line trace m

    a : Agrees c now (past c now)
    a = all_agrees c named now (comes_before c m trace comes)

    site_of : (l : ScheduleLine) → line_at lines m ≡ l → places.starts_at c l now ≡ Some site → is_of_cluster c site ≡ true
    site_of (Event (line.Part s)) e k = ap (is_of_cluster c) (sym (given (is_up c now s && is_some (epoch_of now s)) s site k).is) ∙ in_cluster c.sites s (fit m (line.Part s) e)
    site_of (Event (line.Merge s)) e k = ap (is_of_cluster c) (sym (given (is_up c now s) s site k).is) ∙ in_cluster c.sites s (fit m (line.Merge s) e)
    site_of l e k = none_some site k

    ours : is_of_cluster c site ≡ true
    ours = site_of (line_at lines m) refl h

    there : is_there (past c now) site ≡ true
    there = of_cluster_there c (past c now).sites site a.sites.numbers ours

    some_not_none : (o : Option EpochId) → is_some o ≡ true → not (is_none o) ≡ true
    some_not_none None j = j
    some_not_none (Some x) j = refl

    by_line : (l : ScheduleLine) → places.starts_at c l now ≡ Some site → starts_by l (past c now) site ≡ true
    by_line (Event (line.Part s)) k = (let it : Given (is_up c now s && is_some (epoch_of now s)) s site = given (is_up c now s && is_some (epoch_of now s)) s site k
        in both (s == site) (not (is_none (site_at (past c now) site).epoch)) (number_test s site it.is)
        (some_not_none (site_at (past c now) site).epoch (ap is_some (a.sites.epoch site) ∙ (ap (λ x. is_some (epoch_of now x)) (sym it.is) ∙ (both_parts (is_up c now s) (is_some (epoch_of now s)) it.so).1))))
    by_line (Event (line.Merge s)) k = (let it : Given (is_up c now s) s site = given (is_up c now s) s site k
        in both (s == site) (site_at (past c now) site).up (number_test s site it.is) (a.sites.up site there ∙ (ap (is_up c now) (sym it.is) ∙ it.so)))
    by_line l k = none_some site k

-- Leaves and joins.

any_more : {X : Type 0} (q r : X → Bool) → ((x : X) → q x ≡ true → r x ≡ true) → (xs : List X) → list_any q xs ≡ true → list_any r xs ≡ true
any_more q r more [] h = h
any_more {X} q r more (x ∷ xs) h = at (any_more q r more xs) (q x) refl h
  where
    or_more : (b : Bool) → list_any r xs ≡ true → (b || list_any r xs) ≡ true
    or_more true k = refl
    or_more false k = k

    at : (list_any q xs ≡ true → list_any r xs ≡ true) → (b : Bool) → q x ≡ b → (b || list_any q xs) ≡ true → (r x || list_any r xs) ≡ true
    at later true e k = ap (λ b. b || list_any r xs) (more x e)
    at later false e k = or_more (r x) (later k)

within_sites : (c : Config) → c.sites ≤ sites_max → (site : ℕ) → is_of_cluster c site ≡ true → (1 ≤ site) × (site ≤ sites_max)
within_sites c few site h = (let parts : (nat_le 1 site ≡ true) × (nat_le site c.sites ≡ true) = both_parts (nat_le 1 site) (nat_le site c.sites) h
    in (leb-true 1 site parts.0, up (leb-true site c.sites parts.1)))
  where
    up : site ≤ c.sites → site ≤ sites_max
    up k = omega arith

polled_so : (c : Config) → IsNamed c → (lines : List ScheduleLine) → LinesFit c lines → (trace : Trace) → EachRecord (IsPlaced lines) trace → EachComesSo c trace → (n site : ℕ) → rows.was_polled lines trace n site ≡ true → was_polled c lines (reverse trace) n site ≡ true
polled_so c named lines fit trace placed comes n site h = any_more (λ m. rows.is_another (places.initiator lines trace m) site) (λ m. list_any (λ s. not (s == site) && starts_at c lines (reverse trace) m s) all_sites) one (numbers_from 1 (n - 1)) h
  where
    by : (m : ℕ) (o : Option ℕ) → places.initiator lines trace m ≡ o → rows.is_another o site ≡ true → list_any (λ s. not (s == site) && starts_at c lines (reverse trace) m s) all_sites ≡ true
    by m None e k = false_true k
    by m (Some s) e k = (let it : Starts c lines trace m s = starts_so c named lines fit trace placed comes m s e
        in let range : (1 ≤ s) × (s ≤ sites_max) = within_sites c named.sites s it.ours
        in onto_has (λ x. not (x == site) && starts_at c lines (reverse trace) m x) sites_max s [] range.0 range.1 (both (not (s == site)) (starts_at c lines (reverse trace) m s) k it.so))

    one : (m : ℕ) → rows.is_another (places.initiator lines trace m) site ≡ true → list_any (λ s. not (s == site) && starts_at c lines (reverse trace) m s) all_sites ≡ true
    one m k = by m (places.initiator lines trace m) refl k

founded_so : (c : Config) → IsNamed c → (lines : List ScheduleLine) → LinesFit c lines → (trace : Trace) → EachRecord (IsPlaced lines) trace → EachComesSo c trace → (n : ℕ) (e : EpochId) → rows.is_asked_for lines trace n e ≡ true → is_founded c lines (reverse trace) n e ≡ true
founded_so c named lines fit trace placed comes n e h = any_more (λ m. rows.starts_in lines trace m e.site e.boot) (λ m. starts_at c lines (reverse trace) m e.site && ((site_at (past_at c (reverse trace) m) e.site).boot == e.boot)) one (numbers_from 1 n) h
  where
    starter : (m : ℕ) (o : Option ℕ) → places.initiator lines trace m ≡ o → rows.is_site o e.site ≡ true → places.initiator lines trace m ≡ Some e.site
    starter m None f k = false_true k
    starter m (Some s) f k = f ∙ ap (λ x. Some x) (number_eq s e.site k)

    one : (m : ℕ) → rows.starts_in lines trace m e.site e.boot ≡ true → (starts_at c lines (reverse trace) m e.site && ((site_at (past_at c (reverse trace) m) e.site).boot == e.boot)) ≡ true
    one m k = (let parts : (rows.is_site (places.initiator lines trace m) e.site ≡ true) × ((boot_of (before_line trace m) e.site == e.boot) ≡ true) = both_parts (rows.is_site (places.initiator lines trace m) e.site) (boot_of (before_line trace m) e.site == e.boot) k
        in let it : Starts c lines trace m e.site = starts_so c named lines fit trace placed comes m e.site (starter m (places.initiator lines trace m) refl parts.0)
        in both (starts_at c lines (reverse trace) m e.site) ((site_at (past_at c (reverse trace) m) e.site).boot == e.boot) it.so (ap (λ b. b == e.boot) it.boot ∙ parts.1))

-- Each record.

-- a cut is the exact one
abbrev pub CutIsExact : (ℕ → List ℕ) → Config → List ScheduleLine → Trace → Entry → Type 0
CutIsExact wrote c lines before r = IsCutWhereStopped wrote c lines (reverse before) r.line r.what

call_so : (wrote : ℕ → List ℕ) (c : Config) (lines : List ScheduleLine) (before : List Entry) (n site process : ℕ) (id : CallId) (words : Call) → CallLine lines n site process words → IsAsked wrote c lines before n (says.Accept site process id words)
call_so wrote c lines before n site process id (call.Mend f) h = tt
call_so wrote c lines before n site process id words h = h.asked

pending_so : (l : ScheduleLine) → old.lists_packets l ≡ true → l ≡ Event line.Pending
pending_so (Event line.Pending) h = refl
pending_so l h = false_true h

round_so : (l : ScheduleLine) → old.settles l ≡ true → (most : ℕ) × (l ≡ Event (line.Settle most))
round_so (Event (line.Settle most)) h = (most, refl)
round_so l h = false_true h

left_so : (a b d : Bool) → (b ≡ true → d ≡ true) → (a || b) ≡ true → (a || d) ≡ true
left_so true b d f h = refl
left_so false b d f h = f h

asked_so : (wrote : ℕ → List ℕ) (c : Config) → IsNamed c → (lines : List ScheduleLine) → LinesFit c lines → (n : ℕ) (before : Trace) → EachRecord (IsPlaced lines) before → EachComesSo c before → (r : Record) → AskedRecord lines n before r → IsCutWhereStopped wrote c lines (reverse before) n r → IsAsked wrote c lines (reverse before) n r
asked_so wrote c named lines fit n before placed comes (says.Up site boot) h cut = h.asked
asked_so wrote c named lines fit n before placed comes (says.Stopped site cause.Asked) h cut = h.asked
asked_so wrote c named lines fit n before placed comes (says.Stopped site cause.Fuse) h cut = cut
asked_so wrote c named lines fit n before placed comes (says.Stopped site cause.Fault) h cut = cut
asked_so wrote c named lines fit n before placed comes (says.Leave site e) h cut = left_so (rows.makes_leave (line_at lines n) site) (rows.was_polled lines before n site) (was_polled c lines (reverse before) n site) (polled_so c named lines fit before placed comes n site) h.cause
asked_so wrote c named lines fit n before placed comes (says.Join site e members) h cut = founded_so c named lines fit before placed comes n e h.asked
asked_so wrote c named lines fit n before placed comes (says.Accept site process id words) h cut = call_so wrote c lines (reverse before) n site process id words h
asked_so wrote c named lines fit n before placed comes (says.Packet number from to kind) h cut = pending_so (line_at lines n) h.listed
asked_so wrote c named lines fit n before placed comes says.Budget h cut = round_so (line_at lines n) h.round
asked_so wrote c named lines fit n before placed comes _ h cut = tt

each_last : (wrote : ℕ → List ℕ) (c : Config) (lines : List ScheduleLine) (pre xs : List Entry) (r : Entry) → EachAsked wrote c lines pre xs → IsAsked wrote c lines (pre ++ xs) r.line r.what → EachAsked wrote c lines pre (xs ++ r ∷ [])
each_last wrote c lines pre [] r h k = (subst (λ ys. IsAsked wrote c lines ys r.line r.what) (append-nil pre) k, tt)
each_last wrote c lines pre (x ∷ xs) r h k = (h.0, each_last wrote c lines (pre ++ x ∷ []) xs r h.1 (subst (λ ys. IsAsked wrote c lines ys r.line r.what) (sym (append_assoc pre (x ∷ []) xs)) k))

pub each_asked : (wrote : ℕ → List ℕ) (c : Config) → IsNamed c → (lines : List ScheduleLine) → LinesFit c lines → (trace : Trace) → EachRecord (IsPlaced lines) trace → EachRecord (IsAskedRow lines) trace → EachRecord (CutIsExact wrote c lines) trace → EachComesSo c trace → EachAsked wrote c lines [] (reverse trace)
each_asked wrote c named lines fit [] placed asked cuts comes = tt
each_asked wrote c named lines fit (r ∷ before) placed asked cuts comes = subst (EachAsked wrote c lines []) (sym (reverse_more r before)) (each_last wrote c lines [] (reverse before) r (each_asked wrote c named lines fit before placed.1 asked.1 cuts.1 comes.1) (asked_so wrote c named lines fit r.line before placed.1 comes.1 r.what asked.0 cuts.0))

-- The lines ascend.

all_end : {X : Type 0} (q : X → Bool) (xs : List X) (x : X) → list_all q (xs ++ x ∷ []) ≡ (list_all q xs && q x)
all_end q [] x = at (q x)
  where
    at : (b : Bool) → (b && true) ≡ b
    at true = refl
    at false = refl
all_end q (y ∷ ys) x = ap (λ b. q y && b) (all_end q ys x) ∙ at (q y) (list_all q ys) (q x)
  where
    at : (a b d : Bool) → (a && (b && d)) ≡ ((a && b) && d)
    at true b d = refl
    at false b d = refl

all_reverse : {X : Type 0} (q : X → Bool) (xs : List X) → list_all q xs ≡ true → list_all q (reverse xs) ≡ true
all_reverse q [] h = refl
all_reverse q (x ∷ xs) h = (let parts : (q x ≡ true) × (list_all q xs ≡ true) = both_parts (q x) (list_all q xs) h
    in ap (list_all q) (reverse-append (x ∷ []) xs) ∙ (all_end q (reverse xs) x ∙ both (list_all q (reverse xs)) (q x) (all_reverse q xs parts.1) parts.0))

ascends_end : (least most : ℕ) (xs : List Entry) (r : Entry) → ascends least most xs ≡ true → list_all (λ (x : Entry). nat_le x.line r.line) xs ≡ true → nat_le least r.line ≡ true → nat_le r.line most ≡ true → ascends least most (xs ++ r ∷ []) ≡ true
ascends_end least most [] r h k low high = both (nat_le least r.line) (nat_le r.line most && true) low (both (nat_le r.line most) true high refl)
ascends_end least most (x ∷ xs) r h k low high = (let a : (nat_le least x.line ≡ true) × ((nat_le x.line most && ascends x.line most xs) ≡ true) = both_parts (nat_le least x.line) (nat_le x.line most && ascends x.line most xs) h
    in let b : (nat_le x.line most ≡ true) × (ascends x.line most xs ≡ true) = both_parts (nat_le x.line most) (ascends x.line most xs) a.1
    in let d : (nat_le x.line r.line ≡ true) × (list_all (λ (y : Entry). nat_le y.line r.line) xs ≡ true) = both_parts (nat_le x.line r.line) (list_all (λ (y : Entry). nat_le y.line r.line) xs) k
    in both (nat_le least x.line) (nat_le x.line most && ascends x.line most (xs ++ r ∷ [])) a.0 (both (nat_le x.line most) (ascends x.line most (xs ++ r ∷ [])) b.0 (ascends_end x.line most xs r b.1 d.1 d.0 high)))

pub lines_ascend : (lines : List ScheduleLine) (trace : Trace) → EachRecord (IsPlaced lines) trace → ascends 1 (length lines) (reverse trace) ≡ true
lines_ascend lines [] h = refl
lines_ascend lines (r ∷ before) h = (let placed : (nat_le 1 r.line ≡ true) × (nat_le r.line (length lines) ≡ true) = both_parts (nat_le 1 r.line) (nat_le r.line (length lines)) h.0.placed
    in ap (ascends 1 (length lines)) (reverse_more r before) ∙ ascends_end 1 (length lines) (reverse before) r (lines_ascend lines before h.1) (all_reverse (λ (x : Entry). nat_le x.line r.line) before (up_to_more (last_line before) r.line before h.0.ascending (up_to_last lines before h.1))) placed.0 placed.1)

-- Every run.

pub run_ascends : (lines : List ScheduleLine) → ascends 1 (length lines) (reverse (trace_of (run lines))) ≡ true
run_ascends lines = lines_ascend lines (trace_of (run lines)) (run_placed (config_of lines) lines)

pub run_each_asked : (wrote : ℕ → List ℕ) (lines : List ScheduleLine) → AreInOrder lines → EachRecord (CutIsExact wrote (config_of lines) lines) (trace_of (run lines)) → EachAsked wrote (config_of lines) lines [] (reverse (trace_of (run lines)))
run_each_asked wrote lines order cuts = each_asked wrote (config_of lines) (run_is_named lines order) lines (schedule_fits lines order) (trace_of (run lines)) (run_placed (config_of lines) lines) (run_asked (config_of lines) lines) cuts (run_comes_so lines order)
