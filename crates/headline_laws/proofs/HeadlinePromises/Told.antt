-- Each line tells what it must, once; a void one that it is, and nothing else.
use Rattle.std.proofs.Common.{◌≡◌, ℕ, ◌+◌, ◌-◌, ◌==◌, ◌≤◌, ◌<◌, ◌⊎◌, inl, inr, Bool, true, false, not, cond, ◌&&◌, ◌||◌, nat_le, nat_lt, List, [], ◌∷◌, filter, length, take, reverse, Option, Some, None, refl, sym, ap, subst, ◌∙◌, arith}
use Rattle.std.specs.Prelude.{suc}
use Rattle.std.specs.List.{find, list_any, list_all}
use Rattle.std.specs.Option.{is_none, is_some, option_map}
use Rattle.std.proofs.lemmas.Bool.Decides.{nat_tests}
use Rattle.std.proofs.lemmas.List.{length-reverse}
use Rattle.locus_ids.specs.declared.config.Config.{Config}
use Rattle.locus_ids.specs.Sizes.{sites_max}
use Rattle.commit_graph.specs.Vectors.{numbers_from}
use Rattle.trace_book.specs.declared.entry.Entry.{Entry}
use Rattle.trace_book.specs.declared.record.Record.{Record}
use Rattle.trace_book.specs.declared.record.Record.TheVariants as says
use Rattle.schedule_lines.specs.Cluster.{config_of}
use Rattle.schedule_lines.specs.Ranges.{fits_call, fits_event, is_between, is_site}
use Rattle.schedule_lines.specs.Schedule.{AreInOrder, is_event}
use Rattle.schedule_lines.specs.declared.line.Line.{Line}
use Rattle.schedule_lines.specs.declared.line.Line.TheVariants as line
use Rattle.schedule_lines.specs.declared.line.ScheduleLine.{ScheduleLine}
use Rattle.schedule_lines.specs.declared.line.ScheduleLine.TheVariants.{Event, Header, Passed}
use Rattle.tree_model.specs.Calls.{is_of, waiting, waiting_of}
use Rattle.tree_model.specs.Epochs.{epoch_of, is_up}
use Rattle.tree_model.specs.Folds.{Trace, before_line, last_line}
use Rattle.lawful_trace.specs.Lawful.{EachComes, IsAsked as IsAskedOld, IsLawful}
use Rattle.lawful_trace.specs.LineRows as old
use Rattle.lawful_trace.specs.LineRows.{is_void, must_tell, tale}
use Rattle.lawful_trace.specs.Places.{line_at}
use Rattle.lawful_trace.specs.Prompt.{comes_first_at, is_over, is_first_at}
use Rattle.the_run.specs.Runs.{acts_line, run, run_in}
use Rattle.the_run.specs.Worlds.{World, told_onto}
use Rattle.the_run.specs.Worlds.{Line as RunLine}
use Rattle.role_steps.specs.Views.{Shown, Told}
use Rattle.row_laws.specs.Shown.{EachRecord, shown, trace_of}
use Rattle.row_laws.proofs.AskedRun.{run_placed}
use Rattle.row_laws.proofs.ByLine.{by_lines}
use Rattle.row_laws.proofs.Fitting.{schedule_fits}
use Rattle.headline_laws.proofs.Prompting.Later.{OfLine}
use Rattle.headline_laws.proofs.Prompting.Lines.{Adds, line_adds, run_stands}
use Rattle.headline_laws.proofs.HeadlinePromises.Comes.{run_comes_so, run_is_named}
use Rattle.row_laws.specs.Rows.{IsPlaced}
use Rattle.row_laws.specs.Voids.{LinesFit}
use Rattle.headline_laws.specs.Prompting.Alone.{StandsAlone}
use Rattle.promises.specs.Past.{CallSoFar, Past, site_at}
use Rattle.promises.specs.Rows.{is_there, waits_at}
use Rattle.past_laws.proofs.Sites.{of_cluster_there}
use Rattle.promises.specs.Lines.{has_no_effect, how_many, past_at, tells}
use Rattle.past_laws.specs.Agreement.{Agrees, past, waiting_as}
use Rattle.past_laws.specs.Along.{EachComesSo, IsNamed}
use Rattle.past_laws.proofs.Agreeing.{all_agrees}
use Rattle.past_laws.proofs.Names.{both, both_parts, false_true, number_eq}
use Rattle.past_laws.proofs.TreesLists.{all_more, any_found, find_both, find_map, find_same}
use Rattle.headline_laws.proofs.HeadlinePromises.Asked.{AreUpTo, in_cluster, comes_before, filter_reverse, past_before, up_to_last, up_to_more}

-- Counts.

many_same : (q : Record → Bool) (n : ℕ) (trace : Trace) → how_many q (reverse trace) n ≡ old.how_many q n trace
many_same q n trace = ap length (filter_reverse (λ (r : Entry). (r.line == n) && q r.what) trace) ∙ length-reverse (filter (λ (r : Entry). (r.line == n) && q r.what) trace)

-- none at a line above all
none_above : (q : Record → Bool) (n m : ℕ) (trace : Trace) → nat_lt m n ≡ true → AreUpTo m trace ≡ true → old.how_many q n trace ≡ 0
none_above q n m [] k h = refl
none_above q n m (r ∷ before) k h = (let parts : (nat_le r.line m ≡ true) × (AreUpTo m before ≡ true) = both_parts (nat_le r.line m) (AreUpTo m before) h
    in ap (λ b. length (cond (b && q r.what) (r ∷ filter (λ (x : Entry). (x.line == n) && q x.what) before) (filter (λ (x : Entry). (x.line == n) && q x.what) before))) (other r.line parts.0) ∙ none_above q n m before k parts.1)
  where
    other : (x : ℕ) → nat_le x m ≡ true → (x == n) ≡ false
    other x e = grind (arith, nat_tests)

-- one more of a line, or none
one_more : (q : Record → Bool) (n : ℕ) (r : Entry) (before : Trace) → old.how_many q n (r ∷ before) ≡ cond ((r.line == n) && q r.what) (suc (old.how_many q n before)) (old.how_many q n before)
one_more q n r before = at ((r.line == n) && q r.what)
  where
    rest : Trace
    rest = filter (λ (x : Entry). (x.line == n) && q x.what) before

    at : (b : Bool) → length (cond b (r ∷ rest) rest) ≡ cond b (suc (length rest)) (length rest)
    at true = refl
    at false = refl

-- the last record is of the last line, so where one is of that line, and only one, the last is
top : (n : ℕ) (r : Entry) (before : Trace) → nat_le r.line n ≡ true → AreUpTo r.line before ≡ true → (old.how_many (λ x. true) n (r ∷ before) ≡ 0 → ⊥) → (r.line == n) ≡ true
top n r before low h some = at (r.line == n) refl
  where
    below : (x : ℕ) → nat_le x n ≡ true → (x == n) ≡ false → nat_lt x n ≡ true
    below x e f = grind (arith, nat_tests)

    at : (b : Bool) → (r.line == n) ≡ b → (r.line == n) ≡ true
    at true e = e
    at false e = absurd (some (one_more (λ x. true) n r before ∙ (ap (λ b. cond (b && true) (suc (old.how_many (λ x. true) n before)) (old.how_many (λ x. true) n before)) e ∙ none_above (λ x. true) n r.line before (below r.line low e) h)))

-- where a line has none, it has none that pass
fewer : (n : ℕ) (trace : Trace) → old.how_many (λ x. true) n trace ≡ 0 → old.how_many is_void n trace ≡ 0
fewer n [] h = refl
fewer n (r ∷ before) h = at (fewer n before) (r.line == n) refl (one_more (λ x. true) n r before) (one_more is_void n r before)
  where
    many : ℕ
    many = old.how_many (λ x. true) n before

    none : (m : ℕ) → suc m ≡ 0 → ⊥
    none m e = omega arith

    at : (many ≡ 0 → old.how_many is_void n before ≡ 0) → (b : Bool) → (r.line == n) ≡ b → old.how_many (λ x. true) n (r ∷ before) ≡ cond ((r.line == n) && true) (suc many) many → old.how_many is_void n (r ∷ before) ≡ cond ((r.line == n) && is_void r.what) (suc (old.how_many is_void n before)) (old.how_many is_void n before) → old.how_many is_void n (r ∷ before) ≡ 0
    at later true e k j = absurd (none many (sym (ap (λ b. cond (b && true) (suc many) many) e) ∙ (sym k ∙ h)))
    at later false e k j = j ∙ (ap (λ b. cond (b && is_void r.what) (suc (old.how_many is_void n before)) (old.how_many is_void n before)) e ∙ later (sym (ap (λ b. cond (b && true) (suc many) many) e) ∙ (sym k ∙ h)))

-- a record that its line is void is the only one of the line
alone : (lines : List ScheduleLine) (n : ℕ) (trace : Trace) → EachRecord (IsPlaced lines) trace → EachRecord StandsAlone trace → (old.how_many is_void n trace ≡ 0) ⊎ (old.how_many (λ r. true) n trace ≡ 1)
alone lines n [] placed h = inl refl
alone lines n (r ∷ before) placed h = at (r.line == n) (is_void r.what) refl refl (alone lines n before placed.1 h.1)
  where
    up : AreUpTo (last_line before) before ≡ true
    up = up_to_last lines before placed.1

    void_count : ℕ
    void_count = old.how_many is_void n before

    count : ℕ
    count = old.how_many (λ x. true) n before

    voids : (a b : Bool) → (r.line == n) ≡ a → is_void r.what ≡ b → old.how_many is_void n (r ∷ before) ≡ cond (a && b) (suc void_count) void_count
    voids a b e f = one_more is_void n r before ∙ (ap (λ x. cond (x && is_void r.what) (suc void_count) void_count) e ∙ ap (λ x. cond (a && x) (suc void_count) void_count) f)

    all : (a : Bool) → (r.line == n) ≡ a → old.how_many (λ x. true) n (r ∷ before) ≡ cond (a && true) (suc count) count
    all a e = one_more (λ x. true) n r before ∙ ap (λ x. cond (x && true) (suc count) count) e

    -- a void record is the first of its line
    first : is_void r.what ≡ true → (r.line == n) ≡ true → count ≡ 0
    first f e = none_above (λ x. true) n (last_line before) before (ap (nat_lt (last_line before)) (sym (number_eq r.line n e)) ∙ is_first r.what f h.0.first) up
      where
        is_first : (w : Record) → is_void w ≡ true → (not (comes_first_at w) || is_first_at r.line before) ≡ true → nat_lt (last_line before) r.line ≡ true
        is_first says.Void g k = k
        is_first _ g k = false_true g

    -- the only one of the line so far isn't void
    over : (t : Trace) → is_over t n ≡ false → EachRecord (IsPlaced lines) t → nat_le (last_line t) n ≡ true → old.how_many (λ x. true) n t ≡ 1 → old.how_many is_void n t ≡ 0
    over [] o p low one = refl
    over (y ∷ ys) o p low one = none (is_void y.what) refl
      where
        here : (y.line == n) ≡ true
        here = top n y ys low (up_to_more (last_line ys) y.line ys p.0.ascending (up_to_last lines ys p.1)) (λ z. zero_one (old.how_many (λ x. true) n (y ∷ ys)) z one)
          where
            zero_one : (m : ℕ) → m ≡ 0 → m ≡ 1 → ⊥
            zero_one m e f = omega arith

        rest : old.how_many (λ x. true) n ys ≡ 0
        rest = less (old.how_many (λ x. true) n ys) (sym (one_more (λ x. true) n y ys ∙ ap (λ b. cond (b && true) (suc (old.how_many (λ x. true) n ys)) (old.how_many (λ x. true) n ys)) here) ∙ one)
          where
            less : (m : ℕ) → suc m ≡ 1 → m ≡ 0
            less m e = omega arith

        none : (b : Bool) → is_void y.what ≡ b → old.how_many is_void n (y ∷ ys) ≡ 0
        none true f = false_true (sym o ∙ both (is_void y.what) (y.line == n) f here)
        none false f = one_more is_void n y ys ∙ (ap (λ b. cond ((y.line == n) && b) (suc (old.how_many is_void n ys)) (old.how_many is_void n ys)) f ∙ (flat (y.line == n) ∙ fewer n ys rest))
          where
            flat : (b : Bool) → cond (b && false) (suc (old.how_many is_void n ys)) (old.how_many is_void n ys) ≡ old.how_many is_void n ys
            flat true = refl
            flat false = refl

    at : (a b : Bool) → (r.line == n) ≡ a → is_void r.what ≡ b → (void_count ≡ 0) ⊎ (count ≡ 1) → (old.how_many is_void n (r ∷ before) ≡ 0) ⊎ (old.how_many (λ x. true) n (r ∷ before) ≡ 1)
    at false b e f (inl k) = inl (voids false b e f ∙ k)
    at false b e f (inr k) = inr (all false e ∙ k)
    at true true e f k = inr (all true e ∙ ap suc (first f e))
    at true false e f (inl k) = inl (voids true false e f ∙ k)
    at true false e f (inr k) = inl (voids true false e f ∙ over before (ap (is_over before) (sym (number_eq r.line n e)) ∙ h.0.alone) placed.1 (ap (nat_le (last_line before)) (sym (number_eq r.line n e)) ∙ placed.0.ascending) k)

-- Whether a line is void.

up_is : (c : Config) (now : Trace) (p : Past) → Agrees c now p → (site : ℕ) → is_site c.sites site ≡ true → (site_at p site).up ≡ is_up c now site
up_is c now p a site h = a.sites.up site (of_cluster_there c p.sites site a.sites.numbers (in_cluster c.sites site h))

-- a stopped site is in none
apart_is : (c : Config) (now : Trace) (p : Past) → Agrees c now p → (site : ℕ) → is_none (site_at p site).epoch ≡ old.is_apart c now site
apart_is c now p a site = ap is_none (a.sites.epoch site) ∙ at (is_up c now site) refl
  where
    at : (b : Bool) → is_up c now site ≡ b → is_none (epoch_of now site) ≡ (not b || is_none (epoch_of now site))
    at true e = refl
    at false e = ap is_none (a.sites.down site e)

-- by the value, by the folds
effect_is : (c : Config) → c.sites ≤ sites_max → (earlier : List ScheduleLine) (now : Trace) (p : Past) → Agrees c now p → (l : ScheduleLine) → ((e : Line) → l ≡ Event e → fits_event c.sites e ≡ true) → has_no_effect earlier p l ≡ old.is_void_after c earlier now l
effect_is c few earlier now p a (Event (line.Call site process words)) fit = ap (λ o. Some o) (ap (λ b. not b || list_any (waits_at site process) p.calls) (a.sites.up site (there site (both_parts (is_site c.sites site) (is_between 1 8 process) (both_parts (is_site c.sites site && is_between 1 8 process) (fits_call c.sites words) (fit (line.Call site process words) refl)).0).0)) ∙ ap (λ b. not (is_up c now site) || b) waits)
  where
    there : (s : ℕ) → is_site c.sites s ≡ true → is_there p s ≡ true
    there s h = of_cluster_there c p.sites s a.sites.numbers (in_cluster c.sites s h)

    some_map : {X Y : Type 0} (f : X → Y) (o : Option X) → is_some (option_map f o) ≡ is_some o
    some_map f None = refl
    some_map f (Some x) = refl

    flip : (x y : Bool) → (x && y) ≡ (y && x)
    flip true true = refl
    flip true false = refl
    flip false true = refl
    flip false false = refl

    waits : list_any (waits_at site process) p.calls ≡ is_some (waiting_of site process (waiting now))
    waits = any_found (waits_at site process) p.calls ∙ sym (ap (λ ws. is_some (find (is_of site process) ws)) (sym a.calls.waits) ∙ (ap is_some (find_map (is_of site process) waiting_as (filter (λ (k : CallSoFar). k.waits) p.calls)) ∙ (some_map waiting_as (find (λ k. is_of site process (waiting_as k)) (filter (λ (k : CallSoFar). k.waits) p.calls))
        ∙ ap is_some (find_both (λ k. is_of site process (waiting_as k)) (λ (k : CallSoFar). k.waits) p.calls ∙ find_same (λ (k : CallSoFar). is_of site process (waiting_as k) && k.waits) (waits_at site process) (λ k. flip (is_of site process (waiting_as k)) k.waits) p.calls))))
effect_is c few earlier now p a (Event (line.Deliver k)) fit = refl
effect_is c few earlier now p a (Event (line.Lose k)) fit = refl
effect_is c few earlier now p a (Event (line.Tick site)) fit = ap (λ b. Some (not b)) (up_is c now p a site (fit (line.Tick site) refl))
effect_is c few earlier now p a (Event (line.Down one other)) fit = refl
effect_is c few earlier now p a (Event (line.Up one other)) fit = refl
effect_is c few earlier now p a (Event (line.Part site)) fit = ap (λ b. Some b) (apart_is c now p a site)
effect_is c few earlier now p a (Event (line.Merge site)) fit = ap (λ b. Some (not b)) (up_is c now p a site (fit (line.Merge site) refl))
effect_is c few earlier now p a (Event (line.GiveUp site)) fit = ap (λ b. Some b) (apart_is c now p a site)
effect_is c few earlier now p a (Event (line.Stop site)) fit = ap (λ b. Some (not b)) (up_is c now p a site (fit (line.Stop site) refl))
effect_is c few earlier now p a (Event (line.Boot site)) fit = ap (λ b. Some b) (up_is c now p a site (fit (line.Boot site) refl))
effect_is c few earlier now p a (Event (line.ArmStop site calls l)) fit = refl
effect_is c few earlier now p a (Event (line.ArmFail site calls)) fit = refl
effect_is c few earlier now p a (Event (line.Settle most)) fit = refl
effect_is c few earlier now p a (Event line.Pending) fit = refl
effect_is c few earlier now p a Passed fit = refl
effect_is c few earlier now p a (Header h) fit = refl

-- No record is of a line that is no event.

abbrev pub IsEventRow : List ScheduleLine → Trace → Entry → Type 0
IsEventRow lines before r = is_event (line_at lines r.line) ≡ true

onto_events : (lines : List ScheduleLine) (m : ℕ) (told : List Told) (t : List RunLine) → is_event (line_at lines m) ≡ true → EachRecord (IsEventRow lines) (shown t) → EachRecord (IsEventRow lines) (shown (told_onto m told t))
onto_events lines m [] t e h = h
onto_events lines m (x ∷ xs) t e h = onto_events lines m xs (record { number = m; told = x } ∷ t) e (one x)
  where
    one : (y : Told) → EachRecord (IsEventRow lines) (shown (record { number = m; told = y } ∷ t))
    one (Shown r) = (e, h)
    one _ = h

pub run_events : (c : Config) (lines : List ScheduleLine) → EachRecord (IsEventRow lines) (trace_of (run_in c lines))
run_events c lines = by_lines c lines (λ n w. EachRecord (IsEventRow lines) (trace_of w)) step tt
  where
    step : (n : ℕ) (x : ScheduleLine) (w : World) → n < length lines → line_at lines (n + 1) ≡ x → EachRecord (IsEventRow lines) (trace_of w) → EachRecord (IsEventRow lines) (trace_of (acts_line c (n + 1) x w))
    step n Passed w low e h = h
    step n (Header x) w low e h = h
    step n (Event x) w low e h = (let a : Adds OfLine (n + 1) w (acts_line c (n + 1) (Event x) w) = line_adds c (n + 1) (Event x) w
        in subst (λ t. EachRecord (IsEventRow lines) (shown t)) (sym a.trace_is) (onto_events lines (n + 1) a.told w.trace (ap is_event e) h))

none_at : (lines : List ScheduleLine) (n : ℕ) (trace : Trace) → EachRecord (IsEventRow lines) trace → is_event (line_at lines n) ≡ false → old.how_many (λ r. true) n trace ≡ 0
none_at lines n [] h e = refl
none_at lines n (r ∷ before) h e = one_more (λ x. true) n r before ∙ at (none_at lines n before h.1 e) (r.line == n) refl
  where
    many : ℕ
    many = old.how_many (λ x. true) n before

    at : many ≡ 0 → (b : Bool) → (r.line == n) ≡ b → cond (b && true) (suc many) many ≡ 0
    at later true k = false_true (sym e ∙ (ap (λ m. is_event (line_at lines m)) (sym (number_eq r.line n k)) ∙ h.0))
    at later false k = later

-- A line that isn't void isn't told to be.

silent : (c : Config) (lines : List ScheduleLine) (n : ℕ) (trace : Trace) → EachComes c lines trace → EachRecord (IsPlaced lines) trace → old.is_void_line lines trace n ≡ Some false → old.how_many is_void n trace ≡ 0
silent c lines n [] h placed e = refl
silent c lines n (r ∷ before) h placed e = at (silent c lines n before h.1 placed.1) (nat_lt r.line n) (r.line == n) (is_void r.what) refl refl refl
  where
    kept : nat_lt r.line n ≡ false → old.is_void_line lines before n ≡ Some false
    kept k = sym (ap (λ b. old.is_void_after c (take (n - 1) lines) (cond b (r ∷ before) (before_line before n)) (line_at lines n)) k) ∙ e

    voids : (a b : Bool) → (r.line == n) ≡ a → is_void r.what ≡ b → old.how_many is_void n (r ∷ before) ≡ cond (a && b) (suc (old.how_many is_void n before)) (old.how_many is_void n before)
    voids a b k j = one_more is_void n r before ∙ (ap (λ x. cond (x && is_void r.what) (suc (old.how_many is_void n before)) (old.how_many is_void n before)) k ∙ ap (λ x. cond (a && x) (suc (old.how_many is_void n before)) (old.how_many is_void n before)) j)

    asked : (w : Record) → is_void w ≡ true → IsAskedOld c lines r.line before w → old.may_be_void (old.is_void_line lines before r.line) ≡ true
    asked says.Void k j = j.silent
    asked _ k j = false_true k

    low : (r.line == n) ≡ true → nat_lt r.line n ≡ false
    low k = same_low r.line n (number_eq r.line n k)
      where
        same_low : (x y : ℕ) → x ≡ y → nat_lt x y ≡ false
        same_low x y q = grind (arith, nat_tests)

    at : (old.is_void_line lines before n ≡ Some false → old.how_many is_void n before ≡ 0) → (d a b : Bool) → nat_lt r.line n ≡ d → (r.line == n) ≡ a → is_void r.what ≡ b → old.how_many is_void n (r ∷ before) ≡ 0
    at later true a b q k j = none_above is_void n r.line (r ∷ before) q (up_to_last lines (r ∷ before) placed)
    at later false false b q k j = voids false b k j ∙ later (kept q)
    at later false true false q k j = voids true false k j ∙ later (kept q)
    at later false true true q k j = false_true (sym (ap old.may_be_void (kept q)) ∙ (ap (λ m. old.may_be_void (old.is_void_line lines before m)) (sym (number_eq r.line n k)) ∙ asked r.what j h.0.asked))

-- What each line tells.

told_one : (c : Config) (lines : List ScheduleLine) (trace : Trace) → EachComes c lines trace → EachRecord (IsPlaced lines) trace → EachRecord StandsAlone trace → EachRecord (IsEventRow lines) trace → (n : ℕ) (o : Option Bool) (l : ScheduleLine) → old.is_void_line lines trace n ≡ o → line_at lines n ≡ l → old.is_told_by o l n trace ≡ true → tells o l (reverse trace) n ≡ true
told_one c lines trace h placed single events n (Some true) l e f k = both (how_many is_void (reverse trace) n == 1) (how_many (λ r. true) (reverse trace) n == 1) (ap (λ m. m == 1) (many_same is_void n trace) ∙ k) (ap (λ m. m == 1) (many_same (λ r. true) n trace) ∙ at (alone lines n trace placed single))
  where
    at : (old.how_many is_void n trace ≡ 0) ⊎ (old.how_many (λ r. true) n trace ≡ 1) → (old.how_many (λ r. true) n trace == 1) ≡ true
    at (inl z) = false_true (sym (ap (λ m. m == 1) z) ∙ k)
    at (inr z) = ap (λ m. m == 1) z
told_one c lines trace h placed single events n (Some false) (Event l) e f k = both (how_many is_void (reverse trace) n == 0) (not (must_tell l) || (how_many (tale l) (reverse trace) n == 1)) (ap (λ m. m == 0) (many_same is_void n trace ∙ silent c lines n trace h placed e)) (ap (λ m. not (must_tell l) || (m == 1)) (many_same (tale l) n trace) ∙ k)
told_one c lines trace h placed single events n (Some false) Passed e f k = ap (λ m. m == 0) (many_same (λ r. true) n trace ∙ none_at lines n trace events (ap is_event f))
told_one c lines trace h placed single events n (Some false) (Header x) e f k = ap (λ m. m == 0) (many_same (λ r. true) n trace ∙ none_at lines n trace events (ap is_event f))
told_one c lines trace h placed single events n None l e f k = at (alone lines n trace placed single)
  where
    or_more : (b : Bool) → (b || true) ≡ true
    or_more true = refl
    or_more false = refl

    at : (old.how_many is_void n trace ≡ 0) ⊎ (old.how_many (λ r. true) n trace ≡ 1) → ((how_many is_void (reverse trace) n == 0) || (how_many (λ r. true) (reverse trace) n == 1)) ≡ true
    at (inl z) = ap (λ m. (m == 0) || (how_many (λ r. true) (reverse trace) n == 1)) (many_same is_void n trace ∙ z)
    at (inr z) = ap (λ m. (how_many is_void (reverse trace) n == 0) || (m == 1)) (many_same (λ r. true) n trace ∙ z) ∙ or_more (how_many is_void (reverse trace) n == 0)

pub all_told : (c : Config) → IsNamed c → (lines : List ScheduleLine) → LinesFit c lines → (trace : Trace) → EachComes c lines trace → EachComesSo c trace → EachRecord (IsPlaced lines) trace → EachRecord StandsAlone trace → EachRecord (IsEventRow lines) trace → old.are_told lines trace ≡ true
    → list_all (λ n. tells (has_no_effect (take (n - 1) lines) (past_at c (reverse trace) n) (line_at lines n)) (line_at lines n) (reverse trace) n) (numbers_from 1 (length lines)) ≡ true
all_told c named lines fit trace h comes placed single events told = all_more (old.is_told lines trace) (λ n. tells (has_no_effect (take (n - 1) lines) (past_at c (reverse trace) n) (line_at lines n)) (line_at lines n) (reverse trace) n) one (numbers_from 1 (length lines)) told
  where
    void_is : (n : ℕ) → has_no_effect (take (n - 1) lines) (past_at c (reverse trace) n) (line_at lines n) ≡ old.is_void_line lines trace n
    void_is n = ap (λ p. has_no_effect (take (n - 1) lines) p (line_at lines n)) (past_before c lines n trace placed) ∙ effect_is c named.sites (take (n - 1) lines) (before_line trace n) (past c (before_line trace n)) (all_agrees c named (before_line trace n) (comes_before c n trace comes)) (line_at lines n) (λ e k. fit n e k)

    one : (n : ℕ) → old.is_told lines trace n ≡ true → tells (has_no_effect (take (n - 1) lines) (past_at c (reverse trace) n) (line_at lines n)) (line_at lines n) (reverse trace) n ≡ true
    one n k = ap (λ o. tells o (line_at lines n) (reverse trace) n) (void_is n) ∙ told_one c lines trace h placed single events n (old.is_void_line lines trace n) (line_at lines n) refl refl k

-- Where no limit was passed: each line of every run.
pub run_told : (lines : List ScheduleLine) → AreInOrder lines → IsLawful lines (trace_of (run lines))
    → list_all (λ n. tells (has_no_effect (take (n - 1) lines) (past_at (config_of lines) (reverse (trace_of (run lines))) n) (line_at lines n)) (line_at lines n) (reverse (trace_of (run lines))) n) (numbers_from 1 (length lines)) ≡ true
run_told lines order lawful = all_told (config_of lines) (run_is_named lines order) lines (schedule_fits lines order) (trace_of (run lines)) lawful.each (run_comes_so lines order) (run_placed (config_of lines) lines) (run_stands (config_of lines) lines) (run_events (config_of lines) lines) lawful.told
