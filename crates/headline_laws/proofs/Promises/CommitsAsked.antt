-- In every run each commit record stands in a step of a call that commits.
use Rattle.std.proofs.Common.{◌≡◌, ℕ, ◌+◌, Bool, true, false, cond, List, [], ◌∷◌, filter, map, Option, Some, refl, sym, ◌∙◌, ap, subst, inl, inr}
use Rattle.role_steps.proofs.of_plain_facts.Options.{some_same}
use Rattle.locus_ids.specs.declared.config.Config.{Config}
use Rattle.locus_ids.specs.declared.ids.EpochId.{EpochId}
use Rattle.locus_ids.specs.declared.ids.FileId.{FileId}
use Rattle.locus_ids.specs.declared.ids.Stamp.{Stamp}
use Rattle.schedule_lines.specs.Cluster.{config_of}
use Rattle.schedule_lines.specs.Schedule.{AreInOrder}
use Rattle.schedule_lines.specs.declared.line.ScheduleLine.{ScheduleLine}
use Rattle.trace_book.specs.declared.record.Record.{Record}
use Rattle.trace_book.specs.declared.record.Record.TheVariants as says
use Rattle.wire_messages.specs.declared.packet.Packet.{Packet}
use Rattle.role_steps.specs.Own.{Every}
use Rattle.role_steps.specs.Views.{SiteView, Told, Shown, DiskWrite, Outcome, Event, Receives, Ticks}
use Rattle.role_steps.proofs.Sending.{every_map}
use Rattle.the_run.specs.Disks.{Armed, Booted, Whole, CutOff, boots, cut_disk, is_on_disk}
use Rattle.the_run.specs.Kept.{Among}
use Rattle.the_run.specs.Steps.{step}
use Rattle.the_run.specs.Worlds.{World, Line, Numbered, Running, place_at, links_of, script_of, told_onto, happened, cause_of, passed, acts, cut_event, stops_with}
use Rattle.the_run.specs.Runs.{boots_as, packet_record, run, run_in}
use Rattle.the_run.proofs.Boots.{acts_cases}
use Rattle.the_run.proofs.Events.{happened_keeps}
use Rattle.tree_model.specs.declared.instance.Instance.{Instance}
use Rattle.tree_model.specs.Folds.{Trace}
use Rattle.tree_model.specs.Tree.{tree_of}
use Rattle.lawful_trace.specs.TreeRows.{MayCommit, is_writing}
use Rattle.row_laws.specs.ByLine.{KeptIn}
use Rattle.row_laws.specs.Shown.{trace_of}
use Rattle.row_laws.specs.Voids.{LinesFit}
use Rattle.row_laws.proofs.ByLine.{every_line}
use Rattle.row_laws.proofs.Fitting.{schedule_fits}
use Rattle.tree_laws.specs.Following.{MayTell}
use Rattle.tree_laws.specs.Printed.{entries, onto_entries}
use Rattle.site_laws.specs.Vectors.Held.{Still, StillRecord}
use Rattle.headline_laws.proofs.WholeRuns.CutShaped.{DiskFirst, step_writes_first}
use Rattle.calm_laws.specs.of_store_laws.OneTree.Places.{WorldFact}
use Rattle.calm_laws.specs.of_store_laws.OneTree.Rest.{IsRest, RestTold, Past}
use Rattle.calm_laws.specs.of_store_laws.OneTree.Roles.{EventFact, RolesDo}
use Rattle.calm_laws.proofs.of_store_laws.OneTree.Composing.{rest_before, rest_told}
use Rattle.calm_laws.proofs.of_store_laws.OneTree.Cuts.{step_writes}
use Rattle.calm_laws.proofs.of_store_laws.OneTree.Run.{arrives_fact, event_fact, first_holds, kept}
use Rattle.calm_laws.proofs.of_store_laws.OneTree.Staying.{stays}
use Rattle.calm_laws.proofs.of_store_laws.OneTree.Worlds.{Holds}
use Rattle.rest_laws.proofs.Roles.{roles_do}
use Rattle.rest_laws.proofs.Shown.{shown_entries}
use Rattle.headline_laws.specs.Promises.Committing.{CommitsAreAsked, CommitsAsAsked, IsAskedFor}
use Rattle.headline_laws.proofs.Promises.Asking.{HasAsked}
use Rattle.headline_laws.proofs.Promises.RunsHold.{few_groups, schedule_rests}
use Rattle.headline_laws.proofs.Promises.Walk.{SaysAsked, step_asked}

-- ---- one record ----

in_filter : {A : Type 0} (test : A → Bool) (xs : List A) (x : A) → Among x xs → test x ≡ true → Among x (filter test xs)
in_filter test [] x a t = a
in_filter test (y ∷ ys) x (inl e) t = by_test (test y) (ap test (sym e) ∙ t)
  where
    by_test : (b : Bool) → b ≡ true → Among x (cond b (y ∷ filter test ys) (filter test ys))
    by_test true k = inl e
    by_test false k = absurd (let h : false ≡ true = k in cc)
in_filter test (y ∷ ys) x (inr a) t = by_test (test y) (in_filter test ys x a t)
  where
    by_test : (b : Bool) → Among x (filter test ys) → Among x (cond b (y ∷ filter test ys) (filter test ys))
    by_test true k = inr k
    by_test false k = k

only_one : {A : Type 0} (xs : List A) (x y : A) → Among x xs → xs ≡ y ∷ [] → x ≡ y
only_one xs x y a e = by_place (subst (Among x) e a)
  where
    by_place : Among x (y ∷ []) → x ≡ y
    by_place (inl k) = k
    by_place (inr k) = absurd k

-- who asks and who may commit are one
commit_asked : (c : Config) (before : Trace) (f : FileId) (site : ℕ) (stamp : Stamp) (parents : List Stamp) (content : List ℕ) → MayCommit c before f site stamp parents content → HasAsked c before f site → CommitsAsAsked c before f site
commit_asked c before f site stamp parents content may h = record {
  epoch = h.epoch;
  inside = h.inside;
  instance = h.instance;
  one = one ∙ ap (λ (x : Instance). x ∷ []) (sym same);
  at = h.at;
  asked = h.asked;
}
  where
    epoch_is : may.epoch ≡ h.epoch
    epoch_is = some_same may.epoch h.epoch (sym may.inside ∙ h.inside)

    one : filter (is_writing f) (tree_of c h.epoch f.group before).instances ≡ may.instance ∷ []
    one = subst (λ (e : EpochId). filter (is_writing f) (tree_of c e f.group before).instances ≡ may.instance ∷ []) epoch_is may.one

    same : h.instance ≡ may.instance
    same = only_one (filter (is_writing f) (tree_of c h.epoch f.group before).instances) h.instance may.instance (in_filter (is_writing f) (tree_of c h.epoch f.group before).instances h.instance h.there h.writes) one

record_asked : (c : Config) (trace : List Line) (r : Record) → MayTell c trace (Shown r) → SaysAsked c (entries trace) r → IsAskedFor c (entries trace) r
record_asked c trace (says.Commit f site stamp parents content) may h = commit_asked c (entries trace) f site stamp parents content may.row h
record_asked c trace _ may h = tt

-- ---- what is told ----

still_record : (c : Config) (before : Trace) (r : Record) → StillRecord r → IsAskedFor c before r
still_record c before (says.Commit f site stamp parents content) h = absurd h
still_record c before _ h = tt

told_asked : (c : Config) (n : ℕ) (x : Told) (trace : List Line) → Still x → CommitsAreAsked c (entries trace) → CommitsAreAsked c (onto_entries n x (entries trace))
told_asked c n (Shown r) trace h g = (still_record c (entries trace) r h, g)
told_asked c n _ trace h g = g

onto_asked : (c : Config) (n : ℕ) (told : List Told) (trace : List Line) → Every Still told → CommitsAreAsked c (entries trace) → CommitsAreAsked c (entries (told_onto n told trace))
onto_asked c n [] trace h g = g
onto_asked c n (x ∷ xs) trace h g = onto_asked c n xs (record { number = n; told = x } ∷ trace) h.1 (told_asked c n x trace h.0 g)

-- ---- one event ----

-- as far as other laws give the rest of what was told
abbrev Asked : Config → World → Type 0
Asked c w = IsRest c w.trace → CommitsAreAsked c (entries w.trace)

happened_asked : (c : Config) (n : ℕ) (ps : List Packet) (told : List Told) (change : World → World) (w : World) →
    (IsRest c (told_onto n told w.trace) → CommitsAreAsked c (entries w.trace) → CommitsAreAsked c (entries (told_onto n told w.trace))) → Asked c w → Asked c (happened n ps told change w)
happened_asked c n ps told change w after g = happened_keeps (Asked c) n ps told change w g (λ l r. g r) (λ k b t r. after r (g (rest_before c n told w.trace r)))

still_asked : (c : Config) (n : ℕ) (ps : List Packet) (told : List Told) (change : World → World) (w : World) → Every Still told → Asked c w → Asked c (happened n ps told change w)
still_asked c n ps told change w h g = happened_asked c n ps told change w (λ r k. onto_asked c n told w.trace h k) g

-- what is written is asked, where other laws give its record
abbrev WritesSo : Config → World → Option DiskWrite → Type 0
WritesSo c w o = (d : DiskWrite) → o ≡ Some d → IsRest c w.trace → RestTold c w.trace (Shown d.says) → IsAskedFor c (entries w.trace) d.says

first_told : (c : Config) (n : ℕ) (w : World) (d : DiskWrite) (rest : List Told) → Every Still rest → (IsRest c w.trace → RestTold c w.trace (Shown d.says) → IsAskedFor c (entries w.trace) d.says) →
    IsRest c (told_onto n (Shown d.says ∷ rest) w.trace) → CommitsAreAsked c (entries w.trace) → CommitsAreAsked c (entries (told_onto n (Shown d.says ∷ rest) w.trace))
first_told c n w d rest still asked r g =
    onto_asked c n rest (record { number = n; told = Shown d.says } ∷ w.trace) still (asked (rest_before c n (Shown d.says ∷ rest) w.trace r) (rest_told c n (Shown d.says ∷ rest) w.trace r).0, g)

acts_asked : (c : Config) (n s : ℕ) (v : SiteView) (o : Outcome SiteView) (w : World) → DiskFirst s o.told o.written → WritesSo c w o.written → Asked c w → Asked c (acts n s v o w)
acts_asked c n s v o w first asked g = acts_cases (Asked c) n s v o w (runs _) (λ a. runs _) cut
  where
    onto : DiskFirst s o.told o.written → IsRest c (told_onto n o.told w.trace) → CommitsAreAsked c (entries w.trace) → CommitsAreAsked c (entries (told_onto n o.told w.trace))
    onto (inl u) r k = onto_asked c n o.told w.trace u.1 k
    onto (inr (d, wr)) r k = subst (λ (xs : List Told). IsRest c (told_onto n xs w.trace) → CommitsAreAsked c (entries (told_onto n xs w.trace))) (sym wr.told_is) (λ q. first_told c n w d wr.rest wr.still (asked d wr.is_written) q k) r

    runs : (change : World → World) → Asked c (happened n o.sent o.told change w)
    runs change = happened_asked c n o.sent o.told change w (onto first) g

    cut : (d : DiskWrite) (a : Armed) → o.written ≡ Some d → Asked c (cut_event n s v d a w)
    cut d a e = elim (is_on_disk v.store d a.how a.left) as (λ b. Asked c (happened n [] (cond b (Shown d.says ∷ Shown (says.Stopped s (cause_of a.how)) ∷ []) (Shown (says.Stopped s (cause_of a.how)) ∷ [])) (stops_with s (cut_disk v.boot v.store d a.how a.left)) w)) [
      | true ↦ happened_asked c n [] (Shown d.says ∷ Shown (says.Stopped s (cause_of a.how)) ∷ []) _ w (first_told c n w d (Shown (says.Stopped s (cause_of a.how)) ∷ []) (tt, tt) (asked d e)) g
      | false ↦ still_asked c n [] (Shown (says.Stopped s (cause_of a.how)) ∷ []) _ w (tt, tt) g
    ]

boots_asked : (c : Config) (n s : ℕ) (b : Booted) (w : World) → Asked c w → Asked c (boots_as n s b w)
boots_asked c n s (Whole d a) w g = still_asked c n [] (Shown (says.Up s d.label.boot) ∷ []) _ w (tt, tt) g
boots_asked c n s (CutOff d how) w g = still_asked c n [] (Shown (says.Stopped s (cause_of how)) ∷ []) _ w (tt, tt) g

-- ---- all lines ----

record AskedSo (c : Config) (w : World) : Type 0 where
  holds : Holds c w
  asked : Asked c w

does_asked : (c : Config) → RolesDo c → (n s : ℕ) (e : Event) (v : SiteView) (w : World) → place_at w s ≡ Some (Running v) → (Past c w.trace → EventFact c w.trace s v e) → Holds c w → Asked c w → Asked c (acts n s v (step c s (links_of w s) v e) w)
does_asked c roles n s e v w here fact holds g = acts_asked c n s v (step c s (links_of w s) v e) w (step_writes_first c s (links_of w s) v e) writes g
  where
    writes : WritesSo c w (step c s (links_of w s) v e).written
    writes d is rest fresh =
        let f : WorldFact c w = holds rest in
        let past : Past c w.trace = record { followed = f.followed; rest = rest } in
        record_asked c w.trace d.says (step_writes c roles n s (links_of w s) w.trace v e past (f.places s (Running v) here) (fact past) d is fresh).may
        (step_asked c w.trace s (links_of w s) v e past (f.places s (Running v) here) (fact past) d is)

asked_kept : (c : Config) (lines : List ScheduleLine) → LinesFit c lines → RolesDo c → KeptIn c lines (λ n w. AskedSo c w)
asked_kept c lines fit roles = record {
  begins = λ n w there quiet p. p;
  ticks = λ n most s v w is here p. record { holds = held.ticks n most s v w is here p.holds; asked = does_asked c roles n s Ticks v w here (λ past. tt) p.holds p.asked };
  receives = λ n l x v w is d here sent p. record {
    holds = held.receives n l x v w is d here sent p.holds;
    asked = does_asked c roles n x.packet.to (Receives x.packet) v (passed x.number w) here (λ past. (refl, arrives_fact c w x v (p.holds past.rest) sent here)) (held.passes n x.number w p.holds) p.asked;
  };
  passes = λ n k w p. record { holds = held.passes n k w p.holds; asked = p.asked };
  drops = λ n k w p. record { holds = held.drops n k w p.holds; asked = p.asked };
  budgets = λ n most w is p. record { holds = held.budgets n most w is p.holds; asked = still_asked c n [] (Shown says.Budget ∷ []) _ w (tt, tt) p.asked };
  voiding = λ n l w there is void p. record { holds = held.voiding n l w there is void p.holds; asked = still_asked c (n + 1) [] (Shown says.Void ∷ []) _ w (tt, tt) p.asked };
  steps = λ n s l e v w there is g here p. record { holds = held.steps n s l e v w there is g here p.holds; asked = does_asked c roles (n + 1) s e v w here (λ past. event_fact c lines (n + 1) s l e v w fit is g here) p.holds p.asked };
  cutting = λ n one other w there is cut p. record { holds = held.cutting n one other w there is cut p.holds; asked = p.asked };
  mending = λ n one other w there is cut p. record { holds = held.mending n one other w there is cut p.holds; asked = p.asked };
  arming = λ n l a w there is so p. record { holds = held.arming n l a w there is so p.holds; asked = p.asked };
  pending = λ n w there is p. record { holds = held.pending n w there is p.holds; asked = still_asked c (n + 1) [] (map packet_record w.underway) _ w (every_map Still packet_record w.underway (λ (x : Numbered). tt)) p.asked };
  stopping = λ n s v w there is here p. record { holds = held.stopping n s v w there is here p.holds; asked = still_asked c (n + 1) [] _ _ w (tt, tt) p.asked };
  booting = λ n s d w there is here p. record { holds = held.booting n s d w there is here p.holds; asked = boots_asked c (n + 1) s (boots (script_of w s) d) w p.asked };
}
  where
    held : KeptIn c lines (λ n w. Holds c w)
    held = kept c lines fit roles (stays c)

-- ---- every run ----

pub commits_asked : (lines : List ScheduleLine) → AreInOrder lines → CommitsAreAsked (config_of lines) (trace_of (run lines))
commits_asked lines order = subst (CommitsAreAsked c) (sym (shown_entries (run lines).trace)) (all.asked (schedule_rests lines order))
  where
    c : Config
    c = config_of lines

    all : AskedSo c (run_in c lines)
    all = every_line c lines (λ n w. AskedSo c w) (asked_kept c lines (schedule_fits lines order) (roles_do c (few_groups lines))) (record { holds = first_holds c (roles_do c (few_groups lines)); asked = λ r. tt })
