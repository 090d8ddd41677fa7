-- By the rows of a trace, and what lines ask and who boots, stops and joins, each record speaks of what is.
use Rattle.std.proofs.Common.{◌≡◌, ℕ, ◌≤◌, ◌==◌, nat_lt, arith, Bool, true, false, cond, not, ◌&&◌, List, [], ◌∷◌, Option, None, Some, refl, sym, ◌∙◌, ap, subst, ◌⊎◌, inl, inr}
use Rattle.std.specs.List.{list_any}
use Rattle.role_steps.proofs.of_plain_facts.Numbers.{equal}
use Rattle.role_steps.proofs.of_plain_facts.Options.{none_some, some_same}
use Rattle.role_steps.proofs.of_plain_facts.Tests.{and_first, both_true, or_either, true_false}
use Rattle.locus_ids.specs.declared.config.Config.{Config}
use Rattle.locus_ids.specs.declared.ids.CallId.{CallId}
use Rattle.locus_ids.specs.declared.ids.EpochId.{EpochId}
use Rattle.locus_ids.specs.declared.ids.Stamp.{Stamp}
use Rattle.locus_ids.specs.declared.sites.Members.{Members}
use Rattle.trace_book.specs.Same.{same_call, same_epoch}
use Rattle.trace_book.specs.declared.call.Call.{Call}
use Rattle.trace_book.specs.declared.call.Call.TheVariants as call
use Rattle.trace_book.specs.declared.record.Record.{Record}
use Rattle.trace_book.specs.declared.record.Record.TheVariants as says
use Rattle.call_rules.specs.of_commit_graph.Vectors.{numbers_from}
use Rattle.schedule_lines.specs.Ranges.{fits_call, fits_event, is_between, is_site}
use Rattle.schedule_lines.specs.declared.line.Line.{Line as LineWords}
use Rattle.schedule_lines.specs.declared.line.Line.TheVariants as line
use Rattle.schedule_lines.specs.declared.line.ScheduleLine.{ScheduleLine}
use Rattle.schedule_lines.specs.declared.line.ScheduleLine.TheVariants.{Passed, Header, Event}
use Rattle.role_steps.specs.Own.{Every}
use Rattle.role_steps.specs.Views.{boot_in as role_boot_in}
use Rattle.tree_model.specs.Calls.{accepted_as, call_named, waiting}
use Rattle.tree_model.specs.Epochs.{boot_of, epoch_of, has_joined, members_of}
use Rattle.tree_model.specs.Folds.{Trace, before_line}
use Rattle.tree_model.specs.Packs.{boot_in, sync_site}
use Rattle.tree_model.specs.declared.accepted.Waiting.{Waiting}
use Rattle.lawful_trace.specs.CallRows.{CallLine, CallRow, is_this, next_call}
use Rattle.lawful_trace.specs.Lawful.{MayCome}
use Rattle.lawful_trace.specs.Places.{initiator, line_at, starts_at}
use Rattle.lawful_trace.specs.SiteRows as rows
use Rattle.lawful_trace.specs.SiteRows.{starts_in}
use Rattle.lawful_trace.specs.TreeRows.{IsCallIn, has_joined_some}
use Rattle.tree_laws.proofs.Boots.{every_both, every_filter, found_every}
use Rattle.tree_laws.proofs.Names.{same_call_eq, same_epoch_eq}
use Rattle.row_laws.specs.Rows.{AskedRecord}
use Rattle.row_laws.specs.Shown.{EachRecord}
use Rattle.row_laws.specs.Voids.{LinesFit}
use Rattle.tree_laws.proofs.Syncs.Members.{table_boot}
use Rattle.headline_laws.specs.Prompting.Speaks.{HasHad, IsCaller, IsEpoch, IsOfProcess, IsSite, RecordSpeaks, SpeaksOfWhatIs}
use Rattle.headline_laws.proofs.Prompting.BaseRun.{BaseRecord}
use Rattle.headline_laws.proofs.Prompting.MembersRun.{Rises, WasTold, rises_record}

-- ---- what is known of each record ----

pub record Row (c : Config) (lines : List ScheduleLine) (n : ℕ) (b : Trace) (r : Record) : Type 0 where
  pub may : MayCome c b r
  pub base : BaseRecord c b r
  pub asked : AskedRecord lines n b r

abbrev pub Rows : Config → List ScheduleLine → Trace → Type 0
Rows c lines [] = Unit {0}
Rows c lines (r ∷ b) = Row c lines r.line b r.what × Rows c lines b

-- ---- boots ----

rows_before : (c : Config) (lines : List ScheduleLine) (b : Trace) (m : ℕ) → Rows c lines b → Rows c lines (before_line b m) × Rises (before_line b m) b
rows_before c lines [] m k = (tt, λ u. omega arith)
rows_before c lines (r ∷ b) m k = over (nat_lt r.line m) (rows_before c lines b m k.1)
  where
    over : (z : Bool) → Rows c lines (before_line b m) × Rises (before_line b m) b → Rows c lines (cond z (r ∷ b) (before_line b m)) × Rises (cond z (r ∷ b) (before_line b m)) (r ∷ b)
    over true l = (k, λ u. omega arith)
    over false l = (l.0, λ u. (let a : boot_of (before_line b m) u ≤ boot_of b u = l.1 u in let d : boot_of b u ≤ boot_of (r ∷ b) u = rises_record c r.line r.what b k.0.may u in omega (arith, a, d)))

-- boot numbers begin at 1
boots_begin : (c : Config) (lines : List ScheduleLine) (b : Trace) → Rows c lines b → (s : ℕ) → 1 ≤ boot_of b s
boots_begin c lines [] k s = omega arith
boots_begin c lines (r ∷ b) k s =
    let a : 1 ≤ boot_of b s = boots_begin c lines b k.1 s in
    let d : boot_of b s ≤ boot_of (r ∷ b) s = rises_record c r.line r.what b k.0.may s in
    omega (arith, a, d)

module _ (c : Config) (b now : Trace) (up : Rises b now) where
  pub had_later : (s boot : ℕ) → HasHad c b s boot → HasHad c now s boot
  had_later s boot k = record { there = k.there; from = k.from; to = (let a : boot ≤ boot_of b s = k.to in let d : boot_of b s ≤ boot_of now s = up s in omega (arith, a, d)) }

  caller_later : (d : CallId) → IsCaller c b d → IsCaller c now d
  caller_later d k = record { boot = had_later d.site d.boot k.boot; number = k.number }

-- ---- by lines ----

-- a site that starts to part or to merge by a line is of the cluster
starter_site : (c : Config) (lines : List ScheduleLine) (m s : ℕ) (before : Trace) → LinesFit c lines → rows.is_site (initiator lines before m) s ≡ true → IsSite c s
starter_site c lines m s before fit e = over (line_at lines m) refl e
  where
    same : (t : ℕ) → is_site c.sites t ≡ true → (z : Bool) → rows.is_site (cond z (Some t) None) s ≡ true → IsSite c s
    same t own true q = subst (λ (u : ℕ). is_site c.sites u ≡ true) (equal t s q) own
    same t own false q = absurd (true_false (sym q))

    event : (l : LineWords) → line_at lines m ≡ Event l → rows.is_site (starts_at c (Event l) (before_line before m)) s ≡ true → IsSite c s
    event (line.Part t) at q = same t (fit m (line.Part t) at) _ q
    event (line.Merge t) at q = same t (fit m (line.Merge t) at) _ q
    event _ at q = absurd (true_false (sym q))

    over : (l : ScheduleLine) → line_at lines m ≡ l → rows.is_site (starts_at c l (before_line before m)) s ≡ true → IsSite c s
    over Passed at q = absurd (true_false (sym q))
    over (Header h) at q = absurd (true_false (sym q))
    over (Event l) at q = event l at q

some_passes : (p : ℕ → Bool) (xs : List ℕ) → list_any p xs ≡ true → (x : ℕ) × (p x ≡ true)
some_passes p [] e = absurd (true_false (sym e))
some_passes p (x ∷ xs) e = over (or_either (p x) (list_any p xs) e) (some_passes p xs)
  where
    over : (p x ≡ true) ⊎ (list_any p xs ≡ true) → (list_any p xs ≡ true → (y : ℕ) × (p y ≡ true)) → (y : ℕ) × (p y ≡ true)
    over (inl q) later = (x, q)
    over (inr q) later = later q

asked_epoch : (c : Config) (lines : List ScheduleLine) (n : ℕ) (b : Trace) (e : EpochId) → LinesFit c lines → Rows c lines b → rows.is_asked_for lines b n e ≡ true → IsEpoch c b e
asked_epoch c lines n b e fit k asked = over (some_passes (λ m. starts_in lines b m e.site e.boot) (numbers_from 1 n) asked)
  where
    over : (m : ℕ) × (starts_in lines b m e.site e.boot ≡ true) → IsEpoch c b e
    over z =
        let two : (rows.is_site (initiator lines b z.0) e.site ≡ true) × ((boot_of (before_line b z.0) e.site == e.boot) ≡ true) = both_true _ _ z.1 in
        let is : boot_of (before_line b z.0) e.site ≡ e.boot = equal (boot_of (before_line b z.0) e.site) e.boot two.1 in
        let old : Rows c lines (before_line b z.0) × Rises (before_line b z.0) b = rows_before c lines b z.0 k in
        let low : 1 ≤ boot_of (before_line b z.0) e.site = boots_begin c lines (before_line b z.0) old.0 e.site in
        let up : boot_of (before_line b z.0) e.site ≤ boot_of b e.site = old.1 e.site in
        record { there = starter_site c lines z.0 e.site b fit two.0; from = omega (arith, is, low); to = omega (arith, is, up) }

-- ---- what the records so far tell of sites, epochs and calls ----

pub record Known (c : Config) (b : Trace) : Type 0 where
  pub inside : (s : ℕ) (e : EpochId) → epoch_of b s ≡ Some e → IsSite c s × IsEpoch c b e
  pub listed : (e : EpochId) (m : Members) → members_of b e ≡ Some m → IsEpoch c b e
  pub joined : (s : ℕ) (e : EpochId) → has_joined b s e ≡ true → IsSite c s
  pub named : (d : CallId) (w : Waiting) → call_named b d ≡ Some w → IsCaller c b d × ((e : EpochId) → w.epoch ≡ Some e → IsEpoch c b e)
  pub waits : Every (λ (w : Waiting). IsSite c w.site × IsCaller c b w.call) (waiting b)

none_known : (c : Config) → Known c []
none_known c = record {
  inside = λ s e q. absurd (none_some e q);
  listed = λ e m q. absurd (none_some m q);
  joined = λ s e q. absurd (true_false (sym q));
  named = λ d w q. absurd (none_some w q);
  waits = tt;
}

module _ (c : Config) (lines : List ScheduleLine) (fit : LinesFit c lines) (n : ℕ) (b : Trace) (all : Rows c lines b) (k : Known c b) where
  -- ---- each record ----

  in_epoch : (e : EpochId) (d : CallId) → IsCallIn b e d → IsEpoch c b e × IsCaller c b d
  in_epoch e d step = (let own : IsCaller c b d × ((x : EpochId) → step.accepted.epoch ≡ Some x → IsEpoch c b x) = k.named d step.accepted step.named in (own.1 e step.made_in, own.0))

  served_epoch : (e : EpochId) (g : ℕ) → has_joined_some b e (sync_site c g (members_of b e)) ≡ true → IsEpoch c b e
  served_epoch e g q = over (members_of b e) refl q
    where
      over : (o : Option Members) → members_of b e ≡ o → has_joined_some b e (sync_site c g o) ≡ true → IsEpoch c b e
      over None z q = absurd (true_false (sym q))
      over (Some m) z q = k.listed e m z

  next_caller : (s : ℕ) (d : CallId) → IsSite c s → d ≡ next_call b s → IsCaller c b d
  next_caller s d there e = subst (IsCaller c b) (sym e) (record { boot = record { there = there; from = boots_begin c lines b all s; to = omega arith }; number = omega arith })

  three : (x y z : Bool) → (x && y && z) ≡ true → (x ≡ true) × (y ≡ true) × (z ≡ true)
  three true true true e = (refl, refl, refl)
  three true true false e = absurd (true_false (sym e))
  three true false z e = absurd (true_false (sym e))
  three false y z e = absurd (true_false (sym e))

  accepts : (s process : ℕ) (d : CallId) (words : Call) → CallRow c b s process d words → CallLine lines n s process words → IsSite c s × IsCaller c b d × IsOfProcess c process words
  accepts s process d (call.Mend file) may asked = (let there : IsSite c s = (k.inside s may.epoch may.inside).0 in (there, next_caller s d there may.numbered, may.system))
  accepts s process d words may asked = plain (fit n (line.Call s process words) asked.asked) may.numbered
    where
      plain : fits_event c.sites (line.Call s process words) ≡ true → d ≡ next_call b s → IsSite c s × IsCaller c b d × ((is_between 1 8 process ≡ true) × (fits_call c.sites words ≡ true))
      plain e numbered = (let z : (is_site c.sites s ≡ true) × (is_between 1 8 process ≡ true) × (fits_call c.sites words ≡ true) = three (is_site c.sites s) (is_between 1 8 process) (fits_call c.sites words) e in (z.0, next_caller s d z.0 numbered, (z.1, z.2)))

  pub speaks : (r : Record) → Row c lines n b r → RecordSpeaks c b r
  speaks (says.Up s boot) w = w.base
  speaks (says.Stopped s cause) w = w.base
  speaks (says.Leave s e) w = k.inside s e w.may.inside
  speaks (says.Join s e m) w = (w.base.0, asked_epoch c lines n b e fit all w.asked.asked, member)
    where
      member : (t : ℕ) → 1 ≤ boot_in m t → HasHad c b t (boot_in m t)
      member t le = subst (HasHad c b t) (table_boot m t) (record { there = (told le2).0; from = le2; to = (told le2).1 })
        where
          le2 : 1 ≤ role_boot_in m.boot t
          le2 = subst (λ (x : ℕ). 1 ≤ x) (sym (table_boot m t)) le

          told : WasTold c b t (role_boot_in m.boot t)
          told = w.base.1 t
  speaks (says.Start e g copies) w = served_epoch e g w.may.served
  speaks (says.Accept s process d words) w = accepts s process d words w.may w.asked
  speaks (says.Look e d request f what result) w = in_epoch e d w.may.step
  speaks (says.Grant e d request i m f stamp ss) w = (let own : IsEpoch c b e × IsCaller c b d = in_epoch e d w.may.opens.step in (own.0, own.1, k.joined ss e w.may.there))
  speaks (says.Refuse e d request i m f why) w = in_epoch e d w.may.opens.step
  speaks (says.Act e i j o result) w = (in_epoch e w.may.step.call w.may.step.step).0
  speaks (says.Commit f s stamp parents content) w = ((k.inside s w.may.epoch w.may.inside).0, ap (λ (x : Stamp). x.site) w.may.numbered)
  speaks (says.Release e i f stamp) w = (in_epoch e w.may.step.call w.may.step.step).0
  speaks (says.Adopt f s stamp) w = (k.inside s w.may.epoch w.may.inside).0
  speaks (says.Answer s process d r) w = answered
    where
      answered : IsSite c s × IsCaller c b d
      answered =
          let own : (IsSite c w.may.caller.site × IsCaller c b w.may.caller.call) × (is_this s process d w.may.caller ≡ true) = found_every (λ (x : Waiting). IsSite c x.site × IsCaller c b x.call) (is_this s process d) (waiting b) w.may.caller w.may.waits k.waits in
          let is : ((w.may.caller.site == s) ≡ true) × ((w.may.caller.process == process) ≡ true) × (same_call w.may.caller.call d ≡ true) = three (w.may.caller.site == s) (w.may.caller.process == process) (same_call w.may.caller.call d) own.1 in
          (subst (IsSite c) (equal w.may.caller.site s is.0) own.0.0, subst (IsCaller c b) (same_call_eq w.may.caller.call d is.2) own.0.1)
  speaks _ w = tt

  -- ---- with one record more ----

  module _ (r : Record) (w : Row c lines n b r) where
    abbrev now : Trace
    now = record { line = n; what = r } ∷ b

    up : Rises b now
    up = rises_record c n r b w.may

    later_epoch : (e : EpochId) → IsEpoch c b e → IsEpoch c now e
    later_epoch e h = had_later c b now up e.site e.boot h

    inside_old : (s : ℕ) (e : EpochId) → epoch_of b s ≡ Some e → IsSite c s × IsEpoch c now e
    inside_old s e q = (let h : IsSite c s × IsEpoch c b e = k.inside s e q in (h.0, later_epoch e h.1))

    none_now : (z : Bool) (s : ℕ) (e : EpochId) → cond z None (epoch_of b s) ≡ Some e → IsSite c s × IsEpoch c now e
    none_now true s e q = absurd (none_some e q)
    none_now false s e q = inside_old s e q

  inside_now : (r : Record) (w : Row c lines n b r) (s : ℕ) (e : EpochId) → epoch_of (record { line = n; what = r } ∷ b) s ≡ Some e → IsSite c s × IsEpoch c (record { line = n; what = r } ∷ b) e
  inside_now (says.Join t i m) w s e q = over (t == s) refl q
    where
      over : (z : Bool) → (t == s) ≡ z → cond z (Some i) (epoch_of b s) ≡ Some e → IsSite c s × IsEpoch c (record { line = n; what = says.Join t i m } ∷ b) e
      over true y q = (subst (IsSite c) (equal t s y) w.base.0, subst (IsEpoch c (record { line = n; what = says.Join t i m } ∷ b)) (some_same i e q) (later_epoch (says.Join t i m) w i (asked_epoch c lines n b i fit all w.asked.asked)))
      over false y q = inside_old (says.Join t i m) w s e q
  inside_now (says.Leave t i) w s e q = none_now (says.Leave t i) w (t == s) s e q
  inside_now (says.Stopped t why) w s e q = none_now (says.Stopped t why) w (t == s) s e q
  inside_now (says.Up t boot) w s e q = none_now (says.Up t boot) w (t == s) s e q
  inside_now r w s e q = inside_old r w s e q

  listed_now : (r : Record) (w : Row c lines n b r) (e : EpochId) (m : Members) → members_of (record { line = n; what = r } ∷ b) e ≡ Some m → IsEpoch c (record { line = n; what = r } ∷ b) e
  listed_now (says.Join t i o) w e m q = over (same_epoch i e) refl q
    where
      over : (z : Bool) → same_epoch i e ≡ z → cond z (Some o) (members_of b e) ≡ Some m → IsEpoch c (record { line = n; what = says.Join t i o } ∷ b) e
      over true y q = subst (IsEpoch c (record { line = n; what = says.Join t i o } ∷ b)) (same_epoch_eq i e y) (later_epoch (says.Join t i o) w i (asked_epoch c lines n b i fit all w.asked.asked))
      over false y q = later_epoch (says.Join t i o) w e (k.listed e m q)
  listed_now r w e m q = later_epoch r w e (k.listed e m q)

  joined_now : (r : Record) (w : Row c lines n b r) (s : ℕ) (e : EpochId) → has_joined (record { line = n; what = r } ∷ b) s e ≡ true → IsSite c s
  joined_now (says.Join t i m) w s e q = over (or_either ((t == s) && same_epoch i e) (has_joined b s e) q)
    where
      over : (((t == s) && same_epoch i e) ≡ true) ⊎ (has_joined b s e ≡ true) → IsSite c s
      over (inl y) = subst (IsSite c) (equal t s (and_first (t == s) (same_epoch i e) y)) w.base.0
      over (inr y) = k.joined s e y
  joined_now r w s e q = k.joined s e q

  named_now : (r : Record) (w : Row c lines n b r) (d : CallId) (x : Waiting) → call_named (record { line = n; what = r } ∷ b) d ≡ Some x → IsCaller c (record { line = n; what = r } ∷ b) d × ((e : EpochId) → x.epoch ≡ Some e → IsEpoch c (record { line = n; what = r } ∷ b) e)
  named_now (says.Accept s process i words) w d x q = over (same_call i d) refl q
    where
      over : (z : Bool) → same_call i d ≡ z → cond z (Some (accepted_as b s process i words)) (call_named b d) ≡ Some x → IsCaller c (record { line = n; what = says.Accept s process i words } ∷ b) d × ((e : EpochId) → x.epoch ≡ Some e → IsEpoch c (record { line = n; what = says.Accept s process i words } ∷ b) e)
      over true y q = (
        subst (IsCaller c (record { line = n; what = says.Accept s process i words } ∷ b)) (same_call_eq i d y) (caller_later c b (record { line = n; what = says.Accept s process i words } ∷ b) (up (says.Accept s process i words) w) i (accepts s process i words w.may w.asked).1),
        λ e made. (inside_old (says.Accept s process i words) w s e (ap (λ (v : Waiting). v.epoch) (some_same (accepted_as b s process i words) x q) ∙ made)).1,
      )
      over false y q = (let h : IsCaller c b d × ((e : EpochId) → x.epoch ≡ Some e → IsEpoch c b e) = k.named d x q in (caller_later c b (record { line = n; what = says.Accept s process i words } ∷ b) (up (says.Accept s process i words) w) d h.0, λ e made. later_epoch (says.Accept s process i words) w e (h.1 e made)))
  named_now r w d x q = (let h : IsCaller c b d × ((e : EpochId) → x.epoch ≡ Some e → IsEpoch c b e) = k.named d x q in (caller_later c b (record { line = n; what = r } ∷ b) (up r w) d h.0, λ e made. later_epoch r w e (h.1 e made)))

  waits_old : (r : Record) (w : Row c lines n b r) → Every (λ (x : Waiting). IsSite c x.site × IsCaller c (record { line = n; what = r } ∷ b) x.call) (waiting b)
  waits_old r w = every_both (λ (x : Waiting). IsSite c x.site × IsCaller c b x.call) (λ (x : Waiting). IsSite c x.site × IsCaller c (record { line = n; what = r } ∷ b) x.call) (waiting b) (λ x h. (h.0, caller_later c b (record { line = n; what = r } ∷ b) (up r w) x.call h.1)) k.waits

  waits_now : (r : Record) (w : Row c lines n b r) → Every (λ (x : Waiting). IsSite c x.site × IsCaller c (record { line = n; what = r } ∷ b) x.call) (waiting (record { line = n; what = r } ∷ b))
  waits_now (says.Accept s process i words) w = (let own : IsSite c s × IsCaller c b i × IsOfProcess c process words = accepts s process i words w.may w.asked in ((own.0, caller_later c b (record { line = n; what = says.Accept s process i words } ∷ b) (up (says.Accept s process i words) w) i own.1), waits_old (says.Accept s process i words) w))
  waits_now (says.Answer s process d r) w = every_filter _ (λ (x : Waiting). not (same_call x.call d)) (waiting b) (waits_old (says.Answer s process d r) w)
  waits_now (says.Stopped s why) w = every_filter _ (λ (x : Waiting). not (x.site == s)) (waiting b) (waits_old (says.Stopped s why) w)
  waits_now r w = waits_old r w

  pub known_more : (r : Record) → Row c lines n b r → Known c (record { line = n; what = r } ∷ b)
  known_more r w = record { inside = inside_now r w; listed = listed_now r w; joined = joined_now r w; named = named_now r w; waits = waits_now r w }

-- ---- all records ----

pub rows_speak : (c : Config) (lines : List ScheduleLine) (b : Trace) → LinesFit c lines → Rows c lines b → EachRecord (SpeaksOfWhatIs c) b × Known c b
rows_speak c lines [] fit k = (tt, none_known c)
rows_speak c lines (r ∷ b) fit k = (let old : EachRecord (SpeaksOfWhatIs c) b × Known c b = rows_speak c lines b fit k.1 in ((speaks c lines fit r.line b k.1 old.1 r.what k.0, old.0), known_more c lines fit r.line b k.1 old.1 r.what k.0))
