-- What was granted to a call last, and its version; and of a read that opens its version again: each instance that it was answered was granted to
-- read the file of that, with the stamp that the answer tells.
use Rattle.std.proofs.Common.{◌≡◌, ℕ, ◌-◌, Bool, true, false, cond, List, [], ◌∷◌, ◌++◌, Option, Some, None, refl, sym, ◌∙◌, ap, subst, take, ◌⊎◌, inl, inr}
use Rattle.plain_facts.proofs.Options.{none_some, some_same}
use Rattle.plain_facts.proofs.Tests.{true_false}
use Rattle.locus_ids.specs.declared.config.Config.{Config}
use Rattle.locus_ids.specs.declared.ids.CallId.{CallId}
use Rattle.locus_ids.specs.declared.ids.EpochId.{EpochId}
use Rattle.locus_ids.specs.declared.ids.FileId.{FileId}
use Rattle.locus_ids.specs.declared.ids.Mode.{Mode}
use Rattle.locus_ids.specs.declared.ids.Mode.TheVariants as mode
use Rattle.locus_ids.specs.declared.ids.Serial.{Serial}
use Rattle.locus_ids.specs.declared.ids.Stamp.{Stamp}
use Rattle.locus_ids.specs.declared.refusal.Refusal.TheVariants as refusal
use Rattle.trace_book.specs.Same.{same_call}
use Rattle.trace_book.specs.declared.call.Call.TheVariants as call
use Rattle.trace_book.specs.declared.call.OpenMode.{OpenMode}
use Rattle.trace_book.specs.declared.call.OpenMode.TheVariants as opens
use Rattle.trace_book.specs.declared.descriptor.Beginning.TheVariants as begins
use Rattle.trace_book.specs.declared.descriptor.Descriptor.{Descriptor}
use Rattle.trace_book.specs.declared.descriptor.OneVersion.{OneVersion}
use Rattle.trace_book.specs.declared.operation.Outcome.{Outcome}
use Rattle.trace_book.specs.declared.operation.Outcome.TheVariants as outcome
use Rattle.trace_book.specs.declared.record.Record.{Record}
use Rattle.trace_book.specs.declared.record.Record.TheVariants as says
use Rattle.call_rules.specs.declared.answer.Answer.{Answer}
use Rattle.call_rules.specs.declared.answer.Answer.TheVariants as answer
use Rattle.call_rules.specs.declared.want.Want.{Want}
use Rattle.call_rules.specs.declared.want.Want.TheVariants as want
use Rattle.call_rules.specs.Descriptors.{lowest_free}
use Rattle.call_rules.specs.Scripts.{wants}
use Rattle.role_steps.specs.Own.{Every}
use Rattle.role_steps.specs.Using.{last_version}
use Rattle.role_steps.specs.Views.{Told, Shown}
use Rattle.the_run.specs.Worlds.{Line}
use Rattle.tree_model.specs.declared.accepted.Waiting.{Waiting}
use Rattle.tree_model.specs.declared.instance.Instance.{Instance}
use Rattle.tree_model.specs.Calls.{call_named, opening_of, version_at, version_of}
use Rattle.tree_model.specs.Folds.{Trace}
use Rattle.tree_model.specs.Given.{gives_grant}
use Rattle.tree_model.specs.Histories.{history}
use Rattle.tree_model.specs.State.{instance_in}
use Rattle.tree_model.specs.Tree.{kept_in, tree_of}
use Rattle.lawful_trace.specs.Progress.{Answers, answers, answers_after, close_answer, granted_answer, is_packed_in, look_answer, outcome_answer, wants_after, wants_next}
use Rattle.lawful_trace.specs.Tables.{begun, call_of_act, call_of_release, descriptor, is_call}
use Rattle.lawful_trace.specs.TreeRows.{MayGrant, is_open_of}
use Rattle.tree_laws.specs.Following.{IsFollowed, MayTell}
use Rattle.tree_laws.specs.Past.{WasGranted}
use Rattle.tree_laws.specs.Printed.{entries, onto_entries}
use Rattle.tree_laws.proofs.Asking.{StepRecord, heard_record}
use Rattle.tree_laws.proofs.Awaiting.{named_before}
use Rattle.tree_laws.proofs.Fresh.{IsNamed, calls_are_low, next_is_new, numbered}
use Rattle.tree_laws.proofs.Names.{same_call_eq}
use Rattle.tree_laws.proofs.Owing.{every_added}
use Rattle.tree_laws.proofs.Scripts.{begun_stays, named_stays}
use Rattle.tree_laws.proofs.Orders.Standing.{same_file_eq}
use Rattle.rest_laws.proofs.StoreStepAsking.{step_named}
use Rattle.calm_laws.proofs.of_store_laws.ScriptReopening.{OpensKept, read_kept}
use Rattle.calm_laws.proofs.of_store_laws.Users.OpenGrants.{tells_version}
use Rattle.headline_laws.proofs.OneVersion.Asks.{AsRead, read_asks, read_wants}

abbrev With : ℕ → Told → List Line → List Line
With n x older = record { number = n; told = x } ∷ older

-- ---- the last grant ----

-- the last instance that was granted to the call, and the version with which it was
pub record LastGrant (t : List Line) (d : CallId) (x : Descriptor) : Type 0 where
  pub request : ℕ
  pub file : FileId
  pub stamp : Option Stamp
  pub place : ℕ
  pub was_granted : WasGranted t x.epoch d request x.inst x.mode file stamp place
  pub version_is : version_of (entries t) d ≡ version_at file stamp

granted_last : (n : ℕ) (r : Record) (older : List Line) (d : CallId) → ((x : Descriptor) → opening_of (entries older) d ≡ Some x → LastGrant older d x) → (x : Descriptor) → opening_of (entries (With n (Shown r) older)) d ≡ Some x → LastGrant (With n (Shown r) older) d x
granted_last n (says.Grant at who request i m f stamp ss) older d before x is = over (same_call who d) refl is refl
  where
    made : Descriptor
    made = record { mode = m; epoch = at; inst = i; steady = None }

    over : (b : Bool) → same_call who d ≡ b → cond b (Some made) (opening_of (entries older) d) ≡ Some x → version_of (entries (With n (Shown (says.Grant at who request i m f stamp ss)) older)) d ≡ cond (same_call who d) (version_at f stamp) (version_of (entries older) d) → LastGrant (With n (Shown (says.Grant at who request i m f stamp ss)) older) d x
    over true q k v = (let same : made ≡ x = some_same made x k in record {
      request = request;
      file = f;
      stamp = stamp;
      place = ss;
      was_granted = inl (record { epoch_is = ap (λ (y : Descriptor). y.epoch) same; call_is = same_call_eq who d q; request_is = refl; serial_is = ap (λ (y : Descriptor). y.inst) same; mode_is = ap (λ (y : Descriptor). y.mode) same; file_is = refl; stamp_is = refl; place_is = refl });
      version_is = v ∙ ap (λ (b : Bool). cond b (version_at f stamp) (version_of (entries older) d)) q;
    })
    over false q k v = (let was : LastGrant older d x = before x k in record {
      request = was.request;
      file = was.file;
      stamp = was.stamp;
      place = was.place;
      was_granted = inr was.was_granted;
      version_is = v ∙ (ap (λ (b : Bool). cond b (version_at f stamp) (version_of (entries older) d)) q ∙ was.version_is);
    })
granted_last n r older d before x is = (let was : LastGrant older d x = before x is in record { request = was.request; file = was.file; stamp = was.stamp; place = was.place; was_granted = inr was.was_granted; version_is = was.version_is })

pub last_grant : (t : List Line) (d : CallId) (x : Descriptor) → opening_of (entries t) d ≡ Some x → LastGrant t d x
last_grant [] d x is = absurd (none_some x is)
last_grant (y ∷ older) d x is = over y.told (λ z k. last_grant older d z k) is
  where
    over : (z : Told) → ((v : Descriptor) → opening_of (entries older) d ≡ Some v → LastGrant older d v) → opening_of (onto_entries y.number z (entries older)) d ≡ Some x → LastGrant (With y.number z older) d x
    over (Shown r) before k = granted_last y.number r older d before x k
    over z before k = (let was : LastGrant older d x = before x k in record { request = was.request; file = was.file; stamp = was.stamp; place = was.place; was_granted = inr was.was_granted; version_is = was.version_is })

-- where nothing was granted there is no version
pub no_version : (before : Trace) (d : CallId) → opening_of before d ≡ None → version_of before d ≡ None
no_version [] d is = refl
no_version (r ∷ before) d is = over r.what is (no_version before d)
  where
    some_none : (x : Descriptor) → ◌≡◌ {A = Option Descriptor} (Some x) None → ⊥
    some_none x e = cc

    over : (y : Record) → opening_of (record { line = r.line; what = y } ∷ before) d ≡ None → (opening_of before d ≡ None → version_of before d ≡ None) → version_of (record { line = r.line; what = y } ∷ before) d ≡ None
    over (says.Grant at who request i m f stamp ss) k later = by (same_call who d) k
      where
        by : (b : Bool) → cond b (Some (record { mode = m; epoch = at; inst = i; steady = None })) (opening_of before d) ≡ None → cond b (version_at f stamp) (version_of before d) ≡ None
        by true e = absurd (some_none (record { mode = m; epoch = at; inst = i; steady = None }) e)
        by false e = later e
    over y k later = later k

-- ---- a call that wasn't accepted ----

pub record Blank (c : Config) (before : Trace) (d : CallId) : Type 0 where
  pub answers_are : answers c before d ≡ []
  pub opening_is : opening_of before d ≡ None

pub blank : (c : Config) (t : List Line) → IsFollowed c t → (d : CallId) → (IsNamed (entries t) d → ⊥) → Blank c (entries t) d
blank c [] h d unnamed = record { answers_are = refl; opening_is = refl }
blank c (x ∷ older) h d unnamed = over x.told h.0 (blank c older h.1 d before)
  where
    before : IsNamed (entries older) d → ⊥
    before k = unnamed (k.0, named_stays c x.number x.told older d h.1 h.0 k ∙ k.1)

    opened : (r : Record) → (StepRecord (entries older) r d → ⊥) → opening_of (entries older) d ≡ None → opening_of (record { line = x.number; what = r } ∷ entries older) d ≡ None
    opened (says.Grant at who request i m f stamp ss) never k = by (same_call who d) (λ q. never (same_call_eq who d q))
      where
        by : (b : Bool) → (b ≡ true → ⊥) → cond b (Some (record { mode = m; epoch = at; inst = i; steady = None })) (opening_of (entries older) d) ≡ None
        by true other = absurd (other refl)
        by false other = k
    opened r never k = k

    over : (y : Told) → MayTell c older y → Blank c (entries older) d → Blank c (onto_entries x.number y (entries older)) d
    over (Shown r) may k = record { answers_are = by (heard_record c r (entries older) d (answers c (entries older) d)); opening_is = opened r stepped k.opening_is }
      where
        stepped : StepRecord (entries older) r d → ⊥
        stepped step = before (step_named c (entries older) r d may.row step)

        by : (answers_after r c (entries older) d (answers c (entries older) d) ≡ answers c (entries older) d) ⊎ StepRecord (entries older) r d → answers_after r c (entries older) d (answers c (entries older) d) ≡ []
        by (inl same) = same ∙ k.answers_are
        by (inr step) = absurd (stepped step)
    over y may k = k

-- ---- what a read asks that opens its version again ----

-- an open that it asks is of the kept version's file, to read
pub kept_open : (kept : OneVersion) (m : Mode) (f : FileId) (w : Want) → OpensKept kept w → is_open_of m f w ≡ true → (m ≡ mode.Read) × (f ≡ kept.file)
kept_open kept m f (want.Open g how) k is = by m how k.1 is
  where
    by : (n : Mode) (o : OpenMode) → o ≡ opens.Read → is_open_of n f (want.Open g o) ≡ true → (n ≡ mode.Read) × (f ≡ kept.file)
    by mode.Read o q e = (refl, sym (same_file_eq g f (rw q at e)) ∙ sym k.0)
    by mode.Write o q e = absurd (true_false (sym (rw q at e)))
    by mode.Resolve o q e = absurd (true_false (sym (rw q at e)))
    by mode.Mend o q e = absurd (true_false (sym e))
    by mode.Make o q e = absurd (true_false (sym e))
kept_open kept m f (want.OpenToMend g) k is = absurd k
kept_open kept m f (want.Make g kind sites) k is = absurd k
kept_open kept m f w k is = absurd (none m is)
  where
    none : (n : Mode) → is_open_of n f w ≡ true → ⊥
    none mode.Read e = true_false (sym e)
    none mode.Write e = true_false (sym e)
    none mode.Resolve e = true_false (sym e)
    none mode.Mend e = true_false (sym e)
    none mode.Make e = true_false (sym e)

-- ---- the versions of a list of answers ----

abbrev NoReading : Answer → Type 0
NoReading (answer.Reading i g) = ⊥
NoReading _ = Unit {0}

pub last_read : (o : Option OneVersion) (xs : Answers) (i : Serial) (g : OneVersion) → last_version o (xs ++ answer.Reading i g ∷ []) ≡ Some g
last_read o [] i g = refl
last_read o (answer.Reading j k ∷ xs) i g = last_read (Some k) xs i g
last_read o (_ ∷ xs) i g = last_read o xs i g

pub last_other : (o : Option OneVersion) (xs : Answers) (a : Answer) → NoReading a → last_version o (xs ++ a ∷ []) ≡ last_version o xs
last_other o [] a k = by a k
  where
    by : (b : Answer) → NoReading b → last_version o (b ∷ []) ≡ o
    by (answer.Reading i g) k = absurd k
    by _ k = refl
last_other o (answer.Reading j g ∷ xs) a k = last_other (Some g) xs a k
last_other o (_ ∷ xs) a k = last_other o xs a k

outcome_reads : (result : Outcome) → NoReading (outcome_answer result)
outcome_reads (outcome.No why) = tt
outcome_reads outcome.Done = tt
outcome_reads (outcome.Found ino kind) = tt
outcome_reads (outcome.Data bytes) = tt
outcome_reads (outcome.Committed stamp) = tt

close_reads : (stamp : Option Stamp) (o : Option Instance) → NoReading (close_answer stamp o)
close_reads stamp None = tt
close_reads stamp (Some x) = over x.work.owes
  where
    over : (b : Bool) → NoReading (cond b (answer.Refused refusal.Spent) (answer.Ended (cond x.work.fresh stamp None)))
    over true = tt
    over false = tt

-- ---- a read that opens its version again ----

-- the instance was granted to the call so, in its epoch
pub record GrantedAgain (t : List Line) (e : EpochId) (d : CallId) (kept : OneVersion) (i : Serial) (g : OneVersion) : Type 0 where
  pub request : ℕ
  pub place : ℕ
  pub was_granted : WasGranted t e d request i mode.Read kept.file (Some g.stamp) place
  pub file_is : g.file ≡ kept.file

abbrev pub AnswerGranted : List Line → EpochId → CallId → OneVersion → Answer → Type 0
AnswerGranted t e d kept (answer.Reading i g) = GrantedAgain t e d kept i g
AnswerGranted t e d kept _ = Unit {0}

pub record ReadsAgain (c : Config) (t : List Line) (e : EpochId) (d : CallId) (kept : OneVersion) : Type 0 where
  pub granted : Every (AnswerGranted t e d kept) (answers c (entries t) d)
  pub version_is : version_of (entries t) d ≡ last_version None (answers c (entries t) d)

granted_more : (x : Line) (t : List Line) (e : EpochId) (d : CallId) (kept : OneVersion) (xs : Answers) → Every (AnswerGranted t e d kept) xs → Every (AnswerGranted (x ∷ t) e d kept) xs
granted_more x t e d kept [] k = tt
granted_more x t e d kept (answer.Reading i g ∷ xs) k = (record { request = k.0.request; place = k.0.place; was_granted = inr k.0.was_granted; file_is = k.0.file_is }, granted_more x t e d kept xs k.1)
granted_more x t e d kept (_ ∷ xs) k = (tt, granted_more x t e d kept xs k.1)

module _ (c : Config) (d : CallId) (w : Waiting) (fd at len : ℕ) (reads : w.words ≡ call.Read fd at len) (kept : OneVersion) (last : EpochId) (e : EpochId) (made : w.epoch ≡ Some e) where
  -- what it wants, by its script
  wants_read : (before : Trace) (xs : Answers) → call_named before d ≡ Some w → begun before d ≡ Some (begins.Reopens kept last) → wants_after c before d xs ≡ wants c.mounts (is_packed_in c before w.epoch) (lowest_free (descriptor before w.site w.process)) (call.Read fd at len) (begins.Reopens kept last) xs
  wants_read before xs named starts = read_wants c before d w (begins.Reopens kept last) fd at len xs named starts reads

  module _ (n : ℕ) (older : List Line) (h : IsFollowed c older) (named : call_named (entries older) d ≡ Some w) (starts : begun (entries older) d ≡ Some (begins.Reopens kept last)) (k : ReadsAgain c older e d kept) where
    abbrev old : Answers
    old = answers c (entries older) d

    -- an answer that opens nothing
    other : (x : Told) (a : Answer) (b : Bool) → NoReading a → version_of (onto_entries n x (entries older)) d ≡ version_of (entries older) d → answers c (onto_entries n x (entries older)) d ≡ cond b (old ++ a ∷ []) old → ReadsAgain c (With n x older) e d kept
    other x a true none version is = record {
      granted = subst (Every (AnswerGranted (With n x older) e d kept)) (sym is) (every_added (AnswerGranted (With n x older) e d kept) old a (granted_more (record { number = n; told = x }) older e d kept old k.granted) (by a none));
      version_is = version ∙ (k.version_is ∙ (sym (last_other None old a none) ∙ ap (last_version None) (sym is)));
    }
      where
        by : (y : Answer) → NoReading y → AnswerGranted (With n x older) e d kept y
        by (answer.Reading i g) none = absurd none
        by _ none = tt
    other x a false none version is = record {
      granted = subst (Every (AnswerGranted (With n x older) e d kept)) (sym is) (granted_more (record { number = n; told = x }) older e d kept old k.granted);
      version_is = version ∙ (k.version_is ∙ ap (last_version None) (sym is));
    }

    -- an open
    again_grant : (it : EpochId) (request : ℕ) (i : Serial) (m : Mode) (f : FileId) (stamp : Option Stamp) (ss : ℕ) → MayGrant c (entries older) it d request i m f stamp ss → (x : Told) → x ≡ Shown (says.Grant it d request i m f stamp ss) →
        version_of (onto_entries n x (entries older)) d ≡ version_at f stamp → answers c (onto_entries n x (entries older)) d ≡ old ++ granted_answer m i f stamp (kept_in c (entries older) it f) ∷ [] → ReadsAgain c (With n x older) e d kept
    again_grant it request i m f stamp ss row x is version answered = record {
      granted = subst (Every (AnswerGranted (With n x older) e d kept)) (sym now) (every_added (AnswerGranted (With n x older) e d kept) old (answer.Reading i g) (granted_more (record { number = n; told = x }) older e d kept old k.granted) its);
      version_is = version ∙ (ap (version_at f) tells.1 ∙ (sym (last_read None old i g) ∙ ap (last_version None) (sym now)));
    }
      where
        opens_it : (m ≡ mode.Read) × (f ≡ kept.file)
        opens_it = kept_open kept m f (wants_next c (entries older) d) (subst (OpensKept kept) (sym (wants_read (entries older) old named starts)) (read_kept c.mounts (is_packed_in c (entries older) w.epoch) (lowest_free (descriptor (entries older) w.site w.process)) fd at len kept last old)) row.opens.asked

        tells : (v : Stamp) × (stamp ≡ Some v)
        tells = tells_version (history c (entries older)) (tree_of c it f.group (entries older)) d i mode.Read f stamp ss (subst (λ (y : Mode). gives_grant (history c (entries older)) (tree_of c it f.group (entries older)) d i y f stamp ss ≡ true) opens_it.0 row.gives)

        g : OneVersion
        g = record { file = f; stamp = tells.0 }

        now : answers c (onto_entries n x (entries older)) d ≡ old ++ answer.Reading i g ∷ []
        now = answered ∙ (ap (λ (y : Mode). old ++ granted_answer y i f stamp (kept_in c (entries older) it f) ∷ []) opens_it.0 ∙ ap (λ (s : Option Stamp). old ++ granted_answer mode.Read i f s (kept_in c (entries older) it f) ∷ []) tells.1)

        epoch_is : it ≡ e
        epoch_is = some_same it e (sym row.opens.step.made_in ∙ (ap (λ (v : Waiting). v.epoch) (some_same row.opens.step.accepted w (sym row.opens.step.named ∙ named)) ∙ made))

        its : GrantedAgain (With n x older) e d kept i g
        its = record {
          request = request;
          place = ss;
          was_granted = subst (λ (y : Told). WasGranted (With n y older) e d request i mode.Read kept.file (Some g.stamp) ss) (sym is) (inl (record { epoch_is = epoch_is; call_is = refl; request_is = refl; serial_is = refl; mode_is = opens_it.0; file_is = opens_it.1; stamp_is = tells.1; place_is = refl }));
          file_is = opens_it.1;
        }

    again_record : (r : Record) → MayTell c older (Shown r) → ReadsAgain c (With n (Shown r) older) e d kept
    again_record (says.Look it who request f what result) may = over (same_call who d) refl
      where
        over : (b : Bool) → same_call who d ≡ b → ReadsAgain c (With n (Shown (says.Look it who request f what result)) older) e d kept
        over true q = absurd (subst (AsRead at len) (sym (wants_read (entries older) (take (request - 1) old) named starts) ∙ subst (λ (y : CallId). wants_after c (entries older) y (take (request - 1) (answers c (entries older) y)) ≡ want.Look f what) (same_call_eq who d q) may.row.asked)
            (read_asks c.mounts (is_packed_in c (entries older) w.epoch) (lowest_free (descriptor (entries older) w.site w.process)) fd at len (begins.Reopens kept last) (take (request - 1) old)))
        over false q = other (Shown (says.Look it who request f what result)) (answer.Refused refusal.Spent) false tt refl (ap (λ (b : Bool). cond b (take (request - 1) old ++ look_answer c (entries older) f what result ∷ []) old) q)
    again_record (says.Grant it who request i m f stamp ss) may = over (same_call who d) refl
      where
        x : Told
        x = Shown (says.Grant it who request i m f stamp ss)

        over : (b : Bool) → same_call who d ≡ b → ReadsAgain c (With n x older) e d kept
        over true q = again_grant it request i m f stamp ss (subst (λ (y : CallId). MayGrant c (entries older) it y request i m f stamp ss) (same_call_eq who d q) may.row) x (ap (λ (y : CallId). Shown (says.Grant it y request i m f stamp ss)) (same_call_eq who d q))
            (ap (λ (b : Bool). cond b (version_at f stamp) (version_of (entries older) d)) q) (ap (λ (b : Bool). cond b (old ++ granted_answer m i f stamp (kept_in c (entries older) it f) ∷ []) old) q)
        over false q = other x (answer.Refused refusal.Spent) false tt (ap (λ (b : Bool). cond b (version_at f stamp) (version_of (entries older) d)) q) (ap (λ (b : Bool). cond b (old ++ granted_answer m i f stamp (kept_in c (entries older) it f) ∷ []) old) q)
    again_record (says.Refuse it who request i m f why) may = other (Shown (says.Refuse it who request i m f why)) (answer.Refused why) (same_call who d) tt refl refl
    again_record (says.Act it i number o result) may = other (Shown (says.Act it i number o result)) (outcome_answer result) (is_call (call_of_act (entries older) it i number) d) (outcome_reads result) refl refl
    again_record (says.Release it i f stamp) may = other (Shown (says.Release it i f stamp)) (close_answer stamp (instance_in (tree_of c it f.group (entries older)) i)) (is_call (call_of_release (entries older) it i) d) (close_reads stamp (instance_in (tree_of c it f.group (entries older)) i)) refl refl
    again_record r may = other (Shown r) (answer.Refused refusal.Spent) false tt refl refl

    again_told : (x : Told) → MayTell c older x → ReadsAgain c (With n x older) e d kept
    again_told (Shown r) may = again_record r may
    again_told x may = other x (answer.Refused refusal.Spent) false tt refl refl

  pub reads_again_so : (t : List Line) → IsFollowed c t → call_named (entries t) d ≡ Some w → begun (entries t) d ≡ Some (begins.Reopens kept last) → ReadsAgain c t e d kept
  reads_again_so [] h named starts = absurd (none_some w named)
  reads_again_so (x ∷ older) h named starts = named_before c x.number x.told older d (ReadsAgain c (x ∷ older) e d kept) h.0 new (was (λ then began. reads_again_so older h.1 then began)) (w, named)
    where
      new : (s process : ℕ) (words : _) → x.told ≡ Shown (says.Accept s process d words) → ReadsAgain c (x ∷ older) e d kept
      new s process words is = subst (λ (y : Told). ReadsAgain c (With x.number y older) e d kept) (sym is) (record {
        granted = subst (Every (AnswerGranted (With x.number (Shown (says.Accept s process d words)) older) e d kept)) (sym none.answers_are) tt;
        version_is = no_version (entries older) d none.opening_is ∙ ap (last_version None) (sym none.answers_are);
      })
        where
          may : MayTell c older (Shown (says.Accept s process d words))
          may = subst (MayTell c older) is h.0

          none : Blank c (entries older) d
          none = blank c older h.1 d (λ k. next_is_new (entries older) s d (calls_are_low c older h.1 d k) (numbered c (entries older) s process d words may.row))

      was : (call_named (entries older) d ≡ Some w → begun (entries older) d ≡ Some (begins.Reopens kept last) → ReadsAgain c older e d kept) → IsNamed (entries older) d → ReadsAgain c (x ∷ older) e d kept
      was before k = (let same : k.0 ≡ w = some_same k.0 w (sym (named_stays c x.number x.told older d h.1 h.0 k ∙ k.1) ∙ named) in
          let then : call_named (entries older) d ≡ Some w = k.1 ∙ ap Some same in
          let began : begun (entries older) d ≡ Some (begins.Reopens kept last) = sym (begun_stays c x.number x.told older d h.1 h.0 k) ∙ starts in
          again_told x.number older h.1 then began (before then began) x.told h.0)
