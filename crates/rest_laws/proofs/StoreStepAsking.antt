-- Who asks an operation that changes a file asks it of an instance that was granted not only to be read.
use Rattle.std.proofs.Common.{◌≡◌, ℕ, zero, suc, ◌-◌, Bool, true, false, cond, List, [], ◌∷◌, ◌++◌, take, Option, Some, None, refl, sym, ◌∙◌, ap, subst, ◌⊎◌, inl, inr}
use Rattle.role_steps.proofs.of_plain_facts.Options.{none_some, some_same}
use Rattle.locus_ids.specs.declared.config.Config.{Config}
use Rattle.locus_ids.specs.declared.ids.CallId.{CallId}
use Rattle.locus_ids.specs.declared.ids.EpochId.{EpochId}
use Rattle.locus_ids.specs.declared.ids.FileId.{FileId}
use Rattle.locus_ids.specs.declared.ids.Kind.{Kind}
use Rattle.locus_ids.specs.declared.ids.Mode.{Mode}
use Rattle.locus_ids.specs.declared.ids.Mode.TheVariants as mode
use Rattle.locus_ids.specs.declared.ids.Serial.{Serial}
use Rattle.locus_ids.specs.declared.ids.Stamp.{Stamp}
use Rattle.locus_ids.specs.declared.refusal.Refusal.TheVariants as refusal
use Rattle.locus_ids.specs.declared.sites.Sites.{Sites}
use Rattle.commit_graph.specs.Grants.{is_read}
use Rattle.commit_graph.specs.Versions.{content_of}
use Rattle.dir_format.specs.declared.looking.LookResult.{LookResult}
use Rattle.dir_format.specs.declared.looking.LookResult.TheVariants as looked
use Rattle.dir_format.specs.Contents.{entries_of}
use Rattle.dir_format.specs.Lookups.{lookup}
use Rattle.trace_book.specs.Same.{same_call}
use Rattle.trace_book.specs.declared.call.OpenMode.{OpenMode}
use Rattle.trace_book.specs.declared.call.OpenMode.TheVariants as plain
use Rattle.trace_book.specs.declared.descriptor.Beginning.{Beginning}
use Rattle.trace_book.specs.declared.operation.Op.{Op}
use Rattle.trace_book.specs.declared.operation.Outcome.{Outcome}
use Rattle.trace_book.specs.declared.operation.Outcome.TheVariants as outcome
use Rattle.trace_book.specs.declared.operation.Served.{Served}
use Rattle.trace_book.specs.declared.operation.Served.TheVariants as served
use Rattle.trace_book.specs.declared.operation.What.{What}
use Rattle.trace_book.specs.declared.operation.What.TheVariants as what
use Rattle.trace_book.specs.declared.record.Record.{Record}
use Rattle.trace_book.specs.declared.record.Record.TheVariants as says
use Rattle.trace_book.specs.declared.reply.Reply.{Reply}
use Rattle.trace_book.specs.declared.reply.Reply.TheVariants as reply
use Rattle.call_rules.specs.declared.answer.Answer.{Answer}
use Rattle.call_rules.specs.declared.answer.Answer.TheVariants as answer
use Rattle.call_rules.specs.declared.want.Want.{Want}
use Rattle.call_rules.specs.declared.want.Want.TheVariants as want
use Rattle.call_rules.specs.Scripts.{named_wants, where_packed}
use Rattle.store_laws.specs.of_site_laws.Locks.Writing.{IsOpenedToWrite, IsWriteOn, Opens, OpensToWrite, ToWrite, changes}
use Rattle.store_laws.proofs.of_site_laws.Locks.Writing.{scripts_sound}
use Rattle.role_steps.specs.Opens.{mode_of}
use Rattle.role_steps.specs.Requests.{opening_of}
use Rattle.role_steps.specs.Views.{Told, Shown, LooksAgain}
use Rattle.the_run.specs.Worlds.{Line}
use Rattle.wire_messages.specs.declared.body.Opening.{Opening}
use Rattle.tree_model.specs.declared.accepted.Waiting.{Waiting}
use Rattle.tree_model.specs.declared.instance.Instance.{Instance}
use Rattle.tree_model.specs.Calls.{call_named}
use Rattle.tree_model.specs.Folds.{Trace}
use Rattle.tree_model.specs.Histories.{history}
use Rattle.tree_model.specs.State.{instance_in}
use Rattle.tree_model.specs.Tree.{kept_in, tree_of}
use Rattle.lawful_trace.specs.Lawful.{MayCome}
use Rattle.lawful_trace.specs.Progress.{Answers, answers_after, close_answer, entered, granted_answer, is_packed_in, look_answer, outcome_answer}
use Rattle.lawful_trace.specs.Tables.{begun, call_of_act, call_of_release, is_call}
use Rattle.lawful_trace.specs.TreeRows.{IsCallIn}
use Rattle.tree_laws.specs.Calls.{Asks, heard, log, script, script_as}
use Rattle.tree_laws.specs.Following.{IsFollowed, MayTell}
use Rattle.tree_laws.specs.Instances.{IsOpening, instance_now}
use Rattle.tree_laws.specs.Printed.{entries, onto_entries}
use Rattle.tree_laws.proofs.Asking.{StepRecord, heard_record}
use Rattle.tree_laws.proofs.Fresh.{IsNamed}
use Rattle.tree_laws.proofs.Having.{Untaken, named_or_untaken}
use Rattle.tree_laws.proofs.Names.{same_call_eq}
use Rattle.tree_laws.proofs.Scripts.{begun_stays, named_stays}
use Rattle.store_laws.proofs.Places.{open_is}
use Rattle.rest_laws.proofs.StoreStepGranting.{GrantedToWrite, UsesWritten, grant_stays, uses_written}

-- ---- answers that open an instance ----

-- each answer by which the script opens an instance, where it asks to open one not only to be read, is of an instance of which G is so
abbrev Written : (Serial → Type 0) → (List Answer → Want) → List Answer → Type 0
Written G script [] = Unit {0}
Written G script (a ∷ xs) = ((i : Serial) → OpensToWrite (script []) → Opens i a → G i) × Written G (λ (ys : List Answer). script (a ∷ ys)) xs

weaker : (G H : Serial → Type 0) → ((i : Serial) → G i → H i) → (script : List Answer → Want) (xs : List Answer) → Written G script xs → Written H script xs
weaker G H more script [] k = tt
weaker G H more script (a ∷ xs) k = (λ i w o. more i (k.0 i w o), weaker G H more (λ (ys : List Answer). script (a ∷ ys)) xs k.1)

front : (G : Serial → Type 0) (script : List Answer → Want) (n : ℕ) (xs : List Answer) → Written G script xs → Written G script (take n xs)
front G script zero xs k = tt
front G script (suc n) [] k = tt
front G script (suc n) (a ∷ xs) k = (k.0, front G (λ (ys : List Answer). script (a ∷ ys)) n xs k.1)

added : (G : Serial → Type 0) (script : List Answer → Want) (xs : List Answer) (a : Answer) → Written G script xs → ((i : Serial) → OpensToWrite (script xs) → Opens i a → G i) → Written G script (xs ++ a ∷ [])
added G script [] a k new = (new, tt)
added G script (x ∷ xs) a k new = (k.0, added G (λ (ys : List Answer). script (x ∷ ys)) xs a k.1 new)

found_in : (G : Serial → Type 0) (script : List Answer → Want) (before : List Answer) (a : Answer) (after : List Answer) (i : Serial) → Written G script (before ++ a ∷ after) → OpensToWrite (script before) → Opens i a → G i
found_in G script [] a after i k asked opened = k.0 i asked opened
found_in G script (x ∷ xs) a after i k asked opened = found_in G (λ (ys : List Answer). script (x ∷ ys)) xs a after i k.1 asked opened

-- other answers open nothing
look_opens : (c : Config) (before : Trace) (f : FileId) (w : What) (result : Served) (i : Serial) → Opens i (look_answer c before f w result) → ⊥
look_opens c before f w (served.No why) i k = k
look_opens c before f (what.Name component) (served.At stamp) i k = found (lookup (entries_of (content_of (history c before) f stamp)) component) k
  where
    found : (l : LookResult) → Opens i (entered component l) → ⊥
    found (looked.Found ino kind) k = k
    found looked.Absent k = k
    found (looked.Ambiguous a b) k = k
look_opens c before f what.List (served.At stamp) i k = k
look_opens c before f what.Stat (served.At stamp) i k = k
look_opens c before f (what.Whole asked) (served.At stamp) i k = k

outcome_opens : (r : Outcome) (i : Serial) → Opens i (outcome_answer r) → ⊥
outcome_opens (outcome.No why) i k = k
outcome_opens outcome.Done i k = k
outcome_opens (outcome.Found ino kind) i k = k
outcome_opens (outcome.Data bytes) i k = k
outcome_opens (outcome.Committed stamp) i k = k

close_opens : (stamp : Option Stamp) (o : Option Instance) (i : Serial) → Opens i (close_answer stamp o) → ⊥
close_opens stamp None i k = k
close_opens stamp (Some x) i k = over x.work.owes x.work.fresh k
  where
    over : (a b : Bool) → Opens i (cond a (answer.Refused refusal.Spent) (answer.Ended (cond b stamp None))) → ⊥
    over true b k = k
    over false b k = k

granted_opens : (m : Mode) (i j : Serial) (f : FileId) (stamp : Option Stamp) (kept : List Stamp) → Opens j (granted_answer m i f stamp kept) → i ≡ j
granted_opens mode.Mend i j f stamp kept k = k
granted_opens mode.Read i j f (Some stamp) kept k = absurd k
granted_opens mode.Read i j f None kept k = k
granted_opens mode.Write i j f stamp kept k = k
granted_opens mode.Resolve i j f stamp kept k = k
granted_opens mode.Make i j f stamp kept k = k

-- ---- scripts ----

plain_writes : (om : OpenMode) → ToWrite om → is_read (mode_of (opening_of om)) ≡ false
plain_writes plain.Read k = absurd k
plain_writes plain.Write k = refl
plain_writes (plain.Resolve site) k = refl
plain_writes plain.Steady k = absurd k

-- an open that isn't only to read is granted in a mode that writes
opening_writes : (c : Config) (p : ℕ → Bool) (x wanted : Want) (f : FileId) (it : Opening) → where_packed p x ≡ wanted → IsOpening c wanted f it → OpensToWrite x → is_read (mode_of it) ≡ false
opening_writes c p (want.Open file om) wanted f it e opening w = over (p file.group) e
  where
    over : (b : Bool) → cond b (want.Open file om) (want.Give (reply.No refusal.NoStorage)) ≡ wanted → is_read (mode_of it) ≡ false
    over true e = (let k : (f ≡ file) × (it ≡ opening_of om) = subst (λ (v : Want). IsOpening c v f it) (sym e) opening in ap (λ (y : Opening). is_read (mode_of y)) k.1 ∙ plain_writes om w)
    over false e = absurd (subst (λ (v : Want). IsOpening c v f it) (sym e) opening)
opening_writes c p (want.OpenToMend file) wanted f it e opening w = over (p file.group) e
  where
    over : (b : Bool) → cond b (want.OpenToMend file) (want.Give (reply.No refusal.NoStorage)) ≡ wanted → is_read (mode_of it) ≡ false
    over true e = ap (λ (y : Opening). is_read (mode_of y)) (subst (λ (v : Want). IsOpening c v f it) (sym e) opening).1
    over false e = absurd (subst (λ (v : Want). IsOpening c v f it) (sym e) opening)
opening_writes c p (want.Make group kind sites) wanted f it e opening w = over (p group) e
  where
    over : (b : Bool) → cond b (want.Make group kind sites) (want.Give (reply.No refusal.NoStorage)) ≡ wanted → is_read (mode_of it) ≡ false
    over true e = ap (λ (y : Opening). is_read (mode_of y)) (subst (λ (v : Want). IsOpening c v f it) (sym e) opening).2
    over false e = absurd (subst (λ (v : Want). IsOpening c v f it) (sym e) opening)
opening_writes c p _ wanted f it e opening w = absurd w

give_do : (r : Reply) (i : Serial) (o : Op) → want.Give r ≡ want.Do i o → ⊥
give_do r i o e = cc

open_do : (f : FileId) (om : OpenMode) (i : Serial) (o : Op) → want.Open f om ≡ want.Do i o → ⊥
open_do f om i o e = cc

look_do : (f : FileId) (w : What) (i : Serial) (o : Op) → want.Look f w ≡ want.Do i o → ⊥
look_do f w i o e = cc

mend_do : (f : FileId) (i : Serial) (o : Op) → want.OpenToMend f ≡ want.Do i o → ⊥
mend_do f i o e = cc

make_do : (group : ℕ) (k : Kind) (sites : Option Sites) (i : Serial) (o : Op) → want.Make group k sites ≡ want.Do i o → ⊥
make_do group k sites i o e = cc

-- an operation is asked as the script asks it
packed_do : (p : ℕ → Bool) (x : Want) (i : Serial) (o : Op) → where_packed p x ≡ want.Do i o → x ≡ want.Do i o
packed_do p (want.Look f w) i o e = absurd (over (p f.group) e)
  where
    over : (b : Bool) → cond b (want.Look f w) (want.Give (reply.No refusal.NoStorage)) ≡ want.Do i o → ⊥
    over true e = look_do f w i o e
    over false e = give_do (reply.No refusal.NoStorage) i o e
packed_do p (want.Open f om) i o e = absurd (over (p f.group) e)
  where
    over : (b : Bool) → cond b (want.Open f om) (want.Give (reply.No refusal.NoStorage)) ≡ want.Do i o → ⊥
    over true e = open_do f om i o e
    over false e = give_do (reply.No refusal.NoStorage) i o e
packed_do p (want.OpenToMend f) i o e = absurd (over (p f.group) e)
  where
    over : (b : Bool) → cond b (want.OpenToMend f) (want.Give (reply.No refusal.NoStorage)) ≡ want.Do i o → ⊥
    over true e = mend_do f i o e
    over false e = give_do (reply.No refusal.NoStorage) i o e
packed_do p (want.Make group k sites) i o e = absurd (over (p group) e)
  where
    over : (b : Bool) → cond b (want.Make group k sites) (want.Give (reply.No refusal.NoStorage)) ≡ want.Do i o → ⊥
    over true e = make_do group k sites i o e
    over false e = give_do (reply.No refusal.NoStorage) i o e
packed_do p _ i o e = e

-- ---- what a call has heard ----

-- a step is of a call that was accepted
pub step_named : (c : Config) (before : Trace) (r : Record) (d : CallId) → MayCome c before r → StepRecord before r d → IsNamed before d
step_named c before (says.Look e it request f w result) d may step = subst (IsNamed before) step (may.step.accepted, may.step.named)
step_named c before (says.Grant e it request i m f stamp ss) d may step = subst (IsNamed before) step (may.opens.step.accepted, may.opens.step.named)
step_named c before (says.Refuse e it request i m f why) d may step = subst (IsNamed before) step (may.opens.step.accepted, may.opens.step.named)
step_named c before (says.Act e i n o result) d may step = subst (IsNamed before) (some_same may.step.call d (sym may.step.owned ∙ step)) (may.step.step.accepted, may.step.step.named)
step_named c before (says.Release e i f stamp) d may step = subst (IsNamed before) (some_same may.step.call d (sym may.step.owned ∙ step)) (may.step.step.accepted, may.step.step.named)
step_named c before _ d may step = absurd step

script_is : (c : Config) (before : Trace) (d : CallId) (w : Waiting) (b : Beginning) (xs : Answers) → call_named before d ≡ Some w → begun before d ≡ Some b → script c before d None xs ≡ where_packed (is_packed_in c before w.epoch) (named_wants c.mounts None w.words b xs)
script_is c before d w b xs named starts = ap (λ (o : Option Waiting). script_as c before o (begun before d) None xs) named ∙ ap (λ (o : Option Beginning). script_as c before (Some w) o None xs) starts

module _ (c : Config) (d : CallId) (w : Waiting) (b : Beginning) (e : EpochId) (made : w.epoch ≡ Some e) where
  abbrev HearsWritten : List Line → Type 0
  HearsWritten t = Written (GrantedToWrite t e) (named_wants c.mounts None w.words b) (heard c t d)

  more : (x : Line) (older : List Line) (xs : Answers) → Written (GrantedToWrite older e) (named_wants c.mounts None w.words b) xs → Written (GrantedToWrite (x ∷ older) e) (named_wants c.mounts None w.words b) xs
  more x older xs k = weaker (GrantedToWrite older e) (GrantedToWrite (x ∷ older) e) (λ i g. grant_stays x older e i g) (named_wants c.mounts None w.words b) xs k

  -- what is granted to it now is granted as it asks
  grant_heard : (n : ℕ) (older : List Line) (at : EpochId) (it : CallId) (request : ℕ) (i : Serial) (m : Mode) (f : FileId) (stamp : Option Stamp) (ss : ℕ) → MayTell c older (Shown (says.Grant at it request i m f stamp ss)) → call_named (entries older) d ≡ Some w → begun (entries older) d ≡ Some b → it ≡ d →
      (j : Serial) → OpensToWrite (named_wants c.mounts None w.words b (heard c older d)) → Opens j (granted_answer m i f stamp (kept_in c (entries older) at f)) → GrantedToWrite (record { number = n; told = Shown (says.Grant at it request i m f stamp ss) } ∷ older) e j
  grant_heard n older at it request i m f stamp ss may named starts own j asked opened = record {
    call = it;
    request = request;
    mode = m;
    file = f;
    stamp = stamp;
    place = ss;
    was_granted = inl (record { epoch_is = epoch_is; call_is = refl; request_is = refl; serial_is = granted_opens m i j f stamp (kept_in c (entries older) at f) opened; mode_is = refl; file_is = refl; stamp_is = refl; place_is = refl });
    writes = ap is_read (sym may.in_time.opens.mode_is) ∙ opening_writes c (is_packed_in c (entries older) w.epoch) (named_wants c.mounts None w.words b (heard c older d)) may.in_time.opens.asks.wanted may.in_time.opens.asked may.in_time.opens.it wanted may.in_time.opens.asks.opening_is asked;
  }
    where
      asks : Asks c older d may.in_time.opens.asks.wanted
      asks = subst (λ (y : CallId). Asks c older y may.in_time.opens.asks.wanted) own may.in_time.opens.asks.asks

      inside : IsCallIn (entries older) at d
      inside = subst (λ (y : CallId). IsCallIn (entries older) at y) own may.in_time.opens.asks.inside

      wanted : where_packed (is_packed_in c (entries older) w.epoch) (named_wants c.mounts None w.words b (heard c older d)) ≡ may.in_time.opens.asks.wanted
      wanted = sym (script_is c (entries older) d w b (heard c older d) named starts) ∙ (ap (script c (entries older) d None) asks.nothing_waits ∙ asks.asked)

      epoch_is : at ≡ e
      epoch_is = some_same at e (sym (sym (ap (λ (v : Waiting). v.epoch) (some_same inside.accepted w (sym inside.named ∙ named))) ∙ inside.made_in) ∙ made)

  module _ (n : ℕ) (older : List Line) (named : call_named (entries older) d ≡ Some w) (starts : begun (entries older) d ≡ Some b) (k : HearsWritten older) where
    -- another answer that opens nothing
    other : (x : Line) (xs : Answers) (a : Answer) → Written (GrantedToWrite older e) (named_wants c.mounts None w.words b) xs → ((i : Serial) → Opens i a → ⊥) → Written (GrantedToWrite (x ∷ older) e) (named_wants c.mounts None w.words b) (xs ++ a ∷ [])
    other x xs a k none = added (GrantedToWrite (x ∷ older) e) (named_wants c.mounts None w.words b) xs a (more x older xs k) (λ i asked o. absurd (none i o))

    printed : (r : Record) → MayTell c older (Shown r) → HearsWritten (record { number = n; told = Shown r } ∷ older)
    printed (says.Look at it request f what_asked result) may = over (same_call it d)
      where
        x : Line
        x = record { number = n; told = Shown (says.Look at it request f what_asked result) }

        over : (y : Bool) → Written (GrantedToWrite (x ∷ older) e) (named_wants c.mounts None w.words b) (cond y (take (request - 1) (heard c older d) ++ look_answer c (entries older) f what_asked result ∷ []) (heard c older d))
        over true = other x (take (request - 1) (heard c older d)) (look_answer c (entries older) f what_asked result) (front (GrantedToWrite older e) (named_wants c.mounts None w.words b) (request - 1) (heard c older d) k) (λ i o. look_opens c (entries older) f what_asked result i o)
        over false = more x older (heard c older d) k
    printed (says.Grant at it request i m f stamp ss) may = over (same_call it d) refl
      where
        x : Line
        x = record { number = n; told = Shown (says.Grant at it request i m f stamp ss) }

        over : (y : Bool) → same_call it d ≡ y → Written (GrantedToWrite (x ∷ older) e) (named_wants c.mounts None w.words b) (cond y (heard c older d ++ granted_answer m i f stamp (kept_in c (entries older) at f) ∷ []) (heard c older d))
        over true q = added (GrantedToWrite (x ∷ older) e) (named_wants c.mounts None w.words b) (heard c older d) (granted_answer m i f stamp (kept_in c (entries older) at f)) (more x older (heard c older d) k) (grant_heard n older at it request i m f stamp ss may named starts (same_call_eq it d q))
        over false q = more x older (heard c older d) k
    printed (says.Refuse at it request i m f why) may = over (same_call it d)
      where
        x : Line
        x = record { number = n; told = Shown (says.Refuse at it request i m f why) }

        over : (y : Bool) → Written (GrantedToWrite (x ∷ older) e) (named_wants c.mounts None w.words b) (cond y (heard c older d ++ answer.Refused why ∷ []) (heard c older d))
        over true = other x (heard c older d) (answer.Refused why) k (λ i o. o)
        over false = more x older (heard c older d) k
    printed (says.Act at i number o result) may = over (is_call (call_of_act (entries older) at i number) d)
      where
        x : Line
        x = record { number = n; told = Shown (says.Act at i number o result) }

        over : (y : Bool) → Written (GrantedToWrite (x ∷ older) e) (named_wants c.mounts None w.words b) (cond y (heard c older d ++ outcome_answer result ∷ []) (heard c older d))
        over true = other x (heard c older d) (outcome_answer result) k (outcome_opens result)
        over false = more x older (heard c older d) k
    printed (says.Release at i f stamp) may = over (is_call (call_of_release (entries older) at i) d)
      where
        x : Line
        x = record { number = n; told = Shown (says.Release at i f stamp) }

        a : Answer
        a = close_answer stamp (instance_in (tree_of c at f.group (entries older)) i)

        over : (y : Bool) → Written (GrantedToWrite (x ∷ older) e) (named_wants c.mounts None w.words b) (cond y (heard c older d ++ a ∷ []) (heard c older d))
        over true = other x (heard c older d) a k (close_opens stamp (instance_in (tree_of c at f.group (entries older)) i))
        over false = more x older (heard c older d) k
    printed r may = more (record { number = n; told = Shown r }) older (heard c older d) k

    told : (y : Told) → MayTell c older y → HearsWritten (record { number = n; told = y } ∷ older)
    told (Shown r) may = printed r may
    told (LooksAgain s it request times) may = over (same_call it d)
      where
        x : Line
        x = record { number = n; told = LooksAgain s it request times }

        over : (y : Bool) → Written (GrantedToWrite (x ∷ older) e) (named_wants c.mounts None w.words b) (cond y (take (request - 1) (heard c older d)) (heard c older d))
        over true = front (GrantedToWrite (x ∷ older) e) (named_wants c.mounts None w.words b) (request - 1) (heard c older d) (more x older (heard c older d) k)
        over false = more x older (heard c older d) k
    told y may = more (record { number = n; told = y }) older (heard c older d) k

  pub heard_written : (t : List Line) → IsFollowed c t → call_named (entries t) d ≡ Some w → begun (entries t) d ≡ Some b → HearsWritten t
  heard_written [] h named starts = absurd (none_some w named)
  heard_written (x ∷ older) h named starts = over (λ was began. heard_written older h.1 was began) x.told h.0 named starts (named_or_untaken c older h.1 d)
    where
      Now : Told → Type 0
      Now y = HearsWritten (record { number = x.number; told = y } ∷ older)

      Before : Type 0
      Before = call_named (entries older) d ≡ Some w → begun (entries older) d ≡ Some b → HearsWritten older

      known : Before → (y : Told) → MayTell c older y → call_named (onto_entries x.number y (entries older)) d ≡ Some w → begun (onto_entries x.number y (entries older)) d ≡ Some b → IsNamed (entries older) d → Now y
      known before y may named starts is =
          let was : call_named (entries older) d ≡ Some w = sym (named_stays c x.number y older d h.1 may is) ∙ named in
          let began : begun (entries older) d ≡ Some b = sym (begun_stays c x.number y older d h.1 may is) ∙ starts in
          told x.number older was began (before was began) y may

      nothing : (y : Told) (xs : Answers) → xs ≡ [] → Written (GrantedToWrite (record { number = x.number; told = y } ∷ older) e) (named_wants c.mounts None w.words b) xs
      nothing y xs is = subst (Written (GrantedToWrite (record { number = x.number; told = y } ∷ older) e) (named_wants c.mounts None w.words b)) (sym is) tt

      over : Before → (y : Told) → MayTell c older y → call_named (onto_entries x.number y (entries older)) d ≡ Some w → begun (onto_entries x.number y (entries older)) d ≡ Some b → IsNamed (entries older) d ⊎ Untaken c older d → Now y
      over before y may named starts (inl is) = known before y may named starts is
      over before (Shown r) may named starts (inr u) = by (heard_record c r (entries older) d (heard c older d))
        where
          by : (answers_after r c (entries older) d (heard c older d) ≡ heard c older d) ⊎ StepRecord (entries older) r d → Now (Shown r)
          by (inl same) = nothing (Shown r) (answers_after r c (entries older) d (heard c older d)) (same ∙ u.heard_is)
          by (inr step) = known before (Shown r) may named starts (step_named c (entries older) r d may.row step)
      over before (LooksAgain s it request times) may named starts (inr u) = by (same_call it d)
        where
          none : (n : ℕ) → take {A = Answer} n [] ≡ []
          none zero = refl
          none (suc n) = refl

          by : (y : Bool) → Written (GrantedToWrite (record { number = x.number; told = LooksAgain s it request times } ∷ older) e) (named_wants c.mounts None w.words b) (cond y (take (request - 1) (heard c older d)) (heard c older d))
          by true = nothing (LooksAgain s it request times) (take (request - 1) (heard c older d)) (ap (take (request - 1)) u.heard_is ∙ none (request - 1))
          by false = nothing (LooksAgain s it request times) (heard c older d) u.heard_is
      over before y may named starts (inr u) = nothing y (heard c older d) u.heard_is

-- ---- who asks a change ----

pub asked_to_write : (c : Config) (t : List Line) → IsFollowed c t → (e : EpochId) (d : CallId) (i : Serial) (o : Op) → IsCallIn (entries t) e d → Asks c t d (want.Do i o) → changes o ≡ true → GrantedToWrite t e i
asked_to_write c t h e d i o inside asks change = over (begun (entries t) d) refl
  where
    w : Waiting
    w = inside.accepted

    never : want.Never ≡ want.Do i o → ⊥
    never q = cc

    over : (z : Option Beginning) → begun (entries t) d ≡ z → GrantedToWrite t e i
    over None starts = absurd (never (sym (ap (λ (y : Option Waiting). script_as c (entries t) y (begun (entries t) d) None (log t d)) inside.named ∙ ap (λ (y : Option Beginning). script_as c (entries t) (Some w) y None (log t d)) starts) ∙ asks.asked))
    over (Some b) starts = by (scripts_sound c.mounts None w.words b (log t d) i o (packed_do (is_packed_in c (entries t) w.epoch) (named_wants c.mounts None w.words b (log t d)) i o (sym (script_is c (entries t) d w b (log t d) inside.named starts) ∙ asks.asked)) change)
      where
        by : IsWriteOn w.words b i ⊎ IsOpenedToWrite (named_wants c.mounts None w.words b) (log t d) i → GrantedToWrite t e i
        by (inl k) = (let u : UsesWritten t w k.epoch i = uses_written t d w k.epoch i inside.named (starts ∙ ap Some k.begins_so) k.is_write in
            subst (λ (y : EpochId). GrantedToWrite t y i) (some_same k.epoch e (sym u.epoch_is ∙ inside.made_in)) u.granted)
        by (inr k) = found_in (GrantedToWrite t e) (named_wants c.mounts None w.words b) k.before k.opening k.after i
            (subst (Written (GrantedToWrite t e) (named_wants c.mounts None w.words b)) (asks.nothing_waits ∙ k.answers_are) (heard_written c d w b e inside.made_in t h inside.named starts)) k.asked k.opened

-- who is asked a change was granted not only to be read
pub changed_open : (c : Config) (t : List Line) → IsFollowed c t → (e : EpochId) (d : CallId) (i : Serial) (o : Op) (x : Instance) → IsCallIn (entries t) e d → Asks c t d (want.Do i o) → changes o ≡ true → instance_now c t e i ≡ Some x → is_read x.grant.mode ≡ false
changed_open c t h e d i o x inside asks change found =
    let g : GrantedToWrite t e i = asked_to_write c t h e d i o inside asks change in
    ap is_read (open_is c t h e g.call g.request i g.mode g.file g.stamp g.place x g.was_granted found).0 ∙ g.writes
