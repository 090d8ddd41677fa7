-- A read by a steady descriptor that gives bytes gives those of the version that the descriptor keeps.
use Rattle.std.proofs.Common.{◌≡◌, ℕ, Bool, true, false, cond, List, [], ◌∷◌, Option, Some, None, refl, sym, ◌∙◌, ap, subst, inl, inr}
use Rattle.plain_facts.proofs.Options.{some_same}
use Rattle.locus_ids.specs.declared.config.Config.{Config}
use Rattle.locus_ids.specs.declared.ids.CallId.{CallId}
use Rattle.locus_ids.specs.declared.ids.EpochId.{EpochId}
use Rattle.locus_ids.specs.declared.ids.FileId.{FileId}
use Rattle.locus_ids.specs.declared.ids.Mode.{Mode}
use Rattle.locus_ids.specs.declared.ids.Mode.TheVariants as mode
use Rattle.locus_ids.specs.declared.ids.Serial.{Serial}
use Rattle.locus_ids.specs.declared.ids.Stamp.{Stamp}
use Rattle.commit_graph.specs.Grants.{is_read}
use Rattle.commit_graph.specs.Versions.{content_of}
use Rattle.file_content.specs.Contents.{part}
use Rattle.trace_book.specs.declared.call.Call.TheVariants as call
use Rattle.trace_book.specs.declared.descriptor.Beginning.{Beginning}
use Rattle.trace_book.specs.declared.descriptor.Beginning.TheVariants as begins
use Rattle.trace_book.specs.declared.descriptor.Descriptor.{Descriptor}
use Rattle.trace_book.specs.declared.descriptor.OneVersion.{OneVersion}
use Rattle.trace_book.specs.declared.operation.Op.{Op}
use Rattle.trace_book.specs.declared.operation.Op.TheVariants as op
use Rattle.trace_book.specs.declared.operation.Outcome.{Outcome}
use Rattle.trace_book.specs.declared.operation.Outcome.TheVariants as outcome
use Rattle.trace_book.specs.declared.record.Record.{Record}
use Rattle.trace_book.specs.declared.record.Record.TheVariants as says
use Rattle.trace_book.specs.declared.reply.Reply.TheVariants as reply
use Rattle.call_rules.specs.declared.answer.Answer.{Answer}
use Rattle.call_rules.specs.declared.answer.Answer.TheVariants as answer
use Rattle.call_rules.specs.declared.want.Want.TheVariants as want
use Rattle.call_rules.specs.Descriptors.{begins_again, begins_read, is_in, lowest_free, stale_or}
use Rattle.call_rules.specs.Scripts.{wants}
use Rattle.locus_ids.specs.declared.refusal.Refusal.TheVariants as refusal
use Rattle.role_steps.specs.Own.{Every}
use Rattle.the_run.specs.Kept.{Among}
use Rattle.the_run.specs.Worlds.{Line}
use Rattle.tree_model.specs.declared.accepted.Waiting.{Waiting}
use Rattle.tree_model.specs.declared.instance.Instance.{Instance}
use Rattle.tree_model.specs.Calls.{call_named, waiting}
use Rattle.dir_format.specs.declared.looking.LookResult.{LookResult}
use Rattle.dir_format.specs.declared.looking.LookResult.TheVariants as looked
use Rattle.dir_format.specs.Contents.{entries_of}
use Rattle.dir_format.specs.Lookups.{lookup}
use Rattle.trace_book.specs.declared.operation.Served.{Served}
use Rattle.trace_book.specs.declared.operation.Served.TheVariants as served
use Rattle.trace_book.specs.declared.operation.What.{What}
use Rattle.trace_book.specs.declared.operation.What.TheVariants as what
use Rattle.tree_model.specs.Folds.{Trace}
use Rattle.tree_model.specs.Histories.{history, stamped_content}
use Rattle.tree_model.specs.State.{instance_in}
use Rattle.tree_model.specs.Tree.{kept_in, tree_of}
use Rattle.lawful_trace.specs.Progress.{Answers, answers, close_answer, entered, granted_answer, is_packed_in, look_answer, outcome_answer, wants_after, wants_next}
use Rattle.lawful_trace.specs.Tables.{begun, call_of_act, descriptor, is_call}
use Rattle.lawful_trace.specs.TreeRows.{IsStepOf, granted_group}
use Rattle.tree_laws.specs.Following.{IsFollowed}
use Rattle.tree_laws.specs.Instances.{Stands}
use Rattle.tree_laws.specs.Past.{GrantRecord, Printed, WasGranted}
use Rattle.tree_laws.specs.Printed.{entries}
use Rattle.tree_laws.proofs.Names.{same_call_eq, same_epoch_eq}
use Rattle.tree_laws.proofs.Orders.Standing.{same_stamp_eq}
use Rattle.calm_laws.specs.of_store_laws.OneTree.Rest.{EachRest}
use Rattle.calm_laws.proofs.of_store_laws.Places.{AreOne, GrantedSo, granted_once, instance_granted}
use Rattle.steady_laws.specs.Answered.{IsAnsweredBy, ReadsOn, WasAnswered}
use Rattle.steady_laws.specs.Reads.{AsksRead, IsRead}
use Rattle.steady_laws.proofs.Answered.{was_answered}
use Rattle.steady_laws.proofs.Asking.{asks_read}
use Rattle.steady_laws.proofs.Operation.{read_gives}
use Rattle.steady_laws.proofs.Reading.{read_is}
use Rattle.headline_laws.proofs.OneVersion.Asks.{read_wants}
use Rattle.headline_laws.proofs.OneVersion.Granted.{AnswerGranted, GrantedAgain, ReadsAgain, reads_again_so}
use Rattle.headline_laws.proofs.OneVersion.Keeping.{GrantedOn}
use Rattle.rest_laws.proofs.Readers.{ReadsVersion, last_stands, reader_reads}
use Rattle.rest_laws.proofs.StoreStepReading.{began_as_now}
use Rattle.headline_laws.proofs.OneVersion.Stood.{Stood, begun_then, content_then, named_then, stands_then, stood, was_then}

-- the bytes are of the version, which stands
pub record OfVersion (c : Config) (t : List Line) (v : OneVersion) (at len : ℕ) (bytes : List ℕ) : Type 0 where
  pub stands : Stands c t v.file v.stamp
  pub bytes_are : bytes ≡ part (content_of (history c (entries t)) v.file v.stamp) at len

-- ---- what was done on an instance that was granted to read ----

read_of : (c : Config) (t : List Line) (h : IsFollowed c t) (rest : EachRest c t) (v : OneVersion) (e : EpochId) (i : Serial) (n at len : ℕ) (bytes : List ℕ) (before : Trace) → Stood c t (says.Act e i n (op.Read at len) (outcome.Data bytes)) before → GrantedOn t e i v → OfVersion c t v at len bytes
read_of c t h rest v e i n at len bytes before st g = record {
  stands = stands_then c t h rest r before st v.file v.stamp stands;
  bytes_are = on.bytes_are ∙ ap (λ (xs : List ℕ). part xs at len) (so.content_is
      ∙ (ap (λ (s : Option Stamp). stamped_content (history c (entries st.older)) x.grant.file s) last_is
      ∙ (ap (λ (f : FileId). content_of (history c (entries st.older)) f v.stamp) file_is
      ∙ sym (content_then c t h rest r before st v.file v.stamp stands))));
}
  where
    r : Record
    r = says.Act e i n (op.Read at len) (outcome.Data bytes)

    on : ReadsOn (tree_of c e (granted_group (entries st.older) e i) (entries st.older)) i at len bytes
    on = read_gives (history c (entries st.older)) (tree_of c e (granted_group (entries st.older) e i) (entries st.older)) i n at len bytes st.may.row.gives

    x : Instance
    x = on.on

    -- it is the one that was granted
    given : GrantedSo st.older e x.grant × (x.grant.inst ≡ i)
    given = instance_granted c st.older e i x on.is_open

    mode_is : x.grant.mode ≡ mode.Read
    mode_is = (granted_once c t h e x.grant.call g.call given.0.request g.request i x.grant.mode mode.Read x.grant.file v.file given.0.stamp (Some v.stamp) x.grant.ss g.place
        (was_then c t h rest r before st (Printed (GrantRecord e x.grant.call given.0.request i x.grant.mode x.grant.file given.0.stamp x.grant.ss)) (subst (λ (j : Serial). WasGranted st.older e x.grant.call given.0.request j x.grant.mode x.grant.file given.0.stamp x.grant.ss) given.1 given.0.was_granted)) g.was_granted).mode_is

    so : ReadsVersion c st.older e i x
    so = reader_reads c st.older st.followed st.rest e i x on.is_open (ap is_read mode_is)

    one : AreOne so.call g.call x.grant.mode mode.Read x.grant.file v.file x.work.last (Some v.stamp) so.place g.place
    one = granted_once c t h e so.call g.call so.request g.request i x.grant.mode mode.Read x.grant.file v.file x.work.last (Some v.stamp) so.place g.place (was_then c t h rest r before st (Printed (GrantRecord e so.call so.request i x.grant.mode x.grant.file x.work.last so.place)) so.was_granted) g.was_granted

    file_is : x.grant.file ≡ v.file
    file_is = one.file_is

    last_is : x.work.last ≡ Some v.stamp
    last_is = one.stamp_is

    stands : Stands c st.older v.file v.stamp
    stands = subst (λ (f : FileId). Stands c st.older f v.stamp) file_is (last_stands c st.older st.followed e i x on.is_open v.stamp last_is)

-- ---- the record by which a read was answered ----

-- an operation was done for it on this instance, in its epoch
pub record Acted (c : Config) (t : List Line) (w : Waiting) (i : Serial) (at len : ℕ) (bytes : List ℕ) : Type 0 where
  pub epoch : EpochId
  pub number : ℕ
  pub before : Trace
  pub there : Stood c t (says.Act epoch i number (op.Read at len) (outcome.Data bytes)) before
  pub inside : w.epoch ≡ Some epoch

did_data : (result : Outcome) (bytes : List ℕ) → outcome_answer result ≡ answer.Did (outcome.Data bytes) → result ≡ outcome.Data bytes
did_data outcome.Done bytes e = cc
did_data (outcome.Found ino kind) bytes e = cc
did_data (outcome.Data b) bytes e = cc
did_data (outcome.Committed stamp) bytes e = cc
did_data (outcome.No why) bytes e = cc

-- ---- what only an operation answers ----

abbrev NoDid : Answer → Type 0
NoDid (answer.Did result) = ⊥
NoDid _ = Unit {0}

not_did : (a : Answer) (result : Outcome) → NoDid a → a ≡ answer.Did result → ⊥
not_did a result none e = subst NoDid e none

found_no : (component : List ℕ) (r : LookResult) → NoDid (entered component r)
found_no component (looked.Found ino kind) = tt
found_no component looked.Absent = tt
found_no component (looked.Ambiguous a b) = tt

look_no : (c : Config) (before : Trace) (f : FileId) (q : What) (result : Served) → NoDid (look_answer c before f q result)
look_no c before f q (served.No why) = tt
look_no c before f (what.Name component) (served.At stamp) = found_no component (lookup (entries_of (content_of (history c before) f stamp)) component)
look_no c before f what.List (served.At stamp) = tt
look_no c before f what.Stat (served.At stamp) = tt
look_no c before f (what.Whole asked) (served.At stamp) = tt

grant_no : (m : Mode) (i : Serial) (f : FileId) (stamp : Option Stamp) (kept : List Stamp) → NoDid (granted_answer m i f stamp kept)
grant_no mode.Mend i f stamp kept = tt
grant_no mode.Read i f (Some stamp) kept = tt
grant_no mode.Read i f None kept = tt
grant_no mode.Write i f stamp kept = tt
grant_no mode.Resolve i f stamp kept = tt
grant_no mode.Make i f stamp kept = tt

close_no : (stamp : Option Stamp) (o : Option Instance) → NoDid (close_answer stamp o)
close_no stamp None = tt
close_no stamp (Some x) = over x.work.owes
  where
    over : (b : Bool) → NoDid (cond b (answer.Refused refusal.Spent) (answer.Ended (cond x.work.fresh stamp None)))
    over true = tt
    over false = tt

-- of one instance alone it asks
abbrev pub AsksOf : Beginning → ℕ → ℕ → Answers → Serial → Type 0
AsksOf b at len earlier i = (j : Serial) (o : Op) → AsksRead b at len earlier j o → (j ≡ i) × (o ≡ op.Read at len)

module _ (c : Config) (t : List Line) (h : IsFollowed c t) (rest : EachRest c t) (d : CallId) (w : Waiting) (named : call_named (entries t) d ≡ Some w) (b : Beginning) (starts : begun (entries t) d ≡ Some b) (fd at len : ℕ) (reads : w.words ≡ call.Read fd at len) where
  acted : (earlier : Answers) (bytes : List ℕ) (i : Serial) → AsksOf b at len earlier i → WasAnswered c (entries t) d earlier (answer.Did (outcome.Data bytes)) → Acted c t w i at len bytes
  acted earlier bytes i one k = over k.entry.what (stood c t h rest k.later k.entry k.before k.split) k.gave
    where
      over : (r : Record) → Stood c t r k.before → IsAnsweredBy c k.before d earlier (answer.Did (outcome.Data bytes)) r → Acted c t w i at len bytes
      over (says.Act e j n o result) st gave = record { epoch = e; number = n; before = k.before; there = it; inside = inside }
        where
          its : IsAnsweredBy c (entries st.older) d earlier (answer.Did (outcome.Data bytes)) (says.Act e j n o result)
          its = subst (λ (y : Trace). IsAnsweredBy c y d earlier (answer.Did (outcome.Data bytes)) (says.Act e j n o result)) (sym st.same) gave

          step : IsStepOf c (entries st.older) e (call_of_act (entries st.older) e j n) (want.Do j o)
          step = st.may.row.step

          mine : step.call ≡ d
          mine = same_call_eq step.call d (subst (λ (z : Option CallId). is_call z d ≡ true) step.owned its.0)

          there : call_named (entries st.older) d ≡ Some step.step.accepted
          there = subst (λ (y : CallId). call_named (entries st.older) y ≡ Some step.step.accepted) mine step.step.named

          same : step.step.accepted ≡ w
          same = some_same step.step.accepted w (sym (named_then c t h rest (says.Act e j n o result) k.before st d step.step.accepted there) ∙ named)

          then : call_named (entries st.older) d ≡ Some w
          then = there ∙ ap Some same

          began : begun (entries st.older) d ≡ Some b
          began = sym (begun_then c t h rest (says.Act e j n o result) k.before st d (w, then)) ∙ starts

          inside : w.epoch ≡ Some e
          inside = ap (λ (y : Waiting). y.epoch) (sym same) ∙ step.step.made_in

          asked : wants c.mounts (is_packed_in c (entries st.older) w.epoch) (lowest_free (descriptor (entries st.older) w.site w.process)) (call.Read fd at len) b earlier ≡ want.Do j o
          asked = sym (read_wants c (entries st.older) d w b fd at len earlier then began reads) ∙ subst (λ (xs : Answers). wants_after c (entries st.older) d xs ≡ want.Do j o) its.1
              (subst (λ (y : CallId). wants_after c (entries st.older) y (answers c (entries st.older) y) ≡ want.Do j o) mine step.asked)

          which : (j ≡ i) × (o ≡ op.Read at len)
          which = one j o (asks_read c.mounts (is_packed_in c (entries st.older) w.epoch) (lowest_free (descriptor (entries st.older) w.site w.process)) fd at len b earlier j o asked)

          it : Stood c t (says.Act e i n (op.Read at len) (outcome.Data bytes)) k.before
          it = subst (λ (z : Outcome). Stood c t (says.Act e i n (op.Read at len) z) k.before) (did_data result bytes its.2)
              (subst (λ (p : Op). Stood c t (says.Act e i n p result) k.before) which.1 (subst (λ (y : Serial). Stood c t (says.Act e y n o result) k.before) which.0 st))
      over (says.Look e who request f q result) st gave = absurd (not_did (look_answer c k.before f q result) (outcome.Data bytes) (look_no c k.before f q result) gave.2)
      over (says.Grant e who request j m f stamp ss) st gave = absurd (not_did (granted_answer m j f stamp (kept_in c k.before e f)) (outcome.Data bytes) (grant_no m j f stamp (kept_in c k.before e f)) gave.2)
      over (says.Refuse e who request j m f why) st gave = absurd (not_did (answer.Refused why) (outcome.Data bytes) tt gave.2)
      over (says.Release e j f stamp) st gave = absurd (not_did (close_answer stamp (instance_in (tree_of c e f.group k.before) j)) (outcome.Data bytes) (close_no stamp (instance_in (tree_of c e f.group k.before) j)) gave.2)
      over _ st gave = absurd gave

-- ---- where a read begins ----

-- by a steady descriptor a read begins on the instance that holds it, or opens its version again, or is denied outside epochs
pub data BeginsSteady (now : Option EpochId) (x : Descriptor) (v : OneVersion) (b : Beginning) : Type 0 where
  Held : b ≡ begins.Uses x.epoch x.inst → is_in now x.epoch ≡ true → BeginsSteady now x v b
  Again : (e : EpochId) → now ≡ Some e → b ≡ begins.Reopens v x.epoch → BeginsSteady now x v b
  Outside : b ≡ begins.Denied refusal.NoPartition → BeginsSteady now x v b

pub begins_steady : (now : Option EpochId) (x : Descriptor) (v : OneVersion) → x.steady ≡ Some v → BeginsSteady now x v (begins_read now (Some x))
begins_steady now x v keeps = over (is_in now x.epoch) refl
  where
    again : (o : Option EpochId) → now ≡ o → begins_again now x.epoch v ≡ begins_again o x.epoch v
    again o is = ap (λ (z : Option EpochId). begins_again z x.epoch v) is

    stale : stale_or (begins_again now x.epoch) x.epoch x.steady ≡ begins_again now x.epoch v
    stale = ap (stale_or (begins_again now x.epoch) x.epoch) keeps

    at : (q : Bool) → is_in now x.epoch ≡ q → begins_read now (Some x) ≡ cond q (begins.Uses x.epoch x.inst) (begins_again now x.epoch v)
    at q is = ap (λ (z : Bool). cond z (begins.Uses x.epoch x.inst) (stale_or (begins_again now x.epoch) x.epoch x.steady)) is ∙ ap (cond q (begins.Uses x.epoch x.inst)) stale

    out : (o : Option EpochId) → now ≡ o → is_in now x.epoch ≡ false → BeginsSteady now x v (begins_read now (Some x))
    out None is left = Outside (at false left ∙ again None is)
    out (Some e) is left = Again e is (at false left ∙ again (Some e) is)

    over : (q : Bool) → is_in now x.epoch ≡ q → BeginsSteady now x v (begins_read now (Some x))
    over true is = Held (at true is) is
    over false is = out now refl is

-- ---- a read that gives bytes ----

pub data_of_version : (c : Config) (t : List Line) (h : IsFollowed c t) (rest : EachRest c t) (w : Waiting) (fd at len : ℕ) (x : Descriptor) (v : OneVersion) (bytes : List ℕ) → Among w (waiting (entries t)) → w.words ≡ call.Read fd at len → call_named (entries t) w.call ≡ Some w →
    descriptor (entries t) w.site w.process fd ≡ Some x → x.steady ≡ Some v → GrantedOn t x.epoch x.inst v → wants_next c (entries t) w.call ≡ want.Give (reply.Data bytes) → OfVersion c t v at len bytes
data_of_version c t h rest w fd at len x v bytes among reads named found keeps granted gives = by (begins_steady w.epoch x v keeps)
  where
    d : CallId
    d = w.call

    starts : begun (entries t) d ≡ Some (begins_read w.epoch (Some x))
    starts = began_as_now c t h rest w fd at len among reads ∙ ap (λ (o : Option Descriptor). Some (begins_read w.epoch o)) found

    got : (b : Beginning) → begins_read w.epoch (Some x) ≡ b → IsRead b (answers c (entries t) d) bytes
    got b is = read_is c.mounts (is_packed_in c (entries t) w.epoch) (lowest_free (descriptor (entries t) w.site w.process)) fd at len b (answers c (entries t) d) bytes
        (sym (read_wants c (entries t) d w b fd at len (answers c (entries t) d) named (starts ∙ ap Some is) reads) ∙ gives)

    uses_epoch : (e g : EpochId) (i j : Serial) → begins.Uses e i ≡ begins.Uses g j → i ≡ j
    uses_epoch e g i j k = cc

    no_again : (e : EpochId) (i : Serial) (k : OneVersion) (l : EpochId) → begins.Uses e i ≡ begins.Reopens k l → ⊥
    no_again e i k l q = cc

    no_use : (e : EpochId) (i : Serial) (k : OneVersion) (l : EpochId) → begins.Reopens k l ≡ begins.Uses e i → ⊥
    no_use e i k l q = cc

    denied : (e : EpochId) (i : Serial) → begins.Denied refusal.NoPartition ≡ begins.Uses e i → ⊥
    denied e i q = cc

    denied_again : (k : OneVersion) (l : EpochId) → begins.Denied refusal.NoPartition ≡ begins.Reopens k l → ⊥
    denied_again k l q = cc

    same_kept : (k : OneVersion) (l m : EpochId) → begins.Reopens v l ≡ begins.Reopens k m → v ≡ k
    same_kept k l m q = cc

    some_more : (a : Answer) (xs : Answers) → [] ≡ a ∷ xs → ⊥
    some_more a xs q = cc

    heads : (i j : Serial) (g k : OneVersion) (xs : Answers) → answer.Reading i g ∷ xs ≡ answer.Reading j k ∷ [] → i ≡ j
    heads i j g k xs q = cc

    by : BeginsSteady w.epoch x v (begins_read w.epoch (Some x)) → OfVersion c t v at len bytes
    by (Held is inside) = over (got (begins.Uses x.epoch x.inst) is)
      where
        one : AsksOf (begins.Uses x.epoch x.inst) at len [] x.inst
        one j o (inl k) = (sym (uses_epoch x.epoch k.epoch x.inst j k.begun), k.read)
        one j o (inr k) = absurd (no_again x.epoch x.inst k.kept k.last k.begun)

        over : IsRead (begins.Uses x.epoch x.inst) (answers c (entries t) d) bytes → OfVersion c t v at len bytes
        over (inl k) =
            let a : Acted c t w x.inst at len bytes = acted c t h rest d w named (begins.Uses x.epoch x.inst) (starts ∙ ap Some is) fd at len reads [] bytes x.inst one (was_answered c (entries t) d [] (answer.Did (outcome.Data bytes)) k.answered) in
            let same : a.epoch ≡ x.epoch = same_epoch_eq a.epoch x.epoch (subst (λ (o : Option EpochId). is_in o x.epoch ≡ true) a.inside inside) in
            read_of c t h rest v a.epoch x.inst a.number at len bytes a.before a.there (subst (λ (e : EpochId). GrantedOn t e x.inst v) (sym same) granted)
        over (inr k) = absurd (no_again x.epoch x.inst k.kept k.last k.begun)
    by (Again e now is) = over (got (begins.Reopens v x.epoch) is)
      where
        over : IsRead (begins.Reopens v x.epoch) (answers c (entries t) d) bytes → OfVersion c t v at len bytes
        over (inl k) = absurd (no_use k.epoch k.inst v x.epoch k.begun)
        over (inr k) = read_of c t h rest v a.epoch k.inst a.number at len bytes a.before a.there (subst (λ (y : EpochId). GrantedOn t y k.inst v) (sym same) it)
          where
            one : AsksOf (begins.Reopens v x.epoch) at len (answer.Reading k.inst k.granted ∷ []) k.inst
            one j o (inl q) = absurd (no_use q.epoch j v x.epoch q.begun)
            one j o (inr q) = (sym (heads k.inst j k.granted q.granted [] q.answered), q.read)

            a : Acted c t w k.inst at len bytes
            a = acted c t h rest d w named (begins.Reopens v x.epoch) (starts ∙ ap Some is) fd at len reads (answer.Reading k.inst k.granted ∷ []) bytes k.inst one (was_answered c (entries t) d (answer.Reading k.inst k.granted ∷ []) (answer.Did (outcome.Data bytes)) k.answered)

            same : a.epoch ≡ e
            same = some_same a.epoch e (sym a.inside ∙ now)

            again : ReadsAgain c t e d v
            again = reads_again_so c d w fd at len reads v x.epoch e now t h named (starts ∙ ap Some is)

            its : GrantedAgain t e d v k.inst k.granted
            its = (subst (Every (AnswerGranted t e d v)) k.answered again.granted).0

            stamp_is : k.granted.stamp ≡ v.stamp
            stamp_is = same_stamp_eq k.granted.stamp k.kept.stamp k.same ∙ ap (λ (y : OneVersion). y.stamp) (sym (same_kept k.kept x.epoch k.last k.begun))

            it : GrantedOn t e k.inst v
            it = record { call = d; request = its.request; place = its.place; was_granted = subst (λ (s : Stamp). WasGranted t e d its.request k.inst mode.Read v.file (Some s) its.place) stamp_is its.was_granted }
    by (Outside is) = over (got (begins.Denied refusal.NoPartition) is)
      where
        over : IsRead (begins.Denied refusal.NoPartition) (answers c (entries t) d) bytes → OfVersion c t v at len bytes
        over (inl k) = absurd (denied k.epoch k.inst k.begun)
        over (inr k) = absurd (denied_again k.kept k.last k.begun)
