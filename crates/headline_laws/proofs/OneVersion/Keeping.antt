-- What a steady descriptor stands for was granted to read, on the version that it keeps: at its open, and wherever a read has opened it again.
use Rattle.std.proofs.Common.{◌≡◌, ℕ, ◌==◌, Bool, true, false, cond, ◌&&◌, List, [], ◌∷◌, Option, Some, None, refl, sym, ◌∙◌, ap, subst, inl, inr}
use Rattle.std.specs.Option.{option_map}
use Rattle.plain_facts.proofs.Numbers.{equal}
use Rattle.plain_facts.proofs.Options.{none_some, some_same}
use Rattle.plain_facts.proofs.Tests.{true_false}
use Rattle.locus_ids.specs.declared.config.Config.{Config}
use Rattle.locus_ids.specs.declared.ids.CallId.{CallId}
use Rattle.locus_ids.specs.declared.ids.EpochId.{EpochId}
use Rattle.locus_ids.specs.declared.ids.FileId.{FileId}
use Rattle.locus_ids.specs.declared.ids.Mode.{Mode}
use Rattle.locus_ids.specs.declared.ids.Mode.TheVariants as mode
use Rattle.locus_ids.specs.declared.ids.Serial.{Serial}
use Rattle.locus_ids.specs.declared.ids.Stamp.{Stamp}
use Rattle.locus_ids.specs.declared.refusal.Refusal.TheVariants as refusal
use Rattle.trace_book.specs.Same.{same_call}
use Rattle.trace_book.specs.declared.call.Call.{Call}
use Rattle.trace_book.specs.declared.call.Call.TheVariants as call
use Rattle.trace_book.specs.declared.call.OpenMode.TheVariants as opens
use Rattle.trace_book.specs.declared.descriptor.Beginning.TheVariants as begins
use Rattle.trace_book.specs.declared.descriptor.Descriptor.{Descriptor}
use Rattle.trace_book.specs.declared.descriptor.OneVersion.{OneVersion}
use Rattle.trace_book.specs.declared.record.Record.{Record}
use Rattle.trace_book.specs.declared.record.Record.TheVariants as says
use Rattle.trace_book.specs.declared.reply.Reply.{Reply}
use Rattle.trace_book.specs.declared.reply.Reply.TheVariants as reply
use Rattle.call_rules.specs.declared.answer.Answer.TheVariants as answer
use Rattle.call_rules.specs.declared.want.Want.{Want}
use Rattle.call_rules.specs.declared.want.Want.TheVariants as want
use Rattle.call_rules.specs.Descriptors.{begins_read, lowest_free}
use Rattle.call_rules.specs.Opening.{is_steady}
use Rattle.role_steps.specs.Own.{Every}
use Rattle.role_steps.specs.Using.{last_version}
use Rattle.role_steps.specs.Views.{Told, Shown}
use Rattle.the_run.specs.Worlds.{Line}
use Rattle.tree_model.specs.declared.accepted.Waiting.{Waiting}
use Rattle.tree_model.specs.Calls.{call_named, opening_of, version_at, version_of, waiting}
use Rattle.lawful_trace.specs.CallRows.{is_this}
use Rattle.lawful_trace.specs.Progress.{Answers, answers, is_packed_in, left_epoch, now_wants, unless_left, wants_next}
use Rattle.lawful_trace.specs.Tables.{begun, closed_by, descriptor, held_again, kept_by, opened_as, opened_by, reads_by}
use Rattle.lawful_trace.specs.TreeRows.{IsCallIn}
use Rattle.tree_laws.specs.Calls.{heard}
use Rattle.tree_laws.specs.Following.{IsFollowed, MayTell}
use Rattle.tree_laws.specs.Past.{WasGranted}
use Rattle.tree_laws.specs.Printed.{entries, onto_entries}
use Rattle.tree_laws.proofs.Boots.{found_every}
use Rattle.tree_laws.proofs.Names.{same_call_eq}
use Rattle.tree_laws.proofs.Naming.{open_inside}
use Rattle.tree_laws.proofs.Reopening.{FromSteady, reopens_from}
use Rattle.tree_laws.proofs.Waiting.{accepted, found_among}
use Rattle.the_run.specs.Kept.{Among}
use Rattle.tree_laws.proofs.Orders.Standing.{same_stamp_eq}
use Rattle.calm_laws.specs.of_store_laws.OneTree.Rest.{EachRest}
use Rattle.row_laws.specs.Shown.{EachRecord}
use Rattle.calm_laws.proofs.of_store_laws.ScriptLasting.{opened_from}
use Rattle.calm_laws.proofs.of_store_laws.ScriptFitting.{ReadWords}
use Rattle.calm_laws.proofs.of_store_laws.ScriptNaming.{Rereads, RereadsIn, named_reads}
use Rattle.calm_laws.proofs.of_store_laws.ScriptOpened.{last_so}
use Rattle.headline_laws.specs.Prompting.Given.{IsGiven, IsGivenRow}
use Rattle.steady_laws.specs.Reads.{IsRead}
use Rattle.steady_laws.proofs.Reading.{read_is}
use Rattle.headline_laws.proofs.OneVersion.Asks.{read_wants}
use Rattle.headline_laws.proofs.OneVersion.Granted.{AnswerGranted, GrantedAgain, LastGrant, ReadsAgain, last_grant, reads_again_so}
use Rattle.rest_laws.proofs.StoreStepReading.{began_as_now}

-- the instance was granted to read, on this version
pub record GrantedOn (t : List Line) (e : EpochId) (i : Serial) (v : OneVersion) : Type 0 where
  pub call : CallId
  pub request : ℕ
  pub place : ℕ
  pub was_granted : WasGranted t e call request i mode.Read v.file (Some v.stamp) place

abbrev With : ℕ → Told → List Line → List Line
With n x older = record { number = n; told = x } ∷ older

granted_more : (x : Line) (t : List Line) (e : EpochId) (i : Serial) (v : OneVersion) → GrantedOn t e i v → GrantedOn (x ∷ t) e i v
granted_more x t e i v k = record { call = k.call; request = k.request; place = k.place; was_granted = inr k.was_granted }

-- ---- of a call that opened ----

version_some : (f : FileId) (s : Option Stamp) (g : OneVersion) → version_at f s ≡ Some g → (f ≡ g.file) × (s ≡ Some g.stamp)
version_some f None g e = absurd (none_some g e)
version_some f (Some s) g e = (let same : record { file = f; stamp = s } ≡ g = some_same (record { file = f; stamp = s }) g e in (ap (λ (v : OneVersion). v.file) same, ap (λ (v : OneVersion). Some v.stamp) same))

opened_mode : (o : Option Descriptor) (m : Mode) (e : EpochId) (xs : Answers) (x : Descriptor) → ((y : Descriptor) → o ≡ Some y → y.mode ≡ m) → opened_from o m e xs ≡ Some x → x.mode ≡ m
opened_mode o m e [] x own is = own x is
opened_mode o m e (answer.Opened inst ino ∷ rest) x own is = opened_mode (Some (record { mode = m; epoch = e; inst = inst; steady = None })) m e rest x (λ y k. ap (λ (z : Descriptor). z.mode) (sym (some_same (record { mode = m; epoch = e; inst = inst; steady = None }) y k))) is
opened_mode o m e (answer.Reading inst version ∷ rest) x own is = opened_mode (Some (record { mode = m; epoch = e; inst = inst; steady = None })) m e rest x (λ y k. ap (λ (z : Descriptor). z.mode) (sym (some_same (record { mode = m; epoch = e; inst = inst; steady = None }) y k))) is
opened_mode o m e (_ ∷ rest) x own is = opened_mode o m e rest x own is

steady_open : (words : Call) → is_steady words ≡ true → (path : List ℕ) × (words ≡ call.Open path opens.Steady)
steady_open (call.Open path opens.Steady) e = (path, refl)
steady_open words e = absurd (true_false (sym e))

module _ (c : Config) (t : List Line) (h : IsFollowed c t) (rest : EachRest c t) (d : CallId) (w : Waiting) (named : call_named (entries t) d ≡ Some w) (x : Descriptor) (opened : opening_of (entries t) d ≡ Some x) where
  inside : IsCallIn (entries t) x.epoch d
  inside = open_inside c t h d x opened

  made : w.epoch ≡ Some x.epoch
  made = ap (λ (y : Waiting). y.epoch) (some_same w inside.accepted (sym named ∙ inside.named)) ∙ inside.made_in

  last : LastGrant t d x
  last = last_grant t d x opened

  -- on the version that was granted last, where that was granted to read
  granted_on : (v : OneVersion) → x.mode ≡ mode.Read → version_of (entries t) d ≡ Some v → GrantedOn t x.epoch x.inst v
  granted_on v reads is = (let its : (last.file ≡ v.file) × (last.stamp ≡ Some v.stamp) = version_some last.file last.stamp v (sym last.version_is ∙ is) in record {
    call = d;
    request = last.request;
    place = last.place;
    was_granted = subst (λ (m : Mode). WasGranted t x.epoch d last.request x.inst m v.file (Some v.stamp) last.place) reads
        (subst (λ (f : FileId). WasGranted t x.epoch d last.request x.inst x.mode f (Some v.stamp) last.place) its.0 (subst (λ (s : Option Stamp). WasGranted t x.epoch d last.request x.inst x.mode last.file s last.place) its.1 last.was_granted));
  })

  -- by a steady open
  opened_steady : (v : OneVersion) → is_steady w.words ≡ true → version_of (entries t) d ≡ Some v → GrantedOn t x.epoch x.inst v
  opened_steady v steady is = granted_on v reading is
    where
      words : (path : List ℕ) × (w.words ≡ call.Open path opens.Steady)
      words = steady_open w.words steady

      reading : x.mode ≡ mode.Read
      reading = opened_mode None mode.Read x.epoch (heard c t d) x (λ y k. absurd (none_some y k)) (sym (last_so c t h d opens.Steady x.epoch (record { caller = w; named = named; opens_in = inl words; made_in = made })) ∙ opened)

  -- by a read, which gave what it read
  opened_again : (fd at len : ℕ) (kept : OneVersion) (from : EpochId) (bytes : List ℕ) → w.words ≡ call.Read fd at len → begun (entries t) d ≡ Some (begins.Reopens kept from) → wants_next c (entries t) d ≡ want.Give (reply.Data bytes) → GrantedOn t x.epoch x.inst kept
  opened_again fd at len kept from bytes reads starts gives = over (read_is c.mounts (is_packed_in c (entries t) w.epoch) (lowest_free (descriptor (entries t) w.site w.process)) fd at len (begins.Reopens kept from) (answers c (entries t) d) bytes
      (sym (read_wants c (entries t) d w (begins.Reopens kept from) fd at len (answers c (entries t) d) named starts reads) ∙ gives))
    where
      reading : x.mode ≡ mode.Read
      reading = opened_mode None mode.Read x.epoch (heard c t d) x (λ y k. absurd (none_some y k)) (sym (last_so c t h d opens.Read x.epoch (record { caller = w; named = named; opens_in = inr (subst ReadWords (sym reads) tt, refl); made_in = made })) ∙ opened)

      again : ReadsAgain c t x.epoch d kept
      again = reads_again_so c d w fd at len reads kept from x.epoch made t h named starts

      no_use : (e : EpochId) (i : Serial) → begins.Reopens kept from ≡ begins.Uses e i → ⊥
      no_use e i k = cc

      over : IsRead (begins.Reopens kept from) (answers c (entries t) d) bytes → GrantedOn t x.epoch x.inst kept
      over (inl k) = absurd (no_use k.epoch k.inst k.begun)
      over (inr k) = granted_on kept reading (again.version_is ∙ (ap (last_version None) k.answered ∙ ap Some same))
        where
          kept_is : k.kept ≡ kept
          kept_is = by k.begun
            where
              by : begins.Reopens kept from ≡ begins.Reopens k.kept k.last → k.kept ≡ kept
              by q = cc

          it : GrantedAgain t x.epoch d kept k.inst k.granted
          it = (subst (Every (AnswerGranted t x.epoch d kept)) k.answered again.granted).0

          stamp_is : k.granted.stamp ≡ kept.stamp
          stamp_is = same_stamp_eq k.granted.stamp k.kept.stamp k.same ∙ ap (λ (v : OneVersion). v.stamp) kept_is

          same : k.granted ≡ kept
          same = λ i. record { file = it.file_is i; stamp = stamp_is i }

-- ---- a reply that is given ----

-- where it gives what was read, its site has left no epoch
data_given : (o : Option EpochId) (w : Want) (bytes : List ℕ) → unless_left o w ≡ want.Give (reply.Data bytes) → w ≡ want.Give (reply.Data bytes)
data_given None w bytes e = e
data_given (Some at) w bytes e = absurd (other e)
  where
    other : want.Give (reply.No (refusal.Changed at)) ≡ want.Give (reply.Data bytes) → ⊥
    other k = cc

parts : (a b c : Bool) → (a && b && c) ≡ true → (a ≡ true) × ((b ≡ true) × (c ≡ true))
parts true true true t = (refl, (refl, refl))
parts true true false t = absurd (true_false (sym t))
parts true false c t = absurd (true_false (sym t))
parts false b c t = absurd (true_false (sym t))

-- the call that is answered waits
pub record Answered (c : Config) (t : List Line) (s process : ℕ) (d : CallId) (r : Reply) : Type 0 where
  pub caller : Waiting
  pub among : Among caller (waiting (entries t))
  pub site_is : caller.site ≡ s
  pub process_is : caller.process ≡ process
  pub call_is : caller.call ≡ d
  pub named : call_named (entries t) d ≡ Some caller
  pub gives : now_wants c (entries t) caller ≡ want.Give r

pub answered : (c : Config) (t : List Line) → IsFollowed c t → (s process : ℕ) (d : CallId) (r : Reply) → IsGiven c (entries t) s process d r → Answered c t s process d r
answered c t h s process d r k = record {
  caller = k.caller;
  among = found_among (is_this s process d) (waiting (entries t)) k.caller k.waits;
  site_is = equal k.caller.site s its.0;
  process_is = equal k.caller.process process its.1.0;
  call_is = same_call_eq k.caller.call d its.1.1;
  named = subst (λ (y : CallId). call_named (entries t) y ≡ Some k.caller) (same_call_eq k.caller.call d its.1.1) found.0;
  gives = k.gives;
}
  where
    found : (call_named (entries t) k.caller.call ≡ Some k.caller) × (is_this s process d k.caller ≡ true)
    found = found_every (λ (x : Waiting). call_named (entries t) x.call ≡ Some x) (is_this s process d) (waiting (entries t)) k.caller k.waits (accepted c t h).waits

    its : (k.caller.site == s ≡ true) × ((k.caller.process == process ≡ true) × (same_call k.caller.call d ≡ true))
    its = parts (k.caller.site == s) (k.caller.process == process) (same_call k.caller.call d) found.1

-- ---- all descriptors ----

abbrev AllKept : List Line → Type 0
AllKept t = (s process fd : ℕ) (x : Descriptor) (v : OneVersion) → descriptor (entries t) s process fd ≡ Some x → x.steady ≡ Some v → GrantedOn t x.epoch x.inst v

closed_left : (words : Call) (fd : ℕ) (old : Option Descriptor) (x : Descriptor) → closed_by words fd old ≡ Some x → old ≡ Some x
closed_left (call.Close n) fd old x e = over (n == fd) e
  where
    over : (b : Bool) → cond b None old ≡ Some x → old ≡ Some x
    over true k = absurd (none_some x k)
    over false k = k
closed_left words fd old x e = e

module _ (c : Config) (n : ℕ) (older : List Line) (h : IsFollowed c older) (rest : EachRest c older) (k : AllKept older) where
  kept_answer : (s process : ℕ) (d : CallId) (r : Reply) → MayTell c older (Shown (says.Answer s process d r)) → IsGiven c (entries older) s process d r → (fd : ℕ) (x : Descriptor) (v : OneVersion) → opened_by r (entries older) d fd (descriptor (entries older) s process fd) ≡ Some x → x.steady ≡ Some v → GrantedOn older x.epoch x.inst v
  kept_answer s process d (reply.Opened m) may given fd x v is keeps = over (m == fd) is
    where
      kept : (o : Option Waiting) → call_named (entries older) d ≡ o → kept_by o (version_of (entries older) d) ≡ Some v → (w : Waiting) × (call_named (entries older) d ≡ Some w) × (is_steady w.words ≡ true) × (version_of (entries older) d ≡ Some v)
      kept None e q = absurd (none_some v q)
      kept (Some w) e q = by (is_steady w.words) refl q
        where
          by : (b : Bool) → is_steady w.words ≡ b → cond b (version_of (entries older) d) None ≡ Some v → (y : Waiting) × (call_named (entries older) d ≡ Some y) × (is_steady y.words ≡ true) × (version_of (entries older) d ≡ Some v)
          by true p q = (w, e, p, q)
          by false p q = absurd (none_some v q)

      found : (o : Option Descriptor) → opening_of (entries older) d ≡ o → option_map (λ (y : Descriptor). record y { steady = kept_by (call_named (entries older) d) (version_of (entries older) d) }) o ≡ Some x → GrantedOn older x.epoch x.inst v
      found None e q = absurd (none_some x q)
      found (Some y) e q =
          let same : record y { steady = kept_by (call_named (entries older) d) (version_of (entries older) d) } ≡ x = some_same (record y { steady = kept_by (call_named (entries older) d) (version_of (entries older) d) }) x q in
          let its : (w : Waiting) × (call_named (entries older) d ≡ Some w) × (is_steady w.words ≡ true) × (version_of (entries older) d ≡ Some v) = kept (call_named (entries older) d) refl (ap (λ (z : Descriptor). z.steady) same ∙ keeps) in
          subst (λ (z : Descriptor). GrantedOn older z.epoch z.inst v) same (opened_steady c older h rest d its.0 its.1 y e v its.2 its.3)

      over : (b : Bool) → cond b (opened_as (entries older) d) (descriptor (entries older) s process fd) ≡ Some x → GrantedOn older x.epoch x.inst v
      over true q = found (opening_of (entries older) d) refl q
      over false q = k s process fd x v q keeps
  kept_answer s process d (reply.Data bytes) may given fd x v is keeps = over (reads_by (call_named (entries older) d) fd) refl is
    where
      old : Option Descriptor
      old = descriptor (entries older) s process fd

      who : Answered c older s process d (reply.Data bytes)
      who = answered c older h s process d (reply.Data bytes) given

      gives : wants_next c (entries older) d ≡ want.Give (reply.Data bytes)
      gives = subst (λ (y : CallId). wants_next c (entries older) y ≡ want.Give (reply.Data bytes)) who.call_is (data_given (left_epoch (entries older) who.caller) (wants_next c (entries older) who.caller.call) bytes who.gives)

      again : reads_by (call_named (entries older) d) fd ≡ true → (y : Descriptor) → opening_of (entries older) d ≡ Some y → (z : Descriptor) → old ≡ Some z → z.steady ≡ Some v → GrantedOn older y.epoch y.inst v
      again number y opened z was its = subst (GrantedOn older y.epoch y.inst) kept_is (opened_again c older h rest d who.caller who.named y opened b.fd b.at b.len b.kept b.last bytes b.words_are starts gives)
        where
          read : RereadsIn older d who.caller.words
          read = named_reads c older d y bytes who.caller may.in_time opened who.named

          b : Rereads who.caller.words read.0
          b = read.2

          starts : begun (entries older) d ≡ Some (begins.Reopens b.kept b.last)
          starts = read.1 ∙ ap Some b.begins_are

          fd_is : b.fd ≡ fd
          fd_is = equal b.fd fd (subst (λ (ws : Call). reads_by (Some (record who.caller { words = ws })) fd ≡ true) b.words_are (subst (λ (o : Option Waiting). reads_by o fd ≡ true) who.named number))

          now : begins_read who.caller.epoch (descriptor (entries older) who.caller.site who.caller.process b.fd) ≡ begins.Reopens b.kept b.last
          now = some_same (begins_read who.caller.epoch (descriptor (entries older) who.caller.site who.caller.process b.fd)) (begins.Reopens b.kept b.last)
              (sym (began_as_now c older h rest who.caller b.fd b.at b.len who.among b.words_are) ∙ (ap (begun (entries older)) who.call_is ∙ starts))

          from : FromSteady (descriptor (entries older) who.caller.site who.caller.process) (call.Read b.fd b.at b.len) b.kept b.last
          from = reopens_from b.kept b.last (descriptor (entries older) who.caller.site who.caller.process) who.caller.epoch d (call.Read b.fd b.at b.len) now

          from_fd : from.fd ≡ fd
          from_fd = by from.words_are ∙ fd_is
            where
              by : call.Read b.fd b.at b.len ≡ call.Read from.fd from.at from.len → from.fd ≡ b.fd
              by q = cc

          same : from.stands ≡ z
          same = some_same from.stands z (sym from.found ∙ (ap (descriptor (entries older) who.caller.site who.caller.process) from_fd ∙ (ap (λ (m : ℕ). descriptor (entries older) m who.caller.process fd) who.site_is ∙ (ap (λ (m : ℕ). descriptor (entries older) s m fd) who.process_is ∙ was))))

          kept_is : b.kept ≡ v
          kept_is = some_same b.kept v (sym from.keeps ∙ (ap (λ (q : Descriptor). q.steady) same ∙ its))

      onto : reads_by (call_named (entries older) d) fd ≡ true → (y : Descriptor) → opening_of (entries older) d ≡ Some y → (o : Option Descriptor) → old ≡ o → option_map (λ (z : Descriptor). record y { steady = z.steady }) o ≡ Some x → GrantedOn older x.epoch x.inst v
      onto number y opened None was q = absurd (none_some x q)
      onto number y opened (Some z) was q =
          let same : record y { steady = z.steady } ≡ x = some_same (record y { steady = z.steady }) x q in
          subst (λ (u : Descriptor). GrantedOn older u.epoch u.inst v) same (again number y opened z was (ap (λ (u : Descriptor). u.steady) same ∙ keeps))

      found : reads_by (call_named (entries older) d) fd ≡ true → (o : Option Descriptor) → opening_of (entries older) d ≡ o → held_again o old ≡ Some x → GrantedOn older x.epoch x.inst v
      found number None opened q = k s process fd x v q keeps
      found number (Some y) opened q = onto number y opened old refl q

      over : (b : Bool) → reads_by (call_named (entries older) d) fd ≡ b → cond b (held_again (opening_of (entries older) d) old) old ≡ Some x → GrantedOn older x.epoch x.inst v
      over true number q = found number (opening_of (entries older) d) refl q
      over false number q = k s process fd x v q keeps
  kept_answer s process d r may given fd x v is keeps = k s process fd x v is keeps

  more : (x : Told) (e : EpochId) (i : Serial) (v : OneVersion) → GrantedOn older e i v → GrantedOn (With n x older) e i v
  more x e i v g = granted_more (record { number = n; told = x }) older e i v g

  kept_record : (r : Record) → MayTell c older (Shown r) → IsGivenRow c (entries older) (record { line = n; what = r }) → AllKept (With n (Shown r) older)
  kept_record (says.Accept s process d words) may given t p fd x v is keeps = more (Shown (says.Accept s process d words)) x.epoch x.inst v (k t p fd x v (over ((s == t) && (process == p)) is) keeps)
    where
      over : (b : Bool) → cond b (closed_by words fd (descriptor (entries older) t p fd)) (descriptor (entries older) t p fd) ≡ Some x → descriptor (entries older) t p fd ≡ Some x
      over true q = closed_left words fd (descriptor (entries older) t p fd) x q
      over false q = q
  kept_record (says.Answer s process d r) may given t p fd x v is keeps = more (Shown (says.Answer s process d r)) x.epoch x.inst v (over (s == t) (process == p) refl refl is)
    where
      over : (a b : Bool) → (s == t) ≡ a → (process == p) ≡ b → cond (a && b) (opened_by r (entries older) d fd (descriptor (entries older) t p fd)) (descriptor (entries older) t p fd) ≡ Some x → GrantedOn older x.epoch x.inst v
      over true true e f q = kept_answer s process d r may given fd x v (subst (λ (m : ℕ). opened_by r (entries older) d fd (descriptor (entries older) s m fd) ≡ Some x) (sym (equal process p f)) (subst (λ (m : ℕ). opened_by r (entries older) d fd (descriptor (entries older) m p fd) ≡ Some x) (sym (equal s t e)) q)) keeps
      over true false e f q = k t p fd x v q keeps
      over false b e f q = k t p fd x v q keeps
  kept_record (says.Stopped s cause) may given t p fd x v is keeps = more (Shown (says.Stopped s cause)) x.epoch x.inst v (k t p fd x v (over (s == t) is) keeps)
    where
      over : (b : Bool) → cond b None (descriptor (entries older) t p fd) ≡ Some x → descriptor (entries older) t p fd ≡ Some x
      over true q = absurd (none_some x q)
      over false q = q
  kept_record r may given t p fd x v is keeps = more (Shown r) x.epoch x.inst v (k t p fd x v is keeps)

pub all_kept : (c : Config) (t : List Line) → IsFollowed c t → EachRest c t → EachRecord (IsGivenRow c) (entries t) → AllKept t
all_kept c [] h rest given = λ s process fd x v is. absurd (none_some x is)
all_kept c (y ∷ older) h rest given = over y.told h.0 given (λ g. all_kept c older h.1 rest.1 g)
  where
    over : (z : Told) → MayTell c older z → EachRecord (IsGivenRow c) (onto_entries y.number z (entries older)) → (EachRecord (IsGivenRow c) (entries older) → AllKept older) → AllKept (With y.number z older)
    over (Shown r) may g before = kept_record c y.number older h.1 rest.1 (before g.1) r may g.0
    over z may g before = λ s process fd x v is keeps. granted_more (record { number = y.number; told = z }) older x.epoch x.inst v (before g s process fd x v is keeps)
