-- A read that waits began by what its number stands for still: nobody else of its process calls, so nothing changes the number meanwhile.
use Rattle.std.proofs.Common.{◌≡◌, ℕ, ◌==◌, ◌<◌, Bool, true, false, not, cond, ◌&&◌, List, [], ◌∷◌, Option, Some, None, refl, sym, ◌∙◌, ap, subst, ◌⊎◌, inl, inr}
use Rattle.role_steps.proofs.of_plain_facts.Numbers.{equal, equal_self}
use Rattle.role_steps.proofs.of_plain_facts.Options.{none_some, some_same}
use Rattle.role_steps.proofs.of_plain_facts.Tests.{true_false}
use Rattle.locus_ids.specs.declared.config.Config.{Config}
use Rattle.locus_ids.specs.declared.ids.CallId.{CallId}
use Rattle.locus_ids.specs.declared.ids.EpochId.{EpochId}
use Rattle.locus_ids.specs.Sizes.{descriptor_span}
use Rattle.trace_book.specs.Same.{same_call}
use Rattle.trace_book.specs.declared.call.Call.{Call}
use Rattle.trace_book.specs.declared.call.Call.TheVariants as call
use Rattle.trace_book.specs.declared.descriptor.Beginning.TheVariants as begins
use Rattle.trace_book.specs.declared.descriptor.Descriptor.{Descriptor}
use Rattle.trace_book.specs.declared.descriptor.OneVersion.{OneVersion}
use Rattle.trace_book.specs.declared.record.Record.{Record}
use Rattle.trace_book.specs.declared.record.Record.TheVariants as says
use Rattle.trace_book.specs.declared.reply.Reply.{Reply}
use Rattle.call_rules.specs.Descriptors.{beginning, begins_read}
use Rattle.role_steps.specs.Views.{Told, Shown}
use Rattle.the_run.specs.Kept.{Among}
use Rattle.the_run.specs.Worlds.{Line}
use Rattle.tree_model.specs.declared.accepted.Waiting.{Waiting}
use Rattle.tree_model.specs.Calls.{accepted_as, call_named, is_of, waiting, waiting_of}
use Rattle.tree_model.specs.Epochs.{epoch_of}
use Rattle.tree_model.specs.Folds.{Trace}
use Rattle.lawful_trace.specs.CallRows.{CallRow, is_this}
use Rattle.lawful_trace.specs.Tables.{begins_now, begun, closed_by, descriptor, opened_by}
use Rattle.tree_laws.specs.Following.{IsFollowed, MayTell}
use Rattle.tree_laws.specs.Printed.{entries, onto_entries}
use Rattle.tree_laws.specs.Processes.{IsMend}
use Rattle.tree_laws.proofs.Boots.{found_every}
use Rattle.tree_laws.proofs.Descriptors.{IsPlain}
use Rattle.tree_laws.proofs.Later.{every_among, none_every}
use Rattle.tree_laws.proofs.Looking.{mends_are_system}
use Rattle.tree_laws.proofs.Names.{same_call_eq, same_call_own}
use Rattle.tree_laws.proofs.Reopening.{FromSteady, reopens_from}
use Rattle.tree_laws.proofs.Scripts.{begun_stays}
use Rattle.tree_laws.proofs.Waiting.{accepted, found_among}
use Rattle.store_laws.specs.OneTree.Rest.{AskedCall, EachRest, RangeCall}
use Rattle.store_laws.specs.Users.Rests.{ReadsKept}
use Rattle.store_laws.proofs.ScriptFitted.{began_right}
use Rattle.store_laws.proofs.ScriptFree.{all_alone, among_back, among_passes}
use Rattle.store_laws.proofs.ScriptNaming.{Rereads, rereads_so}
use Rattle.store_laws.proofs.OneTree.UserStepCalling.{words_low}
use Rattle.rest_laws.proofs.StoreStepKnown.{known_call}

abbrev With : ℕ → Told → List Line → List Line
With n x older = record { number = n; told = x } ∷ older

-- ---- a process that reads has one call ----

-- words are those of a mend, or not
mend_or_plain : (words : Call) → IsMend words ⊎ IsPlain words
mend_or_plain (call.Mend file) = inl tt
mend_or_plain words = inr tt

read_plain : (words : Call) (fd at len : ℕ) → words ≡ call.Read fd at len → IsPlain words
read_plain words fd at len is = subst IsPlain (sym is) tt

read_mend : (words : Call) (fd at len : ℕ) → words ≡ call.Read fd at len → IsMend words → ⊥
read_mend words fd at len is m = subst IsMend is m

module _ (c : Config) (t : List Line) (h : IsFollowed c t) (rest : EachRest c t) where
  pub waits_named : (w : Waiting) → Among w (waiting (entries t)) → call_named (entries t) w.call ≡ Some w
  waits_named w among = every_among (λ (v : Waiting). call_named (entries t) v.call ≡ Some v) w (waiting (entries t)) (accepted c t h).waits among

  reads_no_system : (w : Waiting) (fd at len : ℕ) → Among w (waiting (entries t)) → w.words ≡ call.Read fd at len → w.process ≡ 0 → ⊥
  reads_no_system w fd at len among is zero = read_mend w.words fd at len is ((known_call c t h rest w.call w (waits_named w among)).only zero)

  -- another call of its process is the same
  alone : (w v : Waiting) (fd at len : ℕ) → Among w (waiting (entries t)) → Among v (waiting (entries t)) → w.words ≡ call.Read fd at len → w.site ≡ v.site → w.process ≡ v.process → w.call ≡ v.call
  alone w v fd at len p q is site process = over (mend_or_plain v.words)
    where
      over : IsMend v.words ⊎ IsPlain v.words → w.call ≡ v.call
      over (inl m) = absurd (reads_no_system w fd at len p is (process ∙ mends_are_system c t h v.call v (waits_named v q) m))
      over (inr plain) = all_alone c t h w v p q (read_plain w.words fd at len is) plain site process

-- ---- the number of a read that waits ----

abbrev BeganAsNow : Trace → Type 0
BeganAsNow before = (w : Waiting) (fd at len : ℕ) → Among w (waiting before) → w.words ≡ call.Read fd at len → begun before w.call ≡ Some (begins_read w.epoch (descriptor before w.site w.process fd))

cell_same : {A : Type 0} (b : Bool) (x : A) → cond b x x ≡ x
cell_same true x = refl
cell_same false x = refl

both_true : (a b : Bool) → (a && b) ≡ true → (a ≡ true) × (b ≡ true)
both_true true true e = (refl, refl)
both_true true false e = absurd (true_false (sym e))
both_true false b e = absurd (true_false (sym e))

-- a cell that changes only where that can't be
cell_stays : {A : Type 0} (b : Bool) (new old : A) → (b ≡ true → ⊥) → cond b new old ≡ old
cell_stays true new old never = absurd (never refl)
cell_stays false new old never = refl

parts : (a b c : Bool) → (a && b && c) ≡ true → (a ≡ true) × ((b ≡ true) × (c ≡ true))
parts true true true t = (refl, (refl, refl))
parts true true false t = absurd (true_false (sym t))
parts true false c t = absurd (true_false (sym t))
parts false b c t = absurd (true_false (sym t))

row_idle : (c : Config) (before : Trace) (s process : ℕ) (d : CallId) (words : Call) → CallRow c before s process d words → IsPlain words → waiting_of s process (waiting before) ≡ None
row_idle c before s process d (call.Mend file) row plain = absurd plain
row_idle c before s process d words row plain = row.idle

module _ (c : Config) (n : ℕ) (older : List Line) (h : IsFollowed c older) (rest : EachRest c older) (k : BeganAsNow (entries older)) where
  abbrev before : Trace
  before = entries older

  -- what its number stands for is what it was
  still : (x : Told) (may : MayTell c older x) (w : Waiting) (fd at len : ℕ) → Among w (waiting before) → w.words ≡ call.Read fd at len → descriptor (onto_entries n x before) w.site w.process fd ≡ descriptor before w.site w.process fd →
      begun (onto_entries n x before) w.call ≡ Some (begins_read w.epoch (descriptor (onto_entries n x before) w.site w.process fd))
  still x may w fd at len among is same = begun_stays c n x older w.call h may (w, waits_named c older h rest w among) ∙ (k w fd at len among is ∙ ap (λ (o : Option Descriptor). Some (begins_read w.epoch o)) (sym same))

  began_accept : (s process : ℕ) (new : CallId) (words : Call) → MayTell c older (Shown (says.Accept s process new words)) → BeganAsNow (onto_entries n (Shown (says.Accept s process new words)) before)
  began_accept s process new words may w fd at len among is = over among
    where
      after : Trace
      after = onto_entries n (Shown (says.Accept s process new words)) before

      it : Waiting
      it = accepted_as before s process new words

      old : Option Descriptor
      old = descriptor before s process fd

      -- the new call
      own : (y : Call) → words ≡ y → y ≡ call.Read fd at len → begun after new ≡ Some (begins_read (epoch_of before s) (descriptor after s process fd))
      own y same reads = ap (λ (b : Bool). cond b (Some (begins_now before s process new words)) (begun before new)) (same_call_own new)
          ∙ (ap (λ (z : Call). Some (beginning (descriptor before s process) (epoch_of before s) new z)) (same ∙ reads)
          ∙ ap (λ (o : Option Descriptor). Some (begins_read (epoch_of before s) o)) (sym (ap (λ (z : Call). cond ((s == s) && (process == process)) (closed_by z fd old) old) (same ∙ reads) ∙ cell_same ((s == s) && (process == process)) old)))

      -- an earlier one, of another process where this is no mend
      never : Among w (waiting before) → IsPlain words → ((s == w.site) && (process == w.process)) ≡ true → ⊥
      never p plain e = true_false (sym (both (w.site == s) (w.process == process) (turned s w.site (both_true (s == w.site) (process == w.process) e).0) (turned process w.process (both_true (s == w.site) (process == w.process) e).1))
          ∙ every_among (λ (x : Waiting). is_of s process x ≡ false) w (waiting before) (none_every (is_of s process) (waiting before) (row_idle c before s process new words may.row plain)) p)
        where
          turned : (a b : ℕ) → (a == b) ≡ true → (b == a) ≡ true
          turned a b q = subst (λ (m : ℕ). (b == m) ≡ true) (sym (equal a b q)) (equal_self b)

          both : (a b : Bool) → a ≡ true → b ≡ true → (a && b) ≡ true
          both true true p q = refl
          both true false p q = q
          both false b p q = p

      table : Among w (waiting before) → descriptor after w.site w.process fd ≡ descriptor before w.site w.process fd
      table p = by words refl
        where
          by : (y : Call) → words ≡ y → cond ((s == w.site) && (process == w.process)) (closed_by words fd (descriptor before w.site w.process fd)) (descriptor before w.site w.process fd) ≡ descriptor before w.site w.process fd
          by (call.Mend file) same = ap (λ (y : Call). cond ((s == w.site) && (process == w.process)) (closed_by y fd (descriptor before w.site w.process fd)) (descriptor before w.site w.process fd)) same ∙ cell_same ((s == w.site) && (process == w.process)) (descriptor before w.site w.process fd)
          by y same = cell_stays ((s == w.site) && (process == w.process)) (closed_by words fd (descriptor before w.site w.process fd)) (descriptor before w.site w.process fd) (never p (subst IsPlain (sym same) tt))

      over : (w ≡ it) ⊎ Among w (waiting before) → begun after w.call ≡ Some (begins_read w.epoch (descriptor after w.site w.process fd))
      over (inl same) = subst (λ (v : Waiting). begun after v.call ≡ Some (begins_read v.epoch (descriptor after v.site v.process fd))) (sym same) (own words refl (subst (λ (v : Waiting). v.words ≡ call.Read fd at len) same is))
      over (inr p) = still (Shown (says.Accept s process new words)) may w fd at len p is (table p)

  began_answer : (s process : ℕ) (d : CallId) (r : Reply) → MayTell c older (Shown (says.Answer s process d r)) → BeganAsNow (onto_entries n (Shown (says.Answer s process d r)) before)
  began_answer s process d r may w fd at len among is = still (Shown (says.Answer s process d r)) may w fd at len old is (cell_stays ((s == w.site) && (process == w.process)) (opened_by r before d fd (descriptor before w.site w.process fd)) (descriptor before w.site w.process fd) never)
    where
      old : Among w (waiting before)
      old = among_back (λ (x : Waiting). not (same_call x.call d)) w (waiting before) among

      other : w.call ≡ d → ⊥
      other same = true_false (sym (among_passes (λ (x : Waiting). not (same_call x.call d)) w (waiting before) among) ∙ ap not (subst (λ (z : CallId). same_call z d ≡ true) (sym same) (same_call_own d)))

      caller : Waiting
      caller = may.row.caller

      found : (call_named before caller.call ≡ Some caller) × (is_this s process d caller ≡ true)
      found = found_every (λ (x : Waiting). call_named before x.call ≡ Some x) (is_this s process d) (waiting before) caller may.row.waits (accepted c older h).waits

      its : (caller.site == s ≡ true) × ((caller.process == process ≡ true) × (same_call caller.call d ≡ true))
      its = parts (caller.site == s) (caller.process == process) (same_call caller.call d) found.1

      never : ((s == w.site) && (process == w.process)) ≡ true → ⊥
      never e = other (alone c older h rest w caller fd at len old (found_among (is_this s process d) (waiting before) caller may.row.waits) is
          (sym (equal caller.site s its.0 ∙ equal s w.site (both_true (s == w.site) (process == w.process) e).0)) (sym (equal caller.process process its.1.0 ∙ equal process w.process (both_true (s == w.site) (process == w.process) e).1))
          ∙ same_call_eq caller.call d its.1.1)

  began_stopped : (s : ℕ) (cause : _) → MayTell c older (Shown (says.Stopped s cause)) → BeganAsNow (onto_entries n (Shown (says.Stopped s cause)) before)
  began_stopped s cause may w fd at len among is = still (Shown (says.Stopped s cause)) may w fd at len (among_back (λ (x : Waiting). not (x.site == s)) w (waiting before) among) is (cell_stays (s == w.site) None (descriptor before w.site w.process fd) never)
    where
      never : (s == w.site) ≡ true → ⊥
      never e = true_false (sym (among_passes (λ (x : Waiting). not (x.site == s)) w (waiting before) among) ∙ ap not (subst (λ (m : ℕ). (m == s) ≡ true) (equal s w.site e) (equal_self s)))

  began_record : (r : Record) → MayTell c older (Shown r) → BeganAsNow (onto_entries n (Shown r) before)
  began_record (says.Accept s process new words) may = began_accept s process new words may
  began_record (says.Answer s process d r) may = began_answer s process d r may
  began_record (says.Stopped s cause) may = began_stopped s cause may
  began_record r may = λ w fd at len among is. still (Shown r) may w fd at len among is refl

  began_told : (x : Told) → MayTell c older x → BeganAsNow (onto_entries n x before)
  began_told (Shown r) may = began_record r may
  began_told x may = k

pub began_as_now : (c : Config) (t : List Line) → IsFollowed c t → EachRest c t → BeganAsNow (entries t)
began_as_now c [] h rest = λ w fd at len among. absurd among
began_as_now c (x ∷ older) h rest = began_told c x.number older h.1 rest.1 (began_as_now c older h.1 rest.1) x.told h.0

-- so the number by which a version is opened again keeps that
pub reads_kept : (c : Config) (t : List Line) → IsFollowed c t → EachRest c t → (d : CallId) (caller : Waiting) (kept : OneVersion) (last : EpochId) → call_named (entries t) d ≡ Some caller → Among caller (waiting (entries t)) → begun (entries t) d ≡ Some (begins.Reopens kept last) → ReadsKept t caller kept
reads_kept c t h rest d caller kept last named among starts = record {
  fd = reads.fd;
  at = reads.at;
  len = reads.len;
  words_are = reads.words_are;
  small = small;
  stands = from.stands;
  found = ap (descriptor (entries t) caller.site caller.process) (sym (same from.words_are)) ∙ from.found;
  keeps = from.keeps;
}
  where
    reads : Rereads caller.words (begins.Reopens kept last)
    reads = rereads_so caller.words kept last (began_right t d caller (begins.Reopens kept last) named starts)

    call_is : caller.call ≡ d
    call_is = ((accepted c t h).named d caller named).call_is

    now : begins_read caller.epoch (descriptor (entries t) caller.site caller.process reads.fd) ≡ begins.Reopens kept last
    now = some_same (begins_read caller.epoch (descriptor (entries t) caller.site caller.process reads.fd)) (begins.Reopens kept last)
        (sym (began_as_now c t h rest caller reads.fd reads.at reads.len among reads.words_are) ∙ (ap (begun (entries t)) call_is ∙ starts))

    from : FromSteady (descriptor (entries t) caller.site caller.process) (call.Read reads.fd reads.at reads.len) kept last
    from = reopens_from kept last (descriptor (entries t) caller.site caller.process) caller.epoch d (call.Read reads.fd reads.at reads.len) now

    same : call.Read reads.fd reads.at reads.len ≡ call.Read from.fd from.at from.len → from.fd ≡ reads.fd
    same k = cc

    small : reads.fd < descriptor_span
    small = words_low c.sites (call.Read reads.fd reads.at reads.len) asked.fits
      where
        asked : AskedCall c d.site caller.process (call.Read reads.fd reads.at reads.len)
        asked = subst (RangeCall c d.site caller.process) reads.words_are (known_call c t h rest d caller named).range
