-- A call that a line asks of a site in no epoch ends at once: it is refused, or closes what no instance holds.
use Rattle.std.proofs.Common.{◌≡◌, ℕ, ◌+◌, ◌==◌, ◌≤◌, Bool, true, false, not, cond, ◌&&◌, List, [], ◌∷◌, filter, Option, Some, None, refl, sym, ◌∙◌, ap, subst, ◌⊎◌, inl, inr}
use Rattle.std.specs.List.{find}
use Rattle.role_steps.proofs.of_plain_facts.Numbers.{equal, equal_self}
use Rattle.role_steps.proofs.of_plain_facts.Tests.{true_false}
use Rattle.locus_ids.specs.declared.config.Config.{Config}
use Rattle.locus_ids.specs.declared.config.Mount.{Mount}
use Rattle.locus_ids.specs.declared.ids.CallId.{CallId}
use Rattle.locus_ids.specs.declared.ids.EpochId.{EpochId}
use Rattle.locus_ids.specs.declared.refusal.Refusal.{Refusal}
use Rattle.locus_ids.specs.declared.refusal.Refusal.TheVariants as refusal
use Rattle.trace_book.specs.Same.{same_call}
use Rattle.trace_book.specs.declared.call.Call.{Call}
use Rattle.trace_book.specs.declared.call.Call.TheVariants as call
use Rattle.trace_book.specs.declared.descriptor.Beginning.{Beginning}
use Rattle.trace_book.specs.declared.descriptor.Beginning.TheVariants as begins
use Rattle.trace_book.specs.declared.descriptor.Descriptor.{Descriptor}
use Rattle.trace_book.specs.declared.descriptor.OneVersion.{OneVersion}
use Rattle.trace_book.specs.declared.reply.Reply.{Reply}
use Rattle.trace_book.specs.declared.reply.Reply.TheVariants as reply
use Rattle.call_rules.specs.Descriptors.{beginning, begins_again, begins_change, begins_close, begins_open, begins_read, lowest_free, stale_or}
use Rattle.call_rules.specs.Scripts.{wants, where_packed}
use Rattle.call_rules.specs.Words.{is_badly_named, is_too_long}
use Rattle.call_rules.specs.declared.want.Want.{Want}
use Rattle.call_rules.specs.declared.want.Want.TheVariants as want
use Rattle.schedule_lines.specs.Ranges.{fits_call}
use Rattle.role_steps.specs.Own.{Every}
use Rattle.role_steps.specs.Requests.{descriptors_of, waiting_key, without_waiting}
use Rattle.role_steps.specs.Tables.{without_row}
use Rattle.role_steps.specs.Using.{accept_record, after_reply, asks_want, is_packed, next_want, on_call, counted_users, counted_call, accepted_call, reply_record, without_hope, part_read}
use Rattle.role_steps.specs.Views.{Frame, Outcome, Told, Users, joined_to, tells}
use Rattle.role_steps.specs.declared.users.WaitingCall.{WaitingCall}
use Rattle.the_run.specs.Steps.{call_frame}
use Rattle.the_run.specs.Worlds.{Line}
use Rattle.tree_model.specs.Calls.{accepted_as, call_named, is_of, waiting, waiting_of as waits_of}
use Rattle.tree_model.specs.Epochs.{boot_of, calls_accepted, epoch_of, is_up}
use Rattle.tree_model.specs.Folds.{Trace}
use Rattle.tree_model.specs.declared.accepted.Waiting.{Waiting}
use Rattle.tree_laws.specs.of_lawful_trace.CallRows.{CallRow, is_this}
use Rattle.tree_laws.specs.of_lawful_trace.Progress.{Answers, answers, is_packed_in, left_since, unless_left, wants_as, wants_next}
use Rattle.tree_laws.specs.of_lawful_trace.Tables.{begins_now, begun, closed_by, descriptor, opened_by}
use Rattle.tree_laws.specs.Printed.{entries}
use Rattle.tree_laws.specs.Calls.{is_request, log, script, script_as}
use Rattle.tree_laws.specs.Doing.{Fine, IsOfUsers, NoWrite}
use Rattle.tree_laws.specs.Following.{AnswersInTime, IsFollowed, MayTell, RepliesInTime}
use Rattle.tree_laws.specs.Processes.{IsMend}
use Rattle.tree_laws.specs.Serials.{asked_now, is_open_want, opens_asked}
use Rattle.tree_laws.specs.Users.{own_call, UsersFact}
use Rattle.tree_laws.proofs.Boots.{every_filter, found_every}
use Rattle.tree_laws.proofs.Fresh.{IsNamed, calls_are_low, next_is_new, numbered}
use Rattle.tree_laws.proofs.Having.{Untaken, named_or_untaken}
use Rattle.tree_laws.proofs.Hearing.{Hears, asking_named, hears}
use Rattle.tree_laws.proofs.Names.{same_call_own}
use Rattle.store_laws.proofs.Users.Caching.{used_right}
use Rattle.store_laws.specs.Users.Turning.{IsNumbered}
use Rattle.store_laws.proofs.Users.Accepting.{accepts_in_time, begins_same, freed, freed_ascends, freed_same, frees_is}
use Rattle.store_laws.specs.OneTree.Places.{UsersOutside}
use Rattle.store_laws.specs.OneTree.Rest.{Past, more}
use Rattle.store_laws.specs.OneTree.Roles.{MayCall}
use Rattle.store_laws.proofs.OneTree.UserStepCalling.{no_mend, plain_row, process_above, words_low}

-- ---- it ends where it begins ----

-- it is refused, or frees what no instance holds
abbrev pub EndsAtOnce : Beginning → Type 0
EndsAtOnce (begins.Denied why) = Unit {0}
EndsAtOnce begins.Frees = Unit {0}
EndsAtOnce _ = ⊥

read_ends : (o : Option Descriptor) → EndsAtOnce (begins_read None o)
read_ends None = tt
read_ends (Some d) = over d.steady
  where
    over : (o : Option OneVersion) → EndsAtOnce (stale_or (begins_again None d.epoch) d.epoch o)
    over None = tt
    over (Some version) = tt

close_ends : (o : Option Descriptor) → EndsAtOnce (begins_close None o)
close_ends None = tt
close_ends (Some d) = over d.steady
  where
    over : (o : Option OneVersion) → EndsAtOnce (stale_or (λ version. begins.Frees) d.epoch o)
    over None = tt
    over (Some version) = tt

change_ends : (o : Option Descriptor) → EndsAtOnce (begins_change None o)
change_ends None = tt
change_ends (Some d) = over d.steady refl
  where
    over : (o : Option OneVersion) → d.steady ≡ o → EndsAtOnce (begins_change None (Some d))
    over None e = rw e tt
    over (Some version) e = rw e tt

open_ends : (id : CallId) (free : Option ℕ) → EndsAtOnce (begins_open None id free)
open_ends id None = tt
open_ends id (Some fd) = tt

pub ended : (table : ℕ → Option Descriptor) (id : CallId) (words : Call) → EndsAtOnce (beginning table None id words)
ended table id (call.Open path how) = open_ends id (lowest_free table)
ended table id (call.Read fd at len) = read_ends (table fd)
ended table id (call.Write fd at bytes) = over (is_too_long (call.Write fd at bytes))
  where
    over : (b : Bool) → EndsAtOnce (cond b (begins.Denied refusal.TooLong) (begins_change None (table fd)))
    over true = tt
    over false = change_ends (table fd)
ended table id (call.Cut fd len) = change_ends (table fd)
ended table id (call.Commit fd) = change_ends (table fd)
ended table id (call.Abort fd) = change_ends (table fd)
ended table id (call.Close fd) = close_ends (table fd)
ended table id _ = tt

-- and so its script gives a refusal, or that it was closed
abbrev pub at_once : Beginning → Reply
at_once (begins.Denied why) = reply.No why
at_once _ = reply.Closed None

abbrev pub given_as : List Mount → Call → Beginning → Reply
given_as mounts words b = cond (is_badly_named mounts words) (reply.No refusal.BadName) (at_once b)

pub ended_gives : (mounts : List Mount) (p : ℕ → Bool) (free : Option ℕ) (words : Call) (b : Beginning) → EndsAtOnce b → wants mounts p free words b [] ≡ want.Give (given_as mounts words b)
ended_gives mounts p free words (begins.Denied why) ends = over (is_badly_named mounts words)
  where
    over : (x : Bool) → where_packed p (cond x (want.Give (reply.No refusal.BadName)) (want.Give (reply.No why))) ≡ want.Give (cond x (reply.No refusal.BadName) (reply.No why))
    over true = refl
    over false = refl
ended_gives mounts p free words begins.Frees ends = over (is_badly_named mounts words)
  where
    over : (x : Bool) → where_packed p (cond x (want.Give (reply.No refusal.BadName)) (want.Give (reply.Closed None))) ≡ want.Give (cond x (reply.No refusal.BadName) (reply.Closed None))
    over true = refl
    over false = refl
ended_gives mounts p free words _ ends = absurd ends

-- such a reply names nothing
abbrev NamesNothing : Reply → Type 0
NamesNothing (reply.No why) = Unit {0}
NamesNothing (reply.Closed stamp) = Unit {0}
NamesNothing _ = ⊥

given_names : (mounts : List Mount) (words : Call) (b : Beginning) → NamesNothing (given_as mounts words b)
given_names mounts words b = over (is_badly_named mounts words) b
  where
    over : (x : Bool) (b : Beginning) → NamesNothing (cond x (reply.No refusal.BadName) (at_once b))
    over true b = tt
    over false (begins.Denied why) = tt
    over false _ = tt

leaves_table : (r : Reply) (before : Trace) (d : CallId) (fd : ℕ) (old : Option Descriptor) → NamesNothing r → opened_by r before d fd old ≡ old
leaves_table (reply.No why) before d fd old k = refl
leaves_table (reply.Closed stamp) before d fd old k = refl
leaves_table _ before d fd old k = absurd k

plain_hope : (words : Call) (why : Refusal) (v : Users) → (IsMend words → ⊥) → without_hope words why v ≡ v
plain_hope (call.Mend file) why v none = absurd (none tt)
plain_hope _ why v none = refl

leaves_users : (f : Frame) (w : WaitingCall) (r : Reply) (v : Users) → (IsMend w.words → ⊥) → NamesNothing r → after_reply f w r v ≡ v
leaves_users f w (reply.No why) v plain k = plain_hope w.words why v plain
leaves_users f w (reply.Closed stamp) v plain k = refl
leaves_users f w _ v plain k = absurd k

module _ (c : Config) (n : ℕ) (t : List Line) (me boot process : ℕ) (words : Call) (u : Users) (h : IsFollowed c t) (up : is_up c (entries t) me ≡ true) (outside : epoch_of (entries t) me ≡ None) (k : UsersOutside c me boot t u) (plain : IsMend words → ⊥) (low : IsNumbered words) where
  abbrev f : Frame
  f = call_frame c me boot None

  abbrev begun_at : Beginning
  begun_at = beginning (descriptors_of u process) None (own_call f.me f.boot (u.calls + 1)) words

  abbrev w : WaitingCall
  w = accepted_call f None process words u

  abbrev d : CallId
  d = own_call me boot (u.calls + 1)

  abbrev x : Told
  x = accept_record me boot process (u.calls + 1) words

  abbrev newer : List Line
  newer = more n x t

  abbrev new : Waiting
  new = accepted_as (entries t) me process d words

  abbrev given : Reply
  given = given_as c.mounts words begun_at

  ends : EndsAtOnce begun_at
  ends = ended (descriptors_of u process) d words

  nameless : NamesNothing given
  nameless = given_names c.mounts words begun_at

  abbrev y : Told
  y = reply_record me boot w given

  -- ---- what it does ----

  abbrev after : Users
  after = record (counted_users f None process words u) { waiting = []; descriptors = freed process words u.descriptors }

  gives : next_want f w (counted_call f None process words u) ≡ want.Give given
  gives = ended_gives c.mounts (is_packed f) (lowest_free (descriptors_of (counted_call f None process words u) process)) words begun_at ends

  view_is : after_reply f w given (without_waiting w (counted_call f None process words u)) ≡ after
  view_is = leaves_users f w given (without_waiting w (counted_call f None process words u)) plain nameless
      ∙ (ap (without_waiting w) (frees_is process words (counted_users f None process words u))
      ∙ ap (λ (ws : List WaitingCall). record (counted_users f None process words u) { waiting = without_row waiting_key (waiting_key w) ws; descriptors = freed process words u.descriptors }) k.calls)

  abbrev done : Outcome Users
  done = record { view = after; sent = []; told = x ∷ y ∷ []; written = None }

  does : on_call f None process words u ≡ done
  does = ap (λ (v : Want). joined_to (tells (x ∷ []) (counted_call f None process words u)) (asks_want f w v (counted_call f None process words u))) gives
      ∙ ap (λ (v : Users). record { view = v; sent = []; told = x ∷ y ∷ []; written = None }) view_is

  -- ---- it is accepted ----

  idle : waits_of me process (waiting (entries t)) ≡ None
  idle = over (waits_of me process (waiting (entries t))) refl
    where
      first : (a b : Bool) → (a && b) ≡ true → a ≡ true
      first true b e = refl
      first false b e = e

      over : (o : Option Waiting) → waits_of me process (waiting (entries t)) ≡ o → o ≡ None
      over None e = refl
      over (Some z) e = (let is : (z.site ≡ me → ⊥) × (is_of me process z ≡ true) = found_every (λ (v : Waiting). v.site ≡ me → ⊥) (is_of me process) (waiting (entries t)) z e k.idle.none_waits in absurd (is.0 (equal z.site me (first (z.site == me) (z.process == process) is.1))))

  row_is : CallRow c (entries t) me process d words
  row_is = plain_row c t me process d words plain (record {
    up = up;
    idle = idle;
    numbered = ap (λ (b : ℕ). own_call me b (u.calls + 1)) k.always.boot_is ∙ ap (λ (m : ℕ). own_call me (boot_of (entries t) me) (m + 1)) k.always.calls;
  })

  may : MayTell c t x
  may = record { row = row_is; in_time = accepts_in_time c t me process d words h }

  -- ---- it is answered ----

  fresh : IsNamed (entries t) d → ⊥
  fresh named = next_is_new (entries t) me d (calls_are_low c t h d named) (numbered c (entries t) me process d words row_is)

  untaken : Untaken c t d
  untaken = over (named_or_untaken c t h d)
    where
      over : IsNamed (entries t) d ⊎ Untaken c t d → Untaken c t d
      over (inl named) = absurd (fresh named)
      over (inr z) = z

  answered_none : answers c (entries t) d ≡ []
  answered_none = over (hears c t d h)
    where
      over : Hears c t d → answers c (entries t) d ≡ []
      over (inl e) = e ∙ untaken.heard_is
      over (inr l) = absurd (fresh (asking_named c (entries t) d None (log t d) (want.Look l.file l.what) l.looks refl))

  named_is : call_named (entries newer) d ≡ Some new
  named_is = ap (λ (b : Bool). cond b (Some new) (call_named (entries t) d)) (same_call_own d)

  begun_is : begun (entries newer) d ≡ Some begun_at
  begun_is = ap (λ (b : Bool). cond b (Some (begins_now (entries t) me process d words)) (begun (entries t) d)) (same_call_own d)
      ∙ ap Some (ap (λ (o : Option EpochId). beginning (descriptor (entries t) me process) o d words) outside ∙ sym (begins_same (descriptors_of u process) (descriptor (entries t) me process) (λ fd lt. k.always.descriptors process fd lt) None d words low))

  wants_so : wants_next c (entries newer) d ≡ want.Give given
  wants_so = ap (λ (o : Option Waiting). wants_as c (entries newer) o (begun (entries newer) d) (answers c (entries newer) d)) named_is
      ∙ (ap (λ (o : Option Beginning). wants_as c (entries newer) (Some new) o (answers c (entries newer) d)) begun_is
      ∙ (ap (λ (xs : Answers). wants_as c (entries newer) (Some new) (Some begun_at) xs) answered_none
      ∙ ended_gives c.mounts (is_packed_in c (entries newer) new.epoch) (lowest_free (descriptor (entries newer) me process)) words begun_at ends))

  -- nothing is asked
  script_so : script c (entries newer) d None (log newer d) ≡ want.Give given
  script_so = ap (λ (o : Option Waiting). script_as c (entries newer) o (begun (entries newer) d) None (log newer d)) named_is
      ∙ (ap (λ (o : Option Beginning). script_as c (entries newer) (Some new) o None (log newer d)) begun_is
      ∙ (ap (λ (xs : Answers). script_as c (entries newer) (Some new) (Some begun_at) None xs) untaken.log_is
      ∙ ended_gives c.mounts (is_packed_in c (entries newer) new.epoch) None words begun_at ends))

  replies : RepliesInTime c newer d
  replies = record { nothing_waits = untaken.heard_is ∙ sym untaken.log_is; nothing_asked = ap is_request script_so }

  in_time : (r : Reply) → NamesNothing r → AnswersInTime c newer d r
  in_time (reply.No (refusal.Changed e)) q = outside
  in_time (reply.No why) q = replies
  in_time (reply.Closed stamp) q = replies
  in_time _ q = absurd q

  may_answer : MayTell c newer y
  may_answer = record {
    row = record {
      caller = new;
      waits = ap (λ (b : Bool). cond b (Some new) (find (is_this me process d) (waiting (entries t)))) (own (me == me) (process == process) (same_call d d) (equal_self me) (equal_self process) (same_call_own d));
      given = given;
      gives = ap (λ (o : Option EpochId). unless_left (left_since (entries newer) me o) (wants_next c (entries newer) d)) outside ∙ wants_so;
      text = refl;
    };
    in_time = in_time given nameless;
  }
    where
      own : (p q b : Bool) → p ≡ true → q ≡ true → b ≡ true → (p && q && b) ≡ true
      own true true true e g z = refl
      own false q b e g z = absurd (true_false (sym e))
      own true false b e g z = absurd (true_false (sym g))
      own true true false e g z = absurd (true_false (sym z))

  -- ---- what the site has then ----

  always : UsersFact c (more n y newer) me boot after
  always = record {
    boot_is = k.always.boot_is;
    calls = ap (λ (m : ℕ). m + 1) k.always.calls ∙ sym (ap (λ (b : Bool). cond b (calls_accepted (entries t) me + 1) (calls_accepted (entries t) me)) (equal_self me));
    serials = k.always.serials ∙ sym (ap (λ (b : Bool). cond b (opens_asked c t me + 1) (opens_asked c t me)) (none (me == me) (is_open_want (asked_now c newer d)) (ap is_open_want script_so)));
    descriptors = λ user fd lt. freed_same process words u.descriptors low k.always.ascends user fd lt (descriptor (entries t) me user fd) (k.always.descriptors user fd lt)
        ∙ (sym (ap (λ (b : Bool). cond (b && (process == user)) (closed_by words fd (descriptor (entries t) me user fd)) (descriptor (entries t) me user fd)) (equal_self me))
        ∙ sym (ap (λ (o : Option Descriptor). cond ((me == me) && (process == user)) o (descriptor (entries newer) me user fd)) (leaves_table given (entries newer) d fd (descriptor (entries newer) me user fd) nameless) ∙ either ((me == me) && (process == user)) (descriptor (entries newer) me user fd)));
    ascends = freed_ascends process words u.descriptors k.descriptors_ascend;
    cache = used_right c t (part_read u words begun_at) u.cache k.always.cache;
  }
    where
      none : (a b : Bool) → b ≡ false → (a && b) ≡ false
      none true b e = e
      none false b e = refl

      either : (b : Bool) (o : Option Descriptor) → cond b o o ≡ o
      either true o = refl
      either false o = refl

  none_waits : Every (λ (v : Waiting). v.site ≡ me → ⊥) (filter (λ (v : Waiting). not (same_call v.call d)) (new ∷ waiting (entries t)))
  none_waits = subst (λ (b : Bool). Every (λ (v : Waiting). v.site ≡ me → ⊥) (cond b (new ∷ filter (λ (v : Waiting). not (same_call v.call d)) (waiting (entries t))) (filter (λ (v : Waiting). not (same_call v.call d)) (waiting (entries t))))) (sym (ap not (same_call_own d)))
      (every_filter (λ (v : Waiting). v.site ≡ me → ⊥) (λ (v : Waiting). not (same_call v.call d)) (waiting (entries t)) k.idle.none_waits)

  done_fine : Fine Users c n t (IsOfUsers me) (UsersOutside c me boot) NoWrite done
  done_fine = record {
    told = (may, (may_answer, tt));
    own = (refl, (refl, tt));
    view = record {
      always = always;
      idle = record { none_waits = none_waits; has_none = k.idle.has_none };
      calls = refl;
      instances = k.instances;
      hopeless = k.hopeless;
      descriptors_ascend = freed_ascends process words u.descriptors k.descriptors_ascend;
    };
    sent = tt;
    written = tt;
  }

  pub call_fine : Fine Users c n t (IsOfUsers me) (UsersOutside c me boot) NoWrite (on_call f None process words u)
  call_fine = subst (λ (o : Outcome Users). Fine Users c n t (IsOfUsers me) (UsersOutside c me boot) NoWrite o) (sym does) done_fine

pub calls_outside : (c : Config) (n : ℕ) (t : List Line) (me boot process : ℕ) (words : Call) (u : Users) → Past c t → is_up c (entries t) me ≡ true → epoch_of (entries t) me ≡ None → UsersOutside c me boot t u → MayCall c me process words u →
    Fine Users c n t (IsOfUsers me) (UsersOutside c me boot) NoWrite (on_call (call_frame c me boot None) None process words u)
calls_outside c n t me boot process words u past up outside k may = (let fits : (1 ≤ process) × (fits_call c.sites words ≡ true) = process_above c.sites me process words may.fits in
    call_fine c n t me boot process words u past.followed up outside k (no_mend c.sites words fits.1) (words_low c.sites words fits.1))
