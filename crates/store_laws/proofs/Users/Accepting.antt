-- A call is accepted at a site in its epoch: it turns, and what the site has beside it goes on.
use Rattle.std.proofs.Common.{◌≡◌, ℕ, ◌+◌, ◌*◌, ◌<◌, ◌==◌, arith, Bool, true, false, cond, ◌&&◌, List, [], ◌∷◌, Option, Some, None, refl, sym, ◌∙◌, ap, subst, ◌⊎◌, inl, inr}
use Rattle.std.specs.List.{find}
use Rattle.role_steps.proofs.of_plain_facts.Numbers.{equal, equal_self}
use Rattle.role_steps.proofs.of_plain_facts.Tests.{true_false}
use Rattle.locus_ids.specs.declared.config.Config.{Config}
use Rattle.locus_ids.specs.declared.ids.CallId.{CallId}
use Rattle.locus_ids.specs.declared.ids.EpochId.{EpochId}
use Rattle.locus_ids.specs.declared.ids.Serial.{Serial}
use Rattle.trace_book.specs.Same.{same_call}
use Rattle.trace_book.specs.declared.call.Call.{Call}
use Rattle.trace_book.specs.declared.call.Call.TheVariants as call
use Rattle.trace_book.specs.declared.descriptor.Beginning.{Beginning}
use Rattle.trace_book.specs.declared.descriptor.Beginning.TheVariants as begins
use Rattle.trace_book.specs.declared.descriptor.Descriptor.{Descriptor}
use Rattle.trace_book.specs.declared.record.Record.{Record}
use Rattle.trace_book.specs.declared.record.Record.TheVariants as says
use Rattle.call_rules.specs.Descriptors.{beginning, begins_change, begins_close, begins_open, begins_read}
use Rattle.call_rules.specs.declared.answer.Answer.{Answer}
use Rattle.call_rules.specs.Words.{is_too_long}
use Rattle.locus_ids.specs.declared.refusal.Refusal.TheVariants as refusal
use Rattle.locus_ids.specs.Sizes.{descriptor_span}
use Rattle.role_steps.specs.Own.{Every}
use Rattle.role_steps.specs.Requests.{descriptor_in, descriptor_key, descriptors_of, fd_key, waiting_key, waiting_of}
use Rattle.role_steps.specs.Tables.{row, without_row}
use Rattle.role_steps.specs.Using.{accept_record, accepted_call, copied_part, counted_call, counted_users, frees, goes_on, on_call, part_read}
use Rattle.role_steps.specs.Views.{Frame, LooksAgain, Shown, Takes, Told, Users}
use Rattle.role_steps.specs.declared.users.DescriptorRow.{DescriptorRow}
use Rattle.role_steps.specs.declared.users.WaitingCall.{WaitingCall}
use Rattle.tree_laws.specs.of_the_run.Kept.{Among}
use Rattle.tree_laws.specs.of_the_run.Worlds.{Line}
use Rattle.tree_model.specs.Calls.{accepted_as, call_named, waiting}
use Rattle.tree_model.specs.Epochs.{calls_accepted, epoch_of}
use Rattle.tree_model.specs.declared.accepted.Waiting.{Waiting}
use Rattle.tree_laws.specs.of_lawful_trace.CallRows.{CallRow, is_this}
use Rattle.tree_laws.specs.of_lawful_trace.Tables.{begins_now, begun, close_of, closed_by, descriptor}
use Rattle.tree_laws.specs.Printed.{entries}
use Rattle.tree_laws.specs.Calls.{tries}
use Rattle.tree_laws.specs.Doing.{FrameFact, UsersFine, UsersInside}
use Rattle.tree_laws.specs.Following.{AcceptsInTime, IsFollowed, MayTell}
use Rattle.tree_laws.specs.Frames.{AllStay}
use Rattle.tree_laws.specs.Serials.{asked_now, is_open_want, opens_asked, serial_asked}
use Rattle.tree_laws.specs.Stores.{Ascends}
use Rattle.tree_laws.specs.Users.{own_call, taken_whole, Brings, BringsFor, UserInstanceFact, WaitingFact}
use Rattle.tree_laws.proofs.Boots.{every_both}
use Rattle.tree_laws.proofs.Descriptors.{FromDescriptor, uses_from}
use Rattle.tree_laws.proofs.Fresh.{IsNamed, calls_are_low, next_is_new, numbered}
use Rattle.tree_laws.proofs.Having.{Untaken, named_or_untaken, waiting_named}
use Rattle.tree_laws.proofs.Names.{same_call_eq, same_call_own}
use Rattle.tree_laws.proofs.Orders.ProcessOneDescriptor.{unclosed}
use Rattle.store_laws.specs.Users.Rests.{Follows, Staying}
use Rattle.store_laws.specs.Users.Turning.{it, CallTurns, InstanceTurns, IsNumbered, Others, Turning}
use Rattle.store_laws.proofs.Users.Caching.{copied_so, copied_stays, used_right}
use Rattle.store_laws.proofs.Users.Beside.{TurnsOne, instance_turns, waiting_same}
use Rattle.store_laws.proofs.Users.Going.{goes_fine}
use Rattle.store_laws.proofs.Users.Replying.{free_is}
use Rattle.store_laws.proofs.Users.Staying.{With, other_call}
use Rattle.store_laws.proofs.Users.Tabled.{ascends_without, every_among, row_gone, row_left}

-- ---- where it begins ----

-- by the same descriptors a call begins the same
pub begins_same : (p q : ℕ → Option Descriptor) → ((fd : ℕ) → fd < descriptor_span → p fd ≡ q fd) → (now : Option EpochId) (id : CallId) (words : Call) → IsNumbered words → beginning p now id words ≡ beginning q now id words
begins_same p q same now id (call.Open path how) lt = ap (begins_open now id) (free_is p q same)
begins_same p q same now id (call.Read fd at len) lt = ap (begins_read now) (same fd lt)
begins_same p q same now id (call.Write fd at bytes) lt = ap (λ (o : Option Descriptor). cond (is_too_long (call.Write fd at bytes)) (begins.Denied refusal.TooLong) (begins_change now o)) (same fd lt)
begins_same p q same now id (call.Cut fd len) lt = ap (begins_change now) (same fd lt)
begins_same p q same now id (call.Commit fd) lt = ap (begins_change now) (same fd lt)
begins_same p q same now id (call.Abort fd) lt = ap (begins_change now) (same fd lt)
begins_same p q same now id (call.Close fd) lt = ap (begins_close now) (same fd lt)
begins_same p q same now id _ lt = refl

-- ---- the descriptor that it frees ----

abbrev pub freed : ℕ → Call → List DescriptorRow → List DescriptorRow
freed process (call.Close fd) ds = without_row descriptor_key (fd_key process fd) ds
freed process _ ds = ds

pub frees_is : (process : ℕ) (words : Call) (u : Users) → frees process words u ≡ record u { descriptors = freed process words u.descriptors }
frees_is process (call.Close fd) u = refl
frees_is process _ u = refl

pub freed_ascends : (process : ℕ) (words : Call) (ds : List DescriptorRow) → Ascends descriptor_key ds → Ascends descriptor_key (freed process words ds)
freed_ascends process (call.Close fd) ds up = ascends_without descriptor_key (fd_key process fd) ds up
freed_ascends process _ ds up = up

-- keys of numbers that lines can name are one to one
key_process : (p q a b : ℕ) → a < descriptor_span → b < descriptor_span → p * descriptor_span + a ≡ q * descriptor_span + b → p ≡ q
key_process p q a b lt le e = omega (arith, lt, le, e)

key_number : (p q a b : ℕ) → a < descriptor_span → b < descriptor_span → p * descriptor_span + a ≡ q * descriptor_span + b → a ≡ b
key_number p q a b lt le e = omega (arith, lt, le, e)

-- the table of the trace, and that of the site
pub freed_same : (process : ℕ) (words : Call) (ds : List DescriptorRow) → IsNumbered words → Ascends descriptor_key ds → (user fd : ℕ) → fd < descriptor_span → (old : Option Descriptor) → descriptor_in (row descriptor_key (fd_key user fd) ds) ≡ old →
    descriptor_in (row descriptor_key (fd_key user fd) (freed process words ds)) ≡ cond (process == user) (closed_by words fd old) old
freed_same process (call.Close m) ds low up user fd lt old is = at (process == user) (m == fd) refl refl
  where
    gone : process ≡ user → m ≡ fd → descriptor_in (row descriptor_key (fd_key user fd) (without_row descriptor_key (fd_key process m) ds)) ≡ None
    gone e g = ap descriptor_in (subst (λ (k : ℕ). row descriptor_key k (without_row descriptor_key (fd_key process m) ds) ≡ None) (ap (λ (k : ℕ). fd_key k m) e ∙ ap (fd_key user) g) (row_gone descriptor_key (fd_key process m) ds up))

    left : (fd_key process m ≡ fd_key user fd → ⊥) → descriptor_in (row descriptor_key (fd_key user fd) (without_row descriptor_key (fd_key process m) ds)) ≡ old
    left ne = ap descriptor_in (row_left descriptor_key (fd_key process m) (fd_key user fd) ds ne) ∙ is

    test : (a b : ℕ) → (a == b) ≡ false → a ≡ b → ⊥
    test a b e same = true_false (sym (subst (λ (k : ℕ). (a == k) ≡ true) same (equal_self a)) ∙ e)

    at : (a b : Bool) → (process == user) ≡ a → (m == fd) ≡ b → descriptor_in (row descriptor_key (fd_key user fd) (without_row descriptor_key (fd_key process m) ds)) ≡ cond a (cond b None old) old
    at true true e g = gone (equal process user e) (equal m fd g)
    at true false e g = left (λ k. test m fd g (key_number process user m fd low lt k))
    at false b e g = left (λ k. test process user e (key_process process user m fd low lt k))
freed_same process _ ds low up user fd lt old is = is ∙ sym (either (process == user) old)
  where
    either : (b : Bool) (o : Option Descriptor) → cond b o o ≡ o
    either true o = refl
    either false o = refl

-- ---- what wasn't accepted was asked nothing ----

untried : (c : Config) (t : List Line) → IsFollowed c t → (d : CallId) → (IsNamed (entries t) d → ⊥) → tries t d ≡ 1
untried c [] h d new = refl
untried c (y ∷ older) h d new = over y.told h.0 (untried c older h.1 d) new
  where
    apart : (e : CallId) → IsNamed (entries older) e → (IsNamed (entries older) d → ⊥) → same_call e d ≡ false
    apart e named none = other_call e d (λ same. none (subst (IsNamed (entries older)) same named))

    kept : (r : Record) → IsNamed (entries older) d → IsNamed (record { line = y.number; what = r } ∷ entries older) d
    kept (says.Accept s process new words) named = at (same_call new d)
      where
        at : (b : Bool) → (w : Waiting) × (cond b (Some (accepted_as (entries older) s process new words)) (call_named (entries older) d) ≡ Some w)
        at true = (accepted_as (entries older) s process new words, refl)
        at false = named
    kept r named = named

    over : (x : Told) → MayTell c older x → ((IsNamed (entries older) d → ⊥) → tries older d ≡ 1) → (IsNamed (entries (With y.number x older)) d → ⊥) → tries (With y.number x older) d ≡ 1
    over (Shown r) may later none = later (λ named. none (kept r named))
    over (Takes s e request times a) may later none = ap (λ (b : Bool). cond b 1 (tries older d)) (apart e (waiting_named c older s e h.1 may.waits_for) none) ∙ later none
    over (LooksAgain s e request times) may later none = ap (λ (b : Bool). cond b times (tries older d)) (apart e (waiting_named c older s e h.1 may.waits_for) none) ∙ later none
    over x may later none = later none

-- ---- the row in its time ----

pub accepts_in_time : (c : Config) (t : List Line) (s process : ℕ) (id : CallId) (words : Call) → IsFollowed c t → AcceptsInTime (entries t) words (begins_now (entries t) s process id words)
accepts_in_time c t s process id (call.Close fd) h = over (begins_now (entries t) s process id (call.Close fd)) refl
  where
    over : (b : Beginning) → begins_now (entries t) s process id (call.Close fd) ≡ b → AcceptsInTime (entries t) (call.Close fd) b
    over (begins.Denied why) e = tt
    over (begins.Uses at i) e = record { first = subst (λ (z : EpochId). close_of (entries t) z i ≡ None) k.epoch_is (subst (λ (j : Serial). close_of (entries t) k.stands.epoch j ≡ None) k.serial_is (unclosed c t h s process k.fd k.stands k.found)) }
      where
        k : FromDescriptor (descriptor (entries t) s process) (epoch_of (entries t) s) (call.Close fd) at i
        k = uses_from (descriptor (entries t) s process) (epoch_of (entries t) s) id (call.Close fd) at i e
    over (begins.Walks id) e = tt
    over (begins.Reopens version last) e = tt
    over begins.Frees e = tt
accepts_in_time c t s process id _ h = tt

module _ (c : Config) (n : ℕ) (t : List Line) (f : Frame) (process : ℕ) (words : Call) (u : Users) (h : IsFollowed c t) (frame : FrameFact c t f) (k : UsersInside c f t u) (row_is : CallRow c (entries t) f.me process (own_call f.me f.boot (u.calls + 1)) words) (low : IsNumbered words)
    (apart : Every (λ (v : WaitingCall). waiting_key v ≡ waiting_of process words → ⊥) u.waiting) where
  abbrev w : WaitingCall
  w = accepted_call f (Some f.epoch) process words u

  -- where it begins, by what the site has
  abbrev start : Beginning
  start = beginning (descriptors_of u process) (Some f.epoch) (own_call f.me f.boot (u.calls + 1)) words

  abbrev x : Told
  x = accept_record f.me f.boot process (u.calls + 1) words

  abbrev newer : List Line
  newer = With n x t

  abbrev d : CallId
  d = it f w

  abbrev new : Waiting
  new = accepted_as (entries t) f.me process d words

  may : MayTell c t x
  may = record { row = row_is; in_time = accepts_in_time c t f.me process d words h }

  again : IsFollowed c newer
  again = (may, h)

  fresh : IsNamed (entries t) d → ⊥
  fresh named = next_is_new (entries t) f.me d (calls_are_low c t h d named) (numbered c (entries t) f.me process d words row_is)

  untaken : Untaken c t d
  untaken = over (named_or_untaken c t h d)
    where
      over : IsNamed (entries t) d ⊎ Untaken c t d → Untaken c t d
      over (inl named) = absurd (fresh named)
      over (inr z) = z

  frame_so : FrameFact c newer f
  frame_so = record { config_is = frame.config_is; inside = frame.inside; members_are = frame.members_are; up = frame.up; boot_is = frame.boot_is; is_member = frame.is_member }

  named_is : call_named (entries newer) d ≡ Some new
  named_is = ap (λ (b : Bool). cond b (Some new) (call_named (entries t) d)) (same_call_own d)

  -- ---- the others ----

  one : TurnsOne c n x t f d
  one = record {
    inside = record { accepted = new; named = named_is; made_in = frame.inside };
    here = record { caller = new; among = inl refl; call_is = refl };
    unturned = λ e away turn. turn;
    waits = λ e user caller away found. ap (λ (b : Bool). cond b (Some new) (find (is_this f.me user e) (waiting (entries t)))) (none (f.me == f.me) (process == user) (same_call d e) (other_call d e away)) ∙ found;
    serials = λ e away. ap (λ (b : Bool). cond b (opens_asked c newer f.me) (serial_asked c t e)) (other_call d e away);
    ops = λ i. refl;
    brings = λ e said contents away z. brought_same e said contents z;
  }
    where
      none : (p q b : Bool) → b ≡ false → (p && q && b) ≡ false
      none true true b e = e
      none true false b e = refl
      none false q b e = refl

      brought_same : (e : CallId) (said : Call) (contents : List (List ℕ)) → BringsFor c t e said contents → BringsFor c newer e said contents
      brought_same e (call.Mend file) contents z = record { stand = z.stand; contents_are = z.contents_are }
      brought_same e _ contents z = z

  -- ---- the call ----

  call_turns : CallTurns c newer f w
  call_turns = record {
    caller = new;
    named = named_is;
    caller_is = ap (λ (o : Option EpochId). record { site = f.me; process = process; call = d; words = words; epoch = o }) frame.inside;
    waits = ap (λ (b : Bool). cond b (Some new) (find (is_this f.me process d) (waiting (entries t)))) (own (f.me == f.me) (process == process) (same_call d d) (equal_self f.me) (equal_self process) (same_call_own d));
    begins_is = ap (λ (b : Bool). cond b (Some (begins_now (entries t) f.me process d words)) (begun (entries t) d)) (same_call_own d)
        ∙ ap Some (ap (λ (o : Option EpochId). beginning (descriptor (entries t) f.me process) o d words) frame.inside ∙ sym (begins_same (descriptors_of u process) (descriptor (entries t) f.me process) (λ fd lt. k.always.descriptors process fd lt) (Some f.epoch) d words low));
    answers_are = sym untaken.log_is;
    request_is = refl;
    nothing_waits = untaken.heard_is ∙ sym untaken.log_is;
    tries_are = untried c t h d fresh;
    serial_is = ap (λ (b : Bool). cond b (opens_asked c newer f.me) (serial_asked c t d)) (same_call_own d);
    brings = brings words;
    copied = copied_stays c n x t (λ g s q. q) (λ g s q. refl) f words start (copied_part (part_read u words start) u.cache) (copied_so c t f u k.inside.instances k.always.cache words start);
  }
    where
      own : (p q b : Bool) → p ≡ true → q ≡ true → b ≡ true → (p && q && b) ≡ true
      own true true true e g z = refl
      own false q b e g z = absurd (true_false (sym e))
      own true false b e g z = absurd (true_false (sym g))
      own true true false e g z = absurd (true_false (sym z))

      brings : (said : Call) → BringsFor c newer d said []
      brings (call.Mend file) = subst (λ (xs : List Answer). Brings c newer file (taken_whole xs) []) (sym untaken.log_is) (record { stand = tt; contents_are = refl })
      brings _ = refl

  -- ---- the rest ----

  abbrev counted : Users
  counted = record (counted_users f (Some f.epoch) process words u) { descriptors = freed process words u.descriptors }

  away : (v : WaitingCall) → WaitingFact c t f v → d ≡ it f v → ⊥
  away v l e = fresh (subst (IsNamed (entries t)) (sym e) (l.caller, l.named))

  module _ (stay : AllStay c t newer x) where
    others_turn : Others c newer f w counted
    others_turn = record {
      boot_is = k.always.boot_is;
      calls = ap (λ (m : ℕ). m + 1) k.always.calls ∙ sym (ap (λ (b : Bool). cond b (calls_accepted (entries t) f.me + 1) (calls_accepted (entries t) f.me)) (equal_self f.me));
      descriptors = λ user fd lt. freed_same process words u.descriptors low k.always.ascends user fd lt (descriptor (entries t) f.me user fd) (k.always.descriptors user fd lt)
          ∙ sym (ap (λ (b : Bool). cond (b && (process == user)) (closed_by words fd (descriptor (entries t) f.me user fd)) (descriptor (entries t) f.me user fd)) (equal_self f.me));
      listed = freed_ascends process words u.descriptors k.always.ascends;
      cache = used_right c t (part_read u words start) u.cache k.always.cache;
      waits = every_both (WaitingFact c t f) (λ (v : WaitingCall). (waiting_key v ≡ waiting_key w → ⊥) → WaitingFact c newer f v) u.waiting (λ v l ne. waiting_same c n x t f d h may stay one v (away v l) l) k.inside.calls;
      ascends = k.inside.ascends;
      numbered = k.inside.numbered;
      has = k.inside.has;
      all = λ e user caller found. all e user caller (same_call d e) refl (is_this f.me user e new) refl found;
      hopeless = k.inside.hopeless;
    }
      where
        from_old : (e : CallId) → (v : WaitingCall) × Among v u.waiting × (e ≡ it f v) → (e ≡ d) ⊎ ((v : WaitingCall) × Among v u.waiting × (waiting_key v ≡ waiting_key w → ⊥) × (e ≡ it f v))
        from_old e z = inr (z.0, z.1, every_among (λ (v : WaitingCall). waiting_key v ≡ waiting_of process words → ⊥) z.0 u.waiting z.1 apart, z.2)

        last : (p q b : Bool) → (p && q && b) ≡ true → b ≡ true
        last p q true e = refl
        last true true false e = absurd (true_false (sym e))
        last true false false e = absurd (true_false (sym e))
        last false q false e = absurd (true_false (sym e))

        all : (e : CallId) (user : ℕ) (caller : Waiting) (s : Bool) → same_call d e ≡ s → (b : Bool) → is_this f.me user e new ≡ b → cond b (Some new) (find (is_this f.me user e) (waiting (entries t))) ≡ Some caller → (e ≡ d) ⊎ ((v : WaitingCall) × Among v u.waiting × (waiting_key v ≡ waiting_key w → ⊥) × (e ≡ it f v))
        all e user caller true s b g found = inl (sym (same_call_eq d e s))
        all e user caller false s true g found = absurd (true_false (sym (last (f.me == f.me) (process == user) (same_call d e) g) ∙ s))
        all e user caller false s false g found = from_old e (k.inside.all e user caller found)

    turning : Turning c newer f w counted
    turning = record {
      call = call_turns;
      others = others_turn;
      serials = ap (λ (m : ℕ). cond (is_open_want (asked_now c newer d)) (m + 1) m) k.always.serials ∙ sym (ap (λ (b : Bool). cond (b && is_open_want (asked_now c newer d)) (opens_asked c t f.me + 1) (opens_asked c t f.me)) (equal_self f.me));
      instances = every_both (UserInstanceFact c t f) (InstanceTurns c newer f d) u.instances (λ i p. instance_turns c n x t f d h may stay one i p) k.inside.instances;
    }

  -- the call is accepted, and goes on
  pub call_fine : Staying c n t (on_call f (Some f.epoch) process words u).told → UsersFine c n t f (on_call f (Some f.epoch) process words u)
  call_fine s = record { told = (may, rest.told); own = (refl, rest.own); view = rest.view; sent = rest.sent; written = rest.written }
    where
      after : counted_call f (Some f.epoch) process words u ≡ counted
      after = frees_is process words (counted_users f (Some f.epoch) process words u)

      next : Follows c t newer x × Staying c n newer (goes_on f w (counted_call f (Some f.epoch) process words u)).told
      next = s may

      rest : UsersFine c n newer f (goes_on f w (counted_call f (Some f.epoch) process words u))
      rest = subst (λ (v : Users). UsersFine c n newer f (goes_on f w v)) (sym after)
          (goes_fine c n newer f w counted again frame_so (turning next.0.stay) next.0.requests next.0.replies (subst (λ (v : Users). Staying c n newer (goes_on f w v).told) after next.1))
