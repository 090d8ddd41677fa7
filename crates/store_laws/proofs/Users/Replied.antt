-- What the using site has once a call has its reply.
use Rattle.std.proofs.Common.{◌≡◌, ℕ, ◌+◌, ◌*◌, ◌<◌, ◌==◌, arith, Bool, true, false, not, cond, ◌&&◌, ◌||◌, List, [], ◌∷◌, ◌++◌, Option, Some, None, refl, sym, ◌∙◌, ap, subst, ◌⊎◌, inl, inr, filter}
use Rattle.std.specs.List.{find, list_any}
use Rattle.std.proofs.lemmas.Bool.Decides.{nat_tests}
use Rattle.role_steps.proofs.of_plain_facts.Numbers.{equal, equal_self}
use Rattle.role_steps.proofs.of_plain_facts.Options.{some_same}
use Rattle.role_steps.proofs.of_plain_facts.Tests.{true_false}
use Rattle.locus_ids.specs.declared.config.Config.{Config}
use Rattle.locus_ids.specs.declared.ids.CallId.{CallId}
use Rattle.locus_ids.specs.declared.ids.FileId.{FileId}
use Rattle.locus_ids.specs.declared.refusal.Refusal.{Refusal}
use Rattle.locus_ids.specs.declared.refusal.Refusal.TheVariants as refusal
use Rattle.locus_ids.specs.Sizes.{descriptor_span}
use Rattle.commit_graph.specs.Versions.{same_file}
use Rattle.trace_book.specs.Same.{same_call}
use Rattle.trace_book.specs.declared.call.Call.{Call}
use Rattle.trace_book.specs.declared.call.Call.TheVariants as call
use Rattle.trace_book.specs.declared.descriptor.Beginning.{Beginning}
use Rattle.trace_book.specs.declared.descriptor.Beginning.TheVariants as begins
use Rattle.trace_book.specs.declared.descriptor.Descriptor.{Descriptor}
use Rattle.trace_book.specs.declared.descriptor.OneVersion.{OneVersion}
use Rattle.trace_book.specs.declared.reply.Reply.{Reply}
use Rattle.trace_book.specs.declared.reply.Reply.TheVariants as reply
use Rattle.call_rules.specs.Opening.{is_steady}
use Rattle.call_rules.specs.declared.want.Want.{Want}
use Rattle.call_rules.specs.declared.want.Want.TheVariants as want
use Rattle.role_steps.specs.Requests.{waiting_key, waiting_of, descriptor_key, fd_key, descriptor_in, with_descriptor, without_waiting, request_packets}
use Rattle.role_steps.specs.Tables.{row, with_row, without_row}
use Rattle.role_steps.specs.Using.{after_reply, holds_again, is_hopeless, last_version, opened_row, reply_record, without_hope}
use Rattle.role_steps.specs.Views.{Users, Frame, Told}
use Rattle.role_steps.specs.declared.users.Asking.{Asking}
use Rattle.role_steps.specs.declared.users.Asking.TheVariants as asking
use Rattle.role_steps.specs.declared.users.DescriptorRow.{DescriptorRow}
use Rattle.role_steps.specs.declared.users.UserInstance.{UserInstance}
use Rattle.role_steps.specs.declared.users.WaitingCall.{WaitingCall}
use Rattle.role_steps.proofs.Rows.{row_same, row_other}
use Rattle.tree_laws.specs.of_the_run.Kept.{Among}
use Rattle.tree_laws.specs.of_the_run.Worlds.{Line}
use Rattle.tree_model.specs.Calls.{call_named, opening_of, waiting}
use Rattle.tree_model.specs.Epochs.{is_in, members_of}
use Rattle.tree_model.specs.Packs.{sync_site}
use Rattle.tree_model.specs.declared.accepted.Waiting.{Waiting}
use Rattle.tree_laws.specs.of_lawful_trace.CallRows.{ends_mending, has_lost_mend, is_lost_mend, is_mend_of, is_this}
use Rattle.tree_laws.specs.of_lawful_trace.Tables.{descriptor, held_again, is_read_of, opened_as, opened_by, reads_by}
use Rattle.tree_laws.specs.Printed.{entries}
use Rattle.tree_laws.specs.Doing.{FrameFact, UsersInside}
use Rattle.tree_laws.specs.Following.{IsFollowed, MayTell}
use Rattle.tree_laws.specs.Frames.{AllStay, VersionsStay}
use Rattle.tree_laws.specs.Packets.{PacketFact}
use Rattle.tree_laws.specs.Stores.{Ascends}
use Rattle.tree_laws.specs.Users.{AskingIs, BringsFor, WaitingFact, UserInstanceFact}
use Rattle.tree_laws.proofs.Alone.{compare}
use Rattle.tree_laws.proofs.Boots.{every_both, every_passes, found_every}
use Rattle.tree_laws.proofs.Carried.{packet_stays}
use Rattle.tree_laws.proofs.CarriedVersions.{sees_stay}
use Rattle.tree_laws.proofs.Names.{same_call_eq, same_call_own, same_epoch_own}
use Rattle.tree_laws.proofs.Stepping.{answered_stays}
use Rattle.tree_laws.proofs.Versions.{versions_stay}
use Rattle.store_laws.specs.Users.Turning.{it, Counted}
use Rattle.store_laws.proofs.Users.Caching.{copied_stays, reads_stay}
use Rattle.store_laws.proofs.Users.Staying.{With, find_kept, find_before}
use Rattle.store_laws.proofs.Users.Tabled.{every_without, ascends_without, ascends_with, among_without}

-- ---- mends that were refused for good ----

hopeless_ends : (why : Refusal) → is_hopeless why ≡ ends_mending why
hopeless_ends refusal.TooLong = refl
hopeless_ends (refusal.NoSpace needed free) = refl
hopeless_ends refusal.Spent = refl
hopeless_ends _ = refl

any_last : {A : Type 0} (p : A → Bool) (xs : List A) (y : A) → list_any p (xs ++ y ∷ []) ≡ (p y || list_any p xs)
any_last p [] y = refl
any_last p (x ∷ xs) y = ap (λ (b : Bool). p x || b) (any_last p xs y) ∙ swapped (p x) (p y) (list_any p xs)
  where
    swapped : (a b d : Bool) → (a || (b || d)) ≡ (b || (a || d))
    swapped true true d = refl
    swapped true false d = refl
    swapped false true d = refl
    swapped false false d = refl

either_file : (a b : FileId) → same_file a b ≡ same_file b a
either_file a b = both (a.group == b.group) (b.group == a.group) (a.ino == b.ino) (b.ino == a.ino) (turned a.group b.group) (turned a.ino b.ino)
  where
    turned : (m n : ℕ) → (m == n) ≡ (n == m)
    turned m n = grind (arith, nat_tests)

    both : (p q r s : Bool) → p ≡ q → r ≡ s → (p && r) ≡ (q && s)
    both p q r s e g = ap (λ (b : Bool). b && r) e ∙ ap (λ (b : Bool). q && b) g

module _ (c : Config) (n : ℕ) (t : List Line) (f : Frame) (w : WaitingCall) (u : Users) (r : Reply) (h : IsFollowed c t) (frame : FrameFact c t f) (k : Counted c t f w u) (may : MayTell c t (reply_record f.me f.boot w r))
    (stay : AllStay c t (With n (reply_record f.me f.boot w r) t) (reply_record f.me f.boot w r)) where
  abbrev pub x : Told
  x = reply_record f.me f.boot w r

  abbrev pub newer : List Line
  newer = With n x t

  abbrev pub d : CallId
  d = it f w

  versions : VersionsStay c t newer
  versions = versions_stay c n x t h may stay.fresh stay.order

  -- ---- another call ----

  asking_same : (e : CallId) (y : Want) (s : Asking) → AskingIs c t f.me e y s → AskingIs c newer f.me e y s
  asking_same e (want.Look file what) (asking.Look g asked times) z = z
  asking_same e (want.Do inst o) (asking.Op serial ss number p seen) z = z
  asking_same e (want.Close inst) (asking.Close serial ss) z = z
  asking_same e (want.Open file m) (asking.Open serial g p) z = z
  asking_same e (want.OpenToMend file) (asking.Open serial g p) z = z
  asking_same e (want.Make group kind sites) (asking.Open serial g p) z = z
  asking_same e y (asking.Open serial g p) z = absurd z.0
  asking_same e y s z = absurd z

  brought_same : (e : CallId) (words : Call) (contents : List (List ℕ)) → BringsFor c t e words contents → BringsFor c newer e words contents
  brought_same e (call.Mend file) contents z = record { stand = z.stand; contents_are = z.contents_are }
  brought_same e _ contents z = z

  waiting_same : (v : WaitingCall) → (it f v ≡ d → ⊥) → WaitingFact c t f v → WaitingFact c newer f v
  waiting_same v apart l = record {
    caller = l.caller;
    named = l.named;
    caller_is = l.caller_is;
    waits = find_kept (is_this f.me v.process (it f v)) (λ (y : Waiting). not (same_call y.call d)) (waiting (entries t)) l.caller l.waits (other (same_call l.caller.call d) refl);
    begins_is = l.begins_is;
    answers_are = l.answers_are;
    request_is = l.request_is;
    wanted = l.wanted;
    script_is = l.script_is;
    asking_is = asking_same (it f v) l.wanted v.asking l.asking_is;
    answered = answered_stays c n x t (it f v) l.wanted h may (l.caller, l.named) (λ z. z) l.answered;
    sent = every_both (PacketFact c t) (PacketFact c newer) (request_packets f v v.asking) (λ p fact. packet_stays c n x t h may stay p fact) l.sent;
    brings = brought_same (it f v) v.words v.brought l.brings;
    copied = copied_stays c n x t versions.stands versions.contents f v.words v.begins v.copied l.copied;
  }
    where
      other : (b : Bool) → same_call l.caller.call d ≡ b → not (same_call l.caller.call d) ≡ true
      other true e = absurd (apart (ap (λ (y : Waiting). y.call) (sym l.caller_is) ∙ same_call_eq l.caller.call d e))
      other false e = ap not e

  -- with another key it is another call
  apart_call : (v : WaitingCall) → (waiting_key v ≡ waiting_key w → ⊥) → WaitingFact c t f v → it f v ≡ d → ⊥
  apart_call v apart l e = apart (ap (λ (y : Waiting). waiting_of y.process y.words) (sym l.caller_is ∙ (some_same l.caller k.call.caller (sym l.named ∙ (ap (call_named (entries t)) e ∙ k.call.named)) ∙ k.call.caller_is)))

  instance_same : (i : UserInstance) → UserInstanceFact c t f i → UserInstanceFact c newer f i
  instance_same i p = record { call = p.call; request = p.request; mode = p.mode; file = p.file; stamp = p.stamp; was_granted = inr p.was_granted; sees = sees_stay c t newer versions p.file p.mode p.stamp i.vector p.sees; reads = reads_stay c t newer versions p.mode p.file p.stamp i.reads p.reads; ops = p.ops }

  -- ---- who waits still ----

  all_same : (e : CallId) (process : ℕ) (caller : Waiting) → find (is_this f.me process e) (waiting (entries newer)) ≡ Some caller → (v : WaitingCall) × Among v (without_row waiting_key (waiting_key w) u.waiting) × (e ≡ it f v)
  all_same e process caller found = over (k.others.all e process old.0 old.1)
    where
      old : (y : Waiting) × (find (is_this f.me process e) (waiting (entries t)) ≡ Some y)
      old = find_before (is_this f.me process e) (λ (y : Waiting). not (same_call y.call d)) (waiting (entries t)) caller found

      passed : (not (same_call caller.call d) ≡ true) × (is_this f.me process e caller ≡ true)
      passed = found_every (λ (y : Waiting). not (same_call y.call d) ≡ true) (is_this f.me process e) (filter (λ (y : Waiting). not (same_call y.call d)) (waiting (entries t))) caller found (every_passes (λ (y : Waiting). not (same_call y.call d) ≡ true) (λ (y : Waiting). not (same_call y.call d)) (λ y p. p) (waiting (entries t)))

      over : (e ≡ d) ⊎ ((v : WaitingCall) × Among v u.waiting × (waiting_key v ≡ waiting_key w → ⊥) × (e ≡ it f v)) → (v : WaitingCall) × Among v (without_row waiting_key (waiting_key w) u.waiting) × (e ≡ it f v)
      over (inl same) = absurd (true_false (sym passed.0 ∙ ap not (ap (λ (y : CallId). same_call y d) (same_call_eq caller.call e (third (caller.site == f.me) (caller.process == process) (same_call caller.call e) passed.1) ∙ same) ∙ same_call_own d)))
        where
          third : (a b q : Bool) → (a && b && q) ≡ true → q ≡ true
          third true true q z = z
          third true false q z = absurd (true_false (sym z))
          third false b q z = absurd (true_false (sym z))
      over (inr z) = (z.0, among_without waiting_key (waiting_key w) z.0 u.waiting z.2 z.1, z.3)

  -- ---- the whole, with these descriptors and these hopeless mends ----

  whole : (ds : List DescriptorRow) (fs : List FileId) → Ascends descriptor_key ds → ((process fd : ℕ) → fd < descriptor_span → descriptor_in (row descriptor_key (fd_key process fd) ds) ≡ descriptor (entries newer) f.me process fd) →
      ((file : FileId) → sync_site c file.group (members_of (entries t) f.epoch) ≡ Some f.me → list_any (same_file file) fs ≡ has_lost_mend (entries newer) f.epoch file) →
      UsersInside c f newer (record u { waiting = without_row waiting_key (waiting_key w) u.waiting; descriptors = ds; hopeless = fs })
  whole ds fs up described lost = record {
    always = record { boot_is = k.others.boot_is; calls = k.others.calls; serials = k.serials; descriptors = described; ascends = up; cache = k.others.cache };
    inside = record {
      calls = every_without waiting_key (waiting_key w) (λ (v : WaitingCall). (waiting_key v ≡ waiting_key w → ⊥) → WaitingFact c t f v) (WaitingFact c newer f) u.waiting (λ v apart fact. waiting_same v (apart_call v apart (fact apart)) (fact apart)) k.others.ascends k.others.waits;
      ascends = ascends_without waiting_key (waiting_key w) u.waiting k.others.ascends;
      instances = every_both (UserInstanceFact c t f) (UserInstanceFact c newer f) u.instances instance_same k.instances;
      numbered = k.others.numbered;
      has = k.others.has;
      all = all_same;
      hopeless = lost;
    };
  }

-- ---- descriptors ----

-- two keys that are one are of one process and one number
one_key : (a b p q : ℕ) → b < descriptor_span → q < descriptor_span → a * descriptor_span + b ≡ p * descriptor_span + q → (a ≡ p) × (b ≡ q)
one_key a b p q lb lq e = over (compare a p)
  where
    over : (a < p) ⊎ ((p < a) ⊎ (a ≡ p)) → (a ≡ p) × (b ≡ q)
    over (inl lt) = absurd (omega (arith, lt, lb, lq, e))
    over (inr (inl lt)) = absurd (omega (arith, lt, lb, lq, e))
    over (inr (inr same)) = (same, omega (arith, same, e))

apart_keys : (a b p q : ℕ) → b < descriptor_span → q < descriptor_span → ((a ≡ p) × (b ≡ q) → ⊥) → (fd_key a b == fd_key p q) ≡ false
apart_keys a b p q lb lq ne = over (fd_key a b == fd_key p q) refl
  where
    over : (x : Bool) → (fd_key a b == fd_key p q) ≡ x → (fd_key a b == fd_key p q) ≡ false
    over true e = absurd (ne (one_key a b p q lb lq (equal (fd_key a b) (fd_key p q) e)))
    over false e = e

-- a reply that isn't of an open leaves the descriptors
left_alone : (a b : Bool) (old : Option Descriptor) → cond (a && b) old old ≡ old
left_alone true true old = refl
left_alone true false old = refl
left_alone false b old = refl

-- one number of the process stands for something new
newly_described : (t : List Line) (f : Frame) (w : WaitingCall) (fd : ℕ) (kept : Option OneVersion) (new : ℕ → ℕ → Option Descriptor) (ds : List DescriptorRow) → fd < descriptor_span → new w.process fd ≡ Some (opened_row f w fd kept).descriptor →
    ((process n : ℕ) → n < descriptor_span → descriptor_in (row descriptor_key (fd_key process n) ds) ≡ descriptor (entries t) f.me process n) → (process n : ℕ) → n < descriptor_span →
    descriptor_in (row descriptor_key (fd_key process n) (with_row descriptor_key (opened_row f w fd kept) ds)) ≡ cond ((f.me == f.me) && (w.process == process)) (cond (fd == n) (new process n) (descriptor (entries t) f.me process n)) (descriptor (entries t) f.me process n)
newly_described t f w fd kept new ds lt stands old process n less = at (w.process == process) (fd == n) refl refl ∙ ap (λ (b : Bool). cond (b && (w.process == process)) (cond (fd == n) (new process n) (descriptor (entries t) f.me process n)) (descriptor (entries t) f.me process n)) (sym (equal_self f.me))
  where
    other : ((w.process ≡ process) × (fd ≡ n) → ⊥) → descriptor_in (row descriptor_key (fd_key process n) (with_row descriptor_key (opened_row f w fd kept) ds)) ≡ descriptor (entries t) f.me process n
    other ne = ap descriptor_in (row_other descriptor_key (opened_row f w fd kept) (fd_key process n) ds (apart_keys w.process fd process n lt less ne)) ∙ old process n less

    differ : (a b : ℕ) → (a == b) ≡ false → a ≡ b → ⊥
    differ a b s e = true_false (sym (subst (λ (m : ℕ). (a == m) ≡ true) e (equal_self a)) ∙ s)

    at : (a b : Bool) → (w.process == process) ≡ a → (fd == n) ≡ b → descriptor_in (row descriptor_key (fd_key process n) (with_row descriptor_key (opened_row f w fd kept) ds)) ≡ cond (true && a) (cond b (new process n) (descriptor (entries t) f.me process n)) (descriptor (entries t) f.me process n)
    at true true p q = ap descriptor_in (ap (λ (m : ℕ). row descriptor_key m (with_row descriptor_key (opened_row f w fd kept) ds)) (ap (λ (m : ℕ). fd_key m n) (sym (equal w.process process p)) ∙ ap (fd_key w.process) (sym (equal fd n q))) ∙ row_same descriptor_key (opened_row f w fd kept) ds)
        ∙ (sym stands ∙ (ap (λ (m : ℕ). new m fd) (equal w.process process p) ∙ ap (new process) (equal fd n q)))
    at true false p q = other (λ z. differ fd n q z.1)
    at false b p q = other (λ z. differ w.process process p z.0)

-- ---- what a reply leaves ----

-- by what a read that has opened a version again was granted, its number stands for that; no other was granted anything
abbrev pub ReadsWell : List Line → Frame → WaitingCall → Beginning → Call → Type 0
ReadsWell t f w (begins.Reopens version last) (call.Read fd at len) = (fd < descriptor_span) × (held_again (opening_of (entries t) (it f w)) (descriptor (entries t) f.me w.process fd) ≡ Some (opened_row f w fd (Some version)).descriptor)
ReadsWell t f w _ words = opening_of (entries t) (it f w) ≡ None

-- the version that an open keeps
abbrev pub kept_so : WaitingCall → Option OneVersion
kept_so w = cond (is_steady w.words) (last_version None w.answers) None

-- the reply of an open has a number that its process has free, and stands for what was granted
abbrev pub OpensWell : List Line → Frame → WaitingCall → Reply → Type 0
OpensWell t f w (reply.Opened fd) = (fd < descriptor_span) × (opened_as (entries t) (it f w) ≡ Some (opened_row f w fd (kept_so w)).descriptor)
OpensWell t f w (reply.Data bytes) = ReadsWell t f w w.begins w.words
OpensWell t f w _ = Unit {0}

pub replied_fine : (c : Config) (n : ℕ) (t : List Line) (f : Frame) (w : WaitingCall) (u : Users) (r : Reply) → IsFollowed c t → FrameFact c t f → Counted c t f w u → MayTell c t (reply_record f.me f.boot w r) → AllStay c t (With n (reply_record f.me f.boot w r) t) (reply_record f.me f.boot w r) → OpensWell t f w r →
    UsersInside c f (With n (reply_record f.me f.boot w r) t) (after_reply f w r (without_waiting w u))
replied_fine c n t f w u (reply.Opened fd) h frame k may stay well = whole c n t f w u (reply.Opened fd) h frame k may stay (with_row descriptor_key (opened_row f w fd (kept_so w)) u.descriptors) u.hopeless (ascends_with descriptor_key (opened_row f w fd (kept_so w)) u.descriptors k.others.listed)
    (λ process m less. newly_described t f w fd (kept_so w) (λ (p i : ℕ). opened_as (entries t) (it f w)) u.descriptors well.0 well.1 k.others.descriptors process m less) k.others.hopeless
replied_fine c n t f w u (reply.Data bytes) h frame k may stay well = over w.begins w.words refl well
  where
    reads_so : (words : Call) → w.words ≡ words → (m : ℕ) → reads_by (call_named (entries t) (it f w)) m ≡ is_read_of words m
    reads_so words e m = ap (λ (o : Option Waiting). reads_by o m) (k.call.named ∙ ap Some k.call.caller_is) ∙ ap (λ (y : Call). is_read_of y m) e

    -- nothing was granted to it
    plain : opening_of (entries t) (it f w) ≡ None → UsersInside c f (With n (reply_record f.me f.boot w (reply.Data bytes)) t) (without_waiting w u)
    plain none = whole c n t f w u (reply.Data bytes) h frame k may stay u.descriptors u.hopeless k.others.listed
        (λ process m less. k.others.descriptors process m less ∙ sym (same process m)) k.others.hopeless
      where
        by : (a b : Bool) (old : Option Descriptor) → cond a (cond b (held_again None old) old) old ≡ old
        by true true old = refl
        by true false old = refl
        by false b old = refl

        same : (process m : ℕ) → cond ((f.me == f.me) && (w.process == process)) (opened_by (reply.Data bytes) (entries t) (it f w) m (descriptor (entries t) f.me process m)) (descriptor (entries t) f.me process m) ≡ descriptor (entries t) f.me process m
        same process m = ap (λ (o : Option Descriptor). cond ((f.me == f.me) && (w.process == process)) (cond (reads_by (call_named (entries t) (it f w)) m) (held_again o (descriptor (entries t) f.me process m)) (descriptor (entries t) f.me process m)) (descriptor (entries t) f.me process m)) none
            ∙ by ((f.me == f.me) && (w.process == process)) (reads_by (call_named (entries t) (it f w)) m) (descriptor (entries t) f.me process m)

    again : (version : OneVersion) (fd at len : ℕ) → w.words ≡ call.Read fd at len → (fd < descriptor_span) × (held_again (opening_of (entries t) (it f w)) (descriptor (entries t) f.me w.process fd) ≡ Some (opened_row f w fd (Some version)).descriptor) →
        UsersInside c f (With n (reply_record f.me f.boot w (reply.Data bytes)) t) (with_descriptor (opened_row f w fd (Some version)) (without_waiting w u))
    again version fd at len e so = whole c n t f w u (reply.Data bytes) h frame k may stay (with_row descriptor_key (opened_row f w fd (Some version)) u.descriptors) u.hopeless (ascends_with descriptor_key (opened_row f w fd (Some version)) u.descriptors k.others.listed)
        (λ process m less. newly_described t f w fd (Some version) (λ (p i : ℕ). held_again (opening_of (entries t) (it f w)) (descriptor (entries t) f.me p i)) u.descriptors so.0 so.1 k.others.descriptors process m less
        ∙ ap (λ (b : Bool). cond ((f.me == f.me) && (w.process == process)) (cond b (held_again (opening_of (entries t) (it f w)) (descriptor (entries t) f.me process m)) (descriptor (entries t) f.me process m)) (descriptor (entries t) f.me process m)) (sym (reads_so (call.Read fd at len) e m))) k.others.hopeless

    over : (b : Beginning) (words : Call) → w.words ≡ words → ReadsWell t f w b words → UsersInside c f (With n (reply_record f.me f.boot w (reply.Data bytes)) t) (holds_again f w b words (without_waiting w u))
    over (begins.Reopens version last) (call.Read fd at len) e so = again version fd at len e so
    over (begins.Reopens version last) _ e so = plain so
    over _ words e so = plain so
replied_fine c n t f w u (reply.No why) h frame k may stay well = over w.words refl
  where
    descriptors : (process m : ℕ) → m < descriptor_span → descriptor_in (row descriptor_key (fd_key process m) u.descriptors) ≡ descriptor (entries (With n (reply_record f.me f.boot w (reply.No why)) t)) f.me process m
    descriptors process m less = k.others.descriptors process m less ∙ sym (left_alone (f.me == f.me) (w.process == process) (descriptor (entries t) f.me process m))

    words_of : (words : Call) → w.words ≡ words → call_named (entries t) (it f w) ≡ Some (record { site = f.me; process = w.process; call = it f w; words = words; epoch = Some f.epoch })
    words_of words e = k.call.named ∙ ap Some (k.call.caller_is ∙ ap (λ (y : Call). record { site = f.me; process = w.process; call = it f w; words = y; epoch = Some f.epoch }) e)

    result : List FileId → Type 0
    result fs = UsersInside c f (With n (reply_record f.me f.boot w (reply.No why)) t) (record u { waiting = without_row waiting_key (waiting_key w) u.waiting; hopeless = fs })

    with_files : (fs : List FileId) → ((file : FileId) → list_any (same_file file) fs ≡ (is_lost_mend f.epoch file (reply.No why) (call_named (entries t) (it f w)) || list_any (same_file file) u.hopeless)) → result fs
    with_files fs lost = whole c n t f w u (reply.No why) h frame k may stay u.descriptors fs k.others.listed descriptors (λ file synced. lost file ∙ ap (λ (b : Bool). is_lost_mend f.epoch file (reply.No why) (call_named (entries t) (it f w)) || b) (k.others.hopeless file synced))

    none : (words : Call) → w.words ≡ words → ((file : FileId) → is_mend_of file words ≡ false) → (file : FileId) → list_any (same_file file) u.hopeless ≡ (is_lost_mend f.epoch file (reply.No why) (call_named (entries t) (it f w)) || list_any (same_file file) u.hopeless)
    none words e away file = sym (ap (λ (o : Option Waiting). is_lost_mend f.epoch file (reply.No why) o || list_any (same_file file) u.hopeless) (words_of words e) ∙ (ap (λ (b : Bool). (ends_mending why && (is_in (Some f.epoch) f.epoch && b)) || list_any (same_file file) u.hopeless) (away file) ∙ dull (ends_mending why) (is_in (Some f.epoch) f.epoch)))
      where
        dull : (a b : Bool) → ((a && (b && false)) || list_any (same_file file) u.hopeless) ≡ list_any (same_file file) u.hopeless
        dull true true = refl
        dull true false = refl
        dull false b = refl

    mends : (g : FileId) → w.words ≡ call.Mend g → (b : Bool) → is_hopeless why ≡ b → UsersInside c f (With n (reply_record f.me f.boot w (reply.No why)) t) (cond b (record (without_waiting w u) { hopeless = u.hopeless ++ g ∷ [] }) (without_waiting w u))
    mends g e true s = with_files (u.hopeless ++ g ∷ []) (λ file. any_last (same_file file) u.hopeless g
        ∙ sym (ap (λ (o : Option Waiting). is_lost_mend f.epoch file (reply.No why) o || list_any (same_file file) u.hopeless) (words_of (call.Mend g) e)
        ∙ (ap (λ (b : Bool). (b && (is_in (Some f.epoch) f.epoch && same_file g file)) || list_any (same_file file) u.hopeless) (sym (hopeless_ends why) ∙ s)
        ∙ (ap (λ (b : Bool). (b && same_file g file) || list_any (same_file file) u.hopeless) (same_epoch_own f.epoch)
        ∙ ap (λ (b : Bool). b || list_any (same_file file) u.hopeless) (either_file g file)))))
    mends g e false s = with_files u.hopeless (λ file. sym (ap (λ (o : Option Waiting). is_lost_mend f.epoch file (reply.No why) o || list_any (same_file file) u.hopeless) (words_of (call.Mend g) e)
        ∙ ap (λ (b : Bool). (b && (is_in (Some f.epoch) f.epoch && same_file g file)) || list_any (same_file file) u.hopeless) (sym (hopeless_ends why) ∙ s)))

    over : (words : Call) → w.words ≡ words → UsersInside c f (With n (reply_record f.me f.boot w (reply.No why)) t) (without_hope words why (without_waiting w u))
    over (call.Mend g) e = mends g e (is_hopeless why) refl
    over words e = with_files u.hopeless (none words e (λ file. refl))
replied_fine c n t f w u r h frame k may stay well = whole c n t f w u r h frame k may stay u.descriptors u.hopeless k.others.listed (λ process m less. k.others.descriptors process m less ∙ sym (left_alone (f.me == f.me) (w.process == process) (descriptor (entries t) f.me process m))) k.others.hopeless
