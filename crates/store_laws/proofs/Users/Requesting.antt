-- A call that turns asks its next request: it is what the call asks, its packet carries its fact, and the site counts it.
use Rattle.std.proofs.Common.{◌≡◌, ℕ, ◌+◌, ◌==◌, Bool, true, false, cond, List, length, Option, Some, None, refl, sym, ◌∙◌, ap, subst, ◌⊎◌, inl, inr}
use Rattle.std.specs.Option.{is_some}
use Rattle.role_steps.proofs.of_plain_facts.Numbers.{equal}
use Rattle.role_steps.proofs.of_plain_facts.Tests.{true_false}
use Rattle.locus_ids.specs.declared.config.Config.{Config}
use Rattle.locus_ids.specs.declared.ids.CallId.{CallId}
use Rattle.locus_ids.specs.declared.ids.FileId.{FileId}
use Rattle.locus_ids.specs.declared.ids.Kind.{Kind}
use Rattle.locus_ids.specs.declared.ids.Serial.{Serial}
use Rattle.locus_ids.specs.declared.sites.Sites.{Sites}
use Rattle.trace_book.specs.Same.{same_serial}
use Rattle.trace_book.specs.declared.operation.Op.{Op}
use Rattle.trace_book.specs.declared.operation.Op.TheVariants as op
use Rattle.trace_book.specs.declared.operation.What.{What}
use Rattle.call_rules.specs.declared.answer.Answer.{Answer}
use Rattle.call_rules.specs.declared.want.Want.{Want}
use Rattle.call_rules.specs.declared.want.Want.TheVariants as want
use Rattle.wire_messages.specs.declared.body.Body.{Body}
use Rattle.wire_messages.specs.declared.body.Body.TheVariants as body
use Rattle.wire_messages.specs.declared.body.Opening.{Opening}
use Rattle.wire_messages.specs.declared.body.Opening.TheVariants as how
use Rattle.role_steps.specs.Own.{Every}
use Rattle.role_steps.specs.Requests.{waiting_key, instance_serial, user_instance, with_user_instance, made_for, opening_of, operation_body, request_packets, next_request, asks, asks_look, asks_open, asks_make, asks_op, asks_op_of, asks_close, asks_close_of, seen_by}
use Rattle.role_steps.specs.Tables.{row, with_row}
use Rattle.role_steps.specs.Using.{next_want, asks_want, goes_on}
use Rattle.role_steps.specs.Views.{Users, Frame, packet, to_some, sync_site}
use Rattle.role_steps.specs.declared.users.Asking.{Asking}
use Rattle.role_steps.specs.declared.users.Asking.TheVariants as asking
use Rattle.role_steps.specs.declared.users.UserInstance.{UserInstance}
use Rattle.role_steps.specs.declared.users.WaitingCall.{WaitingCall}
use Rattle.role_steps.proofs.Rows.{row_same, row_other}
use Rattle.tree_laws.specs.of_the_run.Kept.{Among}
use Rattle.tree_laws.specs.of_the_run.Worlds.{Line}
use Rattle.tree_model.specs.Calls.{granted_to}
use Rattle.tree_model.specs.Epochs.{boot_of, epoch_of}
use Rattle.tree_model.specs.declared.accepted.Waiting.{Waiting}
use Rattle.tree_model.specs.declared.instance.Instance.{Instance}
use Rattle.tree_laws.specs.of_lawful_trace.Tables.{call_of_act}
use Rattle.tree_laws.specs.of_lawful_trace.TreeRows.{IsCallIn}
use Rattle.tree_laws.specs.Printed.{entries}
use Rattle.tree_laws.specs.Calls.{Asks, is_request, script, request_number}
use Rattle.tree_laws.specs.Doing.{FrameFact, UsersFine}
use Rattle.tree_laws.specs.Following.{IsFollowed}
use Rattle.tree_laws.specs.Holding.{has_instances, IsOf}
use Rattle.tree_laws.specs.Instances.{IsOpening, IsOpenAt, instance_now}
use Rattle.tree_laws.specs.Packets.{PacketFact, IsCallOf, CloseFact, OpFact, SeesFor, serial_of}
use Rattle.tree_laws.specs.Past.{WasGranted}
use Rattle.tree_laws.specs.Serials.{asked_now, is_open_want, is_op_on, ops_asked, serial_asked}
use Rattle.tree_laws.specs.Users.{AskingIs, WaitingFact, UserInstanceFact}
use Rattle.tree_laws.proofs.Awaiting.{all_have, held_named}
use Rattle.tree_laws.proofs.Boots.{every_both}
use Rattle.tree_laws.proofs.Names.{same_serial_eq, same_serial_own}
use Rattle.tree_laws.proofs.OfOwn.{asks_of_own}
use Rattle.tree_laws.proofs.OneBoot.{boot_where_inside}
use Rattle.tree_laws.specs.Orders.ProcessAsked.{AsksOf, IsOpenOf}
use Rattle.tree_laws.specs.Orders.ProcessOperations.{OpsAre}
use Rattle.tree_laws.proofs.Orders.ProcessGranting.{GrantIs, granted_is}
use Rattle.tree_laws.proofs.Orders.ProcessOpen.{OpenAs, asked_open, granted_open}
use Rattle.tree_laws.proofs.Orders.ProcessOperationsRun.{operations_counted}
use Rattle.tree_laws.proofs.Orders.ProcessOwner.{owner_release}
use Rattle.tree_laws.proofs.Orders.ProcessTaken.{asked_had}
use Rattle.store_laws.specs.Users.Rests.{RequestRests}
use Rattle.store_laws.specs.Users.Turning.{it, CallTurns, InstanceTurns, Turning, Counted}
use Rattle.store_laws.proofs.Users.Tabled.{every_with, ascends_with, among_with, among_kept, every_among, row_found}
use Rattle.store_laws.proofs.Users.Wanting.{asked_is}

module _ (c : Config) (n : ℕ) (t : List Line) (f : Frame) (h : IsFollowed c t) (frame : FrameFact c t f) where
  -- ---- the call ----

  inside : (w : WaitingCall) → CallTurns c t f w → IsCallIn (entries t) f.epoch (it f w)
  inside w k = record { accepted = k.caller; named = k.named; made_in = ap (λ (x : Waiting). x.epoch) k.caller_is }

  call_of : (w : WaitingCall) → CallTurns c t f w → IsCallOf t f.epoch f.me w.call w.process (it f w)
  call_of w k = record { site_is = refl; number_is = refl; inside = inside w k; caller = k.caller; named = k.named; process_is = ap (λ (x : Waiting). x.process) k.caller_is }

  number_is : (w : WaitingCall) → CallTurns c t f w → w.request + 1 ≡ request_number t (it f w)
  number_is w k = ap (λ (m : ℕ). m + 1) (k.request_is ∙ ap length k.answers_are)

  asks_it : (w : WaitingCall) (v : Want) → CallTurns c t f w → asked_now c t (it f w) ≡ v → is_request v ≡ true → Asks c t (it f w) v
  asks_it w v k asked request = record { asked = asked; request = request; nothing_waits = k.nothing_waits }

  -- ---- its request ----

  waits_so : (w : WaitingCall) (a : Asking) (v : Want) → CallTurns c t f w → asked_now c t (it f w) ≡ v → is_request v ≡ true → AskingIs c t f.me (it f w) v a → Every (PacketFact c t) (request_packets f (next_request w a) a) → WaitingFact c t f (next_request w a)
  waits_so w a v k asked request is sent = record {
    caller = k.caller;
    named = k.named;
    caller_is = k.caller_is;
    waits = k.waits;
    begins_is = k.begins_is;
    answers_are = k.answers_are;
    request_is = ap (λ (m : ℕ). m + 1) k.request_is;
    wanted = v;
    script_is = ap (script c (entries t) (it f w) None) k.answers_are ∙ asked;
    asking_is = is;
    answered = inl (asks_it w v k asked request);
    sent = sent;
    brings = k.brings;
    copied = k.copied;
  }

  asks_fine : (w : WaitingCall) (u : Users) (a : Asking) (v : Want) → Counted c t f w u → asked_now c t (it f w) ≡ v → is_request v ≡ true → AskingIs c t f.me (it f w) v a → Every (PacketFact c t) (request_packets f (next_request w a) a) → UsersFine c n t f (asks f (next_request w a) u)
  asks_fine w u a v k asked request is sent = record {
    told = tt;
    own = tt;
    view = record {
      always = record { boot_is = k.others.boot_is; calls = k.others.calls; serials = k.serials; descriptors = k.others.descriptors; ascends = k.others.listed; cache = k.others.cache };
      inside = record {
        calls = every_with waiting_key (next_request w a) (λ (v : WaitingCall). (waiting_key v ≡ waiting_key w → ⊥) → WaitingFact c t f v) (WaitingFact c t f) u.waiting (λ v apart fact. fact apart) k.others.ascends k.others.waits (waits_so w a v k.call asked request is sent);
        ascends = ascends_with waiting_key (next_request w a) u.waiting k.others.ascends;
        instances = k.instances;
        numbered = k.others.numbered;
        has = k.others.has;
        all = λ d process caller found. over d (k.others.all d process caller found);
        hopeless = k.others.hopeless;
      };
    };
    sent = sent;
    written = tt;
  }
    where
      over : (d : CallId) → (d ≡ it f w) ⊎ ((v : WaitingCall) × Among v u.waiting × (waiting_key v ≡ waiting_key w → ⊥) × (d ≡ it f v)) → (v : WaitingCall) × Among v (with_row waiting_key (next_request w a) u.waiting) × (d ≡ it f v)
      over d (inl e) = (next_request w a, among_with waiting_key (next_request w a) u.waiting, e)
      over d (inr z) = (z.0, among_kept waiting_key (next_request w a) z.0 u.waiting z.2 z.1, z.3)

  -- ---- nothing is counted ----

  pub plain : (w : WaitingCall) (u : Users) (v : Want) → Turning c t f w u → asked_now c t (it f w) ≡ v → is_open_want v ≡ false → ((i : Serial) → is_op_on i v ≡ false) → Counted c t f w u
  plain w u v k asked no_open no_op = record {
    call = k.call;
    others = k.others;
    serials = sym (ap (λ (b : Bool). cond b (u.serials + 1) u.serials) (ap is_open_want asked ∙ no_open)) ∙ k.serials;
    instances = every_both (InstanceTurns c t f (it f w)) (UserInstanceFact c t f) u.instances (λ i p. instance_same i p) k.instances;
  }
    where
      instance_same : (i : UserInstance) → InstanceTurns c t f (it f w) i → UserInstanceFact c t f i
      instance_same i p = record { call = p.call; request = p.request; mode = p.mode; file = p.file; stamp = p.stamp; was_granted = p.was_granted; sees = p.sees; reads = p.reads; ops = sym (ap (λ (b : Bool). cond b (i.ops + 1) i.ops) (ap (is_op_on (serial_of f.me i.serial)) asked ∙ no_op (serial_of f.me i.serial))) ∙ p.ops }

  -- ---- looks ----

  to_site : (b : Body) (o : Option ℕ) → ((s : ℕ) → PacketFact c t (packet f s b)) → Every (PacketFact c t) (to_some f b o)
  to_site b None fact = tt
  to_site b (Some s) fact = (fact s, tt)

  look_fine : (w : WaitingCall) (u : Users) (file : FileId) (what : What) → Turning c t f w u → asked_now c t (it f w) ≡ want.Look file what → UsersFine c n t f (asks_look f w file what u)
  look_fine w u file what k asked = asks_fine w u (asking.Look file what 1) (want.Look file what) (plain w u (want.Look file what) k asked refl (λ i. refl)) asked refl (refl, refl, sym k.call.tries_are)
      (to_site (body.Look w.call w.process (w.request + 1) 1 file what) (sync_site f.config f.members file.group) (λ s. record {
        call = it f w;
        is_call = call_of w k.call;
        stands = inr (record { asks = asks_it w (want.Look file what) k.call asked refl; request_is = number_is w k.call; tries_are = sym k.call.tries_are });
      }))

  -- ---- opens ----

  one_open : (w : WaitingCall) (u : Users) (v : Want) → Turning c t f w u → asked_now c t (it f w) ≡ v → is_open_want v ≡ true → ((i : Serial) → is_op_on i v ≡ false) → Counted c t f w (record u { serials = u.serials + 1 })
  one_open w u v k asked opens no_op = record {
    call = k.call;
    others = record { boot_is = k.others.boot_is; calls = k.others.calls; descriptors = k.others.descriptors; listed = k.others.listed; cache = k.others.cache; waits = k.others.waits; ascends = k.others.ascends; numbered = k.others.numbered; has = k.others.has; all = k.others.all; hopeless = k.others.hopeless };
    serials = sym (ap (λ (b : Bool). cond b (u.serials + 1) u.serials) (ap is_open_want asked ∙ opens)) ∙ k.serials;
    instances = every_both (InstanceTurns c t f (it f w)) (UserInstanceFact c t f) u.instances (λ i p. instance_same i p) k.instances;
  }
    where
      instance_same : (i : UserInstance) → InstanceTurns c t f (it f w) i → UserInstanceFact c t f i
      instance_same i p = record { call = p.call; request = p.request; mode = p.mode; file = p.file; stamp = p.stamp; was_granted = p.was_granted; sees = p.sees; reads = p.reads; ops = sym (ap (λ (b : Bool). cond b (i.ops + 1) i.ops) (ap (is_op_on (serial_of f.me i.serial)) asked ∙ no_op (serial_of f.me i.serial))) ∙ p.ops }

  pub open_fine : (w : WaitingCall) (u : Users) (file : FileId) (m : Opening) (v : Want) → Turning c t f w u → asked_now c t (it f w) ≡ v → is_request v ≡ true → is_open_want v ≡ true → ((i : Serial) → is_op_on i v ≡ false) → IsOpening c v file m → (u.serials + 1 ≡ serial_asked c t (it f w) → AskingIs c t f.me (it f w) v (asking.Open (u.serials + 1) file m)) →
      UsersFine c n t f (asks_open f w file m u)
  open_fine w u file m v k asked request opens no_op is asks_so = asks_fine w (record u { serials = u.serials + 1 }) (asking.Open (u.serials + 1) file m) v counted asked request (asks_so serial_is)
      (to_site (body.Open (u.serials + 1) w.call w.process (w.request + 1) file m) (sync_site f.config f.members file.group) (λ s. record {
        call = it f w;
        is_call = call_of w k.call;
        stands = inr (record { wanted = v; asks = asks_it w v k.call asked request; opening_is = is; inside = inside w k.call; request_is = number_is w k.call; serial_is = serial_is });
      }))
    where
      counted : Counted c t f w (record u { serials = u.serials + 1 })
      counted = one_open w u v k asked opens no_op

      serial_is : u.serials + 1 ≡ serial_asked c t (it f w)
      serial_is = counted.serials ∙ sym k.call.serial_is

  make_fine : (w : WaitingCall) (u : Users) (group : ℕ) (kind : Kind) (sites : Option Sites) → Turning c t f w u → asked_now c t (it f w) ≡ want.Make group kind sites → UsersFine c n t f (asks_make f w group kind sites u)
  make_fine w u group kind sites k asked = open_fine w u (record { group = group; ino = 0 }) (how.Make (made_for f.config group sites) kind) (want.Make group kind sites) k asked refl refl (λ i. refl) is (λ e. (is, e))
    where
      is : IsOpening c (want.Make group kind sites) (record { group = group; ino = 0 }) (how.Make (made_for f.config group sites) kind)
      is = (refl, refl, ap (λ (x : Config). how.Make (made_for x group sites) kind) frame.config_is)

  -- ---- instances ----

  -- what the call asks something of is an instance of the site
  record IsHad (w : WaitingCall) (u : Users) (inst : Serial) : Type 0 where
    has : UserInstance
    found : user_instance u inst.serial ≡ Some has
    among : Among has u.instances
    serial_is : serial_of f.me has.serial ≡ inst
    at : Instance
    open_at : IsOpenAt c t f.epoch inst has.ss at

  is_had : (w : WaitingCall) (u : Users) (inst : Serial) → Turning c t f w u → AsksOf c t (it f w) inst → IsHad w u inst
  is_had w u inst k of = over (user_instance u inst.serial) refl
    where
      open_of : IsOpenOf c t f.epoch inst f.me
      open_of = asked_open c t f.epoch (it f w) inst h (inside w k.call) of

      none : ◌≡◌ {A = Bool} false true → ⊥
      none e = true_false (sym e)

      over : (o : Option UserInstance) → user_instance u inst.serial ≡ o → IsHad w u inst
      over None e = absurd (none (sym (ap (λ (o : Option UserInstance). is_some o) e) ∙ (k.others.has inst.serial ∙ asked_had c t f.epoch (it f w) inst h (inside w k.call) frame.inside of)))
      over (Some i) e = record { has = i; found = e; among = found.0; serial_is = same; at = shown.at; open_at = record { found = shown.found; place = shown.place_is } }
        where
          found : Among i u.instances × (i.serial ≡ inst.serial)
          found = row_found instance_serial inst.serial u.instances i e

          fact : InstanceTurns c t f (it f w) i
          fact = every_among (InstanceTurns c t f (it f w)) i u.instances found.0 k.instances

          same : serial_of f.me i.serial ≡ inst
          same = ap (λ (s : ℕ). serial_of f.me s) found.1 ∙ ap (λ (s : ℕ). serial_of s inst.serial) (sym open_of.us_is)

          shown : OpenAs c t f.epoch fact.call inst fact.mode fact.file i.ss
          shown = granted_open c t h f.epoch fact.call fact.request inst fact.mode fact.file fact.stamp i.ss (subst (λ (j : Serial). WasGranted t f.epoch fact.call fact.request j fact.mode fact.file fact.stamp i.ss) same fact.was_granted) open_of.unreleased

  close_fine : (w : WaitingCall) (u : Users) (inst : Serial) → Turning c t f w u → asked_now c t (it f w) ≡ want.Close inst → UsersFine c n t f (asks_close f w inst u)
  close_fine w u inst k asked = subst (λ (o : Option UserInstance). UsersFine c n t f (asks_close_of f w o u)) (sym z.found)
      (asks_fine w u (asking.Close z.has.serial z.has.ss) (want.Close inst) (plain w u (want.Close inst) k asked refl (λ i. refl)) asked refl z.serial_is
      (subst (λ (j : Serial). BodyFactOfClose j) (sym z.serial_is) closes, tt))
    where
      asks_so : Asks c t (it f w) (want.Close inst)
      asks_so = asks_it w (want.Close inst) k.call asked refl

      z : IsHad w u inst
      z = is_had w u inst k (inr asks_so)

      BodyFactOfClose : Serial → Type 0
      BodyFactOfClose j = CloseFact c t f.epoch z.has.ss j

      closes : CloseFact c t f.epoch z.has.ss inst
      closes = inr (z.at, record { call = it f w; owner = owner_release c t f.epoch (it f w) inst h (inside w k.call) asks_so; inside = inside w k.call; asks = asks_so; open_at = z.open_at })

  -- ---- operations ----

  -- the operation is the next of the instance
  next_op : (w : WaitingCall) (u : Users) (inst : Serial) (o : Op) → Turning c t f w u → Asks c t (it f w) (want.Do inst o) → (at : Instance) → instance_now c t f.epoch inst ≡ Some at → ops_asked c t inst ≡ at.work.ops + 1
  next_op w u inst o k asks_so at found = over (operations_counted c t h f.epoch inst g.0 g.1 now open_of.unreleased at found)
    where
      open_of : IsOpenOf c t f.epoch inst f.me
      open_of = asked_open c t f.epoch (it f w) inst h (inside w k.call) (inl (o, asks_so))

      has : has_instances c t (it f w) inst ≡ true
      has = subst (IsOf (has_instances c t (it f w))) asks_so.asked (asks_of_own c t (it f w) h (k.call.caller, k.call.named))

      g : (g : CallId) × (granted_to (entries t) f.epoch inst ≡ Some g)
      g = held_named t (it f w) inst f.epoch ((all_have c t h).held (it f w) inst (k.call.caller, k.call.named) has) (inside w k.call)

      grant : GrantIs t f.epoch inst g.0
      grant = granted_is c t h f.epoch inst g.0 g.1

      now : g.0.boot ≡ boot_of (entries t) g.0.site
      now = boot_where_inside c t g.0 f.epoch h grant.inside (ap (epoch_of (entries t)) (sym grant.us_is ∙ open_of.us_is) ∙ frame.inside)

      over : OpsAre c t f.epoch inst at → ops_asked c t inst ≡ at.work.ops + 1
      over (inl all) = absurd (all.nobody (it f w) o (inside w k.call) asks_so)
      over (inr more) = more.count

  -- the site counts it
  one_op : (w : WaitingCall) (u : Users) (inst : Serial) (o : Op) (i : UserInstance) → Turning c t f w u → asked_now c t (it f w) ≡ want.Do inst o → Among i u.instances → serial_of f.me i.serial ≡ inst → user_instance u i.serial ≡ Some i → Counted c t f w (with_user_instance (record i { ops = i.ops + 1 }) u)
  one_op w u inst o i k asked among same found = record {
    call = k.call;
    others = record { boot_is = k.others.boot_is; calls = k.others.calls; descriptors = k.others.descriptors; listed = k.others.listed; cache = k.others.cache; waits = k.others.waits; ascends = k.others.ascends; numbered = ascends_with instance_serial more u.instances k.others.numbered; has = λ serial. over serial (i.serial == serial) refl ∙ k.others.has serial; all = k.others.all; hopeless = k.others.hopeless };
    serials = sym (ap (λ (b : Bool). cond b (u.serials + 1) u.serials) (ap is_open_want asked)) ∙ k.serials;
    instances = every_with instance_serial more (InstanceTurns c t f (it f w)) (UserInstanceFact c t f) u.instances other k.others.numbered k.instances own;
  }
    where
      more : UserInstance
      more = record i { ops = i.ops + 1 }

      over : (serial : ℕ) (b : Bool) → (i.serial == serial) ≡ b → is_some (row instance_serial serial (with_row instance_serial more u.instances)) ≡ is_some (user_instance u serial)
      over serial true e = ap is_some (ap (λ (s : ℕ). row instance_serial s (with_row instance_serial more u.instances)) (sym (equal i.serial serial e)) ∙ row_same instance_serial more u.instances) ∙ sym (ap is_some (ap (user_instance u) (sym (equal i.serial serial e)) ∙ found))
      over serial false e = ap is_some (row_other instance_serial more serial u.instances e)

      counts : (j : UserInstance) → is_op_on (serial_of f.me j.serial) (asked_now c t (it f w)) ≡ same_serial inst (serial_of f.me j.serial)
      counts j = ap (is_op_on (serial_of f.me j.serial)) asked

      differs : (j : UserInstance) → (j.serial ≡ i.serial → ⊥) → (b : Bool) → same_serial inst (serial_of f.me j.serial) ≡ b → same_serial inst (serial_of f.me j.serial) ≡ false
      differs j ne true e = absurd (ne (ap (λ (s : Serial). s.serial) (sym (same ∙ same_serial_eq inst (serial_of f.me j.serial) e))))
      differs j ne false e = e

      other : (j : UserInstance) → (j.serial ≡ i.serial → ⊥) → InstanceTurns c t f (it f w) j → UserInstanceFact c t f j
      other j ne p = record { call = p.call; request = p.request; mode = p.mode; file = p.file; stamp = p.stamp; was_granted = p.was_granted; sees = p.sees; reads = p.reads; ops = sym (ap (λ (b : Bool). cond b (j.ops + 1) j.ops) (counts j ∙ differs j ne (same_serial inst (serial_of f.me j.serial)) refl)) ∙ p.ops }

      fact : InstanceTurns c t f (it f w) i
      fact = every_among (InstanceTurns c t f (it f w)) i u.instances among k.instances

      own : UserInstanceFact c t f more
      own = record { call = fact.call; request = fact.request; mode = fact.mode; file = fact.file; stamp = fact.stamp; was_granted = fact.was_granted; sees = fact.sees; reads = fact.reads; ops = sym (ap (λ (b : Bool). cond b (i.ops + 1) i.ops) (counts i ∙ (ap (same_serial inst) same ∙ same_serial_own inst))) ∙ fact.ops }

  -- the request is the operation, also where the bytes of a read are at the site
  op_sent : (copied : Option (List ℕ)) (ss serial m : ℕ) (o : Op) (u : Users) (answers : List Answer) → OpFact c t f.epoch ss (serial_of f.me serial) m o (seen_by u answers o) → PacketFact c t (packet f ss (operation_body copied serial m o (seen_by u answers o)))
  op_sent None ss serial m o u answers fact = fact
  op_sent (Some bytes) ss serial m (op.Read at len) u answers fact = fact
  op_sent (Some bytes) ss serial m o u answers fact = fact

  do_fine : (rests : RequestRests c t) (w : WaitingCall) (u : Users) (inst : Serial) (o : Op) → Turning c t f w u → asked_now c t (it f w) ≡ want.Do inst o → UsersFine c n t f (asks_op f w inst o u)
  do_fine rests w u inst o k asked = subst (λ (p : Option UserInstance). UsersFine c n t f (asks_op_of f w o p u)) (sym z.found)
      (asks_fine w (with_user_instance (record z.has { ops = z.has.ops + 1 }) u) (asking.Op z.has.serial z.has.ss (z.has.ops + 1) o (seen_by u w.answers o)) (want.Do inst o) counted asked refl (z.serial_is, refl, number)
      (op_sent w.copied z.has.ss z.has.serial (z.has.ops + 1) o u w.answers (subst (λ (j : Serial). OpFact c t f.epoch z.has.ss j (z.has.ops + 1) o (seen_by u w.answers o)) (sym z.serial_is) acts), tt))
    where
      asks_so : Asks c t (it f w) (want.Do inst o)
      asks_so = asks_it w (want.Do inst o) k.call asked refl

      z : IsHad w u inst
      z = is_had w u inst k (inl (o, asks_so))

      own : user_instance u z.has.serial ≡ Some z.has
      own = ap (λ (s : Serial). user_instance u s.serial) z.serial_is ∙ z.found

      counted : Counted c t f w (with_user_instance (record z.has { ops = z.has.ops + 1 }) u)
      counted = one_op w u inst o z.has k asked z.among z.serial_is own

      number : z.has.ops + 1 ≡ ops_asked c t inst
      number = (every_among (UserInstanceFact c t f) (record z.has { ops = z.has.ops + 1 }) (with_row instance_serial (record z.has { ops = z.has.ops + 1 }) u.instances) (among_with instance_serial (record z.has { ops = z.has.ops + 1 }) u.instances) counted.instances).ops ∙ ap (ops_asked c t) z.serial_is

      sees_for : (p : Op) → Asks c t (it f w) (want.Do inst p) → SeesFor c t f.epoch (it f w) inst p (seen_by u w.answers p)
      sees_for (op.Remove name ino) a = rests.sees f w u inst name ino frame.inside k a
      sees_for _ a = tt

      acts : OpFact c t f.epoch z.has.ss inst (z.has.ops + 1) o (seen_by u w.answers o)
      acts = inr (record {
        call = it f w;
        owner = ap (call_of_act (entries t) f.epoch inst) number ∙ rests.owner f.epoch (it f w) inst o (inside w k.call) frame.inside asks_so;
        inside = inside w k.call;
        asks = asks_so;
        at = z.at;
        open_at = z.open_at;
        next = number ∙ next_op w u inst o k asks_so z.at z.open_at.found;
        sees = sees_for o asks_so;
      })

  -- ---- all requests ----

  pub request_fine : (rests : RequestRests c t) (w : WaitingCall) (u : Users) (v : Want) → Turning c t f w u → is_request v ≡ true → asked_now c t (it f w) ≡ v → UsersFine c n t f (asks_want f w v u)
  request_fine rests w u (want.Look file what) k r asked = look_fine w u file what k asked
  request_fine rests w u (want.Open file m) k r asked = open_fine w u file (opening_of m) (want.Open file m) k asked refl refl (λ i. refl) (refl, refl) (λ e. ((refl, refl), e))
  request_fine rests w u (want.OpenToMend file) k r asked = open_fine w u file how.Mend (want.OpenToMend file) k asked refl refl (λ i. refl) (refl, refl) (λ e. ((refl, refl), e))
  request_fine rests w u (want.Make group kind sites) k r asked = make_fine w u group kind sites k asked
  request_fine rests w u (want.Do inst o) k r asked = do_fine rests w u inst o k asked
  request_fine rests w u (want.Close inst) k r asked = close_fine w u inst k asked
  request_fine rests w u (want.Give given) k r asked = absurd (true_false (sym r))
  request_fine rests w u want.Never k r asked = absurd (true_false (sym r))

-- what comes next is asked, where it is a request
pub requests_fine : (c : Config) (n : ℕ) (t : List Line) (f : Frame) (w : WaitingCall) (u : Users) → IsFollowed c t → FrameFact c t f → RequestRests c t → Turning c t f w u → is_request (next_want f w u) ≡ true → UsersFine c n t f (goes_on f w u)
requests_fine c n t f w u h frame rests k r = request_fine c n t f h frame rests w u (next_want f w u) k r (asked_is c t f w u (next_want f w u) frame k.call refl r)
