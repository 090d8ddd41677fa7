-- What the using site has stays when somebody else tells a line.
use Rattle.std.proofs.Common.{◌≡◌, ℕ, ◌==◌, arith, Bool, true, false, ◌&&◌, ◌||◌, List, [], ◌∷◌, map, Option, Some, None, refl, sym, ◌∙◌, ap, subst, inr}
use Rattle.std.specs.List.{find}
use Rattle.std.proofs.lemmas.Bool.Decides.{nat_tests}
use Rattle.role_steps.proofs.of_plain_facts.Numbers.{equal}
use Rattle.role_steps.proofs.of_plain_facts.Options.{some_same}
use Rattle.role_steps.proofs.of_plain_facts.Tests.{true_false}
use Rattle.locus_ids.specs.declared.config.Config.{Config}
use Rattle.locus_ids.specs.declared.ids.CallId.{CallId}
use Rattle.locus_ids.specs.declared.ids.EpochId.{EpochId}
use Rattle.locus_ids.specs.declared.ids.FileId.{FileId}
use Rattle.locus_ids.specs.declared.ids.Serial.{Serial}
use Rattle.locus_ids.specs.declared.ids.Stamp.{Stamp}
use Rattle.commit_graph.specs.Versions.{content_of, same_file}
use Rattle.trace_book.specs.Same.{same_call}
use Rattle.trace_book.specs.declared.call.Call.{Call}
use Rattle.trace_book.specs.declared.call.Call.TheVariants as call
use Rattle.trace_book.specs.declared.record.Record.{Record}
use Rattle.trace_book.specs.declared.record.Record.TheVariants as says
use Rattle.trace_book.specs.declared.reply.Reply.{Reply}
use Rattle.trace_book.specs.declared.reply.Reply.TheVariants as reply
use Rattle.call_rules.specs.declared.answer.Answer.{Answer}
use Rattle.call_rules.specs.declared.want.Want.{Want}
use Rattle.call_rules.specs.declared.want.Want.TheVariants as want
use Rattle.role_steps.specs.Own.{Every}
use Rattle.role_steps.specs.Requests.{request_packets}
use Rattle.role_steps.specs.Views.{Users, Frame, Told, Shown}
use Rattle.role_steps.specs.declared.users.Asking.{Asking}
use Rattle.role_steps.specs.declared.users.Asking.TheVariants as asking
use Rattle.role_steps.specs.declared.users.UserInstance.{UserInstance}
use Rattle.role_steps.specs.declared.users.WaitingCall.{WaitingCall}
use Rattle.tree_laws.specs.of_the_run.Kept.{Among}
use Rattle.tree_laws.specs.of_the_run.Worlds.{Line}
use Rattle.tree_model.specs.declared.accepted.Waiting.{Waiting}
use Rattle.tree_model.specs.Calls.{call_named, waiting}
use Rattle.tree_model.specs.Epochs.{is_in, members_of}
use Rattle.tree_model.specs.Histories.{history}
use Rattle.tree_model.specs.Packs.{sync_site}
use Rattle.tree_model.specs.State.{has_number}
use Rattle.tree_laws.specs.of_lawful_trace.CallRows.{ends_mending, has_lost_mend, is_lost_mend, is_mend_of, is_this}
use Rattle.tree_laws.specs.Printed.{entries, onto_entries}
use Rattle.tree_laws.specs.Calls.{log}
use Rattle.tree_laws.specs.Doing.{FrameFact, IsOfUsers, IsOfSite, UsersInside}
use Rattle.tree_laws.specs.Following.{MayTell, IsFollowed}
use Rattle.tree_laws.specs.Frames.{VersionsStay, AllStay}
use Rattle.tree_laws.specs.Instances.{Stands}
use Rattle.tree_laws.specs.Packets.{PacketFact, serial_of}
use Rattle.tree_laws.specs.Users.{own_call, taken_whole, AskingIs, Brings, BringsFor, WaitingFact, UserInstanceFact, InsideUsers, UsersFact}
use Rattle.tree_laws.proofs.Asking.{Turns}
use Rattle.tree_laws.proofs.Boots.{every_both, found_every}
use Rattle.tree_laws.proofs.Carried.{packet_stays}
use Rattle.tree_laws.proofs.CarriedVersions.{sees_stay}
use Rattle.tree_laws.proofs.Mending.{members_stay, mends_at_sync}
use Rattle.tree_laws.proofs.Names.{same_call_eq, same_epoch_eq}
use Rattle.tree_laws.proofs.Scripts.{named_stays, begun_stays, script_stays}
use Rattle.tree_laws.proofs.Stepping.{answered_stays}
use Rattle.tree_laws.proofs.Versions.{versions_stay}
use Rattle.tree_laws.proofs.Waiting.{accepted}
use Rattle.store_laws.proofs.Users.Caching.{cache_told, copied_stays, reads_stay}
use Rattle.store_laws.proofs.Users.Staying.{With, boots_stay, calls_stay, opens_stay, ops_stay, had_stays, descriptors_stay, unturned, log_stays, tries_stay, serial_stays, waits_still, waited_before}

-- ---- mends that were refused for good ----

parts : (a b d : Bool) → (a && b && d) ≡ true → (a ≡ true) × ((b ≡ true) × (d ≡ true))
parts true true true t = (refl, (refl, refl))
parts true true false t = absurd (true_false (sym t))
parts true false d t = absurd (true_false (sym t))
parts false b d t = absurd (true_false (sym t))

inner : (a b d : Bool) → a && (b && d) ≡ true → (b ≡ true) × (d ≡ true)
inner true true true t = (refl, refl)
inner true true false t = absurd (true_false (sym t))
inner true false d t = absurd (true_false (sym t))
inner false b d t = absurd (true_false (sym t))

in_is : (o : Option EpochId) (e : EpochId) → is_in o e ≡ true → o ≡ Some e
in_is None e t = absurd (true_false (sym t))
in_is (Some at) e t = ap Some (same_epoch_eq at e t)

-- a mend of the file
mend_of : (file : FileId) (words : Call) → is_mend_of file words ≡ true → (g : FileId) × (words ≡ call.Mend g) × (g.group ≡ file.group)
mend_of file (call.Mend g) t = (g, refl, group t)
  where
    group : same_file g file ≡ true → g.group ≡ file.group
    group k = grind (arith, nat_tests)
mend_of file _ t = absurd (true_false (sym t))

-- a mend that is lost in the epoch is one of the site that synchronizes the group
lost_at_sync : (c : Config) (older : List Line) (d : CallId) (r : Reply) (w : Waiting) (e : EpochId) (file : FileId) → IsFollowed c older → call_named (entries older) d ≡ Some w → is_lost_mend e file r (Some w) ≡ true → sync_site c file.group (members_of (entries older) e) ≡ Some w.site
lost_at_sync c older d (reply.No why) w e file h named t = subst (λ (g : ℕ). sync_site c g (members_of (entries older) e) ≡ Some w.site) m.2 (mends_at_sync c older h d w e m.0 named (in_is w.epoch e k.0) m.1)
  where
    k : (is_in w.epoch e ≡ true) × (is_mend_of file w.words ≡ true)
    k = inner (ends_mending why) (is_in w.epoch e) (is_mend_of file w.words) t

    m : (g : FileId) × (w.words ≡ call.Mend g) × (g.group ≡ file.group)
    m = mend_of file w.words k.1
lost_at_sync c older d _ w e file h named t = absurd (true_false (sym t))

lost_record : (c : Config) (n me : ℕ) (r : Record) (older : List Line) (e : EpochId) (file : FileId) → IsFollowed c older → MayTell c older (Shown r) → (IsOfUsers me (Shown r) → ⊥) → sync_site c file.group (members_of (entries older) e) ≡ Some me → has_lost_mend (entries (With n (Shown r) older)) e file ≡ has_lost_mend (entries older) e file
lost_record c n me (says.Answer s process d r) older e file h may away sync = ap (λ (b : Bool). b || has_lost_mend (entries older) e file) (none (is_lost_mend e file r (call_named (entries older) d)) refl)
  where
    found : (call_named (entries older) may.row.caller.call ≡ Some may.row.caller) × (is_this s process d may.row.caller ≡ true)
    found = found_every (λ (w : Waiting). call_named (entries older) w.call ≡ Some w) (is_this s process d) (waiting (entries older)) may.row.caller may.row.waits (accepted c older h).waits

    is : ((may.row.caller.site == s) ≡ true) × (((may.row.caller.process == process) ≡ true) × (same_call may.row.caller.call d ≡ true))
    is = parts (may.row.caller.site == s) (may.row.caller.process == process) (same_call may.row.caller.call d) found.1

    named : call_named (entries older) d ≡ Some may.row.caller
    named = ap (call_named (entries older)) (sym (same_call_eq may.row.caller.call d is.1.1)) ∙ found.0

    site : me ≡ may.row.caller.site → s ≡ me
    site same = sym (same ∙ equal may.row.caller.site s is.0)

    none : (b : Bool) → is_lost_mend e file r (call_named (entries older) d) ≡ b → is_lost_mend e file r (call_named (entries older) d) ≡ false
    none true t = absurd (away (site (some_same me may.row.caller.site (sym sync ∙ lost_at_sync c older d r may.row.caller e file h named (ap (is_lost_mend e file r) (sym named) ∙ t)))))
    none false t = t
lost_record c n me _ older e file h may away sync = refl

lost_told : (c : Config) (n me : ℕ) (x : Told) (older : List Line) (e : EpochId) (file : FileId) → IsFollowed c older → MayTell c older x → (IsOfUsers me x → ⊥) → sync_site c file.group (members_of (entries older) e) ≡ Some me → has_lost_mend (onto_entries n x (entries older)) e file ≡ has_lost_mend (entries older) e file
lost_told c n me (Shown r) older e file h may away sync = lost_record c n me r older e file h may away sync
lost_told c n me _ older e file h may away sync = refl

-- ---- what a site has ----

module _ (c : Config) (n : ℕ) (x : Told) (older : List Line) (f : Frame) (h : IsFollowed c older) (may : MayTell c older x) (stay : AllStay c older (With n x older) x) (away : IsOfUsers f.me x → ⊥) (calm : IsOfSite f.me x → ⊥) where
  versions : VersionsStay c older (With n x older)
  versions = versions_stay c n x older h may stay.fresh stay.order

  asking_stays : (d : CallId) (w : Want) (a : Asking) → d.site ≡ f.me → AskingIs c older f.me d w a → AskingIs c (With n x older) f.me d w a
  asking_stays d (want.Look file what) (asking.Look g asked times) own k = (k.0, k.1, k.2 ∙ sym (tries_stay n x older d (unturned c n f.me x older d may own away)))
  asking_stays d (want.Do inst o) (asking.Op serial ss number it seen) own k = (k.0, k.1, k.2 ∙ sym (ops_stay c n f.me x older inst (ap (λ (i : Serial). i.us) (sym k.0)) away calm))
  asking_stays d (want.Close inst) (asking.Close serial ss) own k = k
  asking_stays d (want.Open file m) (asking.Open serial g it) own k = (k.0, k.1 ∙ sym (serial_stays c n f.me x older d may own away))
  asking_stays d (want.OpenToMend file) (asking.Open serial g it) own k = (k.0, k.1 ∙ sym (serial_stays c n f.me x older d may own away))
  asking_stays d (want.Make group kind sites) (asking.Open serial g it) own k = (k.0, k.1 ∙ sym (serial_stays c n f.me x older d may own away))
  asking_stays d w (asking.Open serial g it) own k = absurd k.0
  asking_stays d w a own k = absurd k

  contents_same : (file : FileId) (stamps : List Stamp) → Every (Stands c older file) stamps → map (content_of (history c (entries (With n x older))) file) stamps ≡ map (content_of (history c (entries older)) file) stamps
  contents_same file [] k = refl
  contents_same file (s ∷ stamps) k = ap (λ (bytes : List ℕ). bytes ∷ map (content_of (history c (entries (With n x older))) file) stamps) (versions.contents file s k.0) ∙ ap (λ (rest : List (List ℕ)). content_of (history c (entries older)) file s ∷ rest) (contents_same file stamps k.1)

  brings_stay : (file : FileId) (stamps : List Stamp) (contents : List (List ℕ)) → Brings c older file stamps contents → Brings c (With n x older) file stamps contents
  brings_stay file stamps contents k = record { stand = every_both (Stands c older file) (Stands c (With n x older) file) stamps (λ s t. versions.stands file s t) k.stand; contents_are = k.contents_are ∙ sym (contents_same file stamps k.stand) }

  brought_stays : (d : CallId) (words : Call) (contents : List (List ℕ)) → d.site ≡ f.me → BringsFor c older d words contents → BringsFor c (With n x older) d words contents
  brought_stays d (call.Mend file) contents own k = subst (λ (xs : List Answer). Brings c (With n x older) file (taken_whole xs) contents) (sym (log_stays n x older d (unturned c n f.me x older d may own away))) (brings_stay file (taken_whole (log older d)) contents k)
  brought_stays d _ contents own k = k

  waiting_stays : (w : WaitingCall) → WaitingFact c older f w → WaitingFact c (With n x older) f w
  waiting_stays w k = record {
    caller = k.caller;
    named = named_stays c n x older d h may (k.caller, k.named) ∙ k.named;
    caller_is = k.caller_is;
    waits = waits_still c n f.me x older w.process d k.caller h may refl away calm k.waits;
    begins_is = begun_stays c n x older d h may (k.caller, k.named) ∙ k.begins_is;
    answers_are = k.answers_are ∙ sym (log_stays n x older d turn);
    request_is = k.request_is;
    wanted = k.wanted;
    script_is = script_stays c n x older d None w.answers h may (k.caller, k.named) ∙ k.script_is;
    asking_is = asking_stays d k.wanted w.asking refl k.asking_is;
    answered = answered_stays c n x older d k.wanted h may (k.caller, k.named) turn k.answered;
    sent = every_both (PacketFact c older) (PacketFact c (With n x older)) (request_packets f w w.asking) (λ p fact. packet_stays c n x older h may stay p fact) k.sent;
    brings = brought_stays d w.words w.brought refl k.brings;
    copied = copied_stays c n x older versions.stands versions.contents f w.words w.begins w.copied k.copied;
  }
    where
      d : CallId
      d = own_call f.me f.boot w.call

      turn : Turns x d → ⊥
      turn = unturned c n f.me x older d may refl away

  instance_stays : (i : UserInstance) → UserInstanceFact c older f i → UserInstanceFact c (With n x older) f i
  instance_stays i k = record {
    call = k.call;
    request = k.request;
    mode = k.mode;
    file = k.file;
    stamp = k.stamp;
    was_granted = inr k.was_granted;
    sees = sees_stay c older (With n x older) versions k.file k.mode k.stamp i.vector k.sees;
    reads = reads_stay c older (With n x older) versions k.mode k.file k.stamp i.reads k.reads;
    ops = k.ops ∙ sym (ops_stay c n f.me x older (serial_of f.me i.serial) refl away calm);
  }

  inside_stays : (u : Users) → FrameFact c older f → InsideUsers c older f u → InsideUsers c (With n x older) f u
  inside_stays u frame k = record {
    calls = every_both (WaitingFact c older f) (WaitingFact c (With n x older) f) u.waiting waiting_stays k.calls;
    ascends = k.ascends;
    numbered = k.numbered;
    instances = every_both (UserInstanceFact c older f) (UserInstanceFact c (With n x older) f) u.instances instance_stays k.instances;
    has = λ serial. k.has serial ∙ ap (λ (ns : List ℕ). has_number ns serial) (sym (had_stays c n f.me x older away calm));
    all = λ d process caller found. over d process (own d process caller found) (waited_before c n f.me x older process d caller h (own d process caller found) away found);
    hopeless = λ file sync. k.hopeless file (old_sync file sync) ∙ sym (lost_told c n f.me x older f.epoch file h may away (old_sync file sync));
  }
    where
      old_sync : (file : FileId) → sync_site c file.group (members_of (entries (With n x older)) f.epoch) ≡ Some f.me → sync_site c file.group (members_of (entries older) f.epoch) ≡ Some f.me
      old_sync file sync = ap (sync_site c file.group) (sym (members_stay c n x older f.epoch may (f.members, frame.members_are))) ∙ sync

      own : (d : CallId) (process : ℕ) (caller : Waiting) → find (is_this f.me process d) (waiting (entries (With n x older))) ≡ Some caller → d.site ≡ f.me
      own d process caller found = (let k : (call_named (entries (With n x older)) caller.call ≡ Some caller) × (is_this f.me process d caller ≡ true) = found_every (λ (w : Waiting). call_named (entries (With n x older)) w.call ≡ Some w) (is_this f.me process d) (waiting (entries (With n x older))) caller found (accepted c (With n x older) (may, h)).waits in
          let is : ((caller.site == f.me) ≡ true) × (((caller.process == process) ≡ true) × (same_call caller.call d ≡ true)) = parts (caller.site == f.me) (caller.process == process) (same_call caller.call d) k.1 in
          ap (λ (y : CallId). y.site) (sym (same_call_eq caller.call d is.1.1)) ∙ (sym ((accepted c (With n x older) (may, h)).named caller.call caller k.0).site_is ∙ equal caller.site f.me is.0))

      over : (d : CallId) (process : ℕ) → d.site ≡ f.me → (v : Waiting) × (find (is_this f.me process d) (waiting (entries older)) ≡ Some v) → (w : WaitingCall) × Among w u.waiting × (d ≡ own_call f.me f.boot w.call)
      over d process own v = k.all d process v.0 v.1

  always_stays : (u : Users) → UsersFact c older f.me f.boot u → UsersFact c (With n x older) f.me f.boot u
  always_stays u k = record {
    boot_is = k.boot_is ∙ sym (boots_stay n f.me x older calm);
    calls = k.calls ∙ sym (calls_stay n f.me x older away calm);
    serials = k.serials ∙ sym (opens_stay c n f.me x older away calm);
    descriptors = λ process fd lt. k.descriptors process fd lt ∙ sym (descriptors_stay n f.me process fd x older away calm);
    ascends = k.ascends;
    cache = cache_told c n x older stay.fresh u.cache k.cache;
  }

-- what the using site of a site has stays when somebody else tells a line
pub users_stay : (c : Config) (n : ℕ) (x : Told) (older : List Line) (f : Frame) (u : Users) → IsFollowed c older → MayTell c older x → AllStay c older (With n x older) x → FrameFact c older f → (IsOfUsers f.me x → ⊥) → (IsOfSite f.me x → ⊥) → UsersInside c f older u → UsersInside c f (With n x older) u
users_stay c n x older f u h may stay frame away calm k = record { always = always_stays c n x older f h may stay away calm u k.always; inside = inside_stays c n x older f h may stay away calm u frame k.inside }
