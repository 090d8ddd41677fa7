-- What a site does inside its epoch: it tells nothing of how it stands, and all that it sends names that epoch.
use Rattle.std.proofs.Common.{ℕ, ◌≡◌, ◌+◌, true, false, Bool, cond, List, [], Option, Some, None, refl, sym, subst}
use Rattle.locus_ids.specs.declared.ids.CallId.{CallId}
use Rattle.locus_ids.specs.declared.ids.EpochId.{EpochId}
use Rattle.locus_ids.specs.declared.config.Config.{Config}
use Rattle.locus_ids.specs.declared.refusal.Refusal.{Refusal}
use Rattle.trace_book.specs.declared.call.Call.{Call}
use Rattle.trace_book.specs.declared.call.Call.TheVariants as call
use Rattle.trace_book.specs.declared.descriptor.Beginning.{Beginning}
use Rattle.trace_book.specs.declared.descriptor.Beginning.TheVariants as begins
use Rattle.trace_book.specs.declared.descriptor.Descriptor.{Descriptor}
use Rattle.trace_book.specs.declared.descriptor.OneVersion.{OneVersion}
use Rattle.trace_book.specs.declared.reply.Reply.{Reply}
use Rattle.the_run.specs.of_call_rules.Descriptors.{beginning, begins_again, begins_change, begins_close, begins_open, begins_read, lowest_free, stale_or}
use Rattle.the_run.specs.of_call_rules.Words.{is_too_long}
use Rattle.the_run.specs.of_call_rules.Scripts.{where_packed, wants}
use Rattle.the_run.specs.of_call_rules.declared.want.Want.TheVariants as want
use Rattle.wire_messages.specs.declared.packet.Packet.{Packet}
use Rattle.wire_messages.specs.declared.body.Body.{Body}
use Rattle.the_run.specs.of_role_steps.Own.{Every}
use Rattle.the_run.specs.of_role_steps.Views.{Frame, Users, SiteView, Outcome, quiet, packet}
use Rattle.the_run.specs.of_role_steps.Requests.{descriptors_of}
use Rattle.the_run.specs.of_role_steps.Using.{asks_want, is_packed, on_call, counted_call, accepted_call}
use Rattle.the_run.specs.of_role_steps.Epochs.{frame_in}
use Rattle.the_run.specs.of_role_steps.declared.rounds.InEpoch.{InEpoch}
use Rattle.the_run.specs.of_role_steps.declared.users.WaitingCall.{WaitingCall}
use Rattle.the_run.proofs.of_role_steps.Sending.{OfFrame}
use Rattle.the_run.specs.Steps.{takes_framed, adopts_of, tries_at, starts_mends_of, repeats_inside, call_frame, epoch_id, takes_call}
use Rattle.run_laws.specs.Words.{Talk, Talks, Works}
use Rattle.run_laws.specs.Naming.{IsInEpoch, Inner}
use Rattle.the_run.proofs.Boots.{every_weaker}
use Rattle.run_laws.specs.Walks.Laws.{Law, frame_law, SiteKeeps, SiteAnswers, Stays}
use Rattle.run_laws.proofs.Walks.Premises.{every_unit, frame_keeps, frame_answers}
use Rattle.run_laws.proofs.Walks.RoleWalks.{on_call_walk}
use Rattle.run_laws.proofs.Walks.SiteWalks.{adopts_of_walk, tries_walk, mends_of_walk, framed_walk, repeats_inside_walk}
use Rattle.run_laws.specs.Words.{Inside, InsideWrite}
use Rattle.the_run.specs.of_role_steps.Using.{own_call}
use Rattle.run_laws.proofs.Telling.{on_call_talks, tells_talk, talk_inside, version_inside}

-- ---- a call outside of an epoch is answered at once ----

-- it is refused, or it closes what no instance holds
abbrev IsAtOnce : Beginning → Type 0
IsAtOnce (begins.Denied why) = Unit {0}
IsAtOnce begins.Frees = Unit {0}
IsAtOnce _ = ⊥

again_at_once : (last : EpochId) (steady : Option OneVersion) → IsAtOnce (stale_or (begins_again None last) last steady)
again_at_once last None = tt
again_at_once last (Some kept) = tt

read_at_once : (d : Option Descriptor) → IsAtOnce (begins_read None d)
read_at_once None = tt
read_at_once (Some d) = again_at_once d.epoch d.steady

free_at_once : (last : EpochId) (steady : Option OneVersion) → IsAtOnce (stale_or (λ version. begins.Frees) last steady)
free_at_once last None = tt
free_at_once last (Some kept) = tt

close_at_once : (d : Option Descriptor) → IsAtOnce (begins_close None d)
close_at_once None = tt
close_at_once (Some d) = free_at_once d.epoch d.steady

change_at_once : (d : Option Descriptor) → IsAtOnce (begins_change None d)
change_at_once None = tt
change_at_once (Some d) = by d.steady refl
  where
    by : (kept : Option OneVersion) → d.steady ≡ kept → IsAtOnce (begins_change None (Some d))
    by None e = rw e tt
    by (Some kept) e = rw e tt

open_at_once : (id : CallId) (free : Option ℕ) → IsAtOnce (begins_open None id free)
open_at_once id None = tt
open_at_once id (Some fd) = tt

write_at_once : (long : Bool) (d : Option Descriptor) (why : Refusal) → IsAtOnce (cond long (begins.Denied why) (begins_change None d))
write_at_once true d why = tt
write_at_once false d why = change_at_once d

at_once : (table : ℕ → Option Descriptor) (id : CallId) (words : Call) → IsAtOnce (beginning table None id words)
at_once table id (call.Open path mode) = open_at_once id (lowest_free table)
at_once table id (call.Read fd at len) = read_at_once (table fd)
at_once table id (call.Write fd at bytes) = write_at_once (is_too_long (call.Write fd at bytes)) (table fd) _
at_once table id (call.Cut fd len) = change_at_once (table fd)
at_once table id (call.Commit fd) = change_at_once (table fd)
at_once table id (call.Abort fd) = change_at_once (table fd)
at_once table id (call.Close fd) = close_at_once (table fd)
at_once table id (call.Create path sites) = tt
at_once table id (call.MakeDir path) = tt
at_once table id (call.Unlink path) = tt
at_once table id (call.RemoveDir path) = tt
at_once table id (call.Rename path name) = tt
at_once table id (call.List path) = tt
at_once table id (call.Stat path) = tt
at_once table id (call.Mail path bytes) = tt
at_once table id (call.Mails path) = tt
at_once table id (call.Mend file) = tt

give_silent : (f : Frame) (w : WaitingCall) (u : Users) (packed : ℕ → Bool) (b : Bool) (r q : Reply) → (asks_want f w (where_packed packed (cond b (want.Give r) (want.Give q))) u).sent ≡ []
give_silent f w u packed true r q = refl
give_silent f w u packed false r q = refl

begun_silent : (f : Frame) (w : WaitingCall) (u : Users) (b : Beginning) → IsAtOnce b → (asks_want f w (wants f.config.mounts (is_packed f) (lowest_free (descriptors_of u w.process)) w.words b w.answers) u).sent ≡ []
begun_silent f w u (begins.Denied why) h = give_silent f w u (is_packed f) _ _ _
begun_silent f w u begins.Frees h = give_silent f w u (is_packed f) _ _ _
begun_silent f w u (begins.Uses e i) h = absurd h
begun_silent f w u (begins.Walks id) h = absurd h
begun_silent f w u (begins.Reopens kept last) h = absurd h

call_silent : (f : Frame) (process : ℕ) (words : Call) (u : Users) → (on_call f None process words u).sent ≡ []
call_silent f process words u = begun_silent f (accepted_call f None process words u) (counted_call f None process words u) begun (at_once (descriptors_of u process) (own_call f.me f.boot (u.calls + 1)) words)
  where
    begun : Beginning
    begun = beginning (descriptors_of u process) None (own_call f.me f.boot (u.calls + 1)) words

-- ---- the law, kind by kind ----

-- of the epoch that a site is in
abbrev inside_law : Option InEpoch → Law
inside_law e = frame_law (IsInEpoch e) Inside InsideWrite

names_epoch : (c : Config) (me boot : ℕ) (e : Option InEpoch) (x : InEpoch) → e ≡ Some x → OfFrame (IsInEpoch e) (frame_in c me boot x)
names_epoch c me boot e x is = λ to b. subst (λ (o : Option InEpoch). IsInEpoch o (packet (frame_in c me boot x) to b)) (sym is) refl

keeps : (c : Config) (me boot : ℕ) (e : Option InEpoch) (x : InEpoch) → e ≡ Some x → SiteKeeps (inside_law e) (frame_in c me boot x)
keeps c me boot e x is = frame_keeps (IsInEpoch e) Inside InsideWrite (frame_in c me boot x) (names_epoch c me boot e x is) (λ t h. talk_inside t (tells_talk t h)) version_inside tt (λ d h. version_inside d.says h)

back : (c : Config) (me boot from : ℕ) (e : Option InEpoch) (x : InEpoch) → e ≡ Some x → SiteAnswers (inside_law e) (frame_in c me boot x) from
back c me boot from e x is = frame_answers (IsInEpoch e) Inside InsideWrite (frame_in c me boot x) (names_epoch c me boot e x is) from

-- ---- all that a site does in its epoch ----

inner : (e : Option InEpoch) (v : SiteView) (o : Outcome SiteView) → v.epoch ≡ e → Stays (inside_law e) v o → Inner v o
inner e v o here h = record { installed = h.leaves.installed; works = (h.part.1, h.part.2); sent = subst (λ (x : Option InEpoch). Every (IsInEpoch x) o.sent) (sym here) h.part.0 }

pub quiet_inner : (v : SiteView) → Inner v (quiet v)
quiet_inner v = record { installed = refl; works = (tt, tt); sent = tt }

pub framed_inner : (c : Config) (me : ℕ) (p : Packet) (e : Option InEpoch) (v : SiteView) → v.epoch ≡ e → Inner v (takes_framed c me p e v)
framed_inner c me p e v here = inner e v (takes_framed c me p e v) here (framed_walk (inside_law e) c me p e v tt (keeps c me v.boot e) (back c me v.boot p.from e) (every_unit v.tables))

pub adopts_of_inner : (c : Config) (me : ℕ) (e : Option InEpoch) (v : SiteView) → v.epoch ≡ e → Inner v (adopts_of c me e v)
adopts_of_inner c me e v here = inner e v (adopts_of c me e v) here (adopts_of_walk (inside_law e) c me e v tt (keeps c me v.boot e) (every_unit v.tables))

pub tries_inner : (c : Config) (me : ℕ) (x : Body) (v : SiteView) → Inner v (tries_at c me x v)
tries_inner c me x v = inner v.epoch v (tries_at c me x v) refl (tries_walk (inside_law v.epoch) c me x v tt (keeps c me v.boot v.epoch) (every_unit v.tables))

pub mends_of_inner : (c : Config) (me : ℕ) (e : Option InEpoch) (v : SiteView) → v.epoch ≡ e → Inner v (starts_mends_of c me e v)
mends_of_inner c me e v here = inner e v (starts_mends_of c me e v) here (mends_of_walk (inside_law e) c me e v tt (keeps c me v.boot e) (every_unit v.tables))

call_sent : (c : Config) (me process : ℕ) (words : Call) (v : SiteView) (e : Option InEpoch) → Every (IsInEpoch e) (on_call (call_frame c me v.boot e) (epoch_id e) process words v.users).sent
call_sent c me process words v None = subst (λ (ps : List Packet). Every (IsInEpoch None) ps) (sym (call_silent (call_frame c me v.boot None) process words v.users)) tt
call_sent c me process words v (Some e) = (on_call_walk (inside_law (Some e)) (frame_in c me v.boot e) (keeps c me v.boot (Some e) e refl).users (Some e.id) process words v.users (λ n. tt)).0

call_works : (c : Config) (me process : ℕ) (words : Call) (v : SiteView) → Works (takes_call c me process words v)
call_works c me process words v = (every_weaker Talk Inside t.told talk_inside talks.0, subst InsideWrite (sym talks.1) tt)
  where
    t : Outcome Users
    t = on_call (call_frame c me v.boot v.epoch) (epoch_id v.epoch) process words v.users

    talks : Talks t
    talks = on_call_talks (call_frame c me v.boot v.epoch) (epoch_id v.epoch) process words v.users

pub call_inner : (c : Config) (me process : ℕ) (words : Call) (v : SiteView) → Inner v (takes_call c me process words v)
call_inner c me process words v = record { installed = refl; works = call_works c me process words v; sent = call_sent c me process words v v.epoch }

pub repeats_in_epoch : (c : Config) (me boot : ℕ) (e : InEpoch) (v : SiteView) → Every (IsInEpoch (Some e)) (repeats_inside (frame_in c me boot e) e v)
repeats_in_epoch c me boot e v = repeats_inside_walk (inside_law (Some e)) (frame_in c me boot e) (keeps c me boot (Some e) e refl) e v
