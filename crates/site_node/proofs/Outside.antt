-- A call of a site in no epoch is answered at once, whatever boot numbers the frame of no members has.
use Rattle.std.proofs.Common.{◌≡◌, ℕ, ◌+◌, cond, true, false, Bool, List, [], ◌∷◌, Option, Some, None, refl, sym, ap, subst}
use Rattle.locus_ids.specs.declared.ids.CallId.{CallId}
use Rattle.locus_ids.specs.declared.config.Config.{Config}
use Rattle.locus_ids.specs.declared.ids.EpochId.{EpochId}
use Rattle.locus_ids.specs.declared.refusal.Refusal.TheVariants as refusal
use Rattle.trace_book.specs.declared.call.Call.{Call}
use Rattle.trace_book.specs.declared.call.Call.TheVariants as call
use Rattle.trace_book.specs.declared.reply.Reply.{Reply}
use Rattle.trace_book.specs.declared.reply.Reply.TheVariants as reply
use Rattle.trace_book.specs.declared.descriptor.Beginning.{Beginning}
use Rattle.trace_book.specs.declared.descriptor.Beginning.TheVariants.{Denied, Frees, Reopens, Uses, Walks}
use Rattle.trace_book.specs.declared.descriptor.Descriptor.{Descriptor}
use Rattle.trace_book.specs.declared.descriptor.OneVersion.{OneVersion}
use Rattle.call_rules.specs.Descriptors.{beginning, begins_again, begins_change, begins_close, begins_open, begins_read, lowest_free, stale_or}
use Rattle.call_rules.specs.Scripts.{where_packed}
use Rattle.call_rules.specs.Words.{is_badly_named, is_too_long}
use Rattle.call_rules.specs.declared.want.Want.TheVariants.{Give}
use Rattle.role_steps.specs.Epochs.{with_users}
use Rattle.role_steps.specs.Views.{Users, Outcome, joined_to, tells}
use Rattle.role_steps.specs.Requests.{descriptors_of}
use Rattle.role_steps.specs.Using.{accepted, accept_record, asks_want, copied_part, counted_call, goes_on, is_packed, on_call, own_call, part_read, with_copied}
use Rattle.role_steps.specs.declared.users.WaitingCall.{WaitingCall}
use Rattle.role_steps.specs.declared.rounds.InEpoch.{InEpoch}
use Rattle.site_parts.proofs.of_site_tables.Giving.{gives_as, gives_within}
use Rattle.the_run.specs.Steps.{call_frame, epoch_id, takes_call}
use Rattle.site_parts.specs.of_using_site.Steps.{Gives}
use Rattle.wire_messages.specs.Outboxes.{Outgoing}
use Rattle.site_parts.specs.Framing.{calling, outside}
use Rattle.site_node.specs.Views.{view_of, Works}
use Rattle.site_node.specs.declared.node.SiteNode.{SiteNode}

-- where a call is answered at once: it is refused there, or frees what no instance holds
abbrev IsAnswered : Beginning → Type 0
IsAnswered (Denied why) = Unit {0}
IsAnswered (Uses e inst) = ⊥
IsAnswered (Walks id) = ⊥
IsAnswered (Reopens version last) = ⊥
IsAnswered Frees = Unit {0}

stale_answered : (steady : OneVersion → Beginning) (last : EpochId) (o : Option OneVersion) → ((v : OneVersion) → IsAnswered (steady v)) → IsAnswered (stale_or steady last o)
stale_answered steady last None k = tt
stale_answered steady last (Some v) k = k v

read_answered : (o : Option Descriptor) → IsAnswered (begins_read None o)
read_answered None = tt
read_answered (Some d) = stale_answered (begins_again None d.epoch) d.epoch d.steady (λ v. tt)

close_answered : (o : Option Descriptor) → IsAnswered (begins_close None o)
close_answered None = tt
close_answered (Some d) = stale_answered (λ v. Frees) d.epoch d.steady (λ v. tt)

change_answered : (o : Option Descriptor) → IsAnswered (begins_change None o)
change_answered None = tt
change_answered (Some d) = by d.steady refl
  where
    by : (o : Option OneVersion) → d.steady ≡ o → IsAnswered (begins_change None (Some d))
    by None s = rw s tt
    by (Some v) s = rw s tt

write_answered : (b : Bool) (x : Beginning) → IsAnswered x → IsAnswered (cond b (Denied refusal.TooLong) x)
write_answered true x h = tt
write_answered false x h = h

open_answered : (id : CallId) (free : Option ℕ) → IsAnswered (begins_open None id free)
open_answered id None = tt
open_answered id (Some fd) = tt

begins_answered : (table : ℕ → Option Descriptor) (id : CallId) (words : Call) → IsAnswered (beginning table None id words)
begins_answered table id (call.Open path mode) = open_answered id (lowest_free table)
begins_answered table id (call.Read fd at len) = read_answered (table fd)
begins_answered table id (call.Write fd at bytes) = write_answered (is_too_long (call.Write fd at bytes)) (begins_change None (table fd)) (change_answered (table fd))
begins_answered table id (call.Cut fd len) = change_answered (table fd)
begins_answered table id (call.Commit fd) = change_answered (table fd)
begins_answered table id (call.Abort fd) = change_answered (table fd)
begins_answered table id (call.Close fd) = close_answered (table fd)
begins_answered table id _ = tt

-- a call that was accepted, with the bytes that it reads, if the site has them in memory
abbrev waits_with : ℕ → ℕ → Call → Beginning → Option (List ℕ) → WaitingCall
waits_with process n words b copied = with_copied copied (accepted process n words b)

abbrev gives_as_well : Config → ℕ → ℕ → WaitingCall → Call → Reply → Users → Bool → Type 0
gives_as_well c me boot w words r u b =
    asks_want (outside c me boot) w (where_packed (is_packed (outside c me boot)) (cond b (Give (reply.No refusal.BadName)) (Give r))) u
    ≡ asks_want (call_frame c me boot None) w (where_packed (is_packed (call_frame c me boot None)) (cond b (Give (reply.No refusal.BadName)) (Give r))) u

goes_outside : (c : Config) (me boot process n : ℕ) (words : Call) (b : Beginning) (copied : Option (List ℕ)) (u : Users) → IsAnswered b → goes_on (outside c me boot) (waits_with process n words b copied) u ≡ goes_on (call_frame c me boot None) (waits_with process n words b copied) u
goes_outside c me boot process n words (Denied why) copied u h = elim (is_badly_named c.mounts words) as (gives_as_well c me boot (waits_with process n words (Denied why) copied) words (reply.No why) u) [ true ↦ refl | false ↦ refl ]
goes_outside c me boot process n words Frees copied u h = elim (is_badly_named c.mounts words) as (gives_as_well c me boot (waits_with process n words Frees copied) words (reply.Closed None) u) [ true ↦ refl | false ↦ refl ]
goes_outside c me boot process n words (Uses e inst) copied u h = absurd h
goes_outside c me boot process n words (Walks id) copied u h = absurd h
goes_outside c me boot process n words (Reopens version last) copied u h = absurd h

pub call_outside : (c : Config) (me boot process : ℕ) (words : Call) (u : Users) → on_call (call_frame c me boot None) None process words u ≡ on_call (outside c me boot) None process words u
call_outside c me boot process words u =
    let n : ℕ = u.calls + 1 in
    let begins : Beginning = beginning (descriptors_of u process) None (own_call me boot n) words in
    let counted : Users = counted_call (outside c me boot) None process words u in
    ap (λ (o : Outcome Users). joined_to (tells (accept_record me boot process n words ∷ []) counted) o)
    (sym (goes_outside c me boot process n words begins (copied_part (part_read u words begins) u.cache) counted (begins_answered (descriptors_of u process) (own_call me boot n) words)))

-- ---- a call in the frame of the site's epoch, or in that of no epoch ----

call_so : (c : Config) (me boot process : ℕ) (words : Call) (u : Users) (e : Option InEpoch) → on_call (call_frame c me boot e) (epoch_id e) process words u ≡ on_call (calling c me boot e) (epoch_id e) process words u
call_so c me boot process words u None = call_outside c me boot process words u
call_so c me boot process words u (Some e) = refl

config_stays : (c : Config) (me boot : ℕ) (e : Option InEpoch) → (calling c me boot e).config ≡ c
config_stays c me boot None = refl
config_stays c me boot (Some e) = refl

site_stays : (c : Config) (me boot : ℕ) (e : Option InEpoch) → (calling c me boot e).me ≡ me
site_stays c me boot None = refl
site_stays c me boot (Some e) = refl

abbrev pub calling_node : SiteNode → SiteNode
calling_node n = record n { frame = calling n.frame.config n.frame.me n.epochs.boot n.epochs.epoch }

call_framed : (process : ℕ) (words : Call) (old : SiteNode) (users : Users) (a b : Outgoing) → Gives (on_call (calling_node old).frame (epoch_id old.epochs.epoch) process words old.users) users a b → Works (takes_call old.frame.config old.frame.me process words) old (record (calling_node old) { users = users }) a b
call_framed process words old users a b g = record {
  gives = λ image h. gives_within (with_users (view_of old image)) (on_call (call_frame old.frame.config old.frame.me old.epochs.boot old.epochs.epoch) (epoch_id old.epochs.epoch) process words old.users) users a b
      (gives_as (on_call (calling_node old).frame (epoch_id old.epochs.epoch) process words old.users) (on_call (call_frame old.frame.config old.frame.me old.epochs.boot old.epochs.epoch) (epoch_id old.epochs.epoch) process words old.users) users a b (call_so old.frame.config old.frame.me old.epochs.boot process words old.users old.epochs.epoch) g);
  packs = refl;
  config = config_stays old.frame.config old.frame.me old.epochs.boot old.epochs.epoch;
  me = site_stays old.frame.config old.frame.me old.epochs.boot old.epochs.epoch;
}

pub call_works : (process : ℕ) (words : Call) (now : Option EpochId) (old mid : SiteNode) (users : Users) (a b : Outgoing) → mid ≡ calling_node old → now ≡ epoch_id old.epochs.epoch → Gives (on_call mid.frame now process words mid.users) users a b → Works (takes_call old.frame.config old.frame.me process words) old (record mid { users = users }) a b
call_works process words now old mid users a b m n g =
    let named : Gives (on_call mid.frame (epoch_id old.epochs.epoch) process words mid.users) users a b = subst (λ (o : Option EpochId). Gives (on_call mid.frame o process words mid.users) users a b) n g in
    let framed : Gives (on_call (calling_node old).frame (epoch_id old.epochs.epoch) process words old.users) users a b = subst (λ (x : SiteNode). Gives (on_call x.frame (epoch_id old.epochs.epoch) process words x.users) users a b) m named in
    subst (λ (x : SiteNode). Works (takes_call old.frame.config old.frame.me process words) old (record x { users = users }) a b) (sym m) (call_framed process words old users a b framed)
