-- An instance that a descriptor names isn't a mend's.
use Rattle.std.proofs.Common.{◌≡◌, ℕ, Bool, true, false, cond, List, Some, None, sym, ◌∙◌, ap, subst, ◌⊎◌, inl, inr}
use Rattle.role_steps.proofs.of_plain_facts.Tests.{true_false}
use Rattle.locus_ids.specs.declared.config.Config.{Config}
use Rattle.locus_ids.specs.declared.config.Mount.{Mount}
use Rattle.locus_ids.specs.declared.ids.CallId.{CallId}
use Rattle.locus_ids.specs.declared.ids.EpochId.{EpochId}
use Rattle.locus_ids.specs.declared.ids.FileId.{FileId}
use Rattle.locus_ids.specs.declared.ids.Mode.{Mode}
use Rattle.locus_ids.specs.declared.ids.Mode.TheVariants as mode
use Rattle.locus_ids.specs.declared.ids.Serial.{Serial}
use Rattle.trace_book.specs.declared.call.Call.{Call}
use Rattle.trace_book.specs.declared.call.Call.TheVariants as call
use Rattle.trace_book.specs.declared.call.OpenMode.{OpenMode}
use Rattle.trace_book.specs.declared.call.OpenMode.TheVariants as how
use Rattle.trace_book.specs.declared.descriptor.Beginning.{Beginning}
use Rattle.trace_book.specs.declared.descriptor.Beginning.TheVariants as begins
use Rattle.locus_ids.specs.declared.refusal.Refusal.TheVariants as refusal
use Rattle.trace_book.specs.declared.reply.Reply.TheVariants as reply
use Rattle.call_rules.specs.Descriptors.{beginning}
use Rattle.call_rules.specs.Scripts.{wants, where_packed}
use Rattle.call_rules.specs.Words.{is_badly_named}
use Rattle.call_rules.specs.declared.answer.Answer.{Answer}
use Rattle.call_rules.specs.declared.want.Want.{Want}
use Rattle.call_rules.specs.declared.want.Want.TheVariants as want
use Rattle.the_run.specs.Worlds.{Line}
use Rattle.tree_model.specs.declared.instance.Instance.{Instance}
use Rattle.lawful_trace.specs.Progress.{is_packed_in}
use Rattle.lawful_trace.specs.Tables.{begun}
use Rattle.lawful_trace.specs.TreeRows.{IsCallIn, is_open_of}
use Rattle.tree_laws.specs.Following.{IsFollowed}
use Rattle.tree_laws.specs.Instances.{instance_now}
use Rattle.tree_laws.specs.Printed.{entries}
use Rattle.tree_laws.proofs.Descriptors.{IsUser}
use Rattle.tree_laws.proofs.Orders.ProcessGranting.{GrantIs, granted_is}
use Rattle.tree_laws.proofs.Orders.ProcessHad.{begun_user}
use Rattle.store_laws.proofs.Places.{open_is}
use Rattle.store_laws.proofs.ScriptFitted.{Began, began}
use Rattle.store_laws.proofs.ScriptLasting.{OpensSo, open_so}
use Rattle.store_laws.proofs.ScriptNaming.{Opens, RereadsIn, script_by}
use Rattle.store_laws.proofs.ScriptReopening.{read_so}
use Rattle.store_laws.proofs.OneTree.RemovePlaced.{GrantedSo, Placed, granted_placed}
use Rattle.rest_laws.proofs.Fits.EntryNamers.{named_begins}

-- an open asks its own open alone, wherever it began
opens_alone : (mounts : List Mount) (pk : ℕ → Bool) (path : List ℕ) (m : OpenMode) (b : Beginning) (xs : List Answer) → OpensSo m (wants mounts pk None (call.Open path m) b xs)
opens_alone mounts pk path m (begins.Walks id) xs = open_so mounts pk None id path m xs
opens_alone mounts pk path m (begins.Reopens kept last) xs = over (is_badly_named mounts (call.Open path m))
  where
    over : (x : Bool) → OpensSo m (where_packed pk (cond x (want.Give (reply.No refusal.BadName)) want.Never))
    over true = tt
    over false = tt
opens_alone mounts pk path m begins.Frees xs = over (is_badly_named mounts (call.Open path m))
  where
    over : (x : Bool) → OpensSo m (where_packed pk (cond x (want.Give (reply.No refusal.BadName)) (want.Give (reply.Closed None))))
    over true = tt
    over false = tt
opens_alone mounts pk path m (begins.Denied why) xs = over (is_badly_named mounts (call.Open path m))
  where
    over : (x : Bool) → OpensSo m (where_packed pk (cond x (want.Give (reply.No refusal.BadName)) (want.Give (reply.No why))))
    over true = tt
    over false = tt
opens_alone mounts pk path m (begins.Uses e i) xs = over (is_badly_named mounts (call.Open path m))
  where
    over : (x : Bool) → OpensSo m (where_packed pk (cond x (want.Give (reply.No refusal.BadName)) want.Never))
    over true = tt
    over false = tt

mend_none : (m : OpenMode) (f : FileId) (w : Want) → is_open_of mode.Mend f w ≡ true → OpensSo m w → ⊥
mend_none m f (want.OpenToMend g) e k = k
mend_none m f _ e k = true_false (sym e)

pub named_mode : (c : Config) (t : List Line) → IsFollowed c t → (e : EpochId) (i : Serial) (d : CallId) → IsCallIn (entries t) e d → begun (entries t) d ≡ Some (begins.Uses e i) → (x : Instance) → instance_now c t e i ≡ Some x → x.grant.mode ≡ mode.Mend → ⊥
named_mode c t h e i d inside uses x found mends = over (named_begins c t h e i g u.for.caller u.for.is_granted u.for.named u.for.answered)
  where
    u : IsUser (entries t) e i d
    u = begun_user c t e i d h inside uses

    g : CallId
    g = u.for.granted

    k : GrantIs t e i g
    k = granted_is c t h e i g u.for.is_granted

    is_so : (x.grant.mode ≡ k.mode) × (x.grant.file ≡ k.file) × (x.grant.ss ≡ k.place) × (x.grant.call ≡ g)
    is_so = open_is c t h e g k.request i k.mode k.file k.stamp k.place x k.was_granted found

    p : Placed c t g (GrantedSo k.mode k.file i)
    p = granted_placed c t h e g k.request i k.mode k.file k.stamp k.place k.was_granted

    starts : Began t g u.for.caller
    starts = began t g u.for.caller u.for.named

    b : Beginning
    b = beginning starts.table u.for.caller.epoch g u.for.caller.words

    pk : ℕ → Bool
    pk = is_packed_in c (entries t) u.for.caller.epoch

    asks : (z : Beginning) → begun (entries t) g ≡ Some z → (m : OpenMode) (words : Call) → u.for.caller.words ≡ words → OpensSo m (wants c.mounts pk None words z p.before) → ⊥
    asks z at m words is so = mend_none m k.file p.asked (subst (λ (y : Mode). is_open_of y k.file p.asked ≡ true) (sym is_so.0 ∙ mends) p.fits.0)
        (subst (OpensSo m) (sym (ap (λ (y : Call). wants c.mounts pk None y z p.before) is) ∙ (sym (script_by c t g u.for.caller z None p.before u.for.named at) ∙ p.script_is)) so)

    over : Opens u.for.caller.words ⊎ RereadsIn t g u.for.caller.words → ⊥
    over (inl opens) = asks b starts.begun_is opens.how (call.Open opens.path opens.how) opens.words_are (opens_alone c.mounts pk opens.path opens.how b p.before)
    over (inr again) = asks (begins.Reopens again.2.kept again.2.last) (again.1 ∙ ap Some again.2.begins_are) how.Read (call.Read again.2.fd again.2.at again.2.len) again.2.words_are (read_so c.mounts pk None again.2.fd again.2.at again.2.len again.2.kept again.2.last p.before)
