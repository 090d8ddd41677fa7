-- How a call ends: its script doesn't stray, and no reply says that the epoch was left, or has a descriptor but the free one.
use Rattle.std.proofs.Common.{◌≡◌, List, Some, refl, ◌∙◌, ap, subst}
use Rattle.locus_ids.specs.declared.config.Config.{Config}
use Rattle.locus_ids.specs.declared.ids.CallId.{CallId}
use Rattle.locus_ids.specs.declared.ids.EpochId.{EpochId}
use Rattle.locus_ids.specs.declared.refusal.Refusal.TheVariants as refusal
use Rattle.trace_book.specs.declared.call.Call.{Call}
use Rattle.trace_book.specs.declared.call.Call.TheVariants as call
use Rattle.trace_book.specs.declared.descriptor.Beginning.{Beginning}
use Rattle.trace_book.specs.declared.descriptor.Beginning.TheVariants as begins
use Rattle.trace_book.specs.declared.reply.Reply.TheVariants as reply
use Rattle.call_rules.specs.declared.want.Want.TheVariants as want
use Rattle.call_rules.specs.Descriptors.{beginning, lowest_free}
use Rattle.the_run.specs.Kept.{Among}
use Rattle.the_run.specs.Worlds.{Line}
use Rattle.tree_model.specs.declared.accepted.Waiting.{Waiting}
use Rattle.tree_model.specs.Calls.{call_named, waiting}
use Rattle.lawful_trace.specs.CallRows.{is_this}
use Rattle.lawful_trace.specs.Tables.{begun, descriptor}
use Rattle.tree_laws.proofs.OwnWalks.{begun_own}
use Rattle.tree_laws.specs.Following.{IsFollowed}
use Rattle.tree_laws.specs.Printed.{entries}
use Rattle.tree_laws.proofs.Waiting.{accepted, found_among}
use Rattle.store_laws.specs.Users.Rests.{HasTaken, gives_now}
use Rattle.store_laws.proofs.ScriptFitted.{Began, began, script_sound}
use Rattle.store_laws.proofs.ScriptFitting.{IsSound}
use Rattle.store_laws.proofs.ScriptFree.{opens_free}
use Rattle.store_laws.proofs.ScriptSoundCalls.{HasFree}

-- the call has its free descriptor where it wants one
has_free : (c : Config) (t : List Line) (d : CallId) (caller : Waiting) (b : Beginning) → IsFollowed c t → call_named (entries t) d ≡ Some caller → Among caller (waiting (entries t)) → begun (entries t) d ≡ Some b → HasFree (lowest_free (descriptor (entries t) caller.site caller.process)) b caller.words
has_free c t d caller b h named among starts = over b starts caller.words refl
  where
    is : caller.call ≡ d
    is = ((accepted c t h).named d caller named).call_is

    over : (o : Beginning) → begun (entries t) d ≡ Some o → (y : Call) → caller.words ≡ y → HasFree (lowest_free (descriptor (entries t) caller.site caller.process)) o y
    over (begins.Walks id) k (call.Open path m) e = opens_free c t h caller among (record { path = path; how = m; words_are = e }) (begun_own (entries t) caller.call id (ap (begun (entries t)) is ∙ k))
    over (begins.Walks id) k y e = tt
    over (begins.Denied why) k y e = tt
    over (begins.Uses at i) k y e = tt
    over (begins.Reopens kept last) k y e = tt
    over begins.Frees k y e = tt

-- what the call is given, it is given rightly
pub gives_sound : (c : Config) (t : List Line) (d : CallId) (caller : Waiting) (e : EpochId) → IsFollowed c t → HasTaken c t d caller e → IsSound caller.words (lowest_free (descriptor (entries t) caller.site caller.process)) (gives_now c t d caller)
gives_sound c t d caller e h k = script_sound c t d caller (beginning b.table caller.epoch d caller.words) (lowest_free (descriptor (entries t) caller.site caller.process)) h k.named b.begun_is
    (has_free c t d caller (beginning b.table caller.epoch d caller.words) h k.named (found_among (is_this caller.site caller.process d) (waiting (entries t)) caller k.waits) b.begun_is)
  where
    b : Began t d caller
    b = began t d caller k.named

pub strays_never : (c : Config) (t : List Line) (d : CallId) (caller : Waiting) (e : EpochId) → IsFollowed c t → HasTaken c t d caller e → gives_now c t d caller ≡ want.Never → ⊥
strays_never c t d caller e h k is = subst (IsSound caller.words (lowest_free (descriptor (entries t) caller.site caller.process))) is (gives_sound c t d caller e h k)

pub gives_unchanged : (c : Config) (t : List Line) (d : CallId) (caller : Waiting) (e left : EpochId) → IsFollowed c t → HasTaken c t d caller e → gives_now c t d caller ≡ want.Give (reply.No (refusal.Changed left)) → ⊥
gives_unchanged c t d caller e left h k is = subst (IsSound caller.words (lowest_free (descriptor (entries t) caller.site caller.process))) is (gives_sound c t d caller e h k)
