-- What a using site takes for the reply of a call is what the call is to be given by the trace.
use Rattle.std.proofs.Common.{◌≡◌, ℕ, Bool, cond, List, Option, None, Some, refl, sym, ◌∙◌, ap}
use Rattle.std.specs.Option.{is_some}
use Rattle.locus_ids.specs.declared.config.Config.{Config}
use Rattle.locus_ids.specs.declared.ids.CallId.{CallId}
use Rattle.locus_ids.specs.declared.ids.EpochId.{EpochId}
use Rattle.locus_ids.specs.declared.sites.Members.{Members}
use Rattle.trace_book.specs.declared.call.Call.{Call}
use Rattle.trace_book.specs.declared.descriptor.Beginning.{Beginning}
use Rattle.trace_book.specs.declared.reply.Reply.TheVariants as reply
use Rattle.locus_ids.specs.declared.refusal.Refusal.TheVariants.{NoStorage}
use Rattle.call_rules.specs.Descriptors.{lowest_free}
use Rattle.call_rules.specs.Scripts.{in_group, named_wants, wants, where_packed}
use Rattle.call_rules.specs.declared.answer.Answer.{Answer}
use Rattle.call_rules.specs.declared.want.Want.{Want}
use Rattle.call_rules.specs.declared.want.Want.TheVariants as want
use Rattle.locus_ids.specs.declared.config.Mount.{Mount}
use Rattle.role_steps.specs.Using.{is_packed, is_some_site}
use Rattle.role_steps.specs.Views as role
use Rattle.role_steps.specs.Views.{Frame, Users}
use Rattle.the_run.specs.Worlds.{Line}
use Rattle.tree_model.specs.Calls.{call_named}
use Rattle.tree_model.specs.Epochs.{epoch_of, is_in}
use Rattle.tree_model.specs.Packs.{sync_site}
use Rattle.tree_model.specs.declared.accepted.Waiting.{Waiting}
use Rattle.lawful_trace.specs.Progress.{Answers, answers, is_packed_in, left_epoch, left_since, now_wants, unless_left, wants_as, wants_next}
use Rattle.lawful_trace.specs.Tables.{begun, descriptor}
use Rattle.tree_laws.specs.Doing.{FrameFact}
use Rattle.tree_laws.specs.Printed.{entries}
use Rattle.tree_laws.proofs.Names.{same_epoch_own}
use Rattle.tree_laws.proofs.Orders.ProcessSynchronizing.{sync_same}

-- ---- which groups are packed ----

packed_wants : (mounts : List Mount) (p q : ℕ → Bool) (free : Option ℕ) (words : Call) (b : Beginning) (xs : List Answer) → ((g : ℕ) → p g ≡ q g) → wants mounts p free words b xs ≡ wants mounts q free words b xs
packed_wants mounts p q free words b xs same = over (named_wants mounts free words b xs)
  where
    group : (g : ℕ) (v : Want) → in_group p g v ≡ in_group q g v
    group g v = ap (λ (x : Bool). cond x v (want.Give (reply.No NoStorage))) (same g)

    over : (v : Want) → where_packed p v ≡ where_packed q v
    over (want.Look file what) = group file.group (want.Look file what)
    over (want.Open file how) = group file.group (want.Open file how)
    over (want.OpenToMend file) = group file.group (want.OpenToMend file)
    over (want.Make g kind sites) = group g (want.Make g kind sites)
    over (want.Do i o) = refl
    over (want.Close i) = refl
    over (want.Give given) = refl
    over want.Never = refl

packed_same : (c : Config) (t : List Line) (f : Frame) (g : ℕ) → FrameFact c t f → is_packed f g ≡ is_packed_in c (entries t) (Some f.epoch) g
packed_same c t f g frame = ap (λ (k : Config). is_some_site (role.sync_site k f.members g)) frame.config_is
    ∙ (ap is_some_site (sync_same c f.members g)
    ∙ (some_site (sync_site c g (Some f.members)) ∙ ap (λ (m : Option Members). is_some (sync_site c g m)) (sym frame.members_are)))
  where
    some_site : (o : Option ℕ) → is_some_site o ≡ is_some o
    some_site None = refl
    some_site (Some s) = refl

-- ---- the want of a call in the epoch ----

-- a site's frame, and the trace
pub frame_wants : (c : Config) (t : List Line) (f : Frame) (free : Option ℕ) (words : Call) (b : Beginning) (xs : List Answer) → FrameFact c t f → wants f.config.mounts (is_packed f) free words b xs ≡ wants c.mounts (is_packed_in c (entries t) (Some f.epoch)) free words b xs
frame_wants c t f free words b xs frame = ap (λ (x : Config). wants x.mounts (is_packed f) free words b xs) frame.config_is
    ∙ packed_wants c.mounts (is_packed f) (is_packed_in c (entries t) (Some f.epoch)) free words b xs (λ g. packed_same c t f g frame)

-- what a call asks next, by what the trace knows of it
pub next_as : (c : Config) (t : List Line) (d : CallId) (caller : Waiting) (b : Beginning) (xs : Answers) → call_named (entries t) d ≡ Some caller → begun (entries t) d ≡ Some b → answers c (entries t) d ≡ xs →
    wants_next c (entries t) d ≡ wants c.mounts (is_packed_in c (entries t) caller.epoch) (lowest_free (descriptor (entries t) caller.site caller.process)) caller.words b xs
next_as c t d caller b xs named begins are = ap (λ (ys : Answers). wants_as c (entries t) (call_named (entries t) d) (begun (entries t) d) ys) are
    ∙ (ap (λ (o : Option Waiting). wants_as c (entries t) o (begun (entries t) d) xs) named
    ∙ ap (λ (o : Option Beginning). wants_as c (entries t) (Some caller) o xs) begins)

-- while its site is in its epoch
pub now_next : (c : Config) (t : List Line) (caller : Waiting) (e : EpochId) → caller.epoch ≡ Some e → epoch_of (entries t) caller.site ≡ Some e → now_wants c (entries t) caller ≡ wants_next c (entries t) caller.call
now_next c t caller e made inside = ap (λ (o : Option EpochId). unless_left o (wants_next c (entries t) caller.call)) unleft
  where
    unleft : left_epoch (entries t) caller ≡ None
    unleft = ap (left_since (entries t) caller.site) made ∙ (ap (λ (o : Option EpochId). cond (is_in o e) None (Some e)) inside ∙ ap (λ (b : Bool). cond b None (Some e)) (same_epoch_own e))
