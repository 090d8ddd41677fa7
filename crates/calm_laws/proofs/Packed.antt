-- The current request of a waiting call goes to a member: what a call looks at or opens is in a group of which a member has a pack.
use Rattle.std.proofs.Common.{◌≡◌, ℕ, Bool, true, false, cond, List, Option, Some, None, refl, sym, ◌∙◌, ap, subst}
use Rattle.std.specs.Option.{is_some}
use Rattle.role_steps.proofs.of_plain_facts.Tests.{true_false}
use Rattle.locus_ids.specs.declared.config.Config.{Config}
use Rattle.locus_ids.specs.declared.ids.CallId.{CallId}
use Rattle.locus_ids.specs.declared.ids.FileId.{FileId}
use Rattle.locus_ids.specs.declared.refusal.Refusal.TheVariants as refusal
use Rattle.trace_book.specs.declared.descriptor.Beginning.{Beginning}
use Rattle.trace_book.specs.declared.reply.Reply.TheVariants as reply
use Rattle.call_rules.specs.Scripts.{where_packed, in_group, named_wants}
use Rattle.call_rules.specs.declared.want.Want.{Want}
use Rattle.call_rules.specs.declared.want.Want.TheVariants as want
use Rattle.wire_messages.specs.declared.body.Opening.{Opening}
use Rattle.role_steps.specs.Epochs.{frame_in}
use Rattle.role_steps.specs.Views.{Frame, SiteView, sync_site}
use Rattle.role_steps.specs.declared.rounds.InEpoch.{InEpoch}
use Rattle.role_steps.specs.declared.users.Asking.{Asking}
use Rattle.role_steps.specs.declared.users.Asking.TheVariants as asking
use Rattle.role_steps.specs.declared.users.WaitingCall.{WaitingCall}
use Rattle.the_run.specs.Worlds.{Line, place_at}
use Rattle.tree_model.specs.declared.accepted.Waiting.{Waiting}
use Rattle.tree_model.specs.Packs as tree
use Rattle.locus_ids.specs.declared.sites.Members.{Members}
use Rattle.lawful_trace.specs.Progress.{Answers, is_packed_in}
use Rattle.tree_laws.specs.Calls.{script, script_as}
use Rattle.tree_laws.specs.Doing.{FrameFact}
use Rattle.tree_laws.specs.Instances.{IsOpening}
use Rattle.tree_laws.specs.Printed.{entries}
use Rattle.tree_laws.specs.Users.{own_call, AskingIs, WaitingFact}
use Rattle.rest_laws.proofs.of_tree_laws.Orders.ProcessSynchronizing.{sync_same}
use Rattle.row_laws.specs.Orderly.Calm.{IsInside}
use Rattle.row_laws.proofs.Orderly.Places.{view_eq}
use Rattle.calm_laws.specs.Rounds.{GoesToMember, IsStoredAtMember}
use Rattle.calm_laws.proofs.AnswerRows.{inside_fact, waiting_fact}
use Rattle.calm_laws.proofs.Facts.{RoundFacts, round_facts}
use Rattle.calm_laws.proofs.Rows.{AllGoToMembers}
use Rattle.calm_laws.proofs.Stored.{all_stored}

-- ---- what is wanted of a group ----

-- the group in which this is wanted is packed
abbrev IsPacked : (ℕ → Bool) → Want → Type 0
IsPacked p (want.Look file what) = p file.group ≡ true
IsPacked p (want.Open file how) = p file.group ≡ true
IsPacked p (want.OpenToMend file) = p file.group ≡ true
IsPacked p (want.Make group kind sites) = p group ≡ true
IsPacked p _ = Unit {0}

packed_group : (p : ℕ → Bool) (group : ℕ) (w : Want) → (p group ≡ true → IsPacked p w) → IsPacked p (in_group p group w)
packed_group p group w k = over (p group) k
  where
    over : (b : Bool) → (b ≡ true → IsPacked p w) → IsPacked p (cond b w (want.Give (reply.No refusal.NoStorage)))
    over true h = h refl
    over false h = tt

packed_want : (p : ℕ → Bool) (w : Want) → IsPacked p (where_packed p w)
packed_want p (want.Look file what) = packed_group p file.group (want.Look file what) (λ e. e)
packed_want p (want.Open file how) = packed_group p file.group (want.Open file how) (λ e. e)
packed_want p (want.OpenToMend file) = packed_group p file.group (want.OpenToMend file) (λ e. e)
packed_want p (want.Make group kind sites) = packed_group p group (want.Make group kind sites) (λ e. e)
packed_want p (want.Do i o) = tt
packed_want p (want.Close i) = tt
packed_want p (want.Give r) = tt
packed_want p want.Never = tt

script_packed : (c : Config) (t : List Line) (o : Option Waiting) (caller : Waiting) (b : Option Beginning) (begins : Beginning) (free : Option ℕ) (xs : Answers) → o ≡ Some caller → b ≡ Some begins → IsPacked (is_packed_in c (entries t) caller.epoch) (script_as c (entries t) o b free xs)
script_packed c t o caller b begins free xs e k =
    subst (λ (z : Option Waiting). IsPacked (is_packed_in c (entries t) caller.epoch) (script_as c (entries t) z b free xs)) (sym e)
    (subst (λ (z : Option Beginning). IsPacked (is_packed_in c (entries t) caller.epoch) (script_as c (entries t) (Some caller) z free xs)) (sym k) (packed_want (is_packed_in c (entries t) caller.epoch) (named_wants c.mounts free caller.words begins xs)))

-- a waiting call of a frame wants in such a group
wants_packed : (c : Config) (t : List Line) (f : Frame) (y : WaitingCall) → (k : WaitingFact c t f y) → IsPacked (is_packed_in c (entries t) (Some f.epoch)) k.wanted
wants_packed c t f y k =
    subst (λ (w : Want). IsPacked (is_packed_in c (entries t) (Some f.epoch)) w) k.script_is
    (subst (λ (w : Waiting). IsPacked (is_packed_in c (entries t) w.epoch) (script c (entries t) (own_call f.me f.boot y.call) None y.answers)) k.caller_is (script_packed c t _ k.caller _ y.begins None y.answers k.named k.begins_is))

-- ---- the request ----

some_site : (o : Option ℕ) → is_some o ≡ true → (s : ℕ) × (o ≡ Some s)
some_site None e = absurd (true_false (sym e))
some_site (Some s) e = (s, refl)

pub sync_of : (c : Config) (t : List Line) (f : Frame) (group : ℕ) → FrameFact c t f → is_packed_in c (entries t) (Some f.epoch) group ≡ true → (css : ℕ) × (sync_site c f.members group ≡ Some css)
sync_of c t f group frame e = some_site (sync_site c f.members group) (ap is_some (sync_same c f.members group) ∙ (ap (λ (m : Option Members). is_some (tree.sync_site c group m)) (sym frame.members_are) ∙ e))

look_goes : (c : Config) (t : List Line) (me : ℕ) (d : CallId) (p : ℕ → Bool) (w : Want) (file : FileId) (what : _) (take : ℕ) → IsPacked p w → AskingIs c t me d w (asking.Look file what take) → p file.group ≡ true
look_goes c t me d p (want.Look f asked) file what take k a = ap (λ (x : FileId). p x.group) a.0 ∙ k
look_goes c t me d p (want.Do inst o) file what take k a = absurd a
look_goes c t me d p (want.Close inst) file what take k a = absurd a
look_goes c t me d p (want.Open f m) file what take k a = absurd a
look_goes c t me d p (want.OpenToMend f) file what take k a = absurd a
look_goes c t me d p (want.Make group kind sites) file what take k a = absurd a
look_goes c t me d p (want.Give r) file what take k a = absurd a
look_goes c t me d p want.Never file what take k a = absurd a

opening_goes : (c : Config) (p : ℕ → Bool) (w : Want) (file : FileId) (it : Opening) → IsPacked p w → IsOpening c w file it → p file.group ≡ true
opening_goes c p (want.Open f m) file it k a = ap (λ (x : FileId). p x.group) a.0 ∙ k
opening_goes c p (want.OpenToMend f) file it k a = ap (λ (x : FileId). p x.group) a.0 ∙ k
opening_goes c p (want.Make group kind sites) file it k a = ap p a.0 ∙ k
opening_goes c p (want.Look f what) file it k a = absurd a
opening_goes c p (want.Do inst o) file it k a = absurd a
opening_goes c p (want.Close inst) file it k a = absurd a
opening_goes c p (want.Give r) file it k a = absurd a
opening_goes c p want.Never file it k a = absurd a

open_goes : (c : Config) (t : List Line) (me : ℕ) (d : CallId) (p : ℕ → Bool) (w : Want) (serial : ℕ) (file : FileId) (it : Opening) → IsPacked p w → AskingIs c t me d w (asking.Open serial file it) → p file.group ≡ true
open_goes c t me d p (want.Open f m) serial file it k a = opening_goes c p (want.Open f m) file it k a.0
open_goes c t me d p (want.OpenToMend f) serial file it k a = opening_goes c p (want.OpenToMend f) file it k a.0
open_goes c t me d p (want.Make group kind sites) serial file it k a = opening_goes c p (want.Make group kind sites) file it k a.0
open_goes c t me d p (want.Look f what) serial file it k a = absurd a.0
open_goes c t me d p (want.Do inst o) serial file it k a = absurd a.0
open_goes c t me d p (want.Close inst) serial file it k a = absurd a.0
open_goes c t me d p (want.Give r) serial file it k a = absurd a.0
open_goes c t me d p want.Never serial file it k a = absurd a.0

goes : (c : Config) (t : List Line) (e : InEpoch) (s boot : ℕ) (y : WaitingCall) (a : Asking) → FrameFact c t (frame_in c s boot e) → (w : Want) → IsPacked (is_packed_in c (entries t) (Some e.id)) w → AskingIs c t s (own_call s boot y.call) w a → IsStoredAtMember e a → GoesToMember c e a
goes c t e s boot y (asking.Look file what take) frame w k a m = sync_of c t (frame_in c s boot e) file.group frame (look_goes c t s (own_call s boot y.call) (is_packed_in c (entries t) (Some e.id)) w file what take k a)
goes c t e s boot y (asking.Open serial file how) frame w k a m = sync_of c t (frame_in c s boot e) file.group frame (open_goes c t s (own_call s boot y.call) (is_packed_in c (entries t) (Some e.id)) w serial file how k a)
goes c t e s boot y (asking.Op serial ss n o seen) frame w k a m = m
goes c t e s boot y (asking.Close serial ss) frame w k a m = m

-- all requests of waiting calls of members go to members
pub all_go : (c : Config) → AllGoToMembers c
all_go c lines n e w round together s v y member here a = goes c w.trace e s v.boot y y.asking (inside_fact c w s v e facts.fact here epoch).frame k.wanted (wants_packed c w.trace (frame_in c s v.boot e) y k) k.asking_is (all_stored c lines n e w round together s v y member here a)
  where
    facts : RoundFacts c w
    facts = round_facts c lines n w round

    inside : IsInside w e s
    inside = together.inside s member

    epoch : v.epoch ≡ Some e
    epoch = ap (λ (z : SiteView). z.epoch) (view_eq (place_at w s) v inside.view here inside.here) ∙ inside.epoch

    k : WaitingFact c w.trace (frame_in c s v.boot e) y
    k = waiting_fact c w s v e y facts.fact here epoch a
