-- What a waiting call of a member has open is stored at a member: the storage site has begun it in the epoch, and so has joined it.
use Rattle.std.proofs.Common.{◌≡◌, ℕ, ◌≤◌, true, List, Option, Some, sym, ◌∙◌, ap, subst, arith}
use Rattle.std.proofs.lemmas.Bool.Decides.{nat_tests}
use Rattle.locus_ids.specs.declared.config.Config.{Config}
use Rattle.locus_ids.specs.declared.ids.FileId.{FileId}
use Rattle.locus_ids.specs.declared.sites.Members.{Members}
use Rattle.locus_ids.specs.Sizes.{sites_max}
use Rattle.schedule_lines.specs.declared.line.ScheduleLine.{ScheduleLine}
use Rattle.role_steps.specs.Epochs.{frame_in}
use Rattle.role_steps.specs.Views.{SiteView, is_member, boot_in}
use Rattle.role_steps.specs.declared.rounds.InEpoch.{InEpoch}
use Rattle.role_steps.specs.declared.users.Asking.{Asking}
use Rattle.role_steps.specs.declared.users.Asking.TheVariants as asking
use Rattle.the_run.specs.Worlds.{World, place_at}
use Rattle.tree_model.specs.Packs as tree
use Rattle.rest_laws.proofs.EpochTreeStarting.{member_same}
use Rattle.tree_laws.specs.Doing.{FrameFact}
use Rattle.tree_laws.specs.Past.{WasBegun}
use Rattle.tree_laws.specs.Printed.{entries}
use Rattle.site_laws.specs.Locks.Asked.{AskedBegun, IsBegun}
use Rattle.rest_laws.proofs.EpochTreeMembers.{Joined, joined_as}
use Rattle.rest_laws.proofs.EpochTreeStarted.{begun_joined}
use Rattle.store_laws.specs.OneTree.Rest.{Past}
use Rattle.row_laws.specs.Orderly.Calm.{IsInside, AreTogether}
use Rattle.row_laws.proofs.Orderly.Places.{view_eq}
use Rattle.calm_laws.specs.Carrying.{IsMember, own_serial}
use Rattle.calm_laws.specs.Rounds.{IsInRound, IsStoredAtMember, StorageIsMember}
use Rattle.calm_laws.proofs.AnswerRows.{inside_fact}
use Rattle.calm_laws.proofs.Begun.{round_begun, asked_here}
use Rattle.calm_laws.proofs.CloseAgreed.{past_of, member_low}
use Rattle.calm_laws.proofs.Facts.{RoundFacts, round_facts}

some_is : (a b : Members) → ◌≡◌ {A = Option Members} (Some a) (Some b) → a ≡ b
some_is a b e = cc

in_list : (m : Members) (s : ℕ) → is_member m s ≡ true → boot_in m.boot s ≡ 0 → ⊥
in_list m s h z = grind (arith, nat_tests)

stored_here : (c : Config) (w : World) (e : InEpoch) (s boot serial ss : ℕ) → RoundFacts c w → FrameFact c w.trace (frame_in c s boot e) → s ≤ sites_max → IsBegun w.trace e.id s serial ss → IsMember e ss
stored_here c w e s boot serial ss facts frame low h = in_list e.members ss (member_same e.members ss ∙ subst (λ (m : Members). tree.is_member m ss ≡ true) (some_is j.members e.members (sym j.are ∙ frame.members_are)) j.is_member)
  where
    past : Past c w.trace
    past = past_of c w facts

    begun : (f : FileId) × WasBegun w.trace ss e.id (own_serial s serial) f
    begun = asked_here c w.trace past e.id s serial ss low h

    j : Joined (entries w.trace) ss e.id
    j = joined_as c w.trace past.followed past.rest.each ss e.id (begun_joined c ss e.id (own_serial s serial) begun.0 w.trace past.followed begun.1)

stored : (c : Config) (w : World) (e : InEpoch) (s boot : ℕ) (a : Asking) → RoundFacts c w → FrameFact c w.trace (frame_in c s boot e) → s ≤ sites_max → AskedBegun w.trace e.id s a → IsStoredAtMember e a
stored c w e s boot (asking.Op serial ss n o seen) facts frame low h = stored_here c w e s boot serial ss facts frame low h
stored c w e s boot (asking.Close serial ss) facts frame low h = stored_here c w e s boot serial ss facts frame low h
stored c w e s boot (asking.Look file what take) facts frame low h = tt
stored c w e s boot (asking.Open serial file how) facts frame low h = tt

pub all_stored : (c : Config) (lines : List ScheduleLine) (n : ℕ) (e : InEpoch) (w : World) → IsInRound c lines n w → AreTogether w e → StorageIsMember e w
all_stored c lines n e w round together s v y member here a = stored c w e s v.boot y.asking facts (inside_fact c w s v e facts.fact here epoch).frame (member_low c e w s facts together member) (round_begun c lines n w round s v e y here epoch a)
  where
    facts : RoundFacts c w
    facts = round_facts c lines n w round

    inside : IsInside w e s
    inside = together.inside s member

    epoch : v.epoch ≡ Some e
    epoch = ap (λ (z : SiteView). z.epoch) (view_eq (place_at w s) v inside.view here inside.here) ∙ inside.epoch
