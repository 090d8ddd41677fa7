-- After a calm round in which nobody has a file open, whoever is to hold its only kept version and pulls it has pulled it whole; the file is
-- closed there, and no mend of it waits.
use Rattle.std.proofs.Common.{Bool, List, Some, [], ap, arith, false, inr, refl, subst, sym, true, ℕ, ◌∙◌, ◌∷◌, ◌≡◌}
use Rattle.calm_laws.proofs.Calm.{calm_in_round, calm_round}
use Rattle.calm_laws.proofs.Facts.{round_facts}
use Rattle.calm_laws.specs.Carrying.{IsMember}
use Rattle.calm_laws.specs.Rounds.{CalmLeft, IsCalm, IsInRound, after}
use Rattle.calm_laws.proofs.Convergence.Due.{IsDueTo}
use Rattle.calm_laws.proofs.Convergence.FreeClosing.{none_is}
use Rattle.calm_laws.proofs.Convergence.FreeEnded.{none_closes}
use Rattle.calm_laws.proofs.Convergence.FreeUsers.{Mends, mend_there}
use Rattle.calm_laws.proofs.Convergence.Midst.{midst_in, none_runs}
use Rattle.calm_laws.proofs.Convergence.PulledGoing.{whole_at_the_end}
use Rattle.calm_laws.proofs.Convergence.PulledSteps.{Pulling}
use Rattle.calm_laws.proofs.Convergence.Reaching.{PullsIt, due_rests}
use Rattle.calm_laws.proofs.Convergence.Resting.{RestsBy, last_offer}
use Rattle.calm_laws.specs.Convergence.Offers.{Offer, is_above}
use Rattle.calm_laws.specs.Convergence.Rounds.{IsUndisturbed}
use Rattle.locus_ids.specs.declared.config.Config.{Config}
use Rattle.locus_ids.specs.declared.ids.FileId.{FileId}
use Rattle.row_laws.specs.Orderly.Calm.{AreTogether}
use Rattle.role_steps.specs.Adoption.{has_mend}
use Rattle.role_steps.specs.Pulling.{is_complete}
use Rattle.role_steps.specs.Storage.{copy_of, has_open}
use Rattle.role_steps.specs.Views.{SiteView, file_key}
use Rattle.role_steps.specs.declared.rounds.InEpoch.{InEpoch}
use Rattle.role_steps.specs.declared.synchronizing.VersionRow.{VersionRow}
use Rattle.role_steps.specs.declared.users.WaitingCall.{WaitingCall}
use Rattle.schedule_lines.specs.declared.line.ScheduleLine.{ScheduleLine}
use Rattle.the_run.specs.Worlds.{Running, World, place_at}

-- nothing keeps the site from adopting a version of the file but room
pub record IsShutAt (z : SiteView) (file : FileId) : Type 0 where
  pub closed : has_open z.store file ≡ false
  pub unmended : has_mend z.users file ≡ false

pub free_at_end : (c : Config) → CalmLeft c → (lines : List ScheduleLine) (n : ℕ) (e : InEpoch) (k : ℕ) → IsCalm c lines n e k → (file : FileId) → IsUndisturbed c lines n e k file → (s : ℕ) → IsMember e s → (v : VersionRow) → IsDueTo c e (after c lines n k) s (last_offer file v) → (z : SiteView) → place_at (after c lines n k) s ≡ Some (Running z) → IsShutAt z file
free_at_end c left lines n e k calm file undisturbed s member v due z here = record { closed = closed; unmended = unmended (has_mend z.users file) refl }
  where
    w : World
    w = after c lines n k

    round : IsInRound c lines n w
    round = calm_in_round c lines n e k k calm (omega arith)

    together : AreTogether w e
    together = calm.each k (omega arith)

    rests : RestsBy c e file v s w.trace
    rests = due_rests c e w (round_facts c lines n w round) calm.groups together s file v due (undisturbed w (inr (k, omega arith, refl)))

    closed : has_open z.store file ≡ false
    closed = none_is z.store file (λ i a same runs. none_runs c e w (midst_in c lines n e w round together) file v s rests member z here i a (ap file_key same) runs)
        (λ i a same closes. none_closes c lines n e k calm file undisturbed due.hold.known.css due.hold.known.synced s member z i here a same closes)

    none_waits : Mends file z.users.waiting → ⊥
    none_waits q = subst (λ (ws : List WaitingCall). Mends file ws → ⊥) (sym (calm_round c left lines n e k calm s z member here)) (λ y. y.1) q

    unmended : (b : Bool) → has_mend z.users file ≡ b → has_mend z.users file ≡ false
    unmended false q = q
    unmended true q = absurd (none_waits (mend_there file z.users q))

pub pulled_whole : (c : Config) → CalmLeft c → (lines : List ScheduleLine) (n : ℕ) (e : InEpoch) (k : ℕ) → IsCalm c lines n e k → (file : FileId) → IsUndisturbed c lines n e k file → (s : ℕ) → IsMember e s → (v : VersionRow) → IsDueTo c e (after c lines n k) s (last_offer file v) →
    (p : PullsIt (after c lines n k) s file v) → is_above v.vector (copy_of p.view.store file) ≡ true → is_complete p.pulls.pull ≡ true
pulled_whole c left lines n e k calm file undisturbed s member v due p above = whole_at_the_end c lines n e k calm file undisturbed s member p.view p.pulls.pull pulling
  where
    w : World
    w = after c lines n k

    round : IsInRound c lines n w
    round = calm_in_round c lines n e k k calm (omega arith)

    rests : RestsBy c e file v s w.trace
    rests = due_rests c e w (round_facts c lines n w round) calm.groups (calm.each k (omega arith)) s file v due (undisturbed w (inr (k, omega arith, refl)))

    pulling : Pulling c e w s file p.view p.pulls.pull
    pulling = record {
      here = p.here;
      found = p.pulls.found;
      over = p.pulls.over;
      above = ap (λ (o : Offer). is_above o.vector (copy_of p.view.store file)) p.pulls.offer ∙ above;
      kept = rests.kept.only ∙ ap (λ (o : Offer). o.stamp ∷ []) (sym p.pulls.offer);
    }
