-- What one event of a member hands on: where all that was carried is carried by what it leaves and sends, all stays carried.
use Rattle.std.proofs.Common.{◌≡◌, ◌≢◌, ℕ, ◌⊎◌, List, Some, sym, ◌∙◌, ap, subst, inl, inr}
use Rattle.locus_ids.specs.declared.config.Config.{Config}
use Rattle.wire_messages.specs.declared.body.Body.TheVariants as body
use Rattle.wire_messages.specs.declared.body.ReportedCopy.{ReportedCopy}
use Rattle.wire_messages.specs.declared.packet.Packet.{Packet}
use Rattle.role_steps.specs.Views.{SiteView, sync_site}
use Rattle.role_steps.specs.declared.rounds.InEpoch.{InEpoch}
use Rattle.role_steps.specs.declared.users.WaitingCall.{WaitingCall}
use Rattle.the_run.specs.Kept.{Among}
use Rattle.the_run.specs.Worlds.{Running, Numbered}
use Rattle.the_run.proofs.Boots.{at_each}
use Rattle.run_laws.specs.Epochs.Known.{Places}
use Rattle.row_laws.proofs.Orderly.Places.{view_eq}
use Rattle.calm_laws.specs.Carrying.{IsMember, Goes, Carries, IsHeld, IsUnderWay, IsCarried, HasReported, Reports, AllCarried}
use Rattle.calm_laws.proofs.Events.{Under}

-- the call waits at a member before the event and after it
pub record StillWaits (e : InEpoch) (at now : Places) (s : ℕ) (y : WaitingCall) : Type 0 where
  pub member : IsMember e s
  pub before : SiteView
  pub was : at s ≡ Some (Running before)
  pub waited : Among y before.users.waiting
  pub after : SiteView
  pub here : now s ≡ Some (Running after)
  pub waits : Among y after.users.waiting

-- something that is sent carries it, or it is held
abbrev pub IsHandedOn : Config → InEpoch → Places → List Packet → ℕ → WaitingCall → Type 0
IsHandedOn c e now sent s y = ((q : Packet) × Among q sent × Carries c e now s y y.asking q) ⊎ IsHeld c e now s y y.asking

-- What the member's event owes, in which it takes the packet, and so comes from one view to the other and sends these.
pub record Hands (c : Config) (e : InEpoch) (m : ℕ) (at now : Places) (p : Packet) (v u : SiteView) (sent : List Packet) : Type 0 where
  -- a call that waits after it waited before, or is carried anew
  pub calls : (y : WaitingCall) → Among y u.users.waiting → Among y v.users.waiting ⊎ IsHandedOn c e now sent m y
  -- a packet that carries a call goes on to carry it, or the call is carried anew
  pub keeps : (s : ℕ) (y : WaitingCall) (q : Packet) → StillWaits e at now s y → Carries c e at s y y.asking q → Carries c e now s y y.asking q ⊎ IsHandedOn c e now sent s y
  -- what the packet carried that is taken is carried anew
  pub takes : (s : ℕ) (y : WaitingCall) → StillWaits e at now s y → Carries c e at s y y.asking p → IsHandedOn c e now sent s y
  pub holds : (s : ℕ) (y : WaitingCall) → StillWaits e at now s y → IsHeld c e at s y y.asking → IsHandedOn c e now sent s y
  -- a report that is there stays, and one that is taken is there
  pub reported : (css group s : ℕ) → IsMember e css → HasReported at css group s → HasReported now css group s
  pub counts : (group css s : ℕ) (copies : List ReportedCopy) → sync_site c e.members group ≡ Some css → Goes c e s css (body.Report group copies) p → HasReported now css group s

handed : (c : Config) (e : InEpoch) (now : Places) (sent : List Packet) (under : List Numbered) (s : ℕ) (y : WaitingCall) → ((q : Packet) → Among q sent → Under under q) → IsHandedOn c e now sent s y → IsCarried c e now under s y
handed c e now sent under s y sends (inl k) = (let z : Under under k.0 = sends k.0 k.1 in inl (record { letter = z.letter; there = z.there; carries = subst (λ (q : Packet). Carries c e now s y y.asking q) (sym z.is) k.2 }))
handed c e now sent under s y sends (inr k) = inr k

pub all_handed : (c : Config) (e : InEpoch) (m : ℕ) (at now : Places) (p : Packet) (v u : SiteView) (sent : List Packet) (under after : List Numbered) → Hands c e m at now p v u sent → ((group css : ℕ) → sync_site c e.members group ≡ Some css → IsMember e css) →
    at m ≡ Some (Running v) → now m ≡ Some (Running u) → ((t : ℕ) → m ≢ t → now t ≡ at t) → ((y : Numbered) → Among y under → Among y after ⊎ (y.packet ≡ p)) → ((q : Packet) → Among q sent → Under after q) → AllCarried c e at under → AllCarried c e now after
all_handed c e m at now p v u sent under after h synced was here others stay sends old = record {
  calls = λ s z y member there a. at_each m s (IsCarried c e now after s y) (λ eq. mine s z y member eq there a) (λ ne. theirs s z y member ne there a);
  reports = λ group css s sync member packed. reports group css s sync (old.reports group css s sync member packed);
}
  where
    letter_case : (s : ℕ) (y : WaitingCall) → StillWaits e at now s y → (z : Numbered) → Carries c e at s y y.asking z.packet → Among z after ⊎ (z.packet ≡ p) → IsCarried c e now after s y
    letter_case s y k z g (inl there) = over (h.keeps s y z.packet k g)
      where
        over : Carries c e now s y y.asking z.packet ⊎ IsHandedOn c e now sent s y → IsCarried c e now after s y
        over (inl g) = inl (record { letter = z; there = there; carries = g })
        over (inr g) = handed c e now sent after s y sends g
    letter_case s y k z g (inr is) = handed c e now sent after s y sends (h.takes s y k (subst (λ (q : Packet). Carries c e at s y y.asking q) is g))

    on : (s : ℕ) (y : WaitingCall) → StillWaits e at now s y → IsUnderWay c e at under s y ⊎ IsHeld c e at s y y.asking → IsCarried c e now after s y
    on s y k (inl g) = letter_case s y k g.letter g.carries (stay g.letter g.there)
    on s y k (inr g) = handed c e now sent after s y sends (h.holds s y k g)

    theirs : (s : ℕ) (z : SiteView) (y : WaitingCall) → IsMember e s → m ≢ s → now s ≡ Some (Running z) → Among y z.users.waiting → IsCarried c e now after s y
    theirs s z y member ne there a = on s y (record { member = member; before = z; was = sym (others s ne) ∙ there; waited = a; after = z; here = there; waits = a }) (old.calls s z y member (sym (others s ne) ∙ there) a)

    mine : (s : ℕ) (z : SiteView) (y : WaitingCall) → IsMember e s → m ≡ s → now s ≡ Some (Running z) → Among y z.users.waiting → IsCarried c e now after s y
    mine s z y member eq there a = over (h.calls y (subst (λ (x : SiteView). Among y x.users.waiting) (view_eq (now s) z u there (ap now (sym eq) ∙ here)) a))
      where
        over : Among y v.users.waiting ⊎ IsHandedOn c e now sent m y → IsCarried c e now after s y
        over (inl b) = on s y (record { member = member; before = v; was = ap at (sym eq) ∙ was; waited = b; after = z; here = there; waits = a }) (old.calls s v y member (ap at (sym eq) ∙ was) b)
        over (inr g) = subst (λ (t : ℕ). IsCarried c e now after t y) eq (handed c e now sent after m y sends g)

    reports : (group css s : ℕ) → sync_site c e.members group ≡ Some css → HasReported at css group s ⊎ Reports c e under css group s → HasReported now css group s ⊎ Reports c e after css group s
    reports group css s sync (inl k) = inl (h.reported css group s (synced group css sync) k)
    reports group css s sync (inr k) = over (stay k.letter k.there)
      where
        over : Among k.letter after ⊎ (k.letter.packet ≡ p) → HasReported now css group s ⊎ Reports c e after css group s
        over (inl there) = inr (record { letter = k.letter; there = there; copies = k.copies; goes = k.goes })
        over (inr is) = inl (h.counts group css s k.copies sync (subst (λ (q : Packet). Goes c e s css (body.Report group k.copies) q) is k.goes))
