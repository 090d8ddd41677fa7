-- The premises on which stores stand hold before an event where they hold after it.
use Rattle.std.proofs.Common.{◌≡◌, ℕ, ◌+◌, List, [], ◌∷◌, length, subst}
use Rattle.wire_messages.specs.declared.packet.Packet.{Packet}
use Rattle.role_steps.specs.Views.{Told}
use Rattle.the_run.specs.Worlds.{World, Numbered, numbered_from, newest_onto, told_onto, with_numbered}
use Rattle.site_laws.specs.Vectors.Written.{past_of}
use Rattle.site_laws.specs.Vectors.Facts.{onto}
use Rattle.site_laws.proofs.Vectors.FactsRun.{past_onto}
use Rattle.site_laws.specs.Locks.Joins.{JoinsAreOnce}
use Rattle.site_laws.proofs.Packs.WriterAsksRun.{Leads, newest_leads}
use Rattle.site_laws.proofs.Makes.RunningStand.{ChangesAreOfWriters, stand_spines}
use Rattle.site_laws.proofs.Makes.RunningStandRun.{Orderly}

once_before : (told past : List Told) → JoinsAreOnce (onto told past) → JoinsAreOnce past
once_before [] past h = h
once_before (x ∷ xs) past h = (once_before xs (x ∷ past) h).1

pub orderly_before : (n : ℕ) (ps : List Packet) (told : List Told) (change : World → World) (w : World) (b t : ℕ) → (change w).sent ≡ w.sent → Orderly (with_numbered (numbered_from (w.packets + 1) ps) (told_onto n told w.trace) (w.packets + length ps) b t (change w)) → Orderly w
orderly_before n ps told change w b t sent h = (once_before told past (subst JoinsAreOnce same h.0), stand_spines.earlier w.sent new leads told past (subst (ChangesAreOfWriters new) same h.1))
  where
    past : List Told
    past = past_of w.trace

    new : List Numbered
    new = newest_onto (numbered_from (w.packets + 1) ps) (change w).sent

    same : past_of (told_onto n told w.trace) ≡ onto told past
    same = past_onto n told w.trace

    leads : Leads w.sent new
    leads = subst (λ (xs : List Numbered). Leads xs new) sent (newest_leads (numbered_from (w.packets + 1) ps) (change w).sent)
