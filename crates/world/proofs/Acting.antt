-- What an event of a site does in the run is what it does in the site's place.
use Rattle.std.proofs.Common.{◌≡◌, ℕ, zero, suc, ◌-◌, nat_lt, List, [], ◌∷◌, Option, Some, None, Bool, true, false, refl, sym, ap, subst, ◌∙◌}
use Rattle.keyed_tables.specs.Rising.{Rising}
use Rattle.role_steps.specs.Views.{SiteView, DiskWrite, Outcome}
use Rattle.the_run.specs.Disks.{Disk, Armed, BootWrite, Booted, Whole, CutOff, write_calls, written, boot_writes, boots_armed, boots, cut_disk}
use Rattle.the_run.specs.Worlds.{World, Running, script_of, armed_site, puts, arms, stops_with, happened, runs_on, spends, cut_event, writes_of, acts_of, fresh, disk_of}
use Rattle.the_run.specs.Runs.{boots_as, asked_stop}
use Rattle.site_place.specs.Places.{Happening, runs_in, cut_in, writes_in, acts_in, boots_to, stops_at}
use Rattle.world.proofs.Tables.{key_found}
use Rattle.world.proofs.Changes.{Changes, change_puts, change_arms, change_stops}

-- whatever holds of each world that the happening leads to
module _ (n s : ℕ) (w : World) (r : Rising armed_site w.armed) (P : World → Type 0) where
  abbrev Leads : Happening → Type 0
  Leads h = (change : World → World) → Changes s h.place h.armed w (change w) → P (happened n h.sent h.told change w)

  site_of : (a : Armed) → script_of w s ≡ Some a → a.site ≡ s
  site_of a e = key_found armed_site s w.armed a e

  armed_leads : (v : SiteView) (o : Outcome SiteView) (d : DiskWrite) (a : Armed) (calls : ℕ) (b : Bool) → script_of w s ≡ Some a → Leads (elim b [ true ↦ cut_in s v d a | false ↦ runs_in o (Some (record a { left = a.left - calls })) ]) → P (elim b [ true ↦ cut_event n s v d a w | false ↦ runs_on n s o (spends a (a.left - calls)) w ])
  armed_leads v o d a calls true e g = g (stops_with s (cut_disk v.boot v.store d a.how a.left)) (change_stops s w r (cut_disk v.boot v.store d a.how a.left))
  armed_leads v o d a calls false e g = g (λ now. puts s (Running o.view) (spends a (a.left - calls) now)) (change_arms s w r (Running o.view) (record a { left = a.left - calls }) (site_of a e))

  writes_lead : (v : SiteView) (o : Outcome SiteView) (d : DiskWrite) (a : Option Armed) → script_of w s ≡ a → Leads (writes_in s v o d a) → P (writes_of n s v o d a w)
  writes_lead v o d None e g = g (λ now. puts s (Running o.view) now) (change_puts s w r (Running o.view) None e)
  writes_lead v o d (Some a) e g = armed_leads v o d a (write_calls v.store d) (nat_lt a.left (write_calls v.store d)) e g

  pub acts_lead : (v : SiteView) (o : Outcome SiteView) (d : Option DiskWrite) (a : Option Armed) → script_of w s ≡ a → Leads (acts_in s v o d a) → P (acts_of n s v o d w)
  acts_lead v o None a e g = g (λ now. puts s (Running o.view) now) (change_puts s w r (Running o.view) a e)
  acts_lead v o (Some d) a e g = subst (λ (b : Option Armed). P (writes_of n s v o d b w)) (sym e) (writes_lead v o d a e g)

  pub stop_leads : (v : SiteView) (a : Option Armed) → Leads (stops_at s a (Running v)) → P (asked_stop n s v w)
  stop_leads v a g = g (stops_with s (disk_of v)) (change_stops s w r (disk_of v))

  -- ---- a boot ----

  pub boot_leads : (b : Booted) → ((d : Disk) → b ≡ Whole d None → script_of w s ≡ None) → ((d : Disk) (a : Armed) → b ≡ Whole d (Some a) → a.site ≡ s) → Leads (boots_to s b) → P (boots_as n s b w)
  boot_leads (Whole d None) none some g = g (λ now. puts s (Running (fresh d.label.boot d.copies)) now) (change_puts s w r (Running (fresh d.label.boot d.copies)) None (none d refl))
  boot_leads (Whole d (Some a)) none some g = g (λ now. arms a (puts s (Running (fresh d.label.boot d.copies)) now)) (change_arms s w r (Running (fresh d.label.boot d.copies)) a (some d a refl))
  boot_leads (CutOff d how) none some g = g (stops_with s d) (change_stops s w r d)

-- a boot that ends whole keeps its script, with fewer calls left
boot_keeps : (a : Armed) (left : ℕ) (xs : List BootWrite) (d e : Disk) (b : Option Armed) → boots_armed a left xs d ≡ Whole e b → (k : ℕ) × (b ≡ Some (record a { left = k }))
boot_keeps a left [] d e b q = (left, let f : Some (record a { left = left }) ≡ b = cc in sym f)
boot_keeps a zero (x ∷ xs) d e b q = absurd (cc)
boot_keeps a (suc zero) (x ∷ xs) d e b q = absurd (cc)
boot_keeps a (suc (suc left)) (x ∷ xs) d e b q = boot_keeps a left xs (written x d) e b q

pub boots_none : (script : Option Armed) (d e : Disk) → boots script d ≡ Whole e None → script ≡ None
boots_none None d e q = refl
boots_none (Some a) d e q = let k = boot_keeps a a.left (boot_writes d) d e None q in absurd (let f : None ≡ Some (record a { left = k.0 }) = k.1 in cc)

pub boots_some : (s : ℕ) (script : Option Armed) (d e : Disk) (b : Armed) → ((a : Armed) → script ≡ Some a → a.site ≡ s) → boots script d ≡ Whole e (Some b) → b.site ≡ s
boots_some s None d e b h q = absurd (cc)
boots_some s (Some a) d e b h q =
    let k = boot_keeps a a.left (boot_writes d) d e (Some b) q in
    let f : Some b ≡ Some (record a { left = k.0 }) = k.1 in
    let g : b ≡ record a { left = k.0 } = cc in
    ap (λ (x : Armed). x.site) g ∙ h a refl
