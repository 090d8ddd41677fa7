-- Parts of a site's event, and how its calls stand after them.
use Rattle.locus_ids.specs.declared.config.Config.{Config}
use Rattle.std.proofs.Common.{◌≡◌, ℕ, ◌==◌, Bool, true, false, ◌||◌, ◌&&◌, List, [], ◌∷◌, ◌++◌, Option, Some, None, refl, sym, ◌∙◌, ap, subst}
use Rattle.role_steps.proofs.of_plain_facts.Tests.{or_true}
use Rattle.locus_ids.specs.declared.ids.EpochId.{EpochId}
use Rattle.trace_book.specs.Same.{same_epoch}
use Rattle.trace_book.specs.declared.record.Record.{Record}
use Rattle.trace_book.specs.declared.record.Record.TheVariants as says
use Rattle.role_steps.specs.Own.{Every}
use Rattle.role_steps.specs.Views.{Users, SiteView, Told, Shown, Outcome, quiet, and_then}
use Rattle.role_steps.specs.declared.rounds.InEpoch.{InEpoch}
use Rattle.role_steps.proofs.Sending.{every_append}
use Rattle.tree_model.specs.Folds.{Trace}
use Rattle.the_run.specs.Steps.{epoch_id, at_users}
use Rattle.the_run.proofs.Boots.{every_weaker}
use Rattle.row_laws.specs.Shown.{with_told}
use Rattle.row_laws.specs.Inward.{ServedRecord, ServedTold, LooksInward}
use Rattle.row_laws.specs.CallRows.Serials.{Owned}
use Rattle.row_laws.specs.CallRows.Waiting.{after, AcceptTold, AllAccepted, OfSiteRecord, OfSite, Waits, CallFreeRecord, CallFree}
use Rattle.row_laws.specs.CallRows.Standing.{UsersDo, WasIn, IsInside, Stands, AllNew, SiteDone, SiteDoes}
use Rattle.row_laws.proofs.CallRows.Keeping.{all_free}
use Rattle.row_laws.proofs.CallRows.Owning.{grow_owned}

-- ---- what is told, one after another ----

pub after_append : (m : ℕ) (a b : List Told) (t : Trace) → after m (a ++ b) t ≡ after m b (after m a t)
after_append m [] b t = refl
after_append m (x ∷ xs) b t = after_append m xs b (with_told m x t)

pub accepted_append : (c : Config) (m : ℕ) (a b : List Told) (t : Trace) → AllAccepted c m a t → AllAccepted c m b (after m a t) → AllAccepted c m (a ++ b) t
accepted_append c m [] b t h g = g
accepted_append c m (x ∷ xs) b t h g = (h.0, accepted_append c m xs b (with_told m x t) h.1 g)

pub new_split : (m : ℕ) (a b : List Told) (t : Trace) → AllNew m (a ++ b) t → AllNew m a t × AllNew m b (after m a t)
new_split m [] b t h = (tt, h)
new_split m (x ∷ xs) b t h = let k : AllNew m xs (with_told m x t) × AllNew m b (after m xs (with_told m x t)) = new_split m xs b (with_told m x t) h.1 in ((h.0, k.0), k.1)

-- ---- epochs stay known ----

record_was : (s m : ℕ) (r : Record) (t : Trace) (e : EpochId) → WasIn s t e → WasIn s (record { line = m; what = r } ∷ t) e
record_was s m (says.Join site id members) t e h = ap (λ (b : Bool). ((site == s) && same_epoch id e) || b) h ∙ or_true ((site == s) && same_epoch id e)
record_was s m _ t e h = h

told_was : (s m : ℕ) (x : Told) (t : Trace) (e : EpochId) → WasIn s t e → WasIn s (with_told m x t) e
told_was s m (Shown r) t e h = record_was s m r t e h
told_was s m _ t e h = h

pub after_was : (s m : ℕ) (told : List Told) (t : Trace) (e : EpochId) → WasIn s t e → WasIn s (after m told t) e
after_was s m [] t e h = h
after_was s m (x ∷ xs) t e h = after_was s m xs (with_told m x t) e (told_was s m x t e h)

pub after_inside : (s m : ℕ) (told : List Told) (t : Trace) (o : Option InEpoch) → IsInside s t o → IsInside s (after m told t) o
after_inside s m told t None h = h
after_inside s m told t (Some e) h = after_was s m told t e.id h

pub after_owned : (s m : ℕ) (told : List Told) (t : Trace) (now : Option EpochId) (u : Users) → Owned (WasIn s t) now u → Owned (WasIn s (after m told t)) now u
after_owned s m told t now u h = grow_owned (WasIn s t) (WasIn s (after m told t)) now u (after_was s m told t) h

-- ---- a site whose users stay ----

pub alike : (c : Config) (s : ℕ) (t : Trace) (v w : SiteView) → w.users ≡ v.users → w.epoch ≡ v.epoch → w.boot ≡ v.boot → Every LooksInward w.tables → Stands c s t v → Stands c s t w
alike c s t v w users epoch boot tables h = record {
  waits = subst (λ (b : ℕ). Waits c s b t w.users.calls w.users.waiting) (sym boot) (subst (λ (u : Users). Waits c s v.boot t u.calls u.waiting) (sym users) h.waits);
  owned = subst (λ (e : Option InEpoch). Owned (WasIn s t) (epoch_id e) w.users) (sym epoch) (subst (Owned (WasIn s t) (epoch_id v.epoch)) (sym users) h.owned);
  tables = tables;
  inside = subst (IsInside s t) (sym epoch) h.inside;
}

-- what tells of no call leaves it
pub free_stands : (c : Config) (s m : ℕ) (told : List Told) (t : Trace) (v : SiteView) → Every CallFree told → Stands c s t v → Stands c s (after m told t) v
free_stands c s m told t v free h = record {
  waits = all_free c s v.boot m v.users.calls told t v.users.waiting free h.waits;
  owned = after_owned s m told t (epoch_id v.epoch) v.users h.owned;
  tables = h.tables;
  inside = after_inside s m told t v.epoch h.inside;
}

-- ---- what tables and stores tell ----

served_free_record : (r : Record) → ServedRecord r → CallFreeRecord r
served_free_record (says.Up site boot) h = absurd h
served_free_record (says.Stopped site why) h = absurd h
served_free_record (says.Accept site process id words) h = absurd h
served_free_record (says.Answer site process id r) h = absurd h
served_free_record _ h = tt

pub served_free : (x : Told) → ServedTold x → CallFree x
served_free (Shown r) h = served_free_record r h
served_free _ h = tt

pub all_served_free : (told : List Told) → Every ServedTold told → Every CallFree told
all_served_free told h = every_weaker ServedTold CallFree told served_free h

free_own_record : (s : ℕ) (r : Record) → CallFreeRecord r → OfSiteRecord s r
free_own_record s (says.Up site boot) h = absurd h
free_own_record s (says.Stopped site why) h = absurd h
free_own_record s (says.Accept site process id words) h = absurd h
free_own_record s (says.Answer site process id r) h = absurd h
free_own_record s _ h = tt

free_own : (s : ℕ) (x : Told) → CallFree x → OfSite s x
free_own s (Shown r) h = free_own_record s r h
free_own s _ h = tt

pub all_free_own : (s : ℕ) (told : List Told) → Every CallFree told → Every (OfSite s) told
all_free_own s told h = every_weaker CallFree (OfSite s) told (free_own s) h

free_row : (c : Config) (t : Trace) (x : Told) → CallFree x → AcceptTold c t x
free_row c t (Shown (says.Accept site process id words)) h = absurd h
free_row c t (Shown _) h = tt
free_row c t _ h = tt

pub free_rows : (c : Config) (m : ℕ) (told : List Told) (t : Trace) → Every CallFree told → AllAccepted c m told t
free_rows c m [] t h = tt
free_rows c m (x ∷ xs) t h = (free_row c t x h.0, free_rows c m xs (with_told m x t) h.1)

-- ---- parts of an event ----

-- the users stay, and nothing is told of calls
pub plain_done : (c : Config) (s m : ℕ) (t : Trace) (v : SiteView) (o : Outcome SiteView) → o.view.users ≡ v.users → o.view.epoch ≡ v.epoch → o.view.boot ≡ v.boot → Every LooksInward o.view.tables → Every CallFree o.told → Stands c s t v → SiteDone c s m t o
plain_done c s m t v o users epoch boot tables free h = record {
  view = alike c s (after m o.told t) v o.view users epoch boot tables (free_stands c s m o.told t v free h);
  rows = free_rows c m o.told t free;
  own = all_free_own s o.told free;
}

pub quiet_done : (c : Config) (s m : ℕ) (t : Trace) (v : SiteView) → Stands c s t v → SiteDone c s m t (quiet v)
quiet_done c s m t v h = record { view = h; rows = tt; own = tt }

-- a part of the users
pub users_done : (c : Config) (s m : ℕ) (t : Trace) (v : SiteView) (g : Users → Outcome Users) → Stands c s t v → UsersDo c (WasIn s t) s v.boot (epoch_id v.epoch) m t (g v.users) → SiteDone c s m t (at_users g v)
users_done c s m t v g h d = record {
  view = record {
    waits = d.waits;
    owned = after_owned s m (g v.users).told t (epoch_id v.epoch) (g v.users).view d.owned;
    tables = h.tables;
    inside = after_inside s m (g v.users).told t v.epoch h.inside;
  };
  rows = d.rows;
  own = d.own;
}

pub then_does : (c : Config) (s m : ℕ) (t : Trace) (o : Outcome SiteView) (f : SiteView → Outcome SiteView) → SiteDoes c s m t o → (Stands c s (after m o.told t) o.view → SiteDoes c s m (after m o.told t) (f o.view)) → SiteDoes c s m t (and_then o f)
then_does c s m t o f first later new =
    let k : AllNew m o.told t × AllNew m (f o.view).told (after m o.told t) = new_split m o.told (f o.view).told t new in
    let a : SiteDone c s m t o = first k.0 in
    let b : SiteDone c s m (after m o.told t) (f o.view) = later a.view k.1 in
    record {
      view = subst (λ (u : Trace). Stands c s u (f o.view).view) (sym (after_append m o.told (f o.view).told t)) b.view;
      rows = accepted_append c m o.told (f o.view).told t a.rows b.rows;
      own = every_append (OfSite s) o.told (f o.view).told a.own b.own;
    }
