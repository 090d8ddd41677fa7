-- What refers to something in the past of consistent records finds it there.
use Rattle.std.specs.Prelude.{ℕ, ◌≡◌, ◌==◌, ◌&&◌, ◌||◌, not, Bool, true, List, Some}
use Rattle.std.specs.List.{list_any, list_all, AllByRecursion}
use Rattle.locus_ids.specs.declared.ids.CallId.{CallId}
use Rattle.locus_ids.specs.declared.ids.EpochId.{EpochId}
use Rattle.locus_ids.specs.declared.ids.Serial.{Serial}
use Rattle.trace_book.specs.Same.{same_call}
use Rattle.trace_book.specs.declared.descriptor.Descriptor.{Descriptor}
use Rattle.tree_model.specs.declared.instance.Granted.{Granted}
use Rattle.tree_model.specs.Epochs.{is_in}
use Rattle.promises.specs.Past.{Past, Site, Epoch, CallSoFar, Instance, Named, is_named, is_number, is_on}
use Rattle.promises.specs.After.{is_epoch, is_id}
use Rattle.audit_laws.specs.Tidy.Epochs.{is_grant}

-- the epoch of this name is there, and is so
abbrev pub has_epoch : (Epoch → Bool) → EpochId → List Epoch → Bool
has_epoch q e epochs = list_any (λ (t : Epoch). is_epoch e t && q t) epochs

-- the site is or has been in it
abbrev pub has_member : ℕ → Epoch → Bool
has_member site t = is_number t.joined site

-- it granted the instance, to this call
abbrev pub has_granted : Serial → CallId → Epoch → Bool
has_granted i id t = list_any (λ (g : Granted). is_grant i g && same_call g.call id) t.granted

-- a descriptor has named the instance, if it is open
abbrev pub is_named_there : Serial → Instance → Bool
is_named_there i x = not (is_named i x) || x.named

-- it granted the instance, and a descriptor has named it, if it is open
abbrev pub has_named : Serial → Epoch → Bool
has_named i t = list_any (is_grant i) t.granted && list_all (is_named_there i) t.opened

-- the call that it was granted to was accepted in the epoch
abbrev pub is_called : EpochId → Granted → CallSoFar → Bool
is_called e g k = is_id g.call k && ((k.process == g.process) && is_in k.epoch e)

-- by its site, it is the site's own name
pub record GrantStands (calls : List CallSoFar) (e : EpochId) (g : Granted) : Type 0 where
  pub called : list_any (is_called e g) calls ≡ true
  pub own : g.inst.us ≡ g.call.site

-- a call finds its epoch, what was granted to it, and what it uses
pub record CallTied (epochs : List Epoch) (k : CallSoFar) : Type 0 where
  pub epoch : (e : EpochId) → k.epoch ≡ Some e → list_any (is_epoch e) epochs ≡ true
  pub granted : (d : Descriptor) → k.granted ≡ Some d → is_in k.epoch d.epoch ≡ true
  pub has_it : (d : Descriptor) → k.granted ≡ Some d → has_epoch (has_granted d.inst k.id) d.epoch epochs ≡ true
  pub within : (e : EpochId) (i : Serial) → is_on k.begins e i ≡ true → k.epoch ≡ Some e
  pub uses : (e : EpochId) (i : Serial) → is_on k.begins e i ≡ true → has_epoch (has_named i) e epochs ≡ true

pub record SiteTied (epochs : List Epoch) (s : Site) : Type 0 where
  -- it has joined the epoch that it is in
  pub inside : (e : EpochId) → s.epoch ≡ Some e → has_epoch (has_member s.number) e epochs ≡ true
  -- its descriptors name what was granted
  pub names : AllByRecursion (λ (d : Named). has_epoch (has_named d.names.inst) d.names.epoch epochs ≡ true) s.descriptors

pub record TiesStand (p : Past) : Type 0 where
  pub sites : AllByRecursion (SiteTied p.epochs) p.sites
  pub calls : AllByRecursion (CallTied p.epochs) p.calls
  pub grants : AllByRecursion (λ (t : Epoch). AllByRecursion (GrantStands p.calls t.id) t.granted) p.epochs
