-- What the grant of an instance says of it, and that it is open until it is released.
use Rattle.std.proofs.Common.{◌≡◌, ℕ, Bool, true, false, cond, ◌&&◌, List, [], ◌∷◌, Option, Some, None, refl, sym, ◌∙◌, ap, subst, ◌⊎◌, inl, inr}
use Rattle.plain_facts.proofs.Options.{none_some, some_same}
use Rattle.locus_ids.specs.declared.config.Config.{Config}
use Rattle.locus_ids.specs.declared.ids.CallId.{CallId}
use Rattle.locus_ids.specs.declared.ids.EpochId.{EpochId}
use Rattle.locus_ids.specs.declared.ids.FileId.{FileId}
use Rattle.locus_ids.specs.declared.ids.Mode.{Mode}
use Rattle.locus_ids.specs.declared.ids.Serial.{Serial}
use Rattle.locus_ids.specs.declared.ids.Stamp.{Stamp}
use Rattle.trace_book.specs.Same.{same_epoch, same_serial}
use Rattle.trace_book.specs.declared.record.Record.{Record}
use Rattle.trace_book.specs.declared.record.Record.TheVariants as says
use Rattle.role_steps.specs.Views.{Told, Shown}
use Rattle.the_run.specs.Worlds.{Line}
use Rattle.tree_model.specs.Calls.{granted_to}
use Rattle.lawful_trace.specs.TreeRows.{IsCallIn}
use Rattle.tree_laws.specs.Printed.{entries, onto_entries}
use Rattle.tree_laws.specs.Following.{MayTell, IsFollowed}
use Rattle.tree_laws.specs.Past.{Printed, WasGranted, WasNamed, EndRecord, WasReleased}
use Rattle.tree_laws.proofs.Awaiting.{IsHeldBy}
use Rattle.tree_laws.proofs.Descriptors.{IsUser}
use Rattle.tree_laws.proofs.Grants.{open_named}
use Rattle.tree_laws.proofs.Names.{same_epoch_eq, same_serial_eq}
use Rattle.tree_laws.proofs.Scripts.{in_stays}
use Rattle.tree_laws.proofs.Waiting.{accepted}

abbrev With : ℕ → Told → List Line → List Line
With n x older = record { number = n; told = x } ∷ older

-- the instance was granted to this call, of its own site
pub record GrantIs (t : List Line) (e : EpochId) (i : Serial) (g : CallId) : Type 0 where
  pub request : ℕ
  pub mode : Mode
  pub file : FileId
  pub stamp : Option Stamp
  pub place : ℕ
  pub was_granted : WasGranted t e g request i mode file stamp place
  pub inside : IsCallIn (entries t) e g
  pub us_is : i.us ≡ g.site

grant_more : (c : Config) (n : ℕ) (x : Told) (older : List Line) (e : EpochId) (i : Serial) (g : CallId) → IsFollowed c older → MayTell c older x → GrantIs older e i g → GrantIs (With n x older) e i g
grant_more c n x older e i g h may k = record { request = k.request; mode = k.mode; file = k.file; stamp = k.stamp; place = k.place; was_granted = inr k.was_granted; inside = in_stays c n x older e g h may k.inside; us_is = k.us_is }

pub granted_is : (c : Config) (t : List Line) → IsFollowed c t → (e : EpochId) (i : Serial) (g : CallId) → granted_to (entries t) e i ≡ Some g → GrantIs t e i g
granted_is c [] h e i g k = absurd (none_some g k)
granted_is c (y ∷ older) h e i g k = over y.told h.0 (λ z. granted_is c older h.1 e i g z) k
  where
    over : (x : Told) → MayTell c older x → (granted_to (entries older) e i ≡ Some g → GrantIs older e i g) → granted_to (onto_entries y.number x (entries older)) e i ≡ Some g → GrantIs (With y.number x older) e i g
    over (Shown (says.Grant at d request inst m f stamp ss)) may later k = at_it (same_epoch at e) (same_serial inst i) refl refl k
      where
        r : Record
        r = says.Grant at d request inst m f stamp ss

        own : d ≡ g → at ≡ e → inst ≡ i → GrantIs (With y.number (Shown r) older) e i g
        own same there is = record {
          request = request;
          mode = m;
          file = f;
          stamp = stamp;
          place = ss;
          was_granted = inl (record { epoch_is = there; call_is = same; request_is = refl; serial_is = is; mode_is = refl; file_is = refl; stamp_is = refl; place_is = refl });
          inside = in_stays c y.number (Shown r) older e g h.1 may (subst (λ (z : EpochId). IsCallIn (entries older) z g) there (subst (IsCallIn (entries older) at) same may.row.opens.step));
          us_is = ap (λ (j : Serial). j.us) (sym is) ∙ (may.in_time.opens.user_is ∙ ap (λ (z : CallId). z.site) same);
        }

        at_it : (a b : Bool) → same_epoch at e ≡ a → same_serial inst i ≡ b → cond (a && b) (Some d) (granted_to (entries older) e i) ≡ Some g → GrantIs (With y.number (Shown r) older) e i g
        at_it true true p q z = own (some_same d g z) (same_epoch_eq at e p) (same_serial_eq inst i q)
        at_it true false p q z = grant_more c y.number (Shown r) older e i g h.1 may (later z)
        at_it false b p q z = grant_more c y.number (Shown r) older e i g h.1 may (later z)
    over (Shown r) may later k = grant_more c y.number (Shown r) older e i g h.1 may (later k)
    over x may later k = grant_more c y.number x older e i g h.1 may (later k)

-- an instance is one of the site of whoever uses it
pub user_us : (c : Config) (t : List Line) → IsFollowed c t → (e : EpochId) (i : Serial) (d : CallId) → IsUser (entries t) e i d → i.us ≡ d.site
user_us c t h e i d u = (granted_is c t h e i u.for.granted u.for.is_granted).us_is ∙ (sym ((accepted c t h).named u.for.granted u.for.caller u.for.named).site_is ∙ u.for.site_is)

pub held_us : (c : Config) (t : List Line) → IsFollowed c t → (d : CallId) (i : Serial) → IsHeldBy t d i → i.us ≡ d.site
held_us c t h d i k = over k.held
  where
    over : (granted_to (entries t) k.epoch i ≡ Some d) ⊎ IsUser (entries t) k.epoch i d → i.us ≡ d.site
    over (inl g) = (granted_is c t h k.epoch i d g).us_is
    over (inr u) = user_us c t h k.epoch i d u

-- what was released was named
pub released_named : (c : Config) (t : List Line) → IsFollowed c t → (e : EpochId) (i : Serial) → WasReleased t e i → WasNamed t e i
released_named c [] h e i k = absurd k
released_named c (y ∷ older) h e i (inr k) = inr (released_named c older h.1 e i k)
released_named c (y ∷ older) h e i (inl k) = over y.told h.0 k
  where
    over : (x : Told) → MayTell c older x → Printed (EndRecord e i) older x → WasNamed (With y.number x older) e i
    over (Shown (says.Release at inst f stamp)) may z = inr (subst (λ (j : Serial). WasNamed older e j) z.serial_is (subst (λ (w : EpochId). WasNamed older w inst) z.epoch_is (open_named c older at inst may.in_time.at may.in_time.open_at.found)))
    over _ may z = absurd z
