-- What is open was granted so, to a call.
use Rattle.std.proofs.Common.{◌≡◌, ℕ, ◌<◌, ◌≤◌, List, [], ◌∷◌, Option, Some, refl, sym, ap, ◌∙◌, subst, arith, ◌⊎◌, inl, inr}
use Rattle.tree_laws.proofs.of_plain_facts.Options.{none_some, some_same}
use Rattle.locus_ids.specs.declared.config.Config.{Config}
use Rattle.locus_ids.specs.declared.ids.CallId.{CallId}
use Rattle.locus_ids.specs.declared.ids.EpochId.{EpochId}
use Rattle.locus_ids.specs.declared.ids.FileId.{FileId}
use Rattle.locus_ids.specs.declared.ids.Mode.{Mode}
use Rattle.locus_ids.specs.declared.ids.Serial.{Serial}
use Rattle.locus_ids.specs.declared.ids.Stamp.{Stamp}
use Rattle.locus_ids.specs.Sizes.{sites_max}
use Rattle.trace_book.specs.declared.record.Record.{Record}
use Rattle.trace_book.specs.declared.record.Record.TheVariants as says
use Rattle.site_laws.specs.of_role_steps.Views.{Told, Shown}
use Rattle.tree_laws.specs.of_the_run.Worlds.{Line}
use Rattle.tree_model.specs.declared.instance.Granted.{Granted}
use Rattle.tree_model.specs.declared.instance.Instance.{Instance}
use Rattle.tree_model.specs.Histories.{history}
use Rattle.tree_model.specs.State.{instance_in}
use Rattle.tree_model.specs.Tree.{tree_of}
use Rattle.tree_laws.specs.of_lawful_trace.TreeRows.{IsCallIn}
use Rattle.tree_laws.specs.Following.{IsFollowed, MayTell}
use Rattle.tree_laws.specs.Instances.{instance_now}
use Rattle.tree_laws.specs.Past.{EndRecord, GrantRecord, Printed, WasGranted}
use Rattle.tree_laws.specs.Printed.{entries, onto_entries}
use Rattle.tree_laws.proofs.Grants.{Had, before_record}
use Rattle.tree_laws.proofs.Opened.{EndsIt, Found, GrantsIt, next_found}
use Rattle.tree_laws.proofs.Scripts.{in_stays}
use Rattle.tree_laws.proofs.Orders.Alone.{tree_named}
use Rattle.store_laws.proofs.Holdings.Begun.{Untouched, granted_open}
use Rattle.store_laws.proofs.Holdings.Distinct.{open_now}
use Rattle.store_laws.proofs.Holdings.Released.{released_shut}

-- it was granted so to this call
pub record GrantedSo (trace : List Line) (e : EpochId) (i : Serial) (g : Granted) : Type 0 where
  pub call : CallId
  pub request : ℕ
  pub stamp : Option Stamp
  pub was : WasGranted trace e call request i g.mode g.file stamp g.ss

later_so : (x : Line) (older : List Line) (e : EpochId) (i : Serial) (g : Granted) → GrantedSo older e i g → GrantedSo (x ∷ older) e i g
later_so x older e i g k = record { call = k.call; request = k.request; stamp = k.stamp; was = inr k.was }

module _ (c : Config) (older : List Line) (n : ℕ) (r : Record) (followed : IsFollowed c older) (may : MayTell c older (Shown r)) (e : EpochId) (group : ℕ) (i : Serial) (x : Instance) (now : instance_in (tree_of c e group (record { line = n; what = r } ∷ entries older)) i ≡ Some x) where
  -- under the name is one instance
  open_so : instance_now c (record { number = n; told = Shown r } ∷ older) e i ≡ Some x
  open_so = open_now c (record { number = n; told = Shown r } ∷ older) (may, followed) e group i x now

  -- a release would have taken it out
  unreleased : EndsIt (tree_of c e group (entries older)).epoch i r → ⊥
  unreleased ends = of r refl ends
    where
      of : (q : Record) → q ≡ r → EndsIt (tree_of c e group (entries older)).epoch i q → ⊥
      of (says.Release at inst f last) is k = released_shut c (record { number = n; told = Shown r } ∷ older) (may, followed) e i x
          (inl (subst (λ (y : Record). EndRecord e i older y) is (record { epoch_is = k.0 ∙ (tree_named c e group (entries older)).0; serial_is = k.1 }))) open_so
      of _ is k = absurd k

  so_before : ((y : Instance) → instance_in (tree_of c e group (entries older)) i ≡ Some y → GrantedSo older e i y.grant) → Had i (tree_of c e group (entries older)).instances → GrantedSo (record { number = n; told = Shown r } ∷ older) e i x.grant
  so_before old had = over (next_found (history c (entries older)) (tree_of c e group (entries older)) i had.0 r had.1)
    where
      over : Found (history c (entries older)) (tree_of c e group (entries older)) i had.0 r ⊎ EndsIt (tree_of c e group (entries older)).epoch i r → GrantedSo (record { number = n; told = Shown r } ∷ older) e i x.grant
      over (inl f) = subst (λ (g : Granted). GrantedSo (record { number = n; told = Shown r } ∷ older) e i g) (sym f.grant_same ∙ ap (λ (y : Instance). y.grant) (some_same f.new x (sym f.found ∙ now)))
          (later_so (record { number = n; told = Shown r }) older e i had.0.grant (old had.0 had.1))
      over (inr k) = absurd (unreleased k)

  so_now : GrantsIt (tree_of c e group (entries older)).epoch i r → GrantedSo (record { number = n; told = Shown r } ∷ older) e i x.grant
  so_now grants = of r refl grants
    where
      of : (q : Record) → r ≡ q → GrantsIt (tree_of c e group (entries older)).epoch i q → GrantedSo (record { number = n; told = Shown r } ∷ older) e i x.grant
      of (says.Grant at call number inst how file on place) is k = record {
        call = call;
        request = number;
        stamp = on;
        was = inl (subst (λ (y : Record). GrantRecord e call number i x.grant.mode x.grant.file on x.grant.ss older y) (sym is) (record {
          epoch_is = epoch_is;
          call_is = refl;
          request_is = refl;
          serial_is = k.1;
          mode_is = sym u.mode_is ∙ ap (λ (y : Instance). y.grant.mode) same;
          file_is = sym u.file_is ∙ ap (λ (y : Instance). y.grant.file) same;
          stamp_is = refl;
          place_is = sym u.open_at.place ∙ ap (λ (y : Instance). y.grant.ss) same;
        }));
      }
        where
          epoch_is : at ≡ e
          epoch_is = k.0 ∙ (tree_named c e group (entries older)).0

          u : Untouched c (record { number = n; told = Shown (says.Grant at call number inst how file on place) } ∷ older) at inst how file on place
          u = granted_open c older n followed at call number inst how file on place (subst (λ (y : Record). MayTell c older (Shown y)) is may)

          same : u.at ≡ x
          same = some_same u.at x (sym u.open_at.found ∙ subst (λ (y : Record). instance_now c (record { number = n; told = Shown y } ∷ older) at inst ≡ Some x) is
              (subst (λ (z : EpochId). instance_now c (record { number = n; told = Shown r } ∷ older) z inst ≡ Some x) (sym epoch_is) (subst (λ (z : Serial). instance_now c (record { number = n; told = Shown r } ∷ older) e z ≡ Some x) (sym k.1) open_so)))
      of _ is k = absurd k

pub open_granted : (c : Config) (trace : List Line) → IsFollowed c trace → (e : EpochId) (group : ℕ) (i : Serial) (x : Instance) → instance_in (tree_of c e group (entries trace)) i ≡ Some x → GrantedSo trace e i x.grant
open_granted c [] followed e group i x k = absurd (none_some x k)
open_granted c (y ∷ older) followed e group i x k = over y.told followed.0 (λ z. open_granted c older followed.1 e group i z) k
  where
    over : (z : Told) → MayTell c older z → ((w : Instance) → instance_in (tree_of c e group (entries older)) i ≡ Some w → GrantedSo older e i w.grant) → instance_in (tree_of c e group (onto_entries y.number z (entries older))) i ≡ Some x → GrantedSo (record { number = y.number; told = z } ∷ older) e i x.grant
    over (Shown r) may old k = which (before_record (history c (entries older)) (tree_of c e group (entries older)) i x r k)
      where
        which : Had i (tree_of c e group (entries older)).instances ⊎ GrantsIt (tree_of c e group (entries older)).epoch i r → GrantedSo (record { number = y.number; told = Shown r } ∷ older) e i x.grant
        which (inl had) = so_before c older y.number r followed.1 may e group i x k old had
        which (inr grants) = so_now c older y.number r followed.1 may e group i x k grants
    over z may old k = later_so (record { number = y.number; told = z }) older e i x.grant (old x k)

-- its user is the site of the call, which was accepted in the epoch
granted_user : (c : Config) (trace : List Line) → IsFollowed c trace → (e : EpochId) (d : CallId) (request : ℕ) (i : Serial) (m : Mode) (f : FileId) (stamp : Option Stamp) (ss : ℕ) → WasGranted trace e d request i m f stamp ss → (i.us ≡ d.site) × IsCallIn (entries trace) e d
granted_user c [] followed e d request i m f stamp ss k = absurd k
granted_user c (x ∷ older) followed e d request i m f stamp ss (inr k) = (let w = granted_user c older followed.1 e d request i m f stamp ss k in (w.0, in_stays c x.number x.told older e d followed.1 followed.0 w.1))
granted_user c (x ∷ older) followed e d request i m f stamp ss (inl k) = over x.told followed.0 k
  where
    of : (r : Record) → MayTell c older (Shown r) → GrantRecord e d request i m f stamp ss older r → (i.us ≡ d.site) × IsCallIn (record { line = x.number; what = r } ∷ entries older) e d
    of (says.Grant at call number inst how file on place) may k = (
      ap (λ (j : Serial). j.us) (sym k.serial_is) ∙ (may.in_time.opens.user_is ∙ ap (λ (y : CallId). y.site) k.call_is),
      in_stays c x.number (Shown (says.Grant at call number inst how file on place)) older e d followed.1 may (subst (λ (y : EpochId). IsCallIn (entries older) y d) k.epoch_is (subst (λ (y : CallId). IsCallIn (entries older) at y) k.call_is may.row.opens.step)),
    )
    of _ may k = absurd k

    over : (y : Told) → MayTell c older y → Printed (GrantRecord e d request i m f stamp ss) older y → (i.us ≡ d.site) × IsCallIn (onto_entries x.number y (entries older)) e d
    over (Shown r) may k = of r may k
    over _ may k = absurd k

pub open_user : (c : Config) (trace : List Line) → IsFollowed c trace → ((e : EpochId) (d : CallId) → IsCallIn (entries trace) e d → d.site ≤ sites_max) → (e : EpochId) (group : ℕ) (i : Serial) (x : Instance) → instance_in (tree_of c e group (entries trace)) i ≡ Some x → i.us < 256
open_user c trace followed sites e group i x k = low i.us so.call.site user.0 (sites e so.call user.1)
  where
    so : GrantedSo trace e i x.grant
    so = open_granted c trace followed e group i x k

    user : (i.us ≡ so.call.site) × IsCallIn (entries trace) e so.call
    user = granted_user c trace followed e so.call so.request i x.grant.mode x.grant.file so.stamp x.grant.ss so.was

    low : (m n : ℕ) → m ≡ n → n ≤ sites_max → m < 256
    low m n p q = omega (arith, p, q)
