-- What was granted is open until it is released; so what a call asks something of is open.
use Rattle.std.proofs.Common.{◌≡◌, ℕ, ◌==◌, Bool, true, false, cond, ◌&&◌, List, [], ◌∷◌, ◌++◌, Option, Some, None, refl, sym, ◌∙◌, ap, subst, ◌⊎◌, inl, inr}
use Rattle.std.specs.List.{find}
use Rattle.plain_facts.proofs.Numbers.{equal_self}
use Rattle.locus_ids.specs.declared.config.Config.{Config}
use Rattle.locus_ids.specs.declared.ids.CallId.{CallId}
use Rattle.locus_ids.specs.declared.ids.EpochId.{EpochId}
use Rattle.locus_ids.specs.declared.ids.FileId.{FileId}
use Rattle.locus_ids.specs.declared.ids.Mode.{Mode}
use Rattle.locus_ids.specs.declared.ids.Serial.{Serial}
use Rattle.locus_ids.specs.declared.ids.Stamp.{Stamp}
use Rattle.trace_book.specs.Same.{same_epoch, same_serial}
use Rattle.trace_book.specs.declared.record.Record.{Record}
use Rattle.trace_book.specs.declared.record.Record.TheVariants as says
use Rattle.call_rules.specs.declared.want.Want.{Want}
use Rattle.call_rules.specs.declared.want.Want.TheVariants as want
use Rattle.role_steps.specs.Views.{Told, Shown}
use Rattle.the_run.specs.Worlds.{Line}
use Rattle.tree_model.specs.declared.instance.Granted.{Granted}
use Rattle.tree_model.specs.declared.instance.Instance.{Instance}
use Rattle.tree_model.specs.Calls.{granted_to}
use Rattle.tree_model.specs.Histories.{history}
use Rattle.tree_model.specs.State.{TreeState, instance_in, is_named}
use Rattle.tree_model.specs.Tree.{next, tree_of, grant_of, opened}
use Rattle.lawful_trace.specs.TreeRows.{IsCallIn, granted_group}
use Rattle.tree_laws.specs.Printed.{entries}
use Rattle.tree_laws.specs.Calls.{Asks}
use Rattle.tree_laws.specs.Following.{MayTell, IsFollowed}
use Rattle.tree_laws.specs.Holding.{has_instances, IsOf}
use Rattle.tree_laws.specs.Instances.{instance_now}
use Rattle.tree_laws.specs.Past.{Printed, WasGranted, GrantRecord, EndRecord, WasReleased}
use Rattle.tree_laws.proofs.Awaiting.{IsHeldBy, all_have, held_named}
use Rattle.tree_laws.proofs.Grants.{in_tree_named, open_named}
use Rattle.tree_laws.proofs.Kinship.{StaysOpen, Ends, open_stays, tree_epoch_is, tree_group_is}
use Rattle.tree_laws.proofs.Names.{same_epoch_own, same_serial_own}
use Rattle.tree_laws.proofs.OfOwn.{asks_of_own}
use Rattle.tree_laws.specs.Orders.ProcessAsked.{AsksOf, IsOpenOf}
use Rattle.tree_laws.proofs.Orders.ProcessGranting.{GrantIs, granted_is, held_us}
use Rattle.tree_laws.proofs.Orders.ProcessUnreleased.{unreleased}

abbrev With : ℕ → Told → List Line → List Line
With n x older = record { number = n; told = x } ∷ older

-- the instance is open as it was granted
pub record OpenAs (c : Config) (t : List Line) (e : EpochId) (d : CallId) (i : Serial) (m : Mode) (f : FileId) (ss : ℕ) : Type 0 where
  pub at : Instance
  pub found : instance_now c t e i ≡ Some at
  pub call_is : at.grant.call ≡ d
  pub serial_is : at.grant.inst ≡ i
  pub mode_is : at.grant.mode ≡ m
  pub file_is : at.grant.file ≡ f
  pub place_is : at.grant.ss ≡ ss

pub find_last : {A : Type 0} (p : A → Bool) (xs : List A) (y : A) → find p xs ≡ None → p y ≡ true → find p (xs ++ y ∷ []) ≡ Some y
find_last p [] y e k = ap (λ (b : Bool). cond b (Some y) None) k
find_last {A} p (x ∷ xs) y e k = at (λ (m : find p xs ≡ None). find_last p xs y m k) (p x) e
  where
    none : (a : A) → ◌≡◌ {A = Option A} (Some a) None → ⊥
    none a e = cc

    at : (find p xs ≡ None → find p (xs ++ y ∷ []) ≡ Some y) → (b : Bool) → cond b (Some x) (find p xs) ≡ None → cond b (Some x) (find p (xs ++ y ∷ [])) ≡ Some y
    at later true m = absurd (none x m)
    at later false m = later m

-- the instance is as it was granted
pub granted_begins : (c : Config) (n : ℕ) (older : List Line) (e : EpochId) (call : CallId) (request : ℕ) (i : Serial) (m : Mode) (f : FileId) (stamp : Option Stamp) (ss : ℕ) → MayTell c older (Shown (says.Grant e call request i m f stamp ss)) → instance_now c (With n (Shown (says.Grant e call request i m f stamp ss)) older) e i ≡ Some (opened (history c (entries older)) (grant_of (tree_of c e f.group (entries older)) call i m f ss) stamp)
granted_begins c n older e call request i m f stamp ss may = found
  where
    r : Record
    r = says.Grant e call request i m f stamp ss

    t : TreeState
    t = tree_of c e f.group (entries older)

    g : Granted
    g = grant_of t call i m f ss

    new : find (is_named i) t.instances ≡ None
    new = over (find (is_named i) t.instances) refl
      where
        over : (o : Option Instance) → find (is_named i) t.instances ≡ o → find (is_named i) t.instances ≡ None
        over None k = k
        over (Some x) k = absurd (may.in_time.new (in_tree_named c e f.group i older x k))

    group : granted_group (entries (With n (Shown r) older)) e i ≡ f.group
    group = ap (λ (b : Bool). cond (b && same_serial i i) f.group (granted_group (entries older) e i)) (same_epoch_own e) ∙ ap (λ (b : Bool). cond b f.group (granted_group (entries older) e i)) (same_serial_own i)

    is_here : same_epoch e t.epoch ≡ true
    is_here = ap (same_epoch e) (tree_epoch_is c e f.group (entries older)) ∙ same_epoch_own e

    is_its : (f.group == t.group) ≡ true
    is_its = ap (λ (k : ℕ). f.group == k) (tree_group_is c e f.group (entries older)) ∙ equal_self f.group

    inside : find (is_named i) (next (history c (entries older)) r t).instances ≡ Some (opened (history c (entries older)) g stamp)
    inside = rw is_here (rw is_its (find_last (is_named i) t.instances (opened (history c (entries older)) g stamp) new (same_serial_own i)))

    found : instance_now c (With n (Shown r) older) e i ≡ Some (opened (history c (entries older)) g stamp)
    found = subst (λ (k : ℕ). instance_in (tree_of c e k (entries (With n (Shown r) older))) i ≡ Some (opened (history c (entries older)) g stamp)) (sym group) inside

granted_now : (c : Config) (n : ℕ) (older : List Line) (e : EpochId) (call : CallId) (request : ℕ) (i : Serial) (m : Mode) (f : FileId) (stamp : Option Stamp) (ss : ℕ) → MayTell c older (Shown (says.Grant e call request i m f stamp ss)) → OpenAs c (With n (Shown (says.Grant e call request i m f stamp ss)) older) e call i m f ss
granted_now c n older e call request i m f stamp ss may = record { at = opened (history c (entries older)) (grant_of (tree_of c e f.group (entries older)) call i m f ss) stamp; found = granted_begins c n older e call request i m f stamp ss may; call_is = refl; serial_is = refl; mode_is = refl; file_is = refl; place_is = refl }

granted_later : (c : Config) (n : ℕ) (x : Told) (older : List Line) (e : EpochId) (d : CallId) (i : Serial) (m : Mode) (f : FileId) (ss : ℕ) → MayTell c older x → (Printed (EndRecord e i) older x → ⊥) → OpenAs c older e d i m f ss → OpenAs c (With n x older) e d i m f ss
granted_later c n x older e d i m f ss may live k = over x may live (open_stays c older n x e i k.at may (open_named c older e i k.at k.found) k.found)
  where
    over : (x : Told) → MayTell c older x → (Printed (EndRecord e i) older x → ⊥) → StaysOpen c older n x e i k.at ⊎ Ends e i x → OpenAs c (With n x older) e d i m f ss
    over x may live (inl s) = record {
      at = s.new;
      found = s.found;
      call_is = ap (λ (g : Granted). g.call) s.grant_same ∙ k.call_is;
      serial_is = ap (λ (g : Granted). g.inst) s.grant_same ∙ k.serial_is;
      mode_is = ap (λ (g : Granted). g.mode) s.grant_same ∙ k.mode_is;
      file_is = ap (λ (g : Granted). g.file) s.grant_same ∙ k.file_is;
      place_is = ap (λ (g : Granted). g.ss) s.grant_same ∙ k.place_is;
    }
    over (Shown (says.Release at inst file last)) may live (inr end) = absurd (live (record { epoch_is = end.0; serial_is = end.1 }))
    over _ may live (inr end) = absurd end

pub granted_open : (c : Config) (t : List Line) → IsFollowed c t → (e : EpochId) (d : CallId) (request : ℕ) (i : Serial) (m : Mode) (f : FileId) (stamp : Option Stamp) (ss : ℕ) → WasGranted t e d request i m f stamp ss → (WasReleased t e i → ⊥) → OpenAs c t e d i m f ss
granted_open c [] h e d request i m f stamp ss was live = absurd was
granted_open c (y ∷ older) h e d request i m f stamp ss (inr was) live = granted_later c y.number y.told older e d i m f ss h.0 (λ k. live (inl k)) (granted_open c older h.1 e d request i m f stamp ss was (λ r. live (inr r)))
granted_open c (y ∷ older) h e d request i m f stamp ss (inl now) live = over y.told h.0 now
  where
    over : (x : Told) → MayTell c older x → Printed (GrantRecord e d request i m f stamp ss) older x → OpenAs c (With y.number x older) e d i m f ss
    over (Shown (says.Grant at call number inst mode file on place)) may p = moved (granted_now c y.number older at call number inst mode file on place may)
      where
        x : Told
        x = Shown (says.Grant at call number inst mode file on place)

        moved : OpenAs c (With y.number x older) at call inst mode file place → OpenAs c (With y.number x older) e d i m f ss
        moved k = record {
          at = k.at;
          found = subst (λ (z : EpochId). instance_now c (With y.number x older) z i ≡ Some k.at) p.epoch_is (subst (λ (j : Serial). instance_now c (With y.number x older) at j ≡ Some k.at) p.serial_is k.found);
          call_is = k.call_is ∙ p.call_is;
          serial_is = k.serial_is ∙ p.serial_is;
          mode_is = k.mode_is ∙ p.mode_is;
          file_is = k.file_is ∙ p.file_is;
          place_is = k.place_is ∙ p.place_is;
        }
    over _ may p = absurd p

-- ---- what is asked ----

open_of : (c : Config) (t : List Line) (e : EpochId) (d : CallId) (i : Serial) (w : Want) → IsFollowed c t → IsCallIn (entries t) e d → Asks c t d w → has_instances c t d i ≡ true → IsOpenOf c t e i d.site
open_of c t e d i w h inside asks has = record {
  us_is = held_us c t h d i held;
  granted = g.0;
  request = grant.request;
  mode = grant.mode;
  file = grant.file;
  stamp = grant.stamp;
  place = grant.place;
  was_granted = grant.was_granted;
  unreleased = live;
  at = k.at;
  found = k.found;
  call_is = k.call_is;
  serial_is = k.serial_is;
  mode_is = k.mode_is;
  file_is = k.file_is;
  place_is = k.place_is;
}
  where
    held : IsHeldBy t d i
    held = (all_have c t h).held d i (inside.accepted, inside.named) has

    g : (g : CallId) × (granted_to (entries t) e i ≡ Some g)
    g = held_named t d i e held inside

    grant : GrantIs t e i g.0
    grant = granted_is c t h e i g.0 g.1

    live : WasReleased t e i → ⊥
    live = unreleased c t e d w i h inside asks has

    k : OpenAs c t e g.0 i grant.mode grant.file grant.place
    k = granted_open c t h e g.0 grant.request i grant.mode grant.file grant.stamp grant.place grant.was_granted live

-- what a call asks something of is open
pub asked_open : (c : Config) (t : List Line) (e : EpochId) (d : CallId) (i : Serial) → IsFollowed c t → IsCallIn (entries t) e d → AsksOf c t d i → IsOpenOf c t e i d.site
asked_open c t e d i h inside (inl k) = open_of c t e d i (want.Do i k.0) h inside k.1 (subst (IsOf (has_instances c t d)) k.1.asked (asks_of_own c t d h (inside.accepted, inside.named)))
asked_open c t e d i h inside (inr k) = open_of c t e d i (want.Close i) h inside k (subst (IsOf (has_instances c t d)) k.asked (asks_of_own c t d h (inside.accepted, inside.named)))
