-- What each line keeps of an open instance holds of it: it is granted, and goes on by its own operations and commits.
use Rattle.std.proofs.Common.{◌≡◌, ℕ, Bool, true, false, List, [], ◌∷◌, Option, Some, refl, sym, ◌∙◌, subst, ◌⊎◌, inl, inr}
use Rattle.role_steps.proofs.of_plain_facts.Options.{none_some, some_same}
use Rattle.role_steps.proofs.of_plain_facts.Tests.{true_false}
use Rattle.locus_ids.specs.declared.config.Config.{Config}
use Rattle.locus_ids.specs.declared.ids.CallId.{CallId}
use Rattle.locus_ids.specs.declared.ids.EpochId.{EpochId}
use Rattle.locus_ids.specs.declared.ids.FileId.{FileId}
use Rattle.locus_ids.specs.declared.ids.Mode.{Mode}
use Rattle.locus_ids.specs.declared.ids.Serial.{Serial}
use Rattle.locus_ids.specs.declared.ids.Stamp.{Stamp}
use Rattle.trace_book.specs.Same.{same_epoch, same_serial}
use Rattle.trace_book.specs.declared.operation.Op.{Op}
use Rattle.trace_book.specs.declared.operation.Outcome.{Outcome}
use Rattle.trace_book.specs.declared.record.Record.{Record}
use Rattle.trace_book.specs.declared.record.Record.TheVariants as says
use Rattle.role_steps.specs.Views.{Told, Shown}
use Rattle.the_run.specs.Worlds.{Line}
use Rattle.tree_model.specs.declared.instance.Instance.{Instance}
use Rattle.tree_model.specs.Histories.{history}
use Rattle.tree_model.specs.State.{TreeState, is_writer}
use Rattle.tree_model.specs.Tree.{grant_of, once_acted, once_committed, opened, tree_of}
use Rattle.lawful_trace.specs.TreeRows.{granted_group}
use Rattle.tree_laws.specs.Following.{IsFollowed, MayTell}
use Rattle.tree_laws.specs.Instances.{instance_now}
use Rattle.tree_laws.specs.Past.{EndRecord, Printed}
use Rattle.tree_laws.specs.Printed.{entries}
use Rattle.tree_laws.proofs.Grants.{Had, before_record, open_named}
use Rattle.tree_laws.proofs.Kinship.{Ends, GoesOnTold, StaysOpen, open_stays, tree_epoch_is}
use Rattle.tree_laws.proofs.Names.{same_epoch_eq, same_serial_eq, same_epoch_own, same_serial_own}
use Rattle.tree_laws.proofs.Opened.{ActsOn, CommitsOn, GrantsIt}
use Rattle.tree_laws.proofs.Orders.ProcessCounted.{acts_now}
use Rattle.tree_laws.proofs.Orders.ProcessOpen.{granted_begins}
use Rattle.store_laws.proofs.Holdings.Distinct.{open_now}
use Rattle.store_laws.proofs.Holdings.Released.{released_shut}
use Rattle.store_laws.proofs.AnswerDone.{open_grant}

abbrev With : ℕ → Told → List Line → List Line
With n x older = record { number = n; told = x } ∷ older

-- the record names the instance of the epoch by an operation or a grant
abbrev pub IsApart : EpochId → Serial → Record → Type 0
IsApart e i (says.Act at inst n o result) = at ≡ e → inst ≡ i → ⊥
IsApart e i (says.Grant at call request inst m f stamp ss) = at ≡ e → inst ≡ i → ⊥
IsApart e i _ = Unit {0}

abbrev pub IsApartTold : EpochId → Serial → Told → Type 0
IsApartTold e i (Shown r) = IsApart e i r
IsApartTold e i _ = Unit {0}

module _ (c : Config) (e : EpochId) (i : Serial) (Q : List Line → Instance → Type 0) where
  abbrev tree_before : List Line → TreeState
  tree_before older = tree_of c e (granted_group (entries older) e i) (entries older)

  -- so it is of the instance as it is granted, and after each line that is told
  pub record Keeps : Type 0 where
    pub grants : (n : ℕ) (older : List Line) (at : EpochId) (d : CallId) (request : ℕ) (inst : Serial) (m : Mode) (f : FileId) (stamp : Option Stamp) (ss : ℕ) → IsFollowed c older → MayTell c older (Shown (says.Grant at d request inst m f stamp ss)) → at ≡ e → inst ≡ i →
        Q (With n (Shown (says.Grant at d request inst m f stamp ss)) older) (opened (history c (entries older)) (grant_of (tree_of c at f.group (entries older)) d inst m f ss) stamp)
    pub acts : (n : ℕ) (older : List Line) (at : EpochId) (inst : Serial) (number : ℕ) (o : Op) (result : Outcome) (old : Instance) → IsFollowed c older → MayTell c older (Shown (says.Act at inst number o result)) → at ≡ e → inst ≡ i → instance_now c older e i ≡ Some old → Q older old →
        Q (With n (Shown (says.Act at inst number o result)) older) (once_acted (history c (entries older)) (tree_of c at (granted_group (entries older) at inst) (entries older)) o result old)
    pub commits : (n : ℕ) (older : List Line) (f : FileId) (s : ℕ) (stamp : Stamp) (parents : List Stamp) (content : List ℕ) (old : Instance) → IsFollowed c older → MayTell c older (Shown (says.Commit f s stamp parents content)) → instance_now c older e i ≡ Some old → is_writer f s old ≡ true → Q older old →
        Q (With n (Shown (says.Commit f s stamp parents content)) older) (once_committed stamp old)
    pub stays : (n : ℕ) (x : Told) (older : List Line) (old : Instance) → IsFollowed c older → MayTell c older x → IsApartTold e i x → instance_now c older e i ≡ Some old → Q older old → Q (With n x older) old

  module _ (k : Keeps) (n : ℕ) (older : List Line) (h : IsFollowed c older) (before : (z : Instance) → instance_now c older e i ≡ Some z → Q older z) where
    -- it goes on by a line that names it by no operation
    goes : (y : Told) → MayTell c older y → IsApartTold e i y → (old new : Instance) → instance_now c older e i ≡ Some old → GoesOnTold c older e i old new y → Q (With n y older) new
    goes (Shown r) may apart old new is (inl same) = subst (Q (With n (Shown r) older)) (sym same) (k.stays n (Shown r) older old h may apart is (before old is))
    goes (Shown r) may apart old new is (inr (inl acts)) = over r apart acts
      where
        over : (z : Record) → IsApart e i z → ActsOn (history c (entries older)) (tree_before older) e i old new z → Q (With n (Shown r) older) new
        over (says.Act at inst number o result) other a = absurd (other a.0.0 a.0.1)
        over _ other a = absurd a
    goes (Shown r) may apart old new is (inr (inr commits)) = over r may commits
      where
        over : (z : Record) → MayTell c older (Shown z) → CommitsOn (tree_before older) old new z → Q (With n (Shown z) older) new
        over (says.Commit f s stamp parents content) m a = subst (Q (With n (Shown (says.Commit f s stamp parents content)) older)) (sym a.2) (k.commits n older f s stamp parents content old h m is a.1 (before old is))
        over _ m a = absurd a
    goes y may apart old new is same = subst (Q (With n y older)) (sym same) (k.stays n y older old h may apart is (before old is))

    ended : (y : Told) → Ends e i y → Printed (EndRecord e i) older y
    ended (Shown (says.Release at inst f stamp)) end = record { epoch_is = end.0; serial_is = end.1 }
    ended _ end = absurd end

    from : (y : Told) → MayTell c older y → IsApartTold e i y → (x : Instance) → instance_now c (With n y older) e i ≡ Some x → (old : Instance) → instance_now c older e i ≡ Some old → Q (With n y older) x
    from y may apart x found old is = over (open_stays c older n y e i old may (open_named c older e i old is) is)
      where
        over : StaysOpen c older n y e i old ⊎ Ends e i y → Q (With n y older) x
        over (inl s) = subst (Q (With n y older)) (some_same s.new x (sym s.found ∙ found)) (goes y may apart old s.new is s.goes)
        over (inr end) = absurd (released_shut c (With n y older) (may, h) e i x (inl (ended y end)) found)

    -- where the line doesn't grant it, it was open
    apart_line : (r : Record) → MayTell c older (Shown r) → IsApart e i r → (x : Instance) → instance_now c (With n (Shown r) older) e i ≡ Some x → Q (With n (Shown r) older) x
    apart_line r may apart x found = over (before_record (history c (entries older)) (tree_of c e (granted_group (record { line = n; what = r } ∷ entries older) e i) (entries older)) i x r found)
      where
        not_granted : (z : Record) → IsApart e i z → GrantsIt e i z → ⊥
        not_granted (says.Grant at d request inst m f stamp ss) other g = other g.0 g.1
        not_granted _ other g = g

        over : Had i (tree_of c e (granted_group (record { line = n; what = r } ∷ entries older) e i) (entries older)).instances ⊎ GrantsIt (tree_of c e (granted_group (record { line = n; what = r } ∷ entries older) e i) (entries older)).epoch i r → Q (With n (Shown r) older) x
        over (inl w) = from (Shown r) may apart x found w.0 (open_now c older h e (granted_group (record { line = n; what = r } ∷ entries older) e i) i w.0 w.1)
        over (inr g) = absurd (not_granted r apart (subst (λ (y : EpochId). GrantsIt y i r) (tree_epoch_is c e (granted_group (record { line = n; what = r } ∷ entries older) e i) (entries older)) g))

    -- the tests of names
    apart_by : (at : EpochId) (inst : Serial) → (same_epoch at e ≡ true → same_serial inst i ≡ true → ⊥) → at ≡ e → inst ≡ i → ⊥
    apart_by at inst h is same = h (subst (λ (z : EpochId). same_epoch at z ≡ true) is (same_epoch_own at)) (subst (λ (z : Serial). same_serial inst z ≡ true) same (same_serial_own inst))

    no_true : false ≡ true → ⊥
    no_true q = true_false (sym q)

    line : (y : Told) → MayTell c older y → (x : Instance) → instance_now c (With n y older) e i ≡ Some x → Q (With n y older) x
    line (Shown (says.Grant at d request inst m f stamp ss)) may x found = over (same_epoch at e) (same_serial inst i) refl refl
      where
        r : Record
        r = says.Grant at d request inst m f stamp ss

        over : (a b : Bool) → same_epoch at e ≡ a → same_serial inst i ≡ b → Q (With n (Shown (says.Grant at d request inst m f stamp ss)) older) x
        over true true p q = subst (Q (With n (Shown r) older)) (some_same _ x (sym began ∙ found)) (k.grants n older at d request inst m f stamp ss h may (same_epoch_eq at e p) (same_serial_eq inst i q))
          where
            began : instance_now c (With n (Shown r) older) e i ≡ Some (opened (history c (entries older)) (grant_of (tree_of c at f.group (entries older)) d inst m f ss) stamp)
            began = subst (λ (w : EpochId). instance_now c (With n (Shown r) older) w i ≡ Some (opened (history c (entries older)) (grant_of (tree_of c at f.group (entries older)) d inst m f ss) stamp)) (same_epoch_eq at e p)
                (subst (λ (j : Serial). instance_now c (With n (Shown r) older) at j ≡ Some (opened (history c (entries older)) (grant_of (tree_of c at f.group (entries older)) d inst m f ss) stamp)) (same_serial_eq inst i q) (granted_begins c n older at d request inst m f stamp ss may))
        over false b p q = apart_line r may (apart_by at inst (λ s. absurd (no_true (sym p ∙ s)))) x found
        over true false p q = apart_line r may (apart_by at inst (λ s t. no_true (sym q ∙ t))) x found
    line (Shown (says.Act at inst number o result)) may x found = over (same_epoch at e) (same_serial inst i) refl refl
      where
        r : Record
        r = says.Act at inst number o result

        old : Instance
        old = may.in_time.at

        over : (a b : Bool) → same_epoch at e ≡ a → same_serial inst i ≡ b → Q (With n (Shown (says.Act at inst number o result)) older) x
        over true true p q = subst (Q (With n (Shown r) older)) (some_same _ x (sym there ∙ found)) (k.acts n older at inst number o result old h may is same here (before old here))
          where
            is : at ≡ e
            is = same_epoch_eq at e p

            same : inst ≡ i
            same = same_serial_eq inst i q

            here : instance_now c older e i ≡ Some old
            here = subst (λ (w : EpochId). instance_now c older w i ≡ Some old) is (subst (λ (j : Serial). instance_now c older at j ≡ Some old) same may.in_time.open_at.found)

            there : instance_now c (With n (Shown r) older) e i ≡ Some (once_acted (history c (entries older)) (tree_of c at (granted_group (entries older) at inst) (entries older)) o result old)
            there = subst (λ (w : EpochId). instance_now c (With n (Shown r) older) w i ≡ Some (once_acted (history c (entries older)) (tree_of c at (granted_group (entries older) at inst) (entries older)) o result old)) is
                (subst (λ (j : Serial). instance_now c (With n (Shown r) older) at j ≡ Some (once_acted (history c (entries older)) (tree_of c at (granted_group (entries older) at inst) (entries older)) o result old)) same
                (acts_now c n older at inst number o result old.grant.call old h (open_grant c older h at (granted_group (entries older) at inst) inst old may.in_time.open_at.found) may.in_time.open_at.found))
        over false b p q = apart_line r may (apart_by at inst (λ s. absurd (no_true (sym p ∙ s)))) x found
        over true false p q = apart_line r may (apart_by at inst (λ s t. no_true (sym q ∙ t))) x found
    line (Shown r) may x found = apart_line r may tt x found
    line y may x found = from y may tt x found x found

  pub keeps : Keeps → (t : List Line) → IsFollowed c t → (x : Instance) → instance_now c t e i ≡ Some x → Q t x
  keeps k [] h x found = absurd (none_some x found)
  keeps k (y ∷ older) h x found = line k y.number older h.1 (λ z is. keeps k older h.1 z is) y.told h.0 x found
