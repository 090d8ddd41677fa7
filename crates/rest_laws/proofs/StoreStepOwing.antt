-- An open instance that is only read owes no version: nobody asks it to be changed.
use Rattle.std.proofs.Common.{◌≡◌, ℕ, Bool, true, false, ◌&&◌, List, [], ◌∷◌, Option, Some, None, refl, sym, ◌∙◌, ap, subst, ◌⊎◌, inl, inr}
use Rattle.std.specs.Option.{is_none}
use Rattle.role_steps.proofs.of_plain_facts.Options.{none_some, some_same}
use Rattle.role_steps.proofs.of_plain_facts.Tests.{false_unless, true_false}
use Rattle.locus_ids.specs.declared.config.Config.{Config}
use Rattle.locus_ids.specs.declared.ids.EpochId.{EpochId}
use Rattle.locus_ids.specs.declared.ids.Mode.{Mode}
use Rattle.locus_ids.specs.declared.ids.Mode.TheVariants as mode
use Rattle.locus_ids.specs.declared.ids.Serial.{Serial}
use Rattle.commit_graph.specs.Grants.{is_read}
use Rattle.commit_graph.specs.declared.history.Version.{Version}
use Rattle.trace_book.specs.declared.operation.Op.{Op}
use Rattle.trace_book.specs.declared.operation.Op.TheVariants as op
use Rattle.trace_book.specs.declared.operation.Outcome.{Outcome}
use Rattle.trace_book.specs.declared.record.Record.{Record}
use Rattle.trace_book.specs.declared.record.Record.TheVariants as says
use Rattle.file_effects.specs.Effects.{As, Effect, effect}
use Rattle.file_effects.specs.Works.{begins_owing, operated}
use Rattle.file_effects.specs.declared.work.Work.{Work}
use Rattle.role_steps.specs.OperationEffects.{Mending}
use Rattle.role_steps.specs.Views.{Told, Shown}
use Rattle.the_run.specs.Worlds.{Line}
use Rattle.store_laws.specs.of_site_laws.Locks.Writing.{changes}
use Rattle.store_laws.proofs.of_site_laws.Makes.RunningCounting.{CountsNot, effect_not, operated_owes}
use Rattle.tree_model.specs.declared.instance.Instance.{Instance}
use Rattle.tree_model.specs.Histories.{history}
use Rattle.tree_model.specs.State.{TreeState}
use Rattle.tree_model.specs.Tree.{grant_of, opened, tree_of}
use Rattle.tree_model.specs.Working.{operated_by, work_after}
use Rattle.lawful_trace.specs.TreeRows.{IsCallIn, granted_group}
use Rattle.tree_laws.specs.Following.{IsFollowed, MayTell}
use Rattle.tree_laws.specs.Instances.{instance_now}
use Rattle.tree_laws.specs.Past.{NamingRecord, Printed, WasNamed}
use Rattle.tree_laws.specs.Printed.{entries}
use Rattle.tree_laws.proofs.Grants.{Had, before_record, in_tree_named, open_named}
use Rattle.tree_laws.proofs.Kinship.{Ends, GoesOnTold, StaysOpen, open_stays}
use Rattle.tree_laws.proofs.Opened.{ActsOn, CommitsOn, GrantsIt}
use Rattle.store_laws.proofs.of_tree_laws.Orders.ProcessOpen.{granted_begins}
use Rattle.store_laws.proofs.Holdings.Released.{released_shut}
use Rattle.store_laws.proofs.AnswerDone.{open_before}
use Rattle.rest_laws.proofs.StoreStepAsking.{changed_open}

-- ---- an operation that changes nothing ----

read_owes : (m : Mode) → is_read m ≡ true → begins_owing m ≡ false
read_owes mode.Read e = refl
read_owes mode.Write e = refl
read_owes mode.Resolve e = absurd (true_false (sym e))
read_owes mode.Mend e = refl
read_owes mode.Make e = absurd (true_false (sym e))

effect_clean : (e : Option Effect) (r : Outcome) (w : Work) → CountsNot e → w.owes ≡ false → (operated_by r e w).owes ≡ false
effect_clean None r w not clean = clean
effect_clean (Some e) r w not clean = false_unless (operated e r w).owes (operated_owes e r w ⊥ (λ k. true_false (sym k ∙ clean)) (λ k. true_false (sym k ∙ not)))

nothing_brought : Mending
nothing_brought = record { contents = []; kept = [] }

as_not : (o : Op) (content : List ℕ) → changes o ≡ false → CountsNot (effect (As o) content)
as_not (op.Probe name) content e = effect_not (op.Probe name) [] nothing_brought content e
as_not (op.Find component) content e = effect_not (op.Find component) [] nothing_brought content e
as_not op.Empty content e = effect_not op.Empty [] nothing_brought content e
as_not (op.Read at len) content e = effect_not (op.Read at len) [] nothing_brought content e
as_not op.Commit content e = tt
as_not op.Abort content e = tt
as_not op.Mend content e = tt
as_not (op.Remove name ino) content e = tt
as_not (op.Insert name ino kind) content e = absurd (true_false e)
as_not (op.Rename component name) content e = absurd (true_false e)
as_not (op.Write at bytes) content e = absurd (true_false e)
as_not (op.Cut len) content e = absurd (true_false e)

acted_clean : (h : List Version) (t : TreeState) (o : Op) (r : Outcome) (x : Instance) → changes o ≡ false → is_read x.grant.mode ≡ true → x.work.owes ≡ false → (work_after h t o r x).owes ≡ false
acted_clean h t op.Commit r x e read clean = clean
acted_clean h t op.Abort r x e read clean = ap (λ (b : Bool). b && is_none x.work.committed) (read_owes x.grant.mode read)
acted_clean h t (op.Probe name) r x e read clean = effect_clean (effect (As (op.Probe name)) x.work.content) r x.work (as_not (op.Probe name) x.work.content e) clean
acted_clean h t (op.Find component) r x e read clean = effect_clean (effect (As (op.Find component)) x.work.content) r x.work (as_not (op.Find component) x.work.content e) clean
acted_clean h t op.Empty r x e read clean = effect_clean (effect (As op.Empty) x.work.content) r x.work (as_not op.Empty x.work.content e) clean
acted_clean h t (op.Read at len) r x e read clean = effect_clean (effect (As (op.Read at len)) x.work.content) r x.work (as_not (op.Read at len) x.work.content e) clean
acted_clean h t op.Mend r x e read clean = absurd (true_false e)
acted_clean h t (op.Remove name ino) r x e read clean = absurd (true_false e)
acted_clean h t (op.Insert name ino kind) r x e read clean = absurd (true_false e)
acted_clean h t (op.Rename component name) r x e read clean = absurd (true_false e)
acted_clean h t (op.Write at bytes) r x e read clean = absurd (true_false e)
acted_clean h t (op.Cut len) r x e read clean = absurd (true_false e)

-- ---- line by line ----

module _ (c : Config) (older : List Line) (n : ℕ) (h : IsFollowed c older) (e : EpochId) (i : Serial) where
  -- an instance that was open goes on
  goes_clean : (z : Told) → MayTell c older z → (old new : Instance) → instance_now c older e i ≡ Some old → GoesOnTold c older e i old new z → is_read old.grant.mode ≡ true → old.work.owes ≡ false → new.work.owes ≡ false
  goes_clean (Shown r) may old new found (inl same) read clean = ap (λ (y : Instance). y.work.owes) same ∙ clean
  goes_clean (Shown r) may old new found (inr (inl acts)) read clean = over r may acts
    where
      over : (r : Record) → MayTell c older (Shown r) → ActsOn (history c (entries older)) (tree_of c e (granted_group (entries older) e i) (entries older)) e i old new r → new.work.owes ≡ false
      over (says.Act at inst number o result) may a = ap (λ (y : Instance). y.work.owes) a.1 ∙ acted_clean (history c (entries older)) (tree_of c e (granted_group (entries older) e i) (entries older)) o result old (false_unless (changes o) (λ k. true_false (sym read ∙ wrote k))) read clean
        where
          inside : IsCallIn (entries older) at may.in_time.call
          inside = subst (IsCallIn (entries older) at) (some_same may.row.step.call may.in_time.call (sym may.row.step.owned ∙ may.in_time.owner)) may.row.step.step

          wrote : changes o ≡ true → is_read old.grant.mode ≡ false
          wrote k = changed_open c older h at may.in_time.call inst o old inside may.in_time.asks k (subst (λ (j : Serial). instance_now c older at j ≡ Some old) (sym a.0.1) (subst (λ (y : EpochId). instance_now c older y i ≡ Some old) (sym a.0.0) found))
      over _ may a = absurd a
  goes_clean (Shown r) may old new found (inr (inr commits)) read clean = over r commits
    where
      over : (r : Record) → CommitsOn (tree_of c e (granted_group (entries older) e i) (entries older)) old new r → new.work.owes ≡ false
      over (says.Commit f s stamp parents content) k = ap (λ (y : Instance). y.work.owes) k.2
      over _ k = absurd k
  goes_clean z may old new found same read clean = ap (λ (y : Instance). y.work.owes) same ∙ clean

  ended : (z : Told) → MayTell c older z → (x : Instance) → instance_now c (record { number = n; told = z } ∷ older) e i ≡ Some x → Ends e i z → ⊥
  ended (Shown (says.Release at inst f stamp)) may x found end = released_shut c (record { number = n; told = Shown (says.Release at inst f stamp) } ∷ older) (may, h) e i x (inl (record { epoch_is = end.0; serial_is = end.1 })) found
  ended _ may x found end = absurd end

  stays_clean : (z : Told) → MayTell c older z → (x : Instance) → instance_now c (record { number = n; told = z } ∷ older) e i ≡ Some x → is_read x.grant.mode ≡ true → WasNamed older e i → ((y : Instance) → instance_now c older e i ≡ Some y → is_read y.grant.mode ≡ true → y.work.owes ≡ false) → x.work.owes ≡ false
  stays_clean z may x found read named before =
      let was : (old : Instance) × (instance_now c older e i ≡ Some old) = open_before c n z older h may e i x named found in
      over was.0 was.1 (open_stays c older n z e i was.0 may named was.1)
    where
      over : (old : Instance) → instance_now c older e i ≡ Some old → StaysOpen c older n z e i old ⊎ Ends e i z → x.work.owes ≡ false
      over old was (inl s) =
          let it : s.new ≡ x = some_same s.new x (sym s.found ∙ found) in
          let reads : is_read old.grant.mode ≡ true = ap (λ (g : _). is_read g.mode) (sym s.grant_same) ∙ (ap (λ (y : Instance). is_read y.grant.mode) it ∙ read) in
          ap (λ (y : Instance). y.work.owes) (sym it) ∙ goes_clean z may old s.new was s.goes reads (before old was reads)
      over old was (inr end) = absurd (ended z may x found end)

  -- or it is as it was granted
  granted_clean : (z : Told) → MayTell c older z → (x : Instance) → instance_now c (record { number = n; told = z } ∷ older) e i ≡ Some x → is_read x.grant.mode ≡ true → Printed (NamingRecord e i) older z → x.work.owes ≡ false
  granted_clean (Shown r) may x found read k = over r may found k
    where
      over : (r : Record) → MayTell c older (Shown r) → instance_now c (record { number = n; told = Shown r } ∷ older) e i ≡ Some x → NamingRecord e i older r → x.work.owes ≡ false
      over (says.Grant at it request inst m f stamp ss) may found k =
          let made : Instance = opened (history c (entries older)) (grant_of (tree_of c at f.group (entries older)) it inst m f ss) stamp in
          let same : made ≡ x = some_same made x (sym (granted_begins c n older at it request inst m f stamp ss may) ∙ subst (λ (j : Serial). instance_now c (record { number = n; told = Shown (says.Grant at it request inst m f stamp ss) } ∷ older) at j ≡ Some x) (sym k.serial_is)
          (subst (λ (y : EpochId). instance_now c (record { number = n; told = Shown (says.Grant at it request inst m f stamp ss) } ∷ older) y i ≡ Some x) (sym k.epoch_is) found)) in
          ap (λ (y : Instance). y.work.owes) (sym same) ∙ read_owes m (ap (λ (y : Instance). is_read y.grant.mode) same ∙ read)
      over (says.Refuse at it request inst m f why) may found k = absurd (may.in_time.new (subst (WasNamed older at) (sym k.serial_is) (subst (λ (y : EpochId). WasNamed older y i) (sym k.epoch_is)
          (had (before_record (history c (entries older)) (tree_of c e (granted_group (entries older) e i) (entries older)) i x (says.Refuse at it request inst m f why) found)))))
        where
          had : Had i (tree_of c e (granted_group (entries older) e i) (entries older)).instances ⊎ GrantsIt (tree_of c e (granted_group (entries older) e i) (entries older)).epoch i (says.Refuse at it request inst m f why) → WasNamed older e i
          had (inl y) = in_tree_named c e (granted_group (entries older) e i) i older y.0 y.1
          had (inr y) = absurd y
      over _ may found k = absurd k
  granted_clean _ may x found read k = absurd k

pub reader_clean : (c : Config) (t : List Line) → IsFollowed c t → (e : EpochId) (i : Serial) (x : Instance) → instance_now c t e i ≡ Some x → is_read x.grant.mode ≡ true → x.work.owes ≡ false
reader_clean c [] h e i x found read = absurd (none_some x found)
reader_clean c (y ∷ older) h e i x found read = over (λ z. reader_clean c older h.1 e i z) (open_named c (y ∷ older) e i x found)
  where
    over : ((z : Instance) → instance_now c older e i ≡ Some z → is_read z.grant.mode ≡ true → z.work.owes ≡ false) → Printed (NamingRecord e i) older y.told ⊎ WasNamed older e i → x.work.owes ≡ false
    over before (inl k) = granted_clean c older y.number h.1 e i y.told h.0 x found read k
    over before (inr named) = stays_clean c older y.number h.1 e i y.told h.0 x found read named before
