-- An instance that is open to write, and of which only the emptiness was asked, owes nothing and stands on the version of its grant.
use Rattle.std.proofs.Common.{◌≡◌, ℕ, ◌||◌, Bool, true, false, cond, List, [], ◌∷◌, Option, Some, None, refl, sym, ◌∙◌, ap, subst, ◌⊎◌, inl, inr}
use Rattle.role_steps.proofs.of_plain_facts.Options.{some_same}
use Rattle.role_steps.proofs.of_plain_facts.Tests.{true_false}
use Rattle.locus_ids.specs.declared.config.Config.{Config}
use Rattle.locus_ids.specs.declared.ids.CallId.{CallId}
use Rattle.locus_ids.specs.declared.ids.EpochId.{EpochId}
use Rattle.locus_ids.specs.declared.ids.FileId.{FileId}
use Rattle.locus_ids.specs.declared.ids.Mode.{Mode}
use Rattle.locus_ids.specs.declared.ids.Mode.TheVariants as mode
use Rattle.locus_ids.specs.declared.ids.Serial.{Serial}
use Rattle.locus_ids.specs.declared.ids.Stamp.{Stamp}
use Rattle.commit_graph.specs.declared.history.Version.{Version}
use Rattle.trace_book.specs.declared.operation.Op.{Op}
use Rattle.trace_book.specs.declared.operation.Op.TheVariants as op
use Rattle.trace_book.specs.declared.operation.Outcome.{Outcome}
use Rattle.trace_book.specs.declared.record.Record.{Record}
use Rattle.trace_book.specs.declared.record.Record.TheVariants as says
use Rattle.dir_format.specs.Contents.{entries_of, is_dir}
use Rattle.dir_format.specs.Effects.{empty_among, empty_effect}
use Rattle.dir_format.specs.Lookups.{shown_names}
use Rattle.file_effects.specs.Effects.{Effect, effect, As, is_refusal, on_directory}
use Rattle.file_effects.specs.Works.{begins_owing, carried_out, counted}
use Rattle.role_steps.specs.Views.{Told, Shown}
use Rattle.the_run.specs.Worlds.{Line}
use Rattle.tree_model.specs.declared.instance.Instance.{Instance}
use Rattle.tree_model.specs.Histories.{history}
use Rattle.tree_model.specs.State.{TreeState}
use Rattle.tree_model.specs.Tree.{grant_of, once_acted, opened, tree_of}
use Rattle.tree_model.specs.Working.{effect_on, operated_by}
use Rattle.lawful_trace.specs.TreeRows.{granted_group}
use Rattle.tree_laws.specs.Following.{IsFollowed, MayTell}
use Rattle.tree_laws.specs.Instances.{instance_now}
use Rattle.tree_laws.specs.Past.{EndRecord, GrantRecord, NamingRecord, Printed, WasDone, WasGranted, WasNamed}
use Rattle.tree_laws.specs.Printed.{entries}
use Rattle.tree_laws.proofs.CarriedOpens.{was_then}
use Rattle.tree_laws.proofs.Grants.{Had, before_record}
use Rattle.tree_laws.proofs.Kinship.{Ends, GoesOnTold, StaysOpen, open_stays, tree_epoch_is}
use Rattle.tree_laws.proofs.Opened.{ActsOn, CommitsOn, GrantsIt}
use Rattle.tree_laws.proofs.Owing.{commits_owe}
use Rattle.tree_laws.proofs.Orders.ProcessOpen.{granted_begins}
use Rattle.store_laws.proofs.Holdings.Distinct.{open_now}
use Rattle.store_laws.proofs.Holdings.Released.{released_shut}

abbrev With : ℕ → Told → List Line → List Line
With n x older = record { number = n; told = x } ∷ older

-- it owes nothing, and stands on this version
abbrev pub StandsOn : Option Stamp → Instance → Type 0
StandsOn stamp x = (x.work.owes ≡ false) × (x.work.last ≡ stamp)

-- ---- it was open before ----

-- an instance that was named and is open was open before the line
open_before : (c : Config) (n : ℕ) (x : Told) (older : List Line) → IsFollowed c older → MayTell c older x → (e : EpochId) (i : Serial) (new : Instance) → WasNamed older e i → instance_now c (With n x older) e i ≡ Some new → (old : Instance) × (instance_now c older e i ≡ Some old)
open_before c n x older h may e i new named found = over x may found
  where
    again : (r : Record) → MayTell c older (Shown r) → GrantsIt e i r → ⊥
    again (says.Grant at call request inst mode f stamp ss) m g = m.in_time.new (subst (λ (y : Serial). WasNamed older at y) (sym g.1) (subst (λ (y : EpochId). WasNamed older y i) (sym g.0) named))
    again _ m g = absurd g

    had : (r : Record) → MayTell c older (Shown r) → (g : ℕ) → Had i (tree_of c e g (entries older)).instances ⊎ GrantsIt (tree_of c e g (entries older)).epoch i r → (old : Instance) × (instance_now c older e i ≡ Some old)
    had r m g (inl w) = (w.0, open_now c older h e g i w.0 w.1)
    had r m g (inr w) = absurd (again r m (subst (λ (y : EpochId). GrantsIt y i r) (tree_epoch_is c e g (entries older)) w))

    over : (z : Told) → MayTell c older z → instance_now c (With n z older) e i ≡ Some new → (old : Instance) × (instance_now c older e i ≡ Some old)
    over (Shown r) m found = had r m (granted_group (record { line = n; what = r } ∷ entries older) e i)
        (before_record (history c (entries older)) (tree_of c e (granted_group (record { line = n; what = r } ∷ entries older) e i) (entries older)) i new r found)
    over z m found = (new, found)

-- ---- an emptiness that is asked ----

-- it counts as no change
empty_counts : (content : List ℕ) (e : Effect) → effect (As op.Empty) content ≡ Some e → e.counts ≡ false
empty_counts content e is = over (is_dir (empty_effect (entries_of content)).entries) (uncounted (shown_names (entries_of content))) is
  where
    uncounted : (names : List (List ℕ)) → (empty_among (entries_of content) names).counts ≡ false
    uncounted [] = refl
    uncounted (n ∷ ns) = refl

    none : ◌≡◌ {A = Option Effect} None (Some e) → ⊥
    none k = cc

    over : (b : Bool) → (empty_effect (entries_of content)).counts ≡ false → cond b (Some (on_directory content (empty_effect (entries_of content)))) None ≡ Some e → e.counts ≡ false
    over true same k = ap (λ (x : Effect). x.counts) (sym (some_same (on_directory content (empty_effect (entries_of content))) e k)) ∙ same
    over false same k = absurd (none k)

empty_acted : (h : List Version) (t : TreeState) (result : Outcome) (old : Instance) (stamp : Option Stamp) → StandsOn stamp old → StandsOn stamp (once_acted h t op.Empty result old)
empty_acted h t result old stamp k = over (effect_on h t op.Empty old) refl
  where
    or_false : (a b : Bool) → a ≡ false → b ≡ false → (a || b) ≡ false
    or_false true b p q = p
    or_false false b p q = q

    refused : (b : Bool) (e : Effect) → e.counts ≡ false → ((cond b (counted old.work) (carried_out e old.work)).owes ≡ false) × ((cond b (counted old.work) (carried_out e old.work)).last ≡ stamp)
    refused true e same = k
    refused false e same = (or_false old.work.owes e.counts k.0 same, k.1)

    over : (o : Option Effect) → effect_on h t op.Empty old ≡ o → ((operated_by result o old.work).owes ≡ false) × ((operated_by result o old.work).last ≡ stamp)
    over None is = k
    over (Some e) is = refused (is_refusal result) e (empty_counts old.work.content e is)

-- ---- line by line ----

-- only the emptiness was asked of it
abbrev OnlyEmpty : List Line → EpochId → Serial → Type 0
OnlyEmpty t e i = (n : ℕ) (o : Op) (r : Outcome) → WasDone t e i n o r → o ≡ op.Empty

module _ (c : Config) (n : ℕ) (older : List Line) (e : EpochId) (i : Serial) (stamp : Option Stamp) (old new : Instance) (found : instance_now c older e i ≡ Some old) (k : StandsOn stamp old) where
  acts_empty : (r : Record) → (OnlyEmpty (With n (Shown r) older) e i) → ActsOn (history c (entries older)) (tree_of c e (granted_group (entries older) e i) (entries older)) e i old new r → StandsOn stamp new
  acts_empty (says.Act at inst number o result) only a = subst (StandsOn stamp) (sym a.1)
      (subst (λ (y : Op). StandsOn stamp (once_acted (history c (entries older)) (tree_of c e (granted_group (entries older) e i) (entries older)) y result old)) (sym (only number o result (inl (record { epoch_is = a.0.0; serial_is = a.0.1; number_is = refl; operation_is = refl; result_is = refl }))))
      (empty_acted (history c (entries older)) (tree_of c e (granted_group (entries older) e i) (entries older)) result old stamp k))
  acts_empty _ only a = absurd a

  commits_none : (r : Record) → MayTell c older (Shown r) → CommitsOn (tree_of c e (granted_group (entries older) e i) (entries older)) old new r → ⊥
  commits_none (says.Commit f s at parents content) may a = true_false (sym ((commits_owe c older (Shown (says.Commit f s at parents content)) may).owes e i old found (a.0, a.1)) ∙ k.0)
  commits_none _ may a = a

  goes_clean : (x : Told) → MayTell c older x → OnlyEmpty (With n x older) e i → GoesOnTold c older e i old new x → StandsOn stamp new
  goes_clean (Shown r) may only (inl same) = subst (StandsOn stamp) (sym same) k
  goes_clean (Shown r) may only (inr (inl acts)) = acts_empty r only acts
  goes_clean (Shown r) may only (inr (inr commits)) = absurd (commits_none r may commits)
  goes_clean x may only same = subst (StandsOn stamp) (sym same) k

-- a grant names its instance
grant_names : (trace : List Line) (e : EpochId) (g : CallId) (request : ℕ) (i : Serial) (m : Mode) (f : FileId) (stamp : Option Stamp) (ss : ℕ) → WasGranted trace e g request i m f stamp ss → WasNamed trace e i
grant_names trace e g request i m f stamp ss was = was_then (Printed (GrantRecord e g request i m f stamp ss)) (Printed (NamingRecord e i)) names trace was
  where
    names : (older : List Line) (x : Told) → Printed (GrantRecord e g request i m f stamp ss) older x → Printed (NamingRecord e i) older x
    names older (Shown (says.Grant at call number inst mode file on place)) p = record { epoch_is = p.epoch_is; serial_is = p.serial_is }
    names older x p = absurd p

-- an instance open to write, of which only the emptiness was asked, owes nothing and stands on the version of its grant
pub untouched : (c : Config) (t : List Line) → IsFollowed c t → (e : EpochId) (g : CallId) (request : ℕ) (i : Serial) (f : FileId) (stamp : Option Stamp) (ss : ℕ) (x : Instance) → WasGranted t e g request i mode.Write f stamp ss → OnlyEmpty t e i → instance_now c t e i ≡ Some x → StandsOn stamp x
untouched c [] h e g request i f stamp ss x was only found = absurd was
untouched c (y ∷ older) h e g request i f stamp ss x (inr was) only found = over (open_before c y.number y.told older h.1 h.0 e i x named found) (λ z is. untouched c older h.1 e g request i f stamp ss z was (λ n o r done. only n o r (inr done)) is)
  where
    named : WasNamed older e i
    named = grant_names older e g request i mode.Write f stamp ss was

    ended : (z : Told) → Ends e i z → Printed (EndRecord e i) older z
    ended (Shown (says.Release at inst file last)) end = record { epoch_is = end.0; serial_is = end.1 }
    ended _ end = absurd end

    stays : (z : Instance) → instance_now c older e i ≡ Some z → StandsOn stamp z → StaysOpen c older y.number y.told e i z ⊎ Ends e i y.told → StandsOn stamp x
    stays z is clean (inl s) = subst (StandsOn stamp) (some_same s.new x (sym s.found ∙ found)) (goes_clean c y.number older e i stamp z s.new is clean y.told h.0 only s.goes)
    stays z is clean (inr ends) = absurd (released_shut c (y ∷ older) h e i x (inl (ended y.told ends)) found)

    over : (old : Instance) × (instance_now c older e i ≡ Some old) → ((z : Instance) → instance_now c older e i ≡ Some z → StandsOn stamp z) → StandsOn stamp x
    over (z, is) later = stays z is (later z is) (open_stays c older y.number y.told e i z h.0 named is)
untouched c (y ∷ older) h e g request i f stamp ss x (inl now) only found = over y.told h.0 now found
  where
    over : (z : Told) → MayTell c older z → Printed (GrantRecord e g request i mode.Write f stamp ss) older z → instance_now c (With y.number z older) e i ≡ Some x → StandsOn stamp x
    over (Shown (says.Grant at call number inst m file on place)) may p found = subst (StandsOn stamp) (some_same _ x (sym began ∙ found)) fresh
      where
        z : Told
        z = Shown (says.Grant at call number inst m file on place)

        it : Instance
        it = opened (history c (entries older)) (grant_of (tree_of c at file.group (entries older)) call inst m file place) on

        began : instance_now c (With y.number z older) e i ≡ Some it
        began = subst (λ (w : EpochId). instance_now c (With y.number z older) w i ≡ Some it) p.epoch_is (subst (λ (j : Serial). instance_now c (With y.number z older) at j ≡ Some it) p.serial_is (granted_begins c y.number older at call number inst m file on place may))

        fresh : StandsOn stamp it
        fresh = (ap begins_owing p.mode_is, p.stamp_is)
    over _ may p found = absurd p
