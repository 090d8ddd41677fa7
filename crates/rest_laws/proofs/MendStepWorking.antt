-- What a mend works on at its storage site: the contents of the kept versions of its directory, and the vectors of all that is kept.
use Rattle.std.proofs.Common.{◌≡◌, ℕ, ◌≤◌, ◌==◌, Bool, true, false, List, [], ◌∷◌, length, map, Option, Some, None, refl, sym, ◌∙◌, ap, subst, ◌⊎◌, inl, inr}
use Rattle.role_steps.proofs.of_plain_facts.Numbers.{equal, equal_self}
use Rattle.role_steps.proofs.of_plain_facts.Options.{some_same}
use Rattle.role_steps.proofs.of_plain_facts.Tests.{and_first, true_false}
use Rattle.locus_ids.specs.declared.config.Config.{Config}
use Rattle.locus_ids.specs.declared.ids.CallId.{CallId}
use Rattle.locus_ids.specs.declared.ids.EpochId.{EpochId}
use Rattle.locus_ids.specs.declared.ids.FileId.{FileId}
use Rattle.locus_ids.specs.declared.ids.Mode.TheVariants as mode
use Rattle.locus_ids.specs.declared.ids.Serial.{Serial}
use Rattle.locus_ids.specs.declared.ids.Stamp.{Stamp}
use Rattle.locus_ids.specs.Sizes.{sites_max}
use Rattle.commit_graph.specs.Versions.{content_of}
use Rattle.trace_book.specs.declared.call.Call.{Call}
use Rattle.trace_book.specs.declared.call.Call.TheVariants as call
use Rattle.trace_book.specs.declared.operation.Op.TheVariants as op
use Rattle.trace_book.specs.declared.record.Record.{Record}
use Rattle.trace_book.specs.declared.record.Record.TheVariants as says
use Rattle.call_rules.specs.declared.answer.Answer.{Answer}
use Rattle.call_rules.specs.declared.want.Want.TheVariants as want
use Rattle.role_steps.specs.Adoption.{table_group}
use Rattle.role_steps.specs.Mends.{brought_by, is_mend_in, mending, mends_in, vectors_of}
use Rattle.role_steps.specs.Reports.{stamp_made}
use Rattle.role_steps.specs.Requests.{waiting_key, waiting_of}
use Rattle.role_steps.specs.Storage.{instance_key, instance_of}
use Rattle.role_steps.specs.Tables.{first_that, row}
use Rattle.role_steps.specs.Using.{close_answer}
use Rattle.role_steps.specs.Views.{Frame, SiteView, Told, Shown, serial_key}
use Rattle.role_steps.specs.Views as views
use Rattle.role_steps.specs.declared.instances.Instance.{Instance}
use Rattle.role_steps.specs.declared.instances.Stage.{Stage}
use Rattle.role_steps.specs.declared.instances.Stage.TheVariants as stage
use Rattle.role_steps.specs.declared.synchronizing.SyncTable.{SyncTable}
use Rattle.role_steps.specs.declared.users.WaitingCall.{WaitingCall}
use Rattle.the_run.specs.Kept.{Among}
use Rattle.the_run.specs.Steps.{group_of}
use Rattle.the_run.specs.Worlds.{Line}
use Rattle.tree_model.specs.declared.accepted.Waiting.{Waiting}
use Rattle.tree_model.specs.declared.instance.Instance.{Instance as Open}
use Rattle.tree_model.specs.Calls.{waiting}
use Rattle.tree_model.specs.Epochs.{epoch_of, members_of}
use Rattle.tree_model.specs.Histories.{history}
use Rattle.tree_model.specs.Mending.{kept_vectors}
use Rattle.tree_model.specs.Packs.{sync_site}
use Rattle.tree_model.specs.State.{kept_of}
use Rattle.tree_model.specs.Tree.{kept_in, tree_of}
use Rattle.lawful_trace.specs.Tables.{call_of_act, call_of_release, uses_of}
use Rattle.lawful_trace.specs.TreeRows.{IsCallIn}
use Rattle.tree_laws.specs.Calls.{Asks, is_request, log}
use Rattle.tree_laws.specs.Following.{IsFollowed, MayTell}
use Rattle.tree_laws.specs.Instances.{IsStarted}
use Rattle.tree_laws.specs.Past.{EndRecord, GrantRecord, Printed, ReleaseRecord, WasGranted, WasReleased, WasReleasedWith}
use Rattle.tree_laws.specs.Printed.{entries}
use Rattle.tree_laws.specs.Stores.{Ascends, EndsAs, InstanceFact, RunsAs, StageFact}
use Rattle.tree_laws.specs.Tables.{FilesFact, TableFact}
use Rattle.tree_laws.specs.Users.{Brings, BringsFor, WaitingFact, taken_whole}
use Rattle.tree_laws.proofs.Alone.{alone}
use Rattle.tree_laws.proofs.Kinship.{started_stays}
use Rattle.tree_laws.proofs.Mending.{mends_at_sync}
use Rattle.tree_laws.proofs.Waiting.{accepted, asking_waits}
use Rattle.store_laws.proofs.of_tree_laws.Orders.ProcessOpen.{OpenAs, granted_open}
use Rattle.store_laws.proofs.of_tree_laws.Orders.ProcessOwner.{owner_act}
use Rattle.store_laws.proofs.of_tree_laws.Orders.ProcessSynchronizing.{sync_same}
use Rattle.store_laws.specs.Holdings.Below.{LawsBelow}
use Rattle.store_laws.proofs.Holdings.Below.{commits_new}
use Rattle.store_laws.specs.Holdings.MendWorking.{MendsNow}
use Rattle.store_laws.proofs.Holdings.MendMending.{mends_now}
use Rattle.store_laws.proofs.of_tree_laws.Syncs.OpensStay.{granted_named}
use Rattle.store_laws.specs.Rests.{MendsAs}
use Rattle.store_laws.proofs.Numbers.{serial_key_eq}
use Rattle.store_laws.specs.Users.Turning.{it}
use Rattle.store_laws.proofs.Users.Tabled.{every_among, first_found, one_row, row_found}
use Rattle.store_laws.specs.OneTree.Places.{InsideFact}
use Rattle.store_laws.specs.OneTree.Rest.{Past}
use Rattle.store_laws.proofs.OneTree.Staying.{rest_below}
use Rattle.store_laws.proofs.OneTree.UserStepGroups.{among_row, among_synced}
use Rattle.rest_laws.proofs.MendStepKeptVectors.{vectors_agree}
use Rattle.rest_laws.proofs.MendStepPlaces.{mend_place}
use Rattle.rest_laws.proofs.MendStepRows.{HasRow, has_row}

-- ---- the row of the mend ----

first_none : {A : Type 0} (test : A → Bool) (xs : List A) (x : A) → first_that test xs ≡ None → Among x xs → test x ≡ true → ⊥
first_none test [] x e m p = m
first_none {A} test (y ∷ ys) x e m p = at (first_none test ys x) (test y) refl e m
  where
    some : (z : A) → ◌≡◌ {A = Option A} (Some z) None → ⊥
    some z k = cc

    at : (first_that test ys ≡ None → Among x ys → test x ≡ true → ⊥) → (b : Bool) → test y ≡ b → ◌≡◌ {A = Option A} (elim b [ true ↦ Some y | false ↦ first_that test ys ]) None → (x ≡ y) ⊎ Among x ys → ⊥
    at later true t k n = some y k
    at later false t k (inl is) = true_false (sym p ∙ (ap test is ∙ t))
    at later false t k (inr n) = later k n p

key_of : (g process : ℕ) (words : Call) → mends_in g words ≡ true → waiting_of process words ≡ g
key_of g process (call.Mend file) e = equal file.group g e
key_of g process _ e = absurd (true_false (sym e))

-- one mend of a group waits at most
first_row : (g : ℕ) (xs : List WaitingCall) (w : WaitingCall) → Ascends waiting_key xs → Among w xs → is_mend_in g w ≡ true → first_that (is_mend_in g) xs ≡ Some w
first_row g xs w up m e = over (first_that (is_mend_in g) xs) refl
  where
    same : (v : WaitingCall) → first_that (is_mend_in g) xs ≡ Some v → v ≡ w
    same v k = one_row waiting_key v w xs up found.0 m (key_of g v.process v.words found.1 ∙ sym (key_of g w.process w.words e))
      where
        found : Among v xs × (is_mend_in g v ≡ true)
        found = first_found (is_mend_in g) xs v k

    over : (o : Option WaitingCall) → first_that (is_mend_in g) xs ≡ o → o ≡ Some w
    over None k = absurd (first_none (is_mend_in g) xs w k m e)
    over (Some v) k = ap Some (same v k)

-- ---- a release with a version is a release ----

with_released : (c : Config) (trace : List Line) (e : EpochId) (i : Serial) (stamp : Option Stamp) (a : Answer) → WasReleasedWith c trace e i stamp a → WasReleased trace e i
with_released c [] e i stamp a k = absurd k
with_released c (x ∷ older) e i stamp a (inr k) = inr (with_released c older e i stamp a k)
with_released c (x ∷ older) e i stamp a (inl k) = inl (over x.told k)
  where
    of : (r : Record) → ReleaseRecord c e i stamp a older r → EndRecord e i older r
    of (says.Release at inst file last) k = record { epoch_is = k.epoch_is; serial_is = k.serial_is }
    of _ k = absurd k

    over : (y : Told) → Printed (ReleaseRecord c e i stamp a) older y → Printed (EndRecord e i) older y
    over (Shown r) k = of r k
    over _ k = absurd k

-- ---- a grant comes in a group that has started ----

started_record : (c : Config) (older : List Line) (r : Record) → MayTell c older (Shown r) → (e : EpochId) (d : CallId) (request : ℕ) (i : Serial) (f : FileId) (stamp : Option Stamp) (ss : ℕ) → GrantRecord e d request i mode.Mend f stamp ss older r → IsStarted c older e f.group
started_record c older (says.Grant at call number inst m file on place) may e d request i f stamp ss k =
    subst (λ (y : EpochId). IsStarted c older y f.group) k.epoch_is (subst (λ (y : FileId). IsStarted c older at y.group) k.file_is (and_first (tree_of c at file.group (entries older)).started _ may.row.gives))
started_record c older _ may e d request i f stamp ss k = absurd k

granted_started : (c : Config) (t : List Line) → IsFollowed c t → (e : EpochId) (d : CallId) (request : ℕ) (i : Serial) (f : FileId) (stamp : Option Stamp) (ss : ℕ) → WasGranted t e d request i mode.Mend f stamp ss → IsStarted c t e f.group
granted_started c [] h e d request i f stamp ss k = absurd k
granted_started c (x ∷ older) h e d request i f stamp ss (inr k) = started_stays c x.number x.told older e f.group (granted_started c older h.1 e d request i f stamp ss k)
granted_started c (x ∷ older) h e d request i f stamp ss (inl k) = started_stays c x.number x.told older e f.group (over x.told h.0 k)
  where
    over : (y : Told) → MayTell c older y → Printed (GrantRecord e d request i mode.Mend f stamp ss) older y → IsStarted c older e f.group
    over (Shown r) may k = started_record c older r may e d request i f stamp ss k
    over _ may k = absurd k

-- ---- what the mend works on ----

module _ (c : Config) (t : List Line) (f : Frame) (v : SiteView) (past : Past c t) (k : InsideFact c f t v) (few : length c.packs ≤ 4) (i : Instance) (among : Among i v.store.instances)
    (d : CallId) (inside : IsCallIn (entries t) f.epoch d) (asks : Asks c t d (want.Do i.inst op.Mend)) where
  laws : LawsBelow c t
  laws = rest_below c t past.rest

  m : MendsNow c t f.epoch d i.inst
  m = mends_now c t f.epoch d i.inst laws.packs past.followed (commits_new c t past.followed laws.once) inside asks

  opened : OpenAs c t f.epoch d i.inst mode.Mend m.file m.place
  opened = granted_open c t past.followed f.epoch d m.request i.inst mode.Mend m.file m.stamp m.place m.was m.unreleased

  fact : InstanceFact c t f i
  fact = every_among (InstanceFact c t f) i v.store.instances among k.store.instances.instances

  -- the instance is that of the mend, and its storage site is this one
  record IsHere : Type 0 where
    file_is : i.file ≡ m.file
    place_is : m.place ≡ f.me

  not_closing : (call : CallId) → call_of_release (entries t) f.epoch i.inst ≡ Some call → Asks c t call (want.Close i.inst) → ⊥
  not_closing other owner closes = over (owner_act c t f.epoch d i.inst op.Mend past.followed inside asks)
    where
      over : ((n : ℕ) → call_of_act (entries t) f.epoch i.inst n ≡ Some d) ⊎ (call_of_act (entries t) f.epoch i.inst (length (uses_of (entries t) f.epoch i.inst)) ≡ Some d) → ⊥
      over (inl all) = alone c t f.epoch i.inst 0 d other op.Mend past.followed asks (all 0) closes owner
      over (inr one) = alone c t f.epoch i.inst (length (uses_of (entries t) f.epoch i.inst)) d other op.Mend past.followed asks one closes owner

  here : IsHere
  here = over i.stage fact.stage
    where
      running : RunsAs c t f i → IsHere
      running (inl (x, works)) = record { file_is = sym works.file_is ∙ (ap (λ (y : Open). y.grant.file) same ∙ opened.file_is); place_is = sym opened.place_is ∙ (ap (λ (y : Open). y.grant.ss) (sym same) ∙ works.open_at.place) }
        where
          same : x ≡ opened.at
          same = some_same x opened.at (sym works.open_at.found ∙ opened.found)
      running (inr waits) = absurd (waits.unnamed (granted_named t f.epoch d m.request i.inst mode.Mend m.file m.stamp m.place m.was))

      over : (s : Stage) → StageFact c t f i s → IsHere
      over stage.Running r = running r.0
      over (stage.Closing made a) r = ends r.0.ends
        where
          ends : WasReleasedWith c t f.epoch i.inst (stamp_made made) (close_answer a) ⊎ EndsAs c t f i made a → IsHere
          ends (inl released) = absurd (m.unreleased (with_released c t f.epoch i.inst (stamp_made made) (close_answer a) released))
          ends (inr now) = absurd (not_closing now.now.closes.call now.now.closes.owner now.now.closes.asks)
      over (stage.Closed a) r = absurd (m.unreleased (with_released c t f.epoch i.inst r.0.0 (close_answer a) r.0.1))

  -- ---- its row ----

  one : m.caller ≡ inside.accepted
  one = some_same m.caller inside.accepted (sym m.named ∙ inside.named)

  words : inside.accepted.words ≡ call.Mend m.file
  words = ap (λ (w : Waiting). w.words) (sym one) ∙ m.words_are

  synced : sync_site c m.file.group (members_of (entries t) f.epoch) ≡ Some f.me
  synced = mend_place c t past.followed f.epoch d m.request i.inst m.file m.stamp m.place m.was ∙ ap Some here.place_is

  site : inside.accepted.site ≡ f.me
  site = some_same inside.accepted.site f.me (sym (mends_at_sync c t past.followed d inside.accepted f.epoch m.file inside.named inside.made_in words) ∙ synced)

  waits : Among inside.accepted (waiting (entries t))
  waits = asking_waits c t f.epoch d past.followed inside (ap (epoch_of (entries t)) (sym ((accepted c t past.followed).named d inside.accepted inside.named).site_is ∙ site) ∙ k.frame.inside) (ap is_request asks.asked)

  row_of : HasRow f v.users inside.accepted
  row_of = has_row c t f v.users past.followed k.users.inside.inside inside.accepted waits site

  call_is : it f row_of.row ≡ d
  call_is = sym row_of.call_is ∙ ((accepted c t past.followed).named d inside.accepted inside.named).call_is

  row_words : row_of.row.words ≡ call.Mend m.file
  row_words = ap (λ (w : Waiting). w.words) (sym row_of.same) ∙ words

  is_first : first_that (is_mend_in i.file.group) v.users.waiting ≡ Some row_of.row
  is_first = first_row i.file.group v.users.waiting row_of.row k.users.inside.inside.ascends row_of.among
      (ap (mends_in i.file.group) row_words ∙ subst (λ (g : ℕ). (m.file.group == g) ≡ true) (ap (λ (y : FileId). y.group) (sym here.file_is)) (equal_self m.file.group))

  -- ---- what it has brought ----

  brings : Brings c t m.file (taken_whole (log t d)) row_of.row.brought
  brings = subst (λ (e : CallId). Brings c t m.file (taken_whole (log t e)) row_of.row.brought) call_is (subst (λ (y : Call). BringsFor c t (it f row_of.row) y row_of.row.brought) row_words row_fact.brings)
    where
      row_fact : WaitingFact c t f row_of.row
      row_fact = every_among (WaitingFact c t f) row_of.row v.users.waiting row_of.among k.users.inside.inside.calls

  contents : brought_by (first_that (is_mend_in i.file.group) v.users.waiting) ≡ map (content_of (history c (entries t)) i.file) (kept_of (history c (entries t)) (tree_of c f.epoch i.file.group (entries t)) i.file)
  contents = ap brought_by is_first ∙ (brings.contents_are ∙ (ap (map (content_of (history c (entries t)) m.file)) m.taken_is
      ∙ ap (λ (y : FileId). map (content_of (history c (entries t)) y) (kept_in c (entries t) f.epoch y)) (sym here.file_is)))

  -- ---- what is kept in the group ----

  synced_here : sync_site c i.file.group (Some f.members) ≡ Some f.me
  synced_here = ap (sync_site c i.file.group) (sym k.frame.members_are) ∙ (ap (λ (y : FileId). sync_site c y.group (members_of (entries t) f.epoch)) here.file_is ∙ synced)

  role_synced : views.sync_site f.config f.members i.file.group ≡ Some f.me
  role_synced = ap (λ (x : Config). views.sync_site x f.members i.file.group) k.frame.config_is ∙ (sync_same c f.members i.file.group ∙ synced_here)

  there : (tab : SyncTable) × (row table_group i.file.group v.tables ≡ Some tab)
  there = among_row table_group i.file.group v.tables (subst (Among i.file.group) (sym k.groups) (among_synced f i.file.group (subst (λ (x : Config). length x.packs ≤ 4) (sym k.frame.config_is) few) role_synced))

  at_table : Among there.0 v.tables × (there.0.group ≡ i.file.group)
  at_table = row_found table_group i.file.group v.tables there.0 there.1

  table : TableFact c t f there.0
  table = every_among (TableFact c t f) there.0 v.tables at_table.0 k.tables

  started : there.0.started ≡ true
  started = table.started ∙ subst (λ (g : ℕ). IsStarted c t f.epoch g) (sym at_table.1) (subst (λ (y : FileId). IsStarted c t f.epoch y.group) (sym here.file_is) (granted_started c t past.followed f.epoch d m.request i.inst m.file m.stamp m.place m.was))

  kept : vectors_of (row table_group i.file.group v.tables) ≡ kept_vectors (history c (entries t)) (tree_of c f.epoch i.file.group (entries t))
  kept = ap vectors_of there.1 ∙ (vectors_agree c t f there.0 table (subst (λ (b : Bool). FilesFact c t f there.0 b) started table.files) ∙ ap (λ (g : ℕ). kept_vectors (history c (entries t)) (tree_of c f.epoch g (entries t))) at_table.1)

  pub works_as : MendsAs c t f i.file (mending v i.file.group)
  works_as = record { contents = contents; kept = kept }

-- at the storage site of an instance of which a call asks to mend
pub mends_as : (c : Config) (t : List Line) (f : Frame) (v : SiteView) → Past c t → InsideFact c f t v → length c.packs ≤ 4 → (inst : Serial) → inst.us ≤ sites_max → (i : Instance) → instance_of v.store inst ≡ Some i →
    (d : CallId) → IsCallIn (entries t) f.epoch d → Asks c t d (want.Do inst op.Mend) → MendsAs c t f i.file (mending v (group_of (instance_of v.store inst)))
mends_as c t f v past k few inst small i found d inside asks = subst (λ (o : Option Instance). MendsAs c t f i.file (mending v (group_of o))) (sym found)
    (works_as c t f v past k few i at.0 d inside (subst (λ (j : Serial). Asks c t d (want.Do j op.Mend)) (sym same) asks))
  where
    at : Among i v.store.instances × (instance_key i ≡ serial_key inst)
    at = row_found instance_key (serial_key inst) v.store.instances i found

    same : i.inst ≡ inst
    same = serial_key_eq i.inst inst (every_among (InstanceFact c t f) i v.store.instances at.0 k.store.instances.instances).user small at.1
