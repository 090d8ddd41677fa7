-- What a site does in its epoch keeps what it has answered, what it reports and what its users have.
use Rattle.std.proofs.Common.{◌≡◌, ℕ, ◌==◌, ◌⊎◌, Bool, true, false, ◌&&◌, not, List, [], ◌∷◌, Option, Some, None, refl, sym, ◌∙◌, ap, subst, inl, inr, arith}
use Rattle.std.proofs.lemmas.Bool.Decides.{nat_tests}
use Rattle.locus_ids.specs.declared.config.Config.{Config}
use Rattle.trace_book.specs.declared.call.Call.TheVariants as call
use Rattle.wire_messages.specs.declared.body.Body.{Body}
use Rattle.wire_messages.specs.declared.body.Body.TheVariants as body
use Rattle.wire_messages.specs.declared.packet.Packet.{Packet}
use Rattle.role_steps.specs.Adoption.{with_store, notes_own_at, notes_own, table_group, is_ready, adopts_pull, without_pull, adopts_first, with_adopted, fits_own}
use Rattle.role_steps.specs.Epochs.{frame_in, own_groups}
use Rattle.role_steps.specs.Mends.{mending, kept_stamps, has_mend_in, wants_mend, starts_mend_of, starts_mend, starts_mends_in, row_file}
use Rattle.role_steps.specs.Opens.{on_opened}
use Rattle.role_steps.specs.Own.{Every}
use Rattle.role_steps.specs.Reports.{on_report, on_closed, on_have, on_have_of}
use Rattle.role_steps.specs.Storage.{copy_of, instance_of}
use Rattle.role_steps.specs.Tables.{row, first_that, without_row}
use Rattle.role_steps.specs.Versions.{file_row}
use Rattle.role_steps.specs.Views.{Frame, SiteView, Outcome, quiet, within}
use Rattle.role_steps.specs.declared.instances.Instance.{Instance}
use Rattle.role_steps.specs.declared.pulls.Pull.{Pull}
use Rattle.role_steps.specs.declared.rounds.InEpoch.{InEpoch}
use Rattle.role_steps.specs.declared.synchronizing.FileRow.{FileRow}
use Rattle.role_steps.specs.declared.synchronizing.SyncTable.{SyncTable}
use Rattle.the_run.specs.Kept.{Among}
use Rattle.the_run.specs.Steps.{from_user, group_of, with_pulls, at_table_of, is_opened_in, takes_inside, takes_framed, adopts_of, tries_at, starts_mends_of}
use Rattle.the_run.proofs.Boots.{at_each}
use Rattle.store_laws.proofs.OneTree.Rising.{first_among, row_key, every_among}
use Rattle.store_laws.specs.of_run_laws.FactWalks.Roles.{IsForTable, IsForStore, IsForUser}
use Rattle.store_laws.proofs.of_run_laws.FactWalks.Roles.{by_role, readers_by, pulls_by}
use Rattle.calm_laws.proofs.SentCalm.Answerless.{sync_answerless, on_open_ss_answerless, on_closed_ok_answerless, on_op_answerless, on_call_answerless, on_open_done_answerless, on_op_done_answerless, on_close_done_answerless, on_look_done_answerless, on_read_held_answerless, on_as_held_answerless, answering, readers, back}
use Rattle.calm_laws.proofs.SentCalm.Closing.{Begun, IsBegun, on_close_closes}
use Rattle.calm_laws.proofs.SentCalm.Reporting.{on_open_stands, on_look_stands, on_report_stands, on_closed_stands, on_have_stands, have_of_stands}
use Rattle.calm_laws.proofs.SentCalm.Tables.{LooksAnswerless, TableStands, on_opened_stands}
use Rattle.calm_laws.proofs.SentCalm.Users.{Grants, on_call_holds, on_open_done_holds, on_op_done_holds, on_close_done_holds, on_look_done_holds, on_as_held_holds}
use Rattle.calm_laws.proofs.SentCalm.Views.{Known, In, ReportsIn, Heard, Orderly, Goes, Fine, quiet_fine, then_fine, part_fine, part_with, table_fine, put_orderly, put_goes, all_close, all_stand, rising_found}

-- what a packet brings to a site in the epoch
abbrev pub Brings : Known → Known → InEpoch → Body → Type 0
Brings R S e (body.ReportOk group) = R e group
Brings R S e (body.OpenDone serial answer) = Grants (In S (Some e)) serial answer
Brings R S e _ = Unit {0}

-- what a storage site has in the epoch it has begun in it
abbrev pub HasBegun : Begun → SiteView → Type 0
HasBegun B v = (e : InEpoch) → v.epoch ≡ Some e → Every (IsBegun B e.id) v.store.instances

-- what stays of a list
among_without : (group other : ℕ) (gs : List ℕ) → (group ≡ other → ⊥) → Among other gs → Among other (without_row (λ (g : ℕ). g) group gs)
among_without group other [] ne a = absurd a
among_without group other (g ∷ gs) ne a = over (g == group) refl (among_without group other gs ne) a
  where
    over : (b : Bool) → (g == group) ≡ b → (Among other gs → Among other (without_row (λ (x : ℕ). x) group gs)) → (other ≡ g) ⊎ Among other gs → Among other (elim b [ true ↦ gs | false ↦ g ∷ without_row (λ (x : ℕ). x) group gs ])
    over true e later (inl same) = absurd (ne (sym (same ∙ equal g group e)))
      where
        equal : (a b : ℕ) → (a == b) ≡ true → a ≡ b
        equal a b h = grind (arith, nat_tests)
    over true e later (inr k) = k
    over false e later (inl same) = inl same
    over false e later (inr k) = inr (later k)

-- ---- an adoption leaves what was begun ----

record LeavesBegun (v u : SiteView) : Type 0 where
  epoch : u.epoch ≡ v.epoch
  instances : u.store.instances ≡ v.store.instances

abbrev Leaves : SiteView → Outcome SiteView → Type 0
Leaves v o = LeavesBegun v o.view

noted_leaves : (f : Frame) (p : Pull) (o : Option SyncTable) (v : SiteView) → LeavesBegun v (notes_own_at f p o v)
noted_leaves f p None v = record { epoch = refl; instances = refl }
noted_leaves f p (Some t) v = record { epoch = refl; instances = refl }

first_leaves : (f : Frame) (ps : List Pull) (v : SiteView) → Leaves v (adopts_first f ps v)
first_leaves f [] v = record { epoch = refl; instances = refl }
first_leaves f (p ∷ ps) v =
    elim (is_ready v p) as (λ t. Leaves v (elim t [ true ↦ elim (fits_own p (copy_of v.store p.file)) [ true ↦ adopts_pull f p v | false ↦ adopts_first f ps (without_pull p v) ] | false ↦ adopts_first f ps v ])) [
      | true ↦ elim (fits_own p (copy_of v.store p.file)) as (λ t. Leaves v (elim t [ true ↦ adopts_pull f p v | false ↦ adopts_first f ps (without_pull p v) ])) [
        | true ↦ (let k : LeavesBegun (with_adopted p v) (adopts_pull f p v).view = noted_leaves f p (row table_group p.file.group v.tables) (with_adopted p v) in record { epoch = k.epoch; instances = k.instances })
        | false ↦ (let k : LeavesBegun (without_pull p v) (adopts_first f ps (without_pull p v)).view = first_leaves f ps (without_pull p v) in record { epoch = k.epoch; instances = k.instances })
      ]
      | false ↦ first_leaves f ps v
    ]

adopts_leaves : (c : Config) (me : ℕ) (o : Option InEpoch) (v : SiteView) → LeavesBegun v (adopts_of c me o v).view
adopts_leaves c me None v = record { epoch = refl; instances = refl }
adopts_leaves c me (Some e) v = first_leaves (frame_in c me v.boot e) v.pulls v

pub adopts_begun : (B : Begun) (c : Config) (me : ℕ) (v : SiteView) → HasBegun B v → HasBegun B (adopts_of c me v.epoch v).view
adopts_begun B c me v h e here = (let k : LeavesBegun v (adopts_of c me v.epoch v).view = adopts_leaves c me v.epoch v in subst (λ (is : List Instance). Every (IsBegun B e.id) is) (sym k.instances) (h e (sym k.epoch ∙ here)))

module _ (R S : Known) (B : Begun) (c : Config) (me : ℕ) where
  -- ---- adoptions and mends ----

  noted_fine : (f : Frame) (p : Pull) (o : Option SyncTable) (v : SiteView) → row table_group p.file.group v.tables ≡ o → Orderly v → Heard R S c me v → Orderly (notes_own_at f p o v) × (Heard R S c me (notes_own_at f p o v) × Goes v (notes_own_at f p o v))
  noted_fine f p None v e h k = (h, (k, (quiet_fine R S B c me v h k).goes))
  noted_fine f p (Some t) v e h k =
      let r : Among t v.tables × (t.group ≡ p.file.group) = row_key table_group p.file.group v.tables t e in
      let found : row table_group t.group v.tables ≡ Some t = ap (λ (g : ℕ). row table_group g v.tables) r.1 ∙ e in
      let s : TableStands f t (quiet (on_have_of f.me p.stamp (file_row t p.file.ino) t)) = have_of_stands f f.me p.stamp (file_row t p.file.ino) t (every_among LooksAnswerless t v.tables r.0 h.looks) in
      (put_orderly v t _ found s.grows s.looks h, (record { reports = k.reports; instances = k.instances }, put_goes v t _ found s.grows))

  adopts_pull_fine : (f : Frame) (p : Pull) (v : SiteView) → Orderly v → Heard R S c me v → Fine R S B c me v (adopts_pull f p v)
  adopts_pull_fine f p v h k =
      let now : SiteView = with_adopted p v in
      let n : Orderly (notes_own f p now) × (Heard R S c me (notes_own f p now) × Goes now (notes_own f p now)) = noted_fine f p (row table_group p.file.group v.tables) now refl (record { round = h.round; inside = h.inside; rising = h.rising; looks = h.looks }) (record { reports = k.reports; instances = k.instances }) in
      record {
        orderly = n.0;
        heard = n.1.0;
        goes = record { spent = n.1.1.spent; stays = n.1.1.stays };
        sent = all_stand B c (notes_own f p now) _ (sync_answerless f p.file.group _ tt);
      }

  adopts_first_fine : (f : Frame) (ps : List Pull) (v : SiteView) → Orderly v → Heard R S c me v → Fine R S B c me v (adopts_first f ps v)
  adopts_first_fine f [] v h k = quiet_fine R S B c me v h k
  adopts_first_fine f (p ∷ ps) v h k =
      elim (is_ready v p) as (λ t. Fine R S B c me v (elim t [ true ↦ elim (fits_own p (copy_of v.store p.file)) [ true ↦ adopts_pull f p v | false ↦ adopts_first f ps (without_pull p v) ] | false ↦ adopts_first f ps v ])) [
        | true ↦ elim (fits_own p (copy_of v.store p.file)) as (λ t. Fine R S B c me v (elim t [ true ↦ adopts_pull f p v | false ↦ adopts_first f ps (without_pull p v) ])) [
          | true ↦ adopts_pull_fine f p v h k
          | false ↦ (let g : Fine R S B c me (without_pull p v) (adopts_first f ps (without_pull p v)) = adopts_first_fine f ps (without_pull p v) (record { round = h.round; inside = h.inside; rising = h.rising; looks = h.looks }) (record { reports = k.reports; instances = k.instances }) in
              record { orderly = g.orderly; heard = g.heard; goes = record { spent = g.goes.spent; stays = g.goes.stays }; sent = g.sent })
        ]
        | false ↦ adopts_first_fine f ps v h k
      ]

  pub adopts_of_fine : (e : Option InEpoch) (v : SiteView) → Orderly v → Heard R S c me v → Fine R S B c me v (adopts_of c me e v)
  adopts_of_fine None v h k = quiet_fine R S B c me v h k
  adopts_of_fine (Some e) v h k = adopts_first_fine (frame_in c me v.boot e) v.pulls v h k

  pub tries_fine : (x : Body) (v : SiteView) → Orderly v → Heard R S c me v → Fine R S B c me v (tries_at c me x v)
  tries_fine (body.Notify file kind set size stamp vector holder) v h k = adopts_of_fine v.epoch v h k
  tries_fine (body.Page file stamp page bytes) v h k = adopts_of_fine v.epoch v h k
  tries_fine (body.Delta file wanted pages) v h k = adopts_of_fine v.epoch v h k
  tries_fine _ v h k = quiet_fine R S B c me v h k

  mend_of_fine : (f : Frame) (t : SyncTable) (o : Option FileRow) (v : SiteView) → Orderly v → Heard R S c me v → Fine R S B c me v (starts_mend_of f t o v)
  mend_of_fine f t None v h k = quiet_fine R S B c me v h k
  mend_of_fine f t (Some r) v h k = part_fine R S B c me v (starts_mend_of f t (Some r) v) h
      (record { reports = k.reports; instances = on_call_holds (In S v.epoch) f (Some f.epoch) 0 (call.Mend (row_file t r)) v.users k.instances }) refl refl refl refl refl (on_call_answerless f (Some f.epoch) 0 (call.Mend (row_file t r)) v.users)

  mend_fine : (f : Frame) (t : SyncTable) (v : SiteView) → Orderly v → Heard R S c me v → Fine R S B c me v (starts_mend f t v)
  mend_fine f t v h k =
      elim (t.started && not (has_mend_in v.users t.group)) as (λ x. Fine R S B c me v (elim x [ true ↦ starts_mend_of f t (first_that (wants_mend v t) t.files) v | false ↦ quiet v ])) [
        | true ↦ mend_of_fine f t (first_that (wants_mend v t) t.files) v h k
        | false ↦ quiet_fine R S B c me v h k
      ]

  mends_fine : (f : Frame) (ts : List SyncTable) (v : SiteView) → Orderly v → Heard R S c me v → Fine R S B c me v (starts_mends_in f ts v)
  mends_fine f [] v h k = quiet_fine R S B c me v h k
  mends_fine f (t ∷ ts) v h k = then_fine R S B c me v (starts_mend f t v) (starts_mends_in f ts) (mend_fine f t v h k) (λ g l. mends_fine f ts (starts_mend f t v).view g l)

  pub mends_of_fine : (e : Option InEpoch) (v : SiteView) → Orderly v → Heard R S c me v → Fine R S B c me v (starts_mends_of c me e v)
  mends_of_fine None v h k = quiet_fine R S B c me v h k
  mends_of_fine (Some e) v h k = mends_fine (frame_in c me v.boot e) v.tables v h k

  -- ---- packets inside the epoch ----

  at_table_fine : (f : Frame) (e : InEpoch) (g : SyncTable → Outcome SyncTable) (o : Option SyncTable) (v : SiteView) → f.epoch ≡ e.id → v.epoch ≡ Some e → ((t : SyncTable) → o ≡ Some t → (row table_group t.group v.tables ≡ Some t) × Among t v.tables) → ((t : SyncTable) → LooksAnswerless t → TableStands f t (g t)) →
      Orderly v → Heard R S c me v → Fine R S B c me v (at_table_of g o v)
  at_table_fine f e g None v same here found step h k = quiet_fine R S B c me v h k
  at_table_fine f e g (Some t) v same here found step h k =
      let r : (row table_group t.group v.tables ≡ Some t) × Among t v.tables = found t refl in
      table_fine R S B c me f v e t (g t) same here r.0 (step t (every_among LooksAnswerless t v.tables r.1 h.looks)) h k

  group_fine : (f : Frame) (e : InEpoch) (g : SyncTable → Outcome SyncTable) (group : ℕ) (v : SiteView) → f.epoch ≡ e.id → v.epoch ≡ Some e → ((t : SyncTable) → LooksAnswerless t → TableStands f t (g t)) → Orderly v → Heard R S c me v → Fine R S B c me v (at_table_of g (row table_group group v.tables) v)
  group_fine f e g group v same here step h k = at_table_fine f e g (row table_group group v.tables) v same here
      (λ t is. (let r : Among t v.tables × (t.group ≡ group) = row_key table_group group v.tables t is in (ap (λ (x : ℕ). row table_group x v.tables) r.1 ∙ is, r.0))) step h k

  with_fine : (f : Frame) (e : InEpoch) (g : SyncTable → Outcome SyncTable) (test : SyncTable → Bool) (v : SiteView) → f.epoch ≡ e.id → v.epoch ≡ Some e → ((t : SyncTable) → LooksAnswerless t → TableStands f t (g t)) → Orderly v → Heard R S c me v → Fine R S B c me v (at_table_of g (first_that test v.tables) v)
  with_fine f e g test v same here step h k = at_table_fine f e g (first_that test v.tables) v same here
      (λ t is. (let a : Among t v.tables = first_among test v.tables t is in (rising_found t v.tables h.rising a, a))) step h k

  tables_fine : (e : InEpoch) (from : ℕ) (x : Body) (v : SiteView) → IsForTable x → v.epoch ≡ Some e → Brings R S e x → HasBegun B v → Orderly v → Heard R S c me v → Fine R S B c me v (takes_inside (frame_in c me v.boot e) from x v)
  tables_fine e from (body.Report group copies) v is here b d h k = group_fine (frame_in c me v.boot e) e (on_report (frame_in c me v.boot e) from copies) group v refl here (on_report_stands (frame_in c me v.boot e) from copies) h k
  tables_fine e from (body.Open serial call process request file how) v is here b d h k = group_fine (frame_in c me v.boot e) e _ file.group v refl here (on_open_stands (frame_in c me v.boot e) from (record { serial = serial; call = call; process = process; request = request; file = file; how = how })) h k
  tables_fine e from (body.Opened inst answer) v is here b d h k = with_fine (frame_in c me v.boot e) e (on_opened (frame_in c me v.boot e) inst answer) (is_opened_in inst) v refl here (on_opened_stands (frame_in c me v.boot e) inst answer) h k
  tables_fine e from (body.Closed inst made) v is here b d h k = with_fine (frame_in c me v.boot e) e (on_closed (frame_in c me v.boot e) from inst made) (is_opened_in inst) v refl here (on_closed_stands (frame_in c me v.boot e) from inst made) h k
  tables_fine e from (body.Look call process request take file what) v is here b d h k = group_fine (frame_in c me v.boot e) e _ file.group v refl here (on_look_stands (frame_in c me v.boot e) from (record { call = call; process = process; request = request; take = take; file = file; what = what })) h k
  tables_fine e from (body.Have file stamp) v is here b d h k = group_fine (frame_in c me v.boot e) e (on_have from file stamp) file.group v refl here (on_have_stands (frame_in c me v.boot e) from file stamp) h k
  tables_fine e from _ v is here b d h k = absurd is

  stores_fine : (e : InEpoch) (from : ℕ) (x : Body) (v : SiteView) → IsForStore x → v.epoch ≡ Some e → Brings R S e x → HasBegun B v → Orderly v → Heard R S c me v → Fine R S B c me v (takes_inside (frame_in c me v.boot e) from x v)
  stores_fine e from (body.OpenSs inst file mode set kind base vector parents) v is here b d h k = part_fine R S B c me v _ h (record { reports = k.reports; instances = k.instances }) refl refl refl refl refl (on_open_ss_answerless (frame_in c me v.boot e) _ v.store)
  stores_fine e from (body.Op serial n o seen) v is here b d h k = part_fine R S B c me v _ h (record { reports = k.reports; instances = k.instances }) refl refl refl refl refl (on_op_answerless (frame_in c me v.boot e) (mending v (group_of (instance_of v.store (from_user from serial)))) (from_user from serial) n o seen v.store)
  stores_fine e from (body.ReadHeld serial n at len) v is here b d h k = part_fine R S B c me v _ h (record { reports = k.reports; instances = k.instances }) refl refl refl refl refl (on_read_held_answerless (frame_in c me v.boot e) (from_user from serial) n at len v.store)
  stores_fine e from (body.Close serial) v is here b d h k = part_with R S B c me v (takes_inside (frame_in c me v.boot e) from (body.Close serial) v) h (record { reports = k.reports; instances = k.instances }) refl refl refl refl refl
      (λ now. all_close B c me (takes_inside (frame_in c me v.boot e) from (body.Close serial) v).view e _ now here (on_close_closes B (frame_in c me v.boot e) (from_user from serial) v.store (d e here)))
  stores_fine e from (body.ClosedOk inst) v is here b d h k = part_fine R S B c me v _ h (record { reports = k.reports; instances = k.instances }) refl refl refl refl refl (on_closed_ok_answerless (frame_in c me v.boot e) inst v.store)
  stores_fine e from _ v is here b d h k = absurd is

  users_fine : (e : InEpoch) (from : ℕ) (x : Body) (v : SiteView) → IsForUser x → v.epoch ≡ Some e → Brings R S e x → HasBegun B v → Orderly v → Heard R S c me v → Fine R S B c me v (takes_inside (frame_in c me v.boot e) from x v)
  users_fine e from (body.OpenDone serial answer) v is here b d h k = part_fine R S B c me v _ h
      (record { reports = k.reports; instances = on_open_done_holds (In S v.epoch) (frame_in c me v.boot e) (kept_stamps v) serial answer v.users (subst (λ (o : Option InEpoch). Grants (In S o) serial answer) (sym here) b) k.instances }) refl refl refl refl refl
      (on_open_done_answerless (frame_in c me v.boot e) (kept_stamps v) serial answer v.users)
  users_fine e from (body.OpDone serial n result) v is here b d h k = part_fine R S B c me v _ h
      (record { reports = k.reports; instances = on_op_done_holds (In S v.epoch) (frame_in c me v.boot e) serial n result v.users k.instances }) refl refl refl refl refl (on_op_done_answerless (frame_in c me v.boot e) serial n result v.users)
  users_fine e from (body.AsHeld serial n len) v is here b d h k = part_fine R S B c me v _ h
      (record { reports = k.reports; instances = on_as_held_holds (In S v.epoch) (frame_in c me v.boot e) serial n v.users k.instances }) refl refl refl refl refl (on_as_held_answerless (frame_in c me v.boot e) serial n v.users)
  users_fine e from (body.CloseDone serial answer) v is here b d h k = part_fine R S B c me v _ h
      (record { reports = k.reports; instances = on_close_done_holds (In S v.epoch) (frame_in c me v.boot e) serial answer v.users k.instances }) refl refl refl refl refl (on_close_done_answerless (frame_in c me v.boot e) serial answer v.users)
  users_fine e from (body.LookDone call request take answer) v is here b d h k = part_fine R S B c me v _ h
      (record { reports = k.reports; instances = on_look_done_holds (In S v.epoch) (frame_in c me v.boot e) call request take answer v.users k.instances }) refl refl refl refl refl (on_look_done_answerless (frame_in c me v.boot e) call request take answer v.users)
  users_fine e from _ v is here b d h k = absurd is

  -- a report that is answered isn't sent again
  reported_fine : (e : InEpoch) (from group : ℕ) (v : SiteView) → v.epoch ≡ Some e → R e group → Orderly v → Heard R S c me v → Fine R S B c me v (takes_inside (frame_in c me v.boot e) from (body.ReportOk group) v)
  reported_fine e from group v here b h k = part_fine R S B c me v (takes_inside (frame_in c me v.boot e) from (body.ReportOk group) v) h (record { reports = answered; instances = k.instances }) refl refl refl refl refl tt
    where
      left : List ℕ
      left = without_row (λ (g : ℕ). g) group v.reports

      each : ((other : ℕ) → Among other (own_groups c me) → Among other v.reports ⊎ R e other) → (other : ℕ) → Among other (own_groups c me) → Among other left ⊎ R e other
      each old other a = at_each group other (Among other left ⊎ R e other) (λ same. inr (subst (R e) same b)) (λ ne. over ne (old other a))
        where
          over : (group ≡ other → ⊥) → Among other v.reports ⊎ R e other → Among other left ⊎ R e other
          over ne (inl m) = inl (among_without group other v.reports ne m)
          over ne (inr r) = inr r

      answered : ReportsIn R c me left v.epoch
      answered = subst (ReportsIn R c me left) (sym here) (each (subst (ReportsIn R c me v.reports) here k.reports))

  pub inside_fine : (e : InEpoch) (from : ℕ) (x : Body) (v : SiteView) → v.epoch ≡ Some e → Brings R S e x → HasBegun B v → Orderly v → Heard R S c me v → Fine R S B c me v (takes_inside (frame_in c me v.boot e) from x v)
  inside_fine e from x v here b d h k =
      by_role Q f from v (record {
        tables = λ y is brings. tables_fine e from y v is here brings d h k;
        stores = λ y is brings. stores_fine e from y v is here brings d h k;
        readers = readers_by Q answering f from v (readers f) back (λ y o is same p brings. part_fine R S B c me v (within (with_store v) o) h (record { reports = k.reports; instances = k.instances }) refl refl refl refl refl p.0);
        users = λ y is brings. users_fine e from y v is here brings d h k;
        pulls = pulls_by Q answering f from v (readers f) back (λ y o is p brings. part_fine R S B c me v (within (with_pulls v) o) h (record { reports = k.reports; instances = k.instances }) refl refl refl refl refl p.0);
        reported = λ group brings. reported_fine e from group v here brings h k;
        forming = λ y is brings. quiet_fine R S B c me v h k;
      }) x b
    where
      f : Frame
      f = frame_in c me v.boot e

      Q : Body → Outcome SiteView → Type 0
      Q y o = Brings R S e y → Fine R S B c me v o

  pub framed_fine : (p : Packet) (o : Option InEpoch) (v : SiteView) → v.epoch ≡ o → ((e : InEpoch) → v.epoch ≡ Some e → Brings R S e p.body) → HasBegun B v → Orderly v → Heard R S c me v → Fine R S B c me v (takes_framed c me p o v)
  framed_fine p None v here b d h k = quiet_fine R S B c me v h k
  framed_fine p (Some e) v here b d h k = inside_fine e p.from p.body v here (b e here) d h k
