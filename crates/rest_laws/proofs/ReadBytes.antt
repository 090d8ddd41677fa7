-- What a read gave of an instance that was granted to read: the bytes of the version on which it was granted.
use Rattle.std.proofs.Common.{◌≡◌, ℕ, true, List, [], ◌∷◌, Option, Some, sym, ◌∙◌, ap, subst, ◌⊎◌, inl, inr}
use Rattle.locus_ids.specs.declared.config.Config.{Config}
use Rattle.locus_ids.specs.declared.ids.CallId.{CallId}
use Rattle.locus_ids.specs.declared.ids.EpochId.{EpochId}
use Rattle.locus_ids.specs.declared.ids.FileId.{FileId}
use Rattle.locus_ids.specs.declared.ids.Mode.TheVariants as mode
use Rattle.locus_ids.specs.declared.ids.Serial.{Serial}
use Rattle.locus_ids.specs.declared.ids.Stamp.{Stamp}
use Rattle.commit_graph.specs.Grants.{is_read}
use Rattle.commit_graph.specs.Versions.{content_of}
use Rattle.file_content.specs.Contents.{part}
use Rattle.trace_book.specs.declared.operation.Op.{Op}
use Rattle.trace_book.specs.declared.operation.Op.TheVariants as op
use Rattle.trace_book.specs.declared.operation.Outcome.{Outcome}
use Rattle.trace_book.specs.declared.operation.Outcome.TheVariants as outcome
use Rattle.trace_book.specs.declared.record.Record.TheVariants as says
use Rattle.role_steps.specs.Views.{Told, Shown}
use Rattle.the_run.specs.Worlds.{Line}
use Rattle.tree_model.specs.declared.instance.Instance.{Instance}
use Rattle.tree_model.specs.Given.{gives_act}
use Rattle.tree_model.specs.Histories.{history, stamped_content}
use Rattle.tree_model.specs.Tree.{tree_of}
use Rattle.lawful_trace.specs.TreeRows.{granted_group}
use Rattle.steady_laws.specs.Answered.{ReadsOn}
use Rattle.steady_laws.proofs.Operation.{read_gives}
use Rattle.tree_laws.specs.Following.{IsFollowed, MayTell}
use Rattle.tree_laws.specs.Frames.{IsFresh}
use Rattle.tree_laws.specs.Instances.{Stands}
use Rattle.tree_laws.specs.Past.{ActRecord, GrantRecord, Printed, WasDone, WasGranted, WasNamed}
use Rattle.tree_laws.specs.Printed.{entries}
use Rattle.tree_laws.proofs.Histories.{content_same, stands_more}
use Rattle.store_laws.specs.OneTree.Rest.{EachRest}
use Rattle.store_laws.proofs.AnswerDone.{done_named}
use Rattle.store_laws.proofs.Places.{AreOne, GrantedSo, granted_once, instance_granted}
use Rattle.rest_laws.proofs.Readers.{ReadsVersion, With, last_stands, reader_reads}

-- the version stands, and has these bytes there
abbrev HasBytes : Config → List Line → FileId → Stamp → (at len : ℕ) → List ℕ → Type 0
HasBytes c t f s at len bytes = Stands c t f s × (bytes ≡ part (content_of (history c (entries t)) f s) at len)

-- what is read now
read_now : (c : Config) (t : List Line) → IsFollowed c t → EachRest c t → (e : EpochId) (i : Serial) (n at len : ℕ) (bytes : List ℕ) (d : CallId) (request : ℕ) (f : FileId) (s : Stamp) (ss : ℕ) →
    gives_act (history c (entries t)) (tree_of c e (granted_group (entries t) e i) (entries t)) i n (op.Read at len) (outcome.Data bytes) ≡ true → WasGranted t e d request i mode.Read f (Some s) ss → HasBytes c t f s at len bytes
read_now c t h rest e i n at len bytes d request f s ss gives was = (
  subst (λ (g : FileId). Stands c t g s) one.file_is (last_stands c t h e i x on.is_open s one.stamp_is),
  on.bytes_are ∙ ap (λ (xs : List ℕ). part xs at len) (so.content_is
      ∙ (ap (λ (o : Option Stamp). stamped_content (history c (entries t)) x.grant.file o) one.stamp_is ∙ ap (λ (g : FileId). content_of (history c (entries t)) g s) one.file_is)),
)
  where
    on : ReadsOn (tree_of c e (granted_group (entries t) e i) (entries t)) i at len bytes
    on = read_gives (history c (entries t)) (tree_of c e (granted_group (entries t) e i) (entries t)) i n at len bytes gives

    x : Instance
    x = on.on

    -- it is the one that was granted
    given : GrantedSo t e x.grant × (x.grant.inst ≡ i)
    given = instance_granted c t e i x on.is_open

    first : AreOne x.grant.call d x.grant.mode mode.Read x.grant.file f given.0.stamp (Some s) x.grant.ss ss
    first = granted_once c t h e x.grant.call d given.0.request request i x.grant.mode mode.Read x.grant.file f given.0.stamp (Some s) x.grant.ss ss
        (subst (λ (j : Serial). WasGranted t e x.grant.call given.0.request j x.grant.mode x.grant.file given.0.stamp x.grant.ss) given.1 given.0.was_granted) was

    so : ReadsVersion c t e i x
    so = reader_reads c t h rest e i x on.is_open (ap is_read first.mode_is)

    one : AreOne so.call d x.grant.mode mode.Read x.grant.file f x.work.last (Some s) so.place ss
    one = granted_once c t h e so.call d so.request request i x.grant.mode mode.Read x.grant.file f x.work.last (Some s) so.place ss so.was_granted was

module _ (c : Config) (n : ℕ) (x : Told) (older : List Line) (h : IsFollowed c older) (may : MayTell c older x) (fresh : IsFresh c older x) (rest : EachRest c older) (e : EpochId) (i : Serial) (number at len : ℕ) (bytes : List ℕ) (d : CallId) (request : ℕ) (f : FileId) (s : Stamp) (ss : ℕ) where
  -- a version keeps its bytes
  later : HasBytes c older f s at len bytes → HasBytes c (With n x older) f s at len bytes
  later k = (stands_more c n x older f s k.0, k.1 ∙ ap (λ (xs : List ℕ). part xs at len) (sym (content_same c n x older f s fresh k.0)))

  -- the read is told
  reads_told : Printed (ActRecord e i number (op.Read at len) (outcome.Data bytes)) older x → WasGranted older e d request i mode.Read f (Some s) ss → HasBytes c older f s at len bytes
  reads_told p was = over x may p
    where
      over : (z : Told) → MayTell c older z → Printed (ActRecord e i number (op.Read at len) (outcome.Data bytes)) older z → HasBytes c older f s at len bytes
      over (Shown (says.Act on inst m what gave)) k p = read_now c older h rest e i m at len bytes d request f s ss
          (subst (λ (r : Outcome). gives_act (history c (entries older)) (tree_of c e (granted_group (entries older) e i) (entries older)) i m (op.Read at len) r ≡ true) p.result_is
          (subst (λ (o : Op). gives_act (history c (entries older)) (tree_of c e (granted_group (entries older) e i) (entries older)) i m o gave ≡ true) p.operation_is
          (subst (λ (j : Serial). gives_act (history c (entries older)) (tree_of c e (granted_group (entries older) e j) (entries older)) j m what gave ≡ true) p.serial_is
          (subst (λ (y : EpochId). gives_act (history c (entries older)) (tree_of c y (granted_group (entries older) y inst) (entries older)) inst m what gave ≡ true) p.epoch_is k.row.gives)))) was
      over _ k p = absurd p

  -- no line is a read and a grant
  not_both : Printed (ActRecord e i number (op.Read at len) (outcome.Data bytes)) older x → Printed (GrantRecord e d request i mode.Read f (Some s) ss) older x → ⊥
  not_both p q = over x p q
    where
      over : (z : Told) → Printed (ActRecord e i number (op.Read at len) (outcome.Data bytes)) older z → Printed (GrantRecord e d request i mode.Read f (Some s) ss) older z → ⊥
      over (Shown (says.Act on inst m what gave)) p q = q
      over _ p q = absurd p

  -- nothing was done of what is granted now
  not_new : WasDone older e i number (op.Read at len) (outcome.Data bytes) → Printed (GrantRecord e d request i mode.Read f (Some s) ss) older x → ⊥
  not_new done q = over x may q
    where
      over : (z : Told) → MayTell c older z → Printed (GrantRecord e d request i mode.Read f (Some s) ss) older z → ⊥
      over (Shown (says.Grant on call m inst how file stamp place)) k q = k.in_time.new (subst (λ (y : EpochId). WasNamed older y inst) (sym q.epoch_is) (subst (WasNamed older e) (sym q.serial_is) (done_named c older h e i number (op.Read at len) (outcome.Data bytes) done)))
      over _ k q = absurd q

pub gave_bytes : (c : Config) (t : List Line) → IsFollowed c t → EachRest c t → (e : EpochId) (i : Serial) (n at len : ℕ) (bytes : List ℕ) (d : CallId) (request : ℕ) (f : FileId) (s : Stamp) (ss : ℕ) →
    WasDone t e i n (op.Read at len) (outcome.Data bytes) → WasGranted t e d request i mode.Read f (Some s) ss → HasBytes c t f s at len bytes
gave_bytes c [] h rest e i n at len bytes d request f s ss done was = absurd done
gave_bytes c (y ∷ older) h rest e i n at len bytes d request f s ss (inl p) (inl q) = absurd (not_both c y.number y.told older h.1 h.0 rest.0.fresh rest.1 e i n at len bytes d request f s ss p q)
gave_bytes c (y ∷ older) h rest e i n at len bytes d request f s ss (inr p) (inl q) = absurd (not_new c y.number y.told older h.1 h.0 rest.0.fresh rest.1 e i n at len bytes d request f s ss p q)
gave_bytes c (y ∷ older) h rest e i n at len bytes d request f s ss (inl p) (inr was) = later c y.number y.told older h.1 h.0 rest.0.fresh rest.1 e i n at len bytes d request f s ss (reads_told c y.number y.told older h.1 h.0 rest.0.fresh rest.1 e i n at len bytes d request f s ss p was)
gave_bytes c (y ∷ older) h rest e i n at len bytes d request f s ss (inr p) (inr was) = later c y.number y.told older h.1 h.0 rest.0.fresh rest.1 e i n at len bytes d request f s ss (gave_bytes c older h.1 rest.1 e i n at len bytes d request f s ss p was)
