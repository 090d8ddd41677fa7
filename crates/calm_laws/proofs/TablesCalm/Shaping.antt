-- Each handler of a synchronization site keeps the shape of its table, where it comes from a member and what it tells is named.
use Rattle.std.proofs.Common.{◌≡◌, ℕ, ◌==◌, ◌⊎◌, Bool, true, false, ◌&&◌, cond, List, [], ◌∷◌, ◌++◌, map, filter, Option, Some, None, refl, sym, ◌∙◌, subst, inl, inr, arith}
use Rattle.std.proofs.lemmas.Bool.Decides.{nat_tests}
use Rattle.std.specs.List.{list_any}
use Rattle.role_steps.proofs.of_plain_facts.Tests.{and_second}
use Rattle.locus_ids.specs.Sites.{has, both}
use Rattle.locus_ids.specs.declared.config.Config.{Config}
use Rattle.locus_ids.specs.declared.ids.EpochId.{EpochId}
use Rattle.locus_ids.specs.declared.ids.FileId.{FileId}
use Rattle.locus_ids.specs.declared.ids.Kind.{Kind}
use Rattle.locus_ids.specs.declared.ids.Mode.{Mode}
use Rattle.locus_ids.specs.declared.ids.Mode.TheVariants as mode
use Rattle.locus_ids.specs.declared.ids.Serial.{Serial}
use Rattle.locus_ids.specs.declared.ids.Stamp.{Stamp}
use Rattle.locus_ids.specs.declared.refusal.Refusal.{Refusal}
use Rattle.locus_ids.specs.declared.sites.Sites.{Sites}
use Rattle.commit_graph.specs.Grants.{grant_refusal}
use Rattle.commit_graph.specs.Versions.{same_stamp}
use Rattle.trace_book.specs.declared.operation.What.{What}
use Rattle.trace_book.specs.declared.operation.What.TheVariants as what
use Rattle.trace_book.specs.declared.record.Record.{Record}
use Rattle.trace_book.specs.declared.record.Record.TheVariants as says
use Rattle.wire_messages.specs.declared.body.Body.{Body}
use Rattle.wire_messages.specs.declared.body.Body.TheVariants as body
use Rattle.wire_messages.specs.declared.body.MadeVersion.{MadeVersion}
use Rattle.wire_messages.specs.declared.body.OpenedAs.{OpenedAs}
use Rattle.wire_messages.specs.declared.body.OpenedAs.TheVariants as opened
use Rattle.wire_messages.specs.declared.body.Opening.{Opening}
use Rattle.wire_messages.specs.declared.body.Opening.TheVariants as how
use Rattle.wire_messages.specs.declared.body.ReportedCopy.{ReportedCopy}
use Rattle.role_steps.specs.Epochs.{frame_in}
use Rattle.role_steps.specs.Looks.{LookRequest, Letter, Service, Denies as Unserved, Serves, service, service_on, served_by, only_kept, whole_kept, letter, serving_letter, last_look, is_look_before, is_same_look, new_look, after_last, takes_look, look_key}
use Rattle.role_steps.specs.Opens.{OpenRequest, Decision, Denies, Grants, decision, make_at, file_decision, unless_refused, grant_on, plain_decision, plain_at, resolve_from, is_stamp_among, decides, denied_row, asked_row, granted_row, numbered_file, granted_at_once, granted_at_last, on_open_of, takes_open, mode_of, openers, open_key, open_row, with_open, answers_open, by_stage, on_opened_of, on_opened}
use Rattle.role_steps.specs.Own.{Every}
use Rattle.role_steps.specs.Reports.{is_early_of, waits_early, on_open, on_look, takes_early, takes_all_early, starts, starts_if, have_all_reported, with_reported, with_all_reported, with_report, version_reported, on_report, published, published_row, closes_at, on_closed_of, on_closed, on_have_of}
use Rattle.role_steps.specs.Tables.{row}
use Rattle.role_steps.specs.Versions.{file_row, row_ino, known_or, unknown_file, with_version, with_holder, noted, noted_of, noted_at, rises_to, version_of, holding_of, holding_site, holders_of, chosen_site, kept, stamps_of}
use Rattle.role_steps.specs.Views.{Frame, Told, Shown, Outcome, quiet, sends, and_then, packet, is_member, members_of, pack_sites, all_sites, process_key}
use Rattle.role_steps.specs.declared.rounds.InEpoch.{InEpoch}
use Rattle.role_steps.specs.declared.synchronizing.Early.{Early}
use Rattle.role_steps.specs.declared.synchronizing.FileRow.{FileRow}
use Rattle.role_steps.specs.declared.synchronizing.Holding.{Holding}
use Rattle.role_steps.specs.declared.synchronizing.LastLook.{LastLook}
use Rattle.role_steps.specs.declared.synchronizing.OpenRow.{OpenRow}
use Rattle.role_steps.specs.declared.synchronizing.OpenStage.{OpenStage}
use Rattle.role_steps.specs.declared.synchronizing.OpenStage.TheVariants as stage
use Rattle.role_steps.specs.declared.synchronizing.SyncTable.{SyncTable}
use Rattle.role_steps.specs.declared.synchronizing.VersionRow.{VersionRow}
use Rattle.role_steps.proofs.Sending.{every_append}
use Rattle.the_run.proofs.InsideSync.{Found, every_row, row_found}
use Rattle.site_laws.proofs.Vectors.SyncFacts.{every_latest}
use Rattle.site_laws.proofs.Packs.Sets.{chosen, every_filter, passing}
use Rattle.calm_laws.specs.TablesCalm.Shapes.{IsListed, IsRequestOf, IsRequest, IsStat, AnswersLast, IsAnswered, HoldsListed, FileListed, IsMaking, RowShape, TableShape}

-- ---- what is told is named ----

abbrev pub TellsRecord : (EpochId → ℕ → Serial → Type 0) → Record → Type 0
TellsRecord named (says.Grant at call number inst m file stamp ss) = named at file.group inst
TellsRecord named (says.Refuse at call number inst m file why) = named at file.group inst
TellsRecord named _ = Unit {0}

abbrev pub TellsNamed : (EpochId → ℕ → Serial → Type 0) → Told → Type 0
TellsNamed named (Shown r) = TellsRecord named r
TellsNamed named _ = Unit {0}

pub every_left : {A : Type 0} (P : A → Type 0) (xs ys : List A) → Every P (xs ++ ys) → Every P xs
every_left P [] ys h = tt
every_left P (x ∷ xs) ys h = (h.0, every_left P xs ys h.1)

pub every_right : {A : Type 0} (P : A → Type 0) (xs ys : List A) → Every P (xs ++ ys) → Every P ys
every_right P [] ys h = h
every_right P (x ∷ xs) ys h = every_right P xs ys h.1

refused_asked : (why : Refusal) → stage.Refused why ≡ stage.Asked → ⊥
refused_asked why e = cc

granted_asked : stage.Granted ≡ stage.Asked → ⊥
granted_asked e = cc

ended_asked : stage.Ended ≡ stage.Asked → ⊥
ended_asked e = cc

-- who is in the list by the test is listed
pub member_listed : (e : InEpoch) (s : ℕ) → is_member e.members s ≡ true → IsListed e s
member_listed e s h z = grind (arith, nat_tests)

module _ (c : Config) (me boot : ℕ) (e : InEpoch) (named : EpochId → ℕ → Serial → Type 0) (came : EpochId → ℕ → Body → Type 0) where
  abbrev f : Frame
  f = frame_in c me boot e

  abbrev Shape : SyncTable → Type 0
  Shape t = TableShape c me e named came t

  abbrev Row : ℕ → OpenRow → Type 0
  Row group r = RowShape e (named e.id group) group r

  abbrev Tells : List Told → Type 0
  Tells told = Every (TellsNamed named) told

  -- the group stays, and so does the shape
  pub record Keeps (t : SyncTable) (o : Outcome SyncTable) : Type 0 where
    pub group : o.view.group ≡ t.group
    pub shape : Tells o.told → Shape t → Shape o.view

  still : (t : SyncTable) → Keeps t (quiet t)
  still t = record { group = refl; shape = λ told k. k }

  pub with_row_shape : (r : OpenRow) (t : SyncTable) → Shape t → Row t.group r → Shape (with_open r t)
  with_row_shape r t k h = record { synced = k.synced; own = k.own; early = k.early; looks = k.looks; holders = k.holders; opens = every_latest (Row t.group) open_key r t.opens h k.opens }

  -- ---- who is chosen ----

  holder_sites : (hs : List Holding) → Every (HoldsListed e) hs → Every (IsListed e) (map holding_site hs)
  holder_sites [] h = tt
  holder_sites (x ∷ xs) h = (h.0, holder_sites xs h.1)

  pub holders_listed : (r : FileRow) (stamp : Stamp) → FileListed e r → Every (IsListed e) (holders_of r stamp)
  holders_listed r stamp h = holder_sites (filter (λ (x : Holding). same_stamp x.stamp stamp) r.holders) (every_filter (HoldsListed e) (λ (x : Holding). same_stamp x.stamp stamp) r.holders h)

  members_listed : (set : Sites) → Every (IsListed e) (members_of e.members set)
  members_listed set = passing (IsListed e) (λ s. has set s && is_member e.members s) all_sites (λ s h. member_listed e s (and_second (has set s) (is_member e.members s) h))

  -- ---- a decision ----

  abbrev pub Placed : Decision → Type 0
  Placed (Denies why) = Unit {0}
  Placed (Grants ss stamp vector parents set k) = IsListed e ss

  placed_if : (b : Bool) (d : Decision) (why : Refusal) → Placed d → Placed (cond b d (Denies why))
  placed_if true d why h = h
  placed_if false d why h = tt

  make_placed : (set : Sites) (k : Kind) (o : Option ℕ) → Found (IsListed e) o → Placed (make_at set k o)
  make_placed set k None h = tt
  make_placed set k (Some ss) h = h

  plain_placed : (r : FileRow) (v : VersionRow) (o : Option ℕ) → Found (IsListed e) o → Placed (plain_at r v o)
  plain_placed r v None h = tt
  plain_placed r v (Some ss) h = h

  decided_plain : (us : ℕ) (r : FileRow) (vs : List VersionRow) → FileListed e r → Placed (plain_decision f us r vs)
  decided_plain us r [] h = tt
  decided_plain us r (v ∷ others) h = plain_placed r v (chosen_site us me (holders_of r v.stamp)) (chosen (IsListed e) us me (holders_of r v.stamp) (holders_listed r v.stamp h))

  resolve_placed : (r : FileRow) (vs : List VersionRow) (o : Option Holding) → Found (HoldsListed e) o → Placed (resolve_from r vs o)
  resolve_placed r vs None h = tt
  resolve_placed r vs (Some x) h = placed_if (is_stamp_among x.stamp (stamps_of vs)) (Grants x.site (Some x.stamp) _ (stamps_of vs) r.set r.kind) _ h

  granted_placed : (us : ℕ) (r : FileRow) (vs : List VersionRow) (q : Opening) → IsListed e me → FileListed e r → Placed (grant_on f us r vs q)
  granted_placed us r vs how.Read own h = decided_plain us r vs h
  granted_placed us r vs how.Write own h = decided_plain us r vs h
  granted_placed us r vs (how.Resolve site) own h = resolve_placed r vs (holding_of r site) (row_found (HoldsListed e) holding_site site r.holders h)
  granted_placed us r vs how.Mend own h = own
  granted_placed us r vs (how.Make set k) own h = tt

  refusal_placed : (us : ℕ) (o : OpenRequest) (known : Option FileRow) (why : Option Refusal) → IsListed e me → Found (FileListed e) known → Placed (unless_refused f us o known why)
  refusal_placed us o known (Some why) own h = tt
  refusal_placed us o None None own h = tt
  refusal_placed us o (Some r) None own h = granted_placed us r (kept (Some r)) o.how own h

  file_placed : (t : SyncTable) (us : ℕ) (o : OpenRequest) → Shape t → Placed (file_decision f t us o)
  file_placed t us o k = refusal_placed us o (file_row t o.file.ino) (grant_refusal (mode_of o.how) (openers t o.file) (stamps_of (kept (file_row t o.file.ino)))) k.own (row_found (FileListed e) row_ino o.file.ino t.files k.holders)

  pub decision_placed : (t : SyncTable) (us : ℕ) (o : OpenRequest) (q : Opening) → Shape t → Placed (decision f t us o q)
  decision_placed t us o (how.Make set k) h = placed_if ((both set (pack_sites c t.group)).0 == set.0) (make_at set k (chosen_site us me (members_of e.members set))) _ (make_placed set k (chosen_site us me (members_of e.members set)) (chosen (IsListed e) us me (members_of e.members set) (members_listed set)))
  decision_placed t us o _ h = file_placed t us o h

  -- ---- an open ----

  denied_shape : (us : ℕ) (o : OpenRequest) (why : Refusal) (group : ℕ) → o.file.group ≡ group → named e.id o.file.group (denied_row us o why).inst → Row group (denied_row us o why)
  denied_shape us o why group same n = record { group_is = same; asked = λ z. absurd (refused_asked why z); was_named = inr (subst (λ (g : ℕ). named e.id g (denied_row us o why).inst) same n) }

  -- a make is named once it has its number
  named_at_once : (r : OpenRow) (group : ℕ) → r.file.group ≡ group → r.stage ≡ stage.Asked → (m : Mode) → r.mode ≡ m → Tells (granted_at_once f r m) → IsMaking r ⊎ named e.id group r.inst
  named_at_once r group same at mode.Make is h = inl (at, is)
  named_at_once r group same at mode.Read is h = inr (subst (λ (g : ℕ). named e.id g r.inst) same h.0)
  named_at_once r group same at mode.Write is h = inr (subst (λ (g : ℕ). named e.id g r.inst) same h.0)
  named_at_once r group same at mode.Resolve is h = inr (subst (λ (g : ℕ). named e.id g r.inst) same h.0)
  named_at_once r group same at mode.Mend is h = inr (subst (λ (g : ℕ). named e.id g r.inst) same h.0)

  decides_keeps : (t : SyncTable) (us : ℕ) (o : OpenRequest) (d : Decision) → o.file.group ≡ t.group → (Shape t → Placed d) → Keeps t (decides f t us o d)
  decides_keeps t us o (Denies why) same p = record { group = refl; shape = λ told k. with_row_shape (denied_row us o why) t k (denied_shape us o why t.group same told.0) }
  decides_keeps t us o (Grants ss stamp vector parents set k) same p = record {
    group = refl;
    shape = λ told h. with_row_shape r t h (record { group_is = same; asked = λ z. p h; was_named = named_at_once r t.group same refl r.mode refl told });
  }
    where
      r : OpenRow
      r = asked_row us o ss stamp vector parents set k

  open_of_keeps : (t : SyncTable) (us : ℕ) (o : OpenRequest) (r : Option OpenRow) → o.file.group ≡ t.group → Keeps t (on_open_of f t us o r)
  open_of_keeps t us o None same = decides_keeps t us o (decision f t us o o.how) same (λ k. decision_placed t us o o.how k)
  open_of_keeps t us o (Some r) same = record { group = refl; shape = λ told k. k }

  pub takes_open_keeps : (us : ℕ) (o : OpenRequest) (t : SyncTable) → o.file.group ≡ t.group → Keeps t (takes_open f us o t)
  takes_open_keeps us o t same = open_of_keeps t us o (open_row t (record { us = us; serial = o.serial })) same

  -- ---- a look ----

  abbrev Served : Service → Type 0
  Served (Unserved why) = Unit {0}
  Served (Serves v site) = IsListed e site

  served_listed : (v : VersionRow) (o : Option ℕ) → Found (IsListed e) o → Served (served_by v o)
  served_listed v None h = tt
  served_listed v (Some site) h = h

  only_listed : (us : ℕ) (r : FileRow) (vs : List VersionRow) → FileListed e r → Served (only_kept f us r vs)
  only_listed us r [] h = tt
  only_listed us r (v ∷ []) h = served_listed v (chosen_site us me (holders_of r v.stamp)) (chosen (IsListed e) us me (holders_of r v.stamp) (holders_listed r v.stamp h))
  only_listed us r (v ∷ x ∷ vs) h = tt

  whole_listed : (r : FileRow) (stamp : Stamp) (vs : List VersionRow) → FileListed e r → Served (whole_kept f r stamp vs)
  whole_listed r stamp [] h = tt
  whole_listed r stamp (v ∷ vs) h = over (same_stamp v.stamp stamp) (whole_listed r stamp vs h)
    where
      over : (b : Bool) → Served (whole_kept f r stamp vs) → Served (elim b [ true ↦ served_by v (chosen_site me me (holders_of r stamp)) | false ↦ whole_kept f r stamp vs ])
      over true k = served_listed v (chosen_site me me (holders_of r stamp)) (chosen (IsListed e) me me (holders_of r stamp) (holders_listed r stamp h))
      over false k = k

  service_listed : (us : ℕ) (r : FileRow) (w : What) → FileListed e r → Served (service_on f us r w)
  service_listed us r (what.Whole stamp) h = whole_listed r stamp r.kept h
  service_listed us r (what.Name component) h = only_listed us r r.kept h
  service_listed us r what.List h = only_listed us r r.kept h
  service_listed us r what.Stat h = only_listed us r r.kept h

  abbrev Kept : ℕ → LookRequest → Letter → Type 0
  Kept us l a = AnswersLast e (last_look us l a) a.body

  abbrev look_of : LookRequest → Body
  look_of l = body.Look l.call l.process l.request l.take l.file l.what

  serving_kept : (us : ℕ) (l : LookRequest) (r : FileRow) (v : VersionRow) (site : ℕ) (w : What) → l.what ≡ w → IsListed e site → Kept us l (serving_letter us l r v site w)
  serving_kept us l r v site what.Stat is h = (refl, refl, refl, refl, tt)
  serving_kept us l r v site (what.Name component) is h = (h, refl, refl, refl, refl, refl, λ s. subst IsStat is s)
  serving_kept us l r v site what.List is h = (h, refl, refl, refl, refl, refl, λ s. subst IsStat is s)
  serving_kept us l r v site (what.Whole stamp) is h = (h, refl, refl, refl, refl, refl, λ s. subst IsStat is s)

  letter_kept : (us : ℕ) (l : LookRequest) (known : Option FileRow) (s : Service) → Served s → Kept us l (letter us l known s)
  letter_kept us l known (Unserved why) h = (refl, refl, refl, refl, tt)
  letter_kept us l None (Serves v site) h = (refl, refl, refl, refl, tt)
  letter_kept us l (Some r) (Serves v site) h = serving_kept us l r v site l.what refl h

  serves_listed : (us : ℕ) (w : What) (known : Option FileRow) → Found (FileListed e) known → Served (service f us w known)
  serves_listed us w None h = tt
  serves_listed us w (Some r) h = service_listed us r w h

  new_look_keeps : (us : ℕ) (l : LookRequest) (t : SyncTable) → came e.id us (look_of l) → Keeps t (new_look f us l (file_row t l.file.ino) t)
  new_look_keeps us l t sent = record {
    group = refl;
    shape = λ told k. record {
      synced = k.synced;
      own = k.own;
      early = k.early;
      looks = every_row (IsAnswered e came) look_key (last_look us l (letter us l known s)) t.looks (letter_kept us l known s (serves_listed us l.what known (row_found (FileListed e) row_ino l.file.ino t.files k.holders)), l.file, l.what, sent) k.looks;
      holders = k.holders;
      opens = k.opens;
    };
  }
    where
      known : Option FileRow
      known = file_row t l.file.ino

      s : Service
      s = service f us l.what known

  last_keeps : (us : ℕ) (l : LookRequest) (o : Option LastLook) (t : SyncTable) → came e.id us (look_of l) → Keeps t (after_last f us l o t)
  last_keeps us l None t sent = new_look_keeps us l t sent
  last_keeps us l (Some last) t sent =
      elim (is_look_before l last) as (λ b. Keeps t (elim b [ true ↦ quiet t | false ↦ elim (is_same_look l last) [ true ↦ sends (packet f last.to last.body ∷ []) t | false ↦ new_look f us l (file_row t l.file.ino) t ] ])) [
        | true ↦ still t
        | false ↦ elim (is_same_look l last) as (λ b. Keeps t (elim b [ true ↦ sends (packet f last.to last.body ∷ []) t | false ↦ new_look f us l (file_row t l.file.ino) t ])) [
          | true ↦ record { group = refl; shape = λ told k. k }
          | false ↦ new_look_keeps us l t sent
        ]
      ]

  pub takes_look_keeps : (us : ℕ) (l : LookRequest) (t : SyncTable) → came e.id us (look_of l) → Keeps t (takes_look f us l t)
  takes_look_keeps us l t sent = last_keeps us l (row look_key (process_key us l.process) t.looks) t sent

  -- ---- before the start ----

  waits_keeps : (site process : ℕ) (b : Body) (t : SyncTable) → IsRequestOf t.group process b → came e.id site b → Keeps t (quiet (waits_early site process b t))
  waits_keeps site process b t h sent = over (list_any (is_early_of site process) t.early)
    where
      over : (x : Bool) → Keeps t (quiet (cond x t (record t { early = t.early ++ record { site = site; process = process; body = b } ∷ [] })))
      over true = still t
      over false = record {
        group = refl;
        shape = λ told k. record {
          synced = k.synced;
          own = k.own;
          early = every_append (IsRequest e came t.group) t.early (record { site = site; process = process; body = b } ∷ []) k.early ((h, sent), tt);
          looks = k.looks;
          holders = k.holders;
          opens = k.opens;
        };
      }

  pub open_keeps : (us : ℕ) (o : OpenRequest) (t : SyncTable) → o.file.group ≡ t.group → came e.id us (body.Open o.serial o.call o.process o.request o.file o.how) → Keeps t (on_open f us o t)
  open_keeps us o t same sent =
      elim t.started as (λ b. Keeps t (elim b [ true ↦ takes_open f us o t | false ↦ quiet (waits_early us o.process (body.Open o.serial o.call o.process o.request o.file o.how) t) ])) [
        | true ↦ takes_open_keeps us o t same
        | false ↦ waits_keeps us o.process (body.Open o.serial o.call o.process o.request o.file o.how) t (refl, same) sent
      ]

  pub look_keeps : (us : ℕ) (l : LookRequest) (t : SyncTable) → l.file.group ≡ t.group → came e.id us (look_of l) → Keeps t (on_look f us l t)
  look_keeps us l t same sent =
      elim t.started as (λ b. Keeps t (elim b [ true ↦ takes_look f us l t | false ↦ quiet (waits_early us l.process (body.Look l.call l.process l.request l.take l.file l.what) t) ])) [
        | true ↦ takes_look_keeps us l t sent
        | false ↦ waits_keeps us l.process (body.Look l.call l.process l.request l.take l.file l.what) t (refl, same) sent
      ]

  pub early_keeps : (us process : ℕ) (b : Body) (t : SyncTable) → IsRequestOf t.group process b → came e.id us b → Keeps t (takes_early f us b t)
  early_keeps us process (body.Open serial call who request file q) t h sent = takes_open_keeps us (record { serial = serial; call = call; process = who; request = request; file = file; how = q }) t h.1
  early_keeps us process (body.Look call who request take file w) t h sent = takes_look_keeps us (record { call = call; process = who; request = request; take = take; file = file; what = w }) t sent
  early_keeps us process _ t h sent = absurd h

  then_keeps : (t : SyncTable) (o : Outcome SyncTable) (g : SyncTable → Outcome SyncTable) → Keeps t o → Keeps o.view (g o.view) → Keeps t (and_then o g)
  then_keeps t o g a b = record { group = b.group ∙ a.group; shape = λ told k. b.shape (every_right (TellsNamed named) o.told (g o.view).told told) (a.shape (every_left (TellsNamed named) o.told (g o.view).told told) k) }

  pub all_early_keeps : (es : List Early) (t : SyncTable) → Every (IsRequest e came t.group) es → Keeps t (takes_all_early f es t)
  all_early_keeps [] t h = still t
  all_early_keeps (x ∷ xs) t h = (let one : Keeps t (takes_early f x.site x.body t) = early_keeps x.site x.process x.body t h.0.0 h.0.1 in
      then_keeps t (takes_early f x.site x.body t) (takes_all_early f xs) one (all_early_keeps xs (takes_early f x.site x.body t).view (subst (λ (g : ℕ). Every (IsRequest e came g) xs) (sym one.group) h.1)))

  -- ---- reports ----

  begun : (t : SyncTable) → Shape t → Shape (record t { started = true; early = [] })
  begun t k = record { synced = k.synced; own = k.own; early = tt; looks = k.looks; holders = k.holders; opens = k.opens }

  starts_shape : (t : SyncTable) → Shape t → Tells (starts f t).told → Shape (starts f t).view
  starts_shape t k told = (all_early_keeps t.early (record t { started = true; early = [] }) k.early).shape told.1 (begun t k)

  starts_if_shape : (t : SyncTable) → Shape t → Tells (starts_if f t).told → Shape (starts_if f t).view
  starts_if_shape t k = over (have_all_reported f t)
    where
      over : (b : Bool) → Tells (elim b as (λ (z : Bool). Outcome SyncTable) [ true ↦ starts f t | false ↦ quiet t ]).told → Shape (elim b as (λ (z : Bool). Outcome SyncTable) [ true ↦ starts f t | false ↦ quiet t ]).view
      over true told = starts_shape t k told
      over false told = k

  known_listed : (ino : ℕ) (k : Kind) (set : Sites) (o : Option FileRow) → Found (FileListed e) o → FileListed e (known_or (unknown_file ino k set) o)
  known_listed ino k set None h = tt
  known_listed ino k set (Some r) h = h

  held_listed : (site : ℕ) (stamp : Stamp) (r : FileRow) → IsListed e site → FileListed e r → FileListed e (with_holder site stamp r)
  held_listed site stamp r member h = every_row (HoldsListed e) holding_site (record { site = site; stamp = stamp }) r.holders member h

  reported_shape : (from : ℕ) (x : ReportedCopy) (t : SyncTable) → IsListed e from → Shape t → Shape (with_reported from x t)
  reported_shape from x t member k = record {
    synced = k.synced;
    own = k.own;
    early = k.early;
    looks = k.looks;
    holders = every_row (FileListed e) row_ino (with_holder from x.stamp (with_version (version_reported x) (known_or (unknown_file x.ino x.kind x.set) (file_row t x.ino)))) t.files
        (held_listed from x.stamp (with_version (version_reported x) (known_or (unknown_file x.ino x.kind x.set) (file_row t x.ino))) member (known_listed x.ino x.kind x.set (file_row t x.ino) (row_found (FileListed e) row_ino x.ino t.files k.holders))) k.holders;
    opens = k.opens;
  }

  all_reported_shape : (from : ℕ) (xs : List ReportedCopy) (t : SyncTable) → IsListed e from → Shape t → Shape (with_all_reported from xs t)
  all_reported_shape from [] t member k = k
  all_reported_shape from (x ∷ xs) t member k = all_reported_shape from xs (with_reported from x t) member (reported_shape from x t member k)

  pub report_shape : (from : ℕ) (xs : List ReportedCopy) (t : SyncTable) → IsListed e from → Shape t → Shape (with_report from xs t)
  report_shape from xs t member k = all_reported_shape from xs (record t { reported = _ }) member (record { synced = k.synced; own = k.own; early = k.early; looks = k.looks; holders = k.holders; opens = k.opens })

  pub on_report_shape : (from : ℕ) (xs : List ReportedCopy) (t : SyncTable) → IsListed e from → Tells (on_report f from xs t).told → Shape t → Shape (on_report f from xs t).view
  on_report_shape from xs t member told k = over (has t.reported from) told
    where
      over : (b : Bool) → Tells (elim b as (λ (z : Bool). Outcome SyncTable) [ true ↦ quiet t | false ↦ starts_if f (with_report from xs t) ]).told → Shape (elim b as (λ (z : Bool). Outcome SyncTable) [ true ↦ quiet t | false ↦ starts_if f (with_report from xs t) ]).view
      over true h = k
      over false h = starts_if_shape (with_report from xs t) (report_shape from xs t member k) h

  -- ---- an answer of a storage site ----

  numbered_group : (m : Mode) (file : FileId) (ino : ℕ) → (numbered_file m file ino).group ≡ file.group
  numbered_group mode.Make file ino = refl
  numbered_group mode.Read file ino = refl
  numbered_group mode.Write file ino = refl
  numbered_group mode.Resolve file ino = refl
  numbered_group mode.Mend file ino = refl

  -- a make is named by its grant
  named_at_last : (r : OpenRow) (ino size group : ℕ) → r.file.group ≡ group → (m : Mode) → r.mode ≡ m → Tells (granted_at_last f (granted_row r ino size) m) → IsMaking r ⊎ named e.id group r.inst → named e.id group r.inst
  named_at_last r ino size group same m is h (inr n) = n
  named_at_last r ino size group same mode.Make is h (inl k) = subst (λ (g : ℕ). named e.id g r.inst) (numbered_group r.mode r.file ino ∙ same) h.0
  named_at_last r ino size group same mode.Read is h (inl k) = absurd (read_make (sym is ∙ k.1))
    where
      read_make : mode.Read ≡ mode.Make → ⊥
      read_make z = cc
  named_at_last r ino size group same mode.Write is h (inl k) = absurd (write_make (sym is ∙ k.1))
    where
      write_make : mode.Write ≡ mode.Make → ⊥
      write_make z = cc
  named_at_last r ino size group same mode.Resolve is h (inl k) = absurd (resolve_make (sym is ∙ k.1))
    where
      resolve_make : mode.Resolve ≡ mode.Make → ⊥
      resolve_make z = cc
  named_at_last r ino size group same mode.Mend is h (inl k) = absurd (mend_make (sym is ∙ k.1))
    where
      mend_make : mode.Mend ≡ mode.Make → ⊥
      mend_make z = cc

  answers_keeps : (r : OpenRow) (a : OpenedAs) (t : SyncTable) → Row t.group r → Keeps t (answers_open f r a t)
  answers_keeps r (opened.Open ino size) t h = record {
    group = refl;
    shape = λ told k. with_row_shape (granted_row r ino size) t k (record { group_is = numbered_group r.mode r.file ino ∙ h.group_is; asked = λ z. absurd (granted_asked z); was_named = inr (named_at_last r ino size t.group h.group_is r.mode refl told h.was_named) });
  }
  answers_keeps r (opened.No why) t h = record {
    group = refl;
    shape = λ told k. with_row_shape (record r { stage = stage.Refused why }) t k (record { group_is = h.group_is; asked = λ z. absurd (refused_asked why z); was_named = inr (subst (λ (g : ℕ). named e.id g r.inst) h.group_is told.0) });
  }

  stage_keeps : (r : OpenRow) (a : OpenedAs) (s : OpenStage) (t : SyncTable) → Row t.group r → Keeps t (by_stage f r a s t)
  stage_keeps r a stage.Asked t h = answers_keeps r a t h
  stage_keeps r a stage.Granted t h = still t
  stage_keeps r a (stage.Refused why) t h = still t
  stage_keeps r a stage.Ended t h = still t

  -- where the table has its shape, its row has one
  abbrev KeepsShape : SyncTable → Outcome SyncTable → Type 0
  KeepsShape t o = Tells o.told → Shape t → Shape o.view

  opened_of_keeps : (a : OpenedAs) (o : Option OpenRow) (t : SyncTable) → Found (Row t.group) o → KeepsShape t (on_opened_of f a o t)
  opened_of_keeps a None t h = λ told k. k
  opened_of_keeps a (Some r) t h = (stage_keeps r a r.stage t h).shape

  pub opened_keeps : (inst : Serial) (a : OpenedAs) (t : SyncTable) → KeepsShape t (on_opened f inst a t)
  opened_keeps inst a t told k = opened_of_keeps a (open_row t inst) t (row_found (Row t.group) open_key _ t.opens k.opens) told k

  -- ---- a close ----

  noted_at_listed : (r : FileRow) (site : ℕ) (v : VersionRow) (o : Option Holding) → IsListed e site → FileListed e r → FileListed e (noted_at r site v o)
  noted_at_listed r site v None member h = held_listed site v.stamp r member h
  noted_at_listed r site v (Some x) member h = over (rises_to v (version_of r x.stamp))
    where
      over : (b : Bool) → FileListed e (cond b (with_holder site v.stamp r) r)
      over true = held_listed site v.stamp r member h
      over false = h

  noted_of_listed : (r : FileRow) (site : ℕ) (o : Option VersionRow) → IsListed e site → FileListed e r → FileListed e (noted_of r site o)
  noted_of_listed r site None member h = h
  noted_of_listed r site (Some v) member h = noted_at_listed r site v (holding_of r site) member h

  noted_listed : (site : ℕ) (stamp : Stamp) (r : FileRow) → IsListed e site → FileListed e r → FileListed e (noted site stamp r)
  noted_listed site stamp r member h = noted_of_listed r site (version_of r stamp) member h

  published_shape : (ss : ℕ) (r : OpenRow) (made : Option MadeVersion) (t : SyncTable) → IsListed e ss → Shape t → Shape (published ss r made t)
  published_shape ss r None t member k = k
  published_shape ss r (Some v) t member k = record {
    synced = k.synced;
    own = k.own;
    early = k.early;
    looks = k.looks;
    holders = every_row (FileListed e) row_ino (published_row ss r v (file_row t r.file.ino)) t.files
        (noted_listed ss v.stamp (with_version (record { stamp = v.stamp; vector = v.vector; size = v.size }) (known_or (unknown_file r.file.ino r.kind r.set) (file_row t r.file.ino))) member (known_listed r.file.ino r.kind r.set (file_row t r.file.ino) (row_found (FileListed e) row_ino r.file.ino t.files k.holders))) k.holders;
    opens = k.opens;
  }

  ended_named : (r : OpenRow) (group : ℕ) → r.stage ≡ stage.Granted → IsMaking r ⊎ named e.id group r.inst → named e.id group r.inst
  ended_named r group is (inl k) = absurd (granted_asked (sym is ∙ k.0))
  ended_named r group is (inr n) = n

  closes_keeps : (ss : ℕ) (r : OpenRow) (made : Option MadeVersion) (s : OpenStage) (t : SyncTable) → r.stage ≡ s → IsListed e ss → Row t.group r → KeepsShape t (closes_at f ss r made s t)
  closes_keeps ss r made stage.Asked t is member h = λ told k. k
  closes_keeps ss r made (stage.Refused why) t is member h = λ told k. k
  closes_keeps ss r made stage.Ended t is member h = λ told k. k
  closes_keeps ss r made stage.Granted t is member h = λ told k. published_shape ss r made (with_open (record r { stage = stage.Ended }) t) member
      (with_row_shape (record r { stage = stage.Ended }) t k (record { group_is = h.group_is; asked = λ z. absurd (ended_asked z); was_named = inr (ended_named r t.group is h.was_named) }))

  closed_of_keeps : (ss : ℕ) (made : Option MadeVersion) (o : Option OpenRow) (t : SyncTable) → IsListed e ss → Found (Row t.group) o → KeepsShape t (on_closed_of f ss made o t)
  closed_of_keeps ss made None t member h = λ told k. k
  closed_of_keeps ss made (Some r) t member h = closes_keeps ss r made r.stage t refl member h

  pub closed_keeps : (ss : ℕ) (inst : Serial) (made : Option MadeVersion) (t : SyncTable) → IsListed e ss → KeepsShape t (on_closed f ss inst made t)
  closed_keeps ss inst made t member told k = closed_of_keeps ss made (open_row t inst) t member (row_found (Row t.group) open_key _ t.opens k.opens) told k

  -- ---- what a member tells that it holds ----

  have_of_shape : (from : ℕ) (stamp : Stamp) (o : Option FileRow) (t : SyncTable) → IsListed e from → Found (FileListed e) o → Shape t → Shape (on_have_of from stamp o t)
  have_of_shape from stamp None t member h k = k
  have_of_shape from stamp (Some r) t member h k = record { synced = k.synced; own = k.own; early = k.early; looks = k.looks; holders = every_row (FileListed e) row_ino (noted from stamp r) t.files (noted_listed from stamp r member h) k.holders; opens = k.opens }

  pub have_shape : (from : ℕ) (file : FileId) (stamp : Stamp) (t : SyncTable) → IsListed e from → Shape t → Shape (on_have_of from stamp (file_row t file.ino) t)
  have_shape from file stamp t member k = have_of_shape from stamp (file_row t file.ino) t member (row_found (FileListed e) row_ino file.ino t.files k.holders) k
